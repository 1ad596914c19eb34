use Rattle.std.proofs.Common.{◌≡◌, refl, sym, subst}
use Rattle.std.proofs.lemmas.Bool.{false≢true}
use Rattle.sd_message.specs.Framed.{IsPlainHeader, HasSection, section_of}
use Rattle.sd_message.proofs.Framing.{none_there, no_section, good_there, read_there, begins_there}
use Rattle.sd_message.proofs.frame.section_in.Goals as goal

pub returns-in_err-after_pointer-clause-none : goal.returns-in_err-after_pointer-clause-none
returns-in_err-after_pointer-clause-none c =
    (none_there _ (HasSection c.args.packet.now) c.from_residual.ensures
    (λ has. false≢true (c.in_err-after_pointer.ensures.some.1 has.starts))).0

pub returns-in_err-after_pointer-clause-some : goal.returns-in_err-after_pointer-clause-some
returns-in_err-after_pointer-clause-some c =
    (none_there _ (HasSection c.args.packet.now) c.from_residual.ensures
    (λ has. false≢true (c.in_err-after_pointer.ensures.some.1 has.starts))).1

pub returns-in_err-section-clause-none : goal.returns-in_err-section-clause-none
returns-in_err-section-clause-none c =
    (none_there _ (HasSection c.args.packet.now) c.from_residual-in_err-section.ensures
    (no_section c.read_one.result _ _ c.in_ok-after_pointer.ensures.value c.read_one.ensures.fault
    c.in_err-section.ensures.variant)).0

pub returns-in_err-section-clause-some : goal.returns-in_err-section-clause-some
returns-in_err-section-clause-some c =
    (none_there _ (HasSection c.args.packet.now) c.from_residual-in_err-section.ensures
    (no_section c.read_one.result _ _ c.in_ok-after_pointer.ensures.value c.read_one.ensures.fault
    c.in_err-section.ensures.variant)).1

pub returns-then-is_plain-clause-value : goal.returns-then-is_plain-clause-value
returns-then-is_plain-clause-value c =
    read_there c.read_one.result _ _ _ c.in_ok-after_pointer.ensures.value c.read_one.ensures.value
    c.in_ok-section.ensures.value

pub returns-then-is_plain-clause-spelled : goal.returns-then-is_plain-clause-spelled
returns-then-is_plain-clause-spelled c = c.if-is_plain.ensures.spelled refl

pub returns-then-is_plain-clause-some : goal.returns-then-is_plain-clause-some
returns-then-is_plain-clause-some c =
    let has : HasSection c.args.packet.now = record {
      starts = c.in_ok-after_pointer.ensures.some.0 refl;
      good = good_there c.read_one.result _ _ c.in_ok-after_pointer.ensures.value c.read_one.ensures.fault
          c.in_ok-section.ensures.variant;
      plain = subst IsPlainHeader (returns-then-is_plain-clause-value c) (c.if-is_plain.ensures.plain.0 refl);
    } in
    (λ _. has, λ _. refl)

pub returns-then-is_plain-clause-none : goal.returns-then-is_plain-clause-none
returns-then-is_plain-clause-none c = (
  λ none. absurd (false≢true (sym none)),
  λ other. absurd (other ((returns-then-is_plain-clause-some c).0 refl)),
)

pub returns-else-is_plain-clause-none : goal.returns-else-is_plain-clause-none
returns-else-is_plain-clause-none c =
    let same : c.in_ok-section.section.bytes.now ≡ section_of c.args.packet.now =
    read_there c.read_one.result _ _ _ c.in_ok-after_pointer.ensures.value c.read_one.ensures.value
    c.in_ok-section.ensures.value in
    (λ _ has. false≢true (c.if-is_plain.ensures.plain.1 (subst IsPlainHeader (sym same) has.plain)), λ _. refl)

pub returns-else-is_plain-clause-some : goal.returns-else-is_plain-clause-some
returns-else-is_plain-clause-some c = (
  λ some. absurd (false≢true some),
  λ has. absurd ((returns-else-is_plain-clause-none c).0 refl has),
)

pub returns-then-is_plain-clause-begins : goal.returns-then-is_plain-clause-begins
returns-then-is_plain-clause-begins c =
    begins_there c.in_ok-section.section.bytes.now _ (c.in_ok-after_pointer.ensures.some.0 refl)
    (returns-then-is_plain-clause-value c)
