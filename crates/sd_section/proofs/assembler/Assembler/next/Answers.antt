use Rattle.std.proofs.Common.{◌≡◌, ◌∙◌, sym, refl, ◌+◌, ◌≤◌, ap, List, ℕ, Some, [], arith}
use Rattle.std.specs.Prelude.{slice_range, slice_get}
use Rattle.sd_section.specs.Assembled.{cut_of, next_of}
use Rattle.sd_section.proofs.After.{part_lent, some_left, buffer_lent, only_cut_left, none_lent, room_left}
use Rattle.sd_section.proofs.After.{true_is_not_false}
use Rattle.sd_section.proofs.assembler.Assembler.next.Goals as goal

pub invariant_of-self : goal.invariant_of-self
invariant_of-self c =
    (c.self.invariant.0, c.self.invariant.1, c.self.invariant.2, c.self.invariant.3, tt)

pub returns-then-is_section : goal.returns-then-is_section
returns-then-is_section c =
    let inside = c.self.inside in
    let both = buffer_lent inside.holds inside.buffer.items
    (cut_of (slice_range inside.payload inside.at inside.end) []) inside.counter c.args.self.now
    (sym c.is_section.ensures ∙ c.if-is_section.true) c.self.view_is in
    let value : Some c.deref.result.now ≡ next_of c.args.self.now = ap (λ (l : List ℕ). Some l)
    c.deref.ensures.value ∙ both.1 in (
      (refl, (λ _. tt), both.0),
      record {
        value = value;
        none = (
          (λ h. absurd (true_is_not_false h)),
          (λ h. absurd (some_left c.args.self.now c.deref.result.now value h)),
        );
        after = tt;
      },
    )

pub returns-in_err-length : goal.returns-in_err-length
returns-in_err-length c =
    let inside = c.self.inside in
    let left =
    only_cut_left inside.holds inside.buffer.items (cut_of (slice_range inside.payload inside.at inside.end) [])
    inside.counter c.args.self.now (sym c.is_section.ensures ∙ c.if-is_section.false) c.self.view_is ∙
    ap (λ (l : List ℕ). (cut_of l []).sections) (sym c.part.ensures.value) ∙ c.in_err-length.ensures.none refl in (
      (refl, (λ _. tt), c.self.view_is ∙ none_lent c.args.self.now left),
      record {
        value = rw c.from_residual.ensures (sym (ap (λ (l : List (List ℕ)). slice_get l 0) left));
        none = ((λ _. left), (λ _. rw c.from_residual.ensures refl));
        after = tt;
      },
    )

pub invariant_of-self-2 : goal.invariant_of-self-2
invariant_of-self-2 c =
    let within : c.self.inside.at + c.in_ok-length.length ≤ c.self.inside.end =
    omega (arith, c.in_ok-length.ensures.within) in (
      c.self.invariant.0,
      c.self.invariant.1,
      within,
      c.self.invariant.3,
      room_left c.self.inside.holds _ _ _ (omega arith) c.self.invariant.4,
    )

pub returns : goal.returns
returns c =
    let inside = c.self.inside in
    let both =
    part_lent inside.holds inside.buffer.items inside.payload c.part.result.now inside.at c.in_ok-length.length
    inside.end inside.counter c.args.self.now
    (sym c.is_section.ensures ∙ c.if-is_section.false) (omega (arith, c.in_ok-length.ensures.within)) c.self.view_is
    c.part.ensures.value c.in_ok-length.ensures.some in
    let value : Some c.part-2.result.now ≡ next_of c.args.self.now = ap (λ (l : List ℕ). Some l)
    c.part-2.ensures.value ∙ both.1 in (
      (refl, (λ _. tt), both.0),
      record {
        value = value;
        none = (
          (λ h. absurd (true_is_not_false h)),
          (λ h. absurd (some_left c.args.self.now c.part-2.result.now value h)),
        );
        after = tt;
      },
    )
