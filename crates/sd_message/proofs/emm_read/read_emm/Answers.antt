use Rattle.std.proofs.Common.{◌≡◌, ◌≤◌, refl, sym, ap, subst, ◌∙◌, rules}
use Rattle.std.specs.Prelude.{Result, Ok, Err, Option, Some, None}
use Rattle.std.proofs.lemmas.Bool.{false≢true}
use Rattle.sd_message.specs.Framed.{section_of}
use Rattle.sd_message.specs.EmmFields.{BreaksEmmFirst}
use Rattle.sd_message.specs.EmmJudged.{emm_read}
use Rattle.sd_message.specs.declared.emm.Emm.{Emm}
use Rattle.sd_message.specs.declared.emm_fault.EmmFault.{EmmFault}
use Rattle.sd_message.proofs.EmmReading.{IsParted, spelled_is_packet, read_is_right}
use Rattle.sd_message.proofs.EmmDeciding.{other_reads, broken_reads, good_at, breaks_first, spelled_reads}
use Rattle.sd_message.proofs.emm_read.read_emm.Goals as goal
use Rattle.sd_message.proofs.emm_read.read_emm.Goals.{After-body}

-- a packet that is no entitlement, one that is good and one that is broken differ
none_err : (fault : EmmFault) → ◌≡◌ {A = Result (Option Emm) EmmFault} (Ok None) (Err fault) → ⊥
none_err fault same = cc

some_none : (emm : Emm) → ◌≡◌ {A = Result (Option Emm) EmmFault} (Ok (Some emm)) (Ok None) → ⊥
some_none emm same = cc

good_err : (emm : Emm) (fault : EmmFault) → ◌≡◌ {A = Result (Option Emm) EmmFault} (Ok (Some emm)) (Err fault) → ⊥
good_err emm fault same = cc

err_good : (read : Result (Option Emm) EmmFault) (fault : EmmFault) (emm : Emm) → read ≡ Err fault →
    read ≡ Ok (Some emm) → ⊥
err_good read fault emm broken good = cc

one_fault : (read : Result (Option Emm) EmmFault) (found fault : EmmFault) → read ≡ Err found → read ≡ Err fault →
    found ≡ fault
one_fault read found fault is other = cc

err_none : (read : Result (Option Emm) EmmFault) (fault : EmmFault) → read ≡ Err fault → read ≡ Ok None → ⊥
err_none read fault broken same = cc

-- the fault that was found is answered
is_broken : (c : goal.After-from_residual) → c.from_residual.result ≡ Err c.in_err-emm.field-0.0
is_broken c = search rules

-- the section is taken apart into these
are_parted : (c : After-body) → IsParted c.in-Some.section.bytes.now c.body.result.now c.is_named-named.result
    c.extension.result
are_parted c = record {
  is_name = c.is_named-named.ensures;
  is_index = c.extension.ensures;
  is_body = c.body.ensures;
}

-- it breaks a rule, and that one first
breaks : (c : goal.After-from_residual) → BreaksEmmFirst c.args.h (section_of c.args.packet.now) c.in_err-emm.field-0.0
breaks c =
    breaks_first _ _ _ _ _ _ _ c.in-Some.ensures.value
    (are_parted (goal.at.returns-in_err-emm-clause-value c).After-body) c.in_err-emm.ensures.fault

-- it breaks none, and is read
is_good : (c : goal.In_ok-emm) → emm_read c.args.h c.args.packet.now ≡ Ok (Some c.in_ok-emm.emm)
is_good c =
    good_at _ _ _ _ _ _ _ (c.in-Some.ensures.some.0 refl) c.in-Some.ensures.value
    (are_parted (goal.at.returns-clause-value c).After-body) c.in_ok-emm.ensures.value c.in_ok-emm.ensures.good

pub returns-in_default-clause-complete : goal.returns-in_default-clause-complete
returns-in_default-clause-complete c = λ emm fits form sets spells.
    let high : c.args.h ≤ 20 = search rules in
    absurd
    (false≢true (c.in_default.ensures.some.1 (spelled_is_packet c.args.h emm c.args.packet.now high fits form sets
    spells)))

pub returns-in_err-emm-clause-complete : goal.returns-in_err-emm-clause-complete
returns-in_err-emm-clause-complete c = λ emm fits form sets spells.
    let high : c.args.h ≤ 20 = search rules in
    absurd (err_good _ _ emm (broken_reads _ _ _ (c.in-Some.ensures.some.0 refl) (breaks c))
    (spelled_reads _ emm _ high fits form sets spells))

pub returns-clause-sound : goal.returns-clause-sound
returns-clause-sound c =
    read_is_right c.args.h c.args.packet.now c.in-Some.section.bytes.now c.body.result.now c.is_named-named.result
    c.extension.result c.in_ok-emm.emm c.in_ok-emm.ensures.value c.in_ok-emm.ensures.bytes c.in_ok-emm.ensures.good
    (are_parted (goal.at.returns-clause-sound c).After-body) c.in-Some.ensures.table c.in-Some.ensures.begins
    c.in-Some.ensures.spelled

pub returns-clause-complete : goal.returns-clause-complete
returns-clause-complete c = λ emm fits form sets spells.
    let high : c.args.h ≤ 20 = search rules in
    sym (is_good c) ∙ spelled_reads _ emm _ high fits form sets spells

pub returns-in_default-clause-value : goal.returns-in_default-clause-value
returns-in_default-clause-value c =
    sym (other_reads c.args.h c.args.packet.now (λ is. false≢true (c.in_default.ensures.some.1 is)))

pub returns-in_err-emm-clause-value : goal.returns-in_err-emm-clause-value
returns-in_err-emm-clause-value c =
    is_broken c ∙ sym (broken_reads _ _ _ (c.in-Some.ensures.some.0 refl) (breaks c))

pub returns-clause-value : goal.returns-clause-value
returns-clause-value c = sym (is_good c)

pub returns-in_default-clause-none : goal.returns-in_default-clause-none
returns-in_default-clause-none c = (λ same is. false≢true (c.in_default.ensures.some.1 is), λ other. refl)

pub returns-in_default-clause-fault : goal.returns-in_default-clause-fault
returns-in_default-clause-fault c fault = (
  λ same. absurd (none_err fault same),
  λ broken. absurd (false≢true (c.in_default.ensures.some.1 broken.0)),
)

pub read_body-requires : goal.read_body-requires
read_body-requires c = rw (c.body.ensures, c.is_named-named.ensures) c.in-Some.ensures.room

pub returns-in_err-emm-clause-none : goal.returns-in_err-emm-clause-none
returns-in_err-emm-clause-none c = (
  λ same. absurd (err_none c.from_residual.result c.in_err-emm.field-0.0 (is_broken c) same),
  λ other. absurd (other (c.in-Some.ensures.some.0 refl)),
)

pub returns-clause-none : goal.returns-clause-none
returns-clause-none c = (
  λ same. absurd (some_none c.in_ok-emm.emm same),
  λ other. absurd (other (c.in-Some.ensures.some.0 refl)),
)

pub returns-in_err-emm-clause-fault : goal.returns-in_err-emm-clause-fault
returns-in_err-emm-clause-fault c = λ fault.
    let is_emm = c.in-Some.ensures.some.0 refl in (
      λ is. (
        is_emm,
        subst (λ (f : EmmFault). BreaksEmmFirst c.args.h (section_of c.args.packet.now) f)
            (one_fault c.from_residual.result _ _ (is_broken c) is) (breaks c),
      ),
      λ broken. is_broken c ∙
          ap (λ (f : EmmFault). Err f) (one_fault _ _ _ (broken_reads c.args.h c.args.packet.now _ is_emm (breaks c))
          (broken_reads c.args.h c.args.packet.now fault broken.0 broken.1)),
    )

pub returns-clause-fault : goal.returns-clause-fault
returns-clause-fault c = λ fault. (
  λ wrong. absurd (good_err c.in_ok-emm.emm fault wrong),
  λ broken. absurd (err_good _ fault _ (broken_reads c.args.h c.args.packet.now fault broken.0 broken.1) (is_good c)),
)
