use Rattle.std.proofs.Common.{◌≡◌, refl, sym, subst, ap, ◌∙◌, rules}
use Rattle.std.specs.Prelude.{Result, Ok, Err, Option, Some}
use Rattle.std.proofs.lemmas.Bool.{false≢true}
use Rattle.sd_message.specs.Framed.{section_of}
use Rattle.sd_message.specs.EcmFields.{BreaksEcmFirst}
use Rattle.sd_message.specs.EcmJudged.{ecm_read}
use Rattle.sd_message.specs.declared.ecm_part.EcmPart.{EcmPart}
use Rattle.sd_message.specs.declared.ecm_fault.EcmFault.{EcmFault}
use Rattle.sd_message.proofs.EcmReading.{IsParted, spelled_is_packet, read_is_right, breaks_first}
use Rattle.sd_message.proofs.EcmDeciding.{other_reads, broken_reads, good_at, spelled_reads}
use Rattle.sd_message.proofs.ecm_read.read_ecm.Goals as goal
use Rattle.sd_message.proofs.ecm_read.read_ecm.Goals.{After-body}

-- a part that is good and one that is broken differ, and one is broken by one fault
err_good : (read : Result (Option EcmPart) EcmFault) (fault : EcmFault) (part : EcmPart) → read ≡ Err fault →
    read ≡ Ok (Some part) → ⊥
err_good read fault part broken good = cc

good_err : (part : EcmPart) (fault : EcmFault) → ◌≡◌ {A = Result (Option EcmPart) EcmFault} (Ok (Some part)) (Err fault)
    → ⊥
good_err part fault same = cc

one_fault : (read : Result (Option EcmPart) EcmFault) (found fault : EcmFault) → read ≡ Err found → read ≡ Err fault →
    found ≡ fault
one_fault read found fault is other = cc

-- the fault that was found is answered
is_broken : (c : goal.After-from_residual) → c.from_residual.result ≡ Err c.in_err-part.field-0.0
is_broken c = search rules

-- the section is taken apart into these
are_parted : (c : After-body) → IsParted c.in-Some.section.bytes.now c.body.result.now c.table_id.result
    c.number.result c.last_number.result
are_parted c = record {
  is_table = c.table_id.ensures;
  is_number = c.number.ensures;
  is_last = c.last_number.ensures;
  is_body = c.body.ensures;
}

-- it breaks a rule, and that one first
breaks : (c : goal.After-from_residual) → BreaksEcmFirst (section_of c.args.packet.now) c.in_err-part.field-0.0
breaks c =
    breaks_first _ _ _ _ _ _ _ c.in-Some.ensures.value
    (are_parted (goal.at.returns-in_err-part-clause-value c).After-body) c.in_err-part.ensures.fault

-- it breaks none, and is read
is_good : (c : goal.In_ok-part) → ecm_read c.args.packet.now ≡ Ok (Some c.in_ok-part.part)
is_good c =
    good_at _ _ _ _ _ _ _ (c.in-Some.ensures.some.0 refl) c.in-Some.ensures.value
    (are_parted (goal.at.returns-clause-value c).After-body) c.in_ok-part.ensures.value c.in_ok-part.ensures.good

pub returns-in_default-clause-value : goal.returns-in_default-clause-value
returns-in_default-clause-value c = sym
    (other_reads c.args.packet.now (λ is. false≢true (c.in_default.ensures.some.1 is)))

pub returns-in_default-clause-complete : goal.returns-in_default-clause-complete
returns-in_default-clause-complete c = λ part fits form spells.
    absurd (false≢true (c.in_default.ensures.some.1 (spelled_is_packet part c.args.packet.now fits form spells)))

pub returns-in_err-part-clause-value : goal.returns-in_err-part-clause-value
returns-in_err-part-clause-value c =
    is_broken c
    ∙ sym (broken_reads c.args.packet.now _ (c.in-Some.ensures.some.0 refl)
    (breaks c))

pub returns-in_err-part-clause-complete : goal.returns-in_err-part-clause-complete
returns-in_err-part-clause-complete c = λ part fits form spells.
    absurd (err_good _ _ part (broken_reads c.args.packet.now _ (c.in-Some.ensures.some.0 refl)
    (breaks c))
    (spelled_reads part c.args.packet.now fits form spells))

pub returns-clause-value : goal.returns-clause-value
returns-clause-value c = sym (is_good c)

pub returns-clause-sound : goal.returns-clause-sound
returns-clause-sound c =
    read_is_right c.args.packet.now c.in-Some.section.bytes.now c.body.result.now c.table_id.result c.number.result
    c.last_number.result c.in_ok-part.part (are_parted (goal.at.returns-clause-sound c).After-body)
    c.in_ok-part.ensures.value c.in_ok-part.ensures.bytes c.in_ok-part.ensures.good c.in-Some.ensures.is
    c.in-Some.ensures.begins c.in-Some.ensures.spelled

pub returns-clause-complete : goal.returns-clause-complete
returns-clause-complete c = λ part fits form spells.
    sym (is_good c) ∙ spelled_reads part c.args.packet.now fits form spells

pub returns-in_err-part-clause-fault : goal.returns-in_err-part-clause-fault
returns-in_err-part-clause-fault c = λ fault.
    let first = breaks c in
    let is_ecm = c.in-Some.ensures.some.0 refl in (
      λ is. (
        is_ecm,
        subst (λ (f : EcmFault). BreaksEcmFirst (section_of c.args.packet.now) f)
            (one_fault c.from_residual.result _ _ (is_broken c) is) first,
      ),
      λ broken. is_broken c ∙
          ap (λ (f : EcmFault). Err f) (one_fault _ _ _ (broken_reads c.args.packet.now _ is_ecm first)
          (broken_reads c.args.packet.now fault is_ecm broken.1)),
    )

pub returns-clause-fault : goal.returns-clause-fault
returns-clause-fault c = λ fault. (
  λ wrong. absurd (good_err c.in_ok-part.part fault wrong),
  λ broken. absurd (err_good _ fault _ (broken_reads c.args.packet.now fault broken.0 broken.1) (is_good c)),
)
