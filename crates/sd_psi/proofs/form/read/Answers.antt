use Rattle.std.proofs.Common.{List, ℕ, ◌≡◌, drop, sym, subst, ap, ◌∙◌}
use Rattle.std.specs.Prelude.{Option, Some, None, IfOk, MatchResult, slice_index}
use Rattle.std.proofs.lemmas.List.{take_rest}
use Rattle.sd_section.specs.Header.{whole_of}
use Rattle.sd_psi.specs.Forms.{bytes_fault}
use Rattle.sd_psi.specs.declared.fault.FormFault.{FormFault}
use Rattle.sd_psi.proofs.Judging.{rest_short, pointed_first}
use Rattle.sd_psi.proofs.form.read.Goals as goal

pub read_bytes-requires : goal.read_bytes-requires
read_bytes-requires c = rest_short c.args.packet.now c.payload-payload.result.now c.payload-payload.ensures.length

pub returns-clause-value : goal.returns-clause-value
returns-clause-value c =
    subst (λ (bytes : List ℕ). IfOk c.read_bytes.result (λ section. section.bytes.now ≡ whole_of bytes))
    (take_rest c.payload-payload.result.now 1 ∙ ap (drop 1) c.payload-payload.ensures.value) c.read_bytes.ensures.value

pub returns-clause-fault : goal.returns-clause-fault
returns-clause-fault c =
    let first : slice_index c.payload-payload.result.now 0 ≡ 0 = c.if-payload-ne0.false in
    subst (λ (wrong : Option FormFault).
    MatchResult c.read_bytes.result (λ _. wrong ≡ None) (λ fault. wrong ≡ Some fault))
    (ap (bytes_fault c.args.table)
    (take_rest c.payload-payload.result.now 1 ∙ ap (drop 1) c.payload-payload.ensures.value)
    ∙ sym (pointed_first c.args.table c.args.packet.now (c.unit_start.ensures.0 c.if-not-unit_start.false)
    (ap (λ (xs : List ℕ). slice_index xs 0) (sym c.payload-payload.ensures.value) ∙ first)))
    c.read_bytes.ensures.fault
