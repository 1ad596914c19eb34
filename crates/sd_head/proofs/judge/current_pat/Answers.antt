use Rattle.std.proofs.Common.{◌≡◌, ◌==◌, ◌&&◌, ◌-◌, ℕ, List, length, true, false, refl, sym, ◌∙◌, ap, arith}
use Rattle.std.proofs.lemmas.Bool.Decides.{nat_tests}
use Rattle.sd_packet.specs.Header.{pid_of, has_payload, payload_start_of}
use Rattle.sd_section.specs.Header.{current_of}
use Rattle.sd_head.proofs.Marking.{no_pat, good_pat, later_pat, now_pat}
use Rattle.sd_head.proofs.judge.current_pat.Goals.{then-pid-ne0-via-then-pid-ne0}
use Rattle.sd_head.proofs.judge.current_pat.Goals.{then-pid-ne0-via-else-pid-ne0+then-is_empty}
use Rattle.sd_head.proofs.judge.current_pat.Goals as goal

-- a payload is there where it isn't empty
some_payload : (packet : List ℕ) (n : ℕ) → n ≡ 188 - payload_start_of packet → false ≡ (n == 0)
    → has_payload packet ≡ true
some_payload packet n long some = grind (arith, nat_tests, long, some)

no_payload : (packet : List ℕ) (n : ℕ) → n ≡ 188 - payload_start_of packet → true ≡ (n == 0)
    → ((pid_of packet == 0) && has_payload packet) ≡ false
no_payload packet n long none = grind (arith, nat_tests, long, none)

later : false ≡ true → ⊥
later same = cc

pub returns-then-pid-ne0 : goal.returns-then-pid-ne0
returns-then-pid-ne0 c = elim c.then-pid-ne0.branch [
  | then-pid-ne0-via-then-pid-ne0 w ↦
      no_pat c.args.packet.now (grind (arith, nat_tests, w.if-pid-ne0.true, c.pid.ensures.value))
  | then-pid-ne0-via-else-pid-ne0+then-is_empty w ↦
      no_pat c.args.packet.now
      (no_payload c.args.packet.now (length w.payload.result.now) w.payload.ensures.length w.if-is_empty.ensures)
]

pub returns-then-current : goal.returns-then-current
returns-then-current c =
    let zero' = sym c.pid.ensures.value ∙ c.if-pid-ne0.false in
    let some = some_payload c.args.packet.now (length c.payload.result.now) c.payload.ensures.length
    c.if-is_empty.ensures in
    let now : current_of c.in_ok-pat.pat.section.bytes.now ≡ 1 = c.if-current.ensures.0 refl in (
      good_pat c.args.packet.now zero' some c.in_ok-pat.ensures.fault,
      (
        now_pat c.args.packet.now zero' some c.in_ok-pat.ensures.fault
            (ap current_of (sym c.in_ok-pat.ensures.value) ∙ now),
        c.in_ok-pat.ensures.value,
      ),
    )

pub returns-else-current : goal.returns-else-current
returns-else-current c =
    let zero' = sym c.pid.ensures.value ∙ c.if-pid-ne0.false in
    let some = some_payload c.args.packet.now (length c.payload.result.now) c.payload.ensures.length
    c.if-is_empty.ensures in (
      good_pat c.args.packet.now zero' some c.in_ok-pat.ensures.fault,
      later_pat c.args.packet.now zero' some c.in_ok-pat.ensures.fault
          (λ now. later (c.if-current.ensures.1 (ap current_of c.in_ok-pat.ensures.value ∙ now))),
    )
