use Rattle.std.proofs.Common.{subst, arith}
use Rattle.sd_head.specs.Follows.{IsPacketLearned}
use Rattle.sd_head.proofs.Carrying.{carried_passed, carried_pmt, carried_scrambled}
use Rattle.sd_head.proofs.Moving.{near_after}
use Rattle.sd_head.proofs.judged.Judged.carry.Goals as goal

pub returns-in-Passed : goal.returns-in-Passed
returns-in-Passed c = λ site clear before follows after number word.
    carried_passed site clear before c.args.packet.now c.in-Passed.field-0
    (subst (IsPacketLearned site clear c.args.packet.now) c.in-Passed.is follows.learned)

pub returns-in-Pmt : goal.returns-in-Pmt
returns-in-Pmt c = λ site clear before follows after number word.
    carried_pmt site clear before c.args.packet.now c.in-Pmt.carried c.in-Pmt.field-0
    (subst (IsPacketLearned site clear c.args.packet.now) c.in-Pmt.is follows.learned) after

pub scramble-requires-clause-position : goal.scramble-requires-clause-position
scramble-requires-clause-position c =
    let clear = c.requires.1 in
    let learned = subst (IsPacketLearned c.requires.0 clear c.args.packet.now) c.in-Scrambled.is c.requires.2.learned in
    omega (
      arith,
      c.requires.2.number,
      near_after clear.count c.args.packet.now clear.positions.items
          c.in-Scrambled.next learned.moves clear.positions_near,
    )

pub returns-in-Scrambled : goal.returns-in-Scrambled
returns-in-Scrambled c = λ site clear before follows after number word.
    carried_scrambled site clear before c.args.packet.now c.args.word.now c.scramble.new.packet c.in-Scrambled.next
    c.args.number c.parity.result
    (subst (IsPacketLearned site clear c.args.packet.now) c.in-Scrambled.is follows.learned) after number word
    c.parity.ensures c.scramble.ensures.value
