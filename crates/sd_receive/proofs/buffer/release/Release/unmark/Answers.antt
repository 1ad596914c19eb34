use Rattle.std.proofs.Common.{◌≡◌, true, ◌∙◌, sym}
use Rattle.sd_packet.specs.Positions.{is_placed}
use Rattle.sd_receive.specs.Writing.{segment_in, segment_of}
use Rattle.sd_receive.proofs.HoldJudging.{unmarked_after}
use Rattle.sd_receive.proofs.buffer.release.Release.unmark.Goals as goal

pub returns-then-is_placed : goal.returns-then-is_placed
unfolding segment_in segment_of
returns-then-is_placed c =
    let placed : is_placed c.args.packet.now ≡ true = sym c.is_placed.ensures ∙ c.if-is_placed.true in
    unmarked_after (segment_in c.args.self.now) c.args.packet.now c.restore_pmt.new.packet c.restore_pmt.result placed
    c.restore_pmt.ensures.value c.restore_pmt.ensures.unchanged c.restore_pmt.ensures.fault
