use Rattle.std.proofs.Common.{◌*◌, ◌-◌, length, drop, take}
use Rattle.std.proofs.lemmas.List.{take_rest}
use Rattle.sd_field.proofs.Places.{none_left, packet_is}
use Rattle.sd_field.proofs.seat.packet_at.Goals as goal

pub returns-then-i-bytes-clause-value : goal.returns-then-i-bytes-clause-value
returns-then-i-bytes-clause-value c = none_left c.args.i c.args.bytes.now c.requires.before c.if-i-bytes.true

pub returns-clause-value : goal.returns-clause-value
returns-clause-value c =
    packet_is c.args.i c.args.bytes.now
    (take (length c.args.bytes.now - 188 * c.args.i) (drop (188 * c.args.i) c.args.bytes.now)) c.in_ok-piece.piece.now
    c.new.result c.requires.before (take_rest c.args.bytes.now (188 * c.args.i)) c.in_ok-piece.ensures.cases
    c.new.ensures.none c.new.ensures.value
