use Rattle.std.proofs.Common.{◌≡◌, length, sym, length-take-le, arith, rules}
use Rattle.sd_receive.proofs.Gathering.{few}
use Rattle.sd_receive.proofs.ecm.partial.positions_of.Goals as goal

pub slice_bounds-result-end : goal.slice_bounds-result-end
slice_bounds-result-end c =
    let long : length c.args.part.now.positions ≡ 13 = search rules in
    sym (length-take-le c.from.result c.args.part.now.positions
    (omega (arith, long, c.from.ensures, few c.args.part.now c.requires)))
