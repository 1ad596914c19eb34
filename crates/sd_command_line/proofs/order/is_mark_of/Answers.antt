use Rattle.std.proofs.Common.{Some, None}
use Rattle.std.proofs.lemmas.Bool.Decides.{Decides-eqb}
use Rattle.std.proofs.lemmas.Slice.Eq.{slice_eq-Decides, strip_prefix_is}
use Rattle.sd_command_line.proofs.Marks.{goes_on, begins_otherwise}
use Rattle.sd_command_line.proofs.order.is_mark_of.Goals as goal

pub returns-in-Some : goal.returns-in-Some
returns-in-Some c =
    let cut = rw (c.as_bytes.ensures.value, c.as_bytes-2.ensures.value) at c.in-Some.ensures.cases in
    goes_on c.args.name.now c.args.site.now c.in-Some.end.now c.eq.result
    (strip_prefix_is Decides-eqb c.args.name.now c.args.site.now (Some c.in-Some.end) cut)
    (slice_eq-Decides Decides-eqb _ _ _ (rw c.as_slice.ensures at c.eq.ensures))

pub returns-in-None : goal.returns-in-None
returns-in-None c =
    let cut = rw (c.as_bytes.ensures.value, c.as_bytes-2.ensures.value) at c.in-None.ensures.cases in
    begins_otherwise c.args.name.now c.args.site.now
    (strip_prefix_is Decides-eqb c.args.name.now c.args.site.now None cut)
