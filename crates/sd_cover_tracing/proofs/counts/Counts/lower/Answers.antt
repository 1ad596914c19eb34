use Rattle.std.proofs.Common.{◌≡◌, ◌<◌, ◌-◌, get_or, set, subst, rules}
use Rattle.sd_cover_tracing.specs.Tally.{Tally, tally_at, with_count}
use Rattle.sd_cover_tracing.specs.Table.{map_of}
use Rattle.sd_cover_tracing.proofs.Tables.{count_in_table, counted_within, table_written, lowered_map}
use Rattle.sd_cover_tracing.proofs.counts.Counts.lower.Goals as goal

pub invariant_of-self : goal.invariant_of-self
invariant_of-self g c =
    let same = count_in_table c.self.inside.table.items c.args.v in
    let some : 0 < get_or c.self.inside.table.items c.args.v 0 = search rules in
    table_written c.self.inside.table.items c.self.inside.room _ c.args.v _ c.self.invariant (counted_within _ _ some)
    (search rules)

pub returns-clause-value : goal.returns-clause-value
returns-clause-value g c =
    let same = count_in_table c.self.inside.table.items c.args.v in
    let some : 0 < get_or c.self.inside.table.items c.args.v 0 = search rules in
    let n : c.visit-count.result ≡ get_or c.self.inside.table.items c.args.v 0 = search rules in
    let written = set c.self.inside.table.items c.args.v (c.visit-count.result - 1) in
    subst (λ (t : Tally). map_of written ≡ with_count t.counts c.args.v (tally_at t.counts c.args.v - 1)) c.self.view_is
    (lowered_map c.self.inside.table.items c.args.v c.visit-count.result (counted_within _ _ some) n)
