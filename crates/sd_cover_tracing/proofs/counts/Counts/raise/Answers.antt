use Rattle.std.proofs.Common.{◌≡◌, ℕ, ◌+◌, ◌<◌, ◌⊎◌, inl, inr, List, length, get_or, set, subst, sym, arith, rules}
use Rattle.sd_cover_tracing.specs.Tally.{Tally, tally_at, with_count}
use Rattle.sd_cover_tracing.specs.Table.{map_of, IsProbeTable}
use Rattle.sd_cover_tracing.specs.declared.counts.TheConstants.{NODES}
use Rattle.sd_cover_tracing.proofs.Tables.{count_in_table, placed_count, raised_table, raised_map}
use Rattle.sd_cover_tracing.proofs.counts.Counts.raise.Goals as goal

-- the node has a place, and its count is above 0 or there is room
room_for : (t : Tally) (ns : List ℕ) (room v : ℕ) → record { counts = map_of ns; room = room } ≡ t →
    IsProbeTable ns room →
    v < NODES → (0 < tally_at t.counts v) ⊎ (0 < t.room) → (v < length ns) × ((0 < get_or ns v 0) ⊎ (0 < room))
room_for t ns room v is table h some =
    let same = count_in_table ns v in
    let here = subst (λ (u : Tally). (0 < tally_at u.counts v) ⊎ (0 < u.room)) (sym is) some in
    (placed_count ns room v table h here, elim here [ inl a ↦ inl (omega arith) | inr b ↦ inr b ])

pub index_mut-requires : goal.index_mut-requires
index_mut-requires g c =
    let h = room_for _ _ _ c.args.v c.self.view_is c.self.invariant c.requires.high c.requires.room in
    omega (arith, c.self.inside.table.ok.0, h.0)

pub invariant_of-self : goal.invariant_of-self
invariant_of-self g c =
    let h = room_for _ _ _ c.args.v c.self.view_is c.self.invariant c.requires.high c.requires.room in
    let n : c.visit-count.result ≡ get_or c.self.inside.table.items c.args.v 0 = search rules in
    raised_table _ _ c.args.v c.visit-count.result c.from.result c.self.invariant h.0 n (search rules)
    (subst (λ (m : ℕ). (0 < m) ⊎ (0 < c.self.inside.room)) (sym n) h.1)

pub returns-clause-value : goal.returns-clause-value
returns-clause-value g c =
    let h = room_for _ _ _ c.args.v c.self.view_is c.self.invariant c.requires.high c.requires.room in
    let n : c.visit-count.result ≡ get_or c.self.inside.table.items c.args.v 0 = search rules in
    subst (λ (t : Tally). map_of (set c.self.inside.table.items c.args.v (c.visit-count.result + 1))
    ≡ with_count t.counts c.args.v (tally_at t.counts c.args.v + 1)) c.self.view_is
    (raised_map c.self.inside.table.items c.args.v c.visit-count.result h.0 n)
