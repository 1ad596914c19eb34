use Rattle.std.proofs.Common.{◌≡◌, ℕ, ◌+◌, ◌-◌, ◌*◌, ◌≤◌, List, length, false, true, ◌/◌, Bool, refl, sym, ◌∙◌, ap}
use Rattle.std.proofs.Common.{take, drop, arith}
use Rattle.sd_cover_tracing.specs.Search.{right_from, opens_some}
use Rattle.sd_cover_tracing.proofs.Searches.{searched_none, searched_more, searched_few, few_power, few_turns}
use Rattle.sd_cover_tracing.proofs.Told.{told_none, told_next, told_all}
use Rattle.sd_cover_tracing.proofs.search.last_open.Goals as goal

-- the keys that a probe marks right
cut_is : (marks : List Bool) (n m : ℕ) → m ≤ n → marks ≡ right_from n n → take (2 * n - m - (n - m))
    (drop (n - m) marks) ≡ take n (drop (n - m) (right_from n n))
cut_is marks n m le is = let e : 2 * n - m - (n - m) ≡ n = omega arith in rw (e, is) refl

pub loop-lo-preserved-then-probe : goal.loop-lo-preserved-then-probe
loop-lo-preserved-then-probe g c =
    let i = c.loop-lo.invariant in
    let lo : ℕ = c.loop-lo.lo in
    let hi : ℕ = c.loop-lo.hi in
    let n : ℕ = length c.args.sets.now in
    let m : ℕ = (lo + hi) / 2 in
    let right : List Bool = take (2 * n - m - (n - m)) (drop (n - m) c.args.marks.now) in
    let more = c.loop-lo-test.true in
    let asked = c.probe.ensures.asked in
    let before = i.4 in (
      omega arith,
      i.1,
      refl,
      searched_more c.loop-lo.turns (hi - lo) (hi - m) n (omega arith) (omega arith) i.3,
      omega arith,
      c.probe.ensures.height ∙ i.5,
      (λ leaves z told at.
          told_next (g.B.TestBox.height c.args.target.now) leaves c.args.sets.now right true lo hi c.loop-lo.turns n z
          refl more i.1 (cut_is c.args.marks.now n m (omega arith) c.requires.marks)
          (sym c.if-probe.true ∙ (c.probe.ensures.answer leaves (i.7 ∙ told)
          ∙ ap (λ (d : ℕ). opens_some d leaves c.args.sets.now right) i.5)) at (i.6 leaves z told at)),
      c.probe.ensures.coalition ∙ i.7,
    )

pub loop-lo-preserved : goal.loop-lo-preserved
loop-lo-preserved g c =
    let i = c.loop-lo.invariant in
    let lo : ℕ = c.loop-lo.lo in
    let hi : ℕ = c.loop-lo.hi in
    let n : ℕ = length c.args.sets.now in
    let m : ℕ = (lo + hi) / 2 in
    let right : List Bool = take (2 * n - m - (n - m)) (drop (n - m) c.args.marks.now) in
    let more = c.loop-lo-test.true in
    let asked = c.probe.ensures.asked in
    let before = i.4 in (
      omega arith,
      omega arith,
      refl,
      searched_more c.loop-lo.turns (hi - lo) (m - lo) n (omega arith) (omega arith) i.3,
      omega arith,
      c.probe.ensures.height ∙ i.5,
      (λ leaves z told at.
          told_next (g.B.TestBox.height c.args.target.now) leaves c.args.sets.now right false lo hi c.loop-lo.turns n z
          refl more i.1 (cut_is c.args.marks.now n m (omega arith) c.requires.marks)
          (sym c.if-probe.false ∙ (c.probe.ensures.answer leaves (i.7 ∙ told)
          ∙ ap (λ (d : ℕ). opens_some d leaves c.args.sets.now right) i.5)) at (i.6 leaves z told at)),
      c.probe.ensures.coalition ∙ i.7,
    )

pub returns-clause-told : goal.returns-clause-told
returns-clause-told g c leaves z told at =
    let i = c.loop-lo.invariant in
    told_all c.loop-lo.lo c.loop-lo.hi c.loop-lo.turns (length c.args.sets.now) z
    (let ends = c.loop-lo-test.false in omega arith) (i.6 leaves z told at)

pub loop-lo-init : goal.loop-lo-init
loop-lo-init g c = grind (arith, searched_none, told_none)

pub overflow_add-turns : goal.overflow_add-turns
overflow_add-turns g c = grind (arith, searched_few, few_turns)

pub probe-requires-clause-room : goal.probe-requires-clause-room
probe-requires-clause-room g c = grind (arith, searched_few, few_turns)

pub returns-clause-turns : goal.returns-clause-turns
returns-clause-turns g c = grind (arith, searched_few, few_power)
