use Rattle.std.proofs.Common.{◌≡◌, ◌+◌, ◌*◌, ◌<◌, ◌≤◌, ℕ, ap, ◌∙◌, arith, rules}
use Rattle.sd_cover_tracing.proofs.Walks.{root_counts, chain_root, cover_of_walk, cover_of_none}
use Rattle.sd_cover_tracing.proofs.sets.chain_sets.Goals as goal

pub returns-then-revoked-eq0-clause-value : goal.returns-then-revoked-eq0-clause-value
returns-then-revoked-eq0-clause-value g c =
    let tall = c.get.ensures.high in
    let none : c.get-revoked.result ≡ 0 = search rules in
    let read = c.get-revoked.ensures.value in
    cover_of_none c.args.h c.args.counts.now.counts (omega arith) c.requires.index c.push.new.self.items (omega arith)
    (search rules)

pub walk-requires-clause-chain : goal.walk-requires-clause-chain
walk-requires-clause-chain g c =
    let tall = c.get.ensures.high in
    let some : 0 < c.get-revoked.result = search rules in
    let read = c.get-revoked.ensures.value in
    chain_root c.args.h c.args.counts.now.counts (omega arith) c.requires.index (omega arith)

-- all steps: one for the root, and those of the walk
all_steps : (n r start first last level h : ℕ) → n ≡ r → level ≡ h → first ≡ start + 1 → last ≤ first + n * level →
    last ≤ start + (r * h + 1)
all_steps n r start first last level h same top one more =
    let e : n * level ≡ r * h = ap (λ (m : ℕ). m * level) same ∙ ap (λ (m : ℕ). r * m) top in
    omega arith

pub returns-in_err-walk-clause-steps : goal.returns-in_err-walk-clause-steps
returns-in_err-walk-clause-steps g c =
    let tall = c.get.ensures.high in
    let all = root_counts c.args.h c.args.counts.now.counts (omega arith) c.requires.index in
    all_steps c.get-revoked.result _ _ _ _ c.from-levels.result c.args.h (c.get-revoked.ensures.value ∙ all)
    (search rules) c.get-revoked.ensures.steps c.walk.ensures.steps

pub returns-clause-value : goal.returns-clause-value
returns-clause-value g c =
    let tall = c.get.ensures.high in
    let some : 0 < c.get-revoked.result = search rules in
    let read = c.get-revoked.ensures.value in
    cover_of_walk c.args.h c.args.counts.now.counts (omega arith) c.requires.index c.new-sets.result.items
    c.walk.new.sets.items c.sort_unstable.new.self.items (omega arith) c.new-sets.ensures.items
    c.in_ok-walk.ensures.value c.sort_unstable.ensures.permutation (search rules)

pub returns-clause-steps : goal.returns-clause-steps
returns-clause-steps g c =
    let tall = c.get.ensures.high in
    let all = root_counts c.args.h c.args.counts.now.counts (omega arith) c.requires.index in
    all_steps c.get-revoked.result _ _ _ _ c.from-levels.result c.args.h (c.get-revoked.ensures.value ∙ all)
    (search rules) c.get-revoked.ensures.steps c.walk.ensures.steps
