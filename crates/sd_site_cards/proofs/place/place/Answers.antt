use Rattle.std.proofs.Common.{ℕ, ◌<◌, ◌+◌, ◌-◌, ◌*◌, ◌/◌, ◌≡◌, arith}
use Rattle.sd_site_cards.proofs.Places.{place_within}
use Rattle.sd_site_cards.proofs.place.place.Goals as goal

add_sub : (n b a : ℕ) → a < b → n + b - a ≡ n + (b - a)
add_sub n b a h = omega arith

pub returns-clause-fits : goal.returns-clause-fits
returns-clause-fits c =
    let height : c.from.result ≡ c.args.h = omega (arith, c.from.ensures, c.get.ensures.value) in
    let before : ℕ = c.args.ancestor * (2 * c.args.h - c.args.ancestor + 1) / 2 in
    let there : before + (c.args.hanging - c.args.ancestor) < c.args.h * (c.args.h + 1) / 2 + 1 =
    place_within c.args.h c.args.ancestor c.args.hanging c.requires.above c.requires.within in
    let same : before + c.args.hanging - c.args.ancestor ≡ before + (c.args.hanging - c.args.ancestor) =
    add_sub before c.args.hanging c.args.ancestor c.requires.above in
    rw height (rw same there)
