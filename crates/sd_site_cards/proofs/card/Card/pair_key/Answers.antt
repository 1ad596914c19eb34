use Rattle.std.proofs.Common.{◌≡◌, sym, arith}
use Rattle.std.specs.Prelude.{slice_get, Some}
use Rattle.std.proofs.lemmas.Option.{slice_get_read}
use Rattle.sd_tree_keys.specs.Node.{depth}
use Rattle.sd_tree_keys.proofs.Members.{member_of_pair}
use Rattle.sd_tree_keys.specs.Names.{names_of_receiver}
use Rattle.sd_site_cards.proofs.SecretKeys.{hangs_below}
use Rattle.sd_site_cards.proofs.Keys.{place_of, pair_held}
use Rattle.sd_site_cards.proofs.card.Card.pair_key.Goals as goal

pub hanging_above-held-requires-clause-beside : goal.hanging_above-held-requires-clause-beside
hanging_above-held-requires-clause-beside g c =
    ((member_of_pair _ c.args.i c.args.j _ c.args.self.now.height_in.1 c.requires.pair c.args.self.now.leaf_in).0
    c.requires.member).1

pub place-requires-clause-above : goal.place-requires-clause-above
place-requires-clause-above g c =
    let less =
    hangs_below c.args.self.now.height c.args.self.now.leaf c.args.i c.args.j c.hanging_above-held.result
    c.args.self.now.height_in.1 c.args.self.now.leaf_in c.requires.pair c.requires.member
    c.hanging_above-held.ensures in
    omega (arith, less, c.depth.ensures.value, c.depth-2.ensures.value)

pub returns-clause-sound : goal.returns-clause-sound
returns-clause-sound g c =
    let card = c.args.self.now in
    let w = c.hanging_above-held.result in
    let place : c.place.result ≡ place_of card.height (depth c.args.i) (depth w) =
    rw (← c.depth.ensures.value, ← c.depth-2.ensures.value) c.place.ensures.value in
    let held : slice_get card.secrets.items c.place.result ≡ Some c.index.result.now =
    slice_get_read card.secrets.items _ c.place.result c.index.result.now (sym card.count) c.place.ensures.fits
    c.index.ensures in
    c.key_below.ensures.sound (names_of_receiver card.height card.leaf) card.secrets.items c.args.i
    (pair_held card.height card.leaf c.args.i c.args.j w c.place.result card.secrets.items c.index.result.now
    card.height_in.1 card.leaf_in c.requires.pair c.requires.member c.hanging_above-held.ensures place held)
