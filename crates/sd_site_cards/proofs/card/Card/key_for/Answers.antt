use Rattle.std.proofs.Common.{◌≡◌, ◌∙◌, sym, arith}
use Rattle.std.specs.Prelude.{true}
use Rattle.sd_tree_keys.specs.Leaves.{is_member}
use Rattle.sd_tree_keys.specs.SetNames.{IsPair}
use Rattle.sd_tree_keys.specs.Names.{names_of_receiver}
use Rattle.sd_site_cards.proofs.SecretKeys.{derived_is_held, first_read, first_is_held}
use Rattle.sd_site_cards.specs.CardFields.{card_fields_of}
use Rattle.sd_site_cards.proofs.Keys.{given_of_leaf, own_gives_key}
use Rattle.sd_site_cards.proofs.card.Card.key_for.Goals as goal

-- the leaf is in the set
pub returns-in-Diff-clause-none : goal.returns-in-Diff-clause-none
returns-in-Diff-clause-none g c =
    (λ none. sym c.if-not-contains.ensures ∙ none, λ outside. c.if-not-contains.ensures ∙ outside)

pub returns-in-Whole-clause-none : goal.returns-in-Whole-clause-none
returns-in-Whole-clause-none g c =
    (λ none. sym c.if-not-contains.ensures ∙ none, λ outside. c.if-not-contains.ensures ∙ outside)

-- the key of a pair
pub returns-in-Diff-clause-value : goal.returns-in-Diff-clause-value
returns-in-Diff-clause-value g c =
    let card = c.args.self.now in
    let pair : IsPair card.height c.in-Diff.i c.in-Diff.j = rw c.in-Diff.is at c.requires in
    rw c.in-Diff.is (derived_is_held card.height card.leaf c.in-Diff.i c.in-Diff.j
    (names_of_receiver card.height card.leaf) card.secrets.items c.pair_key.result _
    (given_of_leaf card.height card.leaf card.height_in.1 card.leaf_in) pair c.pair_key.ensures.sound)

-- the key of the whole set
pub returns-in-Whole-clause-value : goal.returns-in-Whole-clause-value
returns-in-Whole-clause-value g c =
    let card = c.args.self.now in
    let first = first_read card.secrets.items c.index.result.now (omega (arith, card.count)) c.index.ensures in
    rw c.in-Whole.is (first_is_held (names_of_receiver card.height card.leaf) card.secrets.items c.index.result.now
    first)

-- it is the first secret, and no step is taken
pub returns-in-Whole-clause-sound : goal.returns-in-Whole-clause-sound
returns-in-Whole-clause-sound g c =
    let card = c.args.self.now in
    rw c.in-Whole.is
    (first_read card.secrets.items c.index.result.now (omega (arith, card.count)) c.index.ensures, omega arith)

pub returns-in-Diff-clause-made : goal.returns-in-Diff-clause-made
returns-in-Diff-clause-made g c master ca own =
    let card = c.args.self.now in
    let member : is_member card.height c.args.name card.leaf ≡ true = cc in
    own_gives_key (card_fields_of card) master ca c.args.name c.pair_key.result card.height_in.1 card.leaf_in c.requires
    member
    (returns-in-Diff-clause-value g c) own

pub returns-in-Whole-clause-made : goal.returns-in-Whole-clause-made
returns-in-Whole-clause-made g c master ca own =
    let card = c.args.self.now in
    let member : is_member card.height c.args.name card.leaf ≡ true = cc in
    own_gives_key (card_fields_of card) master ca c.args.name c.index.result.now card.height_in.1 card.leaf_in
    c.requires member
    (returns-in-Whole-clause-value g c) own
