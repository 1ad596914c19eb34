-- The first entry of a section whose set has the leaf.
use Rattle.std.proofs.Common.{◌≡◌, ℕ, ◌<◌, ◌≤◌, Bool, true, false, List, length, drop, get_or, refl, ap, sym, ◌∙◌}
use Rattle.std.specs.Prelude.{find, Some, None, option_map}
use Rattle.std.proofs.lemmas.List.{at_drop_more, drop_all}
use Rattle.std.proofs.lemmas.Bool.{true_from_ne_false}
use Rattle.sd_tree_keys.specs.Leaves.{is_member}
use Rattle.sd_site_cards.specs.CardFields.{CardFields, card_key}
use Rattle.sd_cipher.specs.Wrapping.{wrapped}
use Rattle.sd_message.specs.EmmSpelled.{listed_entries}
use Rattle.sd_message.specs.declared.emm.Emm.{Emm}
use Rattle.sd_message.specs.declared.emm.Entry.{Entry}
use Rattle.sd_spec.specs.Keys.{key_from}

abbrev pub has_leaf : ℕ → ℕ → Entry → Bool
has_leaf h u entry = is_member h entry.name u

-- one step of looking for it
pub found_here : (h u i : ℕ) (entries : List Entry) (d : Entry) → i < length entries →
    has_leaf h u (get_or entries i d) ≡ true → find (has_leaf h u) (drop i entries) ≡ Some (get_or entries i d)
found_here h u i entries d small has = at_drop_more (find (has_leaf h u)) entries i d small ∙ rw has refl

pub none_found : (h u i : ℕ) (entries : List Entry) → length entries ≤ i → find (has_leaf h u) (drop i entries) ≡ None
none_found h u i entries end = ap (find (has_leaf h u)) (drop_all i entries end)

-- the key that it gives
pub key_found : (card : CardFields) (emm : Emm) (entry : Entry) →
    find (has_leaf card.height card.leaf) (listed_entries emm) ≡ Some entry →
    key_from card emm ≡ Some (wrapped (card_key card entry.name) emm.period entry.wrapped)
unfolding key_from
key_found card emm entry found =
    ap (option_map (λ (e : Entry). wrapped (card_key card e.name) emm.period e.wrapped)) found

pub no_key_found : (card : CardFields) (emm : Emm) → find (has_leaf card.height card.leaf) (listed_entries emm) ≡ None →
    key_from card emm ≡ None
unfolding key_from
no_key_found card emm found = ap (option_map (λ (e : Entry). wrapped (card_key card e.name) emm.period e.wrapped)) found

-- an entry that is the first with the leaf gives the key, once it is unwrapped
pub found_gives : (card : CardFields) (emm : Emm) (items : List Entry) (i : ℕ) (d : Entry) (key : List ℕ) →
    items ≡ listed_entries emm →
    i < length items → find (has_leaf card.height card.leaf) (drop i (listed_entries emm))
    ≡ find (has_leaf card.height card.leaf) (listed_entries emm) →
    (has_leaf card.height card.leaf (get_or items i d) ≡ false → ⊥) → key ≡ card_key card (get_or items i d).name →
    Some (wrapped key emm.period (get_or items i d).wrapped) ≡ key_from card emm
found_gives card emm items i d key same small rest has key_is =
    let entry : Entry = get_or items i d in
    let there : has_leaf card.height card.leaf entry ≡ true = true_from_ne_false
    (has_leaf card.height card.leaf entry) has in
    let found : find (has_leaf card.height card.leaf) (drop i items) ≡ Some entry =
    found_here card.height card.leaf i items d small there in
    let first : find (has_leaf card.height card.leaf) (listed_entries emm) ≡ Some entry =
    sym rest ∙ (ap (λ (l : List Entry). find (has_leaf card.height card.leaf) (drop i l)) (sym same) ∙ found) in
    ap (λ (k : List ℕ). Some (wrapped k emm.period entry.wrapped)) key_is ∙ sym (key_found card emm entry first)

pub none_gives : (card : CardFields) (emm : Emm) (items : List Entry) (i : ℕ) → items ≡ listed_entries emm →
    length items ≤ i →
    find (has_leaf card.height card.leaf) (drop i (listed_entries emm)) ≡ find (has_leaf card.height card.leaf)
    (listed_entries emm) →
    None ≡ key_from card emm
none_gives card emm items i same end rest =
    let none : find (has_leaf card.height card.leaf) (listed_entries emm) ≡ None =
    sym rest ∙ (ap (λ (l : List Entry). find (has_leaf card.height card.leaf) (drop i l)) (sym same)
    ∙ none_found card.height card.leaf i items end) in
    sym (no_key_found card emm none)
