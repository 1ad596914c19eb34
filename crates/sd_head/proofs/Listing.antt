-- A period's entries, one after the other.
use Rattle.std.proofs.Common.{◌≡◌, ℕ, ◌+◌, List, [], ◌∷◌, ◌++◌, ap, sym, ◌∙◌, take}
use Rattle.std.specs.Prelude.{map}
use Rattle.std.proofs.lemmas.List.{map-append}
use Rattle.sd_tree_keys.specs.declared.set.SetName.{SetName}
use Rattle.sd_site_cards.specs.SiteFields.{SiteFields}
use Rattle.sd_tree_keys.specs.Keys.{key_of, period_key_of}
use Rattle.sd_cipher.specs.Wrapping.{wrapped as under}
use Rattle.sd_message.specs.declared.emm.Entry.{Entry}
use Rattle.sd_spec.specs.Messages.{entry_of}

abbrev entry_with : SetName → List ℕ → Entry
entry_with name wrapped = record { name = name; wrapped = wrapped }

-- one entry more
pub entry_more : (site : SiteFields) (q k : ℕ) (sets : List SetName) (entries : List Entry) (entry : Entry)
    (name : SetName)
    (key : List ℕ) → entries ≡ map (entry_of site q) (take k sets) → take (k + 1) sets ≡ take k sets ++ name ∷ [] →
    key ≡ period_key_of site.master q → entry.name ≡ name → entry.wrapped ≡ under (key_of site.master name) q key →
    entries ++ entry ∷ [] ≡ map (entry_of site q) (take (k + 1) sets)
unfolding entry_of
entry_more site q k sets entries entry name key so_far next keyed named wrapped =
    let made : entry ≡ entry_of site q name =
    ap (λ (n : SetName). entry_with n entry.wrapped) named
    ∙ ap (entry_with name) (wrapped ∙ ap (under (key_of site.master name) q) keyed) in
    rw next (rw made (ap (λ (es : List Entry). es ++ entry_of site q name ∷ []) so_far
    ∙ sym (map-append (entry_of site q) (take k sets) (name ∷ []))))
