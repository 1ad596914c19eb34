-- Public meaning: the key of a period.
use Rattle.std.specs.Prelude.{List, [], ◌∷◌, find, Option, Some, None, option_map}
use Rattle.sd_base.specs.Types.{Key, PeriodNumber}
use Rattle.sd_tree_keys.specs.Leaves.{is_member}
use Rattle.sd_site_cards.specs.CardFields.{CardFields, card_key}
use Rattle.sd_cipher.specs.Wrapping.{wrapped as under}
use Rattle.sd_message.specs.EmmSpelled.{listed_entries}
use Rattle.sd_message.specs.declared.emm.Emm.{Emm}
use Rattle.sd_spec.specs.Heard.{Heard}
use Rattle.sd_spec.specs.Stretches.{sections_seen}

-- the period key in the first entry whose set has the leaf [this project, docs/FORMATS.md, Receiver]
unfoldable pub key_from : CardFields → Emm → Option Key
key_from card emm =
    option_map (λ entry. under (card_key card entry.name) emm.period entry.wrapped)
    (find (λ entry. is_member card.height entry.name card.leaf) (listed_entries emm))

-- the first of two keys that is there
abbrev pub first_key : Option Key → Option Key → Option Key
first_key (Some key) other = Some key
first_key None other = other

-- the key in the oldest of these sections that has one
unfoldable pub key_in : CardFields → List Emm → Option Key
key_in card [] = None
key_in card (emm ∷ sections) = first_key (key_in card sections) (key_from card emm)

-- the key of period q, if it is known [this project, docs/FORMATS.md, Receiver]
abbrev pub key_at : CardFields → List Heard → PeriodNumber → Option Key
key_at card past q = key_in card (sections_seen q past)
