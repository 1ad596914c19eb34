-- Public meaning: how many period keys a receiver takes of a stream, and of broadcasts that follow one another.
use Rattle.std.specs.Prelude.{ℕ, ◌+◌, ◌-◌, ◌&&◌, ◌||◌, Bool, not, List, [], ◌∷◌, length}
use Rattle.std.specs.List.{list_any}
use Rattle.std.specs.Option.{option_map_or}
use Rattle.sd_base.specs.Types.{Packet, Packets, LeafNumber}
use Rattle.sd_site_cards.specs.CardFields.{CardFields}
use Rattle.sd_spec.specs.Plan.{Plan, period_of}
use Rattle.sd_spec.specs.Sent.{Item}
use Rattle.sd_spec.specs.Taken.{taken_keys}
use Rattle.sd_law_losses.specs.Kept.{entitles, after_cat}
use Rattle.sd_law_losses.specs.Confirmed.{is_revoked_in}
use Rattle.sd_law_losses.specs.Endings.{is_on_air}
use Rattle.sd_law_losses.specs.Taken.{how_many}
use Rattle.sd_law_losses.specs.Pieces.{first_cat, pieces_of}
use Rattle.sd_law_losses.specs.Channel.{Arrival}
use Rattle.sd_law_losses.specs.Many.{kept_of_arrival, has_cat}

-- how many packets of pieces take a key if each piece is received by itself after the CAT
abbrev pub taken_with : CardFields → Packet → List Packets → ℕ
taken_with card cat [] = 0
taken_with card cat (piece ∷ pieces) = taken_keys card [] (cat ∷ piece) + taken_with card cat pieces

-- how many packets of a stream take a key, by its pieces [this project, docs/FORMATS.md, Receiver]
unfoldable pub count_keys_taken : CardFields → Packets → ℕ
count_keys_taken card packets =
    option_map_or (λ tuned. taken_with card tuned.cat (pieces_of card.height tuned)) (first_cat card.ca 0 packets) 0

-- the number of periods of which a section that has a set with leaf u is kept after the CAT
abbrev pub kept_periods : Plan → LeafNumber → Packets → List Item → ℕ
kept_periods plan u clear kept =
    how_many (λ q. list_any (entitles plan.site.height u q) (after_cat kept)) (period_of plan (length clear - 1) + 1)

-- how many keys leaf u's receiver takes of broadcasts that follow one another: of each those of its kept periods [this
-- project, docs/FORMATS.md, Receiver]
abbrev pub keys_from : Bool → LeafNumber → List Arrival → ℕ
keys_from tuned u [] = 0
keys_from tuned u (run ∷ runs) =
    kept_periods run.plan u run.clear (kept_of_arrival tuned run) + keys_from (tuned || has_cat run) u runs

-- the number of the broadcast's periods in which leaf u isn't revoked
abbrev pub entitled_periods : Plan → LeafNumber → Packets → ℕ
entitled_periods plan u clear =
    how_many (λ q. is_on_air plan q && not (is_revoked_in plan u q)) (period_of plan (length clear - 1) + 1)

-- the number of such periods in all broadcasts
abbrev pub keys_of_all : LeafNumber → List Arrival → ℕ
keys_of_all u [] = 0
keys_of_all u (run ∷ runs) = entitled_periods run.plan u run.clear + keys_of_all u runs
