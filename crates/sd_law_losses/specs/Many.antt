-- Public meaning: the clear packets that are confirmed to a receiver of broadcasts that follow one another.
use Rattle.std.specs.Prelude.{◌||◌, Bool, true, false, List, [], ◌∷◌, ◌++◌, drop}
use Rattle.std.specs.List.{list_any}
use Rattle.sd_base.specs.Types.{Packets, Arrived, LeafNumber}
use Rattle.sd_spec.specs.Sent.{Item, sent, closing_of, is_cat_item}
use Rattle.sd_law_losses.specs.Chosen.{chosen}
use Rattle.sd_law_losses.specs.Confirmed.{confirmed, opened_by}
use Rattle.sd_law_losses.specs.Channel.{Arrival}

-- which packets of a broadcast count as arrived. If a CAT was taken in an earlier broadcast, the one at the beginning
-- of this one counts too
abbrev pub flags_after : Bool → Arrived → Arrived
flags_after true flags = true ∷ drop 1 flags
flags_after false flags = flags

-- the things of a broadcast that count as kept
abbrev pub kept_of_arrival : Bool → Arrival → List Item
kept_of_arrival tuned run = chosen (flags_after tuned run.flags) (sent run.plan run.clear ++
    closing_of run.plan run.clear)

-- some CAT of the broadcast arrives
abbrev pub has_cat : Arrival → Bool
has_cat run = list_any is_cat_item (kept_of_arrival false run)

-- the clear packets that are confirmed to leaf u's receiver, of each broadcast by itself [this project,
-- docs/FORMATS.md, Receiver]
abbrev pub confirmed_from : Bool → LeafNumber → List Arrival → Packets
confirmed_from tuned u [] = []
confirmed_from tuned u (run ∷ runs) =
    confirmed run.plan u run.clear (kept_of_arrival tuned run) ++ confirmed_from (tuned || has_cat run) u runs

-- the clear packets of all broadcasts, of the periods in which leaf u isn't revoked
abbrev pub opened_of_all : LeafNumber → List Arrival → Packets
opened_of_all u [] = []
opened_of_all u (run ∷ runs) = opened_by run.plan u run.clear ++ opened_of_all u runs
