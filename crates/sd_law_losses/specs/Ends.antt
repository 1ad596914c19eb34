-- Public meaning: how broadcasts that follow one another end for a receiver.
use Rattle.std.specs.Prelude.{◌||◌, Bool, true, false, List, [], ◌∷◌, if◌then◌else◌}
use Rattle.std.specs.List.{list_any}
use Rattle.sd_base.specs.Types.{LeafNumber}
use Rattle.sd_spec.specs.Sent.{Item, Cat, Entitles, Controls, Carries}
use Rattle.sd_spec.specs.declared.ending.Ending.{Ending}
use Rattle.sd_spec.specs.declared.ending.Ending.TheVariants.{NoCat, Unclosed}
use Rattle.sd_law_losses.specs.Kept.{after_cat}
use Rattle.sd_law_losses.specs.Endings.{ending_told, first_revoked, whole_ending}
use Rattle.sd_law_losses.specs.Together.{joined_to}
use Rattle.sd_law_losses.specs.Channel.{Arrival}
use Rattle.sd_law_losses.specs.Many.{kept_of_arrival, has_cat}

-- a section of entitlements or a part of a control message
abbrev pub is_message : Item → Bool
is_message Cat = false
is_message (Entitles emm) = true
is_message (Controls part) = true
is_message (Carries j packet) = false

-- the receiver hears a message of the run: one is kept after the CAT
abbrev pub is_told : Bool → Arrival → Bool
is_told tuned run = list_any is_message (after_cat (kept_of_arrival tuned run))

-- how those broadcasts end of which leaf u's receiver hears a message, each by itself
abbrev pub endings_from : Bool → LeafNumber → List Arrival → List Ending
endings_from tuned u [] = []
endings_from tuned u (run ∷ runs) =
    if is_told tuned run
    then ending_told run.plan u run.clear (kept_of_arrival tuned run) ∷ endings_from (tuned || has_cat run) u runs
    else endings_from (tuned || has_cat run) u runs

-- the ending of several broadcasts together; of none no message was heard, and the first is awaited
abbrev pub all_joined : List Ending → Ending
all_joined [] = Unclosed 0
all_joined (ending ∷ endings) = joined_to ending endings

-- how broadcasts that follow one another end for leaf u's receiver, together [this project, docs/FORMATS.md, Receiver]
abbrev pub ending_of_all : LeafNumber → List Arrival → Ending
ending_of_all u runs = if list_any has_cat runs then all_joined (endings_from false u runs) else NoCat

-- how a whole broadcast ends for leaf u's receiver
abbrev pub whole_ending_of : LeafNumber → Arrival → Ending
whole_ending_of u run = whole_ending (first_revoked run.plan u run.clear)
