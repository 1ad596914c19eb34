-- Public meaning: pieces of broadcasts that follow one another, as at a switch to a spare head end and back.
use Rattle.std.specs.Prelude.{◌≢◌, ◌||◌, Bool, false, List, [], ◌∷◌, if◌then◌else◌, All}
use Rattle.sd_base.specs.Types.{RunName}
use Rattle.sd_site_cards.specs.SiteFields.{run_name_of}
use Rattle.sd_law_losses.specs.Channel.{Arrival, Channel, IsRunOf}
use Rattle.sd_law_losses.specs.Many.{has_cat}
use Rattle.sd_law_losses.specs.Ends.{is_told}

-- the names of the runs whose pieces a receiver is told of, in order
abbrev pub names_from : Bool → List Arrival → List RunName
names_from tuned [] = []
names_from tuned (piece ∷ pieces) =
    if is_told tuned piece then run_name_of piece.plan.site ∷ names_from (tuned || has_cat piece) pieces
    else names_from (tuned || has_cat piece) pieces

-- the first of these names, if there is one, isn't this one
abbrev pub IsOtherThanFirst : RunName → List RunName → Type 0
IsOtherThanFirst name [] = Unit {0}
IsOtherThanFirst name (next ∷ names) = name ≢ next

-- no two names that follow one another are the same
abbrev pub AreAlternating : List RunName → Type 0
AreAlternating [] = Unit {0}
AreAlternating (name ∷ names) = IsOtherThanFirst name names × AreAlternating names

-- the pieces are of broadcasts of the channel, and no two that a receiver is told of one after the other have one name
abbrev pub ArePiecesOf : Channel → List Arrival → Type 0
ArePiecesOf channel pieces = All (IsRunOf channel) pieces × AreAlternating (names_from false pieces)
