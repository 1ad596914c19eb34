-- Public meaning: what a receiver that stays on gets of the broadcasts of a chain.
use Rattle.std.specs.Prelude.{◌≢◌, ◌||◌, ℕ, Bool, List, [], ◌∷◌, if◌then◌else◌, map}
use Rattle.sd_base.specs.Types.{Arrived}
use Rattle.sd_site_cards.specs.SiteFields.{SiteFields}
use Rattle.sd_law_losses.specs.Channel.{Arrival, Channel}
use Rattle.sd_law_losses.specs.Many.{has_cat}
use Rattle.sd_law_losses.specs.Ends.{is_told}
use Rattle.sd_law_chain.specs.Chain.{Call, Link, OnAir, chain_plan}

-- a broadcast, and which of its packets arrive
pub record ArrivedBroadcast : Type 0 where
  pub air : OnAir
  pub flags : Arrived

-- the broadcasts, one after the other
abbrev pub airs_of : List ArrivedBroadcast → List OnAir
airs_of heard = map (λ one. one.air) heard

abbrev pub arrival_of : Link → List Call → ArrivedBroadcast → Arrival
arrival_of root calls one = record { plan = chain_plan root calls one.air; clear = one.air.clear; flags = one.flags }

-- what arrives of them
abbrev pub arrivals_of : Link → List Call → List ArrivedBroadcast → List Arrival
arrivals_of root calls heard = map (arrival_of root calls) heard

-- the channel of a site: what all sites of its chain have in common
abbrev pub channel_of : SiteFields → Channel
channel_of site =
    record { height = site.height; master = site.master; ca = site.ca; emm = site.emm; ecm = site.ecm }

-- the numbers of the sites of which the receiver hears a message, in order
abbrev pub numbers_from : Link → List Call → Bool → List ArrivedBroadcast → List ℕ
numbers_from root calls tuned [] = []
numbers_from root calls tuned (one ∷ heard) =
    if is_told tuned (arrival_of root calls one)
    then one.air.number ∷ numbers_from root calls (tuned || has_cat (arrival_of root calls one)) heard
    else numbers_from root calls (tuned || has_cat (arrival_of root calls one)) heard

-- the first of these numbers, if there is one, isn't this one
abbrev pub IsOtherNumber : ℕ → List ℕ → Type 0
IsOtherNumber n [] = Unit {0}
IsOtherNumber n (m ∷ numbers) = n ≢ m

-- no two numbers that follow one another are the same
abbrev pub TakeTurns : List ℕ → Type 0
TakeTurns [] = Unit {0}
TakeTurns (n ∷ numbers) = IsOtherNumber n numbers × TakeTurns numbers
