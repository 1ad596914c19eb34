-- Ascending PIDs, by their neighbours.
use Rattle.std.proofs.Common.{ℕ, ◌+◌, ◌-◌, ◌<◌, ◌≤◌, List, length, take, get_or, arith}
use Rattle.sd_message.proofs.Ascending as Pairs
use Rattle.sd_message.specs.EcmForm.{ArePidsAscending}
use Rattle.sd_message.specs.declared.ecm_part.Place.{Place}

-- the order of the PIDs
abbrev IsBelow : Place → Place → Type 0
IsBelow a b = a.pid < b.pid

below_chain : (a b c : Place) → IsBelow a b → IsBelow b c → IsBelow a c
below_chain a b c p q = omega arith

-- one PID ascends
pub first_ascends : (places : List Place) (k : ℕ) → k ≤ 1 → ArePidsAscending (take k places)
first_ascends places k few = Pairs.first_ascends IsBelow places k few

-- with one more that is above the last
pub next_place : (places : List Place) (k : ℕ) (d e : Place) → 1 ≤ k → k < length places →
    ArePidsAscending (take k places) →
    (get_or places (k - 1) d).pid < (get_or places k e).pid → ArePidsAscending (take (k + 1) places)
next_place places k d e some within up less = Pairs.next_ascends IsBelow places k d e below_chain some within up less

-- they don't ascend where one isn't above the one before
pub not_after : (places : List Place) (k : ℕ) (d e : Place) → 1 ≤ k → k < length places →
    ¬ ((get_or places (k - 1) d).pid < (get_or places k e).pid) → ¬ ArePidsAscending places
not_after places k d e some within unless = Pairs.not_after IsBelow places k d e some within unless

-- all of them
pub all_ascend : (places : List Place) (k : ℕ) → length places ≤ k → ArePidsAscending (take k places) →
    ArePidsAscending places
all_ascend places k past up = Pairs.all_ascend IsBelow places k past up
