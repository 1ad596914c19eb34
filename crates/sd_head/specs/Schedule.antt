-- Public meaning: when crypto periods and periods begin, and why a head end refuses.
use Rattle.std.specs.Prelude.{◌≡◌, ℕ, zero, suc, ◌%◌, ◌==◌, ◌&&◌, Bool, true, List, [], length, Option, Some, None}
use Rattle.sd_spec.specs.Plan.{Plan, crypto_length, crypto_of}
use Rattle.sd_spec.specs.Refused.{refusal_of, end_refusal}
use Rattle.sd_head.specs.declared.entitling.Entitling.{Entitling}
use Rattle.sd_head.specs.Kept.{begins_period, IsUnbegun, IsPeriodState}
use Rattle.sd_head.specs.declared.fault.HeadFault.{HeadFault}
use Rattle.sd_head.specs.declared.fault.HeadFault.TheVariants.{Clear, NoMemory}

-- after so many packets the crypto period of the last is at work
abbrev pub IsPeriodAt : Plan → ℕ → Entitling → Type 0
IsPeriodAt plan zero entitling = IsUnbegun plan entitling
IsPeriodAt plan (suc k) entitling = IsPeriodState plan (crypto_of plan.site k) entitling

-- a period begins with packet k
unfoldable pub begins_with : Plan → ℕ → Bool
begins_with plan k = (k % crypto_length plan.site == 0) && begins_period plan (crypto_of plan.site k)

-- why a packet, or the end, is refused after these packets: it breaks a rule, or memory ran out where a period begins
abbrev pub IsDue : Plan → List (List ℕ) → Option (List ℕ) → HeadFault → Type 0
IsDue plan before (Some packet) (Clear fault) = refusal_of plan.site before packet ≡ Some fault
IsDue plan before (Some packet) NoMemory =
    (refusal_of plan.site before packet ≡ None) × (begins_with plan (length before) ≡ true)
IsDue plan before None (Clear fault) = end_refusal plan.site before ≡ Some fault
IsDue plan before None NoMemory = (end_refusal plan.site before ≡ None) × (before ≡ [])
