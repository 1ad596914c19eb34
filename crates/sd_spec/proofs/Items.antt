-- Each thing that is sent is of the broadcast.
use Rattle.std.proofs.Common.{◌≡◌, ℕ, ◌-◌, ◌/◌, ◌%◌, ◌<◌, ◌≤◌, ◌==◌, Bool, true, false}
use Rattle.std.proofs.Common.{List, [], ◌∷◌, ◌++◌, length, take, map, if◌then◌else◌}
use Rattle.std.proofs.Common.{refl, sym, subst, arith, append_assoc, length-append}
use Rattle.std.specs.Prelude.{Contains, All}
use Rattle.std.proofs.lemmas.List.Elements.{All-append, All-cons, All-map}
use Rattle.std.proofs.Math.Seq.{take-append_seam, get_or-append_seam}
use Rattle.std.proofs.lemmas.Bool.Decides.{nat_tests}
use Rattle.sd_base.proofs.Lists.{all_by}
use Rattle.sd_message.specs.Period.{emms_of}
use Rattle.sd_message.specs.declared.emm.Emm.{Emm}
use Rattle.sd_message.specs.EcmParts.{parts_of}
use Rattle.sd_message.specs.declared.ecm_part.EcmPart.{EcmPart}
use Rattle.sd_spec.specs.Plan.{Plan, crypto_length, period_of, closing_number}
use Rattle.sd_spec.specs.Carried.{carried}
use Rattle.sd_spec.specs.Messages.{period_at, message_at}
use Rattle.sd_spec.specs.Sent.{Item, Cat, Entitles, Controls, Carries, tables_at, tables_before}
use Rattle.sd_spec.specs.Sent.{message_before}
use Rattle.sd_spec.specs.Sent.{added, sent_from, sent, closing_of}
use Rattle.sd_spec.specs.Items.{IsOfBroadcast, cat, entitlement, part, closing, carried_on}

-- the tables of packet k
tables_are : (plan : Plan) (clear : List (List ℕ)) (k : ℕ) → k ≤ length clear - 1 →
    All (IsOfBroadcast plan clear) (tables_at plan k)
unfolding tables_at
tables_are plan clear k within =
    All-cons (IsOfBroadcast plan clear) Cat (map Entitles (emms_of (period_at plan (period_of plan k)))) cat
    (All-map (IsOfBroadcast plan clear) Entitles (emms_of (period_at plan (period_of plan k)))
    (all_by (λ (emm : Emm). IsOfBroadcast plan clear (Entitles emm)) (emms_of (period_at plan (period_of plan k)))
    (λ emm m. entitlement k within m)))

-- nothing has anything
all_of_none : {A : Type 0} (P : A → Type 0) → All P []
all_of_none P k d within = absurd (omega (arith, within))

-- where a crypto period begins the tables stand, else nothing
tables_before_are : (plan : Plan) (clear : List (List ℕ)) (k : ℕ) → k ≤ length clear - 1 →
    All (IsOfBroadcast plan clear) (tables_before plan k)
tables_before_are plan clear k within = by_test (k % crypto_length plan.site == 0)
  where
    by_test : (b : Bool) → All (IsOfBroadcast plan clear) (if b then tables_at plan k else [])
    by_test true = tables_are plan clear k within
    by_test false = all_of_none (IsOfBroadcast plan clear)

-- the parts of the message before a packet
parts_are : (plan : Plan) (clear before : List (List ℕ)) → take (length before) clear ≡ before
    → length before < length clear →
    length before % plan.site.every ≡ 0 →
    All (IsOfBroadcast plan clear)
    (map Controls (parts_of (message_at plan before (length before / plan.site.every) (length before) false)))
parts_are plan clear before prefix within due =
    All-map (IsOfBroadcast plan clear) Controls parts
    (all_by (λ (p : EcmPart). IsOfBroadcast plan clear (Controls p)) parts
    (λ p m. part (length before) within due
    (subst (λ (b : List (List ℕ)). Contains
    (parts_of (message_at plan b (length before / plan.site.every) (length before) false)) p)
    (sym prefix) m)))
  where
    parts : List EcmPart
    parts = parts_of (message_at plan before (length before / plan.site.every) (length before) false)

message_before_are : (plan : Plan) (clear before : List (List ℕ)) → take (length before) clear ≡ before →
    length before < length clear → All (IsOfBroadcast plan clear) (message_before plan before)
message_before_are plan clear before prefix within = by_test (length before % plan.site.every == 0) refl
  where
    by_test : (b : Bool) → (length before % plan.site.every == 0) ≡ b → All (IsOfBroadcast plan clear)
        (if b then map Controls
        (parts_of (message_at plan before (length before / plan.site.every) (length before) false)) else [])
    by_test true is = parts_are plan clear before prefix within (grind (arith, nat_tests, is))
    by_test false is = all_of_none (IsOfBroadcast plan clear)

-- what one packet adds
added_are : (plan : Plan) (before : List (List ℕ)) (packet : List ℕ) (more : List (List ℕ)) →
    All (IsOfBroadcast plan (before ++ packet ∷ more)) (added plan before packet)
unfolding added
added_are plan before packet more =
    All-append Of (tables_before plan (length before)) (message_before plan before
    ++ Carries (length before) (carried plan.site before packet) ∷ [])
    (tables_before_are plan clear (length before) (omega (arith, within)))
    (All-append Of (message_before plan before) (Carries (length before) (carried plan.site before packet) ∷ [])
    (message_before_are plan clear before prefix within)
    (All-cons Of (Carries (length before) (carried plan.site before packet)) [] here (all_of_none Of)))
  where
    clear : List (List ℕ)
    clear = before ++ packet ∷ more

    Of : Item → Type 0
    Of = IsOfBroadcast plan clear

    within : length before < length clear
    within = omega (arith, length-append before (packet ∷ more))

    prefix : take (length before) clear ≡ before
    prefix = take-append_seam before (packet ∷ more)

    here : Of (Carries (length before) (carried plan.site before packet))
    here = subst (λ (b : List (List ℕ)). Of (Carries (length before) (carried plan.site b packet))) prefix
        (subst (λ (p : List ℕ). Of (Carries (length before) (carried plan.site (take (length before) clear) p)))
        (get_or-append_seam before packet more []) (carried_on (length before) within))

-- what packets add after others
sent_from_are : (plan : Plan) (before packets : List (List ℕ)) →
    All (IsOfBroadcast plan (before ++ packets)) (sent_from plan before packets)
unfolding sent_from
sent_from_are plan before [] = all_of_none (IsOfBroadcast plan (before ++ []))
sent_from_are plan before (packet ∷ packets) =
    All-append (IsOfBroadcast plan (before ++ packet ∷ packets)) (added plan before packet)
    (sent_from plan (before ++ packet ∷ []) packets)
    (added_are plan before packet packets)
    (subst (λ (clear : List (List ℕ)). All (IsOfBroadcast plan clear) (sent_from plan (before ++ packet ∷ []) packets))
    (append_assoc before (packet ∷ []) packets) (sent_from_are plan (before ++ packet ∷ []) packets))

-- the closing message, and the tables before it where there is no packet
closing_are : (plan : Plan) (clear : List (List ℕ)) → All (IsOfBroadcast plan clear) (closing_of plan clear)
unfolding closing_of
closing_are plan clear =
    All-append (IsOfBroadcast plan clear) (if length clear == 0 then tables_at plan 0 else []) (map Controls parts)
    (by_test (length clear == 0))
    (All-map (IsOfBroadcast plan clear) Controls parts
    (all_by (λ (p : EcmPart). IsOfBroadcast plan clear (Controls p)) parts (λ p m. closing m)))
  where
    parts : List EcmPart
    parts = parts_of (message_at plan clear (closing_number plan.site (length clear)) (length clear - 1) true)

    by_test : (b : Bool) → All (IsOfBroadcast plan clear) (if b then tables_at plan 0 else [])
    by_test true = tables_are plan clear 0 (omega arith)
    by_test false = all_of_none (IsOfBroadcast plan clear)

-- all of it
pub all_are_of_broadcast : (plan : Plan) (clear : List (List ℕ)) →
    All (IsOfBroadcast plan clear) (sent plan clear ++ closing_of plan clear)
all_are_of_broadcast plan clear = All-append (IsOfBroadcast plan clear) (sent plan clear) (closing_of plan clear)
    (sent_from_are plan [] clear) (closing_are plan clear)
