-- What is sent from a packet on.
use Rattle.std.proofs.Common.{◌≡◌, ℕ, ◌-◌, ◌/◌, ◌%◌, ◌<◌, ◌≤◌, ◌==◌, Bool, true, false}
use Rattle.std.proofs.Common.{List, [], ◌∷◌, ◌++◌, length, take, drop, map, if◌then◌else◌}
use Rattle.std.proofs.Common.{refl, sym, subst, arith, append_assoc, length-append}
use Rattle.std.specs.Prelude.{Contains, All}
use Rattle.std.proofs.lemmas.List.{take-append-drop, length-take-le}
use Rattle.std.proofs.lemmas.List.Elements.{All-nil, All-append, All-cons, All-map, All-weaker}
use Rattle.std.proofs.Math.Seq.{take-append_seam, get_or-append_seam}
use Rattle.std.proofs.lemmas.Bool.Decides.{nat_tests}
use Rattle.sd_base.proofs.Lists.{all_by}
use Rattle.sd_message.specs.Period.{emms_of}
use Rattle.sd_message.specs.declared.emm.Emm.{Emm}
use Rattle.sd_message.specs.EcmParts.{parts_of}
use Rattle.sd_message.specs.declared.ecm_part.EcmPart.{EcmPart}
use Rattle.sd_spec.specs.Plan.{Plan, crypto_length, period_of, closing_number}
use Rattle.sd_spec.specs.Carried.{carried}
use Rattle.sd_spec.specs.Messages.{period_at, message_at}
use Rattle.sd_spec.specs.Sent.{Item, Cat, Entitles, Controls, Carries, tables_at, tables_before}
use Rattle.sd_spec.specs.Sent.{message_before}
use Rattle.sd_spec.specs.Sent.{added, sent_from, closing_of}
use Rattle.sd_law_broadcast.specs.Rest.{IsOfRest, cat, entitlement, part, closing, carried_on}

-- what comes later is of what comes
pub later : (plan : Plan) (clear : List (List ℕ)) (j k : ℕ) (item : Item) → j ≤ k → IsOfRest plan clear k item →
    IsOfRest plan clear j item
later plan clear j k _ low cat = cat
later plan clear j k _ low (entitlement i from within m) = entitlement i (omega (arith, low, from)) within m
later plan clear j k _ low (part i from within due m) = part i (omega (arith, low, from)) within due m
later plan clear j k _ low (closing m) = closing m
later plan clear j k _ low (carried_on i from within) = carried_on i (omega (arith, low, from)) within

-- the tables of packet k
tables_come : (plan : Plan) (clear : List (List ℕ)) (k : ℕ) → k ≤ length clear - 1 →
    All (IsOfRest plan clear k) (tables_at plan k)
unfolding tables_at
tables_come plan clear k within =
    let emms : List Emm = emms_of (period_at plan (period_of plan k)) in
    All-cons (IsOfRest plan clear k) Cat (map Entitles emms) cat
    (All-map (IsOfRest plan clear k) Entitles emms
    (all_by (λ (emm : Emm). IsOfRest plan clear k (Entitles emm)) emms (λ emm m. entitlement k (omega arith) within m)))

tables_before_come : (plan : Plan) (clear : List (List ℕ)) (k : ℕ) → k ≤ length clear - 1 →
    All (IsOfRest plan clear k) (tables_before plan k)
tables_before_come plan clear k within = by_test (k % crypto_length plan.site == 0)
  where
    by_test : (b : Bool) → All (IsOfRest plan clear k) (if b then tables_at plan k else [])
    by_test true = tables_come plan clear k within
    by_test false = All-nil (IsOfRest plan clear k)

-- the parts of the message before a packet
message_comes : (plan : Plan) (clear before : List (List ℕ)) → take (length before) clear ≡ before →
    length before < length clear → All (IsOfRest plan clear (length before)) (message_before plan before)
message_comes plan clear before prefix within = by_test (length before % plan.site.every == 0) refl
  where
    Comes : Item → Type 0
    Comes = IsOfRest plan clear (length before)

    parts : List EcmPart
    parts = parts_of (message_at plan before (length before / plan.site.every) (length before) false)

    parts_come : length before % plan.site.every ≡ 0 → All Comes (map Controls parts)
    parts_come due = All-map Comes Controls parts
        (all_by (λ (p : EcmPart). Comes (Controls p)) parts
        (λ p m. part (length before) (omega arith) within due
        (subst (λ (b : List (List ℕ)). Contains
        (parts_of (message_at plan b (length before / plan.site.every) (length before) false)) p)
        (sym prefix) m)))

    by_test : (b : Bool) → (length before % plan.site.every == 0) ≡ b →
        All Comes (if b then map Controls parts else [])
    by_test true is = parts_come (grind (arith, nat_tests, is))
    by_test false is = All-nil Comes

-- what one packet adds
added_comes : (plan : Plan) (before : List (List ℕ)) (packet : List ℕ) (more : List (List ℕ)) →
    All (IsOfRest plan (before ++ packet ∷ more) (length before)) (added plan before packet)
unfolding added
added_comes plan before packet more =
    All-append Comes (tables_before plan (length before)) (message_before plan before ++ last ∷ [])
    (tables_before_come plan clear (length before) (omega (arith, within)))
    (All-append Comes (message_before plan before) (last ∷ [])
    (message_comes plan clear before prefix within) (All-cons Comes last [] here (All-nil Comes)))
  where
    clear : List (List ℕ)
    clear = before ++ packet ∷ more

    Comes : Item → Type 0
    Comes = IsOfRest plan clear (length before)

    last : Item
    last = Carries (length before) (carried plan.site before packet)

    within : length before < length clear
    within = omega (arith, length-append before (packet ∷ more))

    prefix : take (length before) clear ≡ before
    prefix = take-append_seam before (packet ∷ more)

    here : Comes last
    here = subst (λ (b : List (List ℕ)). Comes (Carries (length before) (carried plan.site b packet))) prefix
        (subst (λ (p : List ℕ). Comes (Carries (length before) (carried plan.site (take (length before) clear) p)))
        (get_or-append_seam before packet more []) (carried_on (length before) (omega arith) within))

-- what packets add after others
sent_comes : (plan : Plan) (before packets : List (List ℕ)) →
    All (IsOfRest plan (before ++ packets) (length before)) (sent_from plan before packets)
unfolding sent_from
sent_comes plan before [] = All-nil (IsOfRest plan (before ++ []) (length before))
sent_comes plan before (packet ∷ packets) =
    let clear : List (List ℕ) = before ++ packet ∷ packets in
    let next : List (List ℕ) = before ++ packet ∷ [] in
    let low : length before ≤ length next = omega (arith, length-append before (packet ∷ [])) in
    let rest = subst (λ (all : List (List ℕ)). All (IsOfRest plan all (length next)) (sent_from plan next packets))
    (append_assoc before (packet ∷ []) packets) (sent_comes plan next packets) in
    All-append (IsOfRest plan clear (length before)) (added plan before packet) (sent_from plan next packets)
    (added_comes plan before packet packets)
    (All-weaker (IsOfRest plan clear (length next)) (IsOfRest plan clear (length before))
    (λ item is. later plan clear (length before) (length next) item low is) (sent_from plan next packets) rest)

-- the closing message, and the tables before it where there is no packet
closing_comes : (plan : Plan) (clear : List (List ℕ)) (k : ℕ) → k ≤ length clear →
    All (IsOfRest plan clear k) (closing_of plan clear)
unfolding closing_of
closing_comes plan clear k low =
    All-append (IsOfRest plan clear k) (if length clear == 0 then tables_at plan 0 else []) (map Controls parts)
    (by_test (length clear == 0) refl)
    (All-map (IsOfRest plan clear k) Controls parts
    (all_by (λ (p : EcmPart). IsOfRest plan clear k (Controls p)) parts (λ p m. closing m)))
  where
    parts : List EcmPart
    parts = parts_of (message_at plan clear (closing_number plan.site (length clear)) (length clear - 1) true)

    by_test : (b : Bool) → (length clear == 0) ≡ b → All (IsOfRest plan clear k) (if b then tables_at plan 0 else [])
    by_test true is =
        let none : length clear ≡ 0 = grind (arith, nat_tests, is) in
        let first : 0 ≡ k = omega (arith, none, low) in
        subst (λ (n : ℕ). All (IsOfRest plan clear n) (tables_at plan 0)) first
        (tables_come plan clear 0 (omega arith))
    by_test false is = All-nil (IsOfRest plan clear k)

-- all of it
pub what_comes : (plan : Plan) (clear : List (List ℕ)) (k : ℕ) → k ≤ length clear →
    All (IsOfRest plan clear k) (sent_from plan (take k clear) (drop k clear) ++ closing_of plan clear)
what_comes plan clear k low =
    let whole = take-append-drop k clear in
    let long : length (take k clear) ≡ k = length-take-le k clear low in
    All-append (IsOfRest plan clear k) (sent_from plan (take k clear) (drop k clear)) (closing_of plan clear)
    (subst (λ (n : ℕ). All (IsOfRest plan clear n) (sent_from plan (take k clear) (drop k clear))) long
    (subst (λ (all : List (List ℕ)). All (IsOfRest plan all (length (take k clear)))
    (sent_from plan (take k clear) (drop k clear))) whole
    (sent_comes plan (take k clear) (drop k clear))))
    (closing_comes plan clear k low)
