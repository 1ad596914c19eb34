-- What of a broadcast is sent from a clear packet on.
use Rattle.std.proofs.Common.{◌≡◌, refl, ℕ, ◌+◌, ◌-◌, ◌*◌, ◌/◌, ◌%◌, ◌<◌, ◌≤◌, ◌==◌, true, false}
use Rattle.std.proofs.Common.{List, [], ◌∷◌, ◌++◌, map, length, take, drop, if◌then◌else◌}
use Rattle.std.proofs.Common.{arith, sym, ap, ◌∙◌, inl, inr, ◌⊎◌, append_assoc, length-take-le}
use Rattle.std.proofs.lemmas.List.{drop_more, take_more, drop_all}
use Rattle.std.proofs.lemmas.Bool.{cases_Bool}
use Rattle.std.proofs.lemmas.Bool.Decides.{nat_tests}
use Rattle.std.proofs.lemmas.Nat.{div-add-mod'}
use Rattle.std.proofs.Math.Nat.{div-eq_of_lt-le, mod-lt}
use Rattle.sd_site_cards.specs.SiteFields.{SiteFields, AreInRange}
use Rattle.sd_message.specs.EcmParts.{Message, parts_of}
use Rattle.sd_spec.specs.Plan.{closing_number}
use Rattle.sd_spec.specs.Carried.{carried}
use Rattle.sd_spec.specs.Messages.{message_at}
use Rattle.sd_spec.specs.Sent.{Item, Controls, Carries, tables_at, tables_before, added, sent_from}
use Rattle.sd_spec.specs.Sent.{closing_of}
use Rattle.sd_spec.proofs.Schedule.{quotients_rise, closing_above}
use Rattle.sd_law_losses.specs.Confirmed.{packet_at}
use Rattle.sd_law_losses.proofs.Setting.{Setting, final, told_by, carried_at}
use Rattle.sd_law_losses.proofs.Pairs.{before_packet, closing_is}
use Rattle.sd_law_losses.proofs.Carrying.{carrying}

-- the parts of the message before packet k
abbrev pub parts_before : Setting → ℕ → List Item
parts_before s k =
    if k % s.plan.site.every == 0 then map Controls (parts_of (told_by s (k / s.plan.site.every))) else []

-- what is sent with packet k
abbrev pub group_at : Setting → ℕ → List Item
group_at s k = tables_before s.plan k ++ (parts_before s k ++ carrying s k ∷ [])

-- what is sent from packet k on
abbrev pub rest_at : Setting → ℕ → List Item
rest_at s k = sent_from s.plan (take k s.clear) (drop k s.clear) ++ closing_of s.plan s.clear

-- a message before a packet has a number below the closing one's
pub number_within : (s : Setting) (k : ℕ) → AreInRange s.plan.site → k < length s.clear →
    k / s.plan.site.every < final s
number_within s k range within =
    let above = closing_above s.plan.site (length s.clear) range (omega (arith, within)) in
    let rises = quotients_rise s.plan.site.every k (length s.clear - 1) (omega (arith, range.every.0)) (omega
    (arith, within)) in
    omega (arith, above, rises)

-- where one stands before packet k
pub whole_number : (site : SiteFields) (k : ℕ) → (k % site.every == 0) ≡ true → k / site.every * site.every ≡ k
whole_number site k due =
    let rest : k % site.every ≡ 0 = grind (arith, nat_tests, due) in
    omega (arith, div-add-mod' k site.every, rest)

message_is : (s : Setting) (k : ℕ) → AreInRange s.plan.site → k < length s.clear → (k % s.plan.site.every == 0) ≡ true →
    message_at s.plan (take k s.clear) (k / s.plan.site.every) k false ≡ told_by s (k / s.plan.site.every)
message_is s k range within due =
    ap (λ (n : ℕ). message_at s.plan (take n s.clear) (k / s.plan.site.every) n false) (sym
    (whole_number s.plan.site k due))
    ∙ sym (before_packet s (k / s.plan.site.every) (number_within s k range within))

parts_are : (s : Setting) (k : ℕ) → AreInRange s.plan.site → k < length s.clear →
    (if k % s.plan.site.every == 0
    then map Controls (parts_of (message_at s.plan (take k s.clear) (k / s.plan.site.every) k false)) else [])
    ≡ parts_before s k
parts_are s k range within = by_test (cases_Bool (k % s.plan.site.every == 0))
  where
    by_test : ((k % s.plan.site.every == 0) ≡ true) ⊎ ((k % s.plan.site.every == 0) ≡ false) →
        (if k % s.plan.site.every == 0
        then map Controls (parts_of (message_at s.plan (take k s.clear) (k / s.plan.site.every) k false)) else [])
        ≡ parts_before s k
    by_test (inl due) = rw due (ap (λ (m : Message). map Controls (parts_of m)) (message_is s k range within due))
    by_test (inr not_due) = rw not_due refl

-- what packet k adds
added_is : (s : Setting) (k : ℕ) → AreInRange s.plan.site → k < length s.clear →
    added s.plan (take k s.clear) (packet_at s.clear k) ≡ group_at s k
unfolding added carried_at
added_is s k range within =
    let long : length (take k s.clear) ≡ k = length-take-le k s.clear (omega (arith, within)) in
    ap (λ (n : ℕ). tables_before s.plan n
    ++ ((if n % s.plan.site.every == 0
    then map Controls (parts_of (message_at s.plan (take k s.clear) (n / s.plan.site.every) n false)) else [])
    ++ Carries n (carried s.plan.site (take k s.clear) (packet_at s.clear k)) ∷ [])) long
    ∙ ap (λ (ps : List Item). tables_before s.plan k ++ (ps ++ carrying s k ∷ [])) (parts_are s k range within)

-- so one packet at a time
pub rest_more : (s : Setting) (k : ℕ) → AreInRange s.plan.site → k < length s.clear →
    rest_at s k ≡ group_at s k ++ rest_at s (k + 1)
unfolding sent_from
rest_more s k range within =
    ap (λ (ps : List (List ℕ)). sent_from s.plan (take k s.clear) ps ++ closing_of s.plan s.clear)
    (drop_more s.clear k [] within)
    ∙ (ap (λ (ps : List (List ℕ)). (added s.plan (take k s.clear) (packet_at s.clear k) ++ sent_from s.plan ps (drop
    (k + 1) s.clear))
    ++ closing_of s.plan s.clear) (sym (take_more s.clear k [] within))
    ∙ (append_assoc (added s.plan (take k s.clear) (packet_at s.clear k))
    (sent_from s.plan (take (k + 1) s.clear) (drop (k + 1) s.clear)) (closing_of s.plan s.clear)
    ∙ ap (λ (xs : List Item). xs ++ rest_at s (k + 1)) (added_is s k range within)))

pub rest_none : (s : Setting) → rest_at s (length s.clear) ≡ closing_of s.plan s.clear
unfolding sent_from
rest_none s = ap (λ (ps : List (List ℕ)). sent_from s.plan (take (length s.clear) s.clear) ps ++ closing_of s.plan
    s.clear)
    (drop_all (length s.clear) s.clear (omega arith))

-- the closing parts are those of the last message
pub closing_items : (s : Setting) → closing_of s.plan s.clear
    ≡ (if length s.clear == 0 then tables_at s.plan 0 else []) ++ map Controls (parts_of (told_by s (final s)))
unfolding closing_of
closing_items s = ap (λ (m : Message). (if length s.clear == 0 then tables_at s.plan 0 else []) ++ map Controls
    (parts_of m))
    (sym (closing_is s (final s) (omega arith)))

-- the number of the next message, where one stands before packet k and where none does
pub due_number : (site : SiteFields) (k : ℕ) → AreInRange site → (k % site.every == 0) ≡ true →
    (closing_number site k ≡ k / site.every) × (closing_number site (k + 1) ≡ k / site.every + 1)
due_number site k range due =
    let some : 0 < site.every = omega (arith, range.every.0) in
    let whole = whole_number site k due in
    let n : closing_number site k ≡ k / site.every =
    div-eq_of_lt-le site.every (omega (arith, whole)) (omega (arith, whole, grown (k / site.every) site.every, some)) in
    let next : closing_number site (k + 1) ≡ k / site.every + 1 =
    div-eq_of_lt-le site.every (omega (arith, whole, grown (k / site.every) site.every))
    (omega (arith, whole, grown (k / site.every) site.every, grown (k / site.every + 1) site.every, some)) in
    (n, next)
  where
    grown : (q e : ℕ) → (q + 1) * e ≡ q * e + e
    grown q e = grind (arith)

pub other_number : (site : SiteFields) (k : ℕ) → AreInRange site → (k % site.every == 0) ≡ false →
    closing_number site (k + 1) ≡ closing_number site k
other_number site k range not_due =
    let some : 0 < site.every = omega (arith, range.every.0) in
    let rest : 0 < k % site.every = grind (arith, nat_tests, not_due) in
    let less : k % site.every < site.every = mod-lt k some in
    let cut = div-add-mod' k site.every in
    let n : closing_number site k ≡ k / site.every + 1 =
    div-eq_of_lt-le site.every (omega (arith, cut, rest, less, grown (k / site.every) site.every, some))
    (omega (arith, cut, rest, less, grown (k / site.every) site.every, grown (k / site.every + 1) site.every, some)) in
    let next : closing_number site (k + 1) ≡ k / site.every + 1 =
    div-eq_of_lt-le site.every (omega (arith, cut, rest, less, grown (k / site.every) site.every, some))
    (omega (arith, cut, rest, less, grown (k / site.every) site.every, grown (k / site.every + 1) site.every, some)) in
    next ∙ sym n
  where
    grown : (q e : ℕ) → (q + 1) * e ≡ q * e + e
    grown q e = grind (arith)

pub number_rises : (site : SiteFields) (j k : ℕ) → AreInRange site → j ≤ k →
    closing_number site j ≤ closing_number site k
number_rises site j k range below =
    quotients_rise site.every (j + site.every - 1) (k + site.every - 1) (omega (arith, range.every.0)) (omega
    (arith, below))
