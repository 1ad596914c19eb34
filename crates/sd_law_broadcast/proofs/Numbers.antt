-- The control messages of a broadcast by their numbers.
use Rattle.std.proofs.Common.{◌≡◌, ℕ, ◌-◌, ◌*◌, ◌/◌, ◌%◌, ◌<◌, ◌≤◌, Bool, true, false, nat_lt, List, length, take}
use Rattle.std.proofs.Common.{refl, sym, ap, subst, ◌∙◌, inl, inr, arith}
use Rattle.std.specs.Prelude.{Contains}
use Rattle.std.proofs.lemmas.Bool.{cases_Bool, cases_lt}
use Rattle.std.proofs.lemmas.Bool.Decides.{nat_tests}
use Rattle.std.proofs.lemmas.Nat.{div-add-mod'}
use Rattle.sd_site_cards.specs.SiteFields.{SiteFields, AreInRange}
use Rattle.sd_message.specs.EcmParts.{Message, IsMessage, parts_of}
use Rattle.sd_message.specs.declared.ecm_part.EcmPart.{EcmPart}
use Rattle.sd_spec.specs.Plan.{Plan, IsPlan, since_of, closing_number}
use Rattle.sd_spec.specs.Messages.{message_at}
use Rattle.sd_spec.specs.Refused.{IsSendable}
use Rattle.sd_spec.specs.Sent.{Item, Cat, Entitles, Controls, Carries}
use Rattle.sd_spec.specs.Items.{IsOfBroadcast, cat, entitlement, part, closing, carried_on}
use Rattle.sd_spec.proofs.Schedule.{quotients_rise, closing_above, closing_needed}
use Rattle.sd_law_broadcast.specs.Numbered.{numbered_message}
use Rattle.sd_law_broadcast.proofs.Clear.{clear_short, take_clear}
use Rattle.sd_law_broadcast.proofs.Fitting.{message_fits, word_low, closing_fits, closing_low}

-- a message before the closing one stands before its packet
pub numbered_before : (plan : Plan) (clear : List (List ℕ)) (a : ℕ) → a < closing_number plan.site (length clear) →
    numbered_message plan clear a ≡ message_at plan (take (a * plan.site.every) clear) a (a * plan.site.every) false
unfolding numbered_message
numbered_before plan clear a below =
    let test : nat_lt a (closing_number plan.site (length clear)) ≡ true = grind
    (arith, nat_tests, below) in rw test refl

-- the closing one is the last
pub numbered_closing : (plan : Plan) (clear : List (List ℕ)) →
    numbered_message plan clear (closing_number plan.site (length clear))
    ≡ message_at plan clear (closing_number plan.site (length clear)) (length clear - 1) true
unfolding numbered_message
numbered_closing plan clear =
    let last : ℕ = closing_number plan.site (length clear) in
    let test : nat_lt last last ≡ false = grind (arith, nat_tests) in rw test refl

-- the packet of a message is a multiple of e
pub whole_number : (site : SiteFields) (k : ℕ) → k % site.every ≡ 0 → k / site.every * site.every ≡ k
whole_number site k due = omega (arith, due, div-add-mod' k site.every)

-- the number of a message before a packet
pub before_closing : (site : SiteFields) (m k : ℕ) → AreInRange site → k < m → k / site.every < closing_number site m
before_closing site m k r within =
    let some = r.every.0 in
    let up = quotients_rise site.every k (m - 1) (omega (arith, some)) (omega (arith, within)) in
    omega (arith, up, closing_above site m r (omega (arith, within)))

-- the message before a packet
pub message_numbered : (plan : Plan) (clear : List (List ℕ)) (k : ℕ) → AreInRange plan.site → k < length clear →
    k % plan.site.every ≡ 0 →
    message_at plan (take k clear) (k / plan.site.every) k false ≡ numbered_message plan clear (k / plan.site.every)
message_numbered plan clear k r within due =
    let a : ℕ = k / plan.site.every in
    ap (λ (n : ℕ). message_at plan (take n clear) a n false) (sym (whole_number plan.site k due))
    ∙ sym (numbered_before plan clear a (before_closing plan.site (length clear) k r within))

-- each has its number, and tells from which on its word holds
number_at : (plan : Plan) (before : List (List ℕ)) (a k : ℕ) (last : Bool) →
    (message_at plan before a k last).number ≡ a
unfolding message_at
number_at plan before a k last = refl

since_at : (plan : Plan) (before : List (List ℕ)) (a k : ℕ) (last : Bool) →
    (message_at plan before a k last).since ≡ since_of plan.site.messages plan.site.cryptos a
unfolding message_at
since_at plan before a k last = refl

pub numbered_number : (plan : Plan) (clear : List (List ℕ)) (a : ℕ) → (numbered_message plan clear a).number ≡ a
unfolding numbered_message
numbered_number plan clear a = elim (cases_Bool (nat_lt a (closing_number plan.site (length clear)))) [
  | inl inner ↦ rw inner (number_at plan (take (a * plan.site.every) clear) a (a * plan.site.every) false)
  | inr last ↦ rw last (number_at plan clear a (length clear - 1) true)
]

pub numbered_since : (plan : Plan) (clear : List (List ℕ)) (a : ℕ) →
    (numbered_message plan clear a).since ≡ since_of plan.site.messages plan.site.cryptos a
unfolding numbered_message
numbered_since plan clear a = elim (cases_Bool (nat_lt a (closing_number plan.site (length clear)))) [
  | inl inner ↦ rw inner (since_at plan (take (a * plan.site.every) clear) a (a * plan.site.every) false)
  | inr last ↦ rw last (since_at plan clear a (length clear - 1) true)
]

-- each fits
pub numbered_fits : (plan : Plan) (clear : List (List ℕ)) (a : ℕ) → IsPlan plan → IsSendable plan.site clear →
    a ≤ closing_number plan.site (length clear) → IsMessage (numbered_message plan clear a)
numbered_fits plan clear a is all within = elim (cases_lt a (closing_number plan.site (length clear))) [
  | inl inner ↦
      let short = clear_short plan.site clear all in
      let low = closing_low plan.site (length clear) is.site in
      let needed = closing_needed plan.site (length clear) a is.site inner in
      rw (numbered_before plan clear a inner) (message_fits plan (take (a * plan.site.every) clear) a
      (a * plan.site.every) false is (take_clear plan.site clear (a * plan.site.every) all)
      (omega (arith, short, low, inner)) (word_low plan clear (a * plan.site.every) is all (omega (arith, needed))))
  | inr past ↦
      let same : closing_number plan.site (length clear) ≡ a = omega (arith, within, past) in
      subst (λ (n : ℕ). IsMessage (numbered_message plan clear n)) same
      (rw (numbered_closing plan clear) (closing_fits plan clear is all))
]

-- a part that is sent is of one of them
abbrev pub IsPartSent : Plan → List (List ℕ) → Item → Type 0
IsPartSent plan clear Cat = Unit {0}
IsPartSent plan clear (Entitles emm) = Unit {0}
IsPartSent plan clear (Controls one) =
    (a : ℕ) × (a ≤ closing_number plan.site (length clear)) × Contains (parts_of (numbered_message plan clear a)) one
IsPartSent plan clear (Carries n packet) = Unit {0}

part_sent : (plan : Plan) (clear : List (List ℕ)) (item : Item) → AreInRange plan.site → IsOfBroadcast plan clear item →
    IsPartSent plan clear item
part_sent plan clear _ r cat = tt
part_sent plan clear _ r (entitlement k within m) = tt
part_sent plan clear _ r (part {part = one} k within due m) = (
  k / plan.site.every,
  omega (arith, before_closing plan.site (length clear) k r within),
  subst (λ (message : Message). Contains (parts_of message) one) (message_numbered plan clear k r within due) m,
)
part_sent plan clear _ r (closing {part = one} m) = (
  closing_number plan.site (length clear),
  omega arith,
  subst (λ (message : Message). Contains (parts_of message) one) (sym (numbered_closing plan clear)) m,
)
part_sent plan clear _ r (carried_on k within) = tt

pub parts_numbered : (plan : Plan) (clear : List (List ℕ)) (one : EcmPart) → AreInRange plan.site →
    IsOfBroadcast plan clear (Controls one) →
    (a : ℕ) × (a ≤ closing_number plan.site (length clear)) × Contains (parts_of (numbered_message plan clear a)) one
parts_numbered plan clear one r is = part_sent plan clear (Controls one) r is
