-- How many packets what is sent has.
use Rattle.std.proofs.Common.{arith, ◌≡◌, ℕ, zero, suc, ◌+◌, ◌-◌, ◌*◌, ◌/◌, ◌%◌, ◌==◌, ◌<◌, ◌≤◌, ◌||◌, Bool, true}
use Rattle.std.proofs.Common.{false}
use Rattle.std.proofs.Common.{cond, List, [], ◌∷◌, ◌++◌, length, map, filter, refl, sym, ap, subst, ◌∙◌, inl, inr}
use Rattle.std.proofs.Common.{length-append, append_assoc}
use Rattle.std.specs.Prelude.{sum_by}
use Rattle.std.specs.List.{list_any, range_with_len}
use Rattle.std.proofs.lemmas.Bool.{cases_Bool}
use Rattle.std.proofs.lemmas.Bool.Decides.{nat_tests}
use Rattle.std.proofs.lemmas.List.{length-map}
use Rattle.std.proofs.lemmas.List.Folds.{list_any-append}
use Rattle.std.proofs.lemmas.List.Sums.{sum_by-cons}
use Rattle.sd_base.proofs.Arithmetic.{times_next}
use Rattle.sd_message.specs.Pieces.{pieces_for}
use Rattle.sd_site_cards.specs.SiteFields.{AreInRange}
use Rattle.sd_message.specs.Period.{emms_of}
use Rattle.sd_message.specs.EmmForm.{sections_for}
use Rattle.sd_message.proofs.EmmSharing.{as_many as sections_many}
use Rattle.sd_message.specs.EcmParts.{parts_for, parts_of}
use Rattle.sd_message.specs.EcmVersions.{positions_for}
use Rattle.sd_message.proofs.EcmSharing.{as_many as parts_many}
use Rattle.sd_spec.specs.Plan.{Plan, crypto_length, crypto_of, period_in, period_of}
use Rattle.sd_spec.specs.Carried.{carried}
use Rattle.sd_spec.specs.Kinds.{has_moved, moved_pids, positional_pids}
use Rattle.sd_spec.specs.Messages.{message_at, period_at, places_after}
use Rattle.sd_spec.specs.Sent.{Item, Entitles, Controls, Carries, added, message_before}
use Rattle.sd_spec.specs.Sent.{sent_from, tables_at, tables_before}
use Rattle.sd_spec.proofs.Schedule.{crypto_length_some}
use Rattle.sd_packet.specs.Positions.{is_moving}
use Rattle.sd_law_broadcast.proofs.Fitting.{period_count as sets_many}
use Rattle.sd_run_books.specs.Air.{entitlements_at}
use Rattle.sd_law_plan.proofs.Counts.{begun, none_begins, one_begins, quotient_is, shared, shared_more}
use Rattle.sd_law_plan.proofs.Counts.{shared_none, sum_more}

-- the tables of a packet are the CAT and its period's entitlements
tables_many : (plan : Plan) (k : ℕ) → length (tables_at plan k) ≡ 1 + entitlements_at plan (period_of plan k)
unfolding tables_at
tables_many plan k =
    let q = period_of plan k in
    let emms = emms_of (period_at plan q) in
    let sections = sections_many (period_at plan q) ∙ ap sections_for (sets_many plan q) in
    omega (arith, length-map emms Entitles, sections)

-- the parts of a message after some packets
pub parts_after : (plan : Plan) (before : List (List ℕ)) (a k : ℕ) (closing : Bool) →
    length (map Controls (parts_of (message_at plan before a k closing)))
    ≡ parts_for plan.site.messages (length (moved_pids before))
unfolding message_at places_after
parts_after plan before a k closing =
    length-map (parts_of (message_at plan before a k closing)) Controls
    ∙ parts_many (message_at plan before a k closing)
    ∙ ap (parts_for plan.site.messages) (length-map (moved_pids before) _)

-- a filter that lets more through
filter_grows : (p q : ℕ → Bool) (xs : List ℕ) → ((x : ℕ) → p x ≡ true → q x ≡ true) →
    length (filter p xs) ≤ length (filter q xs)
filter_grows p q [] more = omega arith
filter_grows p q (x ∷ xs) more = by_tests (p x) (q x) (more x) (filter_grows p q xs more)
  where
    by_tests : (a b : Bool) → (a ≡ true → b ≡ true) → length (filter p xs) ≤ length (filter q xs) →
        length (cond a (x ∷ filter p xs) (filter p xs)) ≤ length (cond b (x ∷ filter q xs) (filter q xs))
    by_tests true true same rest = omega (arith, rest)
    by_tests false true same rest = omega (arith, rest)
    by_tests false false same rest = rest
    by_tests true false same rest = absurd (let e = same refl in cc)

-- more PIDs move
pids_grow : (before more : List (List ℕ)) → length (moved_pids before) ≤ length (moved_pids (before ++ more))
unfolding moved_pids
pids_grow before more =
    filter_grows (has_moved before) (has_moved (before ++ more)) positional_pids (λ pid moved.
    list_any-append (is_moving pid) before more ∙ ap (λ (t : Bool). t || list_any (is_moving pid) more) moved)

-- more positions want more parts, and no positions one
pub parts_rise : (v a n : ℕ) → a ≤ n → parts_for v a ≤ parts_for v n
unfolding pieces_for positions_for
parts_rise v a n up = elim (cases_Bool (v == 1)) [
  | inl first ↦ rw first (omega (arith, up))
  | inr later ↦ rw later (omega (arith, up))
]

pub parts_some : (v n : ℕ) → 1 ≤ parts_for v n
unfolding pieces_for
parts_some v n = omega arith

pub one_part : (v n : ℕ) → n ≤ positions_for v → parts_for v n ≡ 1
unfolding pieces_for positions_for
one_part v n few = elim (cases_Bool (v == 1)) [
  | inl first ↦ rw first (omega (arith, rw first at few))
  | inr later ↦ rw later (omega (arith, rw later at few))
]

-- what stands before packet k: tables where a crypto period begins, and so many parts before each e-th packet
unfoldable pub tables_by : Plan → (ℕ → ℕ) → ℕ → ℕ
tables_by plan h k = cond (k % crypto_length plan.site == 0) (h (period_of plan k)) 0

unfoldable pub parts_by : Plan → ℕ → ℕ → ℕ
parts_by plan parts k = cond (k % plan.site.every == 0) parts 0

unfoldable pub own : Plan → ℕ → ℕ
own plan q = 1 + entitlements_at plan q

tables_here : (plan : Plan) (k : ℕ) → length (tables_before plan k) ≡ tables_by plan (own plan) k
unfolding tables_by own
tables_here plan k = by_test (k % crypto_length plan.site == 0)
  where
    by_test : (t : Bool) → length (cond t (tables_at plan k) [])
        ≡ cond t (1 + entitlements_at plan (period_of plan k)) 0
    by_test true = tables_many plan k
    by_test false = refl

message_here : (plan : Plan) (before : List (List ℕ)) →
    length (message_before plan before)
    ≡ parts_by plan (parts_for plan.site.messages (length (moved_pids before))) (length before)
unfolding parts_by
message_here plan before = by_test (length before % plan.site.every == 0)
  where
    by_test : (t : Bool) → length (cond t (map Controls (parts_of (message_at plan before
        (length before / plan.site.every) (length before) false))) [])
        ≡ cond t (parts_for plan.site.messages (length (moved_pids before))) 0
    by_test true = parts_after plan before (length before / plan.site.every) (length before) false
    by_test false = refl

-- what a packet adds
added_many : (plan : Plan) (before : List (List ℕ)) (packet : List ℕ) →
    length (added plan before packet)
    ≡ tables_by plan (own plan) (length before)
    + parts_by plan (parts_for plan.site.messages (length (moved_pids before))) (length before) + 1
unfolding added
added_many plan before packet =
    let last : List Item = Carries (length before) (carried plan.site before packet) ∷ [] in
    omega (
      arith,
      length-append (tables_before plan (length before)) (message_before plan before ++ last),
      length-append (message_before plan before) last,
      tables_here plan (length before),
      message_here plan before,
    )

parts_up : (plan : Plan) (a n k : ℕ) → a ≤ n → parts_by plan a k ≤ parts_by plan n k
unfolding parts_by
parts_up plan a n k up = by_test (k % plan.site.every == 0)
  where
    by_test : (t : Bool) → cond t a 0 ≤ cond t n 0
    by_test true = up
    by_test false = omega arith

-- what packets add after others: at least one part for each message, and at most those of n positions
pub record AreWithin (plan : Plan) (n k count many : ℕ) : Type 0 where
  pub most : many ≤ sum_by (tables_by plan (own plan)) (range_with_len k count)
      + sum_by (parts_by plan (parts_for plan.site.messages n)) (range_with_len k count) + count
  pub least : sum_by (tables_by plan (own plan)) (range_with_len k count)
      + sum_by (parts_by plan 1) (range_with_len k count) + count ≤ many

pub sent_within : (plan : Plan) (n : ℕ) (before packets : List (List ℕ)) → length (moved_pids (before ++ packets)) ≤ n →
    AreWithin plan n (length before) (length packets) (length (sent_from plan before packets))
unfolding sent_from
sent_within plan n before [] few = record { most = omega arith; least = omega arith }
sent_within plan n before (packet ∷ packets) few =
    let k = length before in
    let count = length packets in
    let parts = parts_for plan.site.messages (length (moved_pids before)) in
    let now = added_many plan before packet in
    let up = parts_rise plan.site.messages (length (moved_pids before)) n
    (omega (arith, few, pids_grow before (packet ∷ packets))) in
    let most = parts_up plan parts (parts_for plan.site.messages n) k up in
    let least = parts_up plan 1 parts k (parts_some plan.site.messages (length (moved_pids before))) in
    let long : length (before ++ packet ∷ []) ≡ k + 1 = omega (arith, length-append before (packet ∷ [])) in
    let rest = subst (λ (j : ℕ).
    AreWithin plan n j count (length (sent_from plan (before ++ packet ∷ []) packets))) long
    (sent_within plan n (before ++ packet ∷ []) packets
    (subst (λ (all : List (List ℕ)). length (moved_pids all) ≤ n)
    (sym (append_assoc before (packet ∷ []) packets)) few))
    in
    let both = length-append (added plan before packet) (sent_from plan (before ++ packet ∷ []) packets) in
    let tables = sum_by-cons (tables_by plan (own plan)) k (range_with_len (k + 1) count) in
    record {
      most = omega (
        arith,
        now,
        most,
        rest.most,
        both,
        tables,
        sum_by-cons (parts_by plan (parts_for plan.site.messages n)) k (range_with_len (k + 1) count),
      );
      least = omega (
        arith,
        now,
        least,
        rest.least,
        both,
        tables,
        sum_by-cons (parts_by plan 1) k (range_with_len (k + 1) count),
      );
    }

-- the tables of the first m packets are those of the crypto periods that they begin
none_or_later : (r : ℕ) → (r ≡ 0 → ⊥) → 0 < r
none_or_later zero h = absurd (h refl)
none_or_later (suc r) h = omega arith

pub tables_are : (plan : Plan) (h : ℕ → ℕ) (m : ℕ) → AreInRange plan.site →
    sum_by (tables_by plan h) (range_with_len 0 m) ≡ shared plan h (begun (crypto_length plan.site) m)
unfolding begun tables_by period_of crypto_of
tables_are plan h zero r =
    let some = crypto_length_some plan.site r in
    let none : (0 + crypto_length plan.site - 1) / crypto_length plan.site ≡ 0 =
    quotient_is (0 + crypto_length plan.site - 1) (crypto_length plan.site) 0 (omega arith) (omega (arith, some)) in
    sym (ap (shared plan h) none ∙ shared_none plan h)
tables_are plan h (suc m) r =
    let b = crypto_length plan.site in
    let some = crypto_length_some plan.site r in
    let next : suc m ≡ m + 1 = omega arith in
    let before = tables_are plan h m r in
    ap (λ (k : ℕ). sum_by (tables_by plan h) (range_with_len 0 k)) next
    ∙ sum_more (tables_by plan h) m
    ∙ elim (cases_Bool (m % b == 0)) [
      | inl begins ↦
          let first : m % b ≡ 0 = grind (arith, nat_tests, begins) in
          let one = one_begins b m some first in
          ap (λ (t : Bool). sum_by (tables_by plan h) (range_with_len 0 m) + cond t (h (period_of plan m)) 0) begins
          ∙ ap (λ (x : ℕ). x + h (period_of plan m)) before
          ∙ ap (λ (j : ℕ). shared plan h (begun b m) + h (period_in plan j)) (sym one.0)
          ∙ sym (shared_more plan h (begun b m) (omega (arith, r.span.0)))
          ∙ ap (shared plan h) (sym one.1)
          ∙ ap (λ (k : ℕ). shared plan h (begun b k)) (sym next)
      | inr goes ↦
          let later : 0 < m % b = none_or_later (m % b) (λ none. grind (arith, nat_tests, goes, none)) in
          ap (λ (t : Bool). sum_by (tables_by plan h) (range_with_len 0 m) + cond t (h (period_of plan m)) 0) goes
          ∙ (let same : sum_by (tables_by plan h) (range_with_len 0 m) + 0
          ≡ sum_by (tables_by plan h) (range_with_len 0 m) = omega arith in same)
          ∙ before
          ∙ ap (shared plan h) (sym (none_begins b m some later))
          ∙ ap (λ (k : ℕ). shared plan h (begun b k)) (sym next)
    ]

-- the parts before the first m packets
pub parts_are : (plan : Plan) (parts m : ℕ) → AreInRange plan.site →
    sum_by (parts_by plan parts) (range_with_len 0 m) ≡ begun plan.site.every m * parts
unfolding begun parts_by
parts_are plan parts zero r =
    let some = r.every.0 in
    let none : (0 + plan.site.every - 1) / plan.site.every ≡ 0 =
    quotient_is (0 + plan.site.every - 1) plan.site.every 0 (omega arith) (omega (arith, some)) in
    sym (ap (λ (x : ℕ). x * parts) none ∙ (let zeros : 0 * parts ≡ 0 = omega arith in zeros))
parts_are plan parts (suc m) r =
    let b = plan.site.every in
    let some : 0 < plan.site.every = omega (arith, r.every.0) in
    let next : suc m ≡ m + 1 = omega arith in
    let before = parts_are plan parts m r in
    ap (λ (k : ℕ). sum_by (parts_by plan parts) (range_with_len 0 k)) next
    ∙ sum_more (parts_by plan parts) m
    ∙ elim (cases_Bool (m % b == 0)) [
      | inl begins ↦
          let first : m % b ≡ 0 = grind (arith, nat_tests, begins) in
          let one = one_begins b m some first in
          ap (λ (t : Bool). sum_by (parts_by plan parts) (range_with_len 0 m) + cond t parts 0) begins
          ∙ ap (λ (x : ℕ). x + parts) before
          ∙ sym (times_next (begun b m) parts)
          ∙ ap (λ (x : ℕ). x * parts) (sym one.1)
          ∙ ap (λ (k : ℕ). begun b k * parts) (sym next)
      | inr goes ↦
          let later : 0 < m % b = none_or_later (m % b) (λ none. grind (arith, nat_tests, goes, none)) in
          ap (λ (t : Bool). sum_by (parts_by plan parts) (range_with_len 0 m) + cond t parts 0) goes
          ∙ (let same : sum_by (parts_by plan parts) (range_with_len 0 m) + 0
          ≡ sum_by (parts_by plan parts) (range_with_len 0 m) = omega arith in same)
          ∙ before
          ∙ ap (λ (x : ℕ). x * parts) (sym (none_begins b m some later))
          ∙ ap (λ (k : ℕ). begun b k * parts) (sym next)
    ]
