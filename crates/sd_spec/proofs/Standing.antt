-- Where the tables of a packet's crypto period stand.
use Rattle.std.proofs.Common.{◌≡◌, ℕ, ◌+◌, ◌-◌, ◌*◌, ◌/◌, ◌%◌, ◌<◌, ◌≤◌, ◌==◌, Bool, true}
use Rattle.std.proofs.Common.{List, [], ◌∷◌, ◌++◌, length, take, drop, get_or, if◌then◌else◌}
use Rattle.std.proofs.Common.{sym, ap, ◌∙◌, arith, append_assoc, length-take-le}
use Rattle.std.proofs.lemmas.List.{take-append-drop, take-take, take_more}
use Rattle.std.proofs.Math.Nat.{mul-mod_left}
use Rattle.std.proofs.lemmas.Nat.{div-add-mod'}
use Rattle.std.proofs.lemmas.Bool.Decides.{nat_tests}
use Rattle.sd_spec.specs.Plan.{Plan, crypto_length}
use Rattle.sd_spec.specs.Carried.{carried}
use Rattle.sd_spec.specs.Sent.{Item, Carries, tables_at, message_before, added, sent, sent_from}
use Rattle.sd_spec.proofs.Sending.{sent_in_turn, sent_more}

-- what is sent for the first packets begins what is sent for more
pub sent_begins : (plan : Plan) (clear : List (List ℕ)) (j k : ℕ) → j ≤ k →
    (later : List Item) × (sent plan (take k clear) ≡ sent plan (take j clear) ++ later)
sent_begins plan clear j k below = (
  sent_from plan (take j clear) (drop j (take k clear)),
  ap (sent plan) (sym (cut j k clear below)) ∙ sent_in_turn plan [] (take j clear) (drop j (take k clear)),
)
  where
    cut : (j k : ℕ) (clear : List (List ℕ)) → j ≤ k → take j clear ++ drop j (take k clear) ≡ take k clear
    cut j k clear below =
        ap (λ (b : List (List ℕ)). b ++ drop j (take k clear)) (sym (take-take j k clear below))
        ∙ take-append-drop j (take k clear)

-- one packet more adds what it adds after those before it
sent_at : (plan : Plan) (clear : List (List ℕ)) (k : ℕ) → k < length clear →
    sent plan (take (k + 1) clear) ≡ sent plan (take k clear) ++ added plan (take k clear) (get_or clear k [])
sent_at plan clear k within = ap (sent plan) (take_more clear k [] within)
    ∙ sent_more plan (take k clear) (get_or clear k [])

-- the number of a crypto period's first packet is a multiple of its length
begins_at_multiple : (n k : ℕ) → (k - k % n) % n ≡ 0
begins_at_multiple n k =
    let whole : k - k % n ≡ k / n * n = omega (arith, div-add-mod' k n) in
    rw whole (mul-mod_left (k / n) n)

-- with the first packet of a crypto period its tables are added first
added_begins : (plan : Plan) (before : List (List ℕ)) (packet : List ℕ) → length before % crypto_length plan.site ≡ 0 →
    (later : List Item) × (added plan before packet ≡ tables_at plan (length before) ++ later)
unfolding added
added_begins plan before packet first =
    let test : (length before % crypto_length plan.site == 0) ≡ true = grind (arith, nat_tests, first) in (
      message_before plan before ++ Carries (length before) (carried plan.site before packet) ∷ [],
      ap (λ (b : Bool). (if b then tables_at plan (length before) else [])
          ++ (message_before plan before ++ Carries (length before) (carried plan.site before packet) ∷ [])) test,
    )

-- in what is sent up to packet k, the tables of its crypto period stand after what was sent for the packets before that
pub tables_stand : (plan : Plan) (clear : List (List ℕ)) (k : ℕ) → k < length clear →
    (later : List Item) × (sent plan (take (k + 1) clear)
    ≡ sent plan (take (k - k % crypto_length plan.site) clear)
    ++ (tables_at plan (k - k % crypto_length plan.site) ++ later))
tables_stand plan clear k within =
    let from : ℕ = k - k % crypto_length plan.site in
    let inside : from < length clear = omega (arith, within) in
    let long : length (take from clear) ≡ from = length-take-le from clear (omega (arith, inside)) in
    let begun = added_begins plan (take from clear) (get_or clear from [])
    (ap (λ (n : ℕ). n % crypto_length plan.site) long ∙ begins_at_multiple (crypto_length plan.site) k) in
    let more = sent_begins plan clear (from + 1) (k + 1) (omega arith) in (
      begun.0 ++ more.0,
      more.1 ∙ (ap (λ (xs : List Item). xs ++ more.0) (sent_at plan clear from inside
          ∙ ap (λ (xs : List Item). sent plan (take from clear) ++ xs)
          (begun.1 ∙ ap (λ (n : ℕ). tables_at plan n ++ begun.0) long))
          ∙ (append_assoc (sent plan (take from clear)) (tables_at plan from ++ begun.0) more.0
          ∙ ap (λ (xs : List Item). sent plan (take from clear) ++ xs)
          (append_assoc (tables_at plan from) begun.0 more.0))),
    )
