-- How many keys were taken.
use Rattle.std.proofs.Common.{◌≡◌, refl, ℕ, zero, suc, ◌+◌, ◌<◌, ◌≤◌, ◌==◌, ◌&&◌, ◌||◌, Bool, true, false, not}
use Rattle.std.proofs.Common.{List, [], ◌∷◌, length, Option, Some, None, arith, ap, ◌∙◌, inl, inr, ◌⊎◌}
use Rattle.std.proofs.Common.{if◌then◌else◌}
use Rattle.std.specs.Option.{option_map_or}
use Rattle.std.proofs.lemmas.Bool.{cases_Bool, cases_eq}
use Rattle.std.proofs.lemmas.Bool.Decides.{nat_tests}
use Rattle.sd_site_cards.specs.CardFields.{CardFields}
use Rattle.sd_spec.specs.Tuned.{tuning_of}
use Rattle.sd_psi.specs.declared.our_cat.Tuning.{Tuning}
use Rattle.sd_spec.specs.Heard.{Heard, hears}
use Rattle.sd_spec.specs.Stretches.{is_closed}
use Rattle.sd_spec.specs.Runs.{is_turn}
use Rattle.sd_spec.specs.Offered.{heard, heard_with, heard_more}
use Rattle.sd_spec.specs.Ending.{turns_at}
use Rattle.sd_spec.specs.Taken.{takes_key_in}
use Rattle.sd_spec.proofs.Runs.{same_run}
use Rattle.sd_law_losses.specs.Taken.{takes_key_of, takes_key_at, taken_keys, how_many}
use Rattle.sd_law_losses.proofs.Writing.{onto}
use Rattle.sd_law_losses.proofs.OneRun.{AreOneRun, one_before}

-- the keys that were taken of what was heard
abbrev pub keys_of : CardFields → List Heard → ℕ
keys_of card [] = 0
keys_of card (thing ∷ past) = keys_of card past + (if takes_key_of card past thing then 1 else 0)

-- tests that agree count the same
pub how_many_agree : (f g : ℕ → Bool) (n : ℕ) → ((q : ℕ) → f q ≡ g q) → how_many f n ≡ how_many g n
unfolding how_many
how_many_agree f g zero same = refl
how_many_agree f g (suc n) same = rw (same n) (ap (λ (m : ℕ). m + (if g n then 1 else 0)) (how_many_agree f g n same))

-- the test that number p passes too
abbrev pub with_one : (ℕ → Bool) → ℕ → Bool → ℕ → Bool
with_one f p b q = f q || ((p == q) && b)

below_it : (f : ℕ → Bool) (p n : ℕ) (b : Bool) → n ≤ p → how_many (with_one f p b) n ≡ how_many f n
unfolding how_many
below_it f p zero b low = refl
below_it f p (suc n) b low =
    let other : (p == n) ≡ false = grind (arith, nat_tests, low) in
    rw other (ap (λ (c : Bool). how_many (with_one f p b) n + (if c then 1 else 0)) (or_none (f n))
    ∙ ap (λ (m : ℕ). m + (if f n then 1 else 0)) (below_it f p n b (omega (arith, low))))
  where
    or_none : (c : Bool) → (c || false) ≡ c
    or_none true = refl
    or_none false = refl

-- one number more passes where it didn't
pub how_many_more : (f : ℕ → Bool) (p n : ℕ) (b : Bool) → p < n →
    how_many (with_one f p b) n ≡ how_many f n + (if not (f p) && b then 1 else 0)
unfolding how_many
how_many_more f p zero b within = absurd (omega (arith, within))
how_many_more f p (suc n) b within = by_place (cases_eq p n) (λ less. how_many_more f p n b less)
  where
    at_it : (c : Bool) → (if c || b then 1 else 0) ≡ (if c then 1 else 0) + (if not c && b then 1 else 0)
    at_it true = refl
    at_it false = by_b b
      where
        by_b : (b : Bool) → (if b then 1 else 0) ≡ 0 + (if b then 1 else 0)
        by_b true = refl
        by_b false = refl

    or_none : (c : Bool) → (c || false) ≡ c
    or_none true = refl
    or_none false = refl

    by_place : (p ≡ n) ⊎ (p ≡ n → ⊥) →
        (p < n → how_many (with_one f p b) n ≡ how_many f n + (if not (f p) && b then 1 else 0)) →
        how_many (with_one f p b) n + (if with_one f p b n then 1 else 0)
        ≡ (how_many f n + (if f n then 1 else 0)) + (if not (f p) && b then 1 else 0)
    by_place (inl here) rest =
        let itself : (p == n) ≡ true = grind (arith, nat_tests, here) in
        let same : f p ≡ f n = ap f here in
        let before = below_it f p n b (omega (arith, here)) in
        rw itself (rw same (omega (arith, before, at_it (f n))))
    by_place (inr other) rest =
        let apart : (p == n) ≡ false = grind (arith, nat_tests, other) in
        let before = rest (omega (arith, within, other)) in
        rw apart (rw (or_none (f n)) (omega (arith, before)))

-- none passes
pub how_many_none : (f : ℕ → Bool) (n : ℕ) → ((q : ℕ) → f q ≡ false) → how_many f n ≡ 0
unfolding how_many
how_many_none f zero none = refl
how_many_none f (suc n) none = rw (none n) (omega (arith, how_many_none f n none))

-- tests that agree below a bound
pub how_many_below : (f g : ℕ → Bool) (n : ℕ) → ((q : ℕ) → q < n → f q ≡ g q) → how_many f n ≡ how_many g n
unfolding how_many
how_many_below f g zero same = refl
how_many_below f g (suc n) same =
    rw (same n (omega arith)) (ap (λ (m : ℕ). m + (if g n then 1 else 0)) (how_many_below f g n (λ q below. same q
    (omega (arith, below)))))

-- one thing more of the run at hand
one_more_taken : (card : CardFields) (past : List Heard) (thing : Heard) → is_turn past thing ≡ false →
    keys_of card (heard_more past thing) ≡ keys_of card past + (if takes_key_in card past thing then 1 else 0)
one_more_taken card past thing straight = rw (same_run past thing straight) (by_closed (cases_Bool (is_closed past)))
  where
    by_closed : (is_closed past ≡ true) ⊎ (is_closed past ≡ false) →
        keys_of card (if is_closed past then past else thing ∷ past)
        ≡ keys_of card past + (if (if is_closed past then false else takes_key_of card past thing) then 1 else 0)
    by_closed (inl closed) = rw closed (omega arith)
    by_closed (inr opened) = rw opened refl

-- one packet more of what is heard
one_taken : (card : CardFields) (past : List (List ℕ)) (packet : List ℕ) → turns_at card past packet ≡ false →
    keys_of card (heard card (packet ∷ past))
    ≡ keys_of card (heard card past) + (if takes_key_at card past packet then 1 else 0)
unfolding heard takes_key_at turns_at
one_taken card past packet straight = by_tuning (tuning_of card.ca past) straight
  where
    by_tuning : (t : Option Tuning) →
        option_map_or (λ tuning. is_turn (heard card past) (hears card.height tuning (length past) packet)) t false
        ≡ false →
        keys_of card (heard_with card t (length past) packet (heard card past))
        ≡ keys_of card (heard card past) + (if option_map_or (λ tuning. takes_key_in card (heard card past)
        (hears card.height tuning (length past) packet)) t false then 1 else 0)
    by_tuning None straight = omega arith
    by_tuning (Some tuning) straight =
        one_more_taken card (heard card past) (hears card.height tuning (length past) packet) straight

-- the keys that packets of one run take are those of what is heard of them
pub taken_heard : (card : CardFields) (packets past : List (List ℕ)) → AreOneRun card (onto packets past) →
    taken_keys card past packets + keys_of card (heard card past) ≡ keys_of card (heard card (onto packets past))
unfolding taken_keys
taken_heard card [] past one = omega arith
taken_heard card (packet ∷ packets) past one =
    omega (
      arith,
      taken_heard card packets (packet ∷ past) one,
      one_taken card past packet (one_before card packets (packet ∷ past) one).0,
    )
