-- The packets kept between two messages, as a choice of the clear packets there.
use Rattle.std.proofs.Common.{◌≡◌, refl, ℕ, zero, suc, ◌+◌, ◌<◌, ◌≤◌, Bool, true, false, List, [], ◌∷◌}
use Rattle.std.proofs.Common.{map, filter, length, take, drop, get_or, arith, ap, ◌∙◌, inl, inr, ◌⊎◌}
use Rattle.std.specs.Prelude.{if◌then◌else◌}
use Rattle.std.specs.List.{range_with_len}
use Rattle.std.proofs.lemmas.List.{drop_more}
use Rattle.std.proofs.lemmas.Bool.{cases_Bool}
use Rattle.sd_packet.specs.Positions.{moved, moved_by}
use Rattle.sd_law_losses.specs.Chosen.{chosen}
use Rattle.sd_law_losses.specs.Confirmed.{packets_at}

-- the packets of those numbers of a range that pass a test are chosen by it
pub chosen_numbers : (f : ℕ → Bool) (ps : List (List ℕ)) (low n : ℕ) → low + n ≤ length ps →
    packets_at ps (filter f (range_with_len low n)) ≡ chosen (map f (range_with_len low n)) (take n (drop low ps))
unfolding chosen
chosen_numbers f ps low zero within = refl
chosen_numbers f ps low (suc n) within =
    let here : drop low ps ≡ get_or ps low [] ∷ drop (low + 1) ps = drop_more ps low [] (omega (arith, within)) in
    rw here (by_test (cases_Bool (f low)) (chosen_numbers f ps (low + 1) n (omega (arith, within))))
  where
    by_test : (f low ≡ true) ⊎ (f low ≡ false) →
        packets_at ps (filter f (range_with_len (low + 1) n))
        ≡ chosen (map f (range_with_len (low + 1) n)) (take n (drop (low + 1) ps)) →
        packets_at ps (filter f (range_with_len low (suc n)))
        ≡ (if f low then get_or ps low [] ∷ chosen (map f (range_with_len (low + 1) n)) (take n (drop (low + 1) ps))
        else chosen (map f (range_with_len (low + 1) n)) (take n (drop (low + 1) ps)))
    by_test (inl is) rest = rw is (ap (λ (xs : List (List ℕ)). get_or ps low [] ∷ xs) rest)
    by_test (inr is) rest = rw is rest

-- packets that move a PID alike lead to one position
pub moved_alike : (pid : ℕ) (f g : ℕ → List ℕ) (test : ℕ → Bool) (s n : ℕ) →
    ((j x : ℕ) → s ≤ j → j < s + n → moved pid x (f j) ≡ moved pid x (g j)) → (x : ℕ) →
    moved_by pid x (map f (filter test (range_with_len s n))) ≡ moved_by pid x (map g (filter test
    (range_with_len s n)))
unfolding moved_by
moved_alike pid f g test s zero alike x = refl
moved_alike pid f g test s (suc n) alike x = by_test (cases_Bool (test s))
    (moved_alike pid f g test (s + 1) n (λ j y low high. alike j y (omega (arith, low)) (omega (arith, high))))
  where
    by_test : (test s ≡ true) ⊎ (test s ≡ false) →
        ((y : ℕ) → moved_by pid y (map f (filter test (range_with_len (s + 1) n)))
        ≡ moved_by pid y (map g (filter test (range_with_len (s + 1) n)))) →
        moved_by pid x (map f (filter test (range_with_len s (suc n))))
        ≡ moved_by pid x (map g (filter test (range_with_len s (suc n))))
    by_test (inl is) rest = rw is
        (ap (λ (y : ℕ). moved_by pid y (map f (filter test (range_with_len (s + 1) n)))) (alike s x (omega arith)
        (omega arith))
        ∙ rest (moved pid x (g s)))
    by_test (inr is) rest = rw is (rest x)
