use Rattle.std.proofs.Common.{arith, ◌≡◌, ℕ, zero, suc, ◌+◌, ◌==◌, ◌<◌, ◌≤◌, ◌^◌, List, [], ◌∷◌, ◌++◌, Bool, true}
use Rattle.std.proofs.Common.{false, cond, nat_lt, refl, ap, sym, ◌∙◌, inl, inr}
use Rattle.std.proofs.lemmas.Grind.{common_steps}
use Rattle.std.proofs.lemmas.Bool.{cases_lt}
use Rattle.std.specs.List.{range_with_len, filter}
use Rattle.std.specs.Ordering.{nat_cmp}
use Rattle.std.specs.BTreeMap.{is_at}
use Rattle.std.specs.BTreeSet.{insert_key}
use Rattle.std.specs.Set.{remove_key}
use Rattle.sd_book.specs.declared.command.Command.{Command}
use Rattle.sd_book.specs.declared.command.Command.TheVariants.{Subscribe, Revoke, Period}
use Rattle.sd_book.specs.Commands.{is_revoked, is_within, revoked_after}
use Rattle.sd_book.specs.Tally.{marked_from}
use Rattle.sd_book.proofs.Tallies.{same_marks, marked_leaves, revoked_more}

-- tests that agree from a on keep the same numbers there
pub same_kept : (f g : ℕ → Bool) (a n : ℕ) → ((x : ℕ) → a ≤ x → f x ≡ g x) → filter f (range_with_len a n)
    ≡ filter g (range_with_len a n)
same_kept f g a n h = sym (marked_leaves f a n) ∙ (ap (marked_from a) (same_marks f g a n h) ∙ marked_leaves g a n)

-- a number below another goes before it
before_it : (b : Bool) (u a : ℕ) (xs : List ℕ) → u < a → insert_key nat_cmp xs u ≡ u ∷ xs →
    insert_key nat_cmp (cond b (a ∷ xs) xs) u ≡ u ∷ cond b (a ∷ xs) xs
before_it true u a xs h e =
    let less : nat_lt u a ≡ true = grind (arith, common_steps) in
    rw less refl
before_it false u a xs h e = e

-- a number below all goes first
insert_first : (p : ℕ → Bool) (u a n : ℕ) → u < a → insert_key nat_cmp (filter p (range_with_len a n)) u ≡ u
    ∷ filter p (range_with_len a n)
insert_first p u a zero h = refl
insert_first p u a (suc n) h = before_it (p a) u a (filter p (range_with_len (a + 1) n)) h
    (insert_first p u (a + 1) n (omega arith))

-- a number above another goes after it
after_it : (b : Bool) (u a : ℕ) (xs ys : List ℕ) → a < u → insert_key nat_cmp xs u ≡ ys →
    insert_key nat_cmp (cond b (a ∷ xs) xs) u ≡ cond b (a ∷ ys) ys
after_it true u a xs ys h e =
    let more : nat_lt u a ≡ false = grind (arith, common_steps) in
    let other : (u == a) ≡ false = grind (arith, common_steps) in
    rw more (rw other (ap (λ (zs : List ℕ). a ∷ zs) e))
after_it false u a xs ys h e = e

-- a number goes to its place, where it may stand already
at_place : (b : Bool) (u a : ℕ) (xs : List ℕ) → u ≡ a → insert_key nat_cmp xs u ≡ u ∷ xs →
    insert_key nat_cmp (cond b (a ∷ xs) xs) u ≡ a ∷ xs
at_place true u a xs h e =
    let more : nat_lt u a ≡ false = grind (arith, common_steps) in
    let same : (u == a) ≡ true = grind (arith, common_steps) in
    rw more (rw same refl)
at_place false u a xs h e = e ∙ ap (λ (x : ℕ). x ∷ xs) h

-- with u the numbers are those of a test that lets u pass too
inserted : (f g : ℕ → Bool) (u : ℕ) → ((x : ℕ) → f x ≡ cond (u == x) true (g x)) → (a n : ℕ) → a ≤ u → u < a + n →
    insert_key nat_cmp (filter g (range_with_len a n)) u ≡ filter f (range_with_len a n)
inserted f g u h a zero low high = absurd (omega arith)
inserted f g u h a (suc n) low high =
    elim (cases_lt a u) [
      | inl lt ↦
          let here : f a ≡ g a = grind (arith, common_steps, h a) in
          rw here (after_it (g a) u a (filter g (range_with_len (a + 1) n)) (filter f (range_with_len (a + 1) n)) lt
          (inserted f g u h (a + 1) n (omega arith) (omega arith)))
      | inr le ↦
          let here : f a ≡ true = grind (arith, common_steps, h a) in
          let rest : filter g (range_with_len (a + 1) n) ≡ filter f (range_with_len (a + 1) n) = same_kept g f (a + 1) n
          (λ x m. grind (arith, common_steps, h x)) in
          rw here (at_place (g a) u a (filter g (range_with_len (a + 1) n)) (omega arith)
          (insert_first g u (a + 1) n (omega arith)) ∙ ap (λ (xs : List ℕ). a ∷ xs) rest)
    ]

-- without u, by whether it is the first
without_it : (same b : Bool) (u a : ℕ) (xs ys : List ℕ) → (u == a) ≡ same → remove_key (is_at (nat_cmp u)) xs ≡ ys →
    (same ≡ true → xs ≡ ys) → remove_key (is_at (nat_cmp u)) (cond b (a ∷ xs) xs) ≡ cond (cond same false b) (a ∷ ys) ys
without_it true true u a xs ys s e gone =
    let more : nat_lt u a ≡ false = grind (arith, common_steps) in
    rw more (rw s (gone refl))
without_it true false u a xs ys s e gone = e
without_it false true u a xs ys s e gone =
    elim (cases_lt u a) [
      | inl lt ↦
          let less : nat_lt u a ≡ true = grind (arith, common_steps) in
          rw less (ap (λ (zs : List ℕ). a ∷ zs) e)
      | inr le ↦
          let more : nat_lt u a ≡ false = grind (arith, common_steps) in
          rw more (rw s (ap (λ (zs : List ℕ). a ∷ zs) e))
    ]
without_it false false u a xs ys s e gone = e

-- without u the numbers are those of a test that stops u
removed : (f g : ℕ → Bool) (u : ℕ) → ((x : ℕ) → f x ≡ cond (u == x) false (g x)) → (a n : ℕ) →
    remove_key (is_at (nat_cmp u)) (filter g (range_with_len a n)) ≡ filter f (range_with_len a n)
removed f g u h a zero = refl
removed f g u h a (suc n) =
    let gone : (u == a) ≡ true → filter g (range_with_len (a + 1) n) ≡ filter f (range_with_len (a + 1) n) = λ same.
    same_kept g f (a + 1) n (λ x m. grind (arith, common_steps, h x)) in
    rw (h a) (without_it (u == a) (g a) u a (filter g (range_with_len (a + 1) n)) (filter f (range_with_len (a + 1) n))
    refl (removed f g u h (a + 1) n) gone)

-- a leaf that is revoked
pub kept_revoke : (d : ℕ) (commands : List Command) (u : ℕ) (keys new : List ℕ) → is_within d (Revoke u) ≡ true →
    keys ≡ revoked_after d commands → new ≡ insert_key nat_cmp keys u →
    new ≡ revoked_after d (commands ++ Revoke u ∷ [])
kept_revoke d commands u keys new within kept e =
    let below : u < 2 ^ d = grind (arith, common_steps) in
    e ∙ (ap (λ (xs : List ℕ). insert_key nat_cmp xs u) kept ∙ inserted (is_revoked (commands ++ Revoke u ∷ []))
    (is_revoked commands) u (λ x. revoked_more commands (Revoke u) x) 0 (2 ^ d) (omega arith) (omega arith))

-- a leaf that is subscribed
pub kept_subscribe : (d : ℕ) (commands : List Command) (u : ℕ) (keys new : List ℕ) → keys ≡ revoked_after d commands →
    new ≡ remove_key (is_at (nat_cmp u)) keys → new ≡ revoked_after d (commands ++ Subscribe u ∷ [])
kept_subscribe d commands u keys new kept e = e ∙ (ap (λ (xs : List ℕ). remove_key (is_at (nat_cmp u)) xs) kept ∙
    removed (is_revoked (commands ++ Subscribe u ∷ [])) (is_revoked commands) u
    (λ x. revoked_more commands (Subscribe u) x) 0 (2 ^ d))

-- a Period keeps them all
pub kept_period : (d : ℕ) (commands : List Command) (keys : List ℕ) → keys ≡ revoked_after d commands →
    keys ≡ revoked_after d (commands ++ Period ∷ [])
kept_period d commands keys kept = kept ∙ same_kept (is_revoked commands) (is_revoked (commands ++ Period ∷ [])) 0
    (2 ^ d) (λ x m. sym (revoked_more commands Period x))
