-- The changes from one ascending list to another.
use Rattle.std.proofs.Common.{arith, ◌≡◌, ◌≢◌, ℕ, zero, suc, ◌+◌, ◌==◌, ◌<◌, Bool, true, false, min, List}
use Rattle.std.proofs.Common.{[], ◌∷◌, ◌++◌}
use Rattle.std.proofs.Common.{Some, None, cond, filter, map, nat_lt, refl, sym, ap, ◌∙◌}
use Rattle.std.specs.List.{range_with_len, flat_map}
use Rattle.std.proofs.lemmas.Bool.Decides.{nat_tests}
use Rattle.std.proofs.lemmas.List.Folds.{flat_map-map}
use Rattle.sd_book.specs.declared.command.Command.{Command}
use Rattle.sd_book.specs.declared.command.Command.TheVariants.{Subscribe, Revoke}
use Rattle.sd_book.specs.Text.{book_command_line}
use Rattle.sd_run_books.specs.Apart.{differ}
use Rattle.sd_run_books.specs.Told.{least_leaf}

-- the changes from the list that begins with u to another, if these are those from the rest of it
abbrev merged_onto : ℕ → (List ℕ → List Command) → List ℕ → List Command
merged_onto u rest [] = Subscribe u ∷ rest []
merged_onto u rest (v ∷ vs) =
    cond (u == v) (rest vs) (cond (nat_lt u v) (Subscribe u ∷ rest (v ∷ vs)) (Revoke v ∷ merged_onto u rest vs))

-- the changes from one ascending list to another, ascending: what the first has alone is subscribed, what the second
-- has alone is revoked
abbrev pub merged : List ℕ → List ℕ → List Command
merged [] vs = map Revoke vs
merged (u ∷ us) vs = merged_onto u (merged us) vs

-- both have a number
pub merged_both : (u : ℕ) (us vs : List ℕ) → merged (u ∷ us) (u ∷ vs) ≡ merged us vs
merged_both u us vs =
    let same : (u == u) ≡ true = grind (arith, nat_tests) in
    rw same refl

below_left : (u v : ℕ) (us vs : List ℕ) → u < v → merged (u ∷ us) (v ∷ vs) ≡ Subscribe u ∷ merged us (v ∷ vs)
below_left u v us vs below =
    let other : (u == v) ≡ false = grind (arith, nat_tests, below) in
    let less : nat_lt u v ≡ true = grind (arith, nat_tests, below) in
    rw (other, less) refl

below_right : (u v : ℕ) (us vs : List ℕ) → v < u → merged (u ∷ us) (v ∷ vs) ≡ Revoke v ∷ merged (u ∷ us) vs
below_right u v us vs below =
    let other : (u == v) ≡ false = grind (arith, nat_tests, below) in
    let more : nat_lt u v ≡ false = grind (arith, nat_tests, below) in
    rw (other, more) refl

-- the first alone has the least number
pub merged_left : (u : ℕ) (us vs : List ℕ) → Some u ≡ least_leaf (u ∷ us) vs → ((rest : List ℕ) → vs ≢ u ∷ rest) →
    merged (u ∷ us) vs ≡ Subscribe u ∷ merged us vs
merged_left u us [] least other = refl
merged_left u us (v ∷ vs) least other =
    let is : u ≡ min u v = cc in
    let apart : u ≢ v = λ same. other vs (ap (λ (x : ℕ). x ∷ vs) (sym same)) in
    below_left u v us vs (omega (arith, is, apart))

-- the second alone has it
pub merged_right : (v : ℕ) (us vs : List ℕ) → Some v ≡ least_leaf us (v ∷ vs) → ((rest : List ℕ) → us ≢ v ∷ rest) →
    merged us (v ∷ vs) ≡ Revoke v ∷ merged us vs
merged_right v [] vs least other = refl
merged_right v (u ∷ us) vs least other =
    let is : v ≡ min u v = cc in
    let apart : u ≢ v = λ same. other us (ap (λ (x : ℕ). x ∷ us) same) in
    below_right u v us vs (omega (arith, is, apart))

-- a number before all that a test lets through
alone_left : (test : ℕ → Bool) (u a n : ℕ) (us : List ℕ) → u < a →
    merged (u ∷ us) (filter test (range_with_len a n)) ≡ Subscribe u ∷ merged us (filter test (range_with_len a n))
alone_left test u a zero us below = refl
alone_left test u a (suc n) us below = by_test (test a) (alone_left test u (a + 1) n us (omega (arith, below)))
  where
    vs : List ℕ
    vs = filter test (range_with_len (a + 1) n)

    by_test : (t : Bool) → merged (u ∷ us) vs ≡ Subscribe u ∷ merged us vs →
        merged (u ∷ us) (cond t (a ∷ vs) vs) ≡ Subscribe u ∷ merged us (cond t (a ∷ vs) vs)
    by_test true rest = below_left u a us vs below
    by_test false rest = rest

alone_right : (test : ℕ → Bool) (v a n : ℕ) (vs : List ℕ) → v < a →
    merged (filter test (range_with_len a n)) (v ∷ vs) ≡ Revoke v ∷ merged (filter test (range_with_len a n)) vs
alone_right test v a zero vs below = refl
alone_right test v a (suc n) vs below = by_test (test a) (alone_right test v (a + 1) n vs (omega (arith, below)))
  where
    us : List ℕ
    us = filter test (range_with_len (a + 1) n)

    by_test : (t : Bool) → merged us (v ∷ vs) ≡ Revoke v ∷ merged us vs →
        merged (cond t (a ∷ us) us) (v ∷ vs) ≡ Revoke v ∷ merged (cond t (a ∷ us) us) vs
    by_test true rest = below_right a v us vs below
    by_test false rest = rest

-- the change of a number that one test lets through
abbrev pub change : (ℕ → Bool) → ℕ → Command
change other u = cond (other u) (Revoke u) (Subscribe u)

-- of what two tests let through, the changes are those of the numbers of which one test says yes alone
pub merged_from : (one other : ℕ → Bool) (a n : ℕ) →
    merged (filter one (range_with_len a n)) (filter other (range_with_len a n))
    ≡ map (change other) (filter (λ u. differ (one u) (other u)) (range_with_len a n))
merged_from one other a zero = refl
merged_from one other a (suc n) = by_tests (merged_from one other (a + 1) n) (one a) (other a) refl
  where
    us : List ℕ
    us = filter one (range_with_len (a + 1) n)

    vs : List ℕ
    vs = filter other (range_with_len (a + 1) n)

    apart : List ℕ
    apart = filter (λ u. differ (one u) (other u)) (range_with_len (a + 1) n)

    by_tests : merged us vs ≡ map (change other) apart → (p q : Bool) → other a ≡ q →
        merged (cond p (a ∷ us) us) (cond q (a ∷ vs) vs)
        ≡ map (change other) (cond (differ p q) (a ∷ apart) apart)
    by_tests rest true true is = merged_both a us vs ∙ rest
    by_tests rest true false is =
        alone_left other a (a + 1) n us (omega arith)
        ∙ (ap (λ (cs : List Command). Subscribe a ∷ cs) rest
        ∙ ap (λ (b : Bool). cond b (Revoke a) (Subscribe a) ∷ map (change other) apart) (sym is))
    by_tests rest false true is =
        alone_right one a (a + 1) n vs (omega arith)
        ∙ (ap (λ (cs : List Command). Revoke a ∷ cs) rest
        ∙ ap (λ (b : Bool). cond b (Revoke a) (Subscribe a) ∷ map (change other) apart) (sym is))
    by_tests rest false false is = rest

-- the lines of some commands
abbrev pub lines : List Command → List ℕ
lines commands = flat_map (λ command. book_command_line command ++ 10 ∷ []) commands

-- the lines of all changes
pub lines_are : (one other : ℕ → Bool) (n : ℕ) (us vs : List ℕ) → us ≡ filter one (range_with_len 0 n) →
    vs ≡ filter other (range_with_len 0 n) →
    lines (merged us vs) ≡ flat_map (λ u. book_command_line (change other u) ++ 10 ∷ [])
    (filter (λ u. differ (one u) (other u)) (range_with_len 0 n))
lines_are one other n us vs left right =
    ap lines (ap (λ (xs : List ℕ). merged xs vs) left ∙ ap (merged (filter one (range_with_len 0 n))) right
    ∙ merged_from one other 0 n)
    ∙ flat_map-map (λ (command : Command). book_command_line command ++ 10 ∷ []) (change other)
    (filter (λ u. differ (one u) (other u)) (range_with_len 0 n))

-- nothing is left
pub merged_none : (us vs : List ℕ) → None ≡ least_leaf us vs → merged us vs ≡ []
merged_none [] [] none = refl
merged_none [] (v ∷ vs) none = absurd cc
merged_none (u ∷ us) [] none = absurd cc
merged_none (u ∷ us) (v ∷ vs) none = absurd cc
