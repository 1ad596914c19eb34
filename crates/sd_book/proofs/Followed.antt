-- The revoked leaves of a period follow from those of the one before, command by command.
use Rattle.std.proofs.Common.{arith, ◌≡◌, ℕ, zero, suc, ◌+◌, ◌==◌, ◌<◌, ◌≤◌, ◌^◌, List, [], ◌∷◌, ◌++◌, Bool, true}
use Rattle.std.proofs.Common.{false, cond, refl, ap, sym, ◌∙◌, append_assoc, append-nil, inl, inr}
use Rattle.std.specs.Prelude.{not, nat_eq, ◌||◌}
use Rattle.std.specs.List.{range_with_len, filter, list_any}
use Rattle.std.proofs.lemmas.Bool.{cases_lt}
use Rattle.std.proofs.lemmas.Grind.{common_steps}
use Rattle.sd_base.proofs.Ranges.{filter_range}
use Rattle.sd_tree_keys.specs.Leaves.{leaves, with_leaf, without_leaf}
use Rattle.sd_book.specs.declared.command.Command.{Command}
use Rattle.sd_book.specs.declared.command.Command.TheVariants.{Subscribe, Revoke, Period}
use Rattle.sd_book.specs.Commands.{is_revoked, revoked, revoked_after, last_period, commands_until, commands_in}
use Rattle.sd_book.specs.Commands.{entitled, after_command, after_commands}
use Rattle.sd_book.proofs.Tallies.{revoked_more}
use Rattle.sd_book.proofs.Kept.{kept_period}
use Rattle.sd_book.proofs.Places.{first_in, until_next}
use Rattle.sd_book.proofs.Replays.{none_revoked}

-- another number before them changes nothing
among_rest : (b : Bool) (w a : ℕ) (xs : List ℕ) (c : Bool) → (w == a) ≡ false → list_any (nat_eq w) xs ≡ c →
    list_any (nat_eq w) (cond b (a ∷ xs) xs) ≡ c
among_rest true w a xs c other e = rw other e
among_rest false w a xs c other e = e

-- the number itself before them is found
among_here : (b : Bool) (w a : ℕ) (xs : List ℕ) → w ≡ a → list_any (nat_eq w) xs ≡ false →
    list_any (nat_eq w) (cond b (a ∷ xs) xs) ≡ b
among_here true w a xs same e =
    let here : (w == a) ≡ true = grind (arith, common_steps) in
    rw here refl
among_here false w a xs same e = e

-- a number below all is not among them
not_among : (p : ℕ → Bool) (w a n : ℕ) → w < a → list_any (nat_eq w) (filter p (range_with_len a n)) ≡ false
not_among p w a zero h = refl
not_among p w a (suc n) h = among_rest (p a) w a (filter p (range_with_len (a + 1) n)) false
    (grind (arith, common_steps)) (not_among p w (a + 1) n (omega arith))

-- a number is among those that are kept where it passes
among : (p : ℕ → Bool) (w a n : ℕ) → a ≤ w → w < a + n → list_any (nat_eq w) (filter p (range_with_len a n)) ≡ p w
among p w a zero low high = absurd (omega arith)
among p w a (suc n) low high =
    elim (cases_lt a w) [
      | inl lt ↦ among_rest (p a) w a (filter p (range_with_len (a + 1) n)) (p w) (grind (arith, common_steps))
          (among p w (a + 1) n (omega arith) (omega arith))
      | inr le ↦
          let same : a ≡ w = omega arith in
          among_here (p a) w a (filter p (range_with_len (a + 1) n)) (sym same)
          (not_among p w (a + 1) n (omega arith)) ∙ ap p same
    ]

-- one of two, by a test either way round
either : (a b c : Bool) → a ≡ b → (a || c) ≡ cond b true c
either true true c e = refl
either true false c e = absurd cc
either false true c e = absurd cc
either false false c e = refl

-- one number of a filter of a filter
twice_here : (p a b : Bool) (u x : ℕ) (kept rest : List ℕ) → (x == u) ≡ a → a ≡ b → filter (λ w. not (w == u)) kept
    ≡ rest
    → filter (λ w. not (w == u)) (cond p (x ∷ kept) kept) ≡ cond (cond b false p) (x ∷ rest) rest
twice_here true true true u x kept rest is same e = rw is e
twice_here true true false u x kept rest is same e = absurd cc
twice_here true false true u x kept rest is same e = absurd cc
twice_here true false false u x kept rest is same e = rw is (ap (λ (xs : List ℕ). x ∷ xs) e)
twice_here false true true u x kept rest is same e = e
twice_here false true false u x kept rest is same e = absurd cc
twice_here false false true u x kept rest is same e = absurd cc
twice_here false false false u x kept rest is same e = e

-- a leaf that is revoked
with_is : (d : ℕ) (commands : List Command) (u : ℕ) → with_leaf d u (revoked_after d commands) ≡ revoked_after d
    (commands ++ Revoke u ∷ [])
unfolding with_leaf
with_is d commands u =
    filter_range _ _ 0 (2 ^ d)
    (λ x low high. rw (among (is_revoked commands) x 0 (2 ^ d) low high)
    (either (x == u) (u == x) (is_revoked commands x) (grind (arith, common_steps)) ∙
    sym (revoked_more commands (Revoke u) x)))

-- a filter of a filter
kept_twice : (p : ℕ → Bool) (u : ℕ) (xs : List ℕ) → filter (λ w. not (w == u)) (filter p xs) ≡ filter
    (λ w. cond (u == w) false (p w)) xs
kept_twice p u [] = refl
kept_twice p u (x ∷ xs) = twice_here (p x) (x == u) (u == x) u x (filter p xs)
    (filter (λ w. cond (u == w) false (p w)) xs) refl (grind (arith, common_steps)) (kept_twice p u xs)

-- a leaf that is subscribed
without_is : (d : ℕ) (commands : List Command) (u : ℕ) → without_leaf u (revoked_after d commands) ≡ revoked_after d
    (commands ++ Subscribe u ∷ [])
unfolding without_leaf
without_is d commands u =
    kept_twice (is_revoked commands) u (leaves d) ∙ filter_range _ _ 0 (2 ^ d)
    (λ x low high. sym (revoked_more commands (Subscribe u) x))

-- one more command
pub one_follows : (d : ℕ) (commands : List Command) (command : Command) → after_command d (revoked_after d commands)
    command ≡ revoked_after d (commands ++ command ∷ [])
one_follows d commands (Subscribe u) = without_is d commands u
one_follows d commands (Revoke u) = with_is d commands u
one_follows d commands Period = kept_period d commands (revoked_after d commands) refl

-- and more of them
pub all_follow : (d : ℕ) (commands more : List Command) →
    after_commands d (revoked_after d commands) more ≡ revoked_after d (commands ++ more)
all_follow d commands [] = ap (revoked_after d) (sym (append-nil commands))
all_follow d commands (command ∷ more) =
    ap (λ (xs : List ℕ). after_commands d xs more) (one_follows d commands command)
    ∙ all_follow d (commands ++ command ∷ []) more ∙ ap (revoked_after d) (append_assoc commands (command ∷ []) more)

-- period 0
pub first_follows : (d : ℕ) (commands : List Command) → revoked d commands 0 ≡ after_commands d []
    (commands_in commands 0)
first_follows d commands =
    ap (revoked_after d) (first_in commands) ∙ sym (all_follow d [] (commands_in commands 0))
    ∙ ap (λ (xs : List ℕ). after_commands d xs (commands_in commands 0)) (none_revoked 0 (2 ^ d))

-- the next period
pub next_follows : (d q : ℕ) (commands : List Command) → q < last_period commands
    → revoked d commands (q + 1) ≡ after_commands d (revoked d commands q) (commands_in commands (q + 1))
next_follows d q commands h =
    let more : q + 1 ≡ suc q = omega arith in
    rw more (ap (revoked_after d) (until_next q commands h)
    ∙ sym (all_follow d (commands_until q commands) (Period ∷ commands_in commands (suc q))))

-- the entitled leaves are those whose last command is no revoke
pub entitled_is : (d : ℕ) (commands : List Command) (q : ℕ) → entitled d commands q ≡ filter
    (λ u. not (is_revoked (commands_until q commands) u)) (leaves d)
entitled_is d commands q =
    filter_range _ _ 0 (2 ^ d)
    (λ x low high. ap not (among (is_revoked (commands_until q commands)) x 0 (2 ^ d) low high))
