-- What a replay keeps.
use Rattle.std.proofs.Common.{arith, ◌≡◌, ℕ, zero, suc, ◌+◌, ◌<◌, ◌≤◌, ◌^◌, List, [], ◌∷◌, ◌++◌, take, drop, get_or}
use Rattle.std.proofs.Common.{length}
use Rattle.std.proofs.Common.{Bool, true, false, cond, Some, inl, inr, refl, subst, ap, sym, ◌∙◌, append_assoc}
use Rattle.std.proofs.Common.{append-nil}
use Rattle.std.specs.Prelude.{All, IsNone, ◌↔◌}
use Rattle.std.proofs.lemmas.Bool.{cases_lt}
use Rattle.std.proofs.lemmas.List.{take-append-drop, take_more}
use Rattle.std.specs.List.{range_with_len, filter}
use Rattle.sd_book.specs.declared.command.Command.{Command}
use Rattle.sd_book.specs.declared.command.Command.TheVariants.{Period}
use Rattle.sd_book.specs.Commands.{is_on, is_revoke, is_revoked, is_within, last_on, last_period, commands_until}
use Rattle.sd_book.specs.Commands.{commands_in, revoked, revoked_after}
use Rattle.sd_book.specs.Limits.{IsWithinLimits}
use Rattle.sd_book.specs.Replay.{IsReplay, decided_before}
use Rattle.sd_book.proofs.Kept.{same_kept}
use Rattle.sd_book.proofs.Places.{first_in, until_next, within_in}
use Rattle.sd_book.proofs.Tallies.{revoked_more}

-- no leaf is revoked at first
pub none_revoked : (a n : ℕ) → filter (is_revoked []) (range_with_len a n) ≡ []
unfolding last_on
none_revoked a zero = refl
none_revoked a (suc n) = none_revoked (a + 1) n

-- a replay that has taken no command
pub none_taken : (d : ℕ) (commands : List Command) → IsReplay d commands 0 []
none_taken d commands = record { taken = []; revoked = sym (none_revoked 0 (2 ^ d)); again = λ u. refl }

-- whether a leaf is revoked after more commands, by whether it was before them
abbrev run : ℕ → Bool → List Command → Bool
run u before [] = before
run u before (command ∷ more) = run u (cond (is_on u command) (is_revoke command) before) more

run_is : (before more : List Command) (u : ℕ) → is_revoked (before ++ more) u ≡ run u (is_revoked before u) more
unfolding last_on
run_is before [] u = ap (λ (cs : List Command). is_revoked cs u) (append-nil before)
run_is before (command ∷ more) u =
    ap (λ (cs : List Command). is_revoked cs u) (sym (append_assoc before (command ∷ []) more))
    ∙ run_is (before ++ command ∷ []) more u
    ∙ ap (λ (b : Bool). run u b more) (revoked_more before command u)

-- commands that begin with those that were taken decide as if none was, by whether the first is on the leaf
again_here : (u : ℕ) (before on : Bool) (command : Command) (some rest : List Command) → is_on u command ≡ on →
    run u (run u before some) rest ≡ run u before rest →
    run u (run u (cond (is_on u command) (is_revoke command) before) some) (command ∷ rest) ≡
    run u (cond (is_on u command) (is_revoke command) before) rest
again_here u before true command some rest is e = rw is refl
again_here u before false command some rest is e = rw is e

run_again : (u : ℕ) (before : Bool) (some more : List Command) → run u (run u before some) (some ++ more)
    ≡ run u before (some ++ more)
run_again u before [] more = refl
run_again u before (command ∷ some) more =
    again_here u before (is_on u command) command some (some ++ more) refl (run_again u before some more)

-- so taking them anew comes to the same
taken_again : (before some more : List Command) (u : ℕ) →
    is_revoked ((before ++ some) ++ (some ++ more)) u ≡ is_revoked (before ++ (some ++ more)) u
taken_again before some more u =
    run_is (before ++ some) (some ++ more) u
    ∙ ap (λ (b : Bool). run u b (some ++ more)) (run_is before some u)
    ∙ run_again u (is_revoked before u) some more
    ∙ sym (run_is before (some ++ more) u)

first_again : (before period : List Command) (count u : ℕ) →
    is_revoked ((before ++ take count period) ++ period) u ≡ is_revoked (before ++ period) u
first_again before period count u =
    subst (λ (cs : List Command). is_revoked ((before ++ take count period) ++ cs) u ≡ is_revoked (before ++ cs) u)
    (take-append-drop count period) (taken_again before (take count period) (drop count period) u)

-- the commands before a period and those of it decide it
period_decides : (commands : List Command) (q u : ℕ) → q ≤ last_period commands →
    is_revoked (decided_before commands q ++ commands_in commands q) u ≡ is_revoked (commands_until q commands) u
period_decides commands zero u h = ap (λ (cs : List Command). is_revoked cs u) (sym (first_in commands))
period_decides commands (suc q) u h =
    run_is (commands_until q commands) (commands_in commands (suc q)) u
    ∙ sym (run_is (commands_until q commands) (Period ∷ commands_in commands (suc q)) u)
    ∙ ap (λ (cs : List Command). is_revoked cs u) (sym (until_next q commands (omega arith)))

-- what is kept when the commands of a period are taken
pub period_kept : (d : ℕ) (commands : List Command) (q : ℕ) (kept : List ℕ) (replay : IsReplay d commands q kept)
    (new : List ℕ) →
    q ≤ last_period commands → new ≡ revoked_after d (replay.taken ++ commands_in commands q) →
    new ≡ revoked d commands q
period_kept d commands q kept replay new h e =
    e ∙ same_kept _ _ 0 (2 ^ d) (λ u low. replay.again u ∙ period_decides commands q u h)

-- or some of them
pub some_kept : (d : ℕ) (commands : List Command) (q : ℕ) (kept : List ℕ) (replay : IsReplay d commands q kept)
    (new : List ℕ) (count : ℕ) →
    new ≡ revoked_after d (replay.taken ++ take count (commands_in commands q)) → IsReplay d commands q new
some_kept d commands q kept replay new count e =
    record {
      taken = replay.taken ++ take count (commands_in commands q);
      revoked = e;
      again = λ u. first_again replay.taken (commands_in commands q) count u ∙ replay.again u;
    }

-- a replay stands at the next period
pub next_kept : (d : ℕ) (commands : List Command) (q : ℕ) (kept : List ℕ) → kept ≡ revoked d commands q →
    IsReplay d commands (q + 1) kept
next_kept d commands q kept e =
    let more : suc q ≡ q + 1 = omega arith in
    subst (λ (n : ℕ). IsReplay d commands n kept) more
    (record { taken = commands_until q commands; revoked = e; again = λ u. refl })

-- one more command is taken
pub one_taken : (d : ℕ) (before commands : List Command) (i : ℕ) (command : Command) (new : List ℕ) →
    i < length commands →
    get_or commands i command ≡ command → new ≡ revoked_after d ((before ++ take i commands) ++ command ∷ []) →
    new ≡ revoked_after d (before ++ take (i + 1) commands)
one_taken d before commands i command new h at e =
    let longer : take (i + 1) commands ≡ take i commands ++ command ∷ [] =
    take_more commands i command h ∙ ap (λ (c : Command). take i commands ++ c ∷ []) at in
    e ∙ ap (revoked_after d) (append_assoc before (take i commands) (command ∷ []) ∙
    ap (λ (cs : List Command). before ++ cs) (sym longer))

-- where memory ran out among the commands of a period
pub stopped : (d : ℕ) (commands : List Command) (q : ℕ) (old new : List ℕ) (period : List Command) →
    IsWithinLimits d commands →
    IsReplay d commands q old → period ≡ commands_in commands q →
    ((before : List Command) → old ≡ revoked_after d before → All (λ command. is_within d command ≡ true) period →
    (count : ℕ) × (new ≡ revoked_after d (before ++ take count period))) →
    IsReplay d commands q new
stopped d commands q old new period limits replay same takes =
    let leaves : All (λ command. is_within d command ≡ true) period =
    subst (λ (cs : List Command). All (λ command. is_within d command ≡ true) cs) (sym same)
    (within_in d commands q limits.leaves) in
    let some = takes replay.taken replay.revoked leaves in
    some_kept d commands q old replay new some.0
    (some.1 ∙ ap (λ (cs : List Command). revoked_after d (replay.taken ++ take some.0 cs)) same)

-- where all commands of a period were taken
pub gone_over : (d : ℕ) (commands : List Command) (q : ℕ) (old new : List ℕ) (period : List Command) →
    IsWithinLimits d commands →
    IsReplay d commands q old → q ≤ last_period commands → period ≡ commands_in commands q →
    ((before : List Command) → old ≡ revoked_after d before → All (λ command. is_within d command ≡ true) period →
    new ≡ revoked_after d (before ++ period)) →
    new ≡ revoked d commands q
gone_over d commands q old new period limits replay h same takes =
    let leaves : All (λ command. is_within d command ≡ true) period =
    subst (λ (cs : List Command). All (λ command. is_within d command ≡ true) cs) (sym same)
    (within_in d commands q limits.leaves) in
    period_kept d commands q old replay new h
    (takes replay.taken replay.revoked leaves ∙ ap (λ (cs : List Command). revoked_after d (replay.taken ++ cs))
    same)

-- a period that is there is not after the last
pub is_there : {A : Type 0} (x : A) (q last : ℕ) → (IsNone (Some x) ↔ (last < q)) → q ≤ last
is_there x q last none =
    elim (cases_lt last q) [
      | inl lt ↦ let gone = none.1 lt in absurd cc
      | inr le ↦ le
    ]
