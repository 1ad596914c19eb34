-- The revoked leaves of an index that takes commands.
use Rattle.std.proofs.Common.{arith, ◌≡◌, ℕ, zero, suc, ◌+◌, ◌==◌, ◌<◌, ◌≤◌, ◌^◌, List, [], ◌∷◌, ◌++◌, true, false}
use Rattle.std.proofs.Common.{append_assoc, get_or, length, take}
use Rattle.std.proofs.Common.{refl, ap, sym, subst, eqb-true, ◌∙◌, inl, inr, Contains}
use Rattle.std.specs.Prelude.{◌||◌, IsTrue, not, nat_eq, Result, Ok, Err, OnOk}
use Rattle.std.specs.List.{filter, list_any}
use Rattle.std.proofs.lemmas.Bool.{cases_Bool}
use Rattle.std.proofs.lemmas.List.{take_more}
use Rattle.std.proofs.lemmas.Grind.{common_steps}
use Rattle.sd_tree_keys.specs.Leaves.{leaves, with_leaf, without_leaf}
use Rattle.sd_book.specs.declared.command.Command.{Command}
use Rattle.sd_book.specs.declared.command.Command.TheVariants.{Subscribe, Revoke}
use Rattle.sd_book.specs.Commands.{is_revoked, revoked, revoked_after, after_commands, commands_in, commands_until}
use Rattle.sd_book.specs.Commands.{last_period}
use Rattle.sd_book.proofs.Followed.{one_follows, first_follows, next_follows, all_follow}
use Rattle.sd_book.proofs.Replays.{none_revoked}
use Rattle.sd_head.specs.Kept.{revoked_before}
use Rattle.sd_cover_tracing.proofs.Ranges.{filter_same, passes, found}

-- false doesn't hold
pub false_untrue : IsTrue false → ⊥
false_untrue h = cc

-- a leaf that isn't among others is not missed
none_gone : (u : ℕ) (xs : List ℕ) → list_any (nat_eq u) xs ≡ false → filter (λ w. not (w == u)) xs ≡ xs
none_gone u [] h = refl
none_gone u (x ∷ xs) h =
    elim (cases_Bool (nat_eq u x)) [
      | inl same ↦ absurd (grind (arith, common_steps))
      | inr other ↦
          let apart : (x == u) ≡ false = grind (arith, common_steps) in
          let rest : list_any (nat_eq u) xs ≡ false = grind (arith, common_steps) in
          rw apart (ap (λ (ys : List ℕ). x ∷ ys) (none_gone u xs rest))
    ]

-- a leaf that isn't revoked is not missed
pub not_there : (u : ℕ) (leaves : List ℕ) → (Contains leaves u → ⊥) → without_leaf u leaves ≡ leaves
unfolding without_leaf
not_there u leaves h =
    elim (cases_Bool (list_any (nat_eq u) leaves)) [
      | inl there ↦ absurd (h ((found u leaves).0 there))
      | inr none ↦ none_gone u leaves none
    ]

-- a leaf that is subscribed
pub subscribed : (d u : ℕ) (before : List Command) (old now : List ℕ) → old ≡ revoked_after d before →
    now ≡ without_leaf u old → now ≡ revoked_after d (before ++ Subscribe u ∷ [])
unfolding without_leaf
subscribed d u before old now is e =
    e ∙ (ap (λ (xs : List ℕ). filter (λ w. not (w == u)) xs) is ∙ one_follows d before (Subscribe u))

-- a leaf that is revoked
pub revoked_now : (d u : ℕ) (before : List Command) (old now : List ℕ) → old ≡ revoked_after d before →
    now ≡ with_leaf d u old → now ≡ revoked_after d (before ++ Revoke u ∷ [])
unfolding with_leaf
revoked_now d u before old now is e =
    e ∙ (ap (λ (xs : List ℕ). filter (λ w. w == u || list_any (nat_eq w) xs) (leaves d)) is
    ∙ one_follows d before (Revoke u))

-- one that is revoked again
pub there_already : (d u : ℕ) (before : List Command) (old : List ℕ) → old ≡ revoked_after d before →
    Contains old u → old ≡ revoked_after d (before ++ Revoke u ∷ [])
unfolding with_leaf
there_already d u before old is there = is ∙ (sym again ∙ one_follows d before (Revoke u))
  where
    passed : (w : ℕ) → w < 2 ^ d → (w == u || list_any (nat_eq w) (revoked_after d before)) ≡ is_revoked before w
    passed w h =
        let same = passes (is_revoked before) 0 (2 ^ d) w (omega arith) (omega (arith, h)) in
        let here = (found u old).1 there in
        elim (cases_Bool (w == u)) [
          | inl yes' ↦
              let e : w ≡ u = eqb-true w u yes' in
              let in_old : list_any (nat_eq u) (revoked_after d before) ≡ true =
              subst (λ (xs : List ℕ). list_any (nat_eq u) xs ≡ true) is here in
              rw yes' (sym (sym same
              ∙ subst (λ (x : ℕ). list_any (nat_eq x) (revoked_after d before) ≡ true) (sym e) in_old))
          | inr no' ↦ rw no' same
        ]

    again : filter (λ w. w == u || list_any (nat_eq w) (revoked_after d before)) (leaves d) ≡ revoked_after d before
    again = filter_same (λ w. w == u || list_any (nat_eq w) (revoked_after d before)) (is_revoked before) 0 (2 ^ d)
        (λ w h. passed w (omega (arith, h)))

-- one command more is taken
pub one_taken : (before commands : List Command) (i : ℕ) (command : Command) → i < length commands →
    command ≡ get_or commands i command → (before ++ take i commands) ++ command ∷ [] ≡ before ++ take (i + 1) commands
one_taken before commands i command within is =
    append_assoc before (take i commands) (command ∷ [])
    ∙ ap (λ (cs : List Command). before ++ cs) (ap (λ (c : Command). take i commands ++ c ∷ []) is
    ∙ sym (take_more commands i command within))

-- the commands of a period lead to its revoked leaves
pub period_taken : (d q : ℕ) (commands : List Command) (old now : List ℕ) → q ≤ last_period commands →
    ((before : List Command) → old ≡ revoked_after d before →
    now ≡ revoked_after d (before ++ commands_in commands q)) →
    old ≡ revoked_before d commands q → now ≡ revoked d commands q
period_taken d zero commands old now within kept is =
    kept [] (is ∙ sym (none_revoked 0 (2 ^ d))) ∙ (sym (all_follow d [] (commands_in commands 0))
    ∙ (ap (λ (xs : List ℕ). after_commands d xs (commands_in commands 0)) (none_revoked 0 (2 ^ d))
    ∙ sym (first_follows d commands)))
period_taken d (suc q) commands old now within kept is =
    let one : q + 1 ≡ suc q = omega arith in
    kept (commands_until q commands) is ∙ (sym (all_follow d (commands_until q commands) (commands_in commands (suc q)))
    ∙ subst (λ (p : ℕ). after_commands d (revoked d commands q) (commands_in commands p) ≡ revoked d commands p) one
    (sym (next_follows d q commands (omega (arith, within)))))

-- and where memory may run out
pub period_taken_ok : {T E : Type 0} (result : Result T E) (d q : ℕ) (commands : List Command) (old now : List ℕ) →
    q ≤ last_period commands → ((before : List Command) → old ≡ revoked_after d before →
    OnOk result (now ≡ revoked_after d (before ++ commands_in commands q))) →
    old ≡ revoked_before d commands q → OnOk result (now ≡ revoked d commands q)
period_taken_ok (Ok x) d q commands old now within kept is = period_taken d q commands old now within kept is
period_taken_ok (Err e) d q commands old now within kept is = tt
