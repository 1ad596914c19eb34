-- What is kept of the lines so far, with one line more.
use Rattle.std.proofs.Common.{arith, ◌≡◌, ◌==◌, ℕ, ◌<◌, ◌^◌, ◌||◌, Bool, true, false, List, [], ◌∷◌, ◌++◌}
use Rattle.std.proofs.Common.{Option, Some, None, refl, sym, ap, ◌∙◌}
use Rattle.std.proofs.lemmas.Bool.{eqb-true, eqb-false}
use Rattle.std.proofs.lemmas.Grind.{get_or-set_at}
use Rattle.std.proofs.lemmas.List.{get_or-set_other, length-set, length-replicate}
use Rattle.std.proofs.lemmas.List.Folds.{list_any-append}
use Rattle.std.specs.Prelude.{bytes_eq, slice_set, replicate, if◌then◌else◌}
use Rattle.std.specs.Cmp.Lexicographic.{bytes_decides, nat_list_eq_equiv}
use Rattle.sd_base.proofs.Bools.{or_true, or_false}
use Rattle.sd_base.proofs.Lists.{unmarked}
use Rattle.sd_run_books.specs.Line.{Entry, Assigns, Drops, Restores, Ends}
use Rattle.sd_run_books.specs.Bound.{leaf_on, leaf_of, first_number_there, holds, is_held}
use Rattle.sd_run_books.specs.Kept.{IsBelow, leaf_of_name_after, marks_after, mark_of, AreAccountsKept}

-- of one that is there or nothing
none_after : (o : Option ℕ) → first_number_there o None ≡ o
none_after None = refl
none_after (Some u) = refl

-- no line binds nothing
pub kept_none : (d : ℕ) (leaf_for : List ℕ → Option ℕ) (marks : List Bool) → ((name : List ℕ) → leaf_for name ≡ None) →
    marks ≡ replicate (2 ^ d) false → AreAccountsKept d [] leaf_for marks
kept_none d leaf_for marks none is = record {
  full = rw is (length-replicate (2 ^ d) false);
  leaves = none;
  held = λ u low. rw is (unmarked (2 ^ d) u);
  within = λ name u e. absurd cc;
}

-- the leaf of a name, with one line more
pub leaf_more : (name : List ℕ) (before : List (Option Entry)) (said : Option Entry) →
    leaf_of name (before ++ said ∷ []) ≡ first_number_there (leaf_of name before) (leaf_on name said)
leaf_more name [] said = none_after (leaf_on name said)
leaf_more name (one ∷ before) said = rw (leaf_more name before said) (shifted (leaf_on name one))
  where
    shifted : (o : Option ℕ) → first_number_there o (first_number_there (leaf_of name before) (leaf_on name said)) ≡
        first_number_there (first_number_there o (leaf_of name before)) (leaf_on name said)
    shifted None = refl
    shifted (Some u) = refl

-- whether a leaf is bound, with one line more
held_more : (u : ℕ) (before : List (Option Entry)) (said : Option Entry) →
    is_held u (before ++ said ∷ []) ≡ (is_held u before || holds u said)
held_more u before said = list_any-append (holds u) before (said ∷ []) ∙
    ap (λ b. is_held u before || b) (or_false (holds u said))

-- a line that binds nothing
same_more : (d : ℕ) (before : List (Option Entry)) (said : Option Entry) (leaf_for new : List ℕ → Option ℕ)
    (marks : List Bool) → ((name : List ℕ) → leaf_on name said ≡ None) → ((u : ℕ) → holds u said ≡ false) →
    ((name : List ℕ) → new name ≡ leaf_for name) → AreAccountsKept d before leaf_for marks →
    AreAccountsKept d (before ++ said ∷ []) new marks
same_more d before said leaf_for new marks none free same kept = record {
  full = kept.full;
  leaves = λ name. same name ∙ kept.leaves name ∙ sym (one name);
  held = λ u low. kept.held u low ∙ sym (still u);
  within = λ name u e. kept.within name u (sym (one name) ∙ e);
}
  where
    one : (name : List ℕ) → leaf_of name (before ++ said ∷ []) ≡ leaf_of name before
    one name = leaf_more name before said ∙ ap (first_number_there (leaf_of name before)) (none name) ∙
        none_after (leaf_of name before)

    still : (u : ℕ) → is_held u (before ++ said ∷ []) ≡ is_held u before
    still u = held_more u before said ∙ ap (λ b. is_held u before || b) (free u) ∙ or_false (is_held u before)

-- a line that binds a free name to a leaf of the tree
bound_more : (d : ℕ) (before : List (Option Entry)) (other : List ℕ) (leaf : ℕ) (leaf_for new : List ℕ → Option ℕ)
    (marks : List Bool) → leaf < 2 ^ d → leaf_for other ≡ None →
    ((name : List ℕ) → new name ≡ leaf_of_name_after (Assigns other leaf) leaf_for name) →
    AreAccountsKept d before leaf_for marks →
    AreAccountsKept d (before ++ Some (Assigns other leaf) ∷ []) new (slice_set marks leaf true)
bound_more d before other leaf leaf_for new marks low free is kept = record {
  full = length-set marks leaf true ∙ kept.full;
  leaves = λ name. is name ∙ found name (bytes_eq other name) refl ∙
      sym (leaf_more name before (Some (Assigns other leaf)));
  held = λ u below. marked u (leaf == u) refl below ∙ sym (held_more u before (Some (Assigns other leaf)));
  within = λ name u e. low_leaf name u (bytes_eq name other) (leaf_of name before) refl
      (sym (leaf_more name before (Some (Assigns other leaf))) ∙ e);
}
  where
    found : (name : List ℕ) (b : Bool) → bytes_eq other name ≡ b →
        leaf_of_name_after (Assigns other leaf) leaf_for name ≡
        first_number_there (leaf_of name before) (leaf_on name (Some (Assigns other leaf)))
    found name true e =
        let same : other ≡ name = (bytes_decides other name).0 e in
        let unbound : leaf_of name before ≡ None = sym (kept.leaves name) ∙ ap leaf_for (sym same) ∙ free in
        rw (e, unbound, nat_list_eq_equiv.symm name other, e) refl
    found name false e = rw (e, nat_list_eq_equiv.symm name other, e)
        (kept.leaves name ∙ sym (none_after (leaf_of name before)))

    marked : (u : ℕ) (b : Bool) → (leaf == u) ≡ b → u < 2 ^ d →
        mark_of (slice_set marks leaf true) u ≡ (is_held u before || (leaf == u))
    marked u true e below =
        get_or-set_at marks leaf u true false (sym (eqb-true leaf u e)) (omega (arith, low, kept.full)) ∙
        sym (ap (λ b. is_held u before || b) e ∙ or_true (is_held u before))
    marked u false e below =
        get_or-set_other marks leaf u true false (λ same. eqb-false leaf u e (sym same)) ∙ kept.held u below ∙
        sym (ap (λ b. is_held u before || b) e ∙ or_false (is_held u before))

    low_leaf : (name : List ℕ) (u : ℕ) (b : Bool) (o : Option ℕ) → leaf_of name before ≡ o →
        first_number_there o (if b then Some leaf else None) ≡ Some u → u < 2 ^ d
    low_leaf name u b (Some w) is e = kept.within name u (is ∙ e)
    low_leaf name u true None is e = let same : leaf ≡ u = cc in rw same at low
    low_leaf name u false None is e = absurd cc

-- what is kept with one line more, which says this and is no fault
pub kept_more : (d : ℕ) (before : List (Option Entry)) (entry : Entry) (leaf_for new : List ℕ → Option ℕ)
    (marks : List Bool) → IsBelow (2 ^ d) entry →
    ((other : List ℕ) (u : ℕ) → entry ≡ Assigns other u → leaf_for other ≡ None) →
    ((name : List ℕ) → new name ≡ leaf_of_name_after entry leaf_for name) → AreAccountsKept d before leaf_for marks →
    AreAccountsKept d (before ++ Some entry ∷ []) new (marks_after entry marks)
kept_more d before (Assigns other leaf) leaf_for new marks low free is kept =
    bound_more d before other leaf leaf_for new marks low (free other leaf refl) is kept
kept_more d before (Drops other) leaf_for new marks low free is kept =
    same_more d before (Some (Drops other)) leaf_for new marks (λ name. refl) (λ u. refl) is kept
kept_more d before (Restores other) leaf_for new marks low free is kept =
    same_more d before (Some (Restores other)) leaf_for new marks (λ name. refl) (λ u. refl) is kept
kept_more d before Ends leaf_for new marks low free is kept =
    same_more d before (Some Ends) leaf_for new marks (λ name. refl) (λ u. refl) is kept
