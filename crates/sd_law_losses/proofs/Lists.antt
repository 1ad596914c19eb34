-- What is known of joined and of reversed lists.
use Rattle.std.proofs.Common.{◌≡◌, List, [], ◌∷◌, ◌++◌, length, refl, subst, inl, inr}
use Rattle.std.specs.Prelude.{All, AllPairs, Contains, reverse}
use Rattle.std.proofs.lemmas.List.{take_at, drop_at, reverse-append}
use Rattle.std.proofs.lemmas.List.Elements.{All-nil, All-cons, All-head, All-take, All-drop, All-contains}
use Rattle.std.proofs.lemmas.List.Elements.{Contains-append_left, Contains-append_right}
use Rattle.sd_base.proofs.Lists.{pair_parts}
use Rattle.sd_cover_tracing.proofs.Lists.{member_cases, no_member}

-- what is true of all of a joined list is true of both of its lists
pub split_all : {A : Type 0} (P : A → Type 0) (xs ys : List A) → All P (xs ++ ys) → All P xs × All P ys
split_all P xs ys all = (
  subst (All P) (take_at xs ys (length xs) refl) (All-take P (length xs) (xs ++ ys) all),
  subst (All P) (drop_at xs ys (length xs) refl) (All-drop P (length xs) (xs ++ ys) all),
)

-- the first stands last in the reversed list
pub reverse_cons : {A : Type 0} (x : A) (xs : List A) → reverse (x ∷ xs) ≡ reverse xs ++ x ∷ []
reverse_cons x xs = reverse-append (x ∷ []) xs

-- what is true of all of the reversed list is true of the list
pub all_reversed : {A : Type 0} (P : A → Type 0) (xs : List A) → All P (reverse xs) → All P xs
all_reversed P [] all = All-nil P
all_reversed P (x ∷ xs) all =
    let parts = split_all P (reverse xs) (x ∷ []) (subst (All P) (reverse_cons x xs) all) in
    All-cons P x xs (All-head P x [] parts.1) (all_reversed P xs parts.0)

-- of two lists one after the other, each of the first stands so to each of the second
pub pairs_across : {A : Type 0} (R : A → A → Type 0) (xs ys zs ws : List A) (y z : A)
    → AllPairs R (xs ++ (ys ++ (zs ++ ws))) → Contains ys y → Contains zs z → R y z
pairs_across R (x ∷ xs) ys zs ws y z up m n =
    pairs_across R xs ys zs ws y z (pair_parts R x (xs ++ (ys ++ (zs ++ ws))) up).1 m n
pairs_across R [] [] zs ws y z up m n = absurd (no_member y m)
pairs_across R [] (w ∷ ys) zs ws y z up m n =
    let parts = pair_parts R w (ys ++ (zs ++ ws)) up in
    elim (member_cases w ys y m) [
      | inl same ↦
          subst (λ v. R v z) same
          (All-contains (R w) (ys ++ (zs ++ ws)) z parts.0
          (Contains-append_right ys (zs ++ ws) z (Contains-append_left zs ws z n)))
      | inr later ↦ pairs_across R [] ys zs ws y z parts.1 later n
    ]
