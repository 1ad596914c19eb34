-- Lists that ascend, one after the other.
use Rattle.std.proofs.Common.{◌≡◌, inl, inr, ℕ, ◌+◌, ◌-◌, ◌<◌, ◌≤◌, List, ◌++◌, length, get_or, length-append, arith}
use Rattle.std.proofs.Common.{sym, subst}
use Rattle.std.specs.Prelude.{AllPairs}
use Rattle.std.proofs.lemmas.Bool.{cases_lt}
use Rattle.std.proofs.lemmas.List.{get_or_append_left, get_or-append_right}
use Rattle.sd_message.specs.EcmForm.{ArePidsAscending}
use Rattle.sd_message.specs.declared.ecm_part.Place.{Place}

-- an element of two lists is one of the first, or one of the second
at_left : {A : Type 0} (xs ys : List A) (i : ℕ) (d : A) → i < length xs → get_or (xs ++ ys) i d ≡ get_or xs i d
at_left xs ys i d h = get_or_append_left xs ys d i h

at_right : {A : Type 0} (xs ys : List A) (i : ℕ) (d : A) → length xs ≤ i →
    get_or (xs ++ ys) i d ≡ get_or ys (i - length xs) d
at_right {A = A} xs ys i d h = get_or-append_right xs ys (length xs) i d (λ _. length xs) h

-- each of two lists ascends, and all of the first stand before all of the second
pub pairs_append : {A : Type 0} (R : A → A → Type 0) (xs ys : List A) → AllPairs R xs → AllPairs R ys →
    ((i j : ℕ) (d : A) → i < length xs → j < length ys → R (get_or xs i d) (get_or ys j d)) → AllPairs R (xs ++ ys)
pairs_append R xs ys up rises cross i j d below within =
    let long = length-append xs ys in
    elim (cases_lt j (length xs)) [
      | inl h ↦ subst (λ x. R x (get_or (xs ++ ys) j d)) (sym (at_left xs ys i d (omega arith)))
          (subst (λ y. R (get_or xs i d) y) (sym (at_left xs ys j d h)) (up i j d below h))
      | inr h ↦ subst (λ y. R (get_or (xs ++ ys) i d) y) (sym (at_right xs ys j d h)) (elim (cases_lt i (length xs)) [
        | inl g ↦ subst (λ x. R x (get_or ys (j - length xs) d)) (sym (at_left xs ys i d g))
            (cross i (j - length xs) d g (omega arith))
        | inr g ↦ subst (λ x. R x (get_or ys (j - length xs) d)) (sym (at_right xs ys i d g))
            (rises (i - length xs) (j - length xs) d (omega arith) (omega arith))
      ])
    ]

-- what stands after the last of ascending places stands after all of them
pub after_all : (rest last more : List Place) → ArePidsAscending (rest ++ last) → 0 < length last →
    ((i j : ℕ) (d : Place) → i < length last → j < length more → (get_or last i d).pid < (get_or more j d).pid) →
    (i j : ℕ) (d : Place) → i < length (rest ++ last) → j < length more →
    (get_or (rest ++ last) i d).pid < (get_or more j d).pid
after_all rest last more up some after i j d within below =
    let long = length-append rest last in
    let end : ℕ = length rest + length last - 1 in
    let is = at_right rest last end d (omega arith) in
    let far = after (end - length rest) j d (omega arith) below in
    let top : (get_or (rest ++ last) end d).pid < (get_or more j d).pid =
    subst (λ (p : Place). p.pid < (get_or more j d).pid) (sym is) far in
    elim (cases_lt i end) [
      | inl h ↦ let near = up i end d h (omega arith) in omega (arith, near, top)
      | inr h ↦ let e : i ≡ end = omega arith in
          subst (λ n. (get_or (rest ++ last) n d).pid < (get_or more j d).pid) (sym e) top
    ]
