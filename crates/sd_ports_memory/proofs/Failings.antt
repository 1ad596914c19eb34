-- Which calls are to fail, as texts and rings keep them.
use Rattle.std.proofs.Common.{◌≡◌, ◌<◌, ℕ, ◌+◌, ◌-◌, List, [], ◌∷◌, ◌++◌, Bool, true, false, cond, ◌||◌, length}
use Rattle.std.proofs.Common.{take, drop, map, refl, ap, sym, ◌∙◌, string_bytes, get_or, append-nil}
use Rattle.std.specs.Prelude.{filter}
use Rattle.std.specs.Str.{bytes_eq}
use Rattle.std.proofs.lemmas.List.{map-append, length-map, drop-map, take_more}
use Rattle.std.proofs.lemmas.List.Folds.{list_any-append}
use Rattle.std.proofs.lemmas.List.Elements.{filter-append}
use Rattle.circular_buffer.specs.Buffer.{keep_last}
use Rattle.sd_ports_memory.specs.Failing.{numbers_of, told_calls}
use Rattle.sd_ports.specs.Memory.{is_listed}
use Rattle.sd_ports_memory.specs.declared.failing.PortCall.{PortCall}

-- a number stands in a list where it stands in one of its halves
pub listed_halves : (xs ys : List ℕ) (number : ℕ) → is_listed (xs ++ ys) number
    ≡ (is_listed xs number || is_listed ys number)
listed_halves xs ys number = list_any-append _ xs ys

-- the newest are told as the newest of what is told
pub told_newest : (n : ℕ) (xs : List PortCall) (x : PortCall) → told_calls (keep_last n (xs ++ x ∷ []))
    ≡ keep_last n (told_calls xs ++ (string_bytes x.name, x.number) ∷ [])
told_newest n xs x =
    let told : told_calls (xs ++ x ∷ []) ≡ told_calls xs ++ (string_bytes x.name, x.number) ∷ [] = map-append _ xs _ in
    sym (drop-map _ (length (xs ++ x ∷ []) - n) (xs ++ x ∷ []))
    ∙ ap (λ (k : ℕ). drop (k - n) (told_calls (xs ++ x ∷ []))) (sym (length-map (xs ++ x ∷ []) _))
    ∙ ap (keep_last n) told

-- the numbers of two lists are those of the one and then those of the other
pub numbers_halves : (name : List ℕ) (xs ys : List PortCall) → numbers_of name (told_calls (xs ++ ys))
    ≡ numbers_of name (told_calls xs) ++ numbers_of name (told_calls ys)
numbers_halves name xs ys =
    ap (numbers_of name) (map-append _ xs ys)
    ∙ ap (map (λ (c : List ℕ × ℕ). c.1)) (filter-append _ (told_calls xs) (told_calls ys))
    ∙ map-append _ (filter (λ c. bytes_eq c.0 name) (told_calls xs)) _

-- what one call adds to the numbers
abbrev one_number : List ℕ → PortCall → List ℕ
one_number name x = cond (bytes_eq (string_bytes x.name) name) (x.number ∷ []) []

one_is : (name : List ℕ) (x : PortCall) → numbers_of name (told_calls (x ∷ [])) ≡ one_number name x
one_is name x =
    elim (bytes_eq (string_bytes x.name) name) as
    (λ b. map (λ (c : List ℕ × ℕ). c.1) (cond b ((string_bytes x.name, x.number) ∷ []) []) ≡ cond b (x.number ∷ []) [])
    [ true ↦ refl | false ↦ refl ]

-- a call of another name adds none
pub numbers_kept : (name : List ℕ) (cs : List PortCall) (i : ℕ) (c : PortCall) → i < length cs
    → bytes_eq (string_bytes (get_or cs i c).name) name ≡ false
    → numbers_of name (told_calls (take (i + 1) cs)) ≡ numbers_of name (told_calls (take i cs))
numbers_kept name cs i c h e =
    ap (λ (xs : List PortCall). numbers_of name (told_calls xs)) (take_more cs i c h)
    ∙ numbers_halves name (take i cs) (get_or cs i c ∷ [])
    ∙ ap (λ (r : List ℕ). numbers_of name (told_calls (take i cs)) ++ r)
    (one_is name (get_or cs i c) ∙ ap (λ (b : Bool). cond b ((get_or cs i c).number ∷ []) []) e)
    ∙ append-nil _

-- a call of this name adds its number
pub numbers_grown : (name : List ℕ) (cs : List PortCall) (i : ℕ) (c : PortCall) → i < length cs
    → bytes_eq (string_bytes (get_or cs i c).name) name ≡ true
    → numbers_of name (told_calls (take (i + 1) cs))
    ≡ numbers_of name (told_calls (take i cs)) ++ (get_or cs i c).number ∷ []
numbers_grown name cs i c h e =
    ap (λ (xs : List PortCall). numbers_of name (told_calls xs)) (take_more cs i c h)
    ∙ numbers_halves name (take i cs) (get_or cs i c ∷ [])
    ∙ ap (λ (r : List ℕ). numbers_of name (told_calls (take i cs)) ++ r)
    (one_is name (get_or cs i c) ∙ ap (λ (b : Bool). cond b ((get_or cs i c).number ∷ []) []) e)
