-- Lists of what is shown, which grow by one item at a time.
use Rattle.std.proofs.Common.{ℕ, ◌+◌, ◌<◌, ◌≡◌, Bool, true, false, List, [], ◌∷◌, ◌++◌, map, length, get_or, take}
use Rattle.std.proofs.Common.{append-nil, append_assoc, arith, refl, sym, ap, ◌∙◌, Vec, Global}
use Rattle.std.proofs.lemmas.List.{map_more, map_push}
use Rattle.serde_json.specs.Data.{Data, array}
use Rattle.serde_json.specs.View.{view, items_of}
use Rattle.serde_json.specs.declared.value.Value.{Value}
use Rattle.serde_json.specs.declared.value.Value.TheVariants.{Array}
use Rattle.serde_json.proofs.Views.{view-Array}
use Rattle.sd_psi.specs.Access.{is_ca}
use Rattle.sd_run_streams.specs.TableLines.{ca_data, cas_of, list_data}

-- the first of those that are left is shown after the others
one_first : {X : Type 0} (f : X → Data) (shown : List Data) (all rest : List X) (one : X) → all ≡ one ∷ rest →
    (shown ++ f one ∷ []) ++ map f rest ≡ shown ++ map f all
one_first f shown all rest one cut = append_assoc shown (f one ∷ []) (map f rest) ∙
    ap (λ xs. shown ++ map f xs) (sym cut)

-- where none is left, all are shown
pub all_shown : {X : Type 0} (f : X → Data) (shown due : List Data) (rest : List X) → rest ≡ [] → shown ++ map f rest
    ≡ due → shown ≡ due
all_shown f shown due rest none is = sym (append-nil shown) ∙ (ap (λ xs. shown ++ map f xs) (sym none) ∙ is)

-- a list of values shows what is shown of each
pub list_shown : (values : Vec Value Global) (due : List Data) → map view values.items ≡ due →
    view (Array values) ≡ list_data due
list_shown values due is = view-Array values ∙ ap (λ xs. array (items_of xs)) is

-- one more of a list has its value
pub more_shown : {X : Type 0} (f : X → Data) (old new : List Value) (value : Value) (xs : List X) (i : ℕ) (other : X) →
    new ≡ old ++ value ∷ [] → view value ≡ f (get_or xs i other) → i < length xs → map view old ≡ map f (take i xs) →
    map view new ≡ map f (take (i + 1) xs)
more_shown f old new value xs i other pushed one here is =
    rw (pushed, map_push view old value, map_more f xs i other here, is, one) refl

-- one more part of the items of a list has its value
pub part_shown : {X Y : Type 0} (f : Y → Data) (part : X → Y) (old new : List Value) (value : Value) (xs : List X)
    (i : ℕ) (other : X) → new ≡ old ++ value ∷ [] → view value ≡ f (part (get_or xs i other)) → i < length xs →
    map view old ≡ map f (map part (take i xs)) → map view new ≡ map f (map part (take (i + 1) xs))
part_shown f part old new value xs i other pushed one here is =
    rw (pushed, map_push view old value, map_more part xs i other here, map_push f (map part (take i xs)), is, one) refl

-- the first of those that are left has its value
pub first_shown : {X : Type 0} (f : X → Data) (old new : List Value) (value : Value) (all rest : List X) (one : X)
    (due : List Data) → new ≡ old ++ value ∷ [] → view value ≡ f one → all ≡ one ∷ rest →
    map view old ++ map f all ≡ due → map view new ++ map f rest ≡ due
first_shown f old new value all rest one due pushed shown cut is =
    rw (pushed, map_push view old value, shown) (one_first f (map view old) all rest one cut ∙ is)

-- and fewer are left
pub fewer_left : {X : Type 0} (all rest : List X) (one : X) → all ≡ one ∷ rest → length rest < length all
fewer_left all rest one cut = rw cut (omega arith)

-- a CA_descriptor is shown
ca_first : (shown : List Data) (all rest : List (List ℕ)) (descriptor : List ℕ) → all ≡ descriptor ∷ rest →
    is_ca descriptor ≡ true → (shown ++ ca_data descriptor ∷ []) ++ cas_of rest ≡ shown ++ cas_of all
unfolding cas_of
ca_first shown all rest descriptor cut is =
    append_assoc shown (ca_data descriptor ∷ []) (cas_of rest) ∙ rw cut (rw is refl)

-- a test that isn't false
holds : (b : Bool) → (b ≡ false → ◌≡◌ {A = Bool} true false) → b ≡ true
holds true h = refl
holds false h = sym (h refl)

-- a CA_descriptor that is the first of those that are left has its value
pub ca_shown : (old new : List Value) (value : Value) (all rest : List (List ℕ)) (descriptor ca : List ℕ)
    (due : List Data) → new ≡ old ++ value ∷ [] → view value ≡ ca_data ca → ca ≡ descriptor → all ≡ descriptor ∷ rest →
    (is_ca descriptor ≡ false → ◌≡◌ {A = Bool} true false) → map view old ++ cas_of all ≡ due →
    map view new ++ cas_of rest ≡ due
ca_shown old new value all rest descriptor ca due pushed shown same cut is so_far =
    rw (pushed, map_push view old value, shown, same)
    (ca_first (map view old) all rest descriptor cut (holds (is_ca descriptor) is) ∙ so_far)

-- another descriptor has none
pub other_first : (all rest : List (List ℕ)) (descriptor : List ℕ) → all ≡ descriptor ∷ rest →
    is_ca descriptor ≡ false → cas_of rest ≡ cas_of all
unfolding cas_of
other_first all rest descriptor cut isnt = rw cut (rw isnt refl)

-- where none is left, all CA_descriptors are shown
pub cas_shown : (shown due : List Data) (rest : List (List ℕ)) → rest ≡ [] → shown ++ cas_of rest ≡ due → shown ≡ due
unfolding cas_of
cas_shown shown due rest none is = sym (append-nil shown) ∙ (ap (λ xs. shown ++ cas_of xs) (sym none) ∙ is)
