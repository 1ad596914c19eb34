-- What things that are heard one after the other make a receiver write.
use Rattle.std.proofs.Common.{◌≡◌, refl, ℕ, true, false, List, [], ◌∷◌, ◌++◌, None, sym, ap, ◌∙◌, append_assoc, subst}
use Rattle.std.proofs.lemmas.Bool.{cases_Bool, both_ways}
use Rattle.std.proofs.Common.{inl, inr}
use Rattle.sd_site_cards.specs.CardFields.{CardFields}
use Rattle.sd_psi.specs.declared.our_cat.Tuning.{Tuning}
use Rattle.sd_spec.specs.Heard.{Heard}
use Rattle.sd_spec.specs.Stretches.{is_closed}
use Rattle.sd_spec.specs.Offered.{heard_offering}

-- these things, the oldest first, put to what was before, the newest first
abbrev pub onto : {A : Type 0} → List A → List A → List A
onto [] past = past
onto (thing ∷ things) past = onto things (thing ∷ past)

pub onto_append : {A : Type 0} (xs ys past : List A) → onto (xs ++ ys) past ≡ onto ys (onto xs past)
onto_append [] ys past = refl
onto_append (x ∷ xs) ys past = onto_append xs ys (x ∷ past)

-- these things are refused nowhere, and this is written of them
abbrev pub Writes : CardFields → Tuning → List Heard → List Heard → List (List ℕ) → Type 0
Writes card tuning past [] wrote = wrote ≡ []
Writes card tuning past (heard ∷ things) wrote =
    (first : List (List ℕ)) × (rest : List (List ℕ))
    × ((n : ℕ) → heard_offering card tuning n past heard ≡ record { wrote = first; fault = None })
    × Writes card tuning (heard ∷ past) things rest × (wrote ≡ first ++ rest)

-- one after the other
pub writes_append : (card : CardFields) (tuning : Tuning) (past xs ys : List Heard) (v w : List (List ℕ)) →
    Writes card tuning past xs v → Writes card tuning (onto xs past) ys w → Writes card tuning past (xs ++ ys) (v ++ w)
writes_append card tuning past [] ys v w none more = subst (Writes card tuning past ys) (ap (λ (u : List
    (List ℕ)). u ++ w) (sym none)) more
writes_append card tuning past (x ∷ xs) ys v w (first, rest, offers, others, is) more = (
  first,
  rest ++ w,
  offers,
  writes_append card tuning (x ∷ past) xs ys rest w others more,
  ap (λ (u : List (List ℕ)). u ++ w) is ∙ append_assoc first rest w,
)

-- a thing of which nothing is written
pub writes_nothing : (card : CardFields) (tuning : Tuning) (past : List Heard) (heard : Heard) (things : List Heard)
    (wrote : List (List ℕ)) →
    ((n : ℕ) → heard_offering card tuning n past heard ≡ record { wrote = []; fault = None }) →
    Writes card tuning (heard ∷ past) things wrote → Writes card tuning past (heard ∷ things) wrote
writes_nothing card tuning past heard things wrote calm more = ([], wrote, calm, more, refl)

-- no closing message came before any of these things
abbrev pub IsOpenUpto : List Heard → List Heard → Type 0
IsOpenUpto past [] = Unit {0}
IsOpenUpto past (heard ∷ things) = (is_closed past ≡ false) × IsOpenUpto (heard ∷ past) things

closed_stays : (past : List Heard) (heard : Heard) → is_closed past ≡ true → is_closed (heard ∷ past) ≡ true
unfolding is_closed
closed_stays past heard closed = rw closed refl

open_before : (past : List Heard) (heard : Heard) → is_closed (heard ∷ past) ≡ false → is_closed past ≡ false
open_before past heard opened = elim (cases_Bool (is_closed past)) [
  | inl closed ↦ absurd (both_ways (is_closed (heard ∷ past)) opened (closed_stays past heard closed))
  | inr yet ↦ yet
]

open_start : (past things : List Heard) → is_closed (onto things past) ≡ false → is_closed past ≡ false
open_start past [] opened = opened
open_start past (heard ∷ things) opened = open_before past heard (open_start (heard ∷ past) things opened)

pub open_upto : (past things : List Heard) → is_closed (onto things past) ≡ false → IsOpenUpto past things
open_upto past [] opened = tt
open_upto past (heard ∷ things) opened =
    (open_start past (heard ∷ things) opened, open_upto (heard ∷ past) things opened)

pub open_upto_last : (past things : List Heard) (last : Heard) → is_closed (onto things past) ≡ false →
    IsOpenUpto past (things ++ last ∷ [])
open_upto_last past [] last opened = (opened, tt)
open_upto_last past (heard ∷ things) last opened =
    (open_start past (heard ∷ things) opened, open_upto_last (heard ∷ past) things last opened)

-- one after the other
pub open_append : (past xs ys : List Heard) → IsOpenUpto past xs → IsOpenUpto (onto xs past) ys →
    IsOpenUpto past (xs ++ ys)
open_append past [] ys before more = more
open_append past (x ∷ xs) ys before more = (before.0, open_append (x ∷ past) xs ys before.1 more)
