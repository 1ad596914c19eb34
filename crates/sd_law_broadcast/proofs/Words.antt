-- The control words of broadcasts whose sites have none in common.
use Rattle.std.proofs.Common.{◌≡◌, ℕ, ◌-◌, ◌<◌, ◌≤◌, List, length, Some, sym, subst, ◌∙◌}
use Rattle.std.proofs.Common.{inl, inr, arith}
use Rattle.std.specs.Prelude.{All, slice_get}
use Rattle.std.proofs.lemmas.Bool.{cases_lt}
use Rattle.std.proofs.lemmas.Option.{get_or_from_slice_get, slice_get_within}
use Rattle.std.proofs.lemmas.List.Elements.{All-get_or}
use Rattle.std.proofs.Math.Nat.{zero-div}
use Rattle.sd_site_cards.specs.SiteFields.{SiteFields}
use Rattle.sd_spec.specs.Plan.{crypto_length, crypto_of, word_in, word_of}
use Rattle.sd_spec.specs.Refused.{IsSendable}
use Rattle.sd_law_broadcast.proofs.Clear.{clear_words}
use Rattle.sd_law_broadcast.specs.Runs.{Run, IsRun, HasWords, ShareNoWord, HaveOwnWords, last_crypto, UsesWord}

-- the number is of the site's range
abbrev pub IsWordOf : SiteFields → ℕ → Type 0
IsWordOf site t = (site.first_word ≤ t) × (t ≤ site.last_word)

-- what holds of each of a list holds of the one at a place
pub at_place : {A : Type 0} (P : A → Type 0) (xs : List A) (i : ℕ) (x : A) → slice_get xs i ≡ Some x → All P xs → P x
at_place P xs i x there all =
    subst P (get_or_from_slice_get xs i x x there) (All-get_or P xs i x (slice_get_within xs i x there) all)

-- the word of a packet is of its site's range
pub packet_words : (site : SiteFields) (clear : List (List ℕ)) (k : ℕ) → IsSendable site clear → k < length clear
    → IsWordOf site (word_of site k)
unfolding word_of
packet_words site clear k is within = (omega arith, clear_words site clear k is within)

-- the first packet is of the first crypto period
first_crypto : (site : SiteFields) → crypto_of site 0 ≡ 0
unfolding crypto_of
first_crypto site = zero-div (crypto_length site)

-- the word of the last packet, in its crypto period
last_within : (site : SiteFields) (clear : List (List ℕ)) → IsSendable site clear → 0 < length clear
    → word_in site (crypto_of site (length clear - 1)) ≤ site.last_word
unfolding word_of
last_within site clear is some = clear_words site clear (length clear - 1) is (omega (arith, some))

-- what a run uses is of its site's range
pub used_words : (master : List ℕ) (run : Run) (t q : ℕ) → IsRun master run → HasWords run.plan.site → UsesWord run t q
    → IsWordOf run.plan.site t
unfolding last_crypto
used_words master run t q is some (n, within, word, period) =
    let site : SiteFields = run.plan.site in
    elim (cases_lt 0 (length run.clear)) [
      | inl has ↦
          let last = last_within site run.clear is.is_sendable has in
          (omega (arith, word), omega (arith, word, within, last))
      | inr none ↦
          let empty : length run.clear - 1 ≡ 0 = omega (arith, none) in
          let first : n ≤ crypto_of site 0 = subst (λ (m : ℕ). n ≤ crypto_of site m) empty within in
          (omega (arith, word), omega (arith, word, first, first_crypto site, some))
    ]

-- no word is of two sites that share none
pub not_of_both : (a b : SiteFields) (t : ℕ) → ShareNoWord a b → IsWordOf a t → IsWordOf b t → ⊥
not_of_both a b t apart first second = elim apart [
  | inl below ↦ omega (arith, below, first.1, second.0)
  | inr above ↦ omega (arith, above, first.0, second.1)
]

-- runs whose sites have a word in common are one run
pub one_run : (runs : List Run) (i j : ℕ) (a b : Run) (t : ℕ) → HaveOwnWords runs → slice_get runs i ≡ Some a
    → slice_get runs j ≡ Some b → IsWordOf a.plan.site t → IsWordOf b.plan.site t → i ≡ j
one_run runs i j a b t own first second inside within = elim (cases_lt i j) [
  | inl before ↦
      absurd (not_of_both a.plan.site b.plan.site t (own.apart i j a b first second before) inside within)
  | inr above ↦ elim (cases_lt j i) [
    | inl after ↦
        absurd (not_of_both b.plan.site a.plan.site t (own.apart j i b a second first after) within inside)
    | inr below ↦ omega (arith, above, below)
  ]
]

-- what stands at one place is one
pub one_at : {A : Type 0} (xs : List A) (i j : ℕ) (x y : A) → slice_get xs i ≡ Some x → slice_get xs j ≡ Some y
    → i ≡ j → x ≡ y
one_at xs i j x y first second same =
    sym (get_or_from_slice_get xs i x x first)
    ∙ get_or_from_slice_get xs i y x (subst (λ (k : ℕ). slice_get xs k ≡ Some y) (sym same) second)
