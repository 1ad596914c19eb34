-- How a broadcast is gone through from one of its packets on, if no CAT was taken before it.
use Rattle.std.proofs.Common.{◌≡◌, refl, ℕ, zero, suc, ◌+◌, ◌%◌, ◌<◌, ◌==◌, Bool, true, false}
use Rattle.std.proofs.Common.{List, [], ◌∷◌, ◌++◌, map, length, take, drop, None, if◌then◌else◌}
use Rattle.std.proofs.Common.{arith, sym, ap, ◌∙◌, inl, inr, ◌⊎◌, subst}
use Rattle.std.specs.Prelude.{All}
use Rattle.std.specs.List.{list_any}
use Rattle.std.proofs.lemmas.List.Elements.{All-tail}
use Rattle.std.proofs.lemmas.List.Folds.{list_any-append}
use Rattle.std.proofs.lemmas.Bool.{cases_Bool}
use Rattle.std.proofs.lemmas.Bool.Decides.{nat_tests}
use Rattle.sd_message.specs.Period.{emms_of}
use Rattle.sd_message.specs.EcmParts.{parts_of}
use Rattle.sd_spec.specs.Plan.{crypto_length, period_of}
use Rattle.sd_spec.specs.Messages.{period_at}
use Rattle.sd_spec.specs.Sent.{Item, Cat, Controls, tables_at, packets_from}
use Rattle.sd_spec.specs.Items.{IsOfBroadcast}
use Rattle.sd_spec.specs.Tuned.{tuning_of}
use Rattle.sd_law_losses.specs.Chosen.{chosen}
use Rattle.sd_law_losses.proofs.Writing.{onto}
use Rattle.sd_law_losses.proofs.Setting.{Setting, AreLaws, final, told_by}
use Rattle.sd_law_losses.proofs.Hearing.{is_cat_item}
use Rattle.sd_law_losses.proofs.Remaining.{rest_at, rest_none, closing_items}
use Rattle.sd_law_losses.proofs.Later.{chosen_fails}
use Rattle.sd_law_losses.proofs.Losses.{all_second}
use Rattle.sd_law_losses.proofs.Untuned.{no_part_cat, no_section_cat, sections_at, tail_at, no_tail_cat, due_rest}
use Rattle.sd_law_losses.proofs.Untuned.{other_rest}

-- the sections and the closing message of a broadcast without a packet
abbrev pub items_of_none : Setting → List Item
items_of_none s = sections_at s (period_of s.plan 0) ++ map Controls (parts_of (told_by s (final s)))

-- the tables of packet k behind the CAT, and its message
abbrev pub here_at : Setting → ℕ → List Item
here_at s k = sections_at s (period_of s.plan k) ++ tail_at s k

-- a fact on things earlier in a broadcast, things that are left, which of these are kept, and what arrived before:
-- it holds if no CAT is kept, of things without a kept CAT before others of which it holds, and where a CAT is kept
pub record Steps (s : Setting) (P : List Item → List Item → List Bool → List (List ℕ) → Type 0) : Type 0 where
  pub without : (items earlier : List Item) (fs : List Bool) (past : List (List ℕ)) →
      All (IsOfBroadcast s.plan s.clear) items → tuning_of s.card.ca past ≡ None →
      list_any is_cat_item (chosen fs items) ≡ false → P earlier items fs past
  pub skipped : (group rest earlier : List Item) (fs : List Bool) (past : List (List ℕ)) →
      All (IsOfBroadcast s.plan s.clear) (group ++ rest) → tuning_of s.card.ca past ≡ None →
      list_any is_cat_item (chosen (take (length group) fs) group) ≡ false →
      (tuning_of s.card.ca (onto (chosen (take (length group) fs) (packets_from s.plan.site earlier group)) past)
      ≡ None → P (earlier ++ group) rest (drop (length group) fs)
      (onto (chosen (take (length group) fs) (packets_from s.plan.site earlier group)) past)) →
      P earlier (group ++ rest) fs past
  pub ended : (fs : List Bool) (earlier : List Item) (past : List (List ℕ)) → length s.clear ≡ 0 →
      All (IsOfBroadcast s.plan s.clear) (items_of_none s) → tuning_of s.card.ca past ≡ None →
      P earlier (Cat ∷ items_of_none s) (true ∷ fs) past
  pub taken : (n k : ℕ) (fs : List Bool) (earlier : List Item) (past : List (List ℕ)) → k + suc n ≡ length s.clear →
      (k % crypto_length s.plan.site == 0) ≡ true →
      All (IsOfBroadcast s.plan s.clear) (here_at s k ++ rest_at s (k + 1)) → tuning_of s.card.ca past ≡ None →
      P earlier (Cat ∷ (here_at s k ++ rest_at s (k + 1))) (true ∷ fs) past

module _ (s : Setting) (laws : AreLaws s) (P : List Item → List Item → List Bool → List (List ℕ) → Type 0)
    (steps : Steps s P) where
  -- the end of a broadcast
  at_end : (fs : List Bool) (earlier : List Item) (past : List (List ℕ)) (some : Bool) →
      (length s.clear == 0) ≡ some → tuning_of s.card.ca past ≡ None →
      All (IsOfBroadcast s.plan s.clear) ((if some then tables_at s.plan 0 else []) ++ map Controls (parts_of
      (told_by s (final s)))) →
      P earlier ((if some then tables_at s.plan 0 else []) ++ map Controls (parts_of (told_by s (final s)))) fs past
  unfolding tables_at chosen
  at_end fs earlier past false is none all =
      steps.without (map Controls (parts_of (told_by s (final s)))) earlier fs past all none
      (chosen_fails is_cat_item fs (map Controls (parts_of (told_by s (final s)))) (no_part_cat (parts_of (told_by s
      (final s)))))
  at_end [] earlier past true is none all = steps.without (Cat ∷ items_of_none s) earlier [] past all none refl
  at_end (false ∷ fs) earlier past true is none all =
      steps.without (Cat ∷ items_of_none s) earlier (false ∷ fs) past all none
      (chosen_fails is_cat_item fs (items_of_none s) no_cat)
    where
      no_cat : list_any is_cat_item (items_of_none s) ≡ false
      no_cat = list_any-append is_cat_item (sections_at s (period_of s.plan 0))
          (map Controls (parts_of (told_by s (final s))))
          ∙ rw (no_section_cat (emms_of (period_at s.plan (period_of s.plan 0)))) (no_part_cat (parts_of (told_by s
          (final s))))
  at_end (true ∷ fs) earlier past true is none all =
      steps.ended fs earlier past (grind (arith, nat_tests, is))
      (All-tail (IsOfBroadcast s.plan s.clear) Cat (items_of_none s) all) none

  -- what holds of all that is left from packet k on
  abbrev Holds : ℕ → Type 0
  Holds k = (fs : List Bool) (earlier : List Item) (past : List (List ℕ)) → tuning_of s.card.ca past ≡ None →
      P earlier (rest_at s k) fs past

  -- a group with the tables, of which the CAT may be kept
  with_tables : (n k : ℕ) (fs : List Bool) (earlier : List Item) (past : List (List ℕ)) → k + suc n ≡ length s.clear →
      (k % crypto_length s.plan.site == 0) ≡ true →
      All (IsOfBroadcast s.plan s.clear) (Cat ∷ (here_at s k ++ rest_at s (k + 1))) →
      tuning_of s.card.ca past ≡ None → Holds (k + 1) → P earlier (Cat ∷ (here_at s k ++ rest_at s (k + 1))) fs past
  unfolding chosen
  with_tables n k (true ∷ fs) earlier past count due all none more =
      steps.taken n k fs earlier past count due
      (All-tail (IsOfBroadcast s.plan s.clear) Cat (here_at s k ++ rest_at s (k + 1)) all) none
  with_tables n k [] earlier past count due all none more =
      steps.skipped (Cat ∷ here_at s k) (rest_at s (k + 1)) earlier [] past all none refl
      (more (drop (length (Cat ∷ here_at s k)) []) (earlier ++ (Cat ∷ here_at s k))
      (onto (chosen (take (length (Cat ∷ here_at s k)) []) (packets_from s.plan.site earlier (Cat ∷ here_at s k)))
      past))
  with_tables n k (false ∷ fs) earlier past count due all none more =
      steps.skipped (Cat ∷ here_at s k) (rest_at s (k + 1)) earlier (false ∷ fs) past all none
      (chosen_fails is_cat_item (take (length (here_at s k)) fs) (here_at s k) no_cat)
      (more (drop (length (Cat ∷ here_at s k)) (false ∷ fs)) (earlier ++ (Cat ∷ here_at s k))
      (onto (chosen (take (length (Cat ∷ here_at s k)) (false ∷ fs)) (packets_from s.plan.site earlier
      (Cat ∷ here_at s k))) past))
    where
      no_cat : list_any is_cat_item (here_at s k) ≡ false
      no_cat = list_any-append is_cat_item (sections_at s (period_of s.plan k)) (tail_at s k)
          ∙ rw (no_section_cat (emms_of (period_at s.plan (period_of s.plan k)))) (no_tail_cat s k)

  -- so it holds from packet k on
  pub gone_through : (n k : ℕ) → k + n ≡ length s.clear → All (IsOfBroadcast s.plan s.clear) (rest_at s k) → Holds k
  gone_through zero k count all fs earlier past none =
      subst (λ (items : List Item). P earlier items fs past) (sym ends)
      (at_end fs earlier past (length s.clear == 0) refl none (subst (All (IsOfBroadcast s.plan s.clear)) ends all))
    where
      ends : rest_at s k ≡ (if length s.clear == 0 then tables_at s.plan 0 else []) ++ map Controls (parts_of
          (told_by s (final s)))
      ends = ap (rest_at s) (omega (arith, count)) ∙ (rest_none s ∙ closing_items s)
  gone_through (suc n) k count all fs earlier past none =
      by_test (cases_Bool (k % crypto_length s.plan.site == 0)) (gone_through n (k + 1) (omega (arith, count)))
    where
      within : k < length s.clear
      within = omega (arith, count)

      by_test : ((k % crypto_length s.plan.site == 0) ≡ true) ⊎ ((k % crypto_length s.plan.site == 0) ≡ false) →
          (All (IsOfBroadcast s.plan s.clear) (rest_at s (k + 1)) → Holds (k + 1)) → P earlier (rest_at s k) fs past
      by_test (inl due) more =
          let parts = due_rest s k laws.range within due in
          let all_parts = subst (All (IsOfBroadcast s.plan s.clear)) parts all in
          subst (λ (items : List Item). P earlier items fs past) (sym parts)
          (with_tables n k fs earlier past count due all_parts none
          (more (all_second (IsOfBroadcast s.plan s.clear) (here_at s k) (rest_at s (k + 1))
          (All-tail (IsOfBroadcast s.plan s.clear) Cat (here_at s k ++ rest_at s (k + 1)) all_parts))))
      by_test (inr not_due) more =
          let parts = other_rest s k laws.range within not_due in
          let all_parts = subst (All (IsOfBroadcast s.plan s.clear)) parts all in
          subst (λ (items : List Item). P earlier items fs past) (sym parts)
          (steps.skipped (tail_at s k) (rest_at s (k + 1)) earlier fs past all_parts none
          (chosen_fails is_cat_item (take (length (tail_at s k)) fs) (tail_at s k) (no_tail_cat s k))
          (more (all_second (IsOfBroadcast s.plan s.clear) (tail_at s k) (rest_at s (k + 1)) all_parts)
          (drop (length (tail_at s k)) fs) (earlier ++ tail_at s k)
          (onto (chosen (take (length (tail_at s k)) fs) (packets_from s.plan.site earlier (tail_at s k))) past)))
