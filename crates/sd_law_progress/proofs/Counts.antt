-- Where a place among the things of a broadcast stands, by the clear packets before it.
use Rattle.std.proofs.Common.{◌≡◌, refl, ℕ, zero, suc, ◌+◌, ◌-◌, ◌/◌, ◌%◌, ◌<◌, ◌≤◌, ◌==◌, ◌||◌, Bool, true, false}
use Rattle.std.proofs.Common.{List, [], ◌∷◌, ◌++◌, map, length, take, drop, arith, sym, ap, ◌∙◌, inl, inr, ◌⊎◌}
use Rattle.std.specs.Prelude.{if◌then◌else◌, count_by, All}
use Rattle.std.specs.List.{list_any}
use Rattle.std.proofs.lemmas.Bool.{cases_lt}
use Rattle.std.proofs.lemmas.Bool.Decides.{nat_tests}
use Rattle.std.proofs.lemmas.List.{append_cancel_right, take-append-drop, take-append-le, drop-append-le}
use Rattle.std.proofs.lemmas.List.Elements.{All-append, All-take, All-drop}
use Rattle.std.proofs.lemmas.List.Sums.{sum_by-append, sum_by-cons}
use Rattle.std.proofs.Math.Seq.{take-append-add}
use Rattle.std.proofs.Common.{append_assoc}
use Rattle.sd_site_cards.specs.SiteFields.{AreInRange}
use Rattle.sd_message.specs.declared.emm.Emm.{Emm}
use Rattle.sd_message.specs.declared.ecm_part.EcmPart.{EcmPart}
use Rattle.sd_message.specs.EcmParts.{parts_of}
use Rattle.sd_message.specs.Period.{emms_of}
use Rattle.sd_spec.specs.Plan.{Plan, crypto_length, period_of}
use Rattle.sd_spec.specs.Messages.{period_at}
use Rattle.sd_spec.specs.Sent.{Item, Cat, Entitles, Controls, tables_at, tables_before}
use Rattle.sd_law_losses.specs.Chosen.{chosen}
use Rattle.sd_law_losses.proofs.Coming.{AreParts, is_nil}
use Rattle.sd_law_losses.proofs.Setting.{Setting, AreLaws, final, told_by}
use Rattle.sd_law_losses.proofs.Pairs.{number_is}
use Rattle.sd_law_losses.proofs.Carrying.{carrying}
use Rattle.sd_law_losses.proofs.Remaining.{parts_before, group_at, rest_at}
use Rattle.sd_law_losses.proofs.Later.{chosen_fails, chosen_all_of}
use Rattle.sd_law_losses.proofs.Standing.{pre_at, sent_split}
use Rattle.sd_law_progress.specs.Progress.{AreSetFrom, is_clear_item, is_part_of}
use Rattle.sd_law_progress.proofs.Splits.{mid_at, rest_later, fails_both, fails_joined}
use Rattle.sd_law_progress.proofs.Choices.{chosen_from}

pub counts_joined : (xs ys : List Item) → count_by is_clear_item (xs ++ ys) ≡ count_by is_clear_item xs + count_by
    is_clear_item ys
counts_joined xs ys = sum_by-append (λ item. if is_clear_item item then 1 else 0) xs ys

no_section : (emms : List Emm) → count_by is_clear_item (map Entitles emms) ≡ 0
no_section [] = refl
no_section (emm ∷ emms) =
    omega (
      arith,
      sum_by-cons (λ item. if is_clear_item item then 1 else 0) (Entitles emm) (map Entitles emms),
      no_section emms,
    )

pub no_part : (parts : List EcmPart) → count_by is_clear_item (map Controls parts) ≡ 0
no_part [] = refl
no_part (part ∷ parts) =
    omega (
      arith,
      sum_by-cons (λ item. if is_clear_item item then 1 else 0) (Controls part) (map Controls parts),
      no_part parts,
    )

pub no_table : (plan : Plan) (k : ℕ) → count_by is_clear_item (tables_before plan k) ≡ 0
unfolding tables_at
no_table plan k = by_test (k % crypto_length plan.site == 0)
  where
    by_test : (b : Bool) → count_by is_clear_item (if b then tables_at plan k else []) ≡ 0
    by_test true =
        omega (
          arith,
          sum_by-cons (λ item. if is_clear_item item then 1 else 0) Cat (map Entitles (emms_of
              (period_at plan (period_of plan k)))),
          no_section (emms_of (period_at plan (period_of plan k))),
        )
    by_test false = refl

-- one packet in each group
count_group : (s : Setting) (k : ℕ) → count_by is_clear_item (group_at s k) ≡ 1
count_group s k =
    omega (
      arith,
      counts_joined (tables_before s.plan k) (parts_before s k ++ carrying s k ∷ []),
      no_table s.plan k,
      counts_joined (parts_before s k) (carrying s k ∷ []),
      by_test (k % s.plan.site.every == 0),
      alone,
    )
  where
    alone : count_by is_clear_item (carrying s k ∷ []) ≡ 1
    alone = refl

    by_test : (b : Bool) → count_by is_clear_item (if b then map Controls (parts_of (told_by s
        (k / s.plan.site.every))) else []) ≡ 0
    by_test true = no_part (parts_of (told_by s (k / s.plan.site.every)))
    by_test false = refl

count_mid : (s : Setting) (k n : ℕ) → count_by is_clear_item (mid_at s k n) ≡ n
unfolding mid_at
count_mid s k zero = refl
count_mid s k (suc n) =
    omega (arith, counts_joined (mid_at s k n) (group_at s (k + n)), count_mid s k n, count_group s (k + n))

-- k packets before packet k
pub count_pre : (s : Setting) (k : ℕ) → AreInRange s.plan.site → k ≤ length s.clear →
    count_by is_clear_item (pre_at s k) ≡ k
count_pre s k range within =
    let all : 0 + k ≡ k = omega arith in
    ap (count_by is_clear_item) (append_cancel_right (pre_at s k) (mid_at s 0 k) (rest_at s k)
    (sym (sent_split s k range within)
    ∙ (rest_later s 0 k range (omega (arith, within)) ∙ ap (λ (i : ℕ). mid_at s 0 k ++ rest_at s i) all)))
    ∙ count_mid s 0 k

-- a place with fewer than k packets before it is before packet k's group, or at its begin
pub place_within : (s : Setting) (k x : ℕ) → AreInRange s.plan.site → k ≤ length s.clear →
    count_by is_clear_item (take x (rest_at s 0)) < k → x ≤ length (pre_at s k)
place_within s k x range within fewer = by_place (cases_lt (length (pre_at s k)) x)
  where
    by_place : (length (pre_at s k) < x) ⊎ (x ≤ length (pre_at s k)) → x ≤ length (pre_at s k)
    by_place (inl past) =
        let d : ℕ = x - length (pre_at s k) in
        let at : length (pre_at s k) + d ≡ x = omega (arith, past) in
        let taken : take x (rest_at s 0) ≡ pre_at s k ++ take d (rest_at s k) =
        ap (λ (i : ℕ). take i (rest_at s 0)) (sym at)
        ∙ (ap (take (length (pre_at s k) + d)) (sent_split s k range within)
        ∙ take-append-add (pre_at s k) (rest_at s k) d) in
        let counted : count_by is_clear_item (take x (rest_at s 0)) ≡ k + count_by is_clear_item (take d (rest_at s k))
        =
        ap (count_by is_clear_item) taken
        ∙ (counts_joined (pre_at s k) (take d (rest_at s k))
        ∙ ap (λ (n : ℕ). n + count_by is_clear_item (take d (rest_at s k))) (count_pre s k range within)) in
        absurd (omega (arith, counted, fewer))
    by_place (inr inside) = inside

-- a place with more packets before it than some first things have is behind them
pub place_past : (x : ℕ) (all front rest : List Item) → all ≡ front ++ rest →
    count_by is_clear_item front < count_by is_clear_item (take x all) → length front ≤ x
place_past x all front rest same more = by_place (cases_lt x (length front))
  where
    by_place : (x < length front) ⊎ (length front ≤ x) → length front ≤ x
    by_place (inl before) =
        let taken : take x all ≡ take x front =
        ap (take x) same ∙ take-append-le x front rest (omega (arith, before)) in
        let parts : count_by is_clear_item (take x front) + count_by is_clear_item (drop x front)
        ≡ count_by is_clear_item front =
        sym (counts_joined (take x front) (drop x front))
        ∙ ap (count_by is_clear_item) (take-append-drop x front) in
        absurd (omega (arith, ap (count_by is_clear_item) taken, parts, more))
    by_place (inr past) = past

-- before a place there are no more packets than in all
pub fewer_before : (x : ℕ) (all : List Item) → count_by is_clear_item (take x all) ≤ count_by is_clear_item all
fewer_before x all =
    let parts : count_by is_clear_item (take x all) + count_by is_clear_item (drop x all) ≡ count_by is_clear_item all =
    sym (counts_joined (take x all) (drop x all)) ∙ ap (count_by is_clear_item) (take-append-drop x all) in
    omega (arith, parts)

-- the first part of a message
pub record FirstPart (s : Setting) (n : ℕ) : Type 0 where
  pub part : EcmPart
  pub rest : List EcmPart
  pub same : parts_of (told_by s n) ≡ part ∷ rest
  pub number : (part.number == n) ≡ true

pub first_part : (s : Setting) (laws : AreLaws s) (n : ℕ) → n ≤ final s → FirstPart s n
first_part s laws n within = by_parts (parts_of (told_by s n)) refl (laws.parts n within) (laws.some n within)
  where
    by_parts : (parts : List EcmPart) → parts_of (told_by s n) ≡ parts → AreParts (told_by s n) [] parts →
        is_nil parts ≡ false → FirstPart s n
    by_parts [] same are some = absurd (cc some)
    by_parts (part ∷ rest) same are some = record {
      part = part;
      rest = rest;
      same = same;
      number = grind (arith, nat_tests, are.0.number, number_is s n);
    }

-- a place with no part of a message before it is not behind the message's begin
pub place_before : (s : Setting) (laws : AreLaws s) (n x : ℕ) (ahead behind : List Item) → n ≤ final s →
    list_any (is_part_of n) (take x (ahead ++ (map Controls (parts_of (told_by s n)) ++ behind))) ≡ false →
    x ≤ length ahead
place_before s laws n x ahead behind within none = by_place (cases_lt (length ahead) x)
  where
    first : FirstPart s n
    first = first_part s laws n within

    from : List Item
    from = map Controls (parts_of (told_by s n)) ++ behind

    by_place : (length ahead < x) ⊎ (x ≤ length ahead) → x ≤ length ahead
    by_place (inr inside) = inside
    by_place (inl past) =
        let d : ℕ = x - length ahead - 1 in
        let at : length ahead + suc d ≡ x = omega (arith, past) in
        let begun : from ≡ Controls first.part ∷ (map Controls first.rest ++ behind) =
        ap (λ (parts : List EcmPart). map Controls parts ++ behind) first.same in
        let fails : list_any (is_part_of n) (ahead ++ (Controls first.part ∷ take d
        (map Controls first.rest ++ behind))) ≡ false =
        ap (λ (items : List Item). list_any (is_part_of n) (ahead ++ take (suc d) items)) (sym begun)
        ∙ (ap (list_any (is_part_of n)) (sym (take-append-add ahead from (suc d)))
        ∙ (ap (λ (i : ℕ). list_any (is_part_of n) (take i (ahead ++ from))) at ∙ none)) in
        absurd (here (first.part.number == n) (list_any (is_part_of n) (take d (map Controls first.rest ++ behind)))
        first.number (fails_both (is_part_of n) ahead (Controls first.part ∷ take d
        (map Controls first.rest ++ behind)) fails).1)
      where
        here : (b c : Bool) → b ≡ true → (b || c) ≡ false → ⊥
        here true c is none = cc
        here false c is none = cc

-- what is kept before a place at which nothing more is lost
abbrev pub front_of : {A : Type 0} → ℕ → List Bool → List A → List A
front_of x flags ahead = chosen flags (take x ahead) ++ drop x ahead

pub kept_is : {A : Type 0} (x : ℕ) (flags : List Bool) (all ahead from : List A) → all ≡ ahead ++ from →
    x ≤ length ahead → AreSetFrom x (length all) flags → chosen flags all ≡ front_of x flags ahead ++ from
kept_is x flags all ahead from same within are =
    chosen_from x flags all are
    ∙ (ap (λ (items : List _). chosen flags (take x items) ++ drop x items) same
    ∙ (ap (λ (items : List _). chosen flags items ++ drop x (ahead ++ from)) (take-append-le x ahead from within)
    ∙ (ap (λ (items : List _). chosen flags (take x ahead) ++ items) (drop-append-le x ahead from within)
    ∙ sym (append_assoc (chosen flags (take x ahead)) (drop x ahead) from))))

pub front_all : {A : Type 0} (P : A → Type 0) (x : ℕ) (flags : List Bool) (ahead : List A) → All P ahead →
    All P (front_of x flags ahead)
front_all P x flags ahead all =
    All-append P (chosen flags (take x ahead)) (drop x ahead)
    (chosen_all_of P flags (take x ahead) (All-take P x ahead all)) (All-drop P x ahead all)

pub front_fails : {A : Type 0} (p : A → Bool) (x : ℕ) (flags : List Bool) (ahead : List A) → list_any p ahead ≡ false →
    list_any p (front_of x flags ahead) ≡ false
front_fails p x flags ahead none =
    let parts = fails_both p (take x ahead) (drop x ahead) (ap (list_any p) (take-append-drop x ahead) ∙ none) in
    fails_joined p (chosen flags (take x ahead)) (drop x ahead) (chosen_fails p flags (take x ahead) parts.0) parts.1
