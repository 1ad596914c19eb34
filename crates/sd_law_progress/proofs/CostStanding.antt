-- What stands of a broadcast of which one thing is lost.
use Rattle.std.proofs.Common.{◌≡◌, refl, ℕ, zero, suc, ◌+◌, ◌-◌, ◌*◌, ◌/◌, ◌%◌, ◌<◌, ◌≤◌, ◌==◌, ◌^◌, ◌&&◌, ◌||◌, Bool}
use Rattle.std.proofs.Common.{true, false, not, if◌then◌else◌}
use Rattle.std.proofs.Common.{List, [], ◌∷◌, ◌++◌, map, length, arith, sym, ap, ◌∙◌, inl, inr, ◌⊎◌, append_assoc}
use Rattle.std.proofs.Common.{take, drop, length-append}
use Rattle.sd_message.specs.declared.ecm_part.EcmPart.{EcmPart}
use Rattle.sd_packet.specs.Header.{pid_of}
use Rattle.std.specs.List.{list_any, range_with_len}
use Rattle.std.proofs.lemmas.Bool.{cases_lt, or_parts}
use Rattle.std.proofs.lemmas.Bool.Decides.{nat_tests}
use Rattle.std.proofs.lemmas.List.Folds.{list_any-append}
use Rattle.std.proofs.Math.Nat.{mul-mod_left, mul-div_cancel, div-lt_iff_lt-mul, le-div_iff_mul-le}
use Rattle.sd_site_cards.specs.SiteFields.{AreInRange}
use Rattle.sd_message.specs.EcmParts.{parts_of}
use Rattle.sd_spec.specs.Plan.{Plan, IsPlan, crypto_length, period_of, closing_number}
use Rattle.sd_spec.specs.Kinds.{kind_of, is_scrambled}
use Rattle.sd_spec.specs.Sent.{Item, Cat, Entitles, Controls, Carries, tables_at, tables_before}
use Rattle.sd_spec.proofs.Schedule.{since_is_below, closing_needed}
use Rattle.sd_law_losses.specs.Kept.{is_kept, is_part, has_parts, has_arrived, entitles, is_last_part}
use Rattle.sd_law_losses.specs.Kept.{is_entitled_before}
use Rattle.sd_law_losses.specs.Confirmed.{packet_at, is_traced, is_revoked_in}
use Rattle.sd_law_losses.proofs.AllOpened.{sections_entitle}
use Rattle.sd_law_losses.specs.Chosen.{chosen}
use Rattle.sd_law_losses.proofs.Arriving.{is_of, last_there, chosen_all, arrived_stays, arrived_by_parts}
use Rattle.sd_law_losses.proofs.Carrying.{carrying}
use Rattle.sd_law_losses.proofs.Confirming.{confirms}
use Rattle.sd_law_losses.proofs.Coming.{all_kept}
use Rattle.sd_law_losses.proofs.Later.{tables_before_fail, no_section_part, chosen_append, chosen_map, chosen_fails}
use Rattle.sd_law_losses.proofs.Later.{numbers_later}
use Rattle.sd_law_losses.proofs.Opened.{one_period}
use Rattle.sd_law_losses.proofs.Pairs.{start_of, number_is}
use Rattle.sd_law_losses.proofs.Remaining.{group_at, rest_at, rest_more, number_within, due_number, number_rises}
use Rattle.sd_law_losses.proofs.Setting.{Setting, AreLaws, final, told_by}
use Rattle.sd_law_losses.proofs.Standing.{pre_at, sent_split, any_first, any_second, pre_numbers}
use Rattle.sd_law_losses.proofs.Standing.{message_stands}
use Rattle.sd_law_losses.proofs.Tests.{any_agree, all_agree, none_weaker}
use Rattle.sd_law_losses.proofs.Untuned.{tail_at}
use Rattle.sd_law_progress.proofs.CostLists.{any_without, none_without, first_or_second, IsFirst, IsSecond}
use Rattle.sd_law_progress.proofs.CostPairs.{pair_confirms}

part_is_of : (a x : ℕ) (item : Item) → is_of a item ≡ false → is_part a x item ≡ false
part_is_of a x Cat h = refl
part_is_of a x (Entitles emm) h = refl
part_is_of a x (Carries j packet) h = refl
part_is_of a x (Controls part) h = rw h refl

pub last_is_of : (a : ℕ) (item : Item) → is_of a item ≡ false → is_last_part a item ≡ false
last_is_of a Cat h = refl
last_is_of a (Entitles emm) h = refl
last_is_of a (Carries j packet) h = refl
last_is_of a (Controls part) h = rw h refl

has_is_of : (kept : List Item) (a : ℕ) (item : Item) → is_of a item ≡ false → has_parts kept a item ≡ false
has_is_of kept a Cat h = refl
has_is_of kept a (Entitles emm) h = refl
has_is_of kept a (Carries j packet) h = refl
has_is_of kept a (Controls part) h = rw h refl

-- a message arrives as before if a thing is lost that is no part of it
parts_without : (xs ys : List Item) (x : Item) (a : ℕ) → is_of a x ≡ false → (item : Item) →
    has_parts (xs ++ ys) a item ≡ has_parts (xs ++ x ∷ ys) a item
parts_without xs ys x a other Cat = refl
parts_without xs ys x a other (Entitles emm) = refl
parts_without xs ys x a other (Carries j packet) = refl
parts_without xs ys x a other (Controls part) =
    ap (λ (b : Bool). (part.number == a) && b)
    (all_agree (λ n. list_any (is_part a n) (xs ++ ys)) (λ n. list_any (is_part a n) (xs ++ x ∷ ys))
    (range_with_len 0 (part.last_part + 1)) (λ n. any_without (is_part a n) xs ys x (part_is_of a n x other)))

pub arrived_without : (xs ys : List Item) (x : Item) (a : ℕ) → is_of a x ≡ false →
    has_arrived (xs ++ ys) a ≡ has_arrived (xs ++ x ∷ ys) a
unfolding has_arrived
arrived_without xs ys x a other =
    any_agree (has_parts (xs ++ ys) a) (has_parts (xs ++ x ∷ ys) a) (xs ++ ys) (parts_without xs ys x a other)
    ∙ any_without (has_parts (xs ++ x ∷ ys) a) xs ys x (has_is_of (xs ++ x ∷ ys) a x other)

-- a section that entitles, before the last part of a message
pub entitled_by : (h u q a : ℕ) (xs ys : List Item) → list_any (is_last_part a) xs ≡ false →
    list_any (entitles h u q) xs ≡ true → list_any (is_last_part a) ys ≡ true →
    is_entitled_before h u q a (xs ++ ys) ≡ true
unfolding is_entitled_before
entitled_by h u q a [] ys none some ends = absurd (cc some)
entitled_by h u q a (x ∷ xs) ys none some ends =
    let parts = or_parts (is_last_part a x) (list_any (is_last_part a) xs) none in
    rw parts.0 (rw (any_second (is_last_part a) xs ys ends)
    (by_test (entitles h u q x) some (λ some. entitled_by h u q a xs ys parts.1 some ends)))
  where
    by_test : (b : Bool) → (b || list_any (entitles h u q) xs) ≡ true →
        (list_any (entitles h u q) xs ≡ true → is_entitled_before h u q a (xs ++ ys) ≡ true) →
        ((b && true) || is_entitled_before h u q a (xs ++ ys)) ≡ true
    by_test true some rest = refl
    by_test false some rest = rest some

-- what passes stands in the second of two lists if none in the first does
pub any_later : {A : Type 0} (p : A → Bool) (xs ys : List A) → list_any p (xs ++ ys) ≡ true → list_any p xs ≡ false →
    list_any p ys ≡ true
any_later p xs ys some none =
    ap (λ (b : Bool). b || list_any p ys) (sym none) ∙ (sym (list_any-append p xs ys) ∙ some)

-- what is sent up to the tables before packet k, and what is sent after them
abbrev pub up_to_tables : Setting → ℕ → List Item
up_to_tables s k = pre_at s k ++ tables_before s.plan k

abbrev pub after_tables : Setting → ℕ → List Item
after_tables s k = tail_at s k ++ rest_at s (k + 1)

pub tables_split : (s : Setting) (k : ℕ) → AreInRange s.plan.site → k < length s.clear →
    rest_at s 0 ≡ up_to_tables s k ++ after_tables s k
tables_split s k range within =
    sent_split s k range (omega (arith, within))
    ∙ (ap (λ (xs : List Item). pre_at s k ++ xs) (rest_more s k range within
    ∙ append_assoc (tables_before s.plan k) (tail_at s k) (rest_at s (k + 1)))
    ∙ sym (append_assoc (pre_at s k) (tables_before s.plan k) (after_tables s k)))

-- no part of message a is sent before packet k, which is at or before its place, nor with the tables
pub no_part_yet : (s : Setting) (laws : AreLaws s) (k a : ℕ) → a < final s → k ≤ start_of s a →
    list_any (is_of a) (up_to_tables s k) ≡ false
no_part_yet s laws k a below before =
    list_any-append (is_of a) (pre_at s k) (tables_before s.plan k)
    ∙ rw (pre_numbers s laws k a (omega (arith, inside, before)) (omega (arith, number, rises)))
    (tables_before_fail s (is_of a) refl (no_section_part a) k)
  where
    inside : start_of s a < length s.clear
    inside = closing_needed s.plan.site (length s.clear) a laws.range below

    due : (start_of s a % s.plan.site.every == 0) ≡ true
    due = grind (arith, nat_tests, mul-mod_left a s.plan.site.every)

    number : closing_number s.plan.site (start_of s a) ≡ a
    number = (due_number s.plan.site (start_of s a) laws.range due).0
        ∙ mul-div_cancel a (omega (arith, laws.range.every.0))

    rises : closing_number s.plan.site k ≤ closing_number s.plan.site (start_of s a)
    rises = number_rises s.plan.site k (start_of s a) laws.range before

-- the last part of each message is sent
pub last_sent : (s : Setting) (laws : AreLaws s) (a : ℕ) → a < final s → list_any (is_last_part a) (rest_at s 0) ≡ true
last_sent s laws a below =
    ap (list_any (is_last_part a)) (message_stands s a laws.range below)
    ∙ any_second (is_last_part a) (up_to_tables s (start_of s a))
    (map Controls (parts_of (told_by s a)) ++ ((carrying s (start_of s a) ∷ []) ++ rest_at s (start_of s a + 1)))
    (any_first (is_last_part a) (map Controls (parts_of (told_by s a)))
    ((carrying s (start_of s a) ∷ []) ++ rest_at s (start_of s a + 1))
    (ap (λ (n : ℕ). list_any (is_last_part n) (map Controls (parts_of (told_by s a)))) (sym (number_is s a))
    ∙ last_there (told_by s a) (parts_of (told_by s a)) [] (laws.parts a (omega (arith, below)))
    (laws.some a (omega (arith, below)))))

-- a message that has arrived of which some things are lost has its last part
pub arrived_has_last : (s : Setting) (laws : AreLaws s) (flags : List Bool) (a : ℕ) → a < final s →
    has_arrived (chosen flags (rest_at s 0)) a ≡ true → list_any (is_last_part a) (chosen flags (rest_at s 0)) ≡ true
arrived_has_last s laws flags a below arrived =
    ap (list_any (is_last_part a)) parted
    ∙ any_second (is_last_part a) front (map Controls (chosen middle ps) ++ back)
    (any_first (is_last_part a) (map Controls (chosen middle ps)) back
    (ap (λ (qs : List EcmPart). list_any (is_last_part a) (map Controls qs)) (chosen_all middle ps whole)
    ∙ (ap (λ (n : ℕ). list_any (is_last_part n) (map Controls ps)) (sym (number_is s a))
    ∙ last_there (told_by s a) ps [] (laws.parts a (omega (arith, below))) (laws.some a (omega (arith, below))))))
  where
    k : ℕ
    k = start_of s a

    ps : List EcmPart
    ps = parts_of (told_by s a)

    later : List Item
    later = (carrying s k ∷ []) ++ rest_at s (k + 1)

    front : List Item
    front = chosen (take (length (up_to_tables s k)) flags) (up_to_tables s k)

    others : List Bool
    others = drop (length (up_to_tables s k)) flags

    middle : List Bool
    middle = take (length (map Controls ps)) others

    back : List Item
    back = chosen (drop (length (map Controls ps)) others) later

    parted : chosen flags (rest_at s 0) ≡ front ++ (map Controls (chosen middle ps) ++ back)
    parted = ap (chosen flags) (message_stands s a laws.range below)
        ∙ (chosen_append flags (up_to_tables s k) (map Controls ps ++ later)
        ∙ ap (λ (xs : List Item). front ++ xs) (chosen_append others (map Controls ps) later
        ∙ ap (λ (xs : List Item). xs ++ back) (chosen_map Controls middle ps)))

    inside : k < length s.clear
    inside = closing_needed s.plan.site (length s.clear) a laws.range below

    due : (k % s.plan.site.every == 0) ≡ true
    due = grind (arith, nat_tests, mul-mod_left a s.plan.site.every)

    number : closing_number s.plan.site (k + 1) ≡ a + 1
    number = (due_number s.plan.site k laws.range due).1
        ∙ ap (λ (n : ℕ). n + 1) (mul-div_cancel a (omega (arith, laws.range.every.0)))

    none_before : list_any (is_of a) front ≡ false
    none_before = chosen_fails (is_of a) (take (length (up_to_tables s k)) flags) (up_to_tables s k)
        (no_part_yet s laws k a below (omega arith))

    none_after : list_any (is_of a) back ≡ false
    none_after = chosen_fails (is_of a) (drop (length (map Controls ps)) others) later
        (numbers_later s laws (length s.clear - (k + 1)) (k + 1) a (omega (arith, inside)) (omega (arith, number)))

    whole : all_kept middle ps ≡ true
    whole =
        sym (ap (λ (xs : List Item). has_arrived xs a) parted
        ∙ (ap (λ (xs : List Item). has_arrived xs a) (sym (append_assoc front (map Controls (chosen middle ps)) back))
        ∙ (arrived_stays (front ++ map Controls (chosen middle ps)) back a none_after
        ∙ (ap (has_arrived (front ++ map Controls (chosen middle ps))) (sym (number_is s a))
        ∙ arrived_by_parts (told_by s a) front middle ps
        (ap (λ (n : ℕ). list_any (is_of n) front) (number_is s a) ∙ none_before)
        (laws.parts a (omega (arith, below))) (laws.some a (omega (arith, below)))))))
        ∙ arrived

-- the tables entitle to their period
pub tables_entitle : (plan : Plan) (k u : ℕ) → IsPlan plan → u < 2 ^ plan.site.height →
    (k % crypto_length plan.site == 0) ≡ true → is_revoked_in plan u (period_of plan k) ≡ false →
    list_any (entitles plan.site.height u (period_of plan k)) (tables_before plan k) ≡ true
unfolding tables_at
tables_entitle plan k u is leaf due free =
    ap (λ (b : Bool). list_any (entitles plan.site.height u (period_of plan k))
    (if b then tables_at plan k else [])) due
    ∙ (sections_entitle plan (period_of plan k) u is leaf ∙ ap not free)

-- the key of a message's period is known at the message if its last part is kept, and if of what was sent up to the
-- tables before packet k, which is no later than the message, something is left that has the key
pub entitled_still : (s : Setting) (laws : AreLaws s) (before after : List Item) (x : Item) (k a q : ℕ) →
    rest_at s 0 ≡ before ++ x ∷ after → a < final s → k ≤ start_of s a →
    list_any (is_last_part a) (before ++ after) ≡ true →
    list_any (entitles s.plan.site.height s.card.leaf q) (up_to_tables s k) ≡ true →
    ((rest : List Item) → up_to_tables s k ≡ before ++ x ∷ rest →
    list_any (entitles s.plan.site.height s.card.leaf q) (before ++ rest) ≡ true) →
    is_entitled_before s.plan.site.height s.card.leaf q a (before ++ after) ≡ true
entitled_still s laws before after x k a q lost below early told some still =
    by_place (first_or_second first second before x after (sym split ∙ lost))
  where
    first : List Item
    first = up_to_tables s k

    second : List Item
    second = after_tables s k

    split : rest_at s 0 ≡ first ++ second
    split = tables_split s k laws.range (omega (
      arith,
      closing_needed s.plan.site (length s.clear) a laws.range below,
      early,
    ))

    none : list_any (is_last_part a) first ≡ false
    none = none_weaker (is_last_part a) (is_of a) first (last_is_of a) (no_part_yet s laws k a below early)

    ends : list_any (is_last_part a) second ≡ true
    ends = any_later (is_last_part a) first second
        (ap (list_any (is_last_part a)) (sym split) ∙ last_sent s laws a below) none

    by_place : IsFirst first second before x after ⊎ IsSecond first second before x after →
        is_entitled_before s.plan.site.height s.card.leaf q a (before ++ after) ≡ true
    by_place (inl (rest, front, back)) =
        ap (λ (xs : List Item). is_entitled_before s.plan.site.height s.card.leaf q a (before ++ xs)) back
        ∙ (ap (is_entitled_before s.plan.site.height s.card.leaf q a) (sym (append_assoc before rest second))
        ∙ entitled_by s.plan.site.height s.card.leaf q a (before ++ rest) second
        (none_without (is_last_part a) before rest x (ap (list_any (is_last_part a)) (sym front) ∙ none))
        (still rest front) ends)
    by_place (inr (rest, front, back)) =
        ap (λ (xs : List Item). is_entitled_before s.plan.site.height s.card.leaf q a (xs ++ after)) front
        ∙ (ap (is_entitled_before s.plan.site.height s.card.leaf q a) (append_assoc first rest after)
        ∙ entitled_by s.plan.site.height s.card.leaf q a first (rest ++ after) none some
        (any_later (is_last_part a) first (rest ++ after)
        (ap (list_any (is_last_part a)) (sym (ap (λ (xs : List Item). xs ++ after) front
        ∙ append_assoc first rest after)) ∙ told) none))

-- how much is sent before each packet
sent_grows : (s : Setting) (k : ℕ) → AreInRange s.plan.site → k < length s.clear →
    length (pre_at s (k + 1)) ≡ length (pre_at s k) + length (group_at s k)
sent_grows s k range within =
    let here : length (rest_at s 0) ≡ length (pre_at s k) + length (rest_at s k) =
    ap length (sent_split s k range (omega (arith, within))) ∙ length-append (pre_at s k) (rest_at s k) in
    let next : length (rest_at s 0) ≡ length (pre_at s (k + 1)) + length (rest_at s (k + 1)) =
    ap length (sent_split s (k + 1) range (omega (arith, within)))
    ∙ length-append (pre_at s (k + 1)) (rest_at s (k + 1)) in
    let more : length (rest_at s k) ≡ length (group_at s k) + length (rest_at s (k + 1)) =
    ap length (rest_more s k range within) ∙ length-append (group_at s k) (rest_at s (k + 1)) in
    omega (arith, here, next, more)

sent_none : (s : Setting) → AreInRange s.plan.site → length (pre_at s 0) ≡ 0
sent_none s range =
    let all : length (rest_at s 0) ≡ length (pre_at s 0) + length (rest_at s 0) =
    ap length (sent_split s 0 range (omega arith)) ∙ length-append (pre_at s 0) (rest_at s 0) in
    omega (arith, all)

pub sent_rises : (s : Setting) (j n : ℕ) → AreInRange s.plan.site → j + n ≤ length s.clear →
    length (pre_at s j) ≤ length (pre_at s (j + n))
sent_rises s j zero range within =
    let same : j + 0 ≡ j = omega arith in omega (arith, ap (λ (n : ℕ). length (pre_at s n)) same)
sent_rises s j (suc n) range within =
    let same : j + n + 1 ≡ j + suc n = omega arith in
    omega (
      arith,
      ap (λ (m : ℕ). length (pre_at s m)) same,
      sent_grows s (j + n) range (omega (arith, within)),
      sent_rises s j n range (omega (arith, within)),
    )

-- the tables stand before their packet
pub tables_rise : (s : Setting) (k : ℕ) → AreInRange s.plan.site → k < length s.clear →
    length (up_to_tables s k) ≤ length (pre_at s (k + 1))
tables_rise s k range within = omega (
  arith,
  sent_grows s k range within,
  length-append (pre_at s k) (tables_before s.plan k),
  length-append (tables_before s.plan k) (tail_at s k),
)

-- thing number i is sent with packet l, if there is no packet before which it isn't sent
abbrev pub IsSentWith : Setting → ℕ → ℕ → Type 0
IsSentWith s i l = (l < length s.clear) × (length (pre_at s l) ≤ i) × (i < length (pre_at s (l + 1)))

pub sent_with : (s : Setting) (i k : ℕ) → AreInRange s.plan.site → k ≤ length s.clear → i < length (pre_at s k) →
    (l : ℕ) × IsSentWith s i l
sent_with s i zero range within below = absurd (omega (arith, below, sent_none s range))
sent_with s i (suc k) range within below =
    by_order (cases_lt i (length (pre_at s k))) (sent_with s i k range (omega (arith, within)))
  where
    by_order : (i < length (pre_at s k)) ⊎ (length (pre_at s k) ≤ i) →
        (i < length (pre_at s k) → (l : ℕ) × IsSentWith s i l) → (l : ℕ) × IsSentWith s i l
    by_order (inl early) rest = rest early
    by_order (inr here) rest =
        let more : suc k ≡ k + 1 = omega arith in
        (k, (omega (arith, within), here, omega (arith, below, ap (λ (n : ℕ). length (pre_at s n)) more)))

-- a clear packet that is due is confirmed if it is kept, the messages before and after it arrive, its key is known at
-- the one before it, and it is traced
pub next_confirms : (s : Setting) (kept : List Item) (j : ℕ) → AreInRange s.plan.site → j < length s.clear →
    has_arrived kept (j / s.plan.site.every) ≡ true → has_arrived kept (j / s.plan.site.every + 1) ≡ true →
    is_entitled_before s.plan.site.height s.card.leaf (period_of s.plan (start_of s (j / s.plan.site.every)))
    (j / s.plan.site.every) kept ≡ true →
    is_kept kept j ≡ true →
    (is_scrambled (kind_of (take j s.clear) (packet_at s.clear j)) ≡ true →
    is_traced s.plan s.clear kept (j / s.plan.site.every) (j / s.plan.site.every + 1) (pid_of (packet_at s.clear j))
    ≡ true) → confirms s kept j ≡ true
next_confirms s kept j range within is_a is_b entitled there traced =
    pair_confirms s kept a (a + 1) j range (record { below = omega arith; within = omega (arith, below) }) is_a is_b
    (λ c above to. absurd (omega (arith, above, to)))
    (omega (arith, since_is_below s.plan.site.messages s.plan.site.cryptos (a + 1) (omega arith)))
    entitled (omega (arith, grown, range.every.1)) there from (omega (arith, next, within)) traced
  where
    some : 0 < s.plan.site.every
    some = omega (arith, range.every.0)

    a : ℕ
    a = j / s.plan.site.every

    below : a < final s
    below = number_within s j range within

    from : start_of s a ≤ j
    from = (le-div_iff_mul-le some).0 (omega arith)

    next : j < (a + 1) * s.plan.site.every
    next = (div-lt_iff_lt-mul some).0 (omega arith)

    grown : (a + 1) * s.plan.site.every ≡ a * s.plan.site.every + s.plan.site.every
    grown = grind arith

-- its period is that of the message before it
pub period_before : (s : Setting) (j : ℕ) → AreInRange s.plan.site →
    period_of s.plan j ≡ period_of s.plan (start_of s (j / s.plan.site.every))
period_before s j range = one_period s.plan (j / s.plan.site.every) (j / s.plan.site.every + 1) j range
    (omega (arith, since_is_below s.plan.site.messages s.plan.site.cryptos (j / s.plan.site.every + 1) (omega arith)))
    (omega arith) (omega arith)
