-- The ending of a broadcast of which packets were lost.
use Rattle.std.proofs.Common.{◌≡◌, refl, ℕ, zero, suc, ◌+◌, ◌-◌, ◌*◌, ◌<◌, ◌≤◌, ◌==◌, ◌&&◌, Bool, true, false, not, min}
use Rattle.std.proofs.Common.{List, [], ◌∷◌, ◌++◌, map, filter, reverse, length, Option, Some, None, is_none}
use Rattle.std.proofs.Common.{if◌then◌else◌}
use Rattle.std.proofs.Common.{arith, sym, ap, ◌∙◌, inl, inr, append-nil, append_assoc}
use Rattle.std.specs.Prelude.{All, Contains, option_map}
use Rattle.std.specs.List.{list_any, list_all, range_with_len, find}
use Rattle.std.specs.Option.{option_map_or}
use Rattle.std.proofs.lemmas.List.{reverse-append, reverse-reverse, map-append}
use Rattle.std.proofs.lemmas.List.Elements.{All-head, All-contains}
use Rattle.std.proofs.lemmas.Bool.{cases_lt, both_ways}
use Rattle.sd_site_cards.specs.CardFields.{CardFields}
use Rattle.sd_site_cards.specs.SiteFields.{AreInRange}
use Rattle.sd_message.specs.Pieces.{pieces_for}
use Rattle.sd_message.specs.EmmForm.{sections_for}
use Rattle.sd_message.specs.Period.{emms_of, IsOfPeriod}
use Rattle.sd_message.specs.declared.emm.Emm.{Emm}
use Rattle.sd_message.proofs.EmmSharing.{all_are_of}
use Rattle.sd_message.specs.EcmParts.{Message}
use Rattle.sd_spec.specs.Plan.{sets_at, period_of}
use Rattle.sd_spec.specs.Messages.{period_at, message_at}
use Rattle.sd_spec.specs.Sent.{Item, sent, closing_of, broadcast, is_cat_item}
use Rattle.sd_spec.proofs.Schedule.{closing_needed, closing_covers}
use Rattle.sd_law_broadcast.proofs.Fitting.{period_count}
use Rattle.sd_spec.specs.Tuned.{tuning_of}
use Rattle.sd_psi.specs.declared.our_cat.Tuning.{Tuning}
use Rattle.sd_spec.specs.Heard.{Heard}
use Rattle.sd_spec.specs.Stretches.{newest_message, sections_seen}
use Rattle.sd_spec.specs.Offered.{heard}
use Rattle.sd_spec.specs.Ending.{periods_told, is_unkeyed, is_all_seen, are_all, ending_with, closed_ending}
use Rattle.sd_spec.specs.Ending.{endings_joined, run_wrote, run_ending, ended_before, ending_of}
use Rattle.sd_spec.specs.declared.ending.Ending.{Ending}
use Rattle.sd_spec.specs.declared.ending.Ending.TheVariants.{NoCat, Unclosed}
use Rattle.sd_spec.proofs.Runs.{opened_joins}
use Rattle.sd_law_losses.specs.Chosen.{chosen}
use Rattle.sd_law_losses.specs.Kept.{after_cat, has_arrived, arrived, is_section_item}
use Rattle.sd_law_losses.specs.Confirmed.{confirmed}
use Rattle.sd_law_losses.specs.Endings.{period_told, periods_arrived, is_untold, has_all, closed_told, next_number}
use Rattle.sd_law_losses.specs.Endings.{ending_told}
use Rattle.sd_law_losses.specs.Taken.{taken_keys, how_many}
use Rattle.sd_law_losses.proofs.Taking.{keys_of, taken_heard, how_many_none}
use Rattle.sd_law_losses.proofs.OneRun.{AreOneRun, none_ended, run_wrote_first}
use Rattle.sd_law_losses.proofs.Untuned.{untuned_heard, untuned_one_run, after_no_cat}
use Rattle.sd_law_losses.proofs.Writing.{onto}
use Rattle.sd_law_losses.proofs.Neighbours.{greatest_none, greatest_is}
use Rattle.sd_law_losses.proofs.Tests.{all_agree, not_all_range}
use Rattle.sd_law_losses.proofs.Setting.{Setting, AreLaws, final, told_by, key_where}
use Rattle.sd_law_losses.proofs.Pairs.{period_is, closing_is, number_is}
use Rattle.sd_law_losses.proofs.Facts.{IsLast, is_told}
use Rattle.sd_law_losses.proofs.Hearing.{AreHearable}
use Rattle.sd_law_losses.proofs.Ended.{HasEnded, StandsEnded}
use Rattle.sd_law_losses.proofs.AnyLoss.{losses_are_confirmed}
use Rattle.sd_law_losses.proofs.Ends.{EndsBefore, losses_stand}

-- packets in their order, turned round
pub onto_reverse : {A : Type 0} (xs ys : List A) → onto xs ys ≡ reverse xs ++ ys
onto_reverse [] ys = refl
onto_reverse (x ∷ xs) ys = onto_reverse xs (x ∷ ys)
    ∙ (sym (append_assoc (reverse xs) (x ∷ []) ys) ∙ ap (λ (zs : List _). zs ++ ys) (sym (reverse-append (x ∷ []) xs)))

reverse_map : {A B : Type 0} (f : A → B) (xs : List A) → reverse (map f xs) ≡ map f (reverse xs)
reverse_map f [] = refl
reverse_map f (x ∷ xs) = reverse-append (f x ∷ []) (map f xs)
    ∙ (ap (λ (ys : List _). ys ++ f x ∷ []) (reverse_map f xs)
    ∙ (sym (map-append f (reverse xs) (x ∷ [])) ∙ ap (map f) (sym (reverse-append (x ∷ []) xs))))

map_map : {A B C : Type 0} (f : B → C) (g : A → B) (xs : List A) → map f (map g xs) ≡ map (λ x. f (g x)) xs
map_map f g [] = refl
map_map f g (x ∷ xs) = ap (λ (ys : List _). f (g x) ∷ ys) (map_map f g xs)

find_agree : {A : Type 0} (p q : A → Bool) (xs : List A) → ((x : A) → p x ≡ q x) → find p xs ≡ find q xs
find_agree p q [] same = refl
find_agree p q (x ∷ xs) same = rw (same x) (ap (λ (o : Option _). if q x then Some x else o) (find_agree p q xs same))

map_agree : (f g p : ℕ → ℕ) (test : ℕ → Bool) (s n : ℕ) → ((x : ℕ) → s ≤ x → x < s + n → f x ≡ g x) →
    map f (filter test (range_with_len s n)) ≡ map g (filter test (range_with_len s n))
map_agree f g p test s zero same = refl
map_agree f g p test s (suc n) same = by_test (test s)
    (map_agree f g p test (s + 1) n (λ x low high. same x (omega (arith, low)) (omega (arith, high))))
  where
    by_test : (b : Bool) → map f (filter test (range_with_len (s + 1) n)) ≡ map g (filter test (range_with_len
        (s + 1) n)) →
        map f (if b then s ∷ filter test (range_with_len (s + 1) n) else filter test (range_with_len (s + 1) n))
        ≡ map g (if b then s ∷ filter test (range_with_len (s + 1) n) else filter test (range_with_len (s + 1) n))
    by_test true rest = rw (same s (omega arith) (omega arith)) (ap (λ (ys : List ℕ). g s ∷ ys) rest)
    by_test false rest = rest

-- the period of each message
told_period : (s : Setting) (a : ℕ) → AreInRange s.plan.site → a < 0 + (final s + 1) →
    (told_by s a).period ≡ period_told s.plan s.clear a
unfolding message_at
told_period s a range within = elim (cases_lt a (final s)) [
  | inl below ↦ period_is s a below ∙ ap (period_of s.plan)
      (omega (arith, closing_needed s.plan.site (length s.clear) a range below))
  | inr above ↦ ap (λ (m : Message). m.period) (closing_is s a above) ∙ ap (period_of s.plan) (last_one (omega
      (arith, within, above)))
]
  where
    last_one : a ≡ final s → length s.clear - 1 ≡ min (a * s.plan.site.every) (length s.clear - 1)
    last_one same =
        let covers : length s.clear ≤ a * s.plan.site.every =
        rw same (closing_covers s.plan.site (length s.clear) range) in
        omega (arith, covers)

-- the periods of the messages that were told
periods_are : (s : Setting) (kept : List Item) (past : List Heard) → AreInRange s.plan.site → HasEnded s kept past →
    periods_told past ≡ periods_arrived s.plan s.clear kept
unfolding periods_told periods_arrived arrived
periods_are s kept past range ends =
    ap (λ (ms : List Message). reverse (map (λ m. m.period) ms)) ends.told
    ∙ (reverse_map (λ (m : Message). m.period) (map (told_by s) (reverse ns))
    ∙ (ap (map (λ m. m.period)) (reverse_map (told_by s) (reverse ns) ∙ ap (map (told_by s)) (reverse-reverse ns))
    ∙ (map_map (λ (m : Message). m.period) (told_by s) ns
    ∙ map_agree (λ a. (told_by s a).period) (period_told s.plan s.clear) (λ a. a) (has_arrived kept) 0 (final s + 1)
    (λ a low within. told_period s a range within))))
  where
    ns : List ℕ
    ns = filter (has_arrived kept) (range_with_len 0 (final s + 1))

-- the key is had where it was told
unkeyed_is : (s : Setting) (kept : List Item) (past : List Heard) (q : ℕ) → HasEnded s kept past →
    is_unkeyed s.card past q ≡ is_untold s.plan s.card.leaf kept q
unkeyed_is s kept past q ends = ap is_none (ends.keys q) ∙ by_told (is_told s q kept)
  where
    by_told : (b : Bool) → is_none (key_where s q b) ≡ not b
    by_told true = refl
    by_told false = refl

-- a period has a section at least
pub some_section : (n : ℕ) → 0 < sections_for n
unfolding pieces_for
some_section n = omega arith

-- all sections were seen where all are kept
all_seen_is : (s : Setting) (kept : List Item) (past : List Heard) (q : ℕ) → HasEnded s kept past →
    is_all_seen past q ≡ has_all s.plan kept q
unfolding has_all
all_seen_is s kept past q ends = by_seen (sections_seen q past) (ends.sections q) (ends.indexes q)
  where
    by_seen : (sections : List Emm) → All (Contains (emms_of (period_at s.plan q))) sections →
        ((x : ℕ) → list_any (λ emm. emm.index == x) sections ≡ list_any (is_section_item q x) kept) →
        are_all sections ≡ list_all (λ x. list_any (is_section_item q x) kept) (range_with_len 0 (sections_for (length
        (sets_at s.plan q))))
    by_seen [] all indexes =
        sym (not_all_range (λ x. list_any (is_section_item q x) kept) 0 (sections_for (length (sets_at s.plan q))) 0
        (omega arith)
        (omega (arith, some_section (length (sets_at s.plan q)))) (sym (indexes 0)))
    by_seen (emm ∷ rest) all indexes =
        let of_it = All-contains (IsOfPeriod (period_at s.plan q)) (emms_of (period_at s.plan q)) emm (all_are_of
        (period_at s.plan q))
        (All-head (Contains (emms_of (period_at s.plan q))) emm rest all) in
        let count : emm.sections ≡ sections_for (length (sets_at s.plan q)) =
        of_it.sections ∙ ap sections_for (period_count s.plan q) in
        ap (λ (n : ℕ). list_all (λ x. list_any (λ other. other.index == x) (emm ∷ rest)) (range_with_len 0 n)) count
        ∙ all_agree (λ x. list_any (λ other. other.index == x) (emm ∷ rest)) (λ x. list_any (is_section_item q x) kept)
        (range_with_len 0 (sections_for (length (sets_at s.plan q)))) indexes

-- what the last message tells where the closing one has arrived
clear_is : (s : Setting) (kept : List Item) (last : Option ℕ) → IsLast (final s + 1) kept last →
    has_arrived kept (final s) ≡ true →
    option_map_or (λ message. message.clear) (option_map (told_by s) last) 0 ≡ length s.clear
unfolding message_at
clear_is s kept None none there = absurd (both_ways (has_arrived kept (final s)) (none (final s)) there)
clear_is s kept (Some c) is there = elim (cases_lt c (final s)) [
  | inl below ↦ absurd (both_ways (has_arrived kept (final s)) (is.2 (final s) below) there)
  | inr above ↦ ap (λ (m : Message). m.clear) (closing_is s c above)
]

-- and the number after the last one
next_is : (s : Setting) (kept : List Item) (last : Option ℕ) → IsLast (final s + 1) kept last →
    option_map_or (λ message. message.number + 1) (option_map (told_by s) last) 0 ≡ next_number s.plan s.clear kept
unfolding next_number arrived
next_is s kept None none =
    ap (λ (g : Option ℕ). option_map_or (λ a. a + 1) g 0)
    (sym (greatest_none (has_arrived kept) (final s) 0 (final s + 1) (λ c low high. none c)))
next_is s kept (Some c) is =
    ap (λ (n : ℕ). n + 1) (number_is s c)
    ∙ ap (λ (g : Option ℕ). option_map_or (λ a. a + 1) g 0)
    (sym (greatest_is (has_arrived kept) (final s) 0 (final s + 1) c (omega arith) (omega (arith, is.0)) (omega
    (arith, is.0)) is.1
    (λ b above within. is.2 b above)))

-- so the run ends as it is told by what is kept after the CAT
run_ends : (s : Setting) (kept : List Item) (past : List Heard) (written : ℕ) → AreInRange s.plan.site →
    HasEnded s kept past → run_ending s.card past written
    ≡ (if has_arrived kept (final s) then closed_told s.plan s.card.leaf s.clear kept written else Unclosed
    (next_number s.plan s.clear kept))
unfolding run_ending closed_told
run_ends s kept past written range ends =
    ap (λ (b : Bool). if b then closed_ending s.card past written
    else Unclosed (option_map_or (λ message. message.number + 1) (newest_message past).message 0)) ends.closed
    ∙ by_closed (has_arrived kept (final s)) refl
  where
    both : (q : ℕ) → (is_unkeyed s.card past q && is_all_seen past q)
        ≡ (is_untold s.plan s.card.leaf kept q && has_all s.plan kept q)
    both q = ap (λ (b : Bool). b && is_all_seen past q) (unkeyed_is s kept past q ends)
        ∙ ap (λ (b : Bool). is_untold s.plan s.card.leaf kept q && b) (all_seen_is s kept past q ends)

    by_closed : (b : Bool) → has_arrived kept (final s) ≡ b →
        (if b then closed_ending s.card past written
        else Unclosed (option_map_or (λ message. message.number + 1) (newest_message past).message 0))
        ≡ (if b then closed_told s.plan s.card.leaf s.clear kept written else Unclosed
        (next_number s.plan s.clear kept))
    by_closed false none = ap Unclosed (ap (λ (m : Option Message). option_map_or
        (λ message. message.number + 1) m 0) ends.message
        ∙ next_is s kept ends.last ends.last_is)
    by_closed true there =
        ap (λ (qs : List ℕ). ending_with (find (λ q. is_unkeyed s.card past q && is_all_seen
        past q) qs)
        (find (is_unkeyed s.card past) qs)
        (option_map_or (λ message. message.clear) (newest_message past).message 0 - written))
        (periods_are s kept past range ends)
        ∙ (ap (λ (o : Option ℕ). ending_with o (find (is_unkeyed s.card past)
        (periods_arrived s.plan s.clear kept))
        (option_map_or (λ message. message.clear) (newest_message past).message 0 - written))
        (find_agree (λ q. is_unkeyed s.card past q && is_all_seen past q)
        (λ q. is_untold s.plan s.card.leaf kept q && has_all s.plan kept q) (periods_arrived s.plan s.clear kept) both)
        ∙ (ap (λ (o : Option ℕ). ending_with (find (λ q. is_untold s.plan s.card.leaf kept q && has_all s.plan kept q)
        (periods_arrived s.plan s.clear kept)) o
        (option_map_or (λ message. message.clear) (newest_message past).message 0 - written))
        (find_agree (is_unkeyed s.card past) (is_untold s.plan s.card.leaf kept)
        (periods_arrived s.plan s.clear kept)
        (λ q. unkeyed_is s kept past q ends))
        ∙ ap (λ (n : ℕ). ending_with (find (λ q. is_untold s.plan s.card.leaf kept q && has_all s.plan kept q)
        (periods_arrived s.plan s.clear kept))
        (find (is_untold s.plan s.card.leaf kept) (periods_arrived s.plan s.clear kept)) (n - written))
        (ap (λ (m : Option Message). option_map_or (λ message. message.clear) m 0) ends.message
        ∙ clear_is s kept ends.last ends.last_is there)))

-- where none of the packets begins another run, it ends as the run
tuned_ending : (s : Setting) (kept : List Item) (past : List (List ℕ)) → AreInRange s.plan.site →
    StandsEnded s kept past → ending_of s.card past
    ≡ (if has_arrived kept (final s) then closed_told s.plan s.card.leaf s.clear kept (run_wrote s.card past)
    else Unclosed (next_number s.plan s.clear kept))
unfolding ending_of
tuned_ending s kept past range stands =
    ap (λ (t : Option Tuning). if is_none t then NoCat else endings_joined (ended_before s.card past) ending)
    stands.tuned.tuning
    ∙ (ap (λ (before : Ending). endings_joined before ending) (none_ended s.card past stands.tuned.one)
    ∙ (opened_joins ending ∙ run_ends s kept (heard s.card past) (run_wrote s.card past) range stands.ended))
  where
    ending : Ending
    ending = run_ending s.card (heard s.card past) (run_wrote s.card past)

untuned_ending : (card : CardFields) (past : List (List ℕ)) → tuning_of card.ca past ≡ None →
    ending_of card past ≡ NoCat
unfolding ending_of
untuned_ending card past none =
    ap (λ (t : Option Tuning). if is_none t then NoCat else endings_joined (ended_before card past)
    (run_ending card (heard card past) (run_wrote card past))) none

-- The ending of a broadcast, whatever is lost of it.
pub losses_end : (s : Setting) → AreLaws s → AreHearable s → (fs : List Bool) →
    ending_of s.card (reverse (chosen fs (broadcast s.plan s.clear)))
    ≡ ending_told s.plan s.card.leaf s.clear (chosen fs (sent s.plan s.clear ++ closing_of s.plan s.clear))
unfolding ending_told
losses_end s laws able fs =
    ap (ending_of s.card) (sym (append-nil (reverse packets)) ∙ sym (onto_reverse packets []))
    ∙ by_cat (list_any is_cat_item kept) (losses_stand s laws able fs)
  where
    kept : List Item
    kept = chosen fs (sent s.plan s.clear ++ closing_of s.plan s.clear)

    packets : List (List ℕ)
    packets = chosen fs (broadcast s.plan s.clear)

    wrote_is : AreOneRun s.card (onto packets []) →
        run_wrote s.card (onto packets []) ≡ length (confirmed s.plan s.card.leaf s.clear kept)
    wrote_is one =
        let written = losses_are_confirmed s laws able fs in
        run_wrote_first s.card packets one written.none ∙ ap length written.out

    by_cat : (b : Bool) → EndsBefore s b kept (onto packets []) →
        ending_of s.card (onto packets [])
        ≡ (if b then (if has_arrived (after_cat kept) (final s)
        then closed_told s.plan s.card.leaf s.clear (after_cat kept) (length
        (confirmed s.plan s.card.leaf s.clear kept))
        else Unclosed (next_number s.plan s.clear (after_cat kept))) else NoCat)
    by_cat true stands =
        tuned_ending s (after_cat kept) (onto packets []) laws.range stands
        ∙ ap (λ (written : ℕ). if has_arrived (after_cat kept) (final s)
        then closed_told s.plan s.card.leaf s.clear (after_cat kept) written
        else Unclosed (next_number s.plan s.clear (after_cat kept))) (wrote_is stands.tuned.one)
    by_cat false none = untuned_ending s.card (onto packets []) none

-- how many keys were taken: one for each period of which a section with a set that has the leaf is kept
pub losses_take : (s : Setting) → AreLaws s → AreHearable s → (fs : List Bool) →
    taken_keys s.card [] (chosen fs (broadcast s.plan s.clear))
    ≡ how_many (λ q. is_told s q (after_cat (chosen fs (sent s.plan s.clear ++ closing_of s.plan s.clear))))
    (period_of s.plan (length s.clear - 1) + 1)
unfolding heard
losses_take s laws able fs =
    omega (arith, taken_heard s.card packets [] (one (list_any is_cat_item kept) (losses_stand s laws able fs)))
    ∙ by_cat (list_any is_cat_item kept) refl (losses_stand s laws able fs)
  where
    kept : List Item
    kept = chosen fs (sent s.plan s.clear ++ closing_of s.plan s.clear)

    packets : List (List ℕ)
    packets = chosen fs (broadcast s.plan s.clear)

    one : (b : Bool) → EndsBefore s b kept (onto packets []) → AreOneRun s.card (onto packets [])
    one true stands = stands.tuned.one
    one false none = untuned_one_run s.card (onto packets []) none

    by_cat : (b : Bool) → list_any is_cat_item kept ≡ b → EndsBefore s b kept (onto packets []) →
        keys_of s.card (heard s.card (onto packets []))
        ≡ how_many (λ q. is_told s q (after_cat kept)) (period_of s.plan (length s.clear - 1) + 1)
    by_cat true is stands = stands.ended.taken
    by_cat false is none =
        ap (keys_of s.card) (untuned_heard s.card (onto packets []) none)
        ∙ sym (how_many_none (λ q. is_told s q (after_cat kept)) (period_of s.plan (length s.clear - 1) + 1)
        (λ q. ap (is_told s q) (after_no_cat kept is)))
