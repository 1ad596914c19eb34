-- What a receiver makes of a control message of a broadcast, of which parts may be lost.
use Rattle.std.proofs.Common.{◌≡◌, refl, ℕ, ◌+◌, ◌<◌, ◌≤◌, ◌==◌, ◌||◌, Bool, true, false}
use Rattle.std.proofs.Common.{nat_lt, List, [], ◌∷◌, ◌++◌, map, filter, reverse, Option, Some, None}
use Rattle.std.proofs.Common.{arith, sym, ap, ◌∙◌, inl, inr, subst}
use Rattle.std.specs.Prelude.{if◌then◌else◌, All, Contains, option_map}
use Rattle.std.specs.List.{list_any, range_with_len}
use Rattle.std.specs.Option.{option_map_or}
use Rattle.std.proofs.lemmas.List.Elements.{All-weaker, filter-append}
use Rattle.sd_base.proofs.Ranges.{range_parts, filter_range}
use Rattle.std.proofs.lemmas.List.Folds.{list_any-append}
use Rattle.std.proofs.lemmas.Bool.{cases_eq, or_from}
use Rattle.std.proofs.lemmas.Bool.Decides.{nat_tests}
use Rattle.sd_message.specs.Period.{emms_of}
use Rattle.sd_message.specs.EcmParts.{Message, parts_of}
use Rattle.sd_message.specs.declared.ecm_part.EcmPart.{EcmPart}
use Rattle.sd_spec.specs.Plan.{period_of}
use Rattle.sd_spec.specs.Messages.{period_at}
use Rattle.sd_spec.specs.Sent.{Item, Controls}
use Rattle.sd_spec.specs.Heard.{Heard}
use Rattle.sd_spec.specs.Stretches.{newest_message, current}
use Rattle.sd_spec.specs.Keys.{key_at, key_in}
use Rattle.sd_spec.specs.Confirmed.{WrittenPackets}
use Rattle.sd_spec.specs.Offered.{message_offering, is_back, is_before, stretch_wrote, word_fault, wrote_or}
use Rattle.sd_law_losses.specs.Chosen.{chosen}
use Rattle.sd_law_losses.specs.Kept.{is_carried, kept_in, has_arrived, entitles, is_entitled_before, is_section_item}
use Rattle.sd_law_losses.proofs.Coming.{counting, Same, AreParts, all_kept}
use Rattle.sd_law_losses.proofs.Taking.{how_many_agree}
use Rattle.sd_law_losses.proofs.Arriving.{is_of, arrived_stays, none_arrived, arrived_by_parts, none_entitles}
use Rattle.sd_law_losses.proofs.Setting.{Setting, AreLaws, tuning_at, final, told_by, carried_at, key_where}
use Rattle.sd_law_losses.proofs.Pairs.{start_of, end_of, IsPair, number_is, period_is}
use Rattle.sd_law_losses.proofs.Between.{packets_held, all_of, pair_packets, pair_writes}
use Rattle.sd_law_losses.proofs.Facts.{AreKept, AreHeard, IsLast, from_last, is_told, keyed_stays}
use Rattle.sd_law_losses.proofs.Carrying.{kept_below}

-- the parts of message a of which some are lost
abbrev pub parts_at : Setting → ℕ → List Bool → List EcmPart
parts_at s a fs = chosen fs (parts_of (told_by s a))

-- parts are of their own message alone, and carry no packet
of_message : (message : Message) (b : ℕ) (fs : List Bool) (rest prior : List EcmPart) → AreParts message prior rest →
    (message.number == b) ≡ false → list_any (is_of b) (map Controls (chosen fs rest)) ≡ false
unfolding chosen
of_message message b [] rest prior are other = refl
of_message message b (f ∷ fs) [] prior are other = refl
of_message message b (false ∷ fs) (part ∷ rest) prior are other =
    of_message message b fs rest (part ∷ prior) are.1 other
of_message message b (true ∷ fs) (part ∷ rest) prior are other =
    let here : (part.number == b) ≡ false = ap (λ (n : ℕ). n == b) are.0.number ∙ other in
    rw here (of_message message b fs rest (part ∷ prior) are.1 other)

pub none_carried : (j : ℕ) (parts : List EcmPart) → list_any (is_carried j) (map Controls parts) ≡ false
none_carried j [] = refl
none_carried j (part ∷ parts) = none_carried j parts

-- parts of message a are no parts of another
pub parts_of_other : (s : Setting) (laws : AreLaws s) (a b : ℕ) (fs : List Bool) → a ≤ final s → (a == b) ≡ false →
    list_any (is_of b) (map Controls (parts_at s a fs)) ≡ false
parts_of_other s laws a b fs within other =
    of_message (told_by s a) b fs (parts_of (told_by s a)) [] (laws.parts a within)
    (ap (λ (n : ℕ). n == b) (number_is s a) ∙ other)

-- message a has arrived exactly where all of them are kept
pub arrives : (s : Setting) (laws : AreLaws s) (a : ℕ) (fs : List Bool) (kept : List Item) → a ≤ final s →
    list_any (is_of a) kept ≡ false →
    has_arrived (kept ++ map Controls (parts_at s a fs)) a ≡ all_kept fs (parts_of (told_by s a))
arrives s laws a fs kept within none =
    ap (has_arrived (kept ++ map Controls (parts_at s a fs))) (sym (number_is s a))
    ∙ arrived_by_parts (told_by s a) kept fs (parts_of (told_by s a))
    (ap (λ (n : ℕ). list_any (is_of n) kept) (number_is s a) ∙ none) (laws.parts a within) (laws.some a within)

-- the rest of what is known of what is kept
pub after_parts : (s : Setting) (laws : AreLaws s) (k a : ℕ) (last next : Option ℕ) (fs : List Bool)
    (kept : List Item) →
    a ≤ final s → AreKept k a last kept → IsLast (a + 1) (kept ++ map Controls (parts_at s a fs)) next →
    AreKept k (a + 1) next (kept ++ map Controls (parts_at s a fs))
after_parts s laws k a last next fs kept within are is = record {
  last_is = is;
  none = λ b above. list_any-append (is_of b) kept (map Controls (parts_at s a fs))
      ∙ or_from (list_any (is_of b) kept) (list_any (is_of b) (map Controls (parts_at s a fs)))
      (are.none b (omega (arith, above)))
      (parts_of_other s laws a b fs within (grind (arith, nat_tests, above)));
  passed = λ j above. list_any-append (is_carried j) kept (map Controls (parts_at s a fs))
      ∙ or_from (list_any (is_carried j) kept) (list_any (is_carried j) (map Controls (parts_at s a fs)))
      (are.passed j above) (none_carried j (parts_at s a fs));
}

-- a message of which a part is lost hasn't arrived
pub still_last : (s : Setting) (laws : AreLaws s) (k a : ℕ) (last : Option ℕ) (fs : List Bool) (kept : List Item) →
    a ≤ final s → AreKept k a last kept → all_kept fs (parts_of (told_by s a)) ≡ false →
    IsLast (a + 1) (kept ++ map Controls (parts_at s a fs)) last
still_last s laws k a last fs kept within are lost = by_last last are.last_is
  where
    still : (b : ℕ) → has_arrived kept b ≡ false → has_arrived (kept ++ map Controls (parts_at s a fs)) b ≡ false
    still b none = elim (cases_eq a b) [
      | inl same ↦ ap (has_arrived (kept ++ map Controls (parts_at s a fs))) (sym same)
          ∙ (arrives s laws a fs kept within (are.none a (omega arith)) ∙ lost)
      | inr other ↦ arrived_stays kept (map Controls (parts_at s a fs)) b
          (parts_of_other s laws a b fs within (grind (arith, nat_tests, other))) ∙ none
    ]

    by_last : (last : Option ℕ) → IsLast a kept last → IsLast (a + 1) (kept ++ map Controls (parts_at s a fs)) last
    by_last None none = λ b. still b (none b)
    by_last (Some c) is = (
      omega (arith, is.0),
      arrived_stays kept (map Controls (parts_at s a fs)) c (parts_of_other s laws a c fs within (grind
          (arith, nat_tests, is.0))) ∙ is.1,
      λ b above. still b (is.2 b above),
    )

-- a message of which all parts are kept is the last that has arrived
pub now_last : (s : Setting) (laws : AreLaws s) (k a : ℕ) (last : Option ℕ) (fs : List Bool) (kept : List Item) →
    a ≤ final s → AreKept k a last kept → all_kept fs (parts_of (told_by s a)) ≡ true →
    IsLast (a + 1) (kept ++ map Controls (parts_at s a fs)) (Some a)
now_last s laws k a last fs kept within are all = (
  omega arith,
  arrives s laws a fs kept within (are.none a (omega arith)) ∙ all,
  λ b above. none_arrived (kept ++ map Controls (parts_at s a fs)) b
      (list_any-append (is_of b) kept (map Controls (parts_at s a fs))
      ∙ or_from (list_any (is_of b) kept) (list_any (is_of b) (map Controls (parts_at s a fs)))
      (are.none b (omega (arith, above)))
      (parts_of_other s laws a b fs within (grind (arith, nat_tests, above)))),
)

-- parts tell no key
pub same_told : (s : Setting) (q : ℕ) (kept : List Item) (parts : List EcmPart) →
    is_told s q (kept ++ map Controls parts) ≡ is_told s q kept
same_told s q kept parts = list_any-append (entitles s.plan.site.height s.card.leaf q) kept (map Controls parts)
    ∙ (ap (λ (b : Bool). is_told s q kept || b) (none_entitles s.plan.site.height s.card.leaf q parts)
    ∙ or_none (is_told s q kept))
  where
    or_none : (b : Bool) → (b || false) ≡ b
    or_none true = refl
    or_none false = refl

-- nor are they sections
pub same_seen : (q x : ℕ) (kept : List Item) (parts : List EcmPart) →
    list_any (is_section_item q x) (kept ++ map Controls parts) ≡ list_any (is_section_item q x) kept
same_seen q x kept parts = list_any-append (is_section_item q x) kept (map Controls parts)
    ∙ (ap (λ (b : Bool). list_any (is_section_item q x) kept || b) (none_of parts) ∙ or_none (list_any
    (is_section_item q x) kept))
  where
    none_of : (parts : List EcmPart) → list_any (is_section_item q x) (map Controls parts) ≡ false
    none_of [] = refl
    none_of (part ∷ parts) = none_of parts

    or_none : (b : Bool) → (b || false) ≡ b
    or_none true = refl
    or_none false = refl

-- the messages up to number a that have arrived with the parts of message a
pub arrived_with : (s : Setting) (laws : AreLaws s) (k a : ℕ) (last : Option ℕ) (fs : List Bool) (kept : List Item) →
    a ≤ final s → AreKept k a last kept →
    filter (has_arrived (kept ++ map Controls (parts_at s a fs))) (range_with_len 0 (a + 1))
    ≡ filter (has_arrived kept) (range_with_len 0 a) ++ (if all_kept fs (parts_of (told_by s a)) then a ∷ [] else [])
arrived_with s laws k a last fs kept within are =
    ap (filter (has_arrived all)) (range_parts 0 a 1)
    ∙ (filter-append (has_arrived all) (range_with_len 0 a) (range_with_len (0 + a) 1)
    ∙ (ap (λ (xs : List ℕ). xs ++ filter (has_arrived all) (range_with_len (0 + a) 1))
    (filter_range (has_arrived all) (has_arrived kept) 0 a
    (λ b low below. arrived_stays kept (map Controls (parts_at s a fs)) b
    (parts_of_other s laws a b fs within (grind (arith, nat_tests, below)))))
    ∙ ap (λ (xs : List ℕ). filter (has_arrived kept) (range_with_len 0 a) ++ xs) last_one))
  where
    all : List Item
    all = kept ++ map Controls (parts_at s a fs)

    last_one : filter (has_arrived all) (range_with_len (0 + a) 1) ≡ (if all_kept fs (parts_of
        (told_by s a)) then a ∷ [] else [])
    last_one = ap (λ (n : ℕ). filter (has_arrived all) (range_with_len n 1)) (omega arith)
        ∙ ap (λ (b : Bool). if b then a ∷ [] else []) (arrives s laws a fs kept within (are.none a (omega arith)))

-- nothing but parts came, and no message was completed
pub calm_heard : (s : Setting) (k p n a : ℕ) (last : Option ℕ) (kept : List Item) (past now : List Heard)
    (parts : List EcmPart) → Same past now → All (λ part. part.number ≤ a) (counting now) →
    filter (has_arrived (kept ++ map Controls parts)) (range_with_len 0 (a + 1))
    ≡ filter (has_arrived kept) (range_with_len 0 n) →
    AreHeard s k p n last kept past → AreHeard s k p (a + 1) last (kept ++ map Controls parts) now
calm_heard s k p n a last kept past now parts same counted arrived are = record {
  open_yet = same.closed ∙ are.open_yet;
  now = omega (arith, are.now, same.current);
  sections = λ q. subst (All (Contains (emms_of (period_at s.plan q)))) (sym (same.seen q)) (are.sections q);
  keys = λ q. ap (key_in s.card) (same.seen q) ∙ (are.keys q ∙ ap (key_where s q) (sym (same_told s q kept parts)));
  message = same.message ∙ are.message;
  keyed = keyed_stays s kept past now last (map Controls parts) same.before are.keyed;
  parts = All-weaker (λ part. part.number ≤ a) (λ part. part.number < a + 1) (λ part less. omega (arith, less))
      (counting now) counted;
  held = ap (λ (xs : List (ℕ × List ℕ)). packets_held (reverse xs)) same.others
      ∙ (are.held ∙ ap (map (carried_at s)) (sym (kept_below kept (map Controls parts) (from_last s last) k
      (λ j below. none_carried j parts) are.begun)));
  begun = are.begun;
  indexes = λ q x. ap (list_any (λ emm. emm.index == x)) (same.seen q) ∙ (are.indexes q x ∙ sym
      (same_seen q x kept parts));
  taken = λ bound above. same.taken s.card ∙ (are.taken bound above
      ∙ how_many_agree (λ q. is_told s q kept) (λ q. is_told s q (kept ++ map Controls parts)) bound (λ q. sym
      (same_told s q kept parts)));
  told = same.messages ∙ (are.told ∙ ap (λ (ns : List ℕ). map (told_by s) (reverse ns)) (sym arrived));
}

-- the message goes back after nothing
not_back : (s : Setting) (laws : AreLaws s) (k p n a : ℕ) (last : Option ℕ) (kept : List Item) (past now : List Heard) →
    a ≤ final s → n ≤ a → p ≤ (told_by s a).period → IsLast n kept last → Same past now →
    AreHeard s k p n last kept past →
    is_back now (told_by s a) ≡ false
unfolding is_back
not_back s laws k p n a last kept past now within below period is same are =
    or_from (nat_lt (told_by s a).period (current now)) (option_map_or (is_before (told_by s a))
    (newest_message now).message false)
    (grind (arith, nat_tests, period, are.now, same.current))
    (ap (λ (m : Option Message). option_map_or (is_before (told_by s a)) m false) (same.message ∙ are.message)
    ∙ by_last last is)
  where
    by_last : (last : Option ℕ) → IsLast n kept last →
        option_map_or (is_before (told_by s a)) (option_map (told_by s) last) false ≡ false
    by_last None none = refl
    by_last (Some c) is = laws.forth c a (omega (arith, is.0, below)) within

-- and its control word is the one that it is to be
good_word : (s : Setting) (laws : AreLaws s) (a n : ℕ) → a ≤ final s → (told : Bool) →
    word_fault n (told_by s a) (key_where s (told_by s a).period told) ≡ None
good_word s laws a n within true = rw (laws.word a within) (rw (laws.check a within) refl)
good_word s laws a n within false = refl

-- what is written with message a after the last one
abbrev pub written_at : Setting → List Item → Option ℕ → ℕ → List (List ℕ)
written_at s kept None a = []
written_at s kept (Some c) a = pair_packets s kept c a

-- what is kept later carries no packet before k
abbrev pub IsLater : ℕ → List Item → Type 0
IsLater k later = (j : ℕ) → j < k → list_any (is_carried j) later ≡ false

pair_at : (s : Setting) (laws : AreLaws s) (k p a c : ℕ) (kept later : List Item) (past now : List Heard) →
    IsPair s c a → k ≡ end_of s a → IsLater k later → Same past now → AreHeard s k p a (Some c) kept past →
    stretch_wrote s.card (tuning_at s) (newest_message now) (Some (told_by s c)) (told_by s a)
    ≡ all_of (pair_packets s (kept ++ later) c a)
pair_at s laws k p a c kept later past now pair here is same are =
    pair_writes s laws (kept ++ later) c a (newest_message now) pair
    (ap (λ (xs : List (ℕ × List ℕ)). packets_held (reverse xs)) same.others
    ∙ (are.held ∙ (ap (map (carried_at s)) (sym (kept_below kept later (start_of s c) k is are.begun))
    ∙ ap (λ (n : ℕ). map (carried_at s) (kept_in (kept ++ later) (start_of s c) n)) here)))
    (subst (λ (q : ℕ). key_at s.card (newest_message now).before q ≡ key_where s q
    (is_entitled_before s.plan.site.height s.card.leaf (period_of s.plan (start_of s c)) c (kept ++ later)))
    (sym (period_is s c (omega (arith, pair.below, pair.within))))
    (ap (λ (before : List Heard). key_at s.card before (period_of s.plan (start_of s c))) same.before
    ∙ are.keyed later))

stretch_is : (s : Setting) (laws : AreLaws s) (k p a : ℕ) (last : Option ℕ) (kept later : List Item)
    (past now : List Heard) →
    a ≤ final s → k ≡ end_of s a → IsLater k later → IsLast a kept last → Same past now →
    AreHeard s k p a last kept past →
    stretch_wrote s.card (tuning_at s) (newest_message now) (newest_message now).message (told_by s a)
    ≡ all_of (written_at s (kept ++ later) last a)
stretch_is s laws k p a last kept later past now within here is lasts same are =
    ap (λ (m : Option Message). stretch_wrote s.card (tuning_at s) (newest_message now) m (told_by s a)) (same.message
    ∙ are.message)
    ∙ by_last last lasts are
  where
    by_last : (last : Option ℕ) → IsLast a kept last → AreHeard s k p a last kept past →
        stretch_wrote s.card (tuning_at s) (newest_message now) (option_map (told_by s) last) (told_by s a)
        ≡ all_of (written_at s (kept ++ later) last a)
    by_last None none are = refl
    by_last (Some c) lasts are =
        pair_at s laws k p a c kept later past now (record { below = lasts.0; within = within }) here is same are

-- what comes of the message when it is complete
pub complete_offering : (s : Setting) (laws : AreLaws s) (k p a n : ℕ) (last : Option ℕ) (kept later : List Item)
    (past now : List Heard) → a ≤ final s → k ≡ end_of s a → p ≤ (told_by s a).period → IsLater k later →
    AreKept k a last kept → Same past now → AreHeard s k p a last kept past →
    message_offering s.card (tuning_at s) n now (Some (told_by s a))
    ≡ record { wrote = written_at s (kept ++ later) last a; fault = None }
complete_offering s laws k p a n last kept later past now within here period is kept_is same are =
    rw (not_back s laws k p a a last kept past now within (omega arith) period kept_is.last_is same are)
    (ap (λ (w : WrittenPackets). wrote_or w (word_fault n (told_by s a) (key_at s.card now (told_by s a).period)))
    (stretch_is s laws k p a last kept later past now within here is kept_is.last_is same are)
    ∙ ap (wrote_or (all_of (written_at s (kept ++ later) last a)))
    (ap (λ (k : Option (List ℕ)). word_fault n (told_by s a) k)
    (ap (key_in s.card) (same.seen (told_by s a).period) ∙ are.keys (told_by s a).period)
    ∙ good_word s laws a n within (is_told s (told_by s a).period kept)))
