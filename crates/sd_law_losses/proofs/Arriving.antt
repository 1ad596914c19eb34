-- Which messages have arrived.
use Rattle.std.proofs.Common.{◌≡◌, refl, ℕ, ◌+◌, ◌<◌, ◌≤◌, ◌==◌, Bool, true, false, ◌&&◌, ◌||◌}
use Rattle.std.proofs.Common.{List, [], ◌∷◌, ◌++◌, map, length, arith, sym, ap, ◌∙◌, inl, inr, ◌⊎◌}
use Rattle.std.specs.List.{list_any, list_all, range_with_len}
use Rattle.std.proofs.lemmas.Bool.{cases_Bool, cases_eq, or_parts}
use Rattle.std.proofs.lemmas.Bool.Decides.{nat_tests}
use Rattle.std.proofs.lemmas.List.Folds.{list_any-append}
use Rattle.sd_base.proofs.Bools.{or_false}
use Rattle.sd_message.specs.EcmParts.{Message}
use Rattle.sd_message.specs.declared.ecm_part.EcmPart.{EcmPart}
use Rattle.sd_spec.specs.Sent.{Item, Cat, Entitles, Controls, Carries}
use Rattle.sd_law_losses.specs.Chosen.{chosen}
use Rattle.sd_law_losses.specs.Kept.{is_part, has_parts, has_arrived, entitles, is_last_part, is_entitled_before}
use Rattle.sd_law_losses.proofs.Coming.{AreParts, all_kept, is_nil, chosen_none}
use Rattle.sd_law_losses.proofs.Tests.{any_agree, all_agree, none_weaker, all_range, not_all_range}

-- a part of message a
abbrev pub is_of : ℕ → Item → Bool
is_of a (Controls part) = part.number == a
is_of a Cat = false
is_of a (Entitles emm) = false
is_of a (Carries j packet) = false

part_is_of : (a x : ℕ) (item : Item) → is_of a item ≡ false → is_part a x item ≡ false
part_is_of a x Cat h = refl
part_is_of a x (Entitles emm) h = refl
part_is_of a x (Carries j packet) h = refl
part_is_of a x (Controls part) h = rw h refl

last_is_of : (a : ℕ) (item : Item) → is_of a item ≡ false → is_last_part a item ≡ false
last_is_of a Cat h = refl
last_is_of a (Entitles emm) h = refl
last_is_of a (Carries j packet) h = refl
last_is_of a (Controls part) h = rw h refl

has_is_of : (kept : List Item) (a : ℕ) (item : Item) → is_of a item ≡ false → has_parts kept a item ≡ false
has_is_of kept a Cat h = refl
has_is_of kept a (Entitles emm) h = refl
has_is_of kept a (Carries j packet) h = refl
has_is_of kept a (Controls part) h = rw h refl

-- what is none of message a after others makes no difference to one
part_stays : (kept later : List Item) (a x : ℕ) → list_any (is_of a) later ≡ false →
    list_any (is_part a x) (kept ++ later) ≡ list_any (is_part a x) kept
part_stays kept later a x none = list_any-append (is_part a x) kept later
    ∙ (ap (λ (b : Bool). list_any (is_part a x) kept || b) (none_weaker (is_part a x) (is_of a) later
    (part_is_of a x) none)
    ∙ or_false (list_any (is_part a x) kept))

parts_stay : (kept later : List Item) (a : ℕ) → list_any (is_of a) later ≡ false → (item : Item) →
    has_parts (kept ++ later) a item ≡ has_parts kept a item
parts_stay kept later a none Cat = refl
parts_stay kept later a none (Entitles emm) = refl
parts_stay kept later a none (Carries j packet) = refl
parts_stay kept later a none (Controls part) =
    ap (λ (b : Bool). (part.number == a) && b)
    (all_agree (λ x. list_any (is_part a x) (kept ++ later)) (λ x. list_any (is_part a x) kept)
    (range_with_len 0 (part.last_part + 1)) (λ x. part_stays kept later a x none))

-- so it has arrived as before
pub arrived_stays : (kept later : List Item) (a : ℕ) → list_any (is_of a) later ≡ false →
    has_arrived (kept ++ later) a ≡ has_arrived kept a
unfolding has_arrived
arrived_stays kept later a none =
    list_any-append (has_parts (kept ++ later) a) kept later
    ∙ (ap (λ (b : Bool). list_any (has_parts (kept ++ later) a) kept || b)
    (none_weaker (has_parts (kept ++ later) a) (is_of a) later (has_is_of (kept ++ later) a) none)
    ∙ (or_false (list_any (has_parts (kept ++ later) a) kept)
    ∙ any_agree (has_parts (kept ++ later) a) (has_parts kept a) kept (parts_stay kept later a none)))

-- a message of which nothing is there has not arrived
pub none_arrived : (kept : List Item) (a : ℕ) → list_any (is_of a) kept ≡ false → has_arrived kept a ≡ false
unfolding has_arrived
none_arrived kept a none = none_weaker (has_parts kept a) (is_of a) kept (has_is_of kept a) none

-- all parts chosen are all parts
pub chosen_all : {A : Type 0} (fs : List Bool) (xs : List A) → all_kept fs xs ≡ true → chosen fs xs ≡ xs
unfolding chosen
chosen_all fs [] all = chosen_none fs
chosen_all [] (x ∷ xs) all = absurd (cc all)
chosen_all (true ∷ fs) (x ∷ xs) all = ap (λ (ys : List _). x ∷ ys) (chosen_all fs xs all)
chosen_all (false ∷ fs) (x ∷ xs) all = absurd (cc all)

-- parts from some place on are none before it
later_parts : (message : Message) (fs : List Bool) (rest prior : List EcmPart) (x : ℕ) → AreParts message prior rest →
    x < length prior → list_any (is_part message.number x) (map Controls (chosen fs rest)) ≡ false
unfolding chosen
later_parts message [] rest prior x are before = refl
later_parts message (f ∷ fs) [] prior x are before = refl
later_parts message (false ∷ fs) (part ∷ rest) prior x are before =
    later_parts message fs rest (part ∷ prior) x are.1 (omega (arith, before))
later_parts message (true ∷ fs) (part ∷ rest) prior x are before =
    let other : (part.part == x) ≡ false = grind (arith, nat_tests, are.0.place, before) in
    rw other (and_none (part.number == message.number)
    (later_parts message fs rest (part ∷ prior) x are.1 (omega (arith, before))))
  where
    and_none : (b : Bool) → list_any (is_part message.number x) (map Controls (chosen fs rest)) ≡ false →
        ((b && false) || list_any (is_part message.number x) (map Controls (chosen fs rest))) ≡ false
    and_none true rest = rest
    and_none false rest = rest

-- a part that isn't there
abbrev IsLost : Message → List Bool → List EcmPart → List EcmPart → Type 0
IsLost message fs prior rest = (x : ℕ) × (length prior ≤ x) × (x < length prior + length rest)
    × (list_any (is_part message.number x) (map Controls (chosen fs rest)) ≡ false)

lost_part : (message : Message) (fs : List Bool) (rest prior : List EcmPart) → AreParts message prior rest →
    all_kept fs rest ≡ false → IsLost message fs prior rest
unfolding chosen
lost_part message fs [] prior are not_all = absurd (cc not_all)
lost_part message [] (part ∷ rest) prior are not_all = (length prior, omega arith, omega arith, refl)
lost_part message (false ∷ fs) (part ∷ rest) prior are not_all = (
  length prior,
  omega arith,
  omega arith,
  later_parts message fs rest (part ∷ prior) (length prior) are.1
      (omega arith),
)
lost_part message (true ∷ fs) (part ∷ rest) prior are not_all =
    let (x, low, high, none) = lost_part message fs rest (part ∷ prior) are.1 not_all in
    let other : (part.part == x) ≡ false = grind (arith, nat_tests, are.0.place, low) in
    (x, omega (arith, low), omega (arith, high), rw other (and_none (part.number == message.number) none))
  where
    and_none : {c : Bool} (b : Bool) → c ≡ false → ((b && false) || c) ≡ false
    and_none true none = none
    and_none false none = none

-- a part of a message, with all its numbers
abbrev IsIn : Message → ℕ → Item → Type 0
IsIn message n (Controls part) = (part.number ≡ message.number) × (part.last_part + 1 ≡ n)
IsIn message n Cat = ⊥
IsIn message n (Entitles emm) = ⊥
IsIn message n (Carries j packet) = ⊥

-- where a part isn't there, none of these has all
without_one : (message : Message) (kept : List Item) (x n : ℕ) → x < n →
    list_any (is_part message.number x) kept ≡ false → (item : Item) → IsIn message n item →
    has_parts kept message.number item ≡ false
without_one message kept x n within none Cat is = absurd is
without_one message kept x n within none (Entitles emm) is = absurd is
without_one message kept x n within none (Carries j packet) is = absurd is
without_one message kept x n within none (Controls part) is =
    rw (not_all_range (λ y. list_any (is_part message.number y) kept) 0 (part.last_part + 1) x (omega arith)
    (omega (arith, within, is.1)) none) (and_no (part.number == message.number))
  where
    and_no : (b : Bool) → (b && false) ≡ false
    and_no true = refl
    and_no false = refl

none_has : (message : Message) (kept : List Item) (x n : ℕ) → x < n →
    list_any (is_part message.number x) kept ≡ false → (fs : List Bool) (rest prior : List EcmPart) →
    AreParts message prior rest → length prior + length rest ≡ n →
    list_any (has_parts kept message.number) (map Controls (chosen fs rest)) ≡ false
unfolding chosen
none_has message kept x n within none [] rest prior are all = refl
none_has message kept x n within none (f ∷ fs) [] prior are all = refl
none_has message kept x n within none (false ∷ fs) (part ∷ rest) prior are all =
    none_has message kept x n within none fs rest (part ∷ prior) are.1 (omega (arith, all))
none_has message kept x n within none (true ∷ fs) (part ∷ rest) prior are all =
    rw (without_one message kept x n within none (Controls part) (are.0.number, omega (arith, are.0.count, all)))
    (none_has message kept x n within none fs rest (part ∷ prior) are.1 (omega (arith, all)))

-- each part of a message is there where all are
pub all_there : (message : Message) (rest prior : List EcmPart) (x : ℕ) → AreParts message prior rest →
    length prior ≤ x → x < length prior + length rest →
    list_any (is_part message.number x) (map Controls rest) ≡ true
all_there message [] prior x are low high = absurd (omega (arith, low, high))
all_there message (part ∷ rest) prior x are low high = elim (cases_eq (length prior) x) [
  | inl here ↦
      let number : (part.number == message.number) ≡ true = grind (arith, nat_tests, are.0.number) in
      let place : (part.part == x) ≡ true = grind (arith, nat_tests, are.0.place, here) in
      rw number (rw place refl)
  | inr later ↦
      or_rest (is_part message.number x (Controls part))
      (all_there message rest (part ∷ prior) x are.1 (omega (arith, low, later)) (omega (arith, high)))
]
  where
    or_rest : (b : Bool) → list_any (is_part message.number x) (map Controls rest) ≡ true →
        (b || list_any (is_part message.number x) (map Controls rest)) ≡ true
    or_rest true rest = refl
    or_rest false rest = rest

-- where a message was not there, it has arrived with its parts exactly where all of them are kept
pub arrived_by_parts : (message : Message) (kept : List Item) (fs : List Bool) (parts : List EcmPart) →
    list_any (is_of message.number) kept ≡ false → AreParts message [] parts → is_nil parts ≡ false →
    has_arrived (kept ++ map Controls (chosen fs parts)) message.number ≡ all_kept fs parts
unfolding has_arrived
arrived_by_parts message kept fs parts none are some =
    list_any-append (has_parts (kept ++ map Controls (chosen fs parts)) message.number) kept (map Controls
    (chosen fs parts))
    ∙ (ap (λ (b : Bool). b || list_any (has_parts all message.number) (map Controls (chosen fs parts)))
    (none_weaker (has_parts all message.number) (is_of message.number) kept (has_is_of all message.number) none)
    ∙ by_test (cases_Bool (all_kept fs parts)))
  where
    all : List Item
    all = kept ++ map Controls (chosen fs parts)

    there : (x : ℕ) → list_any (is_part message.number x) all ≡ list_any (is_part message.number x) (map Controls
        (chosen fs parts))
    there x = list_any-append (is_part message.number x) kept (map Controls (chosen fs parts))
        ∙ ap (λ (b : Bool). b || list_any (is_part message.number x) (map Controls (chosen fs parts)))
        (none_weaker (is_part message.number x) (is_of message.number) kept (part_is_of message.number x) none)

    first_has : (ps : List EcmPart) → AreParts message [] ps → is_nil ps ≡ false →
        ((x : ℕ) → list_any (is_part message.number x) all ≡ list_any (is_part message.number x) (map Controls ps)) →
        list_any (has_parts all message.number) (map Controls ps) ≡ true
    first_has [] are some same = absurd (cc some)
    first_has (part ∷ rest) are some same =
        let number : (part.number == message.number) ≡ true = grind (arith, nat_tests, are.0.number) in
        let every : list_all (λ x. list_any (is_part message.number x) all) (range_with_len 0
        (part.last_part + 1)) ≡ true =
        all_range (λ x. list_any (is_part message.number x) all) 0 (part.last_part + 1)
        (λ x low high. same x ∙ all_there message (part ∷ rest) [] x are (omega arith) (omega
        (arith, high, are.0.count))) in
        rw number (rw every refl)

    by_test : (all_kept fs parts ≡ true) ⊎ (all_kept fs parts ≡ false) →
        list_any (has_parts all message.number) (map Controls (chosen fs parts)) ≡ all_kept fs parts
    by_test (inl is) =
        let ps : chosen fs parts ≡ parts = chosen_all fs parts is in
        ap (λ (qs : List EcmPart). list_any (has_parts all message.number) (map Controls qs)) ps
        ∙ (first_has parts are some (λ x. there x ∙ ap (λ (qs : List EcmPart). list_any (is_part message.number x)
        (map Controls qs)) ps)
        ∙ sym is)
    by_test (inr is) =
        let (x, low, high, lost) = lost_part message fs parts [] are is in
        none_has message all x (length parts) (omega (arith, high)) (there x ∙ lost) fs parts [] are (omega arith)
        ∙ sym is

-- parts entitle to nothing
pub none_entitles : (h u q : ℕ) (parts : List EcmPart) → list_any (entitles h u q) (map Controls parts) ≡ false
none_entitles h u q [] = refl
none_entitles h u q (part ∷ parts) = none_entitles h u q parts

-- and in a message's parts nothing stands before the last one
nothing_between : (h u q a : ℕ) (parts : List EcmPart) (later : List Item) →
    list_any (is_last_part a) (map Controls parts) ≡ true →
    is_entitled_before h u q a (map Controls parts ++ later) ≡ false
unfolding is_entitled_before
nothing_between h u q a [] later ends = absurd (cc ends)
nothing_between h u q a (part ∷ parts) later ends = elim (cases_Bool (is_last_part a (Controls part))) [
  | inl is ↦ rw is refl
  | inr is ↦ rw is (nothing_between h u q a parts later (rw is at ends))
]

-- what stands before a message's parts entitles before its last one
pub entitled_before : (h u q a : ℕ) (kept : List Item) (parts : List EcmPart) (later : List Item) →
    list_any (is_of a) kept ≡ false → list_any (is_last_part a) (map Controls parts) ≡ true →
    is_entitled_before h u q a (kept ++ (map Controls parts ++ later)) ≡ list_any (entitles h u q) kept
unfolding is_entitled_before
entitled_before h u q a [] parts later none ends = nothing_between h u q a parts later ends
entitled_before h u q a (item ∷ kept) parts later none ends =
    let here : is_of a item ≡ false = (or_parts (is_of a item) (list_any (is_of a) kept) none).0 in
    let rest : list_any (is_of a) kept ≡ false = (or_parts (is_of a item) (list_any (is_of a) kept) none).1 in
    rw (last_is_of a item here) (rw (entitled_before h u q a kept parts later rest ends)
    (by_test (entitles h u q item) (ends_later kept)))
  where
    ends_later : (kept : List Item) → list_any (is_last_part a) (kept ++ (map Controls parts ++ later)) ≡ true
    ends_later kept = list_any-append (is_last_part a) kept (map Controls parts ++ later)
        ∙ (ap (λ (b : Bool). list_any (is_last_part a) kept || b)
        (list_any-append (is_last_part a) (map Controls parts) later
        ∙ ap (λ (b : Bool). b || list_any (is_last_part a) later) ends)
        ∙ or_yes (list_any (is_last_part a) kept))
      where
        or_yes : (b : Bool) → (b || true) ≡ true
        or_yes true = refl
        or_yes false = refl

    by_test : (b : Bool) → list_any (is_last_part a) (kept ++ (map Controls parts ++ later)) ≡ true →
        ((b && list_any (is_last_part a) (kept ++ (map Controls parts ++ later))) || list_any (entitles h u q) kept)
        ≡ (b || list_any (entitles h u q) kept)
    by_test true holds = rw holds refl
    by_test false holds = refl

-- the last part of a message is there where all are
pub last_there : (message : Message) (rest prior : List EcmPart) → AreParts message prior rest → is_nil rest ≡ false →
    list_any (is_last_part message.number) (map Controls rest) ≡ true
last_there message [] prior are some = absurd (cc some)
last_there message (part ∷ []) prior are some =
    let number : (part.number == message.number) ≡ true = grind (arith, nat_tests, are.0.number) in
    let last : (part.part == part.last_part) ≡ true = grind (arith, nat_tests, are.0.place, are.0.count) in
    rw number (rw last refl)
last_there message (part ∷ next ∷ rest) prior are some =
    or_rest (is_last_part message.number (Controls part)) (last_there message (next ∷ rest) (part ∷ prior) are.1 refl)
  where
    or_rest : {c : Bool} (b : Bool) → c ≡ true → (b || c) ≡ true
    or_rest true holds = refl
    or_rest false holds = holds
