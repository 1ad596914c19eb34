-- What a buffer comes to, and what is left of bytes that were looked at.
use Rattle.std.proofs.Common.{ℕ, zero, suc, ◌+◌, ◌-◌, ◌<◌, ◌≤◌, ◌≡◌, min, Bool, true, false, ◌==◌, List, [], ◌∷◌}
use Rattle.std.proofs.Common.{◌++◌, length, take, drop, append_assoc, append-nil, length-append, length-drop}
use Rattle.std.proofs.Common.{take-append-drop, inl, inr, le_refl, refl, sym, ap, subst, ◌∙◌, arith}
use Rattle.std.specs.Prelude.{if◌then◌else◌}
use Rattle.std.proofs.lemmas.Bool.{cases_lt}
use Rattle.std.proofs.lemmas.List.{take-append-le, take_all, length-take}
use Rattle.sd_base.proofs.Bools.{true_from_not, false_from_not}
use Rattle.sd_section.specs.Header.{section_length_of, whole_of}
use Rattle.sd_section.specs.Assembled.{starts, is_overlong, is_section_whole, Cut, no_cut, with_section, cut_from}
use Rattle.sd_section.specs.Assembled.{cut_of}
use Rattle.sd_section.specs.OneMore.{begun_of, cut_more, cut_of_section}
use Rattle.sd_section.specs.declared.begun.Begun.TheVariants.{Overlong, Whole, Part}
use Rattle.sd_section.proofs.Cutting.{over_stays, whole_stays, whole_has_all, all_is_whole, all_is_over, length_stays}
use Rattle.sd_section.proofs.Cutting.{over_has_three, cut_none, cut_stuffed, cut_over, cut_whole, cut_part, added_over}
use Rattle.sd_section.proofs.Cutting.{added_whole, added_part, added_none}

-- what a judgement says
by_over : (over whole : Bool) (n : ℕ) → (if over then Overlong else if whole then Whole n else Part) ≡ Overlong →
    over ≡ true
by_over true whole n h = refl
by_over false true n h = absurd (cc)
by_over false false n h = absurd (cc)

by_whole : (over whole : Bool) (n k : ℕ) → (if over then Overlong else if whole then Whole n else Part) ≡ Whole k →
    (over ≡ false) × (whole ≡ true) × (k ≡ n)
by_whole true whole n k h = absurd (cc)
by_whole false true n k h = (refl, refl, (cc))
by_whole false false n k h = absurd (cc)

by_part : (over whole : Bool) (n : ℕ) → (if over then Overlong else if whole then Whole n else Part) ≡ Part →
    (over ≡ false) × (whole ≡ false)
by_part true whole n h = absurd (cc)
by_part false true n h = absurd (cc)
by_part false false n h = (refl, refl)

judged_over : (z : List ℕ) → begun_of z ≡ Overlong → is_overlong z ≡ true
judged_over z h = by_over (is_overlong z) (is_section_whole z) (3 + section_length_of z) h

judged_whole : (z : List ℕ) (k : ℕ) → begun_of z ≡ Whole k → (is_overlong z ≡ false) × (is_section_whole z ≡ true)
    × (k ≡ 3 + section_length_of z)
judged_whole z k h = by_whole (is_overlong z) (is_section_whole z) (3 + section_length_of z) k h

judged_part : (z : List ℕ) → begun_of z ≡ Part → (is_overlong z ≡ false) × (is_section_whole z ≡ false)
judged_part z h = by_part (is_overlong z) (is_section_whole z) (3 + section_length_of z) h

-- nothing is added to nothing
pub add_nothing : (making bytes : List ℕ) → length making ≡ 0 → cut_of_section false making ≡ cut_more making bytes
add_nothing [] bytes h = sym (added_none bytes)
add_nothing (b ∷ bs) bytes h = absurd (omega arith)

-- all bytes are those that were taken, and the others
all_bytes : (making bytes : List ℕ) (k : ℕ) → (making ++ take k bytes) ++ drop k bytes ≡ making ++ bytes
all_bytes making bytes k = append_assoc making (take k bytes) (drop k bytes) ∙ ap (λ (l : List ℕ). making ++ l)
    (take-append-drop k bytes)

-- a section that is too long
pub add_overlong : (making bytes taken : List ℕ) (k : ℕ) → taken ≡ making ++ take k bytes → 0 < length making →
    begun_of taken ≡ Overlong →
    cut_of_section false [] ≡ cut_more making bytes
add_overlong [] bytes taken k is some judged = absurd (omega arith)
add_overlong (b ∷ bs) bytes taken k is some judged =
    let over : is_overlong (b ∷ bs ++ take k bytes) ≡ true = subst (λ (l : List ℕ). is_overlong l ≡ true) is
    (judged_over taken judged) in
    let all : is_overlong (b ∷ bs ++ bytes) ≡ true =
    ap is_overlong (sym (all_bytes (b ∷ bs) bytes k)) ∙
    (over_stays (b ∷ bs ++ take k bytes) (drop k bytes) (over_has_three (b ∷ bs ++ take k bytes) over) ∙ over) in
    sym (added_over b bs bytes all)

-- a section that is whole
pub add_whole : (making bytes taken : List ℕ) (k n : ℕ) → taken ≡ making ++ take k bytes → 0 < length making →
    begun_of taken ≡ Whole n →
    cut_of_section true (take n taken) ≡ cut_more making bytes
add_whole [] bytes taken k n is some judged = absurd (omega arith)
add_whole (b ∷ bs) bytes taken k n is some judged =
    let begun : List ℕ = b ∷ bs ++ take k bytes in
    let judgement = judged_whole begun n (subst (λ (l : List ℕ). begun_of l ≡ Whole n) is judged) in
    let there = whole_has_all begun judgement.1 in
    let all : begun ++ drop k bytes ≡ b ∷ bs ++ bytes = all_bytes (b ∷ bs) bytes k in
    let over : is_overlong (b ∷ bs ++ bytes) ≡ false =
    ap is_overlong (sym all) ∙ (over_stays begun (drop k bytes) there.0 ∙ judgement.0) in
    let whole : is_section_whole (b ∷ bs ++ bytes) ≡ true = ap is_section_whole (sym all) ∙ whole_stays begun
    (drop k bytes)
    judgement.1 in
    let same : section_length_of (b ∷ bs ++ bytes) ≡ section_length_of begun =
    ap section_length_of (sym all) ∙ length_stays begun (drop k bytes) there.0 in
    let count : n ≡ 3 + section_length_of (b ∷ bs ++ bytes) = omega (arith, judgement.2, same) in
    let fits : n ≤ length begun = omega (arith, judgement.2, there.1) in
    let first_part : take n taken ≡ take n (begun ++ drop k bytes) = ap (take n) is ∙
    sym (take-append-le n begun (drop k bytes) fits) in
    let same_part : take n (begun ++ drop k bytes) ≡ whole_of (b ∷ bs ++ bytes) =
    ap (take n) all ∙ ap (λ (c : ℕ). take c (b ∷ bs ++ bytes)) count in
    let section : take n taken ≡ whole_of (b ∷ bs ++ bytes) = first_part ∙ same_part in
    ap (λ (l : List ℕ). record { sections = l ∷ []; making = [] }) section ∙ sym (added_whole b bs bytes over whole)

-- a section that isn't whole with 4,096 bytes is too long
short_part : (begun : List ℕ) → is_overlong begun ≡ false → is_section_whole begun ≡ false → length begun < 4096
short_part begun over whole = elim (cases_lt (length begun) 4096) [
  | inl short ↦ short
  | inr long ↦ elim (cases_lt 4093 (section_length_of begun)) [
    | inl more ↦ let is : is_overlong begun ≡ true = all_is_over begun (omega arith) more in absurd (cc)
    | inr few ↦ let is : is_section_whole begun ≡ true = all_is_whole begun (omega arith) (omega arith) in absurd (cc)
  ]
]

-- a section that is still in the making
pub add_part : (making bytes taken : List ℕ) (k : ℕ) → taken ≡ making ++ take k bytes → 0 < length making →
    k ≡ min (length bytes) (4096 - length making) →
    length making ≤ 4096 → begun_of taken ≡ Part → cut_of_section false taken ≡ cut_more making bytes
add_part [] bytes taken k is some few short judged = absurd (omega arith)
add_part (b ∷ bs) bytes taken k is some few short judged =
    let begun : List ℕ = b ∷ bs ++ take k bytes in
    let judgement = judged_part begun (subst (λ (l : List ℕ). begun_of l ≡ Part) is judged) in
    let room = short_part begun judgement.0 judgement.1 in
    let long : length begun ≡ length (b ∷ bs) + min k (length bytes) =
    length-append (b ∷ bs) (take k bytes) ∙ ap (λ (n : ℕ). length (b ∷ bs) + n) (length-take k bytes) in
    let every : take k bytes ≡ bytes = take_all k bytes (omega arith) in
    let all : begun ≡ b ∷ bs ++ bytes = ap (λ (l : List ℕ). b ∷ bs ++ l) every in
    let over : is_overlong (b ∷ bs ++ bytes) ≡ false = ap is_overlong (sym all) ∙ judgement.0 in
    let whole : is_section_whole (b ∷ bs ++ bytes) ≡ false = ap is_section_whole (sym all) ∙ judgement.1 in
    ap (λ (l : List ℕ). record { sections = []; making = l }) (is ∙ all) ∙ sym (added_part b bs bytes over whole)

-- turns that aren't needed change nothing, where they change nothing after the first
same_turn : (m n b : ℕ) (bs more : List ℕ) → ((left : List ℕ) → length left ≤ length bs → cut_from m left more
    ≡ cut_from n left more) →
    (stuffed over whole : Bool) → (b == 255) ≡ stuffed → is_overlong (b ∷ bs ++ more) ≡ over →
    is_section_whole (b ∷ bs ++ more)
    ≡ whole →
    cut_from (suc m) (b ∷ bs) more ≡ cut_from (suc n) (b ∷ bs) more
same_turn m n b bs more after true over whole s o w = cut_stuffed m b bs more s ∙ sym (cut_stuffed n b bs more s)
same_turn m n b bs more after false true whole s o w = cut_over m b bs more s o ∙ sym (cut_over n b bs more s o)
same_turn m n b bs more after false false true s o w =
    let left : List ℕ = drop (3 + section_length_of (b ∷ bs ++ more)) (b ∷ bs) in
    let less : length left ≤ length bs = omega (arith, length-drop (3 + section_length_of (b ∷ bs ++ more)) (b ∷ bs)) in
    cut_whole m b bs more s o w ∙ (ap (with_section (whole_of (b ∷ bs ++ more))) (after left less) ∙
    sym (cut_whole n b bs more s o w))
same_turn m n b bs more after false false false s o w = cut_part m b bs more s o w ∙ sym (cut_part n b bs more s o w)

-- so any number of turns does that isn't below the length
same_turns : (m n : ℕ) (first more : List ℕ) → length first ≤ m → length first ≤ n → cut_from m first more
    ≡ cut_from n first more
same_turns m n [] more h k = cut_none m more ∙ sym (cut_none n more)
same_turns zero n (b ∷ bs) more h k = absurd (omega arith)
same_turns (suc m) zero (b ∷ bs) more h k = absurd (omega arith)
same_turns (suc m) (suc n) (b ∷ bs) more h k =
    same_turn m n b bs more (λ left less. same_turns m n left more (omega arith) (omega arith)) _ _ _ refl refl refl

-- where no section starts, there is none
pub none_starts : (bytes : List ℕ) → starts bytes ≡ false → cut_of bytes [] ≡ no_cut
none_starts [] h = cut_none 0 []
none_starts (b ∷ bs) h = cut_stuffed (length bs) b bs [] (true_from_not (b == 255) h)

-- where one starts, it is too long, whole, or in the making
pub one_overlong : (bytes : List ℕ) → starts bytes ≡ true → begun_of bytes ≡ Overlong → cut_of bytes [] ≡ no_cut
one_overlong [] h judged = absurd (cc)
one_overlong (b ∷ bs) h judged =
    cut_over (length bs) b bs [] (false_from_not (b == 255) h) (ap is_overlong (append-nil (b ∷ bs)) ∙
    judged_over (b ∷ bs) judged)

pub one_whole : (bytes : List ℕ) (n : ℕ) → starts bytes ≡ true → begun_of bytes ≡ Whole n →
    cut_of bytes [] ≡ with_section (take n bytes) (cut_of (drop n bytes) [])
one_whole [] n h judged = absurd (cc)
one_whole (b ∷ bs) n h judged =
    let judgement = judged_whole (b ∷ bs) n judged in
    let is : b ∷ bs ++ [] ≡ b ∷ bs = append-nil (b ∷ bs) in
    let count : 3 + section_length_of (b ∷ bs ++ []) ≡ n = ap (λ (l : List ℕ). 3 + section_length_of l) is ∙
    sym judgement.2 in
    let left : List ℕ = drop n (b ∷ bs) in
    let less : length left ≤ length bs = omega (arith, length-drop n (b ∷ bs), judgement.2) in
    cut_whole (length bs) b bs [] (false_from_not (b == 255) h) (ap is_overlong is ∙ judgement.0)
    (ap is_section_whole is ∙
    judgement.1)
    ∙ (ap (λ (k : ℕ). with_section (take k (b ∷ bs ++ [])) (cut_from (length bs) (drop k (b ∷ bs)) [])) count
    ∙ (ap (λ (l : List ℕ). with_section (take n l) (cut_from (length bs) left [])) is
    ∙ ap (with_section (take n (b ∷ bs))) (same_turns (length bs) (length left) left [] less (le_refl (length left)))))

pub whole_fits : (bytes : List ℕ) (n : ℕ) → begun_of bytes ≡ Whole n → n ≤ length bytes
whole_fits bytes n judged =
    let judgement = judged_whole bytes n judged in
    omega (arith, judgement.2, (whole_has_all bytes judgement.1).1)

-- a whole one isn't there where no section is
pub none_whole : (bytes : List ℕ) (n : ℕ) → (cut_of bytes []).sections ≡ [] → starts bytes ≡ true →
    begun_of bytes ≡ Whole n →
    [] ≡ (cut_of bytes []).making
none_whole bytes n none h judged =
    let some : (cut_of bytes []).sections ≡ take n bytes ∷ (cut_of (drop n bytes) []).sections =
    ap (λ (c : Cut). c.sections) (one_whole bytes n h judged) in
    absurd (cc)

pub one_part : (bytes : List ℕ) → starts bytes ≡ true → begun_of bytes ≡ Part → cut_of bytes []
    ≡ record { sections = []; making = bytes }
one_part [] h judged = absurd (cc)
one_part (b ∷ bs) h judged =
    let judgement = judged_part (b ∷ bs) judged in
    let is : b ∷ bs ++ [] ≡ b ∷ bs = append-nil (b ∷ bs) in
    cut_part (length bs) b bs [] (false_from_not (b == 255) h) (ap is_overlong is ∙ judgement.0)
    (ap is_section_whole is ∙
    judgement.1)
    ∙ ap (λ (l : List ℕ). record { sections = []; making = l }) is
