-- Bytes that are cut into sections, with more bytes after them.
use Rattle.std.proofs.Common.{ℕ, zero, suc, ◌+◌, ◌-◌, ◌*◌, ◌/◌, ◌%◌, ◌^◌, ◌<◌, ◌≤◌, ◌≡◌, Bool, true, false, ◌==◌, List}
use Rattle.std.proofs.Common.{[], ◌∷◌, ◌++◌, length, take, drop, append_assoc, length-append, inl, inr, refl, sym, ap}
use Rattle.std.proofs.Common.{length-drop, ◌∙◌, arith}
use Rattle.std.specs.Prelude.{nat_le, nat_lt}
use Rattle.std.proofs.lemmas.Bool.{and_parts, leb-true, le-leb, lt-ltb, cases_lt}
use Rattle.std.proofs.lemmas.List.{get_or_append_left, take-append-le, drop_all, length-take}
use Rattle.sd_base.specs.Bits.{field}
use Rattle.sd_base.proofs.Fields.{same_by_bits}
use Rattle.sd_section.specs.Header.{body_of, section_length_of, whole_of}
use Rattle.sd_section.specs.Assembled.{is_overlong, is_section_whole, Cut, no_cut, with_section, cut_from}
use Rattle.sd_section.specs.OneMore.{cut_more}

-- a field within the first bytes stays with more bytes after
pub field_append : (first back : List ℕ) (at width : ℕ) → at + width ≤ 8 * length first →
    field (first ++ back) at width ≡ field first at width
field_append first back at width h =
    same_by_bits (first ++ back) first at width (λ j k.
    let here : (at + j) / 8 < length first = omega arith in
    ap (λ (b : ℕ). b / 2 ^ (7 - (at + j) % 8) % 2) (get_or_append_left first back 0 ((at + j) / 8) here))

-- so does section_length
pub length_stays : (run more : List ℕ) → 3 ≤ length run → section_length_of (run ++ more) ≡ section_length_of run
length_stays run more h = field_append run more 12 12 (omega arith)

three_there : (run more : List ℕ) → 3 ≤ length run → (nat_le 3 (length run) ≡ true)
    × (nat_le 3 (length (run ++ more)) ≡ true)
three_there run more h = (
  le-leb 3 (length run) h,
  le-leb 3 (length (run ++ more))
      (omega (arith, length-append run more)),
)

pub over_stays : (run more : List ℕ) → 3 ≤ length run → is_overlong (run ++ more) ≡ is_overlong run
unfolding is_overlong
over_stays run more h = let three = three_there run more h in rw (three.0, three.1, length_stays run more h) refl

pub over_has_three : (run : List ℕ) → is_overlong run ≡ true → 3 ≤ length run
unfolding is_overlong
over_has_three run h = leb-true 3 (length run) (and_parts (nat_le 3 (length run)) (nat_lt 4093 (section_length_of run))
    h).0

pub all_is_over : (run : List ℕ) → 3 ≤ length run → 4093 < section_length_of run → is_overlong run ≡ true
unfolding is_overlong
all_is_over run h k = rw (le-leb 3 (length run) h, lt-ltb 4093 (section_length_of run) k) refl

pub whole_has_all : (run : List ℕ) → is_section_whole run ≡ true →
    (3 ≤ length run) × (3 + section_length_of run ≤ length run)
unfolding is_section_whole
whole_has_all run h =
    let parts = and_parts (nat_le 3 (length run)) (nat_le (3 + section_length_of run) (length run)) h in
    (leb-true 3 (length run) parts.0, leb-true (3 + section_length_of run) (length run) parts.1)

pub all_is_whole : (run : List ℕ) → 3 ≤ length run → 3 + section_length_of run ≤ length run →
    is_section_whole run ≡ true
unfolding is_section_whole
all_is_whole run h k = rw (le-leb 3 (length run) h, le-leb (3 + section_length_of run) (length run) k) refl

pub whole_stays : (run more : List ℕ) → is_section_whole run ≡ true → is_section_whole (run ++ more) ≡ true
whole_stays run more h =
    let all = whole_has_all run h in
    let same = length_stays run more all.0 in
    all_is_whole (run ++ more) (omega (arith, length-append run more))
    (omega (arith, length-append run more, same, all.1))

-- where a run isn't whole and is with more after it, its length passes the run
passes : (run more : List ℕ) → is_section_whole run ≡ false → is_section_whole (run ++ more) ≡ true →
    length run ≤ 3 + section_length_of
    (run ++ more)
passes run more part whole = elim (cases_lt (3 + section_length_of (run ++ more)) (length run)) [
  | inl short ↦
      let three : 3 ≤ length run = omega arith in
      let all : is_section_whole run ≡ true = all_is_whole run three (omega (arith, length_stays run more three)) in
      absurd (cc)
  | inr long ↦ long
]

-- no bytes have no section
pub cut_none : (n : ℕ) (more : List ℕ) → cut_from n [] more ≡ no_cut
unfolding cut_from
cut_none zero more = refl
cut_none (suc n) more = refl

-- a run that begins with stuffing, is too long, whole, or in the making
pub cut_stuffed : (n b : ℕ) (bs more : List ℕ) → (b == 255) ≡ true → cut_from (suc n) (b ∷ bs) more ≡ no_cut
unfolding cut_from
cut_stuffed n b bs more e = rw e refl

pub cut_over : (n b : ℕ) (bs more : List ℕ) → (b == 255) ≡ false → is_overlong (b ∷ bs ++ more) ≡ true →
    cut_from (suc n) (b ∷ bs) more ≡ no_cut
unfolding cut_from
cut_over n b bs more e o = rw (e, o) refl

pub cut_whole : (n b : ℕ) (bs more : List ℕ) → (b == 255) ≡ false → is_overlong (b ∷ bs ++ more) ≡ false →
    is_section_whole (b ∷ bs ++ more) ≡ true →
    cut_from (suc n) (b ∷ bs) more ≡
    with_section (whole_of (b ∷ bs ++ more)) (cut_from n (drop (3 + section_length_of (b ∷ bs ++ more)) (b ∷ bs)) more)
unfolding cut_from
cut_whole n b bs more e o w = rw (e, o, w) refl

pub cut_part : (n b : ℕ) (bs more : List ℕ) → (b == 255) ≡ false → is_overlong (b ∷ bs ++ more) ≡ false →
    is_section_whole (b ∷ bs ++ more) ≡ false →
    cut_from (suc n) (b ∷ bs) more ≡ record { sections = []; making = b ∷ bs ++ more }
unfolding cut_from
cut_part n b bs more e o w = rw (e, o, w) refl

-- a section in the making with more after it: too long, whole, or still in the making
pub added_over : (b : ℕ) (bs more : List ℕ) → is_overlong (b ∷ bs ++ more) ≡ true → cut_more (b ∷ bs) more ≡ no_cut
unfolding cut_more
added_over b bs more o = rw o refl

pub added_whole : (b : ℕ) (bs more : List ℕ) → is_overlong (b ∷ bs ++ more) ≡ false → is_section_whole (b ∷ bs ++ more)
    ≡ true →
    cut_more (b ∷ bs) more ≡ record { sections = whole_of (b ∷ bs ++ more) ∷ []; making = [] }
unfolding cut_more
added_whole b bs more o w = rw (o, w) refl

pub added_part : (b : ℕ) (bs more : List ℕ) → is_overlong (b ∷ bs ++ more) ≡ false → is_section_whole (b ∷ bs ++ more)
    ≡ false →
    cut_more (b ∷ bs) more ≡ record { sections = []; making = b ∷ bs ++ more }
unfolding cut_more
added_part b bs more o w = rw (o, w) refl

pub added_none : (more : List ℕ) → cut_more [] more ≡ no_cut
unfolding cut_more
added_none more = refl

-- a cut, and what its section in the making comes to with more bytes
abbrev pub gone_on : Cut → List ℕ → Cut
gone_on cut bytes = record {
  sections = cut.sections ++ (cut_more cut.making bytes).sections;
  making = (cut_more cut.making bytes).making;
}

-- the run may be written with its parts in another order
run_is : (b : ℕ) (bs more bytes : List ℕ) → b ∷ bs ++ (more ++ bytes) ≡ (b ∷ bs ++ more) ++ bytes
run_is b bs more bytes = sym (append_assoc (b ∷ bs) more bytes)

-- one turn of the cut with more bytes after the run, where the turns after it are so
longer_turn : (n b : ℕ) (bs more bytes : List ℕ) → ((first : List ℕ) →
    cut_from n first (more ++ bytes) ≡ gone_on (cut_from n first more) bytes) →
    (stuffed over whole over' whole' : Bool) → (b == 255) ≡ stuffed →
    is_overlong (b ∷ bs ++ more) ≡ over → is_section_whole (b ∷ bs ++ more) ≡ whole →
    is_overlong ((b ∷ bs ++ more) ++ bytes) ≡ over' → is_section_whole ((b ∷ bs ++ more) ++ bytes) ≡ whole' →
    cut_from (suc n) (b ∷ bs) (more ++ bytes) ≡ gone_on (cut_from (suc n) (b ∷ bs) more) bytes
unfolding cut_more
longer_turn n b bs more bytes after true over whole over' whole' s o w o' w' =
    cut_stuffed n b bs (more ++ bytes) s ∙ ap (λ (c : Cut). gone_on c bytes) (sym (cut_stuffed n b bs more s))
longer_turn n b bs more bytes after false true whole over' whole' s o w o' w' =
    let run : List ℕ = b ∷ bs ++ more in
    let still : is_overlong (b ∷ bs ++ (more ++ bytes)) ≡ true =
    rw (run_is b bs more bytes) (over_stays run bytes (over_has_three run o) ∙ o) in
    cut_over n b bs (more ++ bytes) s still ∙ ap (λ (c : Cut). gone_on c bytes) (sym (cut_over n b bs more s o))
longer_turn n b bs more bytes after false false true over' whole' s o w o' w' =
    let run : List ℕ = b ∷ bs ++ more in
    let all : List ℕ = b ∷ bs ++ (more ++ bytes) in
    let is : all ≡ run ++ bytes = run_is b bs more bytes in
    let there = whole_has_all run w in
    let same : section_length_of all ≡ section_length_of run = ap section_length_of is ∙
    length_stays run bytes there.0 in
    let first : whole_of all ≡ whole_of run =
    ap (λ (k : ℕ). take (3 + k) all) same ∙ (ap (take (3 + section_length_of run)) is ∙
    take-append-le (3 + section_length_of run) run bytes there.1) in
    let left : List ℕ = drop (3 + section_length_of run) (b ∷ bs) in
    cut_whole n b bs (more ++ bytes) s (ap is_overlong is ∙ (over_stays run bytes there.0 ∙ o))
    (ap is_section_whole is ∙
    whole_stays run bytes w)
    ∙ (ap (λ (l : List ℕ). with_section l (cut_from n (drop (3 + section_length_of all) (b ∷ bs)) (more ++ bytes)))
    first
    ∙ (ap (λ (k : ℕ). with_section (whole_of run) (cut_from n (drop (3 + k) (b ∷ bs)) (more ++ bytes))) same
    ∙ (ap (with_section (whole_of run)) (after left)
    ∙ ap (λ (c : Cut). gone_on c bytes) (sym (cut_whole n b bs more s o w)))))
longer_turn n b bs more bytes after false false false true whole' s o w o' w' =
    cut_over n b bs (more ++ bytes) s (ap is_overlong (run_is b bs more bytes) ∙ o')
    ∙ (sym (added_over b (bs ++ more) bytes o') ∙ ap (λ (c : Cut). gone_on c bytes) (sym (cut_part n b bs more s o w)))
longer_turn n b bs more bytes after false false false false true s o w o' w' =
    let run : List ℕ = b ∷ bs ++ more in
    let all : List ℕ = b ∷ bs ++ (more ++ bytes) in
    let is : all ≡ run ++ bytes = run_is b bs more bytes in
    let past : length (b ∷ bs) ≤ 3 + section_length_of all =
    omega (arith, passes run bytes w w', ap section_length_of is, length-append (b ∷ bs) more) in
    let none : cut_from n (drop (3 + section_length_of all) (b ∷ bs)) (more ++ bytes) ≡ no_cut =
    ap (λ (l : List ℕ). cut_from n l (more ++ bytes)) (drop_all (3 + section_length_of all) (b ∷ bs) past) ∙
    cut_none n (more ++ bytes) in
    cut_whole n b bs (more ++ bytes) s (ap is_overlong is ∙ o') (ap is_section_whole is ∙ w')
    ∙ (ap (with_section (whole_of all)) none
    ∙ (ap (λ (l : List ℕ). with_section (whole_of l) no_cut) is
    ∙ (sym (added_whole b (bs ++ more) bytes o' w') ∙ ap (λ (c : Cut). gone_on c bytes)
    (sym (cut_part n b bs more s o w)))))
longer_turn n b bs more bytes after false false false false false s o w o' w' =
    cut_part n b bs (more ++ bytes) s (ap is_overlong (run_is b bs more bytes) ∙ o')
    (ap is_section_whole (run_is b bs more bytes) ∙ w')
    ∙ (ap (λ (l : List ℕ). record { sections = []; making = l }) (run_is b bs more bytes)
    ∙ (sym (added_part b (bs ++ more) bytes o' w') ∙ ap (λ (c : Cut). gone_on c bytes)
    (sym (cut_part n b bs more s o w))))

-- a cut of a longer run
pub longer : (n : ℕ) (first more bytes : List ℕ) → cut_from n first (more ++ bytes) ≡ gone_on (cut_from n first more)
    bytes
unfolding cut_from cut_more
longer zero first more bytes = refl
longer (suc n) [] more bytes = refl
longer (suc n) (b ∷ bs) more bytes =
    longer_turn n b bs more bytes (λ first. longer n first more bytes) _ _ _ _ _ refl refl refl refl refl

-- a body is what a section has but its header and its CRC
pub body_long : (section : List ℕ) → length (body_of section) ≡ length section - 12
body_long section = omega (arith, length-take (length section - 4 - 8) (drop 8 section), length-drop 8 section)
