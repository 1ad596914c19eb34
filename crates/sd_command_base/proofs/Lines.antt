-- The lines of a text of leaves, one after the other.
use Rattle.std.proofs.Common.{◌≡◌, ℕ, zero, suc, ◌+◌, ◌-◌, ◌^◌, ◌<◌, ◌≤◌, ◌&&◌, Bool, true, false, not, List, [], ◌∷◌}
use Rattle.std.proofs.Common.{◌++◌, length}
use Rattle.std.proofs.Common.{get_or, drop, refl, sym, ap, ◌∙◌, subst, inl, inr, pow_mono, arith}
use Rattle.std.proofs.lemmas.Bool.{cases_lt, lt-ltb, le-ltb, ltb-true}
use Rattle.std.specs.Prelude.{◌⊎◌, All, find, is_some, map, slice_get, slice_index, nat_lt, if◌then◌else◌, Option, Some}
use Rattle.std.specs.Prelude.{None, Ok, Err}
use Rattle.std.specs.List.{range_with_len}
use Rattle.std.specs.List.Sorted.{IsStrictlyIncreasing}
use Rattle.std.proofs.lemmas.List.{append_assoc, append-nil, map-append, length-append, length_push, get_or_append_left}
use Rattle.std.specs.Option.{option_map_or}
use Rattle.sd_base.specs.Lines.{lines_of}
use Rattle.sd_base.specs.Number.{decimal_value, rest_after, decimal_after, fitting_u32}
use Rattle.sd_base.specs.declared.decimals.NumberFault.{NumberFault}
use Rattle.sd_base.proofs.Fitting.{fits_is, misfit_high}
use Rattle.sd_command_base.specs.Text.{is_leaf_line, first_fault, leaves_of_text, leaf_after, stands_above}

-- the first number of a range that passes a test
found_at : (p : ℕ → Bool) (lo n k : ℕ) → k < n → ((i : ℕ) → i < k → p (lo + i) ≡ false) → p (lo + k) ≡ true →
    find p (range_with_len lo n) ≡ Some (lo + k)
found_at p lo zero k within before here = absurd (omega (arith, within))
found_at p lo (suc n) zero within before here =
    let start : lo + 0 ≡ lo = omega arith in
    let first : p lo ≡ true = ap p (sym start) ∙ here in
    rw (first, start) refl
found_at p lo (suc n) (suc k) within before here =
    let start : lo + 0 ≡ lo = omega arith in
    let first : p lo ≡ false = ap p (sym start) ∙ before 0 (omega arith) in
    let next : lo + suc k ≡ lo + 1 + k = omega arith in
    rw (first, next) (found_at p (lo + 1) n k (omega (arith, within))
    (λ i below. let e : lo + 1 + i ≡ lo + suc i = omega arith in ap p e ∙ before (suc i) (omega (arith, below)))
    (ap p (sym next) ∙ here))

none_found : (p : ℕ → Bool) (lo n : ℕ) → ((i : ℕ) → i < n → p (lo + i) ≡ false) → find p (range_with_len lo n) ≡ None
none_found p lo zero none = refl
none_found p lo (suc n) none =
    let start : lo + 0 ≡ lo = omega arith in
    let first : p lo ≡ false = ap p (sym start) ∙ none 0 (omega arith) in
    rw first (none_found p (lo + 1) n (λ i below.
    let e : lo + 1 + i ≡ lo + suc i = omega arith in ap p e ∙ none (suc i) (omega (arith, below))))

-- a line that is a decimal of 32 bits says it
pub said : (h u : ℕ) (line before : List ℕ) → fitting_u32 (decimal_after [] line) ≡ Ok u →
    leaf_after h before (Some u) ≡ leaf_after h before (decimal_value line)
unfolding rest_after
said h u line before e = ap (leaf_after h before) (sym (fits_is (decimal_value line) u e))

-- another is no leaf
pub unsaid : (h : ℕ) (line before : List ℕ) (fault : NumberFault) → h ≤ 20 → fitting_u32 (decimal_after [] line)
    ≡ Err fault →
    leaf_after h before (decimal_value line) ≡ None
unfolding rest_after
unsaid h line before fault low e = unsaid_by (decimal_value line) e
  where
    unsaid_by : (n : Option ℕ) → fitting_u32 n ≡ Err fault → leaf_after h before n ≡ None
    unsaid_by None e = refl
    unsaid_by (Some n) e =
        let high = misfit_high n fault e in
        let above : nat_lt n (2 ^ h) ≡ false = le-ltb n (2 ^ h) (omega (arith, high, pow_mono {i = h} {j = 20} low)) in
        rw above refl

-- a number of the tree above the last
pub taken : (h u : ℕ) (before : List ℕ) → u < 2 ^ h →
    true ≡ option_map_or (λ w. nat_lt w u) (slice_get before (length before - 1)) true → Some u ≡ leaf_after h before
    (Some u)
taken h u before leaf above = rw (lt-ltb u (2 ^ h) leaf, sym above) refl

pub not_above : (h u : ℕ) (before : List ℕ) →
    false ≡ option_map_or (λ w. nat_lt w u) (slice_get before (length before - 1)) true → None ≡ leaf_after h before
    (Some u)
not_above h u before above = rw (sym above) (by (nat_lt u (2 ^ h)))
  where
    by : (b : Bool) → None ≡ (if b && false then Some u else None)
    by true = refl
    by false = refl

pub not_there : (h u : ℕ) (before : List ℕ) → (u < 2 ^ h → ⊥) → None ≡ leaf_after h before (Some u)
not_there h u before none = rw (by (nat_lt u (2 ^ h)) refl) refl
  where
    by : (b : Bool) → nat_lt u (2 ^ h) ≡ b → nat_lt u (2 ^ h) ≡ false
    by true t = absurd (none (ltb-true u (2 ^ h) t))
    by false t = t

-- so many first lines were read, as these leaves, and the rest is left
pub record AreRead (h : ℕ) (text rest : List ℕ) (leaves : List ℕ) : Type 0 where
  pub lines : List (List ℕ)
  pub split : lines_of text ≡ lines ++ lines_of rest
  pub numbers : map decimal_value lines ≡ map Some leaves
  pub good : (k : ℕ) → k < length lines → is_leaf_line h (lines_of text) k ≡ true

pub read_none : (h : ℕ) (text : List ℕ) → AreRead h text text []
read_none h text = record {
  lines = [];
  split = refl;
  numbers = refl;
  good = λ k within. absurd (omega (arith, within));
}

-- as many lines as leaves
as_many : (lines : List (List ℕ)) (leaves : List ℕ) → map decimal_value lines ≡ map Some leaves → length lines
    ≡ length leaves
as_many [] [] e = refl
as_many [] (u ∷ us) e = absurd (cc)
as_many (l ∷ ls) [] e = absurd (cc)
as_many (l ∷ ls) (u ∷ us) e = omega (arith, as_many ls us (ap (drop 1) e))

-- the number on each of these lines
number_read : (lines : List (List ℕ)) (leaves : List ℕ) (k : ℕ) → map decimal_value lines ≡ map Some leaves →
    k < length leaves →
    decimal_value (get_or lines k []) ≡ slice_get leaves k
number_read [] [] k e within = absurd (omega (arith, within))
number_read [] (u ∷ us) k e within = absurd (cc)
number_read (l ∷ ls) [] k e within = absurd (omega (arith, within))
number_read (l ∷ ls) (u ∷ us) zero e within = ap (λ (xs : List (Option ℕ)). get_or xs 0 None) e
number_read (l ∷ ls) (u ∷ us) (suc k) e within = number_read ls us k (ap (drop 1) e) (omega (arith, within))

-- a number is below another or not, whatever stands for none
last_is : (u : ℕ) (us : List ℕ) (k : ℕ) → k < length us →
    option_map_or (λ w. nat_lt w u) (slice_get us k) false ≡ option_map_or (λ w. nat_lt w u) (slice_get us k) true
last_is u [] k within = absurd (omega (arith, within))
last_is u (w ∷ ws) zero within = refl
last_is u (w ∷ ws) (suc k) within = last_is u ws k (omega (arith, within))

no_last : (u : ℕ) (us : List ℕ) → length us ≡ 0 → true ≡ option_map_or (λ w. nat_lt w u) (slice_get us (length us - 1))
    true
no_last u [] none = refl
no_last u (w ∷ ws) none = absurd (omega (arith, none))

-- the line before is that of the last leaf
above_same : (u : ℕ) (lines later : List (List ℕ)) (leaves : List ℕ) (n : ℕ) →
    map decimal_value lines ≡ map Some leaves →
    n ≡ length leaves → stands_above (lines ++ later) n u ≡
    option_map_or (λ w. nat_lt w u) (slice_get leaves (length leaves - 1)) true
above_same u lines later leaves zero e is = no_last u leaves (sym is)
above_same u lines later leaves (suc n) e is =
    let count = as_many lines leaves e in
    let before : get_or (lines ++ later) n [] ≡ get_or lines n [] = get_or_append_left lines later [] n
    (omega (arith, count, is)) in
    let last : length leaves - 1 ≡ n = omega (arith, is) in
    let number = ap decimal_value before ∙ number_read lines leaves n e (omega (arith, is)) in
    rw (last, number) (last_is u leaves n (omega (arith, is)))

-- the line at the end of others
line_at : (lines later : List (List ℕ)) (line : List ℕ) → get_or (lines ++ line ∷ later) (length lines) [] ≡ line
line_at [] later line = refl
line_at (l ∷ ls) later line = line_at ls later line

taken_is : (b : Bool) (u : ℕ) → b ≡ is_some (if b then Some u else None)
taken_is true u = refl
taken_is false u = refl

line_by : (h : ℕ) (lines later : List (List ℕ)) (leaves : List ℕ) (n : Option ℕ) → map decimal_value lines
    ≡ map Some leaves →
    option_map_or (λ u. nat_lt u (2 ^ h) && stands_above (lines ++ later) (length lines) u) n false
    ≡ is_some (leaf_after h leaves n)
line_by h lines later leaves None e = refl
line_by h lines later leaves (Some u) e =
    rw (above_same u lines later leaves (length lines) e (as_many lines leaves e))
    (taken_is (nat_lt u (2 ^ h) && option_map_or (λ w. nat_lt w u) (slice_get leaves (length leaves - 1)) true) u)

-- whether the next line is one of a leaf
line_is : (h : ℕ) (lines later : List (List ℕ)) (line : List ℕ) (leaves : List ℕ) → map decimal_value lines
    ≡ map Some leaves →
    is_leaf_line h (lines ++ line ∷ later) (length lines) ≡ is_some (leaf_after h leaves (decimal_value line))
unfolding is_leaf_line
line_is h lines later line leaves e = rw (line_at lines later line)
    (line_by h lines (line ∷ later) leaves (decimal_value line) e)

said_leaf : (h leaf : ℕ) (leaves : List ℕ) (n : Option ℕ) → leaf_after h leaves n ≡ Some leaf → n ≡ Some leaf
said_leaf h leaf leaves None e = absurd (cc)
said_leaf h leaf leaves (Some u) e =
    by (nat_lt u (2 ^ h) && option_map_or (λ w. nat_lt w u) (slice_get leaves (length leaves - 1)) true) e
  where
    by : (b : Bool) → (if b then Some u else None) ≡ Some leaf → Some u ≡ Some leaf
    by true e = e
    by false e = absurd (cc)

good_more : (h : ℕ) (text : List ℕ) (lines later : List (List ℕ)) (line leaves : List ℕ) (leaf k : ℕ) →
    lines_of text ≡ lines ++ line ∷ later → map decimal_value lines ≡ map Some leaves →
    leaf_after h leaves (decimal_value line) ≡ Some leaf →
    ((k : ℕ) → k < length lines → is_leaf_line h (lines_of text) k ≡ true) → k < length (lines ++ line ∷ []) →
    (k < length lines) ⊎ (length lines ≤ k) → is_leaf_line h (lines_of text) k ≡ true
good_more h text lines later line leaves leaf k whole e is good within (inl before) = good k before
good_more h text lines later line leaves leaf k whole e is good within (inr here) =
    let long = length_push lines line in
    let same : k ≡ length lines = omega (arith, within, here, long) in
    ap (λ (i : ℕ). is_leaf_line h (lines_of text) i) same
    ∙ (ap (λ (ls : List (List ℕ)). is_leaf_line h ls (length lines)) whole
    ∙ (line_is h lines later line leaves e ∙ ap is_some is))

-- one line more
pub read_more : (h : ℕ) (text rest more line leaves : List ℕ) (leaf : ℕ) → AreRead h text rest leaves →
    lines_of rest ≡ line ∷ lines_of more → leaf_after h leaves (decimal_value line) ≡ Some leaf →
    AreRead h text more (leaves ++ leaf ∷ [])
read_more h text rest more line leaves leaf read first is =
    let whole : lines_of text ≡ read.lines ++ line ∷ lines_of more = read.split ∙ ap (λ (ls : List (List ℕ)). read.lines
    ++ ls) first in
    record {
      lines = read.lines ++ line ∷ [];
      split = whole ∙ sym (append_assoc read.lines (line ∷ []) (lines_of more));
      numbers = map-append decimal_value read.lines (line ∷ [])
          ∙ (ap (λ (ns : List (Option ℕ)). ns ++ decimal_value line ∷ []) read.numbers
          ∙ (ap (λ (n : Option ℕ). map Some leaves ++ n ∷ []) (said_leaf h leaf leaves (decimal_value line) is)
          ∙ sym (map-append Some leaves (leaf ∷ []))));
      good = λ k within. good_more h text read.lines (lines_of more) line leaves leaf k whole read.numbers is read.good
          within
          (cases_lt k (length read.lines));
    }

-- the first line that is no leaf's
pub read_fault : (h : ℕ) (text rest more line leaves : List ℕ) → AreRead h text rest leaves →
    lines_of rest ≡ line ∷ lines_of more → leaf_after h leaves (decimal_value line) ≡ None →
    leaves_of_text h text ≡ Err (length leaves + 1)
unfolding leaves_of_text first_fault
read_fault h text rest more line leaves read first none =
    let whole : lines_of text ≡ read.lines ++ line ∷ lines_of more = read.split ∙ ap (λ (ls : List (List ℕ)). read.lines
    ++ ls) first in
    let n : ℕ = length read.lines in
    let count : n ≡ length leaves = as_many read.lines leaves read.numbers in
    let bad : is_leaf_line h (lines_of text) n ≡ false =
    ap (λ (ls : List (List ℕ)). is_leaf_line h ls n) whole
    ∙ (line_is h read.lines (lines_of more) line leaves read.numbers ∙ ap is_some none) in
    let long = ap length whole ∙ length-append read.lines (line ∷ lines_of more) in
    let within : n < length (lines_of text) = omega (arith, long) in
    let found = found_at (λ k. not (is_leaf_line h (lines_of text) k)) 0 (length (lines_of text)) n within
    (λ i below. let e : 0 + i ≡ i = omega arith in rw (e, read.good i below) refl)
    (let e : 0 + n ≡ n = omega arith in rw (e, bad) refl) in
    let at : 0 + n ≡ length leaves = omega (arith, count) in
    rw (found, at) refl

-- the leaves that lines say
map_back : (ls : List (List ℕ)) (us : List ℕ) → map decimal_value ls ≡ map Some us →
    map (λ line. option_map_or (λ u. u) (decimal_value line) 0) ls ≡ us
map_back [] [] e = refl
map_back [] (u ∷ us) e = absurd (cc)
map_back (l ∷ ls) [] e = absurd (cc)
map_back (l ∷ ls) (u ∷ us) e =
    let first : decimal_value l ≡ Some u = ap (λ (xs : List (Option ℕ)). get_or xs 0 None) e in
    rw first (ap (λ (vs : List ℕ). u ∷ vs) (map_back ls us (ap (drop 1) e)))

-- at the end they are all that the text says
pub read_all : (h : ℕ) (text rest leaves : List ℕ) → AreRead h text rest leaves → rest ≡ [] → leaves_of_text h text
    ≡ Ok leaves
unfolding leaves_of_text first_fault
read_all h text rest leaves read ended =
    let whole : lines_of text ≡ read.lines =
    read.split ∙ (ap (λ (r : List ℕ). read.lines ++ lines_of r) ended ∙ append-nil read.lines) in
    let none = none_found (λ k. not (is_leaf_line h (lines_of text) k)) 0 (length (lines_of text))
    (λ i below. let e : 0 + i ≡ i = omega arith in
    let good = read.good i (subst (λ (ls : List (List ℕ)). i < length ls) whole below) in rw (e, good) refl) in
    rw none (ap Ok (ap (map (λ line. option_map_or (λ u. u) (decimal_value line) 0)) whole ∙ map_back read.lines leaves
    read.numbers))

-- there are no more ascending leaves than the tree has
rank_below : (xs : List ℕ) (k : ℕ) → IsStrictlyIncreasing xs → k < length xs → k ≤ slice_index xs k
rank_below xs zero up within = omega arith
rank_below xs (suc k) up within =
    let before = rank_below xs k up (omega (arith, within)) in
    let next = up k (omega (arith, within)) in
    let e : k + 1 ≡ suc k = omega arith in
    let less : slice_index xs k < slice_index xs (suc k) = subst (λ (n : ℕ). slice_index xs k < slice_index xs n) e next
    in
    omega (arith, before, less)

few_by : (h : ℕ) (xs : List ℕ) (n : ℕ) → IsStrictlyIncreasing xs → All (λ u. u < 2 ^ h) xs → length xs ≡ n → n ≤ 2 ^ h
few_by h xs zero up all e = omega arith
few_by h xs (suc n) up all e =
    let rank = rank_below xs n up (omega (arith, e)) in
    let leaf : slice_index xs n < 2 ^ h = all n 0 (omega (arith, e)) in
    omega (arith, rank, leaf)

pub few_leaves : (h : ℕ) (xs : List ℕ) → IsStrictlyIncreasing xs → All (λ u. u < 2 ^ h) xs → length xs ≤ 2 ^ h
few_leaves h xs up all = few_by h xs (length xs) up all refl

-- a leaf that is taken is of the tree, and above the last
taken_by : (h leaf u : ℕ) (leaves : List ℕ) (a b : Bool) → nat_lt u (2 ^ h) ≡ a →
    option_map_or (λ w. nat_lt w u) (slice_get leaves (length leaves - 1)) true ≡ b →
    (if a && b then Some u else None) ≡ Some leaf →
    (leaf < 2 ^ h) × (option_map_or (λ w. nat_lt w leaf) (slice_get leaves (length leaves - 1)) true ≡ true)
taken_by h leaf u leaves true true t r e =
    let same : u ≡ leaf = cc in (
      subst (λ (w : ℕ). w < 2 ^ h) same (ltb-true u (2 ^ h) t),
      subst (λ (v : ℕ). option_map_or (λ w. nat_lt w v) (slice_get leaves (length leaves - 1)) true ≡ true) same r,
    )
taken_by h leaf u leaves true false t r e = absurd (cc)
taken_by h leaf u leaves false b t r e = absurd (cc)

taken_fits : (h leaf : ℕ) (leaves : List ℕ) (n : Option ℕ) → leaf_after h leaves n ≡ Some leaf →
    (leaf < 2 ^ h) × (option_map_or (λ w. nat_lt w leaf) (slice_get leaves (length leaves - 1)) true ≡ true)
taken_fits h leaf leaves None e = absurd (cc)
taken_fits h leaf leaves (Some u) e =
    taken_by h leaf u leaves (nat_lt u (2 ^ h)) (option_map_or (λ w. nat_lt w u) (slice_get leaves (length leaves - 1))
    true) refl refl e

pub leaf_fits : (h leaf : ℕ) (leaves : List ℕ) (n : Option ℕ) → leaf_after h leaves n ≡ Some leaf → leaf < 2 ^ h
leaf_fits h leaf leaves n e = (taken_fits h leaf leaves n e).0

-- a number of the list that is below another by the test
below_at : (u : ℕ) (us : List ℕ) (k : ℕ) → k < length us → option_map_or (λ w. nat_lt w u) (slice_get us k) true
    ≡ true →
    slice_index us k < u
below_at u [] k within e = absurd (omega (arith, within))
below_at u (w ∷ ws) zero within e = ltb-true w u e
below_at u (w ∷ ws) (suc k) within e = below_at u ws k (omega (arith, within)) e

-- the last of a list
last_at : (us : List ℕ) (u : ℕ) → slice_index (us ++ u ∷ []) (length us) ≡ u
last_at [] u = refl
last_at (w ∷ ws) u = last_at ws u

above_by : (leaf : ℕ) (leaves : List ℕ) (k : ℕ) → IsStrictlyIncreasing leaves → k + 1 ≤ length leaves →
    option_map_or (λ w. nat_lt w leaf) (slice_get leaves (length leaves - 1)) true ≡ true →
    (k + 1 < length leaves) ⊎ (length leaves ≤ k + 1) →
    slice_index (leaves ++ leaf ∷ []) k < slice_index (leaves ++ leaf ∷ []) (k + 1)
above_by leaf leaves k up within above (inl before) =
    rw (
      get_or_append_left leaves (leaf ∷ []) 0 k (omega (arith, before)),
      get_or_append_left leaves (leaf ∷ []) 0
          (k + 1) before,
    ) (up k before)
above_by leaf leaves k up within above (inr last) =
    let same : length leaves - 1 ≡ k = omega (arith, within, last) in
    let end : k + 1 ≡ length leaves = omega (arith, within, last) in
    let below = below_at leaf leaves k (omega (arith, within)) (rw same at above) in
    rw (get_or_append_left leaves (leaf ∷ []) 0 k (omega (arith, within)), end, last_at leaves leaf) below

-- an ascending list goes on with a leaf above its last
pub above_more : (h leaf : ℕ) (leaves : List ℕ) (n : Option ℕ) → leaf_after h leaves n ≡ Some leaf →
    IsStrictlyIncreasing leaves →
    IsStrictlyIncreasing (leaves ++ leaf ∷ [])
above_more h leaf leaves n is up k within =
    let long = length_push leaves leaf in
    above_by leaf leaves k up (omega (arith, within, long)) (taken_fits h leaf leaves n is).1
    (cases_lt (k + 1) (length leaves))
