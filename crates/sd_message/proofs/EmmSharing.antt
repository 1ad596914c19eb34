-- The sets of a period, three by three.
use Rattle.std.proofs.Common.{◌≡◌, ℕ, ◌*◌, ◌/◌, ◌%◌, ◌<◌, List, length, take, drop, arith, refl, sym, ap, subst, ◌∙◌}
use Rattle.std.specs.Prelude.{All, Some, slice_get, flat_map}
use Rattle.std.specs.declared.cmp.Ordering.TheVariants.{Less}
use Rattle.std.proofs.lemmas.List.{drop-map, take-map}
use Rattle.sd_tree_keys.specs.declared.set.SetName.{SetName}
use Rattle.sd_tree_keys.specs.SetNames.{set_cmp, AreAscending}
use Rattle.sd_message.specs.Pieces.{pieces_for, piece_at}
use Rattle.sd_message.proofs.Pieces as Pieces
use Rattle.sd_message.proofs.Pieces.{long_piece, each_of_piece, pairs_of_piece, filled_items, filled_rest}
use Rattle.sd_message.proofs.Pieces.{filled_length}
use Rattle.sd_message.specs.EmmSpelled.{listed_entries, names_in}
use Rattle.sd_message.specs.EmmForm.{sections_for, IsSetBeside, AreSets, AreWrapped, IsEmm, FitsEmmFields, no_entry}
use Rattle.sd_message.specs.EmmFields.{padded_entries}
use Rattle.sd_message.specs.Period.{Period, entries_at, emm_at, emms_of, IsPeriod, IsOfPeriod, SaysSame}
use Rattle.sd_message.specs.declared.emm.Entry.{Entry}
use Rattle.sd_message.specs.declared.emm.Emm.{Emm}

-- a section with this number of sections and these entries
abbrev pub made : Period → ℕ → ℕ → List Entry → List Entry → Emm
made period x sections own entries = record {
  period = period.number;
  sets = length period.entries;
  sections = sections;
  index = x;
  check = period.check;
  run = period.run;
  count = length own;
  entries = entries;
}

-- a section of the period, by its fields
pub made_is : (period : Period) (x sections : ℕ) (own entries : List Entry) → sections ≡ sections_for
    (length period.entries) →
    own ≡ entries_at period.entries x → entries ≡ padded_entries own →
    made period x sections own entries ≡ emm_at period x
unfolding emm_at
made_is period x sections own entries p q r = rw (r, q, p) refl

-- a section of the period has the entries of its place
listed_at : (period : Period) (x : ℕ) → listed_entries (emm_at period x) ≡ entries_at period.entries x
unfolding emm_at
listed_at period x = filled_items 3 no_entry (entries_at period.entries x)

-- joined, the sections have all entries
pub joined_are_all : (period : Period) → flat_map listed_entries (emms_of period) ≡ period.entries
unfolding emms_of
joined_are_all period = Pieces.joined_are_all listed_entries (emm_at period) 3 period.entries (omega arith)
    (listed_at period)

-- how many sections there are
pub as_many : (period : Period) → length (emms_of period) ≡ sections_for (length period.entries)
unfolding emms_of
as_many period = Pieces.as_many (emm_at period) (sections_for (length period.entries))

-- a fact of each place is one of each section
each_section : (P : Emm → Type 0) (period : Period) → ((x : ℕ) → x < sections_for (length period.entries) →
    P (emm_at period x)) →
    All P (emms_of period)
unfolding emms_of
each_section P period each = Pieces.each_made P (emm_at period) (sections_for (length period.entries)) each

-- the section of an index
pub stands_at : (period : Period) (x : ℕ) → x < sections_for (length period.entries) → slice_get (emms_of period) x
    ≡ Some (emm_at period x)
unfolding emms_of
stands_at period x within = Pieces.stands_at (emm_at period) (sections_for (length period.entries)) x within

-- what stands at an index
made_at : (period : Period) (x : ℕ) (emm : Emm) → slice_get (emms_of period) x ≡ Some emm → emm ≡ emm_at period x
unfolding emms_of
made_at period x emm there = Pieces.made_at (emm_at period) (sections_for (length period.entries)) x emm there

-- has it
pub index_is : (period : Period) (x : ℕ) (emm : Emm) → slice_get (emms_of period) x ≡ Some emm → emm.index ≡ x
unfolding emm_at
index_is period x emm there = ap (λ (e : Emm). e.index) (made_at period x emm there)

-- two sections of the period say the same of it
same_at : (period : Period) (x y : ℕ) → SaysSame (emm_at period x) (emm_at period y)
unfolding emm_at
same_at period x y = record { period = refl; sets = refl; sections = refl; check = refl }

pub two_say_the_same : (period : Period) (x y : ℕ) (a b : Emm) → slice_get (emms_of period) x ≡ Some a →
    slice_get (emms_of period) y ≡ Some b → SaysSame a b
two_say_the_same period x y a b p q = rw (made_at period x a p, made_at period y b q) (same_at period x y)

-- set k stands in section k / 3, at place k mod 3
pub set_stands : (period : Period) (k : ℕ) → k < length period.entries →
    slice_get (listed_entries (emm_at period (k / 3))) (k % 3) ≡ slice_get period.entries k
set_stands period k within =
    ap (λ (l : List Entry). slice_get l (k % 3)) (listed_at period (k / 3))
    ∙ Pieces.item_stands 3 (k / 3) (k % 3) k period.entries no_entry (omega arith) (omega arith) within

-- the names of a section's entries
names_at : (entries : List Entry) (x : ℕ) → names_in (entries_at entries x) ≡ piece_at 3 (names_in entries) x
names_at entries x =
    sym (ap (λ (l : List SetName). take 3 l) (drop-map (λ (entry : Entry). entry.name) (3 * x) entries)
    ∙ take-map (λ (entry : Entry). entry.name) 3 (drop (3 * x) entries))

-- ascend
names_ascend : (period : Period) (x : ℕ) → AreAscending (names_in period.entries) →
    AreAscending (names_in (listed_entries (emm_at period x)))
names_ascend period x up =
    subst AreAscending (sym (ap names_in (listed_at period x) ∙ names_at period.entries x))
    (pairs_of_piece (λ (a b : SetName). set_cmp a b ≡ Less) 3 (names_in period.entries) x up)

-- a section of the period is one that this project writes
pub is_emm : (period : Period) (x : ℕ) → x < sections_for (length period.entries) →
    AreAscending (names_in period.entries) →
    IsEmm (emm_at period x)
unfolding emm_at
is_emm period x within up = record {
  counted = record { sections_are = refl; index_is = within; count_is = long_piece 3 period.entries x };
  ascending = names_ascend period x up;
  rest = filled_rest 3 no_entry (entries_at period.entries x);
}

-- each wrapped key of it has 32 bytes
wrapped_at : (period : Period) (x : ℕ) → AreWrapped period.entries → AreWrapped (listed_entries (emm_at period x))
wrapped_at period x wrapped =
    subst AreWrapped (sym (listed_at period x)) (each_of_piece (λ (entry : Entry). length entry.wrapped ≡ 32) 3
    period.entries x wrapped)

-- and it fits its fields
fits_at : (period : Period) (x : ℕ) → x < sections_for (length period.entries) → IsPeriod period →
    FitsEmmFields (emm_at period x)
unfolding emm_at pieces_for
fits_at period x within is =
    let few = is.sets in
    let long = long_piece 3 period.entries x in
    record {
      head = record {
        period = is.number;
        sets = omega arith;
        sections = omega arith;
        run = is.run;
        check = is.check;
      };
      index = omega arith;
      entries = filled_length 3 no_entry (entries_at period.entries x) (omega arith);
      wrapped = wrapped_at period x is.wrapped;
    }

-- each section of the period is one that this project writes, and fits its fields
pub all_are_emms : (period : Period) → IsPeriod period → All (λ emm. IsEmm emm × FitsEmmFields emm) (emms_of period)
all_are_emms period is =
    each_section (λ emm. IsEmm emm × FitsEmmFields emm) period
    (λ x within. (is_emm period x within is.ascending, fits_at period x within is))

-- its sets may stand where the period's may
sets_stand : (h : ℕ) (period : Period) (x : ℕ) → AreSets h (length period.entries) period.entries →
    AreSets h (emm_at period x).sets (listed_entries (emm_at period x))
unfolding emm_at
sets_stand h period x sets =
    subst (AreSets h (length period.entries)) (sym (listed_at period x))
    (each_of_piece (λ (entry : Entry). IsSetBeside h (length period.entries) entry.name) 3 period.entries x sets)

-- so may those of each section
pub all_sets_stand : (h : ℕ) (period : Period) → AreSets h (length period.entries) period.entries →
    All (λ emm. AreSets h emm.sets (listed_entries emm)) (emms_of period)
all_sets_stand h period sets =
    each_section (λ emm. AreSets h emm.sets (listed_entries emm)) period (λ x within. sets_stand h period x sets)

-- each says the same of the period
pub all_are_of : (period : Period) → All (IsOfPeriod period) (emms_of period)
unfolding emm_at
all_are_of period =
    each_section (IsOfPeriod period) period
    (λ x within. record { run = refl; number = refl; sets = refl; sections = refl; check = refl })
