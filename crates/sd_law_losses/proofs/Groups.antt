-- What is sent with one clear packet, of which some is lost.
use Rattle.std.proofs.Common.{◌≡◌, refl, ℕ, suc, ◌+◌, ◌/◌, ◌%◌, ◌<◌, ◌≤◌, ◌==◌, Bool, true, false}
use Rattle.std.proofs.Common.{List, [], ◌∷◌, ◌++◌, map, length, take, drop, Option, Some, if◌then◌else◌}
use Rattle.std.proofs.Common.{arith, sym, ap, ◌∙◌, inl, inr, ◌⊎◌, subst, append_assoc, append-nil}
use Rattle.std.specs.Prelude.{All, Contains}
use Rattle.std.specs.List.{list_any}
use Rattle.std.proofs.lemmas.List.Elements.{All-contains_itself}
use Rattle.std.proofs.lemmas.List.Folds.{list_any-append}
use Rattle.std.proofs.lemmas.Bool.{cases_Bool}
use Rattle.std.proofs.lemmas.Bool.Decides.{nat_tests}
use Rattle.sd_message.specs.Period.{emms_of}
use Rattle.sd_message.specs.declared.emm.Emm.{Emm}
use Rattle.sd_message.specs.EcmParts.{parts_of}
use Rattle.sd_spec.specs.Plan.{crypto_length, period_of, closing_number}
use Rattle.sd_spec.specs.Messages.{period_at}
use Rattle.sd_spec.specs.Sent.{Item, Cat, Entitles, Controls, tables_at, tables_before}
use Rattle.sd_spec.specs.Heard.{Heard, Dropped, Controls as HeardControls, Other}
use Rattle.sd_law_losses.specs.Chosen.{chosen}
use Rattle.sd_law_losses.specs.Kept.{is_carried}
use Rattle.sd_law_losses.proofs.Writing.{onto, onto_append, writes_append, writes_nothing}
use Rattle.sd_law_losses.proofs.Coming.{all_kept, chosen_none}
use Rattle.sd_law_losses.proofs.Setting.{Setting, AreLaws, tuning_at, final, told_by, carried_at}
use Rattle.sd_law_losses.proofs.Pairs.{start_of, end_of, end_is, period_is}
use Rattle.sd_law_losses.proofs.Facts.{AreKept, AreHeard, Passes, bare_kept, cat_heard, cat_is_bare}
use Rattle.sd_law_losses.proofs.Sections.{sections_come}
use Rattle.sd_law_losses.proofs.Carrying.{carrying, carried_kept, carried_heard, lost_kept, lost_heard}
use Rattle.sd_law_losses.proofs.Completing.{parts_at, IsLater, written_at}
use Rattle.sd_law_losses.proofs.Heeding.{next_last, written_where, what_comes, message_comes}
use Rattle.sd_law_losses.proofs.Hearing.{heard_from, heard_append, heard_sections, heard_parts}
use Rattle.sd_law_losses.proofs.Remaining.{parts_before, group_at, number_within, whole_number, due_number}
use Rattle.sd_law_losses.proofs.Remaining.{other_number}
use Rattle.sd_law_losses.proofs.Later.{chosen_append, chosen_map, chosen_fails, parts_carry_none}

-- one after the other
pub passes_then : (s : Setting) (k j p q n m : ℕ) (last next : Option ℕ) (kept more : List Item)
    (past xs ys : List Heard)
    (v w : List (List ℕ)) → Passes s k p n last kept past xs v → Passes s j q m next more (onto xs past) ys w →
    Passes s j q m next more past (xs ++ ys) (v ++ w)
passes_then s k j p q n m last next kept more past xs ys v w first after = record {
  kept_is = after.kept_is;
  heard_is = subst (AreHeard s j q m next more) (sym (onto_append xs ys past)) after.heard_is;
  writes = writes_append s.card (tuning_at s) past xs ys v w first.writes after.writes;
}

-- nothing comes
pub passes_none : (s : Setting) (k p n : ℕ) (last : Option ℕ) (kept : List Item) (past : List Heard) →
    AreKept k n last kept →
    AreHeard s k p n last kept past → Passes s k p n last (kept ++ []) past [] []
passes_none s k p n last kept past is are = record {
  kept_is = subst (AreKept k n last) (sym (append-nil kept)) is;
  heard_is = subst (λ (items : List Item). AreHeard s k p n last items past) (sym (append-nil kept)) are;
  writes = refl;
}

-- a later period may be told of
pub may_rise : (s : Setting) (k p q n : ℕ) (last : Option ℕ) (kept : List Item) (past : List Heard) → p ≤ q →
    AreHeard s k p n last kept past → AreHeard s k q n last kept past
may_rise s k p q n last kept past rises are = record {
  open_yet = are.open_yet;
  now = omega (arith, are.now, rises);
  sections = are.sections;
  keys = are.keys;
  message = are.message;
  keyed = are.keyed;
  parts = are.parts;
  held = are.held;
  begun = are.begun;
  indexes = are.indexes;
  told = are.told;
  taken = λ bound above. are.taken bound (omega (arith, above, rises));
}

-- sections that are chosen
pub sections_pass : (s : Setting) (laws : AreLaws s) (k p n i : ℕ) (last : Option ℕ) (emms : List Emm) (fs : List Bool)
    (kept : List Item) (past : List Heard) → All (Contains (emms_of (period_at s.plan p))) emms →
    AreKept k n last kept → AreHeard s k p n last kept past →
    Passes s k p n last (kept ++ chosen fs (map Entitles emms)) past (heard_from i (chosen fs (map Entitles emms))) []
sections_pass s laws k p n i last emms fs kept past all is are =
    subst (λ (items : List Item). Passes s k p n last (kept ++ items) past (heard_from i items) []) (sym
    (chosen_map Entitles fs emms))
    (subst (λ (hs : List Heard). Passes s k p n last (kept ++ map Entitles (chosen fs emms)) past hs [])
    (sym (heard_sections i (chosen fs emms))) (sections_come s laws k p n last emms fs kept past all is are))

-- the CAT and the sections of a period
pub tables_pass : (s : Setting) (laws : AreLaws s) (k j n i : ℕ) (last : Option ℕ) (fs : List Bool) (kept : List Item)
    (past : List Heard) → AreKept j n last kept → AreHeard s j (period_of s.plan k) n last kept past →
    Passes s j (period_of s.plan k) n last (kept ++ chosen fs (tables_at s.plan k)) past
    (heard_from i (chosen fs (tables_at s.plan k))) []
unfolding tables_at chosen
tables_pass s laws k j n i last [] kept past is are = passes_none s j (period_of s.plan k) n last kept past is are
tables_pass s laws k j n i last (false ∷ fs) kept past is are =
    sections_pass s laws j (period_of s.plan k) n i last (emms_of (period_at s.plan (period_of s.plan k))) fs kept past
    (All-contains_itself (emms_of (period_at s.plan (period_of s.plan k)))) is are
tables_pass s laws k j n i last (true ∷ fs) kept past is are =
    let emms = emms_of (period_at s.plan (period_of s.plan k)) in
    let items = chosen fs (map Entitles emms) in
    let rest = sections_pass s laws j (period_of s.plan k) n (suc i) last emms fs (kept ++ Cat ∷ []) (Dropped ∷ past)
    (All-contains_itself emms) (bare_kept j n last kept Cat cat_is_bare is) (cat_heard s j
    (period_of s.plan k) n last kept past are) in
    let joined : (kept ++ Cat ∷ []) ++ items ≡ kept ++ (Cat ∷ items) = append_assoc kept (Cat ∷ []) items in
    record {
      kept_is = subst (AreKept j n last) joined rest.kept_is;
      heard_is = subst (λ (all : List Item). AreHeard s j (period_of s.plan k) n last all (onto (heard_from
          (suc i) items) (Dropped ∷ past)))
          joined rest.heard_is;
      writes = writes_nothing s.card (tuning_at s) past Dropped (heard_from (suc i) items) [] (λ m. refl) rest.writes;
    }

pub before_pass : (s : Setting) (laws : AreLaws s) (k n i : ℕ) (last : Option ℕ) (fs : List Bool) (kept : List Item)
    (past : List Heard) → AreKept k n last kept → AreHeard s k (period_of s.plan k) n last kept past →
    Passes s k (period_of s.plan k) n last (kept ++ chosen fs (tables_before s.plan k)) past
    (heard_from i (chosen fs (tables_before s.plan k))) []
before_pass s laws k n i last fs kept past is are = by_test (k % crypto_length s.plan.site == 0)
  where
    by_test : (b : Bool) → Passes s k (period_of s.plan k) n last (kept ++ chosen fs
        (if b then tables_at s.plan k else [])) past
        (heard_from i (chosen fs (if b then tables_at s.plan k else []))) []
    by_test true = tables_pass s laws k k n i last fs kept past is are
    by_test false = subst (λ (items : List Item). Passes s k (period_of s.plan k) n last (kept ++ items) past
        (heard_from i items) [])
        (sym (chosen_none fs)) (passes_none s k (period_of s.plan k) n last kept past is are)

-- whether a message arrives that stands before packet k, and what is written then
abbrev pub Moves : Setting → List Item → Option ℕ → ℕ → Option ℕ → List (List ℕ) → Type 0
Moves s kept last k next wrote = ((next ≡ last) × (wrote ≡ []))
    ⊎ ((a : ℕ) × (a ≤ final s) × (end_of s a ≡ k) × (closing_number s.plan.site k ≡ a) × (next ≡ Some a)
    × (wrote ≡ written_at s kept last a))

-- what holds with some more, and what is written
pub record Goes (s : Setting) (all : List Item) (j k p n : ℕ) (last : Option ℕ) (kept : List Item)
    (past things : List Heard) : Type 0 where
  pub next : Option ℕ
  pub wrote : List (List ℕ)
  pub moves : Moves s all last j next wrote
  pub passes : Passes s k p n next kept past things wrote

moves_where : (s : Setting) (all : List Item) (k a : ℕ) (last : Option ℕ) (b : Bool) → a ≤ final s → end_of s a ≡ k →
    closing_number s.plan.site k ≡ a → Moves s all last k (next_last b last a) (written_where b s all last a)
moves_where s all k a last true within here number = inr (a, within, here, number, refl, refl)
moves_where s all k a last false within here number = inl (refl, refl)

-- the parts of the message before packet k
due_pass : (s : Setting) (laws : AreLaws s) (k i : ℕ) (last : Option ℕ) (fs : List Bool) (kept later : List Item)
    (past : List Heard) → k < length s.clear → (k % s.plan.site.every == 0) ≡ true → IsLater k later →
    AreKept k (closing_number s.plan.site k) last kept → AreHeard s k (period_of s.plan k)
    (closing_number s.plan.site k) last kept past →
    Goes s (kept ++ later) k k (period_of s.plan k) (closing_number s.plan.site (k + 1)) last
    (kept ++ chosen fs (map Controls (parts_of (told_by s (k / s.plan.site.every))))) past
    (heard_from i (chosen fs (map Controls (parts_of (told_by s (k / s.plan.site.every))))))
due_pass s laws k i last fs kept later past within due is kept_is are = record {
  next = next_last all last a;
  wrote = written_where all s (kept ++ later) last a;
  moves = moves_where s (kept ++ later) k a last all (omega (arith, below)) (end_is s a laws.range below
      ∙ here) numbers.0;
  passes = subst (λ (items : List Item). Passes s k (period_of s.plan k) (closing_number s.plan.site (k + 1))
      (next_last all last a)
      (kept ++ items) past (heard_from i items) (written_where all s (kept ++ later) last a)) (sym
      (chosen_map Controls fs (parts_of (told_by s a))))
      (subst (λ (hs : List Heard). Passes s k (period_of s.plan k) (closing_number s.plan.site (k + 1))
      (next_last all last a)
      (kept ++ map Controls (parts_at s a fs)) past hs (written_where all s (kept ++ later) last a)) (sym
      (heard_parts i (parts_at s a fs)))
      (subst (λ (n : ℕ). Passes s k (period_of s.plan k) n (next_last all last a)
      (kept ++ map Controls (parts_at s a fs)) past (map HeardControls (parts_at s a fs)) (written_where all s
      (kept ++ later) last a))
      (sym numbers.1)
      (subst (λ (j : ℕ). Passes s j (period_of s.plan k) (a + 1) (next_last all last a)
      (kept ++ map Controls (parts_at s a fs)) past (map HeardControls (parts_at s a fs)) (written_where all s
      (kept ++ later) last a))
      here came)));
}
  where
    a : ℕ
    a = k / s.plan.site.every

    here : start_of s a ≡ k
    here = whole_number s.plan.site k due

    below : a < final s
    below = number_within s k laws.range within

    numbers : (closing_number s.plan.site k ≡ a) × (closing_number s.plan.site (k + 1) ≡ a + 1)
    numbers = due_number s.plan.site k laws.range due

    all : Bool
    all = all_kept fs (parts_of (told_by s a))

    kept_here : AreKept (start_of s a) a last kept
    kept_here = subst (λ (j : ℕ). AreKept j a last kept) (sym here) (subst (λ
        (n : ℕ). AreKept k n last kept) numbers.0 kept_is)

    heard_here : AreHeard s (start_of s a) (period_of s.plan k) a last kept past
    heard_here = subst (λ (j : ℕ). AreHeard s j (period_of s.plan k) a last kept past) (sym here)
        (subst (λ (n : ℕ). AreHeard s k (period_of s.plan k) n last kept past) numbers.0 are)

    came : Passes s (start_of s a) (period_of s.plan k) (a + 1) (next_last all last a) (kept ++ map Controls
        (parts_at s a fs)) past
        (map HeardControls (parts_at s a fs)) (written_where all s (kept ++ later) last a)
    came = message_comes s laws (period_of s.plan k) a last fs kept later past below (sym (end_is s a laws.range below))
        (period_is s a below ∙ ap (period_of s.plan) here)
        (λ j less. is j (omega (arith, less, here))) kept_here heard_here all refl
        (what_comes s laws (start_of s a) (period_of s.plan k) a last fs kept past (omega
        (arith, below)) kept_here heard_here)

pub parts_pass : (s : Setting) (laws : AreLaws s) (k i : ℕ) (last : Option ℕ) (fs : List Bool) (kept later : List Item)
    (past : List Heard) → k < length s.clear → IsLater k later →
    AreKept k (closing_number s.plan.site k) last kept → AreHeard s k (period_of s.plan k)
    (closing_number s.plan.site k) last kept past →
    Goes s (kept ++ later) k k (period_of s.plan k) (closing_number s.plan.site (k + 1)) last
    (kept ++ chosen fs (parts_before s k)) past (heard_from i (chosen fs (parts_before s k)))
parts_pass s laws k i last fs kept later past within is kept_is are = by_test (cases_Bool (k % s.plan.site.every == 0))
  where
    by_test : ((k % s.plan.site.every == 0) ≡ true) ⊎ ((k % s.plan.site.every == 0) ≡ false) →
        Goes s (kept ++ later) k k (period_of s.plan k) (closing_number s.plan.site (k + 1)) last
        (kept ++ chosen fs (parts_before s k)) past (heard_from i (chosen fs (parts_before s k)))
    by_test (inl due) = rw due (due_pass s laws k i last fs kept later past within due is kept_is are)
    by_test (inr not_due) = rw not_due (
        let same = other_number s.plan.site k laws.range not_due in
        record {
          next = last;
          wrote = [];
          moves = inl (refl, refl);
          passes = subst (λ (items : List Item). Passes s k (period_of s.plan k) (closing_number s.plan.site
              (k + 1)) last
              (kept ++ items) past (heard_from i items) []) (sym (chosen_none fs))
              (subst (λ (n : ℕ). Passes s k (period_of s.plan k) n last (kept ++ []) past [] []) (sym same)
              (passes_none s k (period_of s.plan k) (closing_number s.plan.site k) last kept past kept_is are));
        })

-- packet k
pub carry_pass : (s : Setting) (k p n i : ℕ) (last : Option ℕ) (fs : List Bool) (kept : List Item) (past : List Heard) →
    AreKept k n last kept → AreHeard s k p n last kept past →
    Passes s (k + 1) p n last (kept ++ chosen fs (carrying s k ∷ [])) past (heard_from i (chosen fs
    (carrying s k ∷ []))) []
unfolding chosen
carry_pass s k p n i last [] kept past is are =
    passes_none s (k + 1) p n last kept past (lost_kept k n last kept is) (lost_heard s k p n last kept past is are)
carry_pass s k p n i last (false ∷ fs) kept past is are =
    subst (λ (items : List Item). Passes s (k + 1) p n last (kept ++ items) past (heard_from i items) []) (sym
    (chosen_none fs))
    (passes_none s (k + 1) p n last kept past (lost_kept k n last kept is) (lost_heard s k p n last kept past is are))
carry_pass s k p n i last (true ∷ fs) kept past is are =
    subst (λ (items : List Item). Passes s (k + 1) p n last (kept ++ carrying s k ∷ items) past (heard_from i
    (carrying s k ∷ items)) [])
    (sym (chosen_none fs)) (record {
      kept_is = carried_kept s k n last kept is;
      heard_is = carried_heard s k p n i last kept past are;
      writes = writes_nothing s.card (tuning_at s) past (Other i (carried_at s k)) [] [] (λ m. refl) refl;
    })

-- things of which nothing is written, and then others
pub goes_after : (s : Setting) (all : List Item) (j k h p q n m : ℕ) (last : Option ℕ) (kept more : List Item)
    (past xs ys : List Heard) → Passes s k p n last kept past xs [] → Goes s all j h q m last more (onto xs past) ys →
    Goes s all j h q m last more past (xs ++ ys)
goes_after s all j k h p q n m last kept more past xs ys first after = record {
  next = after.next;
  wrote = after.wrote;
  moves = after.moves;
  passes = passes_then s k h p q n m last after.next kept more past xs ys [] after.wrote first after.passes;
}

-- and the other way round
goes_then : (s : Setting) (all : List Item) (j k h p q n m : ℕ) (last : Option ℕ) (kept more : List Item)
    (past xs ys : List Heard) (first : Goes s all j k p n last kept past xs) →
    Passes s h q m first.next more (onto xs past) ys [] → Goes s all j h q m last more past (xs ++ ys)
goes_then s all j k h p q n m last kept more past xs ys first after = record {
  next = first.next;
  wrote = first.wrote;
  moves = first.moves;
  passes = subst (Passes s h q m first.next more past (xs ++ ys)) (append-nil first.wrote)
      (passes_then s k h p q n m first.next first.next kept more past xs ys first.wrote [] first.passes after);
}

none_of_both : (j : ℕ) (xs ys : List Item) → list_any (is_carried j) xs ≡ false → list_any (is_carried j) ys ≡ false →
    list_any (is_carried j) (xs ++ ys) ≡ false
none_of_both j xs ys a b = list_any-append (is_carried j) xs ys ∙ rw a (rw b refl)

-- what comes of a group once its tables are heard
pub tail_goes : (s : Setting) (laws : AreLaws s) (k i : ℕ) (last : Option ℕ) (fs : List Bool) (kept later : List Item)
    (past : List Heard) → k < length s.clear → IsLater (k + 1) later →
    AreKept k (closing_number s.plan.site k) last kept → AreHeard s k (period_of s.plan k)
    (closing_number s.plan.site k) last kept past →
    Goes s (kept ++ (chosen fs (parts_before s k ++ carrying s k ∷ []) ++ later)) k (k + 1) (period_of s.plan k)
    (closing_number s.plan.site (k + 1)) last (kept ++ chosen fs (parts_before s k ++ carrying s k ∷ [])) past
    (heard_from i (chosen fs (parts_before s k ++ carrying s k ∷ [])))
tail_goes s laws k i last fs kept later past within is kept_is are =
    subst (λ (items : List Item). Goes s (kept ++ (items ++ later)) k (k + 1) (period_of s.plan k)
    (closing_number s.plan.site (k + 1)) last (kept ++ items) past (heard_from i items))
    (sym (chosen_append fs (parts_before s k) (carrying s k ∷ [])))
    (subst (λ (all : List Item). Goes s all k (k + 1) (period_of s.plan k)
    (closing_number s.plan.site (k + 1)) last (kept ++ (xs ++ ys)) past (heard_from i (xs ++ ys)))
    (ap (λ (items : List Item). kept ++ items) (sym (append_assoc xs ys later)))
    (subst (λ (hs : List Heard). Goes s (kept ++ (xs ++ (ys ++ later))) k (k + 1) (period_of s.plan k)
    (closing_number s.plan.site (k + 1)) last (kept ++ (xs ++ ys)) past hs) (sym (heard_append i xs ys))
    (goes_then s (kept ++ (xs ++ (ys ++ later))) k k (k + 1) (period_of s.plan k) (period_of s.plan k)
    (closing_number s.plan.site (k + 1)) (closing_number s.plan.site (k + 1)) last (kept ++ xs) (kept ++
    (xs ++ ys)) past
    (heard_from i xs) (heard_from (length xs + i) ys) first
    (subst (λ (items : List Item). Passes s (k + 1) (period_of s.plan k) (closing_number s.plan.site
    (k + 1)) first.next items
    (onto (heard_from i xs) past) (heard_from (length xs + i) ys) []) (append_assoc kept xs ys)
    (carry_pass s k (period_of s.plan k) (closing_number s.plan.site (k + 1)) (length xs + i) first.next
    (drop (length (parts_before s k)) fs) (kept ++ xs) (onto (heard_from i xs) past) first.passes.kept_is
    first.passes.heard_is)))))
  where
    xs : List Item
    xs = chosen (take (length (parts_before s k)) fs) (parts_before s k)

    ys : List Item
    ys = chosen (drop (length (parts_before s k)) fs) (carrying s k ∷ [])

    parts_carry : (j : ℕ) → list_any (is_carried j) xs ≡ false
    parts_carry j = chosen_fails (is_carried j) (take (length (parts_before s k)) fs) (parts_before s k)
        (parts_carry_none s k j)

    itself_later : (j : ℕ) → j < k → list_any (is_carried j) (carrying s k ∷ []) ≡ false
    itself_later j below = let other : (k == j) ≡ false = grind (arith, nat_tests, below) in rw other refl

    first : Goes s (kept ++ (xs ++ (ys ++ later))) k k (period_of s.plan k) (closing_number s.plan.site (k + 1)) last
        (kept ++ xs) past (heard_from i xs)
    first = parts_pass s laws k i last (take (length (parts_before s k)) fs) kept (xs ++ (ys ++ later)) past within
        (λ j below. none_of_both j xs (ys ++ later) (parts_carry j)
        (none_of_both j ys later (chosen_fails (is_carried j) (drop (length (parts_before s k)) fs)
        (carrying s k ∷ []) (itself_later j below))
        (is j (omega (arith, below))))) kept_is are

-- one clear packet and all that is sent with it
pub group_goes : (s : Setting) (laws : AreLaws s) (k p i : ℕ) (last : Option ℕ) (fs : List Bool)
    (kept later : List Item)
    (past : List Heard) → k < length s.clear → p ≤ period_of s.plan k → IsLater (k + 1) later →
    AreKept k (closing_number s.plan.site k) last kept → AreHeard s k p (closing_number s.plan.site k) last kept past →
    Goes s (kept ++ (chosen fs (group_at s k) ++ later)) k (k + 1) (period_of s.plan k) (closing_number s.plan.site
    (k + 1)) last
    (kept ++ chosen fs (group_at s k)) past (heard_from i (chosen fs (group_at s k)))
group_goes s laws k p i last fs kept later past within rises is kept_is are =
    subst (λ (items : List Item). Goes s (kept ++ (items ++ later)) k (k + 1) (period_of s.plan k)
    (closing_number s.plan.site (k + 1)) last (kept ++ items) past (heard_from i items))
    (sym (chosen_append fs (tables_before s.plan k) (parts_before s k ++ carrying s k ∷ [])))
    (subst (λ (hs : List Heard). Goes s (kept ++ ((xs ++ ys) ++ later)) k (k + 1) (period_of s.plan k)
    (closing_number s.plan.site (k + 1)) last (kept ++ (xs ++ ys)) past hs) (sym (heard_append i xs ys))
    (goes_after s (kept ++ ((xs ++ ys) ++ later)) k k (k + 1) (period_of s.plan k) (period_of s.plan k)
    (closing_number s.plan.site k) (closing_number s.plan.site (k + 1)) last (kept ++ xs) (kept ++ (xs ++ ys)) past
    (heard_from i xs) (heard_from (length xs + i) ys) first
    (subst (λ (items : List Item). Goes s (kept ++ ((xs ++ ys) ++ later)) k (k + 1) (period_of s.plan k)
    (closing_number s.plan.site (k + 1)) last items (onto (heard_from i xs) past) (heard_from (length xs + i) ys))
    (append_assoc kept xs ys)
    (subst (λ (all : List Item). Goes s all k (k + 1) (period_of s.plan k)
    (closing_number s.plan.site (k + 1)) last ((kept ++ xs) ++ ys) (onto (heard_from i xs) past) (heard_from
    (length xs + i) ys))
    (append_assoc kept xs (ys ++ later) ∙ ap (λ (items : List Item). kept ++ items) (sym (append_assoc xs ys later)))
    (tail_goes s laws k (length xs + i) last (drop (length (tables_before s.plan k)) fs) (kept ++ xs) later
    (onto (heard_from i xs) past) within is first.kept_is first.heard_is)))))
  where
    xs : List Item
    xs = chosen (take (length (tables_before s.plan k)) fs) (tables_before s.plan k)

    ys : List Item
    ys = chosen (drop (length (tables_before s.plan k)) fs) (parts_before s k ++ carrying s k ∷ [])

    first : Passes s k (period_of s.plan k) (closing_number s.plan.site k) last (kept ++ xs) past (heard_from i xs) []
    first = before_pass s laws k (closing_number s.plan.site k) i last (take (length
        (tables_before s.plan k)) fs) kept past kept_is
        (may_rise s k p (period_of s.plan k) (closing_number s.plan.site k) last kept past rises are)
