-- The sets that a broadcast names are those of the period's cover.
use Rattle.std.proofs.Common.{◌≡◌, ℕ, zero, suc, ◌+◌, ◌-◌, ◌^◌, ◌<◌, ◌≤◌, ◌==◌, ◌&&◌, Bool, true, false}
use Rattle.std.proofs.Common.{List, [], ◌∷◌, ◌++◌, length, map, Some, None}
use Rattle.std.proofs.Common.{refl, sym, ap, subst, ◌∙◌, inl, inr, arith}
use Rattle.std.specs.Prelude.{All, Contains, find, flat_map}
use Rattle.std.specs.List.{range_with_len}
use Rattle.std.proofs.lemmas.Bool.{cases_Bool}
use Rattle.std.proofs.lemmas.Bool.Decides.{nat_tests}
use Rattle.std.proofs.lemmas.List.{map-append}
use Rattle.std.proofs.lemmas.List.Elements.{All-contains, Contains-append_left, Contains-append_right}
use Rattle.sd_tree_keys.specs.declared.set.SetName.{SetName}
use Rattle.sd_message.specs.Pieces.{pieces_for}
use Rattle.sd_message.proofs.Pieces as Pieces
use Rattle.sd_message.specs.EmmSpelled.{listed_entries, names_in}
use Rattle.sd_message.specs.EmmForm.{sections_for}
use Rattle.sd_message.specs.Period.{Period, emm_at, emms_of, IsOfPeriod}
use Rattle.sd_message.specs.declared.emm.Entry.{Entry}
use Rattle.sd_message.specs.declared.emm.Emm.{Emm}
use Rattle.sd_message.proofs.EmmSharing.{joined_are_all, all_are_of}
use Rattle.sd_spec.specs.Plan.{Plan, IsPlan, sets_at, period_of}
use Rattle.sd_spec.specs.Messages.{period_at}
use Rattle.sd_spec.specs.Refused.{IsSendable}
use Rattle.sd_spec.specs.Sent.{Item, sent, closing_of, broadcast}
use Rattle.sd_spec.proofs.Items.{all_are_of_broadcast}
use Rattle.sd_spec.proofs.Schedule.{period_short}
use Rattle.sd_spec.proofs.Periods.{number_is}
use Rattle.sd_cover_tracing.proofs.Lists.{member_cases, member_first, member_later, no_member}
use Rattle.sd_law_broadcast.specs.Packets.{AreLong}
use Rattle.sd_law_broadcast.specs.Named.{names_at, sets_named}
use Rattle.sd_law_broadcast.proofs.Fitting.{period_names, period_fits}
use Rattle.sd_law_broadcast.proofs.Sections.{IsSectionOf, sections_in, each_section, sections_are}
use Rattle.sd_law_broadcast.proofs.Reached.{StandAmong, reached_stand}

-- what is found is the one that passes
found_one : {A : Type 0} (test : A → Bool) (xs : List A) (a : A) → Contains xs a → test a ≡ true →
    ((b : A) → Contains xs b → test b ≡ true → b ≡ a) → find test xs ≡ Some a
found_one test [] a m passes one = absurd (no_member a m)
found_one {A = A} test (x ∷ xs) a m passes one = elim (cases_Bool (test x)) [
  | inl here ↦ rw here (ap (λ (b : A). Some b) (one x (member_first x xs) here))
  | inr other ↦ rw other (found_one test xs a (later other) passes (λ b n. one b (member_later x xs b n)))
]
  where
    later : test x ≡ false → Contains xs a
    later other = elim (member_cases x xs a m) [
      | inl same ↦ absurd (let passes = subst (λ (b : A). test b ≡ true) (sym same) passes in cc)
      | inr rest ↦ rest
    ]

-- nothing is found where none passes
found_none : {A : Type 0} (test : A → Bool) (xs : List A) → ((b : A) → Contains xs b → test b ≡ false) →
    find test xs ≡ None
found_none test [] none = refl
found_none test (x ∷ xs) none =
    rw (none x (member_first x xs)) (found_none test xs (λ b n. none b (member_later x xs b n)))

-- what is made of numbers below n, joined over a longer range of which the rest makes nothing
joined_range : {A : Type 0} (f g : ℕ → List A) (a k n : ℕ) → k ≤ n → ((x : ℕ) → a ≤ x → x < a + k → f x ≡ g x) →
    ((x : ℕ) → a + k ≤ x → f x ≡ []) → flat_map f (range_with_len a n) ≡ flat_map g (range_with_len a k)
joined_range f g a zero zero within same none = refl
joined_range f g a zero (suc n) within same none =
    rw (none a (omega arith)) (joined_range f g (a + 1) 0 n (omega arith) (λ x low high. absurd (omega
    (arith, low, high)))
    (λ x low. none x (omega (arith, low))))
joined_range f g a (suc k) zero within same none = absurd (omega (arith, within))
joined_range f g a (suc k) (suc n) within same none =
    rw (same a (omega arith) (omega arith)) (ap (λ (rest : List _). g a ++ rest)
    (joined_range f g (a + 1) k n (omega (arith, within)) (λ x low high. same x (omega (arith, low)) (omega
    (arith, high)))
    (λ x low. none x (omega (arith, low)))))

-- the names of joined entries
names_joined : (make : ℕ → Emm) (xs : List ℕ) →
    flat_map (λ x. names_in (listed_entries (make x))) xs ≡ names_in (flat_map listed_entries (map make xs))
names_joined make [] = refl
names_joined make (x ∷ xs) =
    ap (λ (rest : List SetName). names_in (listed_entries (make x)) ++ rest) (names_joined make xs)
    ∙ sym (map-append (λ (e : Entry). e.name) (listed_entries (make x)) (flat_map listed_entries (map make xs)))

-- what a period's sections are
record IsAt (period : Period) (emm : Emm) : Type 0 where
  index : ℕ
  within : index < sections_for (length period.entries)
  same : emm ≡ emm_at period index

member_is : (period : Period) (emm : Emm) → Contains (emms_of period) emm → IsAt period emm
unfolding emms_of
member_is period emm (x, within, is) =
    let sections : ℕ = sections_for (length period.entries) in
    let inside : x < sections = omega (arith, within, Pieces.as_many (emm_at period) sections) in
    record { index = x; within = inside; same = sym is ∙ Pieces.made_there (emm_at period) sections x emm inside }

at_member : (period : Period) (x : ℕ) → x < sections_for (length period.entries) → Contains (emms_of period)
    (emm_at period x)
unfolding emms_of
at_member period x within =
    let sections : ℕ = sections_for (length period.entries) in (
      x,
      omega (arith, within, Pieces.as_many (emm_at period) sections),
      Pieces.made_there (emm_at period) sections x (emm_at period x) within,
    )

at_index : (period : Period) (x : ℕ) → (emm_at period x).index ≡ x
unfolding emm_at
at_index period x = refl

at_period : (period : Period) (x : ℕ) → (emm_at period x).period ≡ period.number
unfolding emm_at
at_period period x = refl

-- a section of a packet's period is one of the period that it says
of_its_period : (plan : Plan) (clear : List (List ℕ)) (emm : Emm) (q : ℕ) → IsSectionOf plan clear emm →
    emm.period ≡ q →
    Contains (emms_of (period_at plan q)) emm
of_its_period plan clear emm q (k, within, m) says =
    let of' = All-contains (IsOfPeriod (period_at plan (period_of plan k))) (emms_of (period_at plan
    (period_of plan k))) emm
    (all_are_of (period_at plan (period_of plan k))) m in
    subst (λ (p : ℕ). Contains (emms_of (period_at plan p)) emm)
    (sym (number_is plan (period_of plan k)) ∙ (sym of'.number ∙ says)) m

-- its sections have all entries of a period
all_entries : (period : Period) →
    flat_map listed_entries (map (emm_at period) (range_with_len 0 (sections_for (length period.entries)))) ≡
    period.entries
unfolding emms_of
all_entries period = joined_are_all period

-- the test of the section with an index
abbrev is_at : ℕ → ℕ → Emm → Bool
is_at q x emm = (emm.period == q) && (emm.index == x)

module _ (plan : Plan) (clear : List (List ℕ)) (q : ℕ) (sections : List Emm) (each : All
    (IsSectionOf plan clear) sections)
    (stand : StandAmong (emms_of (period_at plan q)) sections) where
  -- a section that passes is the period's at that index
  passes_is : (emm : Emm) (x : ℕ) → Contains sections emm → is_at q x emm ≡ true →
      (x < sections_for (length (period_at plan q).entries)) × (emm ≡ emm_at (period_at plan q) x)
  passes_is emm x m test =
      let says : emm.period ≡ q = grind (arith, nat_tests, test) in
      let at : emm.index ≡ x = grind (arith, nat_tests, test) in
      let its = member_is (period_at plan q) emm
      (of_its_period plan clear emm q (All-contains (IsSectionOf plan clear) sections emm each m) says) in
      let same : its.index ≡ x =
      sym (at_index (period_at plan q) its.index) ∙ (ap (λ (e : Emm). e.index) (sym its.same) ∙ at) in (
        subst (λ (n : ℕ). n < sections_for (length (period_at plan q).entries)) same its.within,
        its.same ∙ ap (emm_at (period_at plan q)) same,
      )

  -- and that one passes
  passes : (x : ℕ) → is_at q x (emm_at (period_at plan q) x) ≡ true
  passes x =
      let one = at_index (period_at plan q) x in
      let two : (emm_at (period_at plan q) x).period ≡ q = at_period (period_at plan q) x ∙ number_is plan q in
      rw (one, two) (grind (arith, nat_tests))

  stands : (x : ℕ) → x < sections_for (length (period_at plan q).entries) → Contains sections (emm_at
      (period_at plan q) x)
  stands x within =
      let emms : List Emm = emms_of (period_at plan q) in
      let emm : Emm = emm_at (period_at plan q) x in
      subst (λ (all : List Emm). Contains all emm) (sym stand.2)
      (Contains-append_right stand.0 (emms ++ stand.1) emm
      (Contains-append_left emms stand.1 emm (at_member (period_at plan q) x within)))

  -- the sets that are named by an index
  named_within : (x : ℕ) → x < sections_for (length (period_at plan q).entries) →
      names_at q sections x ≡ names_in (listed_entries (emm_at (period_at plan q) x))
  named_within x within =
      rw (found_one (is_at q x) sections (emm_at (period_at plan q) x) (stands x within) (passes x)
      (λ emm m test. (passes_is emm x m test).1)) refl

  named_past : (x : ℕ) → sections_for (length (period_at plan q).entries) ≤ x → names_at q sections x ≡ []
  named_past x past =
      rw (found_none (is_at q x) sections (λ emm m. fails emm m (is_at q x emm) refl)) refl
    where
      fails : (emm : Emm) → Contains sections emm → (b : Bool) → is_at q x emm ≡ b → b ≡ false
      fails emm m false test = refl
      fails emm m true test = absurd (let within = (passes_is emm x m test).0 in omega (arith, within, past))

  -- joined
  named_all : (n : ℕ) → sections_for (length (period_at plan q).entries) ≤ n →
      flat_map (names_at q sections) (range_with_len 0 n) ≡ sets_at plan q
  named_all n few =
      let period : Period = period_at plan q in
      let count : ℕ = sections_for (length period.entries) in
      joined_range (names_at q sections) (λ x. names_in (listed_entries (emm_at period x))) 0 count n few
      (λ x low high. named_within x (omega (arith, high))) (λ x past. named_past x (omega (arith, past)))
      ∙ (names_joined (emm_at period) (range_with_len 0 count)
      ∙ (ap names_in (all_entries period) ∙ period_names plan q))

-- there are no more sections than indexes
sections_few : (plan : Plan) (q : ℕ) → IsPlan plan → q < 2 ^ 32 →
    sections_for (length (period_at plan q).entries) ≤ 65536
unfolding pieces_for
sections_few plan q is low =
    let few = (period_fits plan q is low).sets in
    omega (arith, few)

-- a broadcast names the sets of each period that it reaches
pub named_are_sets : (plan : Plan) (clear : List (List ℕ)) (q : ℕ) → IsPlan plan → IsSendable plan.site clear →
    AreLong clear → plan.site.first_period ≤ q → q ≤ period_of plan (length clear - 1) →
    sets_named plan.site.height plan.site.emm q (broadcast plan clear) ≡ sets_at plan q
unfolding sets_named broadcast
named_are_sets plan clear q is all long from reached =
    let items : List Item = sent plan clear ++ closing_of plan clear in
    let each = all_are_of_broadcast plan clear in
    let last = period_short plan (length clear - 1) is in
    ap (λ (sections : List Emm). flat_map (names_at q sections) (range_with_len 0 65536))
    (sections_are plan clear is all long [] items each)
    ∙ named_all plan clear q (sections_in items) (each_section plan clear items each is all)
    (reached_stand plan clear q is.site from reached) 65536 (sections_few plan q is (omega (arith, reached, last)))
