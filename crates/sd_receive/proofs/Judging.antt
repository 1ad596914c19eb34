-- What a period comes to, and what a section of it does.
use Rattle.std.proofs.Common.{◌≡◌, ℕ, zero, suc, ◌+◌, ◌-◌, ◌<◌, ◌≤◌, ◌^◌, ◌==◌, ◌&&◌, ◌||◌, Bool, true, false, List}
use Rattle.std.proofs.Common.{[], ◌∷◌, ◌++◌, length}
use Rattle.std.proofs.Common.{refl, ap, ⊎_elim, subst, ◌∙◌, sym, arith, eq-eqb, get_or}
use Rattle.std.specs.Prelude.{All, find, is_none, is_some, not, take, drop, replicate, bytes_eq, if◌then◌else◌}
use Rattle.std.specs.Prelude.{Option, Some, None}
use Rattle.std.specs.List.{list_any, list_all, range_with_len}
use Rattle.std.specs.Option.{option_or, option_map_or}
use Rattle.std.specs.Prelude.{Result, Ok, Err, OnOk, MatchResult, IsErr, IsErrAnd}
use Rattle.std.proofs.lemmas.List.{get_or-drop, get_or-replicate, length-replicate, take-append-le, take_all}
use Rattle.std.proofs.Math.ListN.{get_or-append}
use Rattle.std.proofs.Math.Seq.{get_or-append_right}
use Rattle.std.proofs.lemmas.List.Folds.{list_any_none}
use Rattle.std.proofs.lemmas.Bool.{false≢true, true≢false, cases_lt, ne_eqb, lt-ltb, le-ltb, le-leb}
use Rattle.sd_site_cards.specs.CardFields.{CardFields}
use Rattle.sd_message.specs.declared.emm.Emm.{Emm}
use Rattle.sd_spec.specs.Heard.{Heard}
use Rattle.sd_spec.specs.Stretches.{current, sections_seen}
use Rattle.sd_spec.specs.Keys.{first_key, key_in, key_at, key_from}
use Rattle.sd_spec.specs.Offered.{says_same, is_mixed, Offering, key_if_none, key_offering, emm_offering}
use Rattle.sd_message.specs.declared.stream_fault.StreamFault.{StreamFault}
use Rattle.sd_message.specs.declared.stream_fault.StreamFault.TheVariants as Fault
use Rattle.sd_message.specs.declared.emm_fault.EmmFault.TheVariants as Emms
use Rattle.sd_spec.specs.Ending.{periods_told, is_unkeyed, is_all_seen, are_all}
use Rattle.sd_receive.specs.declared.emm.header.PeriodHeader.{PeriodHeader}
use Rattle.sd_receive.specs.declared.emm.PeriodKeys.{PeriodKeys}
use Rattle.sd_receive.specs.PeriodKeys.{says_in, says_of_newest_emm, SayAlike, is_said_otherwise, key_kept, has_index}
use Rattle.sd_receive.specs.PeriodKeys.{all_marked}
use Rattle.sd_spec.specs.Taken.{takes_key}
use Rattle.sd_receive.specs.PeriodKeys.{cleared, is_told_revoked, told_below, IsEntitled, IsEmmJudged, HasFault}
use Rattle.sd_receive.proofs.Periods.{closes, ahead_none}

-- all marks up to a place are set where all tests up to it hold
all_tests : (P : ℕ → Bool) (a n : ℕ) (marks : List Bool) → n ≤ length marks → ((x : ℕ) → x < n →
    get_or marks x false ≡ P (a + x)) →
    list_all (λ mark. mark) (take n marks) ≡ list_all P (range_with_len a n)
all_tests P a zero marks long same = refl
all_tests P a (suc n) [] long same = absurd (omega (arith, long))
all_tests P a (suc n) (mark ∷ marks) long same =
    let first : mark ≡ P a = same 0 (omega arith) ∙ ap P (omega arith) in
    let rest = all_tests P (a + 1) n marks (omega (arith, long))
    (λ x h. same (suc x) (omega (arith, h)) ∙ ap P (omega arith)) in
    rw (first, rest) refl

all_by : (sections : List Emm) (header : Option PeriodHeader) (marks : List Bool) → length marks ≡ 65536 →
    header ≡ says_of_newest_emm
    sections →
    SayAlike header sections → ((x : ℕ) → x < 2 ^ 16 → get_or marks x false ≡ has_index x sections) →
    all_marked header marks ≡ are_all sections
all_by [] header marks long is alike same = rw is refl
all_by (emm ∷ sections) header marks long is alike same =
    let short : emm.sections < 2 ^ 16 = (alike 0 emm (omega arith)).1.1 in
    rw is (all_tests (λ x. has_index x (emm ∷ sections)) 0 emm.sections marks (omega (arith, short, long))
    (λ x h. same x (omega (arith, h, short)) ∙ ap (λ (y : ℕ). has_index y (emm ∷ sections)) (omega arith)))

some_same : (a b : PeriodHeader) → Some a ≡ Some b → a ≡ b
some_same a b is = ap (λ (o : Option PeriodHeader). option_map_or (λ (s : PeriodHeader). s) o a) is

same_count : (a b : Emm) → Some (says_in a) ≡ Some (says_in b) → a.sections ≡ b.sections
same_count a b is = ap (λ (s : PeriodHeader). s.sections) (some_same (says_in a) (says_in b) is)

same_test : (a b emm : Emm) → Some (says_in a) ≡ Some (says_in b) → not (says_same b emm) ≡ not (says_same a emm)
same_test a b emm is =
    ap (λ (s : PeriodHeader). not ((s.sets == emm.sets) && ((s.sections == emm.sections) && bytes_eq s.check
    emm.check)))
    (sym (some_same (says_in a) (says_in b) is))

within_cleared : (n x : ℕ) (marks : List Bool) → x < n → get_or (replicate n false ++ drop n marks) x false ≡ false
within_cleared n x marks h =
    get_or-append (replicate n false) (drop n marks) false x (omega (arith, h, length-replicate n false))
    ∙ get_or-replicate n x false false h

past_cleared : (n x : ℕ) (marks : List Bool) → n ≤ x → get_or (replicate n false ++ drop n marks) x false
    ≡ get_or marks x false
past_cleared n x marks h =
    get_or-append_right (replicate n false) (drop n marks) x false (omega (arith, h, length-replicate n false))
    ∙ (ap (λ (k : ℕ). get_or (drop n marks) (x - k) false) (length-replicate n false)
    ∙ (get_or-drop n marks (x - n) false ∙ ap (λ (k : ℕ). get_or marks k false) (omega (arith, h))))

and_assoc : (a b c : Bool) → ((a && b) && c) ≡ (a && (b && c))
and_assoc true b c = refl
and_assoc false b c = refl

-- a section says otherwise where it differs from one of those that say the same
or_all : (b : Bool) (P : Emm → Bool) (sections : List Emm) → All (λ other. P other ≡ b) sections →
    (b || list_any P sections) ≡ b
or_all true P sections same = refl
or_all false P sections same = list_any_none P sections same

otherwise_is : (header : Option PeriodHeader) (sections : List Emm) (emm : Emm) →
    header ≡ says_of_newest_emm sections → SayAlike
    header sections →
    is_said_otherwise header emm ≡ is_mixed sections emm
otherwise_is header [] emm is alike = rw is refl
otherwise_is header (first ∷ sections) emm is alike =
    rw is (sym (or_all (not (says_same first emm)) (λ (other : Emm). not (says_same other emm)) sections
    (λ k d h. same_test first (get_or sections k d) emm (sym is ∙ (alike (suc k) d (omega (arith, h))).0))))

-- where the marks are cleared none is set
cleared_by : (sections : List Emm) (header : Option PeriodHeader) (marks : List Bool) (x : ℕ) →
    header ≡ says_of_newest_emm sections →
    SayAlike header sections → get_or marks x false ≡ has_index x sections → get_or (cleared header marks) x false ≡
    false
cleared_by [] header marks x is alike same = rw is same
cleared_by (emm ∷ sections) header marks x is alike same =
    rw is (⊎_elim
    (λ (h : x < emm.sections). within_cleared emm.sections x marks h)
    (λ (h : emm.sections ≤ x). past_cleared emm.sections x marks h ∙ (same
    ∙ list_any_none (λ (other : Emm). other.index == x)
    (emm ∷ sections) (λ k d g.
    let other = alike k d g in
    let count = same_count emm (get_or (emm ∷ sections) k d) (sym is ∙ other.0) in
    ne_eqb (get_or (emm ∷ sections) k d).index x
    (λ (e : (get_or (emm ∷ sections) k d).index ≡ x). absurd (omega (arith, e, h, other.1.0, count))))))
    (cases_lt x emm.sections))

module _ (card : CardFields) (tr : List Heard) (state : PeriodKeys) (is : IsEntitled card tr state) where
  -- all marks are set where all sections were seen
  pub all_seen : length state.marks.items ≡ 65536 → all_marked state.header state.marks.items
      ≡ is_all_seen tr (current tr)
  all_seen long = all_by (sections_seen (current tr) tr) state.header state.marks.items long is.header is.alike is.marks

  -- the first period without a key, and the first that is revoked, of all that were told of
  first_of_all : (P : ℕ → Bool) (test : Bool) (first : Option ℕ) → test ≡ P (current tr) →
      first ≡ find P (told_below (current tr) tr) →
      option_or first (if state.told && test then Some state.period else None) ≡ find P (periods_told tr)
  unfolding told_below
  first_of_all P test first now before =
      rw (before, is.told, now, is.period) (sym (closes P (current tr) tr is.in_turn (omega arith)))

  pub unkeyed_of_all : option_or state.unkeyed (if state.told && is_none state.key then Some state.period else None)
      ≡ find (is_unkeyed card tr) (periods_told tr)
  unkeyed_of_all = first_of_all (is_unkeyed card tr) (is_none state.key) state.unkeyed (ap is_none is.key) is.unkeyed

  pub revoked_of_all : length state.marks.items ≡ 65536 →
      option_or state.revoked
      (if (state.told && is_none state.key) && all_marked state.header state.marks.items then Some state.period else
      None)
      ≡ find (is_told_revoked card tr) (periods_told tr)
  revoked_of_all long =
      ap (λ (b : Bool). option_or state.revoked (if b then Some state.period else None))
      (and_assoc state.told (is_none state.key) (all_marked state.header state.marks.items))
      ∙ first_of_all (is_told_revoked card tr) (is_none state.key && all_marked state.header state.marks.items)
      state.revoked (rw (is.key, all_seen long) refl) is.revoked

  none_ahead : (q : ℕ) → current tr < q → key_at card tr q ≡ None
  unfolding key_in
  none_ahead q g = ap (key_in card) (ahead_none q tr g)

  -- what is kept of a section's period
  pub kept_is : (q : ℕ) → current tr ≤ q → key_kept state q ≡ key_at card tr q
  kept_is q h = ⊎_elim
      (λ (g : current tr < q).
      rw (ne_eqb state.period q (λ (e : state.period ≡ q). absurd (omega (arith, e, g, is.period))))
      (sym (none_ahead q g)))
      (λ (g : q ≤ current tr).
      let same : q ≡ current tr = omega (arith, g, h) in
      rw (same, eq-eqb state.period (current tr) is.period) is.key)
      (cases_lt (current tr) q)

  pub differs_is : (emm : Emm) → current tr ≤ emm.period →
      (if state.period == emm.period then is_said_otherwise state.header emm else false)
      ≡ is_mixed (sections_seen emm.period tr) emm
  differs_is emm h = ⊎_elim
      (λ (g : current tr < emm.period).
      rw (
        ne_eqb state.period emm.period (λ (e : state.period ≡ emm.period). absurd (omega (arith, e, g, is.period))),
        ahead_none emm.period tr g,
      ) refl)
      (λ (g : emm.period ≤ current tr).
      let same : emm.period ≡ current tr = omega (arith, g, h) in
      let here : state.period ≡ emm.period = omega (arith, is.period, same) in
      rw (eq-eqb state.period emm.period here) (otherwise_is state.header (sections_seen (current tr) tr) emm is.header
      is.alike
      ∙ ap (λ (q : ℕ). is_mixed (sections_seen q tr) emm) (sym same)))
      (cases_lt (current tr) emm.period)

  -- the marks of the period's sections are all there are; so many marks are written back
  pub all_cleared : (n : ℕ) (marks : List Bool) → marks ≡ cleared state.header state.marks.items → length marks ≡ n →
      (x : ℕ) → x < 2 ^ 16 → get_or (take n (marks ++ drop (length marks) state.marks.items)) x false ≡ false
  all_cleared n marks written long x h =
      ap (λ (l : List Bool). get_or l x false)
      (take-append-le n marks (drop (length marks) state.marks.items) (omega (arith, long))
      ∙ (take_all n marks (omega (arith, long)) ∙ written))
      ∙ cleared_by (sections_seen (current tr) tr) state.header state.marks.items x is.header is.alike (is.marks x h)

-- what a section comes to
module _ (card : CardFields) (n : ℕ) (tr : List Heard) (emm : Emm) where
  pub past_offering : emm.period < current tr → (emm_offering card n tr emm).fault ≡ None
  unfolding emm_offering
  past_offering h = rw (lt-ltb emm.period (current tr) h) refl

  pub mixed_offering : current tr ≤ emm.period → is_mixed (sections_seen emm.period tr) emm ≡ true →
      (emm_offering card n tr emm).fault ≡ Some (Fault.BadEmm n Emms.Mixed)
  unfolding emm_offering
  mixed_offering h mixed = rw (le-ltb emm.period (current tr) h, mixed) refl

  pub offering_is : current tr ≤ emm.period → is_mixed (sections_seen emm.period tr) emm ≡ false →
      key_if_none n emm (key_at card tr emm.period) (key_from card emm) ≡ emm_offering card n tr emm
  unfolding emm_offering
  offering_is h same = rw (le-ltb emm.period (current tr) h, same) refl

  pub takes_is : current tr ≤ emm.period →
      (is_none (key_at card tr emm.period) && not (is_none (key_from card emm))) ≡ takes_key card tr emm
  unfolding takes_key
  takes_is h = rw (le-leb (current tr) emm.period h) refl

module _ (card : CardFields) (n : ℕ) (tr : List Heard) (emm : Emm) (state : PeriodKeys) (is : IsEntitled card tr state)
    (h : current tr ≤ emm.period) where
  -- a section that says the same comes to what its key does
  pub offers_kept : (if state.period == emm.period then is_said_otherwise state.header emm else false) ≡ false →
      key_if_none n emm (key_kept state emm.period) (key_from card emm) ≡ emm_offering card n tr emm
  offers_kept same =
      ap (λ (o : Option (List ℕ)). key_if_none n emm o (key_from card emm)) (kept_is card tr state is emm.period h)
      ∙ offering_is card n tr emm h (sym (differs_is card tr state is emm h) ∙ same)

  pub good_offering : (if state.period == emm.period then is_said_otherwise state.header emm else false) ≡ false →
      (key_if_none n emm (key_kept state emm.period) (key_from card emm)).fault ≡ None →
      (emm_offering card n tr emm).fault ≡ None
  good_offering same good = ap (λ (o : Offering). o.fault) (sym (offers_kept same)) ∙ good

  pub bad_offering : (if state.period == emm.period then is_said_otherwise state.header emm else false) ≡ false →
      (fault : StreamFault) →
      (key_if_none n emm (key_kept state emm.period) (key_from card emm)).fault ≡ Some fault →
      (emm_offering card n tr emm).fault ≡ Some fault
  bad_offering same fault bad = ap (λ (o : Offering). o.fault) (sym (offers_kept same)) ∙ bad

module _ (card : CardFields) (tr : List Heard) (emm : Emm) (state : PeriodKeys) (is : IsEntitled card tr state)
    (h : current tr ≤ emm.period) where
  -- steps are taken where it takes a key alone
  pub steps_within : (before after most : ℕ) →
      after ≤ before + (if is_none (key_kept state emm.period) && not (is_none (key_from card emm)) then most else 0) →
      after ≤ before + (if takes_key card tr emm then most else 0)
  steps_within before after most within =
      subst (λ (b : Bool). after ≤ before + (if b then most else 0))
      (ap (λ (o : Option (List ℕ)). is_none o && not (is_none (key_from card emm)))
      (kept_is card tr state is emm.period h)
      ∙ takes_is card 0 tr emm h) within

-- a fault that is handed on is the one that came
pub failed : {X : Type 0} (result : Result X StreamFault) (fault : StreamFault) (due : Option StreamFault) →
    IsErr result →
    IsErrAnd result (λ other. other ≡ fault) → due ≡ Some fault →
    MatchResult result (λ _. due ≡ None) (λ other. due ≡ Some other)
failed (Ok x) fault due is same bad = absurd (grind (arith, is))
failed (Err other) fault due is same bad = bad ∙ ap Some (sym same)

-- a key that is kept is the first
pub known_first : (kept found : Option (List ℕ)) → is_some kept ≡ true → first_key kept found ≡ kept
known_first (Some key) found is = refl
known_first None found is = absurd (false≢true is)

-- then a section's key isn't judged
pub known_offers : (n : ℕ) (emm : Emm) (kept found : Option (List ℕ)) → is_some kept ≡ true →
    (key_if_none n emm kept found).fault ≡ None
known_offers n emm (Some key) found is = refl
known_offers n emm None found is = absurd (false≢true is)

-- the key that is kept of a period is known if the period is the current one
pub known_period : (state : PeriodKeys) (q : ℕ) → is_some (key_kept state q) ≡ true →
    (state.period ≡ q) × (key_kept state q ≡ state.key)
known_period state q known =
    let other : (¬ state.period ≡ q) → ⊥ =
    λ differ. false≢true (subst (λ (b : Bool). is_some (if b then state.key else None) ≡ true)
    (ne_eqb state.period q differ) known) in
    let same : state.period ≡ q = ⊎_elim
    (λ (l : state.period < q). absurd (other (λ e. absurd (omega (arith, l, e)))))
    (λ (g : q ≤ state.period). ⊎_elim
    (λ (l : q < state.period). absurd (other (λ e. absurd (omega (arith, l, e)))))
    (λ (h : state.period ≤ q). omega (arith, g, h))
    (cases_lt q state.period))
    (cases_lt state.period q) in
    (same, rw (eq-eqb state.period q same) refl)

-- a key that isn't known is none
pub unknown_none : (kept : Option (List ℕ)) → is_some kept ≡ false → kept ≡ None
unknown_none (Some key) not_known = absurd (true≢false not_known)
unknown_none None not_known = refl

-- the steps of a section's key
pub steps_of : (found : Option (List ℕ)) (before after most : ℕ) → after ≤ before + most →
    (found ≡ None → after ≡ before) → after ≤ before + (if not (is_none found) then most else 0)
steps_of None before after most within same = omega (arith, same refl)
steps_of (Some key) before after most within same = within

-- the steps of a section's key, if none was known
pub steps_counted : (kept found : Option (List ℕ)) (before after most : ℕ) → kept ≡ None → after ≤ before + most →
    (found ≡ None → after ≡ before) →
    after ≤ before + (if is_none kept && not (is_none found) then most else 0)
steps_counted kept None before after most none within same = rw none (omega (arith, same refl))
steps_counted kept (Some key) before after most none within same = rw none within

-- a section of a past period is right, whatever key comes with it
pub judged_past : (card : CardFields) (n : ℕ) (tr : List Heard) (emm : Emm) (key : Option (List ℕ)) →
    emm.period < current tr → IsEmmJudged card n tr emm key
judged_past card n tr emm key past = record {
  fault = past_offering card n tr emm past;
  unmixed = λ h. absurd (omega (arith, past, h));
  gives = λ h none. absurd (omega (arith, past, h));
}

some_key : (key : Option (List ℕ)) → is_some key ≡ true → key ≡ None → ⊥
some_key None some none = false≢true some
some_key (Some key) some none = cc

module _ (card : CardFields) (n : ℕ) (tr : List Heard) (emm : Emm) (state : PeriodKeys) (is : IsEntitled card tr state)
    (h : current tr ≤ emm.period)
    (same : (if state.period == emm.period then is_said_otherwise state.header emm else false) ≡ false) where
  -- so is one that says the same of a period whose key is known
  pub judged_known : (key : Option (List ℕ)) → is_some (key_kept state emm.period) ≡ true →
      IsEmmJudged card n tr emm key
  judged_known key known = record {
    fault = good_offering card n tr emm state is h same
        (known_offers n emm (key_kept state emm.period) (key_from card emm) known);
    unmixed = λ _. sym (differs_is card tr state is emm h) ∙ same;
    gives = λ _ none. absurd (some_key (key_kept state emm.period) known
        (kept_is card tr state is emm.period h ∙ none));
  }

  -- and one of another period, if its key is right
  pub judged_new : (key : Option (List ℕ)) → key_kept state emm.period ≡ None → key ≡ key_from card emm →
      (key_offering n emm (key_from card emm)).fault ≡ None → IsEmmJudged card n tr emm key
  judged_new key none gives good = record {
    fault = good_offering card n tr emm state is h same
        (ap (λ (o : Option (List ℕ)). (key_if_none n emm o (key_from card emm)).fault) none ∙ good);
    unmixed = λ _. sym (differs_is card tr state is emm h) ∙ same;
    gives = λ _ _. gives;
  }

  -- the fault of its key is its own
  pub key_faults : {X : Type 0} (result : Result X StreamFault) → key_kept state emm.period ≡ None →
      HasFault result (key_offering n emm (key_from card emm)).fault →
      HasFault result (emm_offering card n tr emm).fault
  key_faults (Ok x) none good = good_offering card n tr emm state is h same
      (ap (λ (o : Option (List ℕ)). (key_if_none n emm o (key_from card emm)).fault) none ∙ good)
  key_faults (Err fault) none bad = bad_offering card n tr emm state is h same fault
      (ap (λ (o : Option (List ℕ)). (key_if_none n emm o (key_from card emm)).fault) none ∙ bad)

-- the key that a section gives, if that isn't wrong, is judged
pub judged_key : (card : CardFields) (n : ℕ) (emm : Emm) (state : PeriodKeys)
    (key : Option (List ℕ)) (result : Result (Unit {0}) StreamFault) →
    ((tr : List Heard) → IsEntitled card tr state → current tr ≤ emm.period) →
    (if state.period == emm.period then is_said_otherwise state.header emm else false) ≡ false →
    key_kept state emm.period ≡ None → OnOk result (key ≡ key_from card emm) →
    HasFault result (key_offering n emm (key_from card emm)).fault →
    OnOk result ((tr : List Heard) → IsEntitled card tr state → IsEmmJudged card n tr emm key)
judged_key card n emm state key (Ok done) ahead same none gives good = λ tr is.
    judged_new card n tr emm state is (ahead tr is) same key none gives good
judged_key card n emm state key (Err fault) ahead same none gives bad = tt
