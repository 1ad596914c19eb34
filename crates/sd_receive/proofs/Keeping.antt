-- What is kept, when one thing more is heard.
use Rattle.std.proofs.Common.{◌≡◌, ℕ, zero, suc, ◌<◌, ◌≤◌, ◌^◌, ◌==◌, ◌&&◌, Bool, true, false, List, [], ◌∷◌}
use Rattle.std.proofs.Common.{length}
use Rattle.std.proofs.Common.{refl, ap, ⊎_elim, subst, ◌∙◌, sym, arith, eq-eqb, get_or, append-nil}
use Rattle.std.specs.Prelude.{nat_lt, find, filter, is_none, not, bytes_eq, Option, Some, None, slice_set, replicate}
use Rattle.std.specs.List.{list_any}
use Rattle.std.proofs.lemmas.List.{get_or-set_other}
use Rattle.std.proofs.lemmas.Grind.{get_or-set_at}
use Rattle.std.proofs.lemmas.Slice.Eq.{bytes_eq-Decides}
use Rattle.std.proofs.lemmas.List.Elements.{filter-append}
use Rattle.std.proofs.lemmas.List.Folds.{list_any-append, list_any_at}
use Rattle.std.proofs.lemmas.Bool.{le-leb, le-ltb, eqb-true, ne_eqb, and_parts, cases_Bool, cases_eq}
use Rattle.std.proofs.lemmas.Bool.{not-false, both_ways}
use Rattle.sd_base.proofs.Bools.{or_true}
use Rattle.sd_base.proofs.Lists.{unmarked}
use Rattle.sd_site_cards.specs.CardFields.{CardFields}
use Rattle.sd_message.specs.declared.emm.Emm.{Emm}
use Rattle.sd_message.specs.EcmParts.{Message}
use Rattle.sd_message.specs.declared.ecm_part.EcmPart.{EcmPart}
use Rattle.sd_spec.specs.Heard.{Heard, Dropped, Entitles, Controls, BadEmm, BadEcm, Other}
use Rattle.sd_spec.specs.Stretches.{completes, messages, current, sections_seen}
use Rattle.sd_spec.specs.Keys.{key_in, key_at, key_from, first_key}
use Rattle.sd_spec.specs.Offered.{says_same, is_mixed}
use Rattle.sd_spec.specs.Ending.{periods_told, is_unkeyed, are_all}
use Rattle.sd_receive.specs.declared.emm.header.PeriodHeader.{PeriodHeader}
use Rattle.sd_receive.specs.declared.emm.PeriodKeys.{PeriodKeys}
use Rattle.sd_receive.specs.PeriodKeys.{says_in, says_of_newest_emm, SayAlike, has_index, is_told_revoked, told_below}
use Rattle.sd_receive.specs.PeriodKeys.{is_in_turn}
use Rattle.sd_receive.specs.PeriodKeys.{IsStateAt, IsEntitled, tells_nothing}
use Rattle.sd_receive.proofs.Periods.{past_stands, other_period, ahead_none, one_told, none_told, same_below}
use Rattle.sd_receive.proofs.Periods.{told_before, not_told}

none_is : (o : Option Message) → is_none o ≡ true → o ≡ None
none_is None h = refl
none_is (Some message) h = absurd (grind (arith, h))

-- a section of the current period, or of a later one, is seen
seen_more : (q : ℕ) (emm : Emm) (tr : List Heard) → emm.period ≡ q → current tr ≤ q →
    sections_seen q (Entitles emm ∷ tr) ≡ emm ∷ sections_seen q tr
unfolding sections_seen
seen_more q emm tr is h = rw (eq-eqb emm.period q is, le-leb (current tr) q h) refl

now_at : (emm : Emm) (tr : List Heard) → current tr ≤ emm.period → current (Entitles emm ∷ tr) ≡ emm.period
unfolding current
now_at emm tr h = omega (arith, h)

same_says : (a b : Emm) → says_same a b ≡ true → says_in a ≡ says_in b
same_says a b h =
    let outer = and_parts (a.sets == b.sets) ((a.sections == b.sections) && bytes_eq a.check b.check) h in
    let inner = and_parts (a.sections == b.sections) (bytes_eq a.check b.check) outer.1 in
    let sets : a.sets ≡ b.sets = eqb-true a.sets b.sets outer.0 in
    let sections : a.sections ≡ b.sections = eqb-true a.sections b.sections inner.0 in
    let check : a.check ≡ b.check = (bytes_eq-Decides a.check b.check).0 inner.1 in
    rw (sets, sections, check) refl

-- where none has the property, one of them doesn't
none_has : (P : Emm → Bool) (xs : List Emm) (k : ℕ) (d : Emm) → list_any P xs ≡ false → k < length xs →
    P (get_or xs k d) ≡ false
none_has P xs k d none h =
    ⊎_elim (λ (is : P (get_or xs k d) ≡ true). absurd (both_ways (list_any P xs) none (list_any_at P xs k d h is)))
    (λ (is : P (get_or xs k d) ≡ false). is) (cases_Bool (P (get_or xs k d)))

-- a section that isn't mixed says what those before it say
alike_more : (header : Option PeriodHeader) (sections : List Emm) (emm : Emm) → SayAlike header sections →
    is_mixed sections emm ≡ false →
    emm.index < emm.sections → emm.sections < 2 ^ 16 → SayAlike (Some (says_in emm)) (emm ∷ sections)
alike_more header sections emm alike same inside short zero d h = (refl, (inside, short))
alike_more header sections emm alike same inside short (suc k) d h =
    let other : Emm = get_or sections k d in
    let there : k < length sections = omega (arith, h) in
    let says_so : says_same other emm ≡ true = not-false (says_same other emm)
    (none_has (λ (o : Emm). not (says_same o emm)) sections k d same there) in
    (ap Some (sym (same_says other emm says_so)), (alike k d there).1)

-- its mark is set
marked : (marks : List Bool) (sections : List Emm) (emm : Emm) (x : ℕ) → x < length marks →
    get_or marks x false ≡ has_index x sections →
    get_or (slice_set marks emm.index true) x false ≡ has_index x (emm ∷ sections)
marked marks sections emm x small before =
    ⊎_elim
    (λ (is : emm.index ≡ x). rw (eq-eqb emm.index x is) (get_or-set_at marks emm.index x true false (sym is) (omega
    (arith, is, small))))
    (λ (other : emm.index ≡ x → ⊥). rw (ne_eqb emm.index x other)
    (get_or-set_other marks emm.index x true false (λ (is : x ≡ emm.index). other (sym is)) ∙ before))
    (cases_eq emm.index x)

-- what comes that leaves the sections of the periods below q leaves the first of them that is revoked, and that has
-- no key
module _ (card : CardFields) (q : ℕ) (heard : Heard) (tr : List Heard) (told : told_below q (heard ∷ tr)
    ≡ told_below q tr)
    (sections : (p : ℕ) → p < q → sections_seen p (heard ∷ tr) ≡ sections_seen p tr) where
  first_revoked : find (is_told_revoked card (heard ∷ tr)) (told_below q (heard ∷ tr))
      ≡ find (is_told_revoked card tr) (told_below q tr)
  unfolding told_below
  first_revoked =
      ap (find (is_told_revoked card (heard ∷ tr))) told
      ∙ same_below (is_told_revoked card (heard ∷ tr)) (is_told_revoked card tr) q (periods_told tr)
      (λ p h. ap (λ (s : List Emm). is_none (key_in card s) && are_all s) (sections p h))

  first_unkeyed : find (is_unkeyed card (heard ∷ tr)) (told_below q (heard ∷ tr))
      ≡ find (is_unkeyed card tr) (told_below q tr)
  unfolding told_below
  first_unkeyed =
      ap (find (is_unkeyed card (heard ∷ tr))) told
      ∙ same_below (is_unkeyed card (heard ∷ tr)) (is_unkeyed card tr) q (periods_told tr)
      (λ p h. ap (λ (s : List Emm). is_none (key_in card s)) (sections p h))

told_same : (q : ℕ) (heard : Heard) (tr : List Heard) → completes tr heard ≡ None →
    told_below q (heard ∷ tr) ≡ told_below q tr
unfolding told_below
told_same q heard tr none = ap (filter (λ p. nat_lt p q)) (none_told heard tr none)

turn_kept : (heard : Heard) (tr : List Heard) → completes tr heard ≡ None → is_in_turn tr ≡ true →
    is_in_turn (heard ∷ tr) ≡ true
unfolding is_in_turn
turn_kept heard tr none turn = rw (none, turn) refl

-- what completes no message and leaves the sections up to the current period leaves what is kept
stays : (card : CardFields) (heard : Heard) (tr : List Heard) (state : PeriodKeys) → completes tr heard ≡ None →
    current (heard ∷ tr) ≡ current tr → ((p : ℕ) → p ≤ current tr → sections_seen p (heard ∷ tr) ≡ sections_seen p tr) →
    IsEntitled card tr state → IsEntitled card (heard ∷ tr) state
stays card heard tr state none same sections is =
    let q : ℕ = current tr in
    let here : sections_seen q (heard ∷ tr) ≡ sections_seen q tr = sections q (omega arith) in
    let below : told_below q (heard ∷ tr) ≡ told_below q tr = told_same q heard tr none in
    let past : (p : ℕ) → p < q → sections_seen p (heard ∷ tr) ≡ sections_seen p tr =
    λ p h. sections p (omega (arith, h)) in
    subst (λ (n : ℕ). IsStateAt card (heard ∷ tr) n state) (sym same) (record {
      period = is.period;
      header = is.header ∙ ap says_of_newest_emm (sym here);
      alike = subst (SayAlike state.header) (sym here) is.alike;
      marks = λ x h. is.marks x h ∙ ap (has_index x) (sym here);
      told = is.told ∙ ap (list_any (λ p. p == q)) (sym (none_told heard tr none));
      key = is.key ∙ ap (key_in card) (sym here);
      revoked = is.revoked ∙ sym (first_revoked card q heard tr below past);
      unkeyed = is.unkeyed ∙ sym (first_unkeyed card q heard tr below past);
      in_turn = turn_kept heard tr none is.in_turn;
    })

untold : (part : EcmPart) (tr : List Heard) → completes tr (Controls part) ≡ None →
    current (Controls part ∷ tr) ≡ current tr
unfolding current
untold part tr none = rw none (omega arith)

pub nothing_told : (card : CardFields) (heard : Heard) (tr : List Heard) (state : PeriodKeys) →
    tells_nothing tr heard ≡ true →
    IsEntitled card tr state → IsEntitled card (heard ∷ tr) state
unfolding sections_seen current
nothing_told card Dropped tr state h is = stays card Dropped tr state refl (omega arith) (λ p g. refl) is
nothing_told card (Entitles emm) tr state h is = absurd (grind (arith, h))
nothing_told card (Controls part) tr state h is =
    let none : completes tr (Controls part) ≡ None = none_is (completes tr (Controls part)) h in
    stays card (Controls part) tr state none (untold part tr none) (λ p g. refl) is
nothing_told card (BadEmm fault) tr state h is = stays card (BadEmm fault) tr state refl (omega arith) (λ p g. refl) is
nothing_told card (BadEcm fault) tr state h is = stays card (BadEcm fault) tr state refl (omega arith) (λ p g. refl) is
nothing_told card (Other n packet) tr state h is = stays card (Other n packet) tr state refl (omega arith)
    (λ p g. refl) is

past_at : (emm : Emm) (tr : List Heard) → emm.period < current tr → current (Entitles emm ∷ tr) ≡ current tr
unfolding current
past_at emm tr h = omega (arith, h)

past_by : (emm : Emm) (tr : List Heard) (p : ℕ) (b : Bool) → (emm.period == p) ≡ b → emm.period < current tr →
    sections_seen p (Entitles emm ∷ tr) ≡ sections_seen p tr
unfolding sections_seen
past_by emm tr p true is h =
    let same : p ≡ emm.period = sym (eqb-true emm.period p is) in
    past_stands p (Entitles emm) tr (omega (arith, same, h))
past_by emm tr p false is h = other_period p emm tr is

past_seen : (emm : Emm) (tr : List Heard) (p : ℕ) → emm.period < current tr → sections_seen p (Entitles emm ∷ tr)
    ≡ sections_seen p tr
past_seen emm tr p h = past_by emm tr p (emm.period == p) refl h

-- a section of a past period leaves what is kept
pub past_section : (card : CardFields) (emm : Emm) (tr : List Heard) (state : PeriodKeys) → emm.period < current tr →
    IsEntitled card tr state → IsEntitled card (Entitles emm ∷ tr) state
past_section card emm tr state h is =
    stays card (Entitles emm) tr state refl (past_at emm tr h) (λ p g. past_seen emm tr p h) is

-- a section that counts is kept
pub counted : (card : CardFields) (emm : Emm) (tr : List Heard) (s t : PeriodKeys) → IsStateAt card tr emm.period s →
    current tr ≤ emm.period → is_mixed (sections_seen emm.period tr) emm ≡ false → emm.index < emm.sections →
    emm.sections < 2 ^ 16 → length s.marks.items ≡ 65536 →
    t.period ≡ s.period → t.header ≡ Some (says_in emm) → t.marks.items ≡ slice_set s.marks.items emm.index true →
    t.told ≡ s.told → t.key ≡ first_key (key_at card tr emm.period) (key_from card emm) → t.revoked ≡ s.revoked →
    t.unkeyed ≡ s.unkeyed → IsEntitled card (Entitles emm ∷ tr) t
unfolding key_in
counted card emm tr s t is h same inside short long period header marks told key revoked unkeyed =
    let q : ℕ = emm.period in
    let one : Heard = Entitles emm in
    let here : sections_seen q (one ∷ tr) ≡ emm ∷ sections_seen q tr = seen_more q emm tr refl h in
    let below : told_below q (one ∷ tr) ≡ told_below q tr = told_same q one tr refl in
    let past : (p : ℕ) → p < q → sections_seen p (one ∷ tr) ≡ sections_seen p tr =
    λ p g. other_period p emm tr (ne_eqb q p (λ (e : q ≡ p). absurd (omega (arith, e, g)))) in
    subst (λ (n : ℕ). IsStateAt card (one ∷ tr) n t) (sym (now_at emm tr h)) (record {
      period = period ∙ is.period;
      header = header ∙ ap says_of_newest_emm (sym here);
      alike = subst (SayAlike t.header) (sym here) (subst (λ (w : Option PeriodHeader). SayAlike w
          (emm ∷ sections_seen q tr))
          (sym header)
          (alike_more s.header (sections_seen q tr) emm is.alike same inside short));
      marks = λ x g. ap (λ (l : List Bool). get_or l x false) marks
          ∙ (marked s.marks.items (sections_seen q tr) emm x (omega (arith, long, g)) (is.marks x g)
          ∙ ap (has_index x) (sym here));
      told = told ∙ (is.told ∙ ap (list_any (λ p. p == q)) (sym (none_told one tr refl)));
      key = key ∙ ap (key_in card) (sym here);
      revoked = revoked ∙ (is.revoked ∙ sym (first_revoked card q one tr below past));
      unkeyed = unkeyed ∙ (is.unkeyed ∙ sym (first_unkeyed card q one tr below past));
      in_turn = turn_kept one tr refl is.in_turn;
    })

told_at : (heard : Heard) (tr : List Heard) (message : Message) → completes tr heard ≡ Some message →
    told_below message.period (heard ∷ tr) ≡ told_below message.period tr
unfolding told_below
told_at heard tr message done =
    let q : ℕ = message.period in
    rw (
      one_told heard tr message done,
      filter-append (λ p. nat_lt p q) (periods_told tr) (q ∷ []),
      le-ltb q q (omega arith),
      append-nil (filter (λ p. nat_lt p q) (periods_told tr)),
    ) refl

has_told : (heard : Heard) (tr : List Heard) (message : Message) → completes tr heard ≡ Some message →
    list_any (λ p. p == message.period) (periods_told (heard ∷ tr)) ≡ true
has_told heard tr message done =
    let q : ℕ = message.period in
    rw (one_told heard tr message done, list_any-append (λ p. p == q) (periods_told tr) (q ∷ []), eq-eqb q q refl)
    (or_true (list_any (λ p. p == q) (periods_told tr)))

now_told : (part : EcmPart) (tr : List Heard) (message : Message) → completes tr (Controls part) ≡ Some message →
    current tr ≤ message.period → current (Controls part ∷ tr) ≡ message.period
unfolding current
now_told part tr message done h = rw done (omega (arith, h))

turn_told : (heard : Heard) (tr : List Heard) (message : Message) → completes tr heard ≡ Some message →
    current tr ≤ message.period → is_in_turn tr ≡ true → is_in_turn (heard ∷ tr) ≡ true
unfolding is_in_turn
turn_told heard tr message done h turn = rw (done, le-leb (current tr) message.period h, turn) refl

-- a complete message of the period is kept
pub message_told : (card : CardFields) (part : EcmPart) (message : Message) (tr : List Heard) (s t : PeriodKeys) →
    completes tr (Controls part) ≡ Some message → IsStateAt card tr message.period s → current tr ≤ message.period →
    t.period ≡ s.period → t.header ≡ s.header → t.marks.items ≡ s.marks.items → t.told ≡ true → t.key ≡ s.key →
    t.revoked ≡ s.revoked → t.unkeyed ≡ s.unkeyed → IsEntitled card (Controls part ∷ tr) t
unfolding sections_seen
message_told card part message tr s t done is h period header marks told key revoked unkeyed =
    let q : ℕ = message.period in
    let one : Heard = Controls part in
    let below : told_below q (one ∷ tr) ≡ told_below q tr = told_at one tr message done in
    subst (λ (n : ℕ). IsStateAt card (one ∷ tr) n t) (sym (now_told part tr message done h)) (record {
      period = period ∙ is.period;
      header = header ∙ is.header;
      alike = subst (λ (w : Option PeriodHeader). SayAlike w (sections_seen q tr)) (sym header) is.alike;
      marks = λ x g. ap (λ (l : List Bool). get_or l x false) marks ∙ is.marks x g;
      told = told ∙ sym (has_told one tr message done);
      key = key ∙ is.key;
      revoked = revoked ∙ (is.revoked ∙ sym (first_revoked card q one tr below (λ p g. refl)));
      unkeyed = unkeyed ∙ (is.unkeyed ∙ sym (first_unkeyed card q one tr below (λ p g. refl)));
      in_turn = turn_told one tr message done h is.in_turn;
    })

-- a later period begins: nothing of it was seen or told, and what the one before it came to is told of all periods
-- so far
pub moved : (card : CardFields) (q : ℕ) (tr : List Heard) (s t : PeriodKeys) → IsEntitled card tr s → current tr < q →
    t.period ≡ q → t.header ≡ None → ((x : ℕ) → x < 2 ^ 16 → get_or t.marks.items x false ≡ false) → t.told ≡ false →
    t.key ≡ None →
    t.revoked ≡ find (is_told_revoked card tr) (periods_told tr) →
    t.unkeyed ≡ find (is_unkeyed card tr) (periods_told tr) →
    IsStateAt card tr q t
unfolding key_in
moved card q tr s t is h period header marks told key revoked unkeyed =
    let here : sections_seen q tr ≡ [] = ahead_none q tr h in
    record {
      period = period;
      header = header ∙ ap says_of_newest_emm (sym here);
      alike = subst (SayAlike t.header) (sym here) (λ k d g. absurd (omega (arith, g)));
      marks = λ x g. marks x g ∙ ap (has_index x) (sym here);
      told = told ∙ sym (not_told q tr h);
      key = key ∙ ap (key_in card) (sym here);
      revoked = revoked ∙ ap (find (is_told_revoked card tr)) (sym (told_before q tr h));
      unkeyed = unkeyed ∙ ap (find (is_unkeyed card tr)) (sym (told_before q tr h));
      in_turn = is.in_turn;
    }

-- no mark of so many that are not set is
pub none_marked : (n : ℕ) (marks : List Bool) → marks ≡ replicate n false → (x : ℕ) → x < 2 ^ 16 →
    get_or marks x false ≡ false
none_marked n marks is x g = ap (λ (l : List Bool). get_or l x false) is ∙ unmarked n x

-- before anything was heard nothing is kept
pub first : (card : CardFields) (t : PeriodKeys) → t.period ≡ 0 → t.header ≡ None →
    ((x : ℕ) → x < 2 ^ 16 → get_or t.marks.items x false ≡ false) → t.told ≡ false →
    t.key ≡ None → t.revoked ≡ None → t.unkeyed ≡ None → IsEntitled card [] t
unfolding current sections_seen key_in periods_told messages told_below is_in_turn
first card t period header marks told key revoked unkeyed = record {
  period = period;
  header = header;
  alike = λ k d g. absurd (omega (arith, g));
  marks = marks;
  told = told;
  key = key;
  revoked = revoked;
  unkeyed = unkeyed;
  in_turn = refl;
}
