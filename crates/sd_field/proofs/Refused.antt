-- Which clear packet of those that a field's events send is the first that is refused.
use Rattle.std.proofs.Common.{arith, ◌≡◌, ◌∙◌, ℕ, zero, suc, ◌+◌, ◌-◌, ◌<◌, List, [], ◌∷◌, ◌++◌, refl, ap, sym, subst}
use Rattle.std.proofs.Common.{append-nil, append_assoc, inl, inr, length, take}
use Rattle.std.specs.Prelude.{◌↔◌, Option, None, Some, drop, get_or, option_and_then, reverse, slice_get}
use Rattle.std.proofs.Math.Seq.{take-add}
use Rattle.std.proofs.lemmas.Bool.{cases_lt}
use Rattle.std.proofs.lemmas.List.{reverse-append}
use Rattle.std.proofs.lemmas.Option.{slice_get-get_or}
use Rattle.sd_base.proofs.Lists.{both_none}
use Rattle.sd_site_cards.specs.SiteFields.{SiteFields}
use Rattle.sd_spec.specs.Refused.{IsClear, refusal_from, refusal_of}
use Rattle.sd_message.specs.declared.clear_fault.ClearFault.{ClearFault}
use Rattle.sd_spec.specs.declared.event.Event.{Event}
use Rattle.sd_spec.specs.declared.event.Event.TheVariants.{Lose, Off, Offer, On, Revoke, Send, Subscribe}
use Rattle.sd_spec.specs.Book.{sends}
use Rattle.sd_spec.proofs.Sends.{sends_rise}
use Rattle.sd_field.specs.Fields.{FieldValue, after_next, done_to, next_event, next_refusal, past_of, refusal_at}
use Rattle.sd_field.specs.Fields.{sends_of, field_clear_packets}
use Rattle.sd_field.proofs.Fields.{none_refused, none_to_send, one_refused, one_to_send, quiet_taken}

-- each packet of a front of which none is refused isn't
pub each_unrefused : (site : SiteFields) (start xs : List (List ℕ)) (k j : ℕ) →
    refusal_from site start (take k xs) ≡ None → j < k → j < length xs →
    refusal_of site (start ++ take j xs) (get_or xs j []) ≡ None
unfolding refusal_from
each_unrefused site start xs zero j none low within = absurd (omega (arith, low))
each_unrefused site start [] (suc k) j none low within = absurd (omega (arith, within))
each_unrefused site start (x ∷ xs) (suc k) zero none low within =
    let both = both_none (refusal_of site start x) (refusal_from site (start ++ x ∷ []) (take k xs)) none in
    ap (λ (before : List (List ℕ)). refusal_of site before x) (append-nil start) ∙ both.0
each_unrefused site start (x ∷ xs) (suc k) (suc j) none low within =
    let both = both_none (refusal_of site start x) (refusal_from site (start ++ x ∷ []) (take k xs)) none in
    ap (λ (before : List (List ℕ)). refusal_of site before (get_or xs j []))
    (sym (append_assoc start (x ∷ []) (take j xs)))
    ∙ each_unrefused site (start ++ x ∷ []) xs k j both.1 (omega (arith, low)) (omega (arith, within))

-- and a front of which each isn't refused has none that is
pub none_unrefused : (site : SiteFields) (start xs : List (List ℕ)) (k : ℕ) →
    ((j : ℕ) → j < k → j < length xs → refusal_of site (start ++ take j xs) (get_or xs j []) ≡ None) →
    refusal_from site start (take k xs) ≡ None
unfolding refusal_from
none_unrefused site start xs zero each = refl
none_unrefused site start [] (suc k) each = refl
none_unrefused site start (x ∷ xs) (suc k) each =
    let first : refusal_of site start x ≡ None =
    ap (λ (before : List (List ℕ)). refusal_of site before x) (sym (append-nil start))
    ∙ each 0 (omega arith) (omega arith) in
    let rest : refusal_from site (start ++ x ∷ []) (take k xs) ≡ None =
    none_unrefused site (start ++ x ∷ []) xs k
    (λ j low within.
    ap (λ (before : List (List ℕ)). refusal_of site before (get_or xs j []))
    (append_assoc start (x ∷ []) (take j xs))
    ∙ each (suc j) (omega (arith, low)) (omega (arith, within))) in
    rw first rest

pub refused_in_front : (site : SiteFields) (clear : List (List ℕ)) (k : ℕ) → IsClear site (take k clear)
    ↔ ((j : ℕ) → j < k → j < length clear → refusal_of site (take j clear) (get_or clear j []) ≡ None)
refused_in_front site clear k =
    (λ none j low within. each_unrefused site [] clear k j none low within, λ each. none_unrefused site [] clear k each)

-- the first refused packet decides
pub first_refused : (site : SiteFields) (start xs : List (List ℕ)) (k n : ℕ) (fault : ClearFault) →
    refusal_from site start (take k xs) ≡ None → k < length xs → k < n →
    refusal_of site (start ++ take k xs) (get_or xs k []) ≡ Some fault →
    refusal_from site start (take n xs) ≡ Some fault
unfolding refusal_from
first_refused site start [] k n fault none within more found = absurd (omega (arith, within))
first_refused site start (x ∷ xs) k zero fault none within more found = absurd (omega (arith, more))
first_refused site start (x ∷ xs) zero (suc n) fault none within more found =
    let here : refusal_of site start x ≡ Some fault =
    subst (λ (before : List (List ℕ)). refusal_of site before x ≡ Some fault) (append-nil start) found in
    rw here refl
first_refused site start (x ∷ xs) (suc k) (suc n) fault none within more found =
    let both = both_none (refusal_of site start x) (refusal_from site (start ++ x ∷ []) (take k xs)) none in
    let rest : refusal_from site (start ++ x ∷ []) (take n xs) ≡ Some fault =
    first_refused site (start ++ x ∷ []) xs k n fault both.1 (omega (arith, within)) (omega (arith, more))
    (subst (λ (before : List (List ℕ)). refusal_of site before (get_or xs k []) ≡ Some fault)
    (sym (append_assoc start (x ∷ []) (take k xs))) found) in
    rw both.0 rest

-- what is refused next is the clear packet of a send
record IsRefused (v : FieldValue) (fault : ClearFault) : Type 0 where
  next : next_event v ≡ Some Send
  left : sends_of v < length v.clear
  found : refusal_of v.site (field_clear_packets v) (get_or v.clear (sends_of v) []) ≡ Some fault

refused_next : (v : FieldValue) (fault : ClearFault) → next_refusal v ≡ Some fault → IsRefused v fault
refused_next v fault found = by_event (next_event v) refl
  where
    quiet : (event : Event) → next_event v ≡ Some event → refusal_at v event ≡ None → IsRefused v fault
    quiet event is none =
        absurd (let no = sym (ap (option_and_then (refusal_at v)) is ∙ none) ∙ found in cc)

    by_event : (next : Option Event) → next_event v ≡ next → IsRefused v fault
    by_event None is = absurd (let no = sym (ap (option_and_then (refusal_at v)) is) ∙ found in cc)
    by_event (Some (Subscribe u)) is = quiet (Subscribe u) is refl
    by_event (Some (Revoke u)) is = quiet (Revoke u) is refl
    by_event (Some (Offer u)) is = quiet (Offer u) is refl
    by_event (Some (Lose u)) is = quiet (Lose u) is refl
    by_event (Some (Off u)) is = quiet (Off u) is refl
    by_event (Some (On u)) is = quiet (On u) is refl
    by_event (Some Send) is = elim (cases_lt (sends_of v) (length v.clear)) [
      | inl left ↦ record { next = is; left = left; found = sym (one_refused v is left) ∙ found }
      | inr end ↦ absurd (let no = sym (none_refused v is end) ∙ found in cc)
    ]

-- a send of which a packet is left raises what is sent, however many events are done after it
sent_later : (v : FieldValue) (done : ℕ) → next_event v ≡ Some Send → sends_of v < length v.clear → v.done < done →
    sends_of v < sends_of (done_to done v)
sent_later v done is left more =
    let n : ℕ = done - (v.done + 1) in
    let whole : v.done + 1 + n ≡ done = omega (arith, more) in
    let later : List Event = take n (drop (v.done + 1) v.events) in
    let parts : past_of (done_to done v) ≡ reverse later ++ past_of (after_next v) =
    ap (λ (k : ℕ). reverse (take k v.events)) (sym whole)
    ∙ (ap reverse (take-add (v.done + 1) n v.events) ∙ reverse-append (take (v.done + 1) v.events) later) in
    let rises = sends_rise (length v.clear) (reverse later) (past_of (after_next v)) in
    omega (arith, one_to_send v is left, rises, ap (sends (length v.clear)) parts)

-- the field stops at the first clear packet that is refused among those that its events send
pub stops_at_first : (v : FieldValue) (fault : ClearFault) (done : ℕ) → IsClear v.site (field_clear_packets v) →
    next_refusal v ≡ Some fault → v.done < done → refusal_from v.site [] (field_clear_packets (done_to done v))
    ≡ Some fault
stops_at_first v fault done clear found more =
    let refused = refused_next v fault found in
    first_refused v.site [] v.clear (sends_of v) (sends_of (done_to done v)) fault clear refused.left
    (sent_later v done refused.next refused.left more) refused.found

-- and goes on if the next isn't refused
pub goes_on_clear : (v : FieldValue) → v.done < length v.events → IsClear v.site (field_clear_packets v) →
    next_refusal v ≡ None →
    IsClear v.site (field_clear_packets (after_next v))
goes_on_clear v inside clear none =
    by_event (get_or v.events v.done Send) (slice_get-get_or v.events v.done Send inside)
  where
    quiet : (event : Event) → next_event v ≡ Some event → field_clear_packets (after_next v) ≡ field_clear_packets v →
        IsClear v.site (field_clear_packets (after_next v))
    quiet event is same = subst (IsClear v.site) (sym same) clear

    sent : next_event v ≡ Some Send → sends_of v < length v.clear → IsClear v.site (field_clear_packets (after_next v))
    sent is left =
        subst (λ (k : ℕ). IsClear v.site (take k v.clear)) (sym (one_to_send v is left))
        (none_unrefused v.site [] v.clear (suc (sends_of v))
        (λ j low within. elim (cases_lt j (sends_of v)) [
          | inl before ↦ each_unrefused v.site [] v.clear (sends_of v) j clear before within
          | inr after ↦
              let last : sends_of v ≡ j = omega (arith, low, after) in
              subst (λ (i : ℕ). refusal_of v.site (take i v.clear) (get_or v.clear i []) ≡ None) last
              (sym (one_refused v is left) ∙ none)
        ]))

    by_event : (event : Event) → next_event v ≡ Some event → IsClear v.site (field_clear_packets (after_next v))
    by_event (Subscribe u) is = quiet (Subscribe u) is (quiet_taken v (Subscribe u) is refl)
    by_event (Revoke u) is = quiet (Revoke u) is (quiet_taken v (Revoke u) is refl)
    by_event (Offer u) is = quiet (Offer u) is (quiet_taken v (Offer u) is refl)
    by_event (Lose u) is = quiet (Lose u) is (quiet_taken v (Lose u) is refl)
    by_event (Off u) is = quiet (Off u) is (quiet_taken v (Off u) is refl)
    by_event (On u) is = quiet (On u) is (quiet_taken v (On u) is refl)
    by_event Send is = elim (cases_lt (sends_of v) (length v.clear)) [
      | inl left ↦ sent is left
      | inr end ↦ quiet Send is (ap (λ (k : ℕ). take k v.clear) (none_to_send v is end))
    ]

-- once all events are done none is refused
pub done_unrefused : (v : FieldValue) → v.done ≡ length v.events → next_refusal v ≡ None
done_unrefused v end = ap (option_and_then (refusal_at v)) (past_end v.events v.done end)
  where
    past_end : (xs : List Event) (k : ℕ) → k ≡ length xs → slice_get xs k ≡ None
    past_end [] k end = refl
    past_end (x ∷ xs) zero end = absurd (omega (arith, end))
    past_end (x ∷ xs) (suc k) end = past_end xs k (omega (arith, end))
