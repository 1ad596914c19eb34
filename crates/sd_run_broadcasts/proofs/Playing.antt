-- What the events of a field come to.
use Rattle.std.proofs.Common.{arith, ◌≡◌, ℕ, ◌<◌, ◌≤◌, Bool, true, false, [], refl, sym, ap, subst, ◌∙◌, inl, inr}
use Rattle.std.proofs.Common.{length, take, Ok, Err, Result}
use Rattle.std.specs.Prelude.{◌↔◌, reverse, slice_get, Option, Some, None, option_and_then}
use Rattle.std.proofs.lemmas.Option.{slice_get_within}
use Rattle.sd_spec.specs.Refused.{refusal_from}
use Rattle.sd_message.specs.declared.clear_fault.ClearFault.{ClearFault}
use Rattle.sd_spec.specs.declared.event.Event.{Event}
use Rattle.sd_spec.specs.Book.{sends}
use Rattle.sd_field.specs.declared.fault.FieldFault.{FieldFault}
use Rattle.sd_field.specs.declared.fault.FieldFault.TheVariants.{Clear}
use Rattle.sd_field.specs.Fields.{FieldValue, after_next, next_refusal, refusal_at, field_clear_packets}
use Rattle.sd_field.proofs.Refused.{goes_on_clear, stops_at_first}
use Rattle.sd_command_base.specs.declared.status.Status.{Status}
use Rattle.sd_run_broadcasts.specs.FieldPlayed.{EventOutcome, PlayOutcome, all_done}

-- The loop over the events.

abbrev moved_to : FieldValue → ℕ → FieldValue
moved_to v n = record { site = v.site; clear = v.clear; events = v.events; done = n; failed = None }

-- some events of a field are done, and none sent a clear packet that is refused
pub record IsAlong (start now : FieldValue) : Type 0 where
  pub same : now ≡ moved_to start now.done
  pub within : now.done ≤ length start.events
  pub clear : refusal_from start.site [] (field_clear_packets now) ≡ None

-- no event is done yet
pub none_done : (v : FieldValue) → v.done ≡ 0 → v.failed ≡ None → IsAlong v v
unfolding sends refusal_from
none_done v new calm = record {
  same = ap (λ (f : Option FieldFault). record {
    site = v.site;
    clear = v.clear;
    events = v.events;
    done = v.done;
    failed = f;
  }) calm;
  within = omega (arith, new);
  clear = ap (λ (n : ℕ). refusal_from v.site []
      (take (sends (length v.clear) (reverse (take n v.events))) v.clear)) new;
}

-- one event more is done
pub one_more_done : (start now next : FieldValue) → IsAlong start now → EventOutcome now next (Ok true) →
    IsAlong start next
one_more_done start now next along moves =
    let v : FieldValue = moved_to start now.done in
    let v_is : now ≡ v = along.same in
    let next_is : next ≡ after_next v = moves.0 ∙ ap after_next v_is in
    let inside : now.done < length start.events =
    subst (λ (w : FieldValue). now.done < length w.events) v_is moves.1 in
    subst (IsAlong start) (sym next_is) (record {
      same = refl;
      within = omega (arith, inside);
      clear = goes_on_clear v inside (subst (λ (w : FieldValue). refusal_from start.site [] (field_clear_packets w)
          ≡ None) v_is
          along.clear) (subst (λ (w : FieldValue). next_refusal w ≡ None) v_is moves.2);
    })

-- none is left
pub played_out : (start now next : FieldValue) → IsAlong start now → EventOutcome now next (Ok false) →
    PlayOutcome start next (Ok tt)
played_out start now next along moves =
    let v : FieldValue = moved_to start now.done in
    let v_is : now ≡ v = along.same in
    let end : now.done ≡ length start.events =
    subst (λ (w : FieldValue). now.done ≡ length w.events) v_is moves.1 in
    let is : now ≡ all_done start = v_is ∙ ap (moved_to start) end in
    (moves.0 ∙ is, subst (λ (w : FieldValue). refusal_from start.site [] (field_clear_packets w) ≡ None) is along.clear)

-- the next one stops the field
pub played_short : (start now next : FieldValue) (status : Status) → IsAlong start now →
    EventOutcome now next (Err status) → PlayOutcome start next (Err status)
played_short start now next status along (inr out) = inr out
played_short start now next status along (inl (fault, refused, is)) =
    let v : FieldValue = moved_to start now.done in
    let v_is : now ≡ v = along.same in
    let here : next_refusal v ≡ Some fault =
    subst (λ (w : FieldValue). next_refusal w ≡ Some fault) v_is refused in
    inl (
      fault,
      stops_at_first v fault (length start.events) (subst (λ (w : FieldValue).
          refusal_from start.site [] (field_clear_packets w) ≡ None) v_is along.clear) here (inside v fault here),
      is,
    )
  where
    by_event : (v : FieldValue) (fault : ClearFault) (event : Option Event) → slice_get v.events v.done ≡ event →
        option_and_then (refusal_at v) event ≡ Some fault → v.done < length v.events
    by_event v fault None is refused = absurd cc
    by_event v fault (Some event) is refused = slice_get_within v.events v.done event is

    inside : (v : FieldValue) (fault : ClearFault) → next_refusal v ≡ Some fault → v.done < length v.events
    inside v fault refused = by_event v fault (slice_get v.events v.done) refl refused

-- One step.

-- a step that was done sends no packet that is refused
none_where : (found : Option ClearFault) (more : Bool) (result : Result Bool FieldFault) → result ≡ Ok more →
    ((fault : ClearFault) → found ≡ Some fault → result ≡ Err (Clear fault)) → found ≡ None
none_where None more result is h = refl
none_where (Some fault) more result is h = absurd (let wrong = sym is ∙ h fault refl in cc)

pub moved_on : (before now : FieldValue) (more : Bool) (result : Result Bool FieldFault) → result ≡ Ok more →
    before.failed ≡ None →
    (result ≡ Ok true → (before.done < length before.events) × (before.failed ≡ None) × (now ≡ after_next before)) →
    (result ≡ Ok false ↔ ((before.failed ≡ None) × (before.done ≡ length before.events))) →
    (result ≡ Ok false → now ≡ before) →
    ((fault : ClearFault) → before.failed ≡ None →
    (result ≡ Err (Clear fault)) ↔ (next_refusal before ≡ Some fault)) → EventOutcome before now (Ok more)
moved_on before now true result is calm done ends idle clear =
    let d = done is in
    (d.2, d.0, none_where (next_refusal before) true result is (λ fault found. (clear fault calm).1 found))
moved_on before now false result is calm done ends idle clear = (idle is, (ends.0 is).1)
