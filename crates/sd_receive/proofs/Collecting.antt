-- What a part comes to after what was heard.
use Rattle.std.proofs.Common.{◌≡◌, ◌⊎◌, inl, inr, ℕ, ◌+◌, List, [], ◌∷◌, refl, sym, ap, subst, ◌∙◌, true, false, Bool}
use Rattle.std.specs.Prelude.{Option, Some, None, ◌==◌, ◌&&◌, if◌then◌else◌}
use Rattle.std.proofs.lemmas.Bool.{cases_Bool, eq-eqb}
use Rattle.sd_message.specs.EcmParts.{Message, message_of, ecm_head_of}
use Rattle.sd_message.specs.declared.ecm_part.Place.{Place}
use Rattle.sd_message.specs.declared.ecm_part.EcmPart.{EcmPart}
use Rattle.sd_message.specs.declared.ecm_message.EcmHead.{EcmHead}
use Rattle.sd_message.specs.declared.ecm_fault.EcmFault.{EcmFault}
use Rattle.sd_message.specs.declared.ecm_fault.EcmFault.TheVariants.{Back}
use Rattle.sd_message.specs.declared.emm.Emm.{Emm}
use Rattle.sd_spec.specs.Heard.{Heard, Controls, Dropped, Entitles, Other}
use Rattle.sd_spec.specs.Stretches.{Stretch, exceeds, counted_parts, message_parts_with, run_of_parts, message_parts_to}
use Rattle.sd_spec.specs.Stretches.{message_told, newest_message}
use Rattle.sd_spec.specs.Stretches.{completes}
use Rattle.sd_spec.specs.Offered.{part_fault, is_back}
use Rattle.sd_message.specs.EcmForm.{ArePlaces}
use Rattle.sd_spec.proofs.Hearing.{no_fault_in_none, newest_waits, newest_completes}
use Rattle.sd_receive.specs.PartialEcm.{part_positions, newest_ecm_part, next_run, IsGathered}
use Rattle.sd_receive.specs.EcmAssembler.{parts_collected, IsMessageKept, IsCollected, part_fault_of, IsWaiting}
use Rattle.sd_receive.specs.EcmAssembler.{IsComplete}
use Rattle.sd_receive.specs.declared.ecm.EcmAssembler.{EcmAssembler}
use Rattle.sd_receive.specs.declared.ecm.partial.PartialEcm.{PartialEcm}
use Rattle.sd_receive.proofs.Gathering.{no_places, none_newest}

-- nothing was heard
pub none_kept : IsMessageKept None None []
none_kept = record { says = refl; good = no_places }

pub none_collected : (state : EcmAssembler) → IsGathered [] state.partial.part state.partial.places.items → state.last ≡
    None →
    state.places.items ≡ [] → IsCollected [] state
unfolding parts_collected run_of_parts counted_parts newest_message
none_collected state run last places = record {
  run = run;
  last = subst (λ (l : List Place). IsMessageKept None state.last l) (sym places)
      (subst (λ (o : Option EcmHead). IsMessageKept None o []) (sym last) none_kept);
}

-- the parts of a part that counts
pub run_is_next : (past : List Heard) (part : EcmPart) → exceeds (newest_message past).message part ≡ true →
    message_parts_to (newest_message past) part ≡ next_run (parts_collected past) part
unfolding message_parts_to run_of_parts parts_collected next_run
run_is_next past part counts = rw counts refl

-- they are what is collected then
pub run_waits : (past : List Heard) (part : EcmPart) → exceeds (newest_message past).message part ≡ true →
    completes past (Controls part) ≡ None → parts_collected (Controls part ∷ past) ≡ message_parts_to
    (newest_message past) part
unfolding parts_collected message_parts_to counted_parts
run_waits past part counts none =
    ap (λ (st : Stretch). run_of_parts (counted_parts st.message st.after)) (newest_waits past (Controls part) none) ∙
    rw counts refl

-- a part that doesn't count changes nothing
uncounted_run : (past : List Heard) (part : EcmPart) → exceeds (newest_message past).message part ≡ false →
    message_parts_to (newest_message past) part ≡ []
unfolding message_parts_to
uncounted_run past part past_it = rw past_it refl

none_told : (test : Bool) (run : List EcmPart) → run ≡ [] → (if test then message_told run else None) ≡ None
none_told true run none = ap message_told none
none_told false run none = refl

untold : (past : List Heard) (part : EcmPart) → message_parts_to (newest_message past) part ≡ [] →
    completes past (Controls part) ≡ None
untold past part none = none_told (part.part == part.last_part) (message_parts_to (newest_message past) part) none

uncounted_waits : (past : List Heard) (part : EcmPart) → exceeds (newest_message past).message part ≡ false →
    parts_collected (Controls part ∷ past) ≡ parts_collected past
unfolding parts_collected counted_parts
uncounted_waits past part past_it =
    ap (λ (st : Stretch). run_of_parts (counted_parts st.message st.after))
    (newest_waits past (Controls part) (untold past part (uncounted_run past part past_it))) ∙ rw past_it refl

same_message : (past : List Heard) (heard : Heard) → completes past heard ≡ None →
    (newest_message (heard ∷ past)).message ≡ (newest_message past).message
same_message past heard none = ap (λ (st : Stretch). st.message) (newest_waits past heard none)

-- nothing is wrong with a part that completes nothing and whose parts are good
no_fault : (past : List Heard) (part : EcmPart) → part_fault (message_parts_to (newest_message past) part) ≡ None →
    completes past (Controls part) ≡ None → part_fault_of past part ≡ None
unfolding part_fault_of
no_fault past part good none = rw (good, none) refl

pub uncounted_part : (past : List Heard) (part : EcmPart) (state : EcmAssembler) → IsCollected past state →
    exceeds (newest_message past).message part ≡ false → IsWaiting past part state
uncounted_part past part state collects past_it =
    let none = uncounted_run past part past_it in
    let incomplete = untold past part none in
    record {
      fault = no_fault past part (ap part_fault none ∙ no_fault_in_none) incomplete;
      incomplete = incomplete;
      after = record {
        run = subst (λ (run : List EcmPart). IsGathered run state.partial.part state.partial.places.items)
            (sym (uncounted_waits past part past_it)) collects.run;
        last = subst (λ (message : Option Message). IsMessageKept message state.last state.places.items)
            (sym (same_message past (Controls part) incomplete)) collects.last;
      };
    }

-- a part that counts and completes nothing
pub waiting_part : (past : List Heard) (part : EcmPart) (state : EcmAssembler) →
    exceeds (newest_message past).message part ≡
    true →
    part_fault (next_run (parts_collected past) part) ≡ None →
    IsGathered (next_run (parts_collected past) part) state.partial.part state.partial.places.items →
    IsMessageKept (newest_message past).message state.last state.places.items → completes past (Controls part) ≡ None →
    IsWaiting past part state
waiting_part past part state counts good gathered kept incomplete =
    let is = run_is_next past part counts in
    record {
      fault = no_fault past part (ap part_fault is ∙ good) incomplete;
      incomplete = incomplete;
      after = record {
        run = subst (λ (run : List EcmPart). IsGathered run state.partial.part state.partial.places.items)
            (sym (run_waits past part counts incomplete ∙ is)) gathered;
        last = subst (λ (message : Option Message). IsMessageKept message state.last state.places.items)
            (sym (same_message past (Controls part) incomplete)) kept;
      };
    }

-- a part that isn't the last completes nothing
pub not_last : (past : List Heard) (part : EcmPart) → (part.part == part.last_part) ≡ false →
    completes past (Controls part) ≡ None
not_last past part other = rw other refl

-- a last part that counts and goes on with no part: what was collected is dropped
pub dropping_part : (past : List Heard) (part : EcmPart) (state : EcmAssembler) (kept : Option EcmPart) (all : List
    Place) →
    exceeds (newest_message past).message part ≡ true →
    (part_fault (next_run (parts_collected past) part) ≡ None)
    × IsGathered (next_run (parts_collected past) part) kept all → kept ≡ None →
    IsGathered [] state.partial.part state.partial.places.items →
    IsMessageKept (newest_message past).message state.last state.places.items → IsWaiting past part state
dropping_part past part state kept all counts good none empty last =
    let next : next_run (parts_collected past) part ≡ [] =
    none_newest (next_run (parts_collected past) part) (sym good.1.part ∙ none) in
    waiting_part past part state counts good.0
    (subst (λ (run : List EcmPart). IsGathered run state.partial.part state.partial.places.items) (sym next) empty) last
    (untold past part (run_is_next past part counts ∙ next))

-- a part that is refused by itself
pub bad_part : (past : List Heard) (part : EcmPart) (fault : EcmFault) → exceeds (newest_message past).message part
    ≡ true →
    part_fault (next_run (parts_collected past) part) ≡ Some fault → part_fault_of past part ≡ Some fault
unfolding part_fault_of
bad_part past part fault counts bad = rw (ap part_fault (run_is_next past part counts) ∙ bad) refl

goes_with : (run : List EcmPart) (part : EcmPart) → (message_parts_with part run ≡ []) ⊎
    ((rest : List EcmPart) × (message_parts_with part run ≡ part ∷ rest))
goes_with [] part = inl refl
goes_with (before ∷ run) part =
    elim (cases_Bool ((before.number == part.number) && (before.part + 1 == part.part))) [
      | inl h ↦ inr (before ∷ run, rw h refl)
      | inr h ↦ inl (rw h refl)
    ]

none_is_none : (run : List EcmPart) (kept : EcmPart) → run ≡ [] → newest_ecm_part run ≡ Some kept → ⊥
none_is_none [] kept none is = cc
none_is_none (part ∷ run) kept none is = cc

some_is : (a b : EcmPart) → Some a ≡ Some b → a ≡ b
some_is a b e = cc

-- the parts of a part that goes on with some are it and those
begins_with : (run : List EcmPart) (part : EcmPart) → (next_run run part ≡ []) ⊎
    ((rest : List EcmPart) × (next_run run part ≡ part ∷ rest))
unfolding next_run
begins_with run part =
    elim (cases_Bool (part.part == 0)) [
      | inl h ↦ inr ([], rw h refl)
      | inr h ↦ elim (goes_with run part) [
        | inl g ↦ inl (rw h g)
        | inr g ↦ inr (g.0, rw h g.1)
      ]
    ]

-- the message of parts of which the newest is kept
told_of : (part : EcmPart) (rest : List EcmPart) → message_told (part ∷ rest) ≡ Some
    (message_of (ecm_head_of part) (part_positions (part ∷ rest)))
unfolding part_positions
told_of part rest = refl

told_run : (run : List EcmPart) (part : EcmPart) (kept : EcmPart) (all : List Place) → (run ≡ []) ⊎
    ((rest : List EcmPart) × (run ≡ part ∷ rest)) →
    IsGathered run (Some kept) all → (kept ≡ part) × (message_told run ≡ Some (message_of (ecm_head_of part) all))
told_run run part kept all (inl none) gathered = absurd (none_is_none run kept none (sym gathered.part))
told_run run part kept all (inr (rest, is)) gathered = (
  some_is kept part (gathered.part ∙ ap newest_ecm_part is),
  ap message_told is ∙ (told_of part rest ∙ ap (λ (l : List Place). Some (message_of (ecm_head_of part) l))
      (sym (gathered.places ∙ ap part_positions is))),
)

-- a part that completes a message
pub ends_message : (past : List Heard) (part kept : EcmPart) (all : List Place) →
    exceeds (newest_message past).message part ≡ true →
    (part.part == part.last_part) ≡ true → IsGathered (next_run (parts_collected past) part) (Some kept) all →
    (kept ≡ part) × (completes past (Controls part) ≡ Some (message_of (ecm_head_of part) all))
ends_message past part kept all counts last gathered =
    let is = told_run (next_run (parts_collected past) part) part kept all (begins_with (parts_collected past) part)
    gathered in
    (is.0, rw last (ap message_told (run_is_next past part counts) ∙ is.1))

pub back_part : (past : List Heard) (part : EcmPart) (message : Message) → exceeds (newest_message past).message part
    ≡ true →
    part_fault (next_run (parts_collected past) part) ≡ None → completes past (Controls part) ≡ Some message →
    is_back past message ≡ true → part_fault_of past part ≡ Some Back
unfolding part_fault_of
back_part past part message counts good done back =
    rw (ap part_fault (run_is_next past part counts) ∙ good, done, back) refl

pub complete_part : (past : List Heard) (part : EcmPart) (message : Message) →
    exceeds (newest_message past).message part ≡ true →
    part_fault (next_run (parts_collected past) part) ≡ None → completes past (Controls part) ≡ Some message →
    is_back past message ≡ false → part_fault_of past part ≡ None
unfolding part_fault_of
complete_part past part message counts good done forth =
    rw (ap part_fault (run_is_next past part counts) ∙ good, done, forth) refl

-- what is kept once the message is settled
pub settled : (past : List Heard) (part : EcmPart) (head : EcmHead) (old new : EcmAssembler) →
    IsComplete past part head old →
    IsGathered [] new.partial.part new.partial.places.items → new.last ≡ Some (ecm_head_of part) →
    new.places.items ≡ old.coming.places.items →
    IsCollected (Controls part ∷ past) new
unfolding parts_collected run_of_parts counted_parts
settled past part head old new complete empty last places =
    let after = newest_completes past (Controls part) (message_of head old.coming.places.items) complete.complete in
    record {
      run = subst (λ (st : Stretch). IsGathered (run_of_parts (counted_parts st.message st.after)) new.partial.part
          new.partial.places.items) (sym after) empty;
      last = subst (λ (st : Stretch). IsMessageKept st.message new.last new.places.items) (sym after)
          (subst (λ (l : List Place). IsMessageKept (Some (message_of head old.coming.places.items)) new.last l)
          (sym places)
          (subst (λ (o : Option EcmHead).
          IsMessageKept (Some (message_of head old.coming.places.items)) o old.coming.places.items)
          (sym (last ∙ ap Some (sym complete.says)))
          (record { says = refl; good = complete.good })));
    }

-- what is heard that is no part leaves all as it is
pub passed : (past : List Heard) (heard : Heard) (state : EcmAssembler) → completes past heard ≡ None →
    counted_parts (newest_message past).message (heard ∷ (newest_message past).after) ≡ counted_parts
    (newest_message past).message (newest_message past).after →
    IsCollected past state → IsCollected (heard ∷ past) state
unfolding parts_collected
passed past heard state incomplete same collects =
    let after = newest_waits past heard incomplete in
    record {
      run = subst (λ (run : List EcmPart). IsGathered run state.partial.part state.partial.places.items)
          (sym (ap (λ (st : Stretch). run_of_parts (counted_parts st.message st.after)) after ∙ ap run_of_parts same))
          collects.run;
      last = subst (λ (message : Option Message). IsMessageKept message state.last state.places.items)
          (sym (same_message past heard incomplete)) collects.last;
    }

pub dropped : (past : List Heard) (state : EcmAssembler) → IsCollected past state → IsCollected (Dropped ∷ past) state
unfolding counted_parts
dropped past state collects = passed past Dropped state refl refl collects

pub entitles : (past : List Heard) (emm : Emm) (state : EcmAssembler) → IsCollected past state →
    IsCollected (Entitles emm ∷ past) state
unfolding counted_parts
entitles past emm state collects = passed past (Entitles emm) state refl refl collects

pub other : (past : List Heard) (n : ℕ) (packet : List ℕ) (state : EcmAssembler) → IsCollected past state →
    IsCollected (Other n packet ∷ past) state
unfolding counted_parts
other past n packet state collects = passed past (Other n packet) state refl refl collects

-- what is kept of a message that a part completes
pub record Ends (past : List Heard) (part : EcmPart) (kept : Option EcmPart) (all : List Place) : Type 0 where
  pub part_is : kept ≡ Some part
  pub complete : completes past (Controls part) ≡ Some (message_of (ecm_head_of part) all)

-- the last part completes a message where some are kept
pub ends_here : (past : List Heard) (part : EcmPart) (kept : Option EcmPart) (all : List Place) →
    exceeds (newest_message past).message part ≡ true →
    part.part ≡ part.last_part → (kept ≡ None → ⊥) → IsGathered (next_run (parts_collected past) part) kept all →
    Ends past part kept all
ends_here past part None all counts last some gathered = absurd (some refl)
ends_here past part (Some newest_part) all counts last some gathered =
    let is = ends_message past part newest_part all counts (eq-eqb part.part part.last_part last) gathered in
    record { part_is = ap Some is.0; complete = is.1 }

-- positions that are kept are ones that a message may have
pub good_places : (run : List EcmPart) (kept : Option EcmPart) (all : List Place) → IsGathered run kept all →
    ArePlaces all
good_places run kept all gathered = subst ArePlaces (sym gathered.places) gathered.good.places

-- the parts that were copied are those that are collected
pub copied : (past : List Heard) (state : EcmAssembler) (copy : PartialEcm) → IsCollected past state →
    copy.part ≡ state.partial.part → copy.places.items ≡ state.partial.places.items →
    IsGathered (parts_collected past) copy.part copy.places.items
copied past state copy collects part places =
    subst (λ (kept : Option EcmPart). IsGathered (parts_collected past) kept copy.places.items) (sym part)
    (subst (λ (all : List Place). IsGathered (parts_collected past) state.partial.part all) (sym places) collects.run)
