-- A receiver that is offered the packets of one PID and those that tell it something alone hears the same of them.
use Rattle.std.proofs.Common.{◌≡◌, refl, ℕ, ◌==◌, ◌||◌, Bool, true, false, not, List, [], ◌∷◌, length}
use Rattle.std.proofs.Common.{Option, Some, None, is_none, ap, sym, subst, ◌∙◌}
use Rattle.std.specs.Prelude.{if◌then◌else◌, Result, Ok, Err}
use Rattle.sd_packet.specs.Header.{pid_of}
use Rattle.sd_site_cards.specs.CardFields.{CardFields}
use Rattle.sd_message.specs.EmmJudged.{emm_read}
use Rattle.sd_message.specs.declared.emm.Emm.{Emm}
use Rattle.sd_message.specs.declared.emm_fault.EmmFault.{EmmFault}
use Rattle.sd_message.specs.EcmJudged.{ecm_read}
use Rattle.sd_message.specs.declared.ecm_part.EcmPart.{EcmPart}
use Rattle.sd_message.specs.declared.ecm_fault.EcmFault.{EcmFault}
use Rattle.sd_psi.specs.OurCat.{cat_tuning}
use Rattle.sd_psi.specs.declared.our_cat.Tuning.{Tuning}
use Rattle.sd_spec.specs.Tuned.{tuned_by, tuning_of}
use Rattle.sd_spec.specs.Heard.{Heard, Dropped, Entitles, Controls, BadEmm, BadEcm, Other, heard_emm, heard_ecm, hears}
use Rattle.sd_spec.specs.Stretches.{is_closed}
use Rattle.sd_spec.specs.Runs.{run_name_heard, run_name_in, are_two, is_turn, of_run}
use Rattle.sd_spec.specs.Offered.{heard_more, heard_with, heard}
use Rattle.sd_law_contained.specs.Alone.{speaks, packets_alone}
use Rattle.sd_law_contained.proofs.Thinned.{thin_with, thinned, same_by, closed_thinned, name_thinned, AreOn}
use Rattle.sd_law_contained.proofs.Offers.{numbered}

-- what a packet is to a receiver, by three tests
abbrev heard_by : ℕ → List ℕ → Bool → Bool → Bool → Result (Option Emm) EmmFault →
    Result (Option EcmPart) EcmFault → Heard
heard_by n packet a b c emm ecm =
    if a then Dropped else if b then heard_emm emm else if c then heard_ecm ecm else Other n packet

numbered_emm : (n : ℕ) (read : Result (Option Emm) EmmFault) → heard_emm read ≡ numbered n (heard_emm read)
numbered_emm n (Ok None) = refl
numbered_emm n (Ok (Some emm)) = refl
numbered_emm n (Err fault) = refl

numbered_ecm : (n : ℕ) (read : Result (Option EcmPart) EcmFault) → heard_ecm read ≡ numbered n (heard_ecm read)
numbered_ecm n (Ok None) = refl
numbered_ecm n (Ok (Some part)) = refl
numbered_ecm n (Err fault) = refl

numbered_by : (n : ℕ) (packet : List ℕ) (a b c : Bool) (emm : Result (Option Emm) EmmFault)
    (ecm : Result (Option EcmPart) EcmFault) →
    heard_by n packet a b c emm ecm ≡ numbered n (heard_by 0 packet a b c emm ecm)
numbered_by n packet true b c emm ecm = refl
numbered_by n packet false true c emm ecm = numbered_emm n emm
numbered_by n packet false false true emm ecm = numbered_ecm n ecm
numbered_by n packet false false false emm ecm = refl

-- but for its number it doesn't depend on what was before
pub hears_numbered : (h n : ℕ) (tuning : Tuning) (packet : List ℕ) →
    hears h tuning n packet ≡ numbered n (hears h tuning 0 packet)
unfolding hears
hears_numbered h n tuning packet =
    numbered_by n packet (pid_of packet == 1) (pid_of packet == tuning.emm) (pid_of packet == tuning.ecm)
    (emm_read h packet) (ecm_read packet)

pub name_numbered : (n : ℕ) (thing : Heard) → run_name_heard (numbered n thing) ≡ run_name_heard thing
name_numbered n Dropped = refl
name_numbered n (Entitles emm) = refl
name_numbered n (Controls part) = refl
name_numbered n (BadEmm fault) = refl
name_numbered n (BadEcm fault) = refl
name_numbered n (Other k packet) = refl

thin_numbered : (pid n : ℕ) (thing : Heard) (past : List Heard) →
    thin_with pid (numbered n thing) past ≡ thin_with pid thing past
thin_numbered pid n Dropped past = refl
thin_numbered pid n (Entitles emm) past = refl
thin_numbered pid n (Controls part) past = refl
thin_numbered pid n (BadEmm fault) past = refl
thin_numbered pid n (BadEcm fault) past = refl
thin_numbered pid n (Other k packet) past = refl

-- a thing that tells nothing, and is no packet of the PID
pub record IsQuiet (pid : ℕ) (thing : Heard) : Type 0 where
  pub nameless : run_name_heard thing ≡ None
  pub thin : (past : List Heard) → thin_with pid thing past ≡ past

quiet_emm : (pid : ℕ) (read : Result (Option Emm) EmmFault) → is_none (run_name_heard (heard_emm read)) ≡ true →
    IsQuiet pid (heard_emm read)
quiet_emm pid (Ok None) silent = record { nameless = refl; thin = λ past. refl }
quiet_emm pid (Ok (Some emm)) silent = absurd (cc)
quiet_emm pid (Err fault) silent = record { nameless = refl; thin = λ past. refl }

quiet_ecm : (pid : ℕ) (read : Result (Option EcmPart) EcmFault) → is_none (run_name_heard (heard_ecm read)) ≡ true →
    IsQuiet pid (heard_ecm read)
quiet_ecm pid (Ok None) silent = record { nameless = refl; thin = λ past. refl }
quiet_ecm pid (Ok (Some part)) silent = absurd (cc)
quiet_ecm pid (Err fault) silent = record { nameless = refl; thin = λ past. refl }

quiet_by : (pid : ℕ) (packet : List ℕ) (a b c : Bool) (emm : Result (Option Emm) EmmFault)
    (ecm : Result (Option EcmPart) EcmFault) → (pid_of packet == pid) ≡ false →
    is_none (run_name_heard (heard_by 0 packet a b c emm ecm)) ≡ true → IsQuiet pid (heard_by 0 packet a b c emm ecm)
quiet_by pid packet true b c emm ecm off silent = record { nameless = refl; thin = λ past. refl }
quiet_by pid packet false true c emm ecm off silent = quiet_emm pid emm silent
quiet_by pid packet false false true emm ecm off silent = quiet_ecm pid ecm silent
quiet_by pid packet false false false emm ecm off silent = record { nameless = refl; thin = λ past. rw off refl }

pub quiet_heard : (pid h : ℕ) (tuning : Tuning) (packet : List ℕ) → (pid_of packet == pid) ≡ false →
    is_none (run_name_heard (hears h tuning 0 packet)) ≡ true → IsQuiet pid (hears h tuning 0 packet)
unfolding hears
quiet_heard pid h tuning packet off silent =
    quiet_by pid packet (pid_of packet == 1) (pid_of packet == tuning.emm) (pid_of packet == tuning.ecm)
    (emm_read h packet) (ecm_read packet) off silent

-- what is taken is of the PID, if it is an other packet
on_emm : (pid n : ℕ) (read : Result (Option Emm) EmmFault) (past : List Heard) → AreOn pid past →
    AreOn pid (numbered n (heard_emm read) ∷ past)
on_emm pid n (Ok None) past are = are
on_emm pid n (Ok (Some emm)) past are = are
on_emm pid n (Err fault) past are = are

on_ecm : (pid n : ℕ) (read : Result (Option EcmPart) EcmFault) (past : List Heard) → AreOn pid past →
    AreOn pid (numbered n (heard_ecm read) ∷ past)
on_ecm pid n (Ok None) past are = are
on_ecm pid n (Ok (Some part)) past are = are
on_ecm pid n (Err fault) past are = are

or_nothing : (b : Bool) → (b || false) ≡ true → b ≡ true
or_nothing true e = refl
or_nothing false e = e

on_by : (pid n : ℕ) (packet : List ℕ) (a b c : Bool) (emm : Result (Option Emm) EmmFault)
    (ecm : Result (Option EcmPart) EcmFault) (past : List Heard) → AreOn pid past →
    ((pid_of packet == pid) || not (is_none (run_name_heard (heard_by 0 packet a b c emm ecm)))) ≡ true →
    AreOn pid (numbered n (heard_by 0 packet a b c emm ecm) ∷ past)
on_by pid n packet true b c emm ecm past are taken = are
on_by pid n packet false true c emm ecm past are taken = on_emm pid n emm past are
on_by pid n packet false false true emm ecm past are taken = on_ecm pid n ecm past are
on_by pid n packet false false false emm ecm past are taken = (or_nothing (pid_of packet == pid) taken, are)

on_heard : (pid h n : ℕ) (tuning : Tuning) (packet : List ℕ) (past : List Heard) → AreOn pid past →
    ((pid_of packet == pid) || not (is_none (run_name_heard (hears h tuning 0 packet)))) ≡ true →
    AreOn pid (numbered n (hears h tuning 0 packet) ∷ past)
unfolding hears
on_heard pid h n tuning packet past are taken =
    on_by pid n packet (pid_of packet == 1) (pid_of packet == tuning.emm) (pid_of packet == tuning.ecm)
    (emm_read h packet) (ecm_read packet) past are taken

-- the run that is current with a thing
pub turn_same : (pid n m : ℕ) (past packets_alone : List Heard) (thing : Heard) →
    thinned pid packets_alone ≡ thinned pid past →
    is_turn packets_alone (numbered m thing) ≡ is_turn past (numbered n thing)
unfolding is_turn
turn_same pid n m past packets_alone thing same =
    ap (λ (name : Option (Option ℕ)). are_two name (run_name_heard (numbered m thing)))
    (same_by run_name_in pid packets_alone past (name_thinned pid) same)
    ∙ ap (are_two (run_name_in past)) (name_numbered m thing ∙ sym (name_numbered n thing))

run_by : (pid : ℕ) (turn : Bool) (past packets_alone : List Heard) → thinned pid packets_alone ≡ thinned pid past →
    thinned pid (if turn then [] else packets_alone) ≡ thinned pid (if turn then [] else past)
run_by pid true past packets_alone same = refl
run_by pid false past packets_alone same = same

pub run_same : (pid n m : ℕ) (past packets_alone : List Heard) (thing : Heard) →
    thinned pid packets_alone ≡ thinned pid past →
    thinned pid (of_run packets_alone (numbered m thing)) ≡ thinned pid (of_run past (numbered n thing))
unfolding of_run
run_same pid n m past packets_alone thing same =
    ap (λ (turn : Bool). thinned pid (if turn then [] else packets_alone))
    (turn_same pid n m past packets_alone thing same)
    ∙ run_by pid (is_turn past (numbered n thing)) past packets_alone same

pub closed_same : (pid n m : ℕ) (past packets_alone : List Heard) (thing : Heard) →
    thinned pid packets_alone ≡ thinned pid past →
    is_closed (of_run packets_alone (numbered m thing)) ≡ is_closed (of_run past (numbered n thing))
closed_same pid n m past packets_alone thing same =
    same_by is_closed pid (of_run packets_alone (numbered m thing)) (of_run past (numbered n thing))
    (closed_thinned pid)
    (run_same pid n m past packets_alone thing same)

more_by : (pid n m : ℕ) (closed : Bool) (past packets_alone run mine : List Heard) (thing : Heard) →
    thinned pid packets_alone ≡ thinned pid past → thinned pid mine ≡ thinned pid run →
    thinned pid (if closed then packets_alone else numbered m thing ∷ mine)
    ≡ thinned pid (if closed then past else numbered n thing ∷ run)
more_by pid n m true past packets_alone run mine thing same runs = same
more_by pid n m false past packets_alone run mine thing same runs =
    thin_numbered pid m thing (thinned pid mine)
    ∙ (ap (thin_with pid thing) runs ∙ sym (thin_numbered pid n thing (thinned pid run)))

-- what is heard with one thing more
more_same : (pid n m : ℕ) (past packets_alone : List Heard) (thing : Heard) →
    thinned pid packets_alone ≡ thinned pid past →
    thinned pid (heard_more packets_alone (numbered m thing)) ≡ thinned pid (heard_more past (numbered n thing))
more_same pid n m past packets_alone thing same =
    ap (λ (closed : Bool). thinned pid (if closed then packets_alone
    else numbered m thing ∷ of_run packets_alone (numbered m thing))) (closed_same pid n m past packets_alone thing
    same)
    ∙ more_by pid n m (is_closed (of_run past (numbered n thing))) past packets_alone (of_run past (numbered n thing))
    (of_run packets_alone (numbered m thing)) thing same (run_same pid n m past packets_alone thing same)

-- no turn comes with a thing that belongs to no run
two_none : (name : Option (Option ℕ)) → are_two name None ≡ false
two_none None = refl
two_none (Some name) = refl

pub no_turn : (n : ℕ) (past : List Heard) (thing : Heard) → run_name_heard thing ≡ None →
    is_turn past (numbered n thing) ≡ false
unfolding is_turn
no_turn n past thing nameless =
    ap (are_two (run_name_in past)) (name_numbered n thing ∙ nameless) ∙ two_none (run_name_in past)

stay_by : (pid n : ℕ) (closed : Bool) (past : List Heard) (thing : Heard) → IsQuiet pid thing →
    thinned pid (if closed then past else numbered n thing ∷ past) ≡ thinned pid past
stay_by pid n true past thing quiet = refl
stay_by pid n false past thing quiet =
    thin_numbered pid n thing (thinned pid past) ∙ quiet.thin (thinned pid past)

pub same_run : (n : ℕ) (past : List Heard) (thing : Heard) → run_name_heard thing ≡ None →
    of_run past (numbered n thing) ≡ past
unfolding of_run
same_run n past thing nameless =
    ap (λ (turn : Bool). if turn then [] else past) (no_turn n past thing nameless)

pub more_stays : (pid n : ℕ) (past : List Heard) (thing : Heard) → IsQuiet pid thing →
    thinned pid (heard_more past (numbered n thing)) ≡ thinned pid past
more_stays pid n past thing quiet =
    ap (λ (run : List Heard). thinned pid (if is_closed run then past else numbered n thing ∷ run))
    (same_run n past thing quiet.nameless)
    ∙ stay_by pid n (is_closed past) past thing quiet

-- what is heard stays on the PID
run_on : (pid : ℕ) (turn : Bool) (past : List Heard) → AreOn pid past → AreOn pid (if turn then [] else past)
run_on pid true past are = tt
run_on pid false past are = are

pub of_run_on : (pid : ℕ) (past : List Heard) (thing : Heard) → AreOn pid past → AreOn pid (of_run past thing)
unfolding of_run
of_run_on pid past thing are = run_on pid (is_turn past thing) past are

either_on : (pid : ℕ) (closed : Bool) (past run : List Heard) → AreOn pid past → AreOn pid run →
    AreOn pid (if closed then past else run)
either_on pid true past run are runs = are
either_on pid false past run are runs = runs

-- the receiver that is offered all, and the other
pub record Agrees (card : CardFields) (pid : ℕ) (past few : List (List ℕ)) : Type 0 where
  pub tuned : tuning_of card.ca few ≡ tuning_of card.ca past
  pub same : thinned pid (heard card few) ≡ thinned pid (heard card past)
  pub on : AreOn pid (heard card few)

-- a packet that both are offered
heard_both : (card : CardFields) (pid n m : ℕ) (tuning : Option Tuning) (packet : List ℕ) (past few : List Heard) →
    thinned pid few ≡ thinned pid past → AreOn pid few →
    ((pid_of packet == pid) || speaks card tuning packet) ≡ true →
    (thinned pid (heard_with card tuning m packet few) ≡ thinned pid (heard_with card tuning n packet past))
    × AreOn pid (heard_with card tuning m packet few)
unfolding speaks
heard_both card pid n m None packet past few same on taken = (same, on)
heard_both card pid n m (Some tuning) packet past few same on taken =
    let thing : Heard = hears card.height tuning 0 packet in
    rw (hears_numbered card.height n tuning packet, hears_numbered card.height m tuning packet) (
      more_same pid n m past few thing same,
      either_on pid (is_closed (of_run few (numbered m thing))) few (numbered m thing ∷ of_run few (numbered m thing))
          on
          (on_heard pid card.height m tuning packet (of_run few (numbered m thing))
          (of_run_on pid few (numbered m thing) on) taken),
    )

pub both_agree : (card : CardFields) (pid : ℕ) (packet : List ℕ) (past few : List (List ℕ)) → Agrees card pid past few →
    ((pid_of packet == pid) || speaks card (tuning_of card.ca past) packet) ≡ true →
    Agrees card pid (packet ∷ past) (packet ∷ few)
unfolding tuning_of heard
both_agree card pid packet past few agrees taken =
    let both = heard_both card pid (length past) (length few) (tuning_of card.ca past) packet (heard card past)
    (heard card few) agrees.same agrees.on taken in
    record {
      tuned = ap (λ (tuning : Option Tuning). tuned_by tuning (cat_tuning card.ca packet)) agrees.tuned;
      same = ap (λ (tuning : Option Tuning). thinned pid (heard_with card tuning (length few) packet (heard card few)))
          agrees.tuned ∙ both.0;
      on = subst (λ (tuning : Option Tuning). AreOn pid (heard_with card tuning (length few) packet (heard card few)))
          (sym agrees.tuned) both.1;
    }
