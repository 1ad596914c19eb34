-- Odd packets cost nothing: a receiver of what counts writes what a receiver of all packets does, if none is refused.
use Rattle.std.proofs.Common.{◌≡◌, refl, ℕ, ◌+◌, ◌&&◌, ◌++◌, Bool, true, false, not, List, [], ◌∷◌, length, reverse}
use Rattle.std.proofs.Common.{Option, Some}
use Rattle.std.proofs.Common.{None, is_none, sym, ap, ◌∙◌, inl, inr, arith, append-nil}
use Rattle.std.specs.Prelude.{if◌then◌else◌}
use Rattle.std.specs.Option.{option_map_or}
use Rattle.std.proofs.lemmas.Bool.{false≢true}
use Rattle.sd_base.proofs.Bools.{tested}
use Rattle.sd_psi.specs.OurCat.{cat_tuning}
use Rattle.sd_psi.specs.declared.our_cat.Tuning.{Tuning}
use Rattle.sd_site_cards.specs.CardFields.{CardFields}
use Rattle.sd_message.specs.declared.stream_fault.StreamFault.{StreamFault}
use Rattle.sd_spec.specs.declared.ending.Ending.{Ending}
use Rattle.sd_spec.specs.declared.ending.Ending.TheVariants.{NoCat}
use Rattle.sd_spec.specs.declared.report.Tally.{Tally}
use Rattle.sd_spec.specs.Tuned.{tuning_of, tuned_by}
use Rattle.sd_spec.specs.Heard.{Heard, Dropped, Entitles, Controls, BadEmm, BadEcm, Other, hears}
use Rattle.sd_spec.specs.Runs.{is_turn, run_name_heard}
use Rattle.sd_spec.specs.Offered.{heard, heard_with, heard_more, offered, tuned_offering, run_offering, heard_offering}
use Rattle.sd_spec.specs.Offered.{out_from, break_from}
use Rattle.sd_spec.specs.Ending.{endings_joined, turns_at, run_wrote, ended_before, run_ending, ending_of}
use Rattle.sd_spec.specs.Counting.{is_marked, is_doubled, is_stray, is_stray_at, counts, counting}
use Rattle.sd_spec.specs.Reports.{tally_from, tally_marked, one_doubled, one_odd, refused_or}
use Rattle.sd_spec.proofs.Hearing.{tuned_more}
use Rattle.sd_law_losses.specs.Chosen.{chosen}
use Rattle.sd_law_losses.proofs.Agreeing.{heard_by}
use Rattle.sd_law_losses.proofs.NextLater.{thing_later}
use Rattle.sd_law_losses.proofs.NextEndings.{onto, reversed}
use Rattle.sd_law_watch.proofs.Counted.{none_of, counts_by, counting_one, counting_none, unbroken}
use Rattle.sd_law_watch.proofs.Numbers.{hears_at, refused_alike}
use Rattle.sd_law_watch.proofs.Said.{said, ending_said}
use Rattle.sd_law_watch.proofs.Alike.{Like, Speaks, like_none, like_more, like_other, like_dropped, like_stray}
use Rattle.sd_law_watch.proofs.Alike.{turn_same}
use Rattle.sd_law_watch.proofs.Alike.{speaks_emm, speaks_part, speaks_bad_emm, speaks_bad_ecm, quiet_turn}
use Rattle.sd_law_watch.proofs.Writes.{WritesAlike, run_nothing, emm_alike, part_alike, bad_emm_alike, bad_ecm_alike}

-- whichever of these packets come after others, none is refused
abbrev pub IsSound : CardFields → List (List ℕ) → List (List ℕ) → Type 0
IsSound card past packets = (flags : List Bool) → break_from card past (chosen flags packets) ≡ None

pub sound_here : (card : CardFields) (past packets : List (List ℕ)) (packet : List ℕ) →
    IsSound card past (packet ∷ packets) →
    ((offered card past packet).fault ≡ None) × IsSound card (packet ∷ past) packets
unfolding break_from chosen
sound_here card past packets packet sound = (
  (unbroken (offered card past packet).fault (break_from card (packet ∷ past) (chosen [] packets))
      (sound (true ∷ []))).0,
  λ flags.
      (unbroken (offered card past packet).fault (break_from card (packet ∷ past) (chosen flags packets))
      (sound (true ∷ flags))).1,
)

pub sound_without : (card : CardFields) (past packets : List (List ℕ)) (packet : List ℕ) →
    IsSound card past (packet ∷ packets) → IsSound card past packets
unfolding chosen
sound_without card past packets packet sound = λ flags. sound (false ∷ flags)

-- nothing is marked or doubled
abbrev pub IsOnce : Tally → Type 0
IsOnce tally = (tally.marked ≡ 0) × (tally.doubled ≡ 0)

pub record OnceMore (marked doubled odd : Bool) (fault : Option StreamFault) (o counted : Tally) : Type 0 where
  pub unmarked : marked ≡ false
  pub once : doubled ≡ false
  pub if_odd : odd ≡ true → IsOnce o
  pub if_even : odd ≡ false → fault ≡ None → IsOnce counted

once_by : (marked doubled odd : Bool) (fault : Option StreamFault) (m d o counted refused : Tally) →
    IsOnce (if marked then tally_marked m else if doubled then one_doubled d else if odd then one_odd o
    else refused_or fault counted refused) → OnceMore marked doubled odd fault o counted
once_by true doubled odd fault m d o counted refused once = absurd (omega (arith, once.0))
once_by false true odd fault m d o counted refused once = absurd (omega (arith, once.1))
once_by false false true fault m d o counted refused once = record {
  unmarked = refl;
  once = refl;
  if_odd = λ is. once;
  if_even = λ is none. absurd (false≢true (sym is));
}
once_by false false false None m d o counted refused once = record {
  unmarked = refl;
  once = refl;
  if_odd = λ is. absurd (false≢true is);
  if_even = λ is none. once;
}
once_by false false false (Some f) m d o counted refused once = record {
  unmarked = refl;
  once = refl;
  if_odd = λ is. absurd (false≢true is);
  if_even = λ is none. absurd (cc none);
}

once_more : (card : CardFields) (n : ℕ) (past packets : List (List ℕ)) (packet : List ℕ) →
    IsOnce (tally_from card n past (packet ∷ packets)) →
    OnceMore (is_marked packet) (is_doubled card past packet) (is_stray_at card past packet)
    (tuned_offering card (tuning_of card.ca past) n (heard card past) packet).fault
    (tally_from card (n + 1) past packets) (tally_from card (n + 1) (packet ∷ past) packets)
unfolding tally_from
once_more card n past packets packet once =
    let rest : Tally = tally_from card (n + 1) past packets in
    once_by (is_marked packet) (is_doubled card past packet) (is_stray_at card past packet)
    (tuned_offering card (tuning_of card.ca past) n (heard card past) packet).fault rest rest rest
    (tally_from card (n + 1) (packet ∷ past) packets) rest once

pub fault_at : (card : CardFields) (n : ℕ) (past : List (List ℕ)) (packet : List ℕ) →
    (offered card past packet).fault ≡ None →
    (tuned_offering card (tuning_of card.ca past) n (heard card past) packet).fault ≡ None
fault_at card n past packet none =
    none_of (tuned_offering card (tuning_of card.ca past) n (heard card past) packet).fault
    (refused_alike card n past packet ∙ ap {B = Bool} (λ (f : Option StreamFault). is_none f) none)

-- the receivers after some packets
pub record Going (card : CardFields) (tuning : Tuning) (past counted bare : List (List ℕ)) : Type 0 where
  pub tuned : tuning_of card.ca past ≡ Some tuning
  pub counted_tuned : tuning_of card.ca counted ≡ Some tuning
  pub bare_tuned : tuning_of card.ca bare ≡ Some tuning
  pub like : Like (heard card past) (heard card counted) (heard card bare)
  pub wrote : run_wrote card counted ≡ run_wrote card past
  pub ended : ended_before card counted ≡ ended_before card past

-- what comes of these packets is the same
pub record SameOf (card : CardFields) (past counted packets : List (List ℕ)) : Type 0 where
  pub out : out_from card counted (counting card counted packets) ≡ out_from card past packets
  pub ending : ending_of card (onto (counting card counted packets) counted) ≡ ending_of card (onto packets past)

like_is : (a b c x y z : List Heard) → x ≡ a → y ≡ b → z ≡ c → Like a b c → Like x y z
like_is a b c x y z x_is y_is z_is like = rw x_is (rw y_is (rw z_is like))

-- a test of what was heard and of what is heard next, under the tuning
tested_by : (test : List Heard → Heard → Bool) (card : CardFields) (tuning : Tuning) (past : List (List ℕ))
    (packet : List ℕ) → tuning_of card.ca past ≡ Some tuning →
    option_map_or (λ tuning. test (heard card past) (hears card.height tuning (length past) packet))
    (tuning_of card.ca past) false
    ≡ test (heard card past) (hears card.height tuning (length past) packet)
tested_by test card tuning past packet tuned =
    ap (λ (t : Option Tuning). option_map_or (λ tuning. test (heard card past) (hears card.height tuning
    (length past) packet)) t false) tuned

turns_by : (card : CardFields) (tuning : Tuning) (past : List (List ℕ)) (packet : List ℕ) →
    tuning_of card.ca past ≡ Some tuning →
    turns_at card past packet ≡ is_turn (heard card past) (hears card.height tuning (length past) packet)
unfolding turns_at
turns_by = tested_by is_turn

stray_by : (card : CardFields) (tuning : Tuning) (past : List (List ℕ)) (packet : List ℕ) →
    tuning_of card.ca past ≡ Some tuning →
    is_stray_at card past packet ≡ is_stray (heard card past) (hears card.height tuning (length past) packet)
unfolding is_stray_at
stray_by = tested_by is_stray

run_by : (card : CardFields) (tuning : Tuning) (past : List (List ℕ)) (packet : List ℕ) →
    tuning_of card.ca past ≡ Some tuning →
    offered card past packet
    ≡ run_offering card tuning (length past) (heard card past) (hears card.height tuning (length past) packet)
unfolding offered
run_by card tuning past packet tuned =
    ap (λ (t : Option Tuning). tuned_offering card t (length past) (heard card past) packet) tuned

-- one packet more of both
wrote_kept : (card : CardFields) (past counted : List (List ℕ)) (packet : List ℕ) →
    turns_at card counted packet ≡ turns_at card past packet →
    (offered card counted packet).wrote ≡ (offered card past packet).wrote →
    run_wrote card counted ≡ run_wrote card past →
    run_wrote card (packet ∷ counted) ≡ run_wrote card (packet ∷ past)
unfolding run_wrote
wrote_kept card past counted packet turns wrote before =
    ap (λ (t : Bool). (if t then 0 else run_wrote card counted) + length (offered card counted packet).wrote) turns
    ∙ (ap (λ (w : List (List ℕ)). (if turns_at card past packet then 0 else run_wrote card counted) + length w) wrote
    ∙ ap (λ (n : ℕ). (if turns_at card past packet then 0 else n) + length (offered card past packet).wrote) before)

pub ending_same : (card : CardFields) (past counted : List (List ℕ)) (n : ℕ) →
    said (heard card past) ≡ said (heard card counted) →
    run_ending card (heard card counted) n ≡ run_ending card (heard card past) n
ending_same card past counted n same =
    sym (ending_said n card (heard card counted))
    ∙ (ap (λ (p : List Heard). run_ending card p n) (sym same) ∙ ending_said n card (heard card past))

ended_kept : (card : CardFields) (past counted : List (List ℕ)) (packet : List ℕ) →
    turns_at card counted packet ≡ turns_at card past packet →
    said (heard card past) ≡ said (heard card counted) →
    run_wrote card counted ≡ run_wrote card past → ended_before card counted ≡ ended_before card past →
    ended_before card (packet ∷ counted) ≡ ended_before card (packet ∷ past)
unfolding ended_before
ended_kept card past counted packet turns same wrote before =
    ap (λ (t : Bool). if t then endings_joined (ended_before card counted) (run_ending card (heard card counted)
    (run_wrote card counted)) else ended_before card counted) turns
    ∙ (ap (λ (e : Ending). if turns_at card past packet then endings_joined e (run_ending card (heard card counted)
    (run_wrote card counted)) else e) before
    ∙ (ap (λ (e : Ending). if turns_at card past packet then endings_joined (ended_before card past) e
    else ended_before card past)
    (ending_same card past counted (run_wrote card counted) same
    ∙ ap (run_ending card (heard card past)) wrote)))

-- one packet more of the first alone, which is of no message
wrote_lost : (card : CardFields) (past : List (List ℕ)) (packet : List ℕ) → turns_at card past packet ≡ false →
    (offered card past packet).wrote ≡ [] → run_wrote card (packet ∷ past) ≡ run_wrote card past
unfolding run_wrote
wrote_lost card past packet stays nothing =
    let none : length (offered card past packet).wrote ≡ 0 = ap length nothing in
    rw stays (omega (arith, none))

ended_lost : (card : CardFields) (past : List (List ℕ)) (packet : List ℕ) → turns_at card past packet ≡ false →
    ended_before card (packet ∷ past) ≡ ended_before card past
unfolding ended_before
ended_lost card past packet stays = rw stays refl

same_kept : (card : CardFields) (past counted packets : List (List ℕ)) (packet : List ℕ) →
    counts card counted packet ≡ true → (offered card past packet).fault ≡ None →
    (offered card counted packet).fault ≡ None →
    (offered card counted packet).wrote ≡ (offered card past packet).wrote →
    SameOf card (packet ∷ past) (packet ∷ counted) packets → SameOf card past counted (packet ∷ packets)
unfolding out_from
same_kept card past counted packets packet is none counted_none wrote rest = record {
  out = ap (out_from card counted) (counting_one card counted packets packet is)
      ∙ (ap (λ (f : Option StreamFault). (offered card counted packet).wrote ++ (if is_none f
      then out_from card (packet ∷ counted) (counting card (packet ∷ counted) packets) else [])) counted_none
      ∙ (ap (λ (w : List (List ℕ)). w ++ out_from card (packet ∷ counted) (counting card (packet ∷ counted) packets))
      wrote
      ∙ (ap (λ (out : List (List ℕ)). (offered card past packet).wrote ++ out) rest.out
      ∙ ap (λ (f : Option StreamFault). (offered card past packet).wrote ++ (if is_none f
      then out_from card (packet ∷ past) packets else [])) (sym none))));
  ending = ap (λ (all : List (List ℕ)). ending_of card (onto all counted))
      (counting_one card counted packets packet is)
      ∙ rest.ending;
}

same_lost : (card : CardFields) (past counted packets : List (List ℕ)) (packet : List ℕ) →
    counts card counted packet ≡ false → (offered card past packet).fault ≡ None →
    (offered card past packet).wrote ≡ [] →
    SameOf card (packet ∷ past) counted packets → SameOf card past counted (packet ∷ packets)
unfolding out_from
same_lost card past counted packets packet is none nothing rest = record {
  out = ap (out_from card counted) (counting_none card counted packets packet is)
      ∙ (rest.out
      ∙ (ap (λ (w : List (List ℕ)). w ++ out_from card (packet ∷ past) packets) (sym nothing)
      ∙ ap (λ (f : Option StreamFault). (offered card past packet).wrote ++ (if is_none f
      then out_from card (packet ∷ past) packets else [])) (sym none)));
  ending = ap (λ (all : List (List ℕ)). ending_of card (onto all counted))
      (counting_none card counted packets packet is)
      ∙ rest.ending;
}

-- a packet that is heard as a message
going_message : (card : CardFields) (tuning : Tuning) (past counted bare : List (List ℕ)) (packet : List ℕ)
    (thing : Heard) → Speaks thing → ((n : ℕ) → hears card.height tuning n packet ≡ thing) →
    (offered card counted packet).wrote ≡ (offered card past packet).wrote →
    Going card tuning past counted bare →
    Going card tuning (packet ∷ past) (packet ∷ counted) (packet ∷ bare)
going_message card tuning past counted bare packet thing speaks is wrote going = record {
  tuned = tuned_more card tuning past packet going.tuned;
  counted_tuned = tuned_more card tuning counted packet going.counted_tuned;
  bare_tuned = tuned_more card tuning bare packet going.bare_tuned;
  like = like_is (heard_more (heard card past) thing) (heard_more (heard card counted) thing)
      (heard_more (heard card bare) thing) (heard card (packet ∷ past)) (heard card (packet ∷ counted))
      (heard card (packet ∷ bare)) (heard_is past going.tuned) (heard_is counted going.counted_tuned)
      (heard_is bare going.bare_tuned)
      (like_more (heard card past) (heard card counted) (heard card bare) thing speaks going.like);
  wrote = wrote_kept card past counted packet turns wrote going.wrote;
  ended = ended_kept card past counted packet turns going.like.counted_says going.wrote going.ended;
}
  where
    heard_is : (before : List (List ℕ)) → tuning_of card.ca before ≡ Some tuning →
        heard card (packet ∷ before) ≡ heard_more (heard card before) thing
    heard_is before tuned =
        heard_by card tuning before packet tuned ∙ ap (heard_more (heard card before)) (is (length before))

    turn_of : (before : List (List ℕ)) → tuning_of card.ca before ≡ Some tuning →
        turns_at card before packet ≡ is_turn (heard card before) thing
    turn_of before tuned =
        turns_by card tuning before packet tuned ∙ ap (is_turn (heard card before)) (is (length before))

    turns : turns_at card counted packet ≡ turns_at card past packet
    turns = turn_of counted going.counted_tuned
        ∙ (sym (turn_same (heard card past) (heard card counted) thing going.like.counted_says)
        ∙ sym (turn_of past going.tuned))

-- what is heard of a packet that is of no message
abbrev pub IsQuiet : Heard → Type 0
IsQuiet thing = run_name_heard thing ≡ None

quiet_stays : (card : CardFields) (tuning : Tuning) (past : List (List ℕ)) (packet : List ℕ) (thing : Heard) →
    hears card.height tuning (length past) packet ≡ thing → IsQuiet thing → tuning_of card.ca past ≡ Some tuning →
    turns_at card past packet ≡ false
quiet_stays card tuning past packet thing is quiet tuned =
    turns_by card tuning past packet tuned
    ∙ (ap (is_turn (heard card past)) is ∙ quiet_turn (heard card past) thing quiet)

-- a packet of no message that counts
going_quiet : (card : CardFields) (tuning : Tuning) (past counted bare : List (List ℕ)) (packet : List ℕ)
    (here there : Heard) → hears card.height tuning (length past) packet ≡ here →
    hears card.height tuning (length counted) packet ≡ there → IsQuiet here → IsQuiet there →
    (offered card counted packet).wrote ≡ (offered card past packet).wrote →
    Like (heard_more (heard card past) here) (heard_more (heard card counted) there) (heard card bare) →
    Going card tuning past counted bare → Going card tuning (packet ∷ past) (packet ∷ counted) bare
going_quiet card tuning past counted bare packet here there is counted_is quiet counted_quiet wrote like going =
    record {
      tuned = tuned_more card tuning past packet going.tuned;
      counted_tuned = tuned_more card tuning counted packet going.counted_tuned;
      bare_tuned = going.bare_tuned;
      like = like_is (heard_more (heard card past) here) (heard_more (heard card counted) there) (heard card bare)
          (heard card (packet ∷ past)) (heard card (packet ∷ counted)) (heard card bare)
          (heard_by card tuning past packet going.tuned ∙ ap (heard_more (heard card past)) is)
          (heard_by card tuning counted packet going.counted_tuned
          ∙ ap (heard_more (heard card counted)) counted_is) refl like;
      wrote = wrote_kept card past counted packet turns wrote going.wrote;
      ended = ended_kept card past counted packet turns going.like.counted_says going.wrote going.ended;
    }
  where
    turns : turns_at card counted packet ≡ turns_at card past packet
    turns = quiet_stays card tuning counted packet there counted_is counted_quiet going.counted_tuned
        ∙ sym (quiet_stays card tuning past packet here is quiet going.tuned)

-- one that is odd
going_lost : (card : CardFields) (tuning : Tuning) (past counted bare : List (List ℕ)) (packet : List ℕ)
    (here : Heard) → hears card.height tuning (length past) packet ≡ here → IsQuiet here →
    (offered card past packet).wrote ≡ [] → (next : List (List ℕ)) → tuning_of card.ca next ≡ Some tuning →
    Like (heard_more (heard card past) here) (heard card counted) (heard card next) →
    Going card tuning past counted bare → Going card tuning (packet ∷ past) counted next
going_lost card tuning past counted bare packet here is quiet nothing next next_tuned like going = record {
  tuned = tuned_more card tuning past packet going.tuned;
  counted_tuned = going.counted_tuned;
  bare_tuned = next_tuned;
  like = like_is (heard_more (heard card past) here) (heard card counted) (heard card next)
      (heard card (packet ∷ past)) (heard card counted) (heard card next)
      (heard_by card tuning past packet going.tuned ∙ ap (heard_more (heard card past)) is) refl refl like;
  wrote = going.wrote ∙ sym (wrote_lost card past packet stays nothing);
  ended = going.ended ∙ sym (ended_lost card past packet stays);
}
  where
    stays : turns_at card past packet ≡ false
    stays = quiet_stays card tuning past packet here is quiet going.tuned

-- the receivers before a packet
pub record Before (card : CardFields) (tuning : Tuning) (n : ℕ) (past counted bare packets : List (List ℕ)) :
    Type 0 where
  pub going : Going card tuning past counted bare
  pub sound : IsSound card past packets
  pub counted_sound : IsSound card counted packets
  pub bare_sound : IsSound card bare packets
  pub once : IsOnce (tally_from card n counted packets)

-- what comes of the packets behind it
abbrev pub Rest : CardFields → Tuning → List (List ℕ) → Type 0
Rest card tuning packets = (n : ℕ) (past counted bare : List (List ℕ)) →
    Before card tuning n past counted bare packets → SameOf card past counted packets

even_counts : (card : CardFields) (tuning : Tuning) (n : ℕ) (past counted bare packets : List (List ℕ))
    (packet : List ℕ) → Before card tuning n past counted bare (packet ∷ packets) →
    is_stray_at card counted packet ≡ false →
    (counts card counted packet ≡ true) × IsOnce (tally_from card (n + 1) (packet ∷ counted) packets)
even_counts card tuning n past counted bare packets packet before even =
    let once = once_more card n counted packets packet before.once in
    let fine = (sound_here card counted packets packet before.counted_sound).0 in (
      counts_by card counted packet once.unmarked once.once even fine,
      once.if_even even (fault_at card n counted packet fine),
    )

step_message : (card : CardFields) (tuning : Tuning) (n : ℕ) (past counted bare packets : List (List ℕ))
    (packet : List ℕ) (thing : Heard) → Speaks thing → WritesAlike card tuning thing →
    ((m : ℕ) → hears card.height tuning m packet ≡ thing) → ((run : List Heard) → is_stray run thing ≡ false) →
    Before card tuning n past counted bare (packet ∷ packets) → Rest card tuning packets →
    SameOf card past counted (packet ∷ packets)
step_message card tuning n past counted bare packets packet thing speaks writes is never before rest =
    same_kept card past counted packets packet kept.0 all.0 counted_all.0 wrote
    (rest (n + 1) (packet ∷ past) (packet ∷ counted) (packet ∷ bare) (record {
      going = going_message card tuning past counted bare packet thing speaks is wrote going;
      sound = all.1;
      counted_sound = counted_all.1;
      bare_sound = bare_all.1;
      once = kept.1;
    }))
  where
    going : Going card tuning past counted bare
    going = before.going

    all : ((offered card past packet).fault ≡ None) × IsSound card (packet ∷ past) packets
    all = sound_here card past packets packet before.sound

    counted_all : ((offered card counted packet).fault ≡ None) × IsSound card (packet ∷ counted) packets
    counted_all = sound_here card counted packets packet before.counted_sound

    bare_all : ((offered card bare packet).fault ≡ None) × IsSound card (packet ∷ bare) packets
    bare_all = sound_here card bare packets packet before.bare_sound

    even : is_stray_at card counted packet ≡ false
    even = stray_by card tuning counted packet going.counted_tuned
        ∙ (ap (is_stray (heard card counted)) (is (length counted)) ∙ never (heard card counted))

    kept : (counts card counted packet ≡ true) × IsOnce (tally_from card (n + 1) (packet ∷ counted) packets)
    kept = even_counts card tuning n past counted bare packets packet before even

    offered_is : (these : List (List ℕ)) → tuning_of card.ca these ≡ Some tuning →
        offered card these packet ≡ run_offering card tuning (length these) (heard card these) thing
    offered_is these tuned = run_by card tuning these packet tuned
        ∙ ap (run_offering card tuning (length these) (heard card these)) (is (length these))

    wrote : (offered card counted packet).wrote ≡ (offered card past packet).wrote
    wrote = ap (λ o. o.wrote) (offered_is counted going.counted_tuned)
        ∙ (sym (writes.alike (length past) (length counted) (length bare) (heard card past) (heard card counted)
        (heard card bare) going.like
        (sym (ap (λ o. o.fault) (offered_is bare going.bare_tuned)) ∙ bare_all.0))
        ∙ sym (ap (λ o. o.wrote) (offered_is past going.tuned)))

-- of what is of no message nothing is written
nothing_of : (card : CardFields) (tuning : Tuning) (past : List (List ℕ)) (packet : List ℕ) (thing : Heard) →
    tuning_of card.ca past ≡ Some tuning → hears card.height tuning (length past) packet ≡ thing →
    ((run : List Heard) → (heard_offering card tuning (length past) run thing).wrote ≡ []) →
    (offered card past packet).wrote ≡ []
nothing_of card tuning past packet thing tuned is each =
    ap (λ o. o.wrote) (run_by card tuning past packet tuned
    ∙ ap (run_offering card tuning (length past) (heard card past)) is)
    ∙ run_nothing card tuning (length past) (heard card past) thing each

step_quiet : (card : CardFields) (tuning : Tuning) (n : ℕ) (past counted bare packets : List (List ℕ))
    (packet : List ℕ) (here there : Heard) → hears card.height tuning (length past) packet ≡ here →
    hears card.height tuning (length counted) packet ≡ there → IsQuiet here → IsQuiet there →
    (offered card past packet).wrote ≡ [] → (offered card counted packet).wrote ≡ [] →
    Like (heard_more (heard card past) here) (heard_more (heard card counted) there) (heard card bare) →
    is_stray_at card counted packet ≡ false →
    Before card tuning n past counted bare (packet ∷ packets) → Rest card tuning packets →
    SameOf card past counted (packet ∷ packets)
step_quiet card tuning n past counted bare packets packet here there is counted_is quiet counted_quiet nothing none like
    even before rest =
    let all = sound_here card past packets packet before.sound in
    let counted_all = sound_here card counted packets packet before.counted_sound in
    let kept = even_counts card tuning n past counted bare packets packet before even in
    let wrote : (offered card counted packet).wrote ≡ (offered card past packet).wrote = none ∙ sym nothing in
    same_kept card past counted packets packet kept.0 all.0 counted_all.0 wrote
    (rest (n + 1) (packet ∷ past) (packet ∷ counted) bare (record {
      going = going_quiet card tuning past counted bare packet here there is counted_is quiet counted_quiet wrote like
          before.going;
      sound = all.1;
      counted_sound = counted_all.1;
      bare_sound = sound_without card bare packets packet before.bare_sound;
      once = kept.1;
    }))

-- what is odd doesn't count
odd_uncounted : (card : CardFields) (past : List (List ℕ)) (packet : List ℕ) → is_stray_at card past packet ≡ true →
    counts card past packet ≡ false
unfolding counts
odd_uncounted card past packet odd = rw odd (by_tests (is_marked packet) (is_doubled card past packet))
  where
    by_tests : (marked doubled : Bool) → (not marked && (not doubled && false)) ≡ false
    by_tests true doubled = refl
    by_tests false true = refl
    by_tests false false = refl

step_odd : (card : CardFields) (tuning : Tuning) (n : ℕ) (past counted bare next packets : List (List ℕ))
    (packet : List ℕ) (here : Heard) → hears card.height tuning (length past) packet ≡ here → IsQuiet here →
    (offered card past packet).wrote ≡ [] → tuning_of card.ca next ≡ Some tuning → IsSound card next packets →
    Like (heard_more (heard card past) here) (heard card counted) (heard card next) →
    is_stray_at card counted packet ≡ true →
    Before card tuning n past counted bare (packet ∷ packets) → Rest card tuning packets →
    SameOf card past counted (packet ∷ packets)
step_odd card tuning n past counted bare next packets packet here is quiet nothing next_tuned next_sound like odd before
    rest =
    let all = sound_here card past packets packet before.sound in
    let once = once_more card n counted packets packet before.once in
    same_lost card past counted packets packet (odd_uncounted card counted packet odd) all.0 nothing
    (rest (n + 1) (packet ∷ past) counted next (record {
      going = going_lost card tuning past counted bare packet here is quiet nothing next next_tuned like before.going;
      sound = all.1;
      counted_sound = sound_without card counted packets packet before.counted_sound;
      bare_sound = next_sound;
      once = once.if_odd odd;
    }))

step_other : (card : CardFields) (tuning : Tuning) (n : ℕ) (past counted bare packets : List (List ℕ))
    (packet : List ℕ) (k : ℕ) (other : List ℕ) → hears card.height tuning 0 packet ≡ Other k other →
    Before card tuning n past counted bare (packet ∷ packets) → Rest card tuning packets →
    SameOf card past counted (packet ∷ packets)
step_other card tuning n past counted bare packets packet k other is before rest =
    tested (is_stray_at card counted packet)
    (λ odd.
    elim (like_stray (heard card past) (heard card counted) (heard card bare) (length past + k) (length counted + k)
    (length bare + k) other
    (ap (is_stray (heard card counted)) (sym (hears_is (length counted)))
    ∙ (sym (stray_by card tuning counted packet going.counted_tuned) ∙ odd)) going.like) [
      | inl held ↦ step_odd card tuning n past counted bare (packet ∷ bare) packets packet
          (Other (length past + k) other)
          (hears_is (length past)) refl nothing (tuned_more card tuning bare packet going.bare_tuned)
          (sound_here card bare packets packet before.bare_sound).1
          (like_is (heard_more (heard card past) (Other (length past + k) other)) (heard card counted)
          (heard_more (heard card bare) (Other (length bare + k) other))
          (heard_more (heard card past) (Other (length past + k) other)) (heard card counted)
          (heard card (packet ∷ bare))
          refl refl (heard_by card tuning bare packet going.bare_tuned
          ∙ ap (heard_more (heard card bare)) (hears_is (length bare))) held) odd before rest
      | inr held ↦ step_odd card tuning n past counted bare bare packets packet (Other (length past + k) other)
          (hears_is (length past)) refl nothing going.bare_tuned
          (sound_without card bare packets packet before.bare_sound) held odd before rest
    ])
    (λ even.
    step_quiet card tuning n past counted bare packets packet (Other (length past + k) other)
    (Other (length counted + k) other) (hears_is (length past)) (hears_is (length counted)) refl refl nothing none
    (like_other (heard card past) (heard card counted) (heard card bare) (length past + k) (length counted + k) other
    going.like) even before rest)
  where
    going : Going card tuning past counted bare
    going = before.going

    hears_is : (m : ℕ) → hears card.height tuning m packet ≡ Other (m + k) other
    hears_is m = hears_at card.height m tuning packet ∙ ap (thing_later m) is

    nothing : (offered card past packet).wrote ≡ []
    nothing = nothing_of card tuning past packet (Other (length past + k) other) going.tuned (hears_is (length past))
        (λ run. refl)

    none : (offered card counted packet).wrote ≡ []
    none = nothing_of card tuning counted packet (Other (length counted + k) other) going.counted_tuned
        (hears_is (length counted)) (λ run. refl)

step_dropped : (card : CardFields) (tuning : Tuning) (n : ℕ) (past counted bare packets : List (List ℕ))
    (packet : List ℕ) → hears card.height tuning 0 packet ≡ Dropped →
    Before card tuning n past counted bare (packet ∷ packets) → Rest card tuning packets →
    SameOf card past counted (packet ∷ packets)
unfolding is_stray
step_dropped card tuning n past counted bare packets packet is before rest =
    step_quiet card tuning n past counted bare packets packet Dropped Dropped (hears_is (length past))
    (hears_is (length counted)) refl refl
    (nothing_of card tuning past packet Dropped going.tuned (hears_is (length past)) (λ run. refl))
    (nothing_of card tuning counted packet Dropped going.counted_tuned (hears_is (length counted)) (λ run. refl))
    (like_dropped (heard card past) (heard card counted) (heard card bare) going.like)
    (stray_by card tuning counted packet going.counted_tuned
    ∙ ap (is_stray (heard card counted)) (hears_is (length counted))) before rest
  where
    going : Going card tuning past counted bare
    going = before.going

    hears_is : (m : ℕ) → hears card.height tuning m packet ≡ Dropped
    hears_is m = hears_at card.height m tuning packet ∙ ap (thing_later m) is

step : (card : CardFields) (tuning : Tuning) (n : ℕ) (past counted bare packets : List (List ℕ)) (packet : List ℕ)
    (thing : Heard) → hears card.height tuning 0 packet ≡ thing →
    Before card tuning n past counted bare (packet ∷ packets) → Rest card tuning packets →
    SameOf card past counted (packet ∷ packets)
unfolding is_stray
step card tuning n past counted bare packets packet Dropped is before rest =
    step_dropped card tuning n past counted bare packets packet is before rest
step card tuning n past counted bare packets packet (Entitles emm) is before rest =
    step_message card tuning n past counted bare packets packet (Entitles emm) (speaks_emm emm)
    (emm_alike card tuning emm) (λ m. hears_at card.height m tuning packet ∙ ap (thing_later m) is) (λ run. refl) before
    rest
step card tuning n past counted bare packets packet (Controls part) is before rest =
    step_message card tuning n past counted bare packets packet (Controls part) (speaks_part part)
    (part_alike card tuning part) (λ m. hears_at card.height m tuning packet ∙ ap (thing_later m) is) (λ run. refl)
    before rest
step card tuning n past counted bare packets packet (BadEmm fault) is before rest =
    step_message card tuning n past counted bare packets packet (BadEmm fault) (speaks_bad_emm fault)
    (bad_emm_alike card tuning fault) (λ m. hears_at card.height m tuning packet ∙ ap (thing_later m) is) (λ run. refl)
    before rest
step card tuning n past counted bare packets packet (BadEcm fault) is before rest =
    step_message card tuning n past counted bare packets packet (BadEcm fault) (speaks_bad_ecm fault)
    (bad_ecm_alike card tuning fault) (λ m. hears_at card.height m tuning packet ∙ ap (thing_later m) is) (λ run. refl)
    before rest
step card tuning n past counted bare packets packet (Other k other) is before rest =
    step_other card tuning n past counted bare packets packet k other is before rest

-- at the end
ends : (card : CardFields) (tuning : Tuning) (past counted bare : List (List ℕ)) → Going card tuning past counted bare →
    SameOf card past counted []
unfolding out_from counting ending_of
ends card tuning past counted bare going = record {
  out = refl;
  ending = ap (λ (t : Option Tuning). if is_none t then NoCat else endings_joined (ended_before card counted)
      (run_ending card (heard card counted) (run_wrote card counted))) (going.counted_tuned ∙ sym going.tuned)
      ∙ (ap (λ (e : Ending). if is_none (tuning_of card.ca past) then NoCat else endings_joined e
      (run_ending card (heard card counted) (run_wrote card counted))) going.ended
      ∙ ap (λ (e : Ending). if is_none (tuning_of card.ca past) then NoCat
      else endings_joined (ended_before card past) e)
      (ending_same card past counted (run_wrote card counted) going.like.counted_says
      ∙ ap (run_ending card (heard card past)) going.wrote));
}

-- the packets after the CAT
goes : (card : CardFields) (tuning : Tuning) (packets : List (List ℕ)) (n : ℕ) (past counted bare : List (List ℕ)) →
    Before card tuning n past counted bare packets → SameOf card past counted packets
goes card tuning [] n past counted bare before = ends card tuning past counted bare before.going
goes card tuning (packet ∷ packets) n past counted bare before =
    step card tuning n past counted bare packets packet (hears card.height tuning 0 packet) refl before
    (goes card tuning packets)

-- the CAT
pub tuned_now : (card : CardFields) (past : List (List ℕ)) (packet : List ℕ) → tuning_of card.ca past ≡ None →
    tuning_of card.ca (packet ∷ past) ≡ cat_tuning card.ca packet
unfolding tuning_of
tuned_now card past packet none = ap (λ (t : Option Tuning). tuned_by t (cat_tuning card.ca packet)) none

pub unheard_more : (card : CardFields) (past : List (List ℕ)) (packet : List ℕ) → tuning_of card.ca past ≡ None →
    heard card (packet ∷ past) ≡ heard card past
unfolding heard
unheard_more card past packet none =
    ap (λ (t : Option Tuning). heard_with card t (length past) packet (heard card past)) none

untuned_even : (card : CardFields) (past : List (List ℕ)) (packet : List ℕ) → tuning_of card.ca past ≡ None →
    is_stray_at card past packet ≡ false
unfolding is_stray_at
untuned_even card past packet none =
    ap (λ (t : Option Tuning). option_map_or (λ tuning. is_stray (heard card past) (hears card.height tuning
    (length past) packet)) t false) none

nothing_more : (card : CardFields) (past : List (List ℕ)) → SameOf card past past []
unfolding out_from counting
nothing_more card past = record { out = refl; ending = refl }

begins : (card : CardFields) (packets : List (List ℕ)) (n : ℕ) (past : List (List ℕ)) →
    tuning_of card.ca past ≡ None → heard card past ≡ [] → IsSound card past packets →
    IsOnce (tally_from card n past packets) → SameOf card past past packets
begins card [] n past none quiet sound once = nothing_more card past
begins card (packet ∷ packets) n past none quiet sound once =
    let all = sound_here card past packets packet sound in
    let more = once_more card n past packets packet once in
    let even = untuned_even card past packet none in
    let rest = more.if_even even (fault_at card n past packet all.0) in
    same_kept card past past packets packet (counts_by card past packet more.unmarked more.once even all.0) all.0 all.0
    refl (by_cat (cat_tuning card.ca packet) refl (begins card packets (n + 1) (packet ∷ past)) all.1 rest)
  where
    unheard : heard card (packet ∷ past) ≡ []
    unheard = unheard_more card past packet none ∙ quiet

    by_cat : (tuned : Option Tuning) → cat_tuning card.ca packet ≡ tuned →
        (tuning_of card.ca (packet ∷ past) ≡ None → heard card (packet ∷ past) ≡ [] →
        IsSound card (packet ∷ past) packets → IsOnce (tally_from card (n + 1) (packet ∷ past) packets) →
        SameOf card (packet ∷ past) (packet ∷ past) packets) →
        IsSound card (packet ∷ past) packets → IsOnce (tally_from card (n + 1) (packet ∷ past) packets) →
        SameOf card (packet ∷ past) (packet ∷ past) packets
    by_cat None is later sound once = later (tuned_now card past packet none ∙ is) unheard sound once
    by_cat (Some tuning) is later sound once =
        let tuned : tuning_of card.ca (packet ∷ past) ≡ Some tuning = tuned_now card past packet none ∙ is in
        goes card tuning packets (n + 1) (packet ∷ past) (packet ∷ past) (packet ∷ past) (record {
          going = record {
            tuned = tuned;
            counted_tuned = tuned;
            bare_tuned = tuned;
            like = like_is [] [] [] (heard card (packet ∷ past)) (heard card (packet ∷ past))
                (heard card (packet ∷ past)) unheard unheard unheard like_none;
            wrote = refl;
            ended = refl;
          };
          sound = sound;
          counted_sound = sound;
          bare_sound = sound;
          once = once;
        })

nothing_tuned : (card : CardFields) → tuning_of card.ca [] ≡ None
unfolding tuning_of
nothing_tuned card = refl

nothing_heard : (card : CardFields) → heard card [] ≡ []
unfolding heard
nothing_heard card = refl

-- from the begin on
pub same_of : (card : CardFields) (packets : List (List ℕ)) → IsSound card [] packets →
    IsOnce (tally_from card 0 [] packets) → SameOf card [] [] packets
same_of card packets sound once =
    begins card packets 0 [] (nothing_tuned card) (nothing_heard card) sound once

pub same_out : (card : CardFields) (packets : List (List ℕ)) →
    ((flags : List Bool) → break_from card [] (chosen flags packets) ≡ None) →
    (tally_from card 0 [] packets).marked ≡ 0 → (tally_from card 0 [] packets).doubled ≡ 0 →
    out_from card [] (counting card [] packets) ≡ out_from card [] packets
same_out card packets sound unmarked once = (same_of card packets sound (unmarked, once)).out

pub same_ending : (card : CardFields) (packets : List (List ℕ)) →
    ((flags : List Bool) → break_from card [] (chosen flags packets) ≡ None) →
    (tally_from card 0 [] packets).marked ≡ 0 → (tally_from card 0 [] packets).doubled ≡ 0 →
    ending_of card (reverse (counting card [] packets)) ≡ ending_of card (reverse packets)
same_ending card packets sound unmarked once =
    ap (ending_of card) (sym (append-nil (reverse (counting card [] packets)))
    ∙ reversed (counting card [] packets) [])
    ∙ ((same_of card packets sound (unmarked, once)).ending
    ∙ ap (ending_of card) (sym (reversed packets []) ∙ append-nil (reverse packets)))
