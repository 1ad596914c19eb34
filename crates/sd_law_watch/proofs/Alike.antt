-- A receiver of all packets, one of those that count, and one of messages and at most one odd packet after each.
use Rattle.std.proofs.Common.{◌≡◌, refl, ℕ, ◌&&◌, ◌||◌, Bool, true, false, not, List, [], ◌∷◌, Option}
use Rattle.std.proofs.Common.{Some, None, sym, ap, ◌∙◌, inl, inr, ◌⊎◌}
use Rattle.std.specs.Prelude.{nat_lt}
use Rattle.std.specs.Option.{option_map_or}
use Rattle.std.proofs.lemmas.Bool.{false≢true, and_parts, not-true}
use Rattle.sd_base.proofs.Bools.{tested}
use Rattle.sd_site_cards.specs.CardFields.{CardFields}
use Rattle.sd_message.specs.EcmParts.{Message}
use Rattle.sd_message.specs.declared.emm.Emm.{Emm}
use Rattle.sd_message.specs.declared.emm_fault.EmmFault.{EmmFault}
use Rattle.sd_message.specs.declared.ecm_part.EcmPart.{EcmPart}
use Rattle.sd_message.specs.declared.ecm_fault.EcmFault.{EcmFault}
use Rattle.sd_spec.specs.Heard.{Heard, Dropped, Entitles, Controls, BadEmm, BadEcm, Other}
use Rattle.sd_spec.specs.Stretches.{Stretch, newest_message, completes, is_closed, others, message_parts_to, current}
use Rattle.sd_spec.specs.Runs.{run_name_in, run_name_heard, are_two, is_turn, of_run}
use Rattle.sd_spec.specs.Keys.{key_at}
use Rattle.sd_spec.specs.Confirmed.{is_foreign_under}
use Rattle.sd_spec.specs.Offered.{heard_more}
use Rattle.sd_spec.specs.Offered.{is_back, is_before}
use Rattle.sd_spec.specs.Counting.{is_scrambled_packet, is_stray}
use Rattle.sd_spec.proofs.Runs.{same_run, new_run}
use Rattle.sd_spec.proofs.Hearing.{newest_waits, newest_completes}
use Rattle.sd_law_watch.proofs.Odd.{is_odd_held}
use Rattle.sd_law_watch.proofs.Held.{packets_of}
use Rattle.sd_law_watch.proofs.Said.{said, stretch_said, turn_said, run_to_said, newest_said, completes_said}
use Rattle.sd_law_watch.proofs.Said.{closed_said, current_said, key_said}

-- two that heard the same of messages
newest_same : (a b : List Heard) → said a ≡ said b → stretch_said (newest_message a) ≡ stretch_said (newest_message b)
newest_same a b same = sym (newest_said a) ∙ (ap newest_message same ∙ newest_said b)

pub message_same : (a b : List Heard) → said a ≡ said b → (newest_message a).message ≡ (newest_message b).message
message_same a b same = ap (λ (s : Stretch). s.message) (newest_same a b same)

pub before_same : (a b : List Heard) → said a ≡ said b → said (newest_message a).before ≡ said (newest_message b).before
before_same a b same = ap (λ (s : Stretch). s.before) (newest_same a b same)

pub key_same : (card : CardFields) (a b : List Heard) (q : ℕ) → said a ≡ said b → key_at card a q ≡ key_at card b q
key_same card a b q same = sym (key_said q card a) ∙ (ap (λ (p : List Heard). key_at card p q) same ∙ key_said q card b)

pub closed_same : (a b : List Heard) → said a ≡ said b → is_closed a ≡ is_closed b
closed_same a b same = sym (closed_said a) ∙ (ap is_closed same ∙ closed_said b)

pub turn_same : (a b : List Heard) (thing : Heard) → said a ≡ said b → is_turn a thing ≡ is_turn b thing
turn_same a b thing same =
    sym (turn_said a thing) ∙ (ap (λ (p : List Heard). is_turn p thing) same ∙ turn_said b thing)

pub completes_same : (a b : List Heard) (thing : Heard) → said a ≡ said b → completes a thing ≡ completes b thing
completes_same a b thing same =
    sym (completes_said a thing) ∙ (ap (λ (p : List Heard). completes p thing) same ∙ completes_said b thing)

pub run_to_same : (a b : List Heard) (part : EcmPart) → said a ≡ said b →
    message_parts_to (newest_message a) part ≡ message_parts_to (newest_message b) part
run_to_same a b part same =
    sym (run_to_said (newest_message a) part)
    ∙ (ap (λ (s : Stretch). message_parts_to s part) (newest_same a b same) ∙ run_to_said (newest_message b) part)

pub back_same : (a b : List Heard) (message : Message) → said a ≡ said b → is_back a message ≡ is_back b message
unfolding is_back
back_same a b message same =
    ap (λ (now : ℕ). nat_lt message.period now || option_map_or (is_before message) (newest_message a).message false)
    (sym (current_said a) ∙ (ap current same ∙ current_said b))
    ∙ ap (λ (m : Option Message). nat_lt message.period (current b) || option_map_or (is_before message) m false)
    (message_same a b same)

-- the first two hold the same packets, the third none
pub record HoldSame (all counted bare : List Heard) : Type 0 where
  pub same : packets_of (others (newest_message all).after) ≡ packets_of (others (newest_message counted).after)
  pub none : others (newest_message bare).after ≡ []

-- the third holds a packet alone, which is odd
pub record HoldsOdd (all bare : List Heard) : Type 0 where
  pub number : ℕ
  pub packet : List ℕ
  pub alone : others (newest_message bare).after ≡ (number, packet) ∷ []
  pub odd : option_map_or (λ message. is_odd_held message.word (number, packet)) (newest_message all).message false
      ≡ true

-- all three heard the same of messages
pub record Like (all counted bare : List Heard) : Type 0 where
  pub counted_says : said all ≡ said counted
  pub bare_says : said all ≡ said bare
  pub holds : HoldSame all counted bare ⊎ HoldsOdd all bare

pub like_none : Like [] [] []
unfolding newest_message others
like_none = record { counted_says = refl; bare_says = refl; holds = inl (record { same = refl; none = refl }) }

-- a thing that is heard is of a message
pub record Speaks (thing : Heard) : Type 0 where
  pub says : (past : List Heard) → said (thing ∷ past) ≡ thing ∷ said past
  pub holds : (past : List Heard) → others (thing ∷ past) ≡ others past

pub speaks_emm : (emm : Emm) → Speaks (Entitles emm)
unfolding others
speaks_emm emm = record { says = λ past. refl; holds = λ past. refl }

pub speaks_part : (part : EcmPart) → Speaks (Controls part)
unfolding others
speaks_part part = record { says = λ past. refl; holds = λ past. refl }

pub speaks_bad_emm : (fault : EmmFault) → Speaks (BadEmm fault)
unfolding others
speaks_bad_emm fault = record { says = λ past. refl; holds = λ past. refl }

pub speaks_bad_ecm : (fault : EcmFault) → Speaks (BadEcm fault)
unfolding others
speaks_bad_ecm fault = record { says = λ past. refl; holds = λ past. refl }

-- what was heard of the run that is current with a thing
pub like_run : (a b c : List Heard) (thing : Heard) → Like a b c →
    Like (of_run a thing) (of_run b thing) (of_run c thing)
like_run a b c thing like =
    tested (is_turn a thing)
    (λ turns.
    rw (new_run a thing turns) (rw (new_run b thing (sym (turn_same a b thing like.counted_says) ∙ turns))
    (rw (new_run c thing (sym (turn_same a c thing like.bare_says) ∙ turns)) like_none)))
    (λ stays.
    rw (same_run a thing stays) (rw (same_run b thing (sym (turn_same a b thing like.counted_says) ∙ stays))
    (rw (same_run c thing (sym (turn_same a c thing like.bare_says) ∙ stays)) like)))

-- one thing more of a message
after_waits : (past : List Heard) (thing : Heard) → Speaks thing → completes past thing ≡ None →
    others (newest_message (thing ∷ past)).after ≡ others (newest_message past).after
after_waits past thing speaks waits =
    ap (λ (s : Stretch). others s.after) (newest_waits past thing waits) ∙ speaks.holds (newest_message past).after

message_waits : (past : List Heard) (thing : Heard) → completes past thing ≡ None →
    (newest_message (thing ∷ past)).message ≡ (newest_message past).message
message_waits past thing waits = ap (λ (s : Stretch). s.message) (newest_waits past thing waits)

after_completes : (past : List Heard) (thing : Heard) (message : Message) → completes past thing ≡ Some message →
    others (newest_message (thing ∷ past)).after ≡ []
unfolding others
after_completes past thing message done =
    ap (λ (s : Stretch). others s.after) (newest_completes past thing message done)

like_next : (a b c : List Heard) (thing : Heard) → Speaks thing → Like a b c →
    Like (thing ∷ a) (thing ∷ b) (thing ∷ c)
like_next a b c thing speaks like = record {
  counted_says =
      speaks.says a ∙ (ap (λ (past : List Heard). thing ∷ past) like.counted_says ∙ sym (speaks.says b));
  bare_says = speaks.says a ∙ (ap (λ (past : List Heard). thing ∷ past) like.bare_says ∙ sym (speaks.says c));
  holds = by_message (completes a thing) refl like.holds;
}
  where
    b_same : completes b thing ≡ completes a thing
    b_same = sym (completes_same a b thing like.counted_says)

    c_same : completes c thing ≡ completes a thing
    c_same = sym (completes_same a c thing like.bare_says)

    by_message : (message : Option Message) → completes a thing ≡ message → HoldSame a b c ⊎ HoldsOdd a c →
        HoldSame (thing ∷ a) (thing ∷ b) (thing ∷ c) ⊎ HoldsOdd (thing ∷ a) (thing ∷ c)
    by_message (Some message) done holds = inl (record {
      same = ap packets_of (after_completes a thing message done)
          ∙ sym (ap packets_of (after_completes b thing message (b_same ∙ done)));
      none = after_completes c thing message (c_same ∙ done);
    })
    by_message None waits (inl it) = inl (record {
      same = ap packets_of (after_waits a thing speaks waits)
          ∙ (it.same ∙ sym (ap packets_of (after_waits b thing speaks (b_same ∙ waits))));
      none = after_waits c thing speaks (c_same ∙ waits) ∙ it.none;
    })
    by_message None waits (inr it) = inr (record {
      number = it.number;
      packet = it.packet;
      alone = after_waits c thing speaks (c_same ∙ waits) ∙ it.alone;
      odd = ap (λ (m : Option Message). option_map_or (λ message. is_odd_held message.word
          (it.number, it.packet)) m false) (message_waits a thing waits)
          ∙ it.odd;
    })

more_closed : (past : List Heard) (thing : Heard) → is_closed (of_run past thing) ≡ true → heard_more past thing ≡ past
more_closed past thing closed = rw closed refl

more_open : (past : List Heard) (thing : Heard) → is_closed (of_run past thing) ≡ false →
    heard_more past thing ≡ thing ∷ of_run past thing
more_open past thing opened = rw opened refl

pub like_more : (a b c : List Heard) (thing : Heard) → Speaks thing → Like a b c →
    Like (heard_more a thing) (heard_more b thing) (heard_more c thing)
like_more a b c thing speaks like =
    tested (is_closed (of_run a thing))
    (λ closed.
    rw (more_closed a thing closed) (rw (more_closed b thing (b_same ∙ closed))
    (rw (more_closed c thing (c_same ∙ closed)) like)))
    (λ opened.
    rw (more_open a thing opened) (rw (more_open b thing (b_same ∙ opened))
    (rw (more_open c thing (c_same ∙ opened))
    (like_next (of_run a thing) (of_run b thing) (of_run c thing) thing speaks run))))
  where
    run : Like (of_run a thing) (of_run b thing) (of_run c thing)
    run = like_run a b c thing like

    b_same : is_closed (of_run b thing) ≡ is_closed (of_run a thing)
    b_same = sym (closed_same (of_run a thing) (of_run b thing) run.counted_says)

    c_same : is_closed (of_run c thing) ≡ is_closed (of_run a thing)
    c_same = sym (closed_same (of_run a thing) (of_run c thing) run.bare_says)

-- a thing that is of no message begins no run
pub never_two : (name : Option (Option ℕ)) → are_two name None ≡ false
never_two None = refl
never_two (Some name) = refl

pub quiet_turn : (past : List Heard) (thing : Heard) → run_name_heard thing ≡ None → is_turn past thing ≡ false
unfolding is_turn
quiet_turn past thing quiet = ap (are_two (run_name_in past)) quiet ∙ never_two (run_name_in past)

quiet_run : (past : List Heard) (thing : Heard) → run_name_heard thing ≡ None → of_run past thing ≡ past
quiet_run past thing quiet = same_run past thing (quiet_turn past thing quiet)

quiet_closed : (past : List Heard) (thing : Heard) → run_name_heard thing ≡ None → is_closed past ≡ true →
    heard_more past thing ≡ past
quiet_closed past thing quiet closed = rw (quiet_run past thing quiet) (rw closed refl)

quiet_open : (past : List Heard) (thing : Heard) → run_name_heard thing ≡ None → is_closed past ≡ false →
    heard_more past thing ≡ thing ∷ past
quiet_open past thing quiet opened = rw (quiet_run past thing quiet) (rw opened refl)

-- one other packet more that counts
other_next : (a b c : List Heard) (n m : ℕ) (packet : List ℕ) → Like a b c →
    Like (Other n packet ∷ a) (Other m packet ∷ b) c
unfolding others
other_next a b c n m packet like =
    record { counted_says = like.counted_says; bare_says = like.bare_says; holds = by_state like.holds }
  where
    by_state : HoldSame a b c ⊎ HoldsOdd a c →
        HoldSame (Other n packet ∷ a) (Other m packet ∷ b) c ⊎ HoldsOdd (Other n packet ∷ a) c
    by_state (inl it) = inl (record {
      same = ap (λ (s : Stretch). packets_of (others s.after)) (newest_waits a (Other n packet) refl)
          ∙ (ap (λ (packets : List (List ℕ)). packet ∷ packets) it.same
          ∙ sym (ap (λ (s : Stretch). packets_of (others s.after)) (newest_waits b (Other m packet) refl)));
      none = it.none;
    })
    by_state (inr it) = inr (record {
      number = it.number;
      packet = it.packet;
      alone = it.alone;
      odd = ap (λ (m : Option Message). option_map_or (λ message. is_odd_held message.word
          (it.number, it.packet)) m false) (message_waits a (Other n packet) refl)
          ∙ it.odd;
    })

pub like_other : (a b c : List Heard) (n m : ℕ) (packet : List ℕ) → Like a b c →
    Like (heard_more a (Other n packet)) (heard_more b (Other m packet)) c
like_other a b c n m packet like =
    let same : is_closed b ≡ is_closed a = sym (closed_same a b like.counted_says) in
    tested (is_closed a)
    (λ closed. rw (quiet_closed a (Other n packet) refl closed)
    (rw (quiet_closed b (Other m packet) refl (same ∙ closed)) like))
    (λ opened. rw (quiet_open a (Other n packet) refl opened)
    (rw (quiet_open b (Other m packet) refl (same ∙ opened)) (other_next a b c n m packet like)))

-- one that is dropped
dropped_next : (a b c : List Heard) → Like a b c → Like (Dropped ∷ a) (Dropped ∷ b) c
unfolding others
dropped_next a b c like =
    record { counted_says = like.counted_says; bare_says = like.bare_says; holds = by_state like.holds }
  where
    by_state : HoldSame a b c ⊎ HoldsOdd a c → HoldSame (Dropped ∷ a) (Dropped ∷ b) c ⊎ HoldsOdd (Dropped ∷ a) c
    by_state (inl it) = inl (record {
      same = ap (λ (s : Stretch). packets_of (others s.after)) (newest_waits a Dropped refl)
          ∙ (it.same ∙ sym (ap (λ (s : Stretch). packets_of (others s.after)) (newest_waits b Dropped refl)));
      none = it.none;
    })
    by_state (inr it) = inr (record {
      number = it.number;
      packet = it.packet;
      alone = it.alone;
      odd = ap (λ (m : Option Message). option_map_or (λ message. is_odd_held message.word
          (it.number, it.packet)) m false) (message_waits a Dropped refl)
          ∙ it.odd;
    })

pub like_dropped : (a b c : List Heard) → Like a b c → Like (heard_more a Dropped) (heard_more b Dropped) c
like_dropped a b c like =
    let same : is_closed b ≡ is_closed a = sym (closed_same a b like.counted_says) in
    tested (is_closed a)
    (λ closed. rw (quiet_closed a Dropped refl closed) (rw (quiet_closed b Dropped refl (same ∙ closed)) like))
    (λ opened. rw (quiet_open a Dropped refl opened) (rw (quiet_open b Dropped refl (same ∙ opened))
    (dropped_next a b c like)))

-- one that is odd: the first holds it, the second doesn't, and the third holds one
stray_parts : (past : List Heard) (n m : ℕ) (packet : List ℕ) → is_stray past (Other n packet) ≡ true →
    (is_closed past ≡ false)
    × (option_map_or (λ message. is_odd_held message.word (m, packet)) (newest_message past).message false ≡ true)
unfolding is_stray
stray_parts past n m packet stray =
    let both = and_parts (not (is_closed past)) (is_scrambled_packet packet
    && option_map_or (λ message. is_foreign_under message.word packet) (newest_message past).message false) stray in
    (not-true (is_closed past) both.0, by_message (newest_message past).message both.1)
  where
    by_message : (message : Option Message) →
        (is_scrambled_packet packet && option_map_or (λ message. is_foreign_under message.word packet) message false)
        ≡ true → option_map_or (λ message. is_odd_held message.word (m, packet)) message false ≡ true
    by_message None is = absurd (false≢true (sym (no_and (is_scrambled_packet packet)) ∙ is))
      where
        no_and : (b : Bool) → (b && false) ≡ false
        no_and true = refl
        no_and false = refl
    by_message (Some message) is = is

stray_next : (a b c : List Heard) (n k : ℕ) (packet : List ℕ) →
    option_map_or (λ message. is_odd_held message.word (k, packet)) (newest_message b).message false ≡ true →
    Like a b c → Like (Other n packet ∷ a) b (Other k packet ∷ c) ⊎ Like (Other n packet ∷ a) b c
unfolding others
stray_next a b c n k packet odd like = by_state like.holds
  where
    told : (newest_message (Other n packet ∷ a)).message ≡ (newest_message a).message
    told = message_waits a (Other n packet) refl

    by_state : HoldSame a b c ⊎ HoldsOdd a c →
        Like (Other n packet ∷ a) b (Other k packet ∷ c) ⊎ Like (Other n packet ∷ a) b c
    by_state (inl it) = inl (record {
      counted_says = like.counted_says;
      bare_says = like.bare_says;
      holds = inr (record {
        number = k;
        packet = packet;
        alone = ap (λ (s : Stretch). others s.after) (newest_waits c (Other k packet) refl)
            ∙ ap (λ (held : List (ℕ × List ℕ)). (k, packet) ∷ held) it.none;
        odd = ap (λ (m : Option Message). option_map_or (λ message. is_odd_held message.word (k, packet)) m false)
            (told ∙ message_same a b like.counted_says)
            ∙ odd;
      });
    })
    by_state (inr it) = inr (record {
      counted_says = like.counted_says;
      bare_says = like.bare_says;
      holds = inr (record {
        number = it.number;
        packet = it.packet;
        alone = it.alone;
        odd = ap (λ (m : Option Message). option_map_or (λ message. is_odd_held message.word
            (it.number, it.packet)) m false) told
            ∙ it.odd;
      });
    })

pub like_stray : (a b c : List Heard) (n m k : ℕ) (packet : List ℕ) → is_stray b (Other m packet) ≡ true →
    Like a b c →
    Like (heard_more a (Other n packet)) b (heard_more c (Other k packet)) ⊎ Like (heard_more a (Other n packet)) b c
like_stray a b c n m k packet stray like =
    let parts = stray_parts b m k packet stray in
    let a_open : is_closed a ≡ false = closed_same a b like.counted_says ∙ parts.0 in
    let c_open : is_closed c ≡ false = sym (closed_same a c like.bare_says) ∙ a_open in
    rw (quiet_open a (Other n packet) refl a_open) (rw (quiet_open c (Other k packet) refl c_open)
    (stray_next a b c n k packet parts.1 like))
