-- Two receivers of which one lost odd packets write the same, if a receiver of one odd packet alone refuses none.
use Rattle.std.proofs.Common.{◌≡◌, refl, ℕ, ◌==◌, Bool, true, false, List, [], ◌∷◌, length, map, Option}
use Rattle.std.proofs.Common.{reverse}
use Rattle.std.proofs.Common.{Some, None, sym, ap, ◌∙◌, inl, inr, ◌⊎◌, bytes_eq}
use Rattle.std.specs.Prelude.{if◌then◌else◌, nat_le, nat_lt}
use Rattle.std.specs.Option.{option_map_or}
use Rattle.std.proofs.lemmas.Bool.{false≢true, and_parts, not-true}
use Rattle.sd_tree_keys.specs.Keys.{check_value_of}
use Rattle.sd_packet.specs.Header.{scrambling_of}
use Rattle.sd_cipher.specs.Wrapping.{wrapped as under}
use Rattle.sd_psi.specs.declared.our_cat.Tuning.{Tuning}
use Rattle.sd_site_cards.specs.CardFields.{CardFields}
use Rattle.sd_message.specs.EcmParts.{Message}
use Rattle.sd_message.specs.declared.emm.Emm.{Emm}
use Rattle.sd_message.specs.declared.emm_fault.EmmFault.{EmmFault}
use Rattle.sd_message.specs.declared.emm_fault.EmmFault.TheVariants as Emms
use Rattle.sd_message.specs.declared.ecm_part.EcmPart.{EcmPart}
use Rattle.sd_message.specs.declared.ecm_fault.EcmFault.{EcmFault}
use Rattle.sd_message.specs.declared.ecm_fault.EcmFault.TheVariants as Ecms
use Rattle.sd_message.specs.declared.stream_fault.StreamFault.{StreamFault}
use Rattle.sd_message.specs.declared.stream_fault.StreamFault.TheVariants as Fault
use Rattle.sd_spec.specs.Heard.{Heard, Entitles, Controls, BadEmm, BadEcm}
use Rattle.sd_spec.specs.Stretches.{Stretch, newest_message, completes, is_closed, others, message_parts_to, current}
use Rattle.sd_spec.specs.Stretches.{sections_seen}
use Rattle.sd_spec.specs.Runs.{of_run}
use Rattle.sd_spec.specs.Keys.{key_at, key_from}
use Rattle.sd_spec.specs.Confirmed.{Segment, WrittenPackets, judged_packet, is_foreign_under, written_from}
use Rattle.sd_spec.specs.Confirmed.{then_segment_output}
use Rattle.sd_spec.specs.Offered.{Offering, run_offering, heard_offering, part_offering, part_fault, is_mixed}
use Rattle.sd_spec.specs.Offered.{message_offering, stretch_wrote, segment_wrote, wrote_or, word_fault, is_back}
use Rattle.sd_spec.specs.Offered.{emm_offering, key_offering, key_if_none, no_offering, refused_offering, most_held}
use Rattle.sd_spec.specs.Counting.{is_scrambled_packet}
use Rattle.sd_law_watch.proofs.Odd.{is_odd_held}
use Rattle.sd_law_watch.proofs.Held.{segment_same}
use Rattle.sd_law_watch.proofs.Alike.{Like, HoldSame, HoldsOdd, like_run, message_same, before_same, key_same}
use Rattle.sd_law_watch.proofs.Alike.{closed_same, completes_same, run_to_same, back_same}

-- the odd packet is refused
odd_first : (segment : Segment) (before : List (List ℕ)) (n : ℕ) (packet : List ℕ) (rest : WrittenPackets) →
    is_odd_held segment.first.word (n, packet) ≡ true →
    (then_segment_output (judged_packet segment before (n, packet)) rest).refused ≡ Some n
unfolding judged_packet
odd_first segment before n packet rest odd =
    let parts = and_parts (is_scrambled_packet packet) (is_foreign_under segment.first.word packet) odd in
    rw (not-true (scrambling_of packet == 0) parts.0) (rw (parts.1) refl)

odd_alone : (segment : Segment) (n : ℕ) (packet : List ℕ) → is_odd_held segment.first.word (n, packet) ≡ true →
    (written_from segment [] ((n, packet) ∷ [])).refused ≡ Some n
unfolding written_from
odd_alone segment n packet odd =
    odd_first segment [] n packet (written_from segment (packet ∷ []) []) odd

-- so a stretch that holds it alone is refused once its key is known
odd_refused : (card : CardFields) (tuning : Tuning) (stretch : Stretch) (a b : Message) (key : List ℕ) (n : ℕ)
    (packet : List ℕ) → others stretch.after ≡ (n, packet) ∷ [] → is_odd_held a.word (n, packet) ≡ true →
    (segment_wrote card tuning stretch a b (Some key)).refused ≡ Some n
odd_refused card tuning stretch a b key n packet alone odd =
    ap (λ (held : List (ℕ × List ℕ)).
    (if nat_lt most_held (length held) then (record { packets = []; refused = None }) else written_from (record {
      first = a;
      last = b;
      word = under key a.word a.wrapped;
      ca = card.ca;
      ecm = tuning.ecm;
      packets = map (λ it. it.1) held;
    }) [] held).refused) (ap reverse alone)
    ∙ odd_alone (record {
      first = a;
      last = b;
      word = under key a.word a.wrapped;
      ca = card.ca;
      ecm = tuning.ecm;
      packets = packet ∷ [];
    }) n packet odd

-- between two messages
keyed_same : (card : CardFields) (tuning : Tuning) (all counted bare : List Heard) (f m : Message)
    (key : Option (List ℕ)) → HoldSame all counted bare ⊎ HoldsOdd all bare → (newest_message all).message ≡ Some f →
    (segment_wrote card tuning (newest_message bare) f m key).refused ≡ None →
    (segment_wrote card tuning (newest_message all) f m key).packets
    ≡ (segment_wrote card tuning (newest_message counted) f m key).packets
keyed_same card tuning all counted bare f m None holds told none = refl
keyed_same card tuning all counted bare f m (Some key) (inl it) told none =
    segment_same card tuning (newest_message all) (newest_message counted) f m key it.same
keyed_same card tuning all counted bare f m (Some key) (inr it) told none =
    let odd : is_odd_held f.word (it.number, it.packet) ≡ true
    = ap (λ (message : Option Message). option_map_or (λ message. is_odd_held message.word
    (it.number, it.packet)) message false) (sym told) ∙ it.odd in
    absurd (cc (sym (odd_refused card tuning (newest_message bare) f m key it.number it.packet it.alone odd) ∙ none))

since_same : (card : CardFields) (tuning : Tuning) (all counted bare : List Heard) (f m : Message) →
    Like all counted bare → (newest_message all).message ≡ Some f →
    (stretch_wrote card tuning (newest_message bare) (Some f) m).refused ≡ None →
    (stretch_wrote card tuning (newest_message all) (Some f) m).packets
    ≡ (stretch_wrote card tuning (newest_message counted) (Some f) m).packets
since_same card tuning all counted bare f m like told none = by_since (nat_le m.since f.number) none
  where
    key_all : Option (List ℕ)
    key_all = key_at card (newest_message all).before f.period

    key_counted : key_at card (newest_message counted).before f.period ≡ key_all
    key_counted = sym (key_same card (newest_message all).before (newest_message counted).before f.period
        (before_same all counted like.counted_says))

    key_bare : key_at card (newest_message bare).before f.period ≡ key_all
    key_bare = sym (key_same card (newest_message all).before (newest_message bare).before f.period
        (before_same all bare like.bare_says))

    nothing : WrittenPackets
    nothing = record { packets = []; refused = None }

    by_since : (near : Bool) →
        (if near then segment_wrote card tuning (newest_message bare) f m
        (key_at card (newest_message bare).before f.period)
        else nothing).refused ≡ None →
        (if near then segment_wrote card tuning (newest_message all) f m key_all else nothing).packets
        ≡ (if near then segment_wrote card tuning (newest_message counted) f m
        (key_at card (newest_message counted).before f.period) else nothing).packets
    by_since false none = refl
    by_since true none =
        keyed_same card tuning all counted bare f m key_all like.holds told
        (ap (λ (key : Option (List ℕ)). (segment_wrote card tuning (newest_message bare) f m key).refused)
        (sym key_bare)
        ∙ none)
        ∙ ap (λ (key : Option (List ℕ)). (segment_wrote card tuning (newest_message counted) f m key).packets)
        (sym key_counted)

stretch_same : (card : CardFields) (tuning : Tuning) (all counted bare : List Heard) (m : Message) →
    Like all counted bare →
    (stretch_wrote card tuning (newest_message bare) (newest_message bare).message m).refused ≡ None →
    (stretch_wrote card tuning (newest_message all) (newest_message all).message m).packets
    ≡ (stretch_wrote card tuning (newest_message counted) (newest_message counted).message m).packets
stretch_same card tuning all counted bare m like none =
    by_message (newest_message all).message refl
    ∙ ap (λ (message : Option Message). (stretch_wrote card tuning (newest_message counted) message m).packets)
    (message_same all counted like.counted_says)
  where
    by_message : (message : Option Message) → (newest_message all).message ≡ message →
        (stretch_wrote card tuning (newest_message all) message m).packets
        ≡ (stretch_wrote card tuning (newest_message counted) message m).packets
    by_message None told = refl
    by_message (Some f) told =
        since_same card tuning all counted bare f m like told
        (ap (λ (message : Option Message). (stretch_wrote card tuning (newest_message bare) message m).refused)
        (sym told ∙ message_same all bare like.bare_says)
        ∙ none)

-- what a message writes
unrefused_wrote : (refused : Option ℕ) (fault : Option StreamFault) →
    option_map_or (λ n. Some (Fault.Parity n)) refused fault ≡ None → refused ≡ None
unrefused_wrote None fault none = refl
unrefused_wrote (Some n) fault none = absurd (cc none)

message_writes : (card : CardFields) (tuning : Tuning) (n m k : ℕ) (all counted bare : List Heard)
    (message : Option Message) → Like all counted bare →
    (message_offering card tuning k bare message).fault ≡ None →
    (message_offering card tuning n all message).wrote ≡ (message_offering card tuning m counted message).wrote
message_writes card tuning n m k all counted bare None like none = refl
message_writes card tuning n m k all counted bare (Some b) like none =
    by_back (is_back all b) (is_back counted b) (is_back bare b)
    (sym (back_same all counted b like.counted_says)) (sym (back_same all bare b like.bare_says)) none
  where
    at : (past : List Heard) (j : ℕ) → Offering
    at past j = wrote_or (stretch_wrote card tuning (newest_message past) (newest_message past).message b)
        (word_fault j b (key_at card past b.period))

    by_back : (a c d : Bool) → c ≡ a → d ≡ a →
        (if d then refused_offering (Fault.BadEcm k Ecms.Back) else at bare k).fault ≡ None →
        (if a then refused_offering (Fault.BadEcm n Ecms.Back) else at all n).wrote
        ≡ (if c then refused_offering (Fault.BadEcm m Ecms.Back) else at counted m).wrote
    by_back true true d c_is d_is none = refl
    by_back true false d c_is d_is none = absurd (false≢true c_is)
    by_back false true d c_is d_is none = absurd (false≢true (sym c_is))
    by_back false false true c_is d_is none = absurd (false≢true (sym d_is))
    by_back false false false c_is d_is none =
        stretch_same card tuning all counted bare b like
        (unrefused_wrote (stretch_wrote card tuning (newest_message bare) (newest_message bare).message b).refused
        (word_fault k b (key_at card bare b.period)) none)

part_writes : (n m k : ℕ) (a b c : Option EcmFault) (x y z : Offering) → b ≡ a → c ≡ a →
    (part_offering k c z).fault ≡ None → (z.fault ≡ None → x.wrote ≡ y.wrote) →
    (part_offering n a x).wrote ≡ (part_offering m b y).wrote
part_writes n m k None None None x y z b_is c_is none same = same none
part_writes n m k None None (Some f) x y z b_is c_is none same = absurd (cc c_is)
part_writes n m k None (Some f) c x y z b_is c_is none same = absurd (cc b_is)
part_writes n m k (Some f) None c x y z b_is c_is none same = absurd (cc b_is)
part_writes n m k (Some f) (Some g) c x y z b_is c_is none same = refl

controls_write : (card : CardFields) (tuning : Tuning) (n m k : ℕ) (all counted bare : List Heard) (part : EcmPart) →
    Like all counted bare → (heard_offering card tuning k bare (Controls part)).fault ≡ None →
    (heard_offering card tuning n all (Controls part)).wrote
    ≡ (heard_offering card tuning m counted (Controls part)).wrote
controls_write card tuning n m k all counted bare part like none =
    part_writes n m k (part_fault (message_parts_to (newest_message all) part))
    (part_fault (message_parts_to (newest_message counted) part))
    (part_fault (message_parts_to (newest_message bare) part))
    (message_offering card tuning n all (completes all (Controls part)))
    (message_offering card tuning m counted (completes counted (Controls part)))
    (message_offering card tuning k bare (completes bare (Controls part)))
    (ap part_fault (sym (run_to_same all counted part like.counted_says)))
    (ap part_fault (sym (run_to_same all bare part like.bare_says))) none
    (λ fine.
    message_writes card tuning n m k all counted bare (completes all (Controls part)) like
    (ap (λ (message : Option Message). (message_offering card tuning k bare message).fault)
    (completes_same all bare (Controls part) like.bare_says) ∙ fine)
    ∙ ap (λ (message : Option Message). (message_offering card tuning m counted message).wrote)
    (completes_same all counted (Controls part) like.counted_says))

-- sections and faulty messages write nothing
if_nothing : (test : Bool) (a b : Offering) → a.wrote ≡ [] → b.wrote ≡ [] → (if test then a else b).wrote ≡ []
if_nothing true a b first second = first
if_nothing false a b first second = second

key_nothing : (n : ℕ) (emm : Emm) (key : Option (List ℕ)) → (key_offering n emm key).wrote ≡ []
key_nothing n emm None = refl
key_nothing n emm (Some key) =
    if_nothing (bytes_eq (check_value_of key) emm.check) no_offering
    (refused_offering (Fault.WrongKey n emm.period (check_value_of key) emm.check)) refl refl

known_nothing : (n : ℕ) (emm : Emm) (known found : Option (List ℕ)) → (key_if_none n emm known found).wrote ≡ []
known_nothing n emm (Some key) found = refl
known_nothing n emm None found = key_nothing n emm found

emm_nothing : (card : CardFields) (n : ℕ) (past : List Heard) (emm : Emm) → (emm_offering card n past emm).wrote ≡ []
unfolding emm_offering
emm_nothing card n past emm =
    let known : Offering = key_if_none n emm (key_at card past emm.period) (key_from card emm) in
    let mixed : Offering = refused_offering (Fault.BadEmm n Emms.Mixed) in
    if_nothing (nat_lt emm.period (current past)) no_offering
    (if is_mixed (sections_seen emm.period past) emm then mixed else known) refl
    (if_nothing (is_mixed (sections_seen emm.period past) emm) mixed known refl
    (known_nothing n emm (key_at card past emm.period) (key_from card emm)))

-- what is written of a thing that is heard, but for one that completes a message
pub run_nothing : (card : CardFields) (tuning : Tuning) (n : ℕ) (past : List Heard) (thing : Heard) →
    ((run : List Heard) → (heard_offering card tuning n run thing).wrote ≡ []) →
    (run_offering card tuning n past thing).wrote ≡ []
run_nothing card tuning n past thing each =
    if_nothing (is_closed (of_run past thing)) no_offering
    (heard_offering card tuning n (of_run past thing) thing) refl (each (of_run past thing))

-- three receivers that heard the same of messages write the same of a part
run_writes : (card : CardFields) (tuning : Tuning) (n m k : ℕ) (all counted bare : List Heard) (part : EcmPart) →
    Like all counted bare → (run_offering card tuning k bare (Controls part)).fault ≡ None →
    (run_offering card tuning n all (Controls part)).wrote
    ≡ (run_offering card tuning m counted (Controls part)).wrote
run_writes card tuning n m k all counted bare part like none =
    by_closed (is_closed (of_run all thing)) (is_closed (of_run counted thing)) (is_closed (of_run bare thing))
    (sym (closed_same (of_run all thing) (of_run counted thing) run.counted_says))
    (sym (closed_same (of_run all thing) (of_run bare thing) run.bare_says)) none
  where
    thing : Heard
    thing = Controls part

    run : Like (of_run all (Controls part)) (of_run counted (Controls part)) (of_run bare (Controls part))
    run = like_run all counted bare (Controls part) like

    by_closed : (a b c : Bool) → b ≡ a → c ≡ a →
        (if c then no_offering else heard_offering card tuning k (of_run bare thing) (Controls part)).fault ≡ None →
        (if a then no_offering else heard_offering card tuning n (of_run all thing) (Controls part)).wrote
        ≡ (if b then no_offering else heard_offering card tuning m (of_run counted thing) (Controls part)).wrote
    by_closed true true c b_is c_is none = refl
    by_closed true false c b_is c_is none = absurd (false≢true b_is)
    by_closed false true c b_is c_is none = absurd (false≢true (sym b_is))
    by_closed false false true b_is c_is none = absurd (false≢true (sym c_is))
    by_closed false false false b_is c_is none =
        controls_write card tuning n m k (of_run all thing) (of_run counted thing) (of_run bare thing) part run none

-- a thing of a message that is written alike
pub record WritesAlike (card : CardFields) (tuning : Tuning) (thing : Heard) : Type 0 where
  pub alike : (n m k : ℕ) (all counted bare : List Heard) → Like all counted bare →
      (run_offering card tuning k bare thing).fault ≡ None →
      (run_offering card tuning n all thing).wrote ≡ (run_offering card tuning m counted thing).wrote

both_nothing : (card : CardFields) (tuning : Tuning) (thing : Heard) →
    ((n : ℕ) (run : List Heard) → (heard_offering card tuning n run thing).wrote ≡ []) → WritesAlike card tuning thing
both_nothing card tuning thing each = record {
  alike = λ n m k all counted bare like none. run_nothing card tuning n all thing (each n)
      ∙ sym (run_nothing card tuning m counted thing (each m));
}

pub emm_alike : (card : CardFields) (tuning : Tuning) (emm : Emm) → WritesAlike card tuning (Entitles emm)
emm_alike card tuning emm = both_nothing card tuning (Entitles emm) (λ n run. emm_nothing card n run emm)

pub part_alike : (card : CardFields) (tuning : Tuning) (part : EcmPart) → WritesAlike card tuning (Controls part)
part_alike card tuning part = record {
  alike = λ n m k all counted bare like none. run_writes card tuning n m k all counted bare part like none;
}

pub bad_emm_alike : (card : CardFields) (tuning : Tuning) (fault : EmmFault) → WritesAlike card tuning (BadEmm fault)
bad_emm_alike card tuning fault = both_nothing card tuning (BadEmm fault) (λ n run. refl)

pub bad_ecm_alike : (card : CardFields) (tuning : Tuning) (fault : EcmFault) → WritesAlike card tuning (BadEcm fault)
bad_ecm_alike card tuning fault = both_nothing card tuning (BadEcm fault) (λ n run. refl)
