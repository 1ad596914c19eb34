-- Each packet that is written was named by the messages around it.
use Rattle.std.proofs.Common.{◌≡◌, ℕ, ◌+◌, ◌==◌, ◌&&◌, ◌||◌, Bool, true, false, nat_le, nat_lt, List, [], ◌∷◌}
use Rattle.std.proofs.Common.{◌++◌, length, map, Some, None, refl, sym, ap, subst, ◌∙◌, inl, inr, arith}
use Rattle.std.proofs.Common.{append_assoc, append-nil}
use Rattle.std.proofs.Common.{◌<◌, ◌≤◌, ◌≢◌}
use Rattle.std.specs.Prelude.{All, Contains, Option, bytes_eq, is_none, reverse, if◌then◌else◌}
use Rattle.std.specs.List.{list_any}
use Rattle.std.specs.Option.{option_map_or}
use Rattle.std.proofs.lemmas.Bool.{or_parts}
use Rattle.std.proofs.lemmas.Bool.Decides.{nat_tests}
use Rattle.std.proofs.lemmas.List.{length-map, map-append}
use Rattle.std.proofs.lemmas.List.Elements.{All-nil, All-cons, All-map, All-weaker, All-contains, Contains-append_cases}
use Rattle.std.proofs.lemmas.List.Elements.{Contains-append_right}
use Rattle.sd_cover_tracing.proofs.Lists.{member_first, member_later, no_member}
use Rattle.sd_tree_keys.specs.Keys.{check_value_of}
use Rattle.sd_packet.specs.Header.{pid_of}
use Rattle.sd_psi.specs.declared.our_cat.Tuning.{Tuning}
use Rattle.sd_site_cards.specs.CardFields.{CardFields}
use Rattle.sd_cipher.specs.Wrapping.{wrapped as under}
use Rattle.sd_message.specs.EcmParts.{Message}
use Rattle.sd_message.specs.declared.emm.Emm.{Emm}
use Rattle.sd_message.specs.declared.emm_fault.EmmFault.TheVariants as Emms
use Rattle.sd_message.specs.declared.ecm_part.Place.{Place}
use Rattle.sd_message.specs.declared.ecm_part.EcmPart.{EcmPart}
use Rattle.sd_message.specs.declared.ecm_fault.EcmFault.{EcmFault}
use Rattle.sd_message.specs.declared.ecm_fault.EcmFault.TheVariants.{Back}
use Rattle.sd_message.specs.declared.stream_fault.StreamFault.{StreamFault}
use Rattle.sd_message.specs.declared.stream_fault.StreamFault.TheVariants as Fault
use Rattle.sd_spec.specs.Tuned.{tuning_of}
use Rattle.sd_spec.specs.Heard.{Heard, Dropped, Entitles, Controls, BadEmm, BadEcm, Other, hears}
use Rattle.sd_spec.specs.Stretches.{Stretch, completes, counted_parts, exceeds, message_told, newest_message}
use Rattle.sd_spec.specs.Stretches.{run_of_parts, message_parts_to}
use Rattle.sd_spec.specs.Stretches.{message_parts_with}
use Rattle.sd_spec.specs.Stretches.{is_closed, current, sections_seen, held_in}
use Rattle.sd_spec.specs.Runs.{of_run}
use Rattle.sd_spec.specs.Keys.{key_from, key_at}
use Rattle.sd_spec.specs.Confirmed.{Segment, position_in, tracked, written_from}
use Rattle.sd_spec.specs.Offered.{Offering, heard, no_offering, refused_offering, is_mixed, key_if_none, emm_offering}
use Rattle.sd_spec.specs.Offered.{part_fault, is_before, is_back, most_held, segment_wrote, stretch_wrote, word_fault}
use Rattle.sd_spec.specs.Offered.{wrote_or, message_offering, part_offering, heard_offering, tuned_offering, offered}
use Rattle.sd_spec.specs.Offered.{out_from}
use Rattle.sd_spec.proofs.Hearing.{tuned_more}
use Rattle.sd_law_keys.specs.Written.{CameClear, GoesOn, IsFramed, IsHeardIn, IsKeyIn, IsMessageIn}
use Rattle.sd_law_keys.specs.Written.{IsWrittenUnder, IsWrittenOf, OpenPackets, clear, opened}
use Rattle.sd_law_keys.proofs.Sources.{all_later, other_here}
use Rattle.sd_law_keys.proofs.Gathered.{held_heard, message_in, one_on}
use Rattle.sd_law_keys.proofs.Sound.{IsSound, IsUpTo, key_later, message_later, sound_none, sound_run}
use Rattle.sd_law_keys.proofs.Sound.{heard_here, sound_more, up_to_here, up_to_run}
use Rattle.sd_law_keys.proofs.Openings.{IsFrom, written_is_from, IsDescrambled, judged_is, plain_is, placed_is}
use Rattle.sd_law_keys.proofs.Openings.{parity_is}
use Rattle.sd_law_keys.proofs.Openings.{framed}

-- the segment between two messages, under this key
abbrev between : CardFields → Tuning → Stretch → Message → Message → List ℕ → Segment
between card tuning stretch a b key = record {
  first = a;
  last = b;
  word = under key a.word a.wrapped;
  ca = card.ca;
  ecm = tuning.ecm;
  packets = map (λ held. held.1) (held_in stretch);
}

-- all packets that are buffered are here
abbrev AreHere : List (List ℕ) → List (ℕ × List ℕ) → Type 0
AreHere past helds = All (λ (held : ℕ × List ℕ). Contains past held.1) helds

held_here : (card : CardFields) (past : List (List ℕ)) (so_far : List Heard) → All (IsHeardIn card past) so_far
    → AreHere past (held_in (newest_message so_far))
held_here card past so_far all =
    All-weaker (λ (held : ℕ × List ℕ). IsHeardIn card past (Other held.0 held.1))
    (λ (held : ℕ × List ℕ). Contains past held.1) (λ held is. other_here card past held.0 held.1 is)
    (held_in (newest_message so_far)) (held_heard (IsHeardIn card past) so_far all)

-- the packets that are buffered behind message a, when message b is complete
record AreBehind (card : CardFields) (tuning : Tuning) (past : List (List ℕ)) (a b : Message) (stretch : Stretch)
    : Type 0 where
  later : List (List ℕ)
  earlier : List (List ℕ)
  part : EcmPart
  stands : past ≡ later ++ earlier
  stretch_is : stretch ≡ newest_message (heard card earlier)
  message_is : stretch.message ≡ Some a
  completed : completes (heard card earlier) (Controls part) ≡ Some b
  are_here : AreHere past (held_in stretch)
  tuned : tuning_of card.ca past ≡ Some tuning

-- there are as many packets as are buffered
few_packets : (helds : List (ℕ × List ℕ)) (packets : List (List ℕ)) → map (λ (one : ℕ × List ℕ). one.1) helds ≡ packets
    → length helds ≤ 4096 → length packets ≤ 4096
few_packets helds packets is few =
    let long = length-map helds (λ (one : ℕ × List ℕ). one.1) in
    let same = ap (λ (l : List (List ℕ)). length l) is in omega (arith, few, long, same)

-- a packet that is descrambled is opened by the two messages
is_opened : (card : CardFields) (tuning : Tuning) (past : List (List ℕ)) (stretch : Stretch) (a b : Message)
    (key out : List ℕ) (first rest : List (ℕ × List ℕ)) (held : ℕ × List ℕ) → OpenPackets card past a b key
    → AreBehind card tuning past a b stretch → length (held_in stretch) ≤ 4096
    → held_in stretch ≡ first ++ held ∷ rest
    → IsDescrambled (between card tuning stretch a b key) (map (λ (one : ℕ × List ℕ). one.1) first) held.1 out
    → IsWrittenUnder card past held.1 out
is_opened card tuning past stretch a b key out first rest held pair behind few stands is =
    let s : Segment = between card tuning stretch a b key in
    let befores : List (List ℕ) = map (λ (one : ℕ × List ℕ). one.1) first in
    let afters : List (List ℕ) = map (λ (one : ℕ × List ℕ). one.1) rest in
    let split : s.packets ≡ befores ++ held.1 ∷ afters =
    ap (map (λ (one : ℕ × List ℕ). one.1)) stands ∙ map-append (λ (one : ℕ × List ℕ). one.1) first (held ∷ rest) in
    record {
      a = a;
      b = b;
      key = key;
      before = befores;
      after = afters;
      messages = pair;
      buffered = record {
        later = behind.later;
        earlier = behind.earlier;
        stands = behind.stands;
        message_is = ap (λ (st : Stretch). st.message) (sym behind.stretch_is) ∙ behind.message_is;
        packets_are = sym split
            ∙ ap (λ (st : Stretch). map (λ (one : ℕ × List ℕ). one.1) (held_in st)) behind.stretch_is;
        part = behind.part;
        completed = behind.completed;
        few = few_packets (held_in stretch) (befores ++ held.1 ∷ afters) split few;
        are_here = subst (All (Contains past)) split
            (All-map (Contains past) (λ (one : ℕ × List ℕ). one.1) (held_in stretch) behind.are_here);
      };
      placed = placed_is s held.1 is.even;
      parity = parity_is s held.1 is.even;
      framed = subst (λ (l : List (List ℕ)). IsFramed a b (pid_of held.1) l (tracked a (pid_of held.1) (befores ++
          held.1 ∷ []))) split
          (framed s (pid_of held.1) (befores ++ held.1 ∷ []) afters
          (split ∙ sym (append_assoc befores (held.1 ∷ []) afters)) is.confirmed);
      opened = is.opened;
    }

-- what is written between two messages
segment_is : (card : CardFields) (tuning : Tuning) (past : List (List ℕ)) (stretch : Stretch) (a b : Message)
    (key out : List ℕ) → OpenPackets card past a b key → AreBehind card tuning past a b stretch
    → length (held_in stretch) ≤ 4096 → IsFrom (between card tuning stretch a b key) [] (held_in stretch) out
    → IsWrittenOf card past out
segment_is card tuning past stretch a b key out pair behind few is =
    let s : Segment = between card tuning stretch a b key in
    let one = All-contains (λ (held : ℕ × List ℕ). Contains past held.1) (held_in stretch) is.held behind.are_here
    (subst (λ (l : List (ℕ × List ℕ)). Contains l is.held) (sym is.stands)
    (Contains-append_right is.first (is.held ∷ is.rest) is.held (member_first is.held is.rest))) in
    elim (judged_is s (map (λ (held : ℕ × List ℕ). held.1) is.first) is.held out is.packets is.is_judged is.here) [
      | inl plain ↦ clear (record {
        tuning = tuning;
        came = is.held.1;
        tuned = behind.tuned;
        is_here = one;
        control = plain.0;
        plain = plain_is card tuning s is.held.1 out refl refl plain.1;
      })
      | inr other ↦
          opened is.held.1
          (is_opened card tuning past stretch a b key out is.first is.rest is.held pair behind few is.stands other)
    ]

-- nothing is written without a key, or where too much is buffered
key_wrote : (card : CardFields) (tuning : Tuning) (past : List (List ℕ)) (stretch : Stretch) (a b : Message)
    (key : Option (List ℕ)) (out : List ℕ) → ((k : List ℕ) → key ≡ Some k → OpenPackets card past a b k)
    → AreBehind card tuning past a b stretch → Contains (segment_wrote card tuning stretch a b key).packets out
    → IsWrittenOf card past out
key_wrote card tuning past stretch a b None out pair here m = absurd (no_member out m)
key_wrote card tuning past stretch a b (Some key) out pair here m =
    by_test (nat_lt most_held (length (held_in stretch))) refl m
  where
    by_test : (test : Bool) → nat_lt most_held (length (held_in stretch)) ≡ test
        → Contains (if test then record { packets = []; refused = None }
        else written_from (between card tuning stretch a b key) [] (held_in stretch)).packets out
        → IsWrittenOf card past out
    by_test true many none = absurd (no_member out none)
    by_test false few some =
        segment_is card tuning past stretch a b key out (pair key refl) here (grind (arith, nat_tests, few))
        (written_is_from (between card tuning stretch a b key) [] (held_in stretch) out some)

-- nor without a message before
stretch_is : (card : CardFields) (tuning : Tuning) (past : List (List ℕ)) (stretch : Stretch) (message : Option Message)
    (b : Message) (out : List ℕ)
    → ((a : Message) → message ≡ Some a → b.since ≤ a.number → (k : List ℕ)
    → key_at card stretch.before a.period ≡ Some k → OpenPackets card past a b k)
    → ((a : Message) → message ≡ Some a → AreBehind card tuning past a b stretch)
    → Contains (stretch_wrote card tuning stretch message b).packets out → IsWrittenOf card past out
stretch_is card tuning past stretch None b out pair here m = absurd (no_member out m)
stretch_is card tuning past stretch (Some a) b out pair here m = by_test (nat_le b.since a.number) refl m
  where
    by_test : (test : Bool) → nat_le b.since a.number ≡ test
        → Contains (if test then segment_wrote card tuning stretch a b (key_at card stretch.before a.period)
        else record { packets = []; refused = None }).packets out → IsWrittenOf card past out
    by_test true since some =
        key_wrote card tuning past stretch a b (key_at card stretch.before a.period) out
        (pair a refl (grind (arith, nat_tests, since))) (here a refl) some
    by_test false other none = absurd (no_member out none)

-- message b has a lower position for the PID of a place, or none
abbrev is_lower : Message → Place → Bool
is_lower b place = option_map_or (λ position. nat_lt position place.position) (position_in b.places place.pid) true

-- a position that isn't lower
one_goes_on : (position : ℕ) (other : Option ℕ) → option_map_or (λ p. nat_lt p position) other true ≡ false
    → (p : ℕ) × (other ≡ Some p) × (position ≤ p)
one_goes_on position None none = absurd cc
one_goes_on position (Some p) none = (p, refl, grind (arith, nat_tests, none))

-- a message that isn't refused goes on behind the newest
places_go_on : (a b : Message) (places : List Place)
    → list_any (is_lower b)
    places ≡ false
    → All (λ (place : Place). (p : ℕ) × (position_in b.places place.pid ≡ Some p) × (place.position ≤ p)) places
places_go_on a b [] none =
    All-nil (λ (place : Place). (p : ℕ) × (position_in b.places place.pid ≡ Some p) × (place.position ≤ p))
places_go_on a b (place ∷ places) none =
    let tests = or_parts (is_lower b place) (list_any (is_lower b) places) none in
    All-cons (λ (one : Place). (p : ℕ) × (position_in b.places one.pid ≡ Some p) × (one.position ≤ p)) place places
    (one_goes_on place.position (position_in b.places place.pid) tests.0) (places_go_on a b places tests.1)

goes_on_by : (a b : Message) → is_before b a ≡ false → a.number < b.number → GoesOn a b
unfolding is_before
goes_on_by a b none number =
    let period = or_parts (nat_lt b.period a.period) (nat_lt b.word a.word || (nat_lt b.clear a.clear
    || list_any (is_lower b)
    a.places)) none in
    let word = or_parts (nat_lt b.word a.word) (nat_lt b.clear a.clear
    || list_any (is_lower b)
    a.places) period.1 in
    let clears = or_parts (nat_lt b.clear a.clear)
    (list_any (is_lower b)
    a.places) word.1 in record {
      number = number;
      period = grind (arith, nat_tests, period.0);
      word = grind (arith, nat_tests, word.0);
      clear = grind (arith, nat_tests, clears.0);
      places = places_go_on a b a.places clears.1;
    }

goes_on : (so_far : List Heard) (a b : Message) → is_back so_far b ≡ false → (newest_message so_far).message ≡ Some a
    → a.number < b.number → GoesOn a b
unfolding is_back
goes_on so_far a b none is number =
    let tests = or_parts (nat_lt b.period (current so_far)) (option_map_or (is_before b)
    (newest_message so_far).message false)
    none in
    goes_on_by a b (ap (λ (m : Option Message). option_map_or (is_before b) m false) (sym is) ∙ tests.1) number

-- a message that is completed has a later number than the newest
number_by : (a : Message) (part : EcmPart) (last exceeds_it : Bool) (run : List EcmPart) (b : Message)
    → ((b : Message) → message_told run ≡ Some b → b.number ≡ part.number) → nat_lt a.number part.number ≡ exceeds_it
    → (if last then message_told (if exceeds_it then run else []) else None) ≡ Some b → a.number < b.number
number_by a part false exceeds_it run b told is done = absurd cc
number_by a part true false run b told is done = absurd cc
number_by a part true true run b told is done =
    let number = told b done in
    let below : a.number < part.number = grind (arith, nat_tests, is) in omega (arith, number, below)

number_told : (part : EcmPart) (parts : List EcmPart) (b : Message) → message_told (run_of_parts (part ∷ parts))
    ≡ Some b
    → b.number ≡ part.number
unfolding run_of_parts
number_told part parts b told = by_test (part.part == 0) told
  where
    by_run : (run : List EcmPart) → message_told (message_parts_with part run) ≡ Some b → b.number ≡ part.number
    by_run [] none = absurd cc
    by_run (before ∷ run) is = by_next ((before.number == part.number) && (before.part + 1 == part.part)) is
      where
        by_next : (test : Bool) → message_told (if test then part ∷ before ∷ run else []) ≡ Some b
            → b.number ≡ part.number
        by_next true so = cc
        by_next false none = absurd cc

    by_test : (test : Bool) → message_told (if test then part ∷ [] else message_parts_with part (run_of_parts parts))
        ≡ Some b
        → b.number ≡ part.number
    by_test true is = cc
    by_test false is = by_run (run_of_parts parts) is

number_later : (so_far : List Heard) (part : EcmPart) (a b : Message) → (newest_message so_far).message ≡ Some a
    → completes so_far (Controls part) ≡ Some b → a.number < b.number
unfolding message_parts_to
number_later so_far part a b is done =
    number_by a part (part.part == part.last_part) (nat_lt a.number part.number)
    (run_of_parts (part ∷ counted_parts (newest_message so_far).message (newest_message so_far).after)) b
    (λ c told. number_told part (counted_parts (newest_message so_far).message (newest_message so_far).after) c told)
    refl
    (subst (λ (m : Option Message). (if part.part == part.last_part
    then message_told (if exceeds m part
    then run_of_parts (part ∷ counted_parts (newest_message so_far).message (newest_message so_far).after) else [])
    else None) ≡ Some b) is done)

-- the packets that were buffered, once a later one completes a message
no_newest : (card : CardFields) (a : Message) (so_far : List Heard) → so_far ≡ []
    → (newest_message so_far).message ≡ Some a → ⊥
unfolding newest_message
no_newest card a so_far none is =
    let first : (newest_message []).message ≡ Some a = subst (λ (l : List Heard). (newest_message l).message ≡ Some a)
    none is in
    absurd cc

behind_later : (card : CardFields) (tuning : Tuning) (past : List (List ℕ)) (packet : List ℕ) (a b : Message)
    (so_far : List Heard) (part : EcmPart) → tuning_of card.ca past ≡ Some tuning → IsUpTo card past so_far
    → (newest_message so_far).message ≡ Some a → completes so_far (Controls part) ≡ Some b
    → AreHere (packet ∷ past) (held_in (newest_message so_far))
    → AreBehind card tuning (packet ∷ past) a b (newest_message so_far)
behind_later card tuning past packet a b so_far part tuned (inl none) is done here =
    absurd (no_newest card a so_far none is)
behind_later card tuning past packet a b so_far part tuned (inr (later, earlier, stands, same)) is done here = record {
  later = packet ∷ later;
  earlier = earlier;
  part = part;
  stands = ap (λ (l : List (List ℕ)). packet ∷ l) stands;
  stretch_is = ap newest_message same;
  message_is = is;
  completed = subst (λ (l : List Heard). completes l (Controls part) ≡ Some b) same done;
  are_here = here;
  tuned = tuned_more card tuning past packet tuned;
}

-- what the completion of a message writes
message_is : (card : CardFields) (tuning : Tuning) (n : ℕ) (past : List (List ℕ)) (packet : List ℕ)
    (so_far : List Heard) (part : EcmPart) (message : Option Message) (out : List ℕ)
    → tuning_of card.ca past ≡ Some tuning
    → IsSound card past so_far → IsUpTo card past so_far → IsHeardIn card (packet ∷ past) (Controls part)
    → part_fault (message_parts_to (newest_message so_far) part) ≡ None
    → completes so_far (Controls part) ≡ message
    → Contains (message_offering card tuning n so_far message).wrote out → IsWrittenOf card (packet ∷ past) out
message_is card tuning n past packet so_far part None out tuned sound up is right done m = absurd (no_member out m)
message_is card tuning n past packet so_far part (Some b) out tuned sound up is right done m =
    by_test (is_back so_far b) refl m
  where
    all : All (IsHeardIn card (packet ∷ past)) so_far
    all = all_later card past (packet ∷ []) so_far sound.are_heard

    pair : is_back so_far b ≡ false → (a : Message) → (newest_message so_far).message ≡ Some a → b.since ≤ a.number
        → (k : List ℕ) → key_at card (newest_message so_far).before a.period ≡ Some k
        → OpenPackets card (packet ∷ past) a b k
    pair none a newest_is since k known =
        let taken = sound.taken a newest_is in record {
          first = message_later card past packet a taken.tells;
          last = message_in card (packet ∷ past) so_far part b all is right sound.running done;
          goes_on = goes_on so_far a b none newest_is (number_later so_far part a b newest_is done);
          since = since;
          key_is = key_later card past packet a.period k (taken.key_is k known);
          checked = taken.checked k known;
        }

    by_test : (test : Bool) → is_back so_far b ≡ test
        → Contains (if test then refused_offering (Fault.BadEcm n Back)
        else wrote_or (stretch_wrote card tuning (newest_message so_far) (newest_message so_far).message b)
        (word_fault n b (key_at card so_far b.period))).wrote out → IsWrittenOf card (packet ∷ past) out
    by_test true back none = absurd (no_member out none)
    by_test false none some =
        stretch_is card tuning (packet ∷ past) (newest_message so_far) (newest_message so_far).message b out (pair none)
        (λ a newest_is. behind_later card tuning past packet a b so_far part tuned up newest_is done
        (held_here card (packet ∷ past) so_far all)) some

part_is : (card : CardFields) (tuning : Tuning) (n : ℕ) (past : List (List ℕ)) (packet : List ℕ) (so_far : List Heard)
    (part : EcmPart) (fault : Option EcmFault) (out : List ℕ) → tuning_of card.ca past ≡ Some tuning
    → IsSound card past so_far → IsUpTo card past so_far → IsHeardIn card (packet ∷ past) (Controls part)
    → part_fault (message_parts_to (newest_message so_far) part) ≡ fault
    → Contains (part_offering n fault
    (message_offering card tuning n so_far (completes so_far (Controls part)))).wrote out
    → IsWrittenOf card (packet ∷ past) out
part_is card tuning n past packet so_far part (Some fault) out tuned sound up is wrong m = absurd (no_member out m)
part_is card tuning n past packet so_far part None out tuned sound up is right m =
    message_is card tuning n past packet so_far part (completes so_far (Controls part)) out tuned sound up is right refl
    m

-- a section writes nothing
key_writes_none : (n : ℕ) (emm : Emm) (first found : Option (List ℕ)) (out : List ℕ)
    → Contains (key_if_none n emm first found).wrote out → ⊥
key_writes_none n emm (Some key) found out m = no_member out m
key_writes_none n emm None None out m = no_member out m
key_writes_none n emm None (Some key) out m = by_test (bytes_eq (check_value_of key) emm.check) m
  where
    by_test : (test : Bool) → Contains (if test then no_offering
        else refused_offering (Fault.WrongKey n emm.period (check_value_of key) emm.check)).wrote out → ⊥
    by_test true none = no_member out none
    by_test false none = no_member out none

section_writes_none : (early mixed : Bool) (why : StreamFault) (offering : Offering) (out : List ℕ)
    → (Contains offering.wrote out → ⊥)
    → Contains (if early then no_offering else if mixed then refused_offering why else offering).wrote out → ⊥
section_writes_none true mixed why offering out none m = no_member out m
section_writes_none false true why offering out none m = no_member out m
section_writes_none false false why offering out none m = none m

emm_writes_none : (card : CardFields) (n : ℕ) (so_far : List Heard) (emm : Emm) (out : List ℕ)
    → Contains (emm_offering card n so_far emm).wrote out → ⊥
unfolding emm_offering
emm_writes_none card n so_far emm out m =
    section_writes_none (nat_lt emm.period (current so_far)) (is_mixed (sections_seen emm.period so_far) emm)
    (Fault.BadEmm n Emms.Mixed) (key_if_none n emm (key_at card so_far emm.period) (key_from card emm)) out
    (key_writes_none n emm (key_at card so_far emm.period) (key_from card emm) out) m

-- what one thing that is heard writes
heard_is : (card : CardFields) (tuning : Tuning) (n : ℕ) (past : List (List ℕ)) (packet : List ℕ) (so_far : List Heard)
    (thing : Heard) (out : List ℕ) → tuning_of card.ca past ≡ Some tuning → IsSound card past so_far
    → IsUpTo card past so_far → IsHeardIn card (packet ∷ past) thing
    → Contains (heard_offering card tuning n so_far thing).wrote out → IsWrittenOf card (packet ∷ past) out
heard_is card tuning n past packet so_far Dropped out tuned sound up is m = absurd (no_member out m)
heard_is card tuning n past packet so_far (Entitles emm) out tuned sound up is m =
    absurd (emm_writes_none card n so_far emm out m)
heard_is card tuning n past packet so_far (Controls part) out tuned sound up is m =
    part_is card tuning n past packet so_far part (part_fault (message_parts_to (newest_message so_far) part)) out
    tuned sound up is
    refl m
heard_is card tuning n past packet so_far (BadEmm fault) out tuned sound up is m = absurd (no_member out m)
heard_is card tuning n past packet so_far (BadEcm fault) out tuned sound up is m = absurd (no_member out m)
heard_is card tuning n past packet so_far (Other k held) out tuned sound up is m = absurd (no_member out m)

-- what one packet writes
tuned_is : (card : CardFields) (past : List (List ℕ)) (packet : List ℕ) (tuned : Option Tuning) (out : List ℕ)
    → tuning_of card.ca past ≡ tuned → IsSound card past (heard card past)
    → Contains (tuned_offering card tuned (length past) (heard card past) packet).wrote out
    → IsWrittenOf card (packet ∷ past) out
tuned_is card past packet None out is sound m = absurd (no_member out m)
tuned_is card past packet (Some tuning) out is sound m = by_test (is_closed (of_run (heard card past) thing)) m
  where
    thing : Heard
    thing = hears card.height tuning (length past) packet

    run : List Heard
    run = of_run (heard card past) thing

    by_test : (b : Bool)
        → Contains (if b then no_offering else heard_offering card tuning (length past) run thing).wrote out
        → IsWrittenOf card (packet ∷ past) out
    by_test true none = absurd (no_member out none)
    by_test false some =
        heard_is card tuning (length past) past packet run thing out is
        (sound_run card past (heard card past) thing sound)
        (up_to_run card past (heard card past) thing (up_to_here card past)) (heard_here card past packet tuning is)
        some

offered_is : (card : CardFields) (past : List (List ℕ)) (packet out : List ℕ) → IsSound card past (heard card past)
    → Contains (offered card past packet).wrote out → IsWrittenOf card (packet ∷ past) out
unfolding offered
offered_is card past packet out sound m = tuned_is card past packet (tuning_of card.ca past) out refl sound m

-- what is written of packets is written of them with later ones
open_later : (card : CardFields) (past : List (List ℕ)) (packet : List ℕ) (a b : Message) (key : List ℕ)
    → OpenPackets card past a b key → OpenPackets card (packet ∷ past) a b key
open_later card past packet a b key is = record {
  first = message_later card past packet a is.first;
  last = message_later card past packet b is.last;
  goes_on = is.goes_on;
  since = is.since;
  key_is = key_later card past packet a.period key is.key_is;
  checked = is.checked;
}

written_later : (card : CardFields) (past : List (List ℕ)) (packet out : List ℕ) → IsWrittenOf card past out
    → IsWrittenOf card (packet ∷ past) out
written_later card past packet out (clear is) = clear (record {
  tuning = is.tuning;
  came = is.came;
  tuned = tuned_more card is.tuning past packet is.tuned;
  is_here = member_later packet past is.came is.is_here;
  control = is.control;
  plain = is.plain;
})
written_later card past packet out (opened held is) = opened held (record {
  a = is.a;
  b = is.b;
  key = is.key;
  before = is.before;
  after = is.after;
  messages = open_later card past packet is.a is.b is.key is.messages;
  buffered = record {
    later = packet ∷ is.buffered.later;
    earlier = is.buffered.earlier;
    stands = ap (λ (l : List (List ℕ)). packet ∷ l) is.buffered.stands;
    part = is.buffered.part;
    message_is = is.buffered.message_is;
    completed = is.buffered.completed;
    few = is.buffered.few;
    packets_are = is.buffered.packets_are;
    are_here = All-weaker (Contains past) (Contains (packet ∷ past)) (λ one m. member_later packet past one m)
        (is.before ++ held ∷ is.after) is.buffered.are_here;
  };
  placed = is.placed;
  parity = is.parity;
  framed = is.framed;
  opened = is.opened;
})

all_written_later : (card : CardFields) (past packets : List (List ℕ)) (out : List ℕ) → IsWrittenOf card past out
    → IsWrittenOf card (reverse packets ++ past) out
all_written_later card past [] out is = is
all_written_later card past (packet ∷ packets) out is =
    subst (λ (l : List (List ℕ)). IsWrittenOf card l out) (sym (one_on packets packet past))
    (all_written_later card (packet ∷ past) packets out (written_later card past packet out is))

-- what is written of one packet, and of those after it if it isn't refused
out_of_one : (card : CardFields) (past : List (List ℕ)) (packet : List ℕ) (packets : List (List ℕ)) (out : List ℕ)
    (fault : Option StreamFault) → (offered card past packet).fault ≡ fault → IsSound card past (heard card past)
    → ((offered card past packet).fault ≡ None → Contains (out_from card (packet ∷ past) packets) out
    → IsWrittenOf card (reverse packets ++ packet ∷ past) out)
    → Contains ((offered card past packet).wrote
    ++ (if is_none fault then out_from card (packet ∷ past) packets else []))
    out → IsWrittenOf card (reverse packets ++ packet ∷ past) out
out_of_one card past packet packets out (Some fault) is sound later m =
    elim (Contains-append_cases (offered card past packet).wrote [] out m) [
      | inl first ↦ all_written_later card (packet ∷ past) packets out (offered_is card past packet out sound first)
      | inr none ↦ absurd (no_member out none)
    ]
out_of_one card past packet packets out None is sound later m =
    elim (Contains-append_cases (offered card past packet).wrote (out_from card (packet ∷ past) packets) out m) [
      | inl first ↦ all_written_later card (packet ∷ past) packets out (offered_is card past packet out sound first)
      | inr other ↦ later is other
    ]

-- what is written of packets after others
out_is : (card : CardFields) (past packets : List (List ℕ)) (out : List ℕ) → IsSound card past (heard card past)
    → Contains (out_from card past packets) out → IsWrittenOf card (reverse packets ++ past) out
unfolding out_from
out_is card past [] out sound m = absurd (no_member out m)
out_is card past (packet ∷ packets) out sound m =
    subst (λ (l : List (List ℕ)). IsWrittenOf card l out) (sym (one_on packets packet past))
    (out_of_one card past packet packets out (offered card past packet).fault refl sound
    (λ good later. out_is card (packet ∷ past) packets out (sound_more card past packet sound good) later) m)

pub packets_are_named : (card : CardFields) (packets : List (List ℕ)) (out : List ℕ)
    → Contains (out_from card [] packets) out → IsWrittenOf card (reverse packets) out
unfolding heard
packets_are_named card packets out m =
    subst (λ (l : List (List ℕ)). IsWrittenOf card l out) (append-nil (reverse packets))
    (out_is card [] packets out (sound_none card []) m)

-- so a card by whose keys no word has the check value that its message names opens nothing
strangers_by : (card : CardFields) (past : List (List ℕ)) (out : List ℕ)
    → ((a : Message) (key : List ℕ) → IsMessageIn card past a → IsKeyIn card past a.period key
    → check_value_of (under key a.word a.wrapped) ≢ a.check) → IsWrittenOf card past out → CameClear card past out
strangers_by card past out none (clear is) = is
strangers_by card past out none (opened held is) =
    absurd (none is.a is.key is.messages.first is.messages.key_is is.messages.checked)

pub strangers_open_none : (card : CardFields) (packets : List (List ℕ)) (out : List ℕ)
    → ((a : Message) (key : List ℕ) → IsMessageIn card (reverse packets) a → IsKeyIn card (reverse packets) a.period key
    → check_value_of (under key a.word a.wrapped) ≢ a.check) → Contains (out_from card [] packets) out
    → CameClear card (reverse packets) out
strangers_open_none card packets out none m =
    strangers_by card (reverse packets) out none (packets_are_named card packets out m)
