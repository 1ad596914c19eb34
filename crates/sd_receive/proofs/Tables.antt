-- Tables of positions by PID.
use Rattle.std.proofs.Common.{ℕ, ◌+◌, ◌^◌, ◌<◌, ◌≤◌, ◌≡◌, ◌==◌, false, List, [], ◌∷◌, ◌++◌}
use Rattle.std.proofs.Common.{length}
use Rattle.std.proofs.Common.{get_or, set, take, drop, map, refl, sym, ap, subst, ◌∙◌, inl, inr, arith}
use Rattle.std.specs.Prelude.{Option, None}
use Rattle.std.specs.List.{list_any}
use Rattle.std.specs.Option.{option_map_or}
use Rattle.std.proofs.lemmas.Bool.{cases_Bool, cases_lt, eqb-true, eqb-false, or_parts}
use Rattle.std.proofs.lemmas.List.{drop_more, get_or-set_same, get_or-set_other, length-map, length-set, take_more}
use Rattle.std.proofs.lemmas.List.{take-append-drop, take-append-le, take_all, map-append}
use Rattle.std.proofs.lemmas.List.{get_or_push, get_or_append_left, length_push}
use Rattle.std.proofs.lemmas.List.Folds.{list_any-append}
use Rattle.sd_packet.specs.Header.{pid_of}
use Rattle.sd_packet.specs.Positions.{is_moving, moved, moved_by, first_position}
use Rattle.sd_packet.proofs.Positions.{one_more, none_moves, more_packets, moved_by_near}
use Rattle.sd_message.specs.EcmForm.{AreShort, ArePidsAscending}
use Rattle.sd_message.specs.declared.ecm_part.Place.{Place}
use Rattle.sd_spec.specs.Confirmed.{position_or_first, position_in}
use Rattle.sd_receive.specs.declared.buffer.tracked.HeldPacket.{HeldPacket}
use Rattle.sd_receive.specs.Tracking.{pids_in, packets_in, led_to, IsTracked, IsClearBut, ArePositionPids}
use Rattle.sd_receive.specs.Tracking.{HavePositionsLedTo}
use Rattle.sd_receive.proofs.Places.{none_found, none_before, same_found, other_found, start_short}

-- a table of first positions is one of no place
pub none_started : (table : List ℕ) → IsClearBut [] table → IsTracked [] [] table
unfolding led_to position_in moved_by
none_started table is = record { long = is.long; at = λ pid small. is.clear pid refl small }

-- without packets a PID is led to where it starts
start_led : (places : List Place) (pid : ℕ) →
    led_to places [] pid ≡ option_map_or (λ p. p) (position_in places pid) first_position
unfolding led_to moved_by
start_led places pid = refl

-- a place more in a table
pub started : (places : List Place) (place : Place) (table : List ℕ) → position_in places place.pid ≡ None →
    place.pid < 8192 → IsTracked places [] table →
    IsTracked (places ++ place ∷ []) [] (set table place.pid place.position)
started places place table none known is = record {
  long = length-set table place.pid place.position ∙ is.long;
  at = λ pid small. elim (cases_Bool (place.pid == pid)) [
    | inl same ↦ subst (λ (q : ℕ). get_or (set table place.pid place.position) q 0 ≡ led_to (places ++ place ∷ []) [] q)
        (eqb-true place.pid pid same)
        (get_or-set_same table place.pid place.position 0 (omega (arith, known, is.long))
        ∙ sym (start_led (places ++ place ∷ []) place.pid
        ∙ ap (λ (o : Option ℕ). option_map_or (λ p. p) o first_position) (same_found places place none)))
    | inr other ↦ get_or-set_other table place.pid pid place.position 0 (λ e. eqb-false place.pid pid other (sym e))
        ∙ (is.at pid small ∙ (start_led places pid ∙ sym (start_led (places ++ place ∷ []) pid
        ∙ ap (λ (o : Option ℕ). option_map_or (λ p. p) o first_position) (other_found places place pid other))))
  ];
}

-- the next place in a table
pub next_started : (places : List Place) (i : ℕ) (d : Place) (table : List ℕ) → i < length places →
    ArePidsAscending places →
    ArePositionPids places → IsTracked (take i places) [] table →
    IsTracked (take (i + 1) places) [] (set table (get_or places i d).pid (get_or places i d).position)
next_started places i d table within up known is =
    rw (take_more places i d within) (started (take i places) (get_or places i d) table
    (none_before places i d within up) (known i d within) is)

-- one PID less to clear
cleared : (pid : ℕ) (pids table : List ℕ) → pid < 8192 → IsClearBut (pid ∷ pids) table →
    IsClearBut pids (set table pid first_position)
cleared pid pids table known is = record {
  long = length-set table pid first_position ∙ is.long;
  clear = λ q none small. elim (cases_Bool (pid == q)) [
    | inl same ↦ subst (λ (r : ℕ). get_or (set table pid first_position) r 0 ≡ first_position) (eqb-true pid q same)
        (get_or-set_same table pid first_position 0 (omega (arith, known, is.long)))
    | inr other ↦ get_or-set_other table pid q first_position 0 (λ e. eqb-false pid q other (sym e))
        ∙ is.clear q (rw other none) small
  ];
}

-- one place less to clear
pub place_cleared : (places : List Place) (i : ℕ) (d : Place) (pids table : List ℕ) → i < length places →
    ArePositionPids places → IsClearBut (pids_in (drop i places) ++ pids) table →
    IsClearBut (pids_in (drop (i + 1) places) ++ pids) (set table (get_or places i d).pid first_position)
place_cleared places i d pids table within known is =
    cleared (get_or places i d).pid (pids_in (drop (i + 1) places) ++ pids) table (known i d within)
    (rw (drop_more places i d within) at is)

-- one packet less to clear
pub packet_cleared : (held : List HeldPacket) (i : ℕ) (d : HeldPacket) (pid : ℕ) (table : List ℕ) → i < length held →
    pid ≡ pid_of (get_or held i d).packet → pid < 8192 →
    IsClearBut (map (λ (p : List ℕ). pid_of p) (packets_in (drop i held))) table →
    IsClearBut (map (λ (p : List ℕ). pid_of p) (packets_in (drop (i + 1) held))) (set table pid first_position)
packet_cleared held i d pid table within own known is =
    cleared pid (map (λ (p : List ℕ). pid_of p) (packets_in (drop (i + 1) held))) table known
    (rw (drop_more held i d within, ← own) at is)

-- no packet moves a PID that none has
none_moving : (pid : ℕ) (packets : List (List ℕ)) →
    list_any (λ q. q == pid) (map (λ (p : List ℕ). pid_of p) packets) ≡ false →
    list_any (is_moving pid) packets ≡ false
none_moving pid [] none = refl
none_moving pid (p ∷ ps) none = elim (cases_Bool (pid_of p == pid)) [
  | inl same ↦ absurd (cc (rw same at none))
  | inr other ↦ rw other (none_moving pid ps (rw other at none))
]

-- a table of positions has the first position but for the PIDs of places and packets
pub tracked_but : (places : List Place) (packets : List (List ℕ)) (table : List ℕ) → IsTracked places packets table →
    IsClearBut (pids_in places ++ map (λ (p : List ℕ). pid_of p) packets) table
unfolding led_to
tracked_but places packets table is = record {
  long = is.long;
  clear = λ pid none small.
      let both = or_parts (list_any (λ q. q == pid) (pids_in places))
      (list_any (λ q. q == pid) (map (λ (p : List ℕ). pid_of p) packets))
      (sym (list_any-append (λ (q : ℕ). q == pid) (pids_in places) (map (λ (p : List ℕ). pid_of p) packets)) ∙ none) in
      is.at pid small ∙ (none_moves pid (position_or_first places pid) packets (none_moving pid packets both.1)
      ∙ ap (λ (o : Option ℕ). option_map_or (λ p. p) o first_position) (none_found places pid both.0));
}

-- one packet more in a table
pub tracked_more : (places : List Place) (packets : List (List ℕ)) (packet table : List ℕ) → pid_of packet < 8192 →
    IsTracked places packets table → IsTracked places (packets ++ packet ∷ [])
    (set table (pid_of packet) (moved (pid_of packet) (get_or table (pid_of packet) 0) packet))
unfolding led_to
tracked_more places packets packet table known is =
    let at = moved (pid_of packet) (get_or table (pid_of packet) 0) packet in
    record {
      long = length-set table (pid_of packet) at ∙ is.long;
      at = λ pid small. elim (cases_Bool (pid_of packet == pid)) [
        | inl same ↦ subst (λ (q : ℕ). get_or (set table (pid_of packet) at) q 0 ≡ led_to places
            (packets ++ packet ∷ []) q) (eqb-true (pid_of packet) pid same)
            (get_or-set_same table (pid_of packet) at 0 (omega (arith, known, is.long))
            ∙ (ap (λ (x : ℕ). moved (pid_of packet) x packet) (is.at (pid_of packet) known)
            ∙ sym (one_more (pid_of packet) (position_or_first places (pid_of packet)) packets packet)))
        | inr other ↦ get_or-set_other table (pid_of packet) pid at 0 (λ e. eqb-false (pid_of packet) pid other (sym e))
            ∙ (is.at pid small ∙ sym (one_more pid (position_or_first places pid) packets packet ∙ rw other refl))
      ];
    }

-- no packet leads a PID further than 16
pub led_within : (places : List Place) (packets : List (List ℕ)) (pid : ℕ) → AreShort places → length packets ≤ 4096 →
    led_to places packets pid < 2 ^ 63
unfolding led_to
led_within places packets pid short few =
    omega (arith, start_short places pid short, moved_by_near pid (position_or_first places pid) packets)

-- nor back
pub led_further : (places : List Place) (packets : List (List ℕ)) (k pid : ℕ) →
    led_to places (take k packets) pid ≤ led_to places packets pid
unfolding led_to
led_further places packets k pid =
    let all = take-append-drop k packets in
    let further = more_packets pid (position_or_first places pid) (take k packets) (drop k packets) in
    let same : moved_by pid (position_or_first places pid) packets ≡ moved_by pid
    (moved_by pid (position_or_first places pid) (take k packets)) (drop k packets) =
    ap (λ (ps : List (List ℕ)). moved_by pid (position_or_first places pid) ps) (sym all) ∙ further in
    omega (
      arith,
      same,
      moved_by_near pid (moved_by pid (position_or_first places pid) (take k packets))
          (drop k packets),
    )

-- one held packet more, with the position to which it leads its PID
pub own_more : (places : List Place) (held : List HeldPacket) (one : HeldPacket) → HavePositionsLedTo places held →
    one.position ≡ led_to places (packets_in held ++ one.packet ∷ []) (pid_of one.packet) →
    HavePositionsLedTo places (held ++ one ∷ [])
own_more places held one own is k d within =
    let packets = packets_in held in
    let all : packets_in (held ++ one ∷ []) ≡ packets ++ one.packet ∷ [] =
    map-append (λ (h : HeldPacket). h.packet) held (one ∷ []) in
    let long : length packets ≡ length held = length-map held (λ (h : HeldPacket). h.packet) in
    elim (cases_lt k (length held)) [
      | inl before ↦
          let this : get_or (held ++ one ∷ []) k d ≡ get_or held k d = get_or_append_left held (one ∷ []) d k before in
          let same : take (k + 1) (packets_in (held ++ one ∷ [])) ≡ take (k + 1) packets =
          ap (λ (ps : List (List ℕ)). take (k + 1) ps) all ∙ take-append-le (k + 1) packets (one.packet ∷ [])
          (omega (arith, before, long)) in
          rw this (rw same (own k d before))
      | inr last ↦
          let e : length held ≡ k = omega (arith, last, within, length_push held one) in
          let this : get_or (held ++ one ∷ []) k d ≡ one = get_or_push held one d k e in
          let same : take (k + 1) (packets_in (held ++ one ∷ [])) ≡ packets ++ one.packet ∷ [] =
          ap (λ (ps : List (List ℕ)). take (k + 1) ps) all
          ∙ take_all (k + 1) (packets ++ one.packet ∷ [])
          (omega (arith, e, long, length_push packets one.packet)) in
          rw this (rw same is)
    ]
