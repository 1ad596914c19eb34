-- What a head end writes of a clear stream that is driven through it, whatever it keeps of the packets before.
use Rattle.std.proofs.Common.{◌≡◌, ℕ, ◌+◌, ◌<◌, ◌≤◌, ◌==◌, Bool, true, false, List, [], ◌∷◌, ◌++◌, length}
use Rattle.std.proofs.Common.{take, drop, Option, Some, None, Result, Ok, Err, refl, sym, ap, subst, ◌∙◌, inl, inr}
use Rattle.std.proofs.Common.{arith, append_assoc, append-nil, length-append}
use Rattle.std.specs.Prelude.{slice_get, not}
use Rattle.std.specs.List.{concat}
use Rattle.std.specs.Option.{option_map_or}
use Rattle.std.proofs.lemmas.List.{take-append-drop, length-take, drop_more, take_more, take-take, take_all}
use Rattle.std.proofs.lemmas.Option.{slice_get_within, get_or_from_slice_get, slice_get-get_or}
use Rattle.std.proofs.lemmas.Bool.{cases_lt}
use Rattle.std.specs.Io.KnownBytes.{Appends}
use Rattle.std.proofs.KnownBytes.{Appends-trans}
use Rattle.sd_base.proofs.Lists.{nothing_joined}
use Rattle.sd_ports.specs.Bytes.{IsPrefix}
use Rattle.sd_ports.proofs.Starts.{prefix_of_prefix, after_first, nothing_after}
use Rattle.sd_packet.specs.Header.{pid_of, scrambling_of}
use Rattle.sd_site_cards.specs.SiteFields.{SiteFields}
use Rattle.sd_psi.specs.declared.fault.FormFault.{FormFault}
use Rattle.sd_psi.specs.declared.fault.FormFault.TheVariants as Form
use Rattle.sd_engine.specs.Stage.{Chain}
use Rattle.sd_engine.specs.Driving.{DriveState, ChainToEnd, ChainToRefusal, IsAllowedAt, PassesPackets}
use Rattle.sd_engine.specs.Taken.{StreamEnd, Whole, Breaks, RunsOn, packets_taken, end_of, IsReachedPacket}
use Rattle.sd_engine.specs.Taken.{DriveOutcomeOver}
use Rattle.sd_engine.specs.declared.fault.StreamBreak.{StreamBreak}
use Rattle.sd_engine.specs.declared.driver.DriveFault.{DriveFault}
use Rattle.sd_engine.specs.declared.driver.DriveFault.TheVariants as drive
use Rattle.sd_spec.specs.Plan.{Plan}
use Rattle.sd_spec.specs.Kinds.{kind_of}
use Rattle.sd_spec.specs.Refused.{fault_where, form_where, is_reserved_pid, pat_wrong, is_full_own}
use Rattle.sd_spec.specs.Refused.{is_one_too_many}
use Rattle.sd_spec.specs.Refused.{end_refusal, is_used_up, refusal_of, refusal_from, whole_refusal}
use Rattle.sd_spec.specs.Sent.{sent, closing_of, packets_from, body, broadcast, bytes_added, sent_bytes_from}
use Rattle.sd_spec.proofs.Bodies.{body_bytes, closed_bytes}
use Rattle.sd_message.specs.declared.clear_fault.ClearFault.{ClearFault}
use Rattle.sd_message.specs.declared.clear_fault.ClearFault.TheVariants.{AlreadyScrambled, PidTaken, PatForm, PmtForm}
use Rattle.sd_message.specs.declared.clear_fault.ClearFault.TheVariants.{TooManyPids, TooLong}
use Rattle.sd_command_base.specs.declared.status.Status.TheVariants.{Done, BadClear, DepotFault}
use Rattle.sd_command_base.specs.Turned.{StreamWritten, all_written, some_written}
use Rattle.sd_message.specs.ClearFaults.{clear_packet}
use Rattle.sd_command_base.specs.declared.stream_refusal.StreamRefusal.TheVariants.{Packet}
use Rattle.sd_run_broadcasts.specs.Head.{clear_status, status_where, head_sent, sent_where}
use Rattle.sd_run_broadcasts.specs.Head.{sent_of, sent_status, sent_told, head_stop_status, stream_refusal}
use Rattle.sd_run_broadcasts.proofs.Refusals.{end_names, none_first, refused_sent, whole_ended, whole_none}

-- A refusal in its packet's turn.

-- the fault, if there is one, names this packet
abbrev Names : ℕ → Option ClearFault → Type 0
Names k None = Unit {0}
Names k (Some fault) = clear_packet fault ≡ k

names_where : (b : Bool) (k : ℕ) (fault : ClearFault) (next : Option ClearFault) → clear_packet fault ≡ k →
    Names k next → Names k (fault_where b fault next)
names_where true k fault next is h = is
names_where false k fault next is h = h

names_form : (o : Option FormFault) (k : ℕ) (told : FormFault → ClearFault) (next : Option ClearFault) →
    ((form : FormFault) → clear_packet (told form) ≡ k) → Names k next → Names k (form_where o told next)
names_form None k told next is h = h
names_form (Some form) k told next is h = is form

-- a packet's refusal names it
names_own : (site : SiteFields) (before : List (List ℕ)) (packet : List ℕ) → Names (length before)
    (refusal_of site before packet)
unfolding refusal_of
names_own site before packet =
    let k : ℕ = length before in
    let pid : ℕ = pid_of packet in
    let own : Bool = is_full_own site (kind_of before packet) packet in
    let long : Option ClearFault = fault_where (is_used_up site k) (TooLong k) None in
    let many : Option ClearFault = fault_where (is_one_too_many before packet) (TooManyPids k) long in
    let full : Option ClearFault = fault_where own (PmtForm k Form.NoRoom) many in
    let form : Option ClearFault = form_where (pat_wrong packet) (PatForm k) full in
    let taken : Option ClearFault = fault_where (is_reserved_pid site pid) (PidTaken k pid) form in
    names_where (not (scrambling_of packet == 0)) k (AlreadyScrambled k) taken refl
    (names_where (is_reserved_pid site pid) k (PidTaken k pid) form refl
    (names_form (pat_wrong packet) k (PatForm k) full (λ wrong. refl)
    (names_where own k (PmtForm k Form.NoRoom) many refl
    (names_where (is_one_too_many before packet) k (TooManyPids k) long refl
    (names_where (is_used_up site k) k (TooLong k) None refl tt)))))

named : (k : ℕ) (o : Option ClearFault) (fault : ClearFault) → Names k o → o ≡ Some fault → clear_packet fault ≡ k
named k o fault h is = subst (Names k) is h

-- packets that are not refused, and then others
split : (site : SiteFields) (before xs ys : List (List ℕ)) → refusal_from site before xs ≡ None →
    refusal_from site before (xs ++ ys) ≡ refusal_from site (before ++ xs) ys
unfolding refusal_from
split site before [] ys h = ap (λ (b : List (List ℕ)). refusal_from site b ys) (sym (append-nil before))
split site before (x ∷ xs) ys h =
    let first = none_first (refusal_of site before x) (refusal_from site (before ++ x ∷ []) xs) h in
    ap (λ (o : Option ClearFault). option_map_or Some o (refusal_from site (before ++ x ∷ []) (xs ++ ys))) first.0
    ∙ split site (before ++ x ∷ []) xs ys first.1
    ∙ ap (λ (b : List (List ℕ)). refusal_from site b ys) (append_assoc before (x ∷ []) xs)

-- the first refusal is of this packet, or of one after it
later_by : (site : SiteFields) (before ys : List (List ℕ)) (y : List ℕ) (fault : ClearFault) (o : Option ClearFault) →
    refusal_of site before y ≡ o → option_map_or Some o (refusal_from site (before ++ y ∷ []) ys) ≡ Some fault →
    (refusal_from site (before ++ y ∷ []) ys ≡ Some fault → length (before ++ y ∷ []) ≤ clear_packet fault) →
    length before ≤ clear_packet fault
later_by site before ys y fault (Some first) is h next =
    let own : clear_packet fault ≡ length before = named (length before) (refusal_of site before y) fault
    (names_own site before y) (is ∙ h) in
    omega (arith, own)
later_by site before ys y fault None is h next = let rest = next h in omega (arith, rest, length-append before (y ∷ []))

later : (site : SiteFields) (before ys : List (List ℕ)) (fault : ClearFault) → refusal_from site before ys
    ≡ Some fault →
    length before ≤ clear_packet fault
unfolding refusal_from
later site before [] fault h = absurd (cc)
later site before (y ∷ ys) fault h =
    later_by site before ys y fault (refusal_of site before y) refl h
    (λ then. later site (before ++ y ∷ []) ys fault then)

-- What is sent of some first packets.

-- what packets add after others, in turn
pub bytes_in_turn : (plan : Plan) (before xs ys : List (List ℕ)) →
    sent_bytes_from plan before (xs ++ ys) ≡ sent_bytes_from plan before xs ++ sent_bytes_from plan (before ++ xs) ys
unfolding sent_bytes_from
bytes_in_turn plan before [] ys = ap (λ (b : List (List ℕ)). sent_bytes_from plan b ys) (sym (append-nil before))
bytes_in_turn plan before (x ∷ xs) ys =
    ap (λ (rest : List ℕ). bytes_added plan before x ++ rest)
    (bytes_in_turn plan (before ++ x ∷ []) xs ys
    ∙ ap (λ (b : List (List ℕ)). sent_bytes_from plan (before ++ x ∷ []) xs ++ sent_bytes_from plan b ys)
    (append_assoc before (x ∷ []) xs))
    ∙ sym (append_assoc (bytes_added plan before x) (sent_bytes_from plan (before ++ x ∷ []) xs)
    (sent_bytes_from plan (before ++ (x ∷ xs)) ys))

body_first : (plan : Plan) (xs ys : List (List ℕ)) → IsPrefix (concat (body plan xs)) (concat (body plan (xs ++ ys)))
body_first plan xs ys = (
  sent_bytes_from plan ([] ++ xs) ys,
  ap (λ (b : List ℕ). b ++ sent_bytes_from plan ([] ++ xs) ys) (body_bytes plan xs)
      ∙ sym (bytes_in_turn plan [] xs ys) ∙ sym (body_bytes plan (xs ++ ys)),
)

body_taken : (plan : Plan) (k : ℕ) (clear : List (List ℕ)) → IsPrefix (concat (body plan (take k clear)))
    (concat (body plan clear))
body_taken plan k clear =
    subst (λ (all : List (List ℕ)). IsPrefix (concat (body plan (take k clear))) (concat (body plan all)))
    (take-append-drop k clear)
    (body_first plan (take k clear) (drop k clear))

body_of_all : (plan : Plan) (clear : List (List ℕ)) (end : StreamEnd) → IsPrefix (concat (body plan clear))
    (concat (head_sent plan clear end))
body_of_all plan clear Whole =
    (concat (packets_from plan.site (sent plan clear) (closing_of plan clear)), sym (closed_bytes plan clear))
body_of_all plan clear (Breaks found) = ([], append-nil (concat (body plan clear)))
body_of_all plan clear RunsOn = ([], append-nil (concat (body plan clear)))

-- the first packet that is refused is none of some first ones of which none is
after_packets : (site : SiteFields) (clear : List (List ℕ)) (k : ℕ) (fault : ClearFault) → k ≤ length clear →
    refusal_from site [] (take k clear) ≡ None → refusal_from site [] clear ≡ Some fault → k ≤ clear_packet fault
after_packets site clear k fault within none is =
    let rest : refusal_from site ([] ++ take k clear) (drop k clear) ≡ Some fault =
    sym (split site [] (take k clear) (drop k clear) none)
    ∙ ap (refusal_from site []) (take-append-drop k clear) ∙ is in
    omega (arith, later site ([] ++ take k clear) (drop k clear) fault rest, length-take k clear, within)

-- nor is the end
after_whole : (site : SiteFields) (clear : List (List ℕ)) (k : ℕ) (fault : ClearFault) (o : Option ClearFault) →
    k ≤ length clear → refusal_from site [] (take k clear) ≡ None → refusal_from site [] clear ≡ o →
    option_map_or Some o (end_refusal site clear) ≡ Some fault → k ≤ clear_packet fault
after_whole site clear k fault None within none is ends =
    let last = end_names site clear fault ends in omega (arith, last.1, ap length last.0, within)
after_whole site clear k fault (Some first) within none is ends =
    after_packets site clear k fault within none (is ∙ ends)

after_refusal : (site : SiteFields) (clear : List (List ℕ)) (end : StreamEnd) (k : ℕ) (fault : ClearFault) →
    k ≤ length clear → refusal_from site [] (take k clear) ≡ None → stream_refusal site clear end ≡ Some fault →
    k ≤ clear_packet fault
unfolding stream_refusal whole_refusal
after_refusal site clear Whole k fault within none is =
    after_whole site clear k fault (refusal_from site [] clear) within none refl is
after_refusal site clear (Breaks found) k fault within none is = after_packets site clear k fault within none is
after_refusal site clear RunsOn k fault within none is = after_packets site clear k fault within none is

-- what is sent of some first packets, of which none is refused, begins all that is sent
sent_begins : (plan : Plan) (clear : List (List ℕ)) (end : StreamEnd) (k : ℕ) (first : Option ClearFault) →
    k ≤ length clear →
    refusal_from plan.site [] (take k clear) ≡ None → stream_refusal plan.site clear end ≡ first →
    IsPrefix (concat (body plan (take k clear))) (concat (sent_where plan clear end first))
sent_begins plan clear end k None within none is =
    prefix_of_prefix (concat (body plan (take k clear))) (concat (body plan clear)) (concat (head_sent plan clear end))
    (body_taken plan k clear)
    (body_of_all plan clear end)
sent_begins plan clear end k (Some fault) within none is =
    let high = after_refusal plan.site clear end k fault within none is in
    subst (λ (ps : List (List ℕ)). IsPrefix (concat (body plan ps))
    (concat (body plan (take (clear_packet fault) clear))))
    (take-take k (clear_packet fault) clear high) (body_taken plan k (take (clear_packet fault) clear))

begins : (plan : Plan) (bytes : List ℕ) (k : ℕ) → k ≤ length (packets_taken bytes) → refusal_from plan.site []
    (take k (packets_taken bytes)) ≡ None →
    IsPrefix (concat (body plan (take k (packets_taken bytes)))) (sent_of plan bytes)
unfolding sent_of
begins plan bytes k within none =
    sent_begins plan (packets_taken bytes) (end_of bytes) k (stream_refusal plan.site (packets_taken bytes)
    (end_of bytes)) within
    none refl

-- What a head end is, as far as this goes.

-- a refusal is due at a packet or at the end, or it is that memory was out
abbrev pub IsDueAt : Plan → List (List ℕ) → Option (List ℕ) → Option ClearFault → Type 0
IsDueAt plan before packet None = Unit {0}
IsDueAt plan before None (Some fault) = end_refusal plan.site before ≡ Some fault
IsDueAt plan before (Some packet) (Some fault) = refusal_of plan.site before packet ≡ Some fault

-- it writes what each packet adds, and the closing message at an end that isn't refused, and refuses what is due
pub record IsHeadEnd {S F : Type 0} (plan : Plan) (does : S → List ℕ → S → List ℕ → ℕ → Type 0) (ends : S → S → List ℕ →
    ℕ → Type 0)
    (refuses : S → Option (List ℕ) → F → S → List ℕ → ℕ → Type 0) (told : F → Option ClearFault)
    (After : List (List ℕ) → S → Type 0) :
    Type 0 where
  pub step : (before : List (List ℕ)) (s : S) (packet : List ℕ) (t : S) (bytes : List ℕ) (n : ℕ) → After before s →
      does s packet t bytes n →
      (refusal_of plan.site before packet ≡ None) × (bytes ≡ bytes_added plan before packet)
      × After (before ++ packet ∷ []) t
  pub last : (before : List (List ℕ)) (s t : S) (bytes : List ℕ) (n : ℕ) → After before s → ends s t bytes n →
      (end_refusal plan.site before ≡ None)
      × (bytes ≡ concat (packets_from plan.site (sent plan before) (closing_of plan before)))
  pub refusal : (before : List (List ℕ)) (s : S) (packet : Option (List ℕ)) (fault : F) (t : S) (bytes : List ℕ)
      (n : ℕ) → After before s →
      refuses s packet fault t bytes n → (bytes ≡ []) × IsDueAt plan before packet (told fault)

-- packets that went through it
record WentOn {S : Type 0} (plan : Plan) (After : List (List ℕ) → S → Type 0) (before packets : List (List ℕ)) (t : S)
    (bytes : List ℕ) :
    Type 0 where
  wrote : bytes ≡ sent_bytes_from plan before packets
  unrefused : refusal_from plan.site before packets ≡ None
  after : After (before ++ packets) t

went_on : {S F : Type 0} (plan : Plan) (does : S → List ℕ → S → List ℕ → ℕ → Type 0) (ends : S → S → List ℕ → ℕ →
    Type 0)
    (refuses : S → Option (List ℕ) → F → S → List ℕ → ℕ → Type 0) (told : F → Option ClearFault)
    (After : List (List ℕ) → S → Type 0)
    (head : IsHeadEnd plan does ends refuses told After) (before packets : List (List ℕ)) (s t : S) (bytes : List ℕ)
    (n : ℕ) →
    After before s → Chain does s packets t bytes n → WentOn plan After before packets t bytes
unfolding sent_bytes_from refusal_from
went_on plan does ends refuses told After head before [] s t bytes n a (same, none, counted) = record {
  wrote = none;
  unrefused = refl;
  after = subst (λ u. After (before ++ []) u) same (subst (λ xs. After xs s) (sym (append-nil before)) a);
}
went_on plan does ends refuses told After head before (packet ∷ packets) s t bytes n a
    (mid, first, rest, m, k, one, more, joined, counted) =
    let here = head.step before s packet mid first m a one in
    let there = went_on plan does ends refuses told After head (before ++ packet ∷ []) packets mid t rest k here.2 more
    in
    record {
      wrote = joined ∙ (ap (λ (xs : List ℕ). xs ++ rest) here.1 ∙ ap (λ (xs : List ℕ). bytes_added plan before packet
          ++ xs) there.wrote);
      unrefused =
          ap (λ (o : Option ClearFault). option_map_or Some o (refusal_from plan.site (before ++ packet ∷ []) packets))
          here.0
          ∙ there.unrefused;
      after = subst (λ xs. After xs t) (append_assoc before (packet ∷ []) packets) there.after;
    }

-- What was written of a stream that was driven through it.

-- of a stream that isn't refused
pub sent_unrefused : (plan : Plan) (bytes : List ℕ) (end : StreamEnd) →
    stream_refusal plan.site (packets_taken bytes) end ≡ None → end_of bytes ≡ end →
    (concat (head_sent plan (packets_taken bytes) end) ≡ sent_of plan bytes) ×
    (clear_status end ≡ sent_status plan bytes)
unfolding sent_of sent_status
sent_unrefused plan bytes end none is =
    let own : stream_refusal plan.site (packets_taken bytes) (end_of bytes) ≡ None =
    ap (stream_refusal plan.site (packets_taken bytes)) is ∙ none in (
      sym (ap (λ (first : Option ClearFault). concat (sent_where plan (packets_taken bytes) (end_of bytes) first)) own
          ∙ ap (λ (e : StreamEnd). concat (head_sent plan (packets_taken bytes) e)) is),
      sym (ap (λ (first : Option ClearFault). status_where (end_of bytes) first) own ∙ ap clear_status is),
    )

pub sent_whole : (plan : Plan) (bytes : List ℕ) → whole_refusal plan.site (packets_taken bytes) ≡ None →
    end_of bytes ≡ Whole →
    (concat (broadcast plan (packets_taken bytes)) ≡ sent_of plan bytes) × (Done ≡ sent_status plan bytes)
unfolding stream_refusal
sent_whole plan bytes none is = sent_unrefused plan bytes Whole none is

-- by its packets and its end
whole_unrefused : (plan : Plan) (bytes : List ℕ) → refusal_from plan.site [] (packets_taken bytes) ≡ None →
    end_refusal plan.site (packets_taken bytes) ≡ None → end_of bytes ≡ Whole →
    (concat (broadcast plan (packets_taken bytes)) ≡ sent_of plan bytes) × (Done ≡ sent_status plan bytes)
whole_unrefused plan bytes none end is = sent_whole plan bytes (whole_none plan.site (packets_taken bytes) none end) is

broken_unrefused : (plan : Plan) (bytes : List ℕ) (found : StreamBreak) →
    refusal_from plan.site [] (packets_taken bytes) ≡ None → end_of bytes ≡ Breaks found →
    (concat (body plan (packets_taken bytes)) ≡ sent_of plan bytes)
    × (clear_status (Breaks found) ≡ sent_status plan bytes)
unfolding stream_refusal
broken_unrefused plan bytes found none is = sent_unrefused plan bytes (Breaks found) none is

long_unrefused : (plan : Plan) (bytes : List ℕ) → refusal_from plan.site [] (packets_taken bytes) ≡ None →
    end_of bytes ≡ RunsOn →
    (concat (body plan (packets_taken bytes)) ≡ sent_of plan bytes) × (clear_status RunsOn ≡ sent_status plan bytes)
unfolding stream_refusal
long_unrefused plan bytes none is = sent_unrefused plan bytes RunsOn none is

-- and of one that is
pub sent_refused : (plan : Plan) (bytes : List ℕ) (fault : ClearFault) →
    stream_refusal plan.site (packets_taken bytes) (end_of bytes) ≡ Some fault →
    (concat (body plan (take (clear_packet fault) (packets_taken bytes))) ≡ sent_of plan bytes)
    × (BadClear (Packet fault) ≡ sent_status plan bytes)
unfolding sent_of sent_status
sent_refused plan bytes fault is = (
  sym (ap (λ (first : Option ClearFault). concat (sent_where plan (packets_taken bytes) (end_of bytes) first)) is),
  sym (ap (λ (first : Option ClearFault). status_where (end_of bytes) first) is),
)

-- at its end
end_refused : (plan : Plan) (bytes : List ℕ) (fault : ClearFault) → refusal_from plan.site [] (packets_taken bytes)
    ≡ None →
    end_refusal plan.site (packets_taken bytes) ≡ Some fault → end_of bytes ≡ Whole →
    stream_refusal plan.site (packets_taken bytes) (end_of bytes) ≡ Some fault
unfolding stream_refusal
end_refused plan bytes fault none end is =
    ap (stream_refusal plan.site (packets_taken bytes)) is ∙ whole_ended plan.site (packets_taken bytes) fault none end

-- the packet at a place, and those before and from it on
here_is : (clear : List (List ℕ)) (count : ℕ) (packet : List ℕ) → slice_get clear count ≡ Some packet →
    (take (count + 1) clear ≡ take count clear ++ packet ∷ []) × (drop count clear ≡ packet ∷ drop (count + 1) clear)
    × (count < length clear)
here_is clear count packet at =
    let inside = slice_get_within clear count packet at in
    let is = get_or_from_slice_get clear count packet packet at in (
      take_more clear count packet inside ∙ ap (λ (p : List ℕ). take count clear ++ p ∷ []) is,
      drop_more clear count packet inside ∙ ap (λ (p : List ℕ). p ∷ drop (count + 1) clear) is,
      inside,
    )

-- the first packet that is refused
first_refused : (site : SiteFields) (clear : List (List ℕ)) (count : ℕ) (packet : List ℕ) (fault : ClearFault) →
    refusal_from site [] (take count clear) ≡ None → slice_get clear count ≡ Some packet →
    refusal_of site (take count clear) packet ≡ Some fault →
    (refusal_from site [] clear ≡ Some fault) × (clear_packet fault ≡ count)
unfolding refusal_from
first_refused site clear count packet fault none at due =
    let here = here_is clear count packet at in
    let counted : length (take count clear) ≡ count = omega (arith, length-take count clear, here.2) in (
      sym (ap (refusal_from site []) (take-append-drop count clear))
          ∙ split site [] (take count clear) (drop count clear) none
          ∙ ap (refusal_from site (take count clear)) here.1
          ∙ ap (λ (o : Option ClearFault). option_map_or Some o (refusal_from site (take count clear ++ packet ∷ [])
          (drop (count + 1) clear)))
          due,
      named (length (take count clear)) (refusal_of site (take count clear) packet) fault
          (names_own site (take count clear) packet) due ∙ counted,
    )

-- one packet more that isn't refused
one_unrefused : (site : SiteFields) (clear : List (List ℕ)) (count : ℕ) (packet : List ℕ) →
    refusal_from site [] (take count clear) ≡ None → slice_get clear count ≡ Some packet →
    refusal_of site (take count clear) packet ≡ None → refusal_from site [] (take (count + 1) clear) ≡ None
unfolding refusal_from
one_unrefused site clear count packet none at clean =
    ap (refusal_from site []) (here_is clear count packet at).0
    ∙ split site [] (take count clear) (packet ∷ []) none
    ∙ ap (λ (o : Option ClearFault). option_map_or Some o None) clean

one_written : (plan : Plan) (clear : List (List ℕ)) (count : ℕ) (packet : List ℕ) → slice_get clear count
    ≡ Some packet →
    concat (body plan (take count clear)) ++ bytes_added plan (take count clear) packet
    ≡ concat (body plan (take (count + 1) clear))
unfolding sent_bytes_from
one_written plan clear count packet at =
    let before = take count clear in
    ap (λ (xs : List ℕ). xs ++ bytes_added plan before packet) (body_bytes plan before)
    ∙ ap (λ (xs : List ℕ). sent_bytes_from plan [] before ++ xs) (sym (append-nil (bytes_added plan before packet)))
    ∙ sym (bytes_in_turn plan [] before (packet ∷ []))
    ∙ sym (body_bytes plan (before ++ packet ∷ []))
    ∙ ap (λ (ps : List (List ℕ)). concat (body plan ps)) (sym (here_is clear count packet at).0)

-- at the end all packets went through
all_there : (clear : List (List ℕ)) (count : ℕ) → count ≤ length clear → slice_get clear count ≡ None →
    (count ≡ length clear) × (take count clear ≡ clear)
all_there clear count within none = elim (cases_lt count (length clear)) [
  | inl inside ↦
      let some = sym (slice_get-get_or clear count [] inside) ∙ none in absurd (cc)
  | inr past ↦ (omega (arith, within, past), take_all count clear past)
]

-- what may be written of a packet, or of the end, goes on with what is sent
may_write : {S F : Type 0} (plan : Plan) (does : S → List ℕ → S → List ℕ → ℕ → Type 0) (ends : S → S → List ℕ → ℕ →
    Type 0)
    (refuses : S → Option (List ℕ) → F → S → List ℕ → ℕ → Type 0) (told : F → Option ClearFault)
    (After : List (List ℕ) → S → Type 0)
    (head : IsHeadEnd plan does ends refuses told After) (bytes : List ℕ) (count : ℕ) (mid : S) (first more : List ℕ)
    (from to : ℕ) (here : Option (List ℕ)) → IsReachedPacket bytes count →
    WentOn plan After [] (take count (packets_taken bytes)) mid first → slice_get (packets_taken bytes) count ≡ here →
    IsAllowedAt does ends refuses mid here from to more → IsPrefix (first ++ more) (sent_of plan bytes)
may_write plan does ends refuses told After head bytes count mid first more from to None place went at
    (n, within, inl (t, last)) =
    let clear = packets_taken bytes in
    let all = all_there clear count place.within at in
    let closes = head.last (take count clear) mid t more n went.after last in
    let sent = whole_unrefused plan bytes (subst (λ (ps : List (List ℕ)). refusal_from plan.site [] ps ≡ None)
    all.1 went.unrefused)
    (subst (λ (ps : List (List ℕ)). end_refusal plan.site ps ≡ None) all.1 closes.0) (place.end all.0) in
    let closing = closes.1 in (
      [],
      append-nil (first ++ more)
          ∙ ap (λ (xs : List ℕ). xs ++ more) (went.wrote ∙ sym (body_bytes plan (take count clear)))
          ∙ ap (λ (xs : List ℕ). concat (body plan (take count clear)) ++ xs) closing
          ∙ sym (closed_bytes plan (take count clear))
          ∙ ap (λ (ps : List (List ℕ)). concat (broadcast plan ps)) all.1
          ∙ sent.0,
    )
may_write plan does ends refuses told After head bytes count mid first more from to None place went at
    (n, within, inr (fault, t, refuse)) =
    nothing_after first more (sent_of plan bytes) (head.refusal (take count (packets_taken bytes)) mid None fault t
    more n
    went.after refuse).0
    (subst (λ (xs : List ℕ). IsPrefix xs (sent_of plan bytes))
    (sym (went.wrote ∙ sym (body_bytes plan (take count (packets_taken bytes)))))
    (begins plan bytes count place.within went.unrefused))
may_write plan does ends refuses told After head bytes count mid first more from to (Some packet) place went at
    (n, within, inl (t, done)) =
    let clear = packets_taken bytes in
    let step = head.step (take count clear) mid packet t more n went.after done in
    let inside = (here_is clear count packet at).2 in
    subst (λ (xs : List ℕ). IsPrefix xs (sent_of plan bytes))
    (sym (ap (λ (xs : List ℕ). xs ++ more) (went.wrote ∙ sym (body_bytes plan (take count clear)))
    ∙ ap (λ (xs : List ℕ). concat (body plan (take count clear)) ++ xs) step.1 ∙ one_written plan clear count packet
    at))
    (begins plan bytes (count + 1) (omega (arith, inside)) (one_unrefused plan.site clear count packet went.unrefused at
    step.0))
may_write plan does ends refuses told After head bytes count mid first more from to (Some packet) place went at
    (n, within, inr (fault, t, refuse)) =
    nothing_after first more (sent_of plan bytes)
    (head.refusal (take count (packets_taken bytes)) mid (Some packet) fault t more n went.after refuse).0
    (subst (λ (xs : List ℕ). IsPrefix xs (sent_of plan bytes))
    (sym (went.wrote ∙ sym (body_bytes plan (take count (packets_taken bytes)))))
    (begins plan bytes count place.within went.unrefused))

-- what was written up to a refusal
stopped_at : (plan : Plan) (bytes : List ℕ) (count : ℕ) (first : List ℕ) (before now : Option (List ℕ))
    (due : Option ClearFault)
    (here : Option (List ℕ)) → IsReachedPacket bytes count →
    first ≡ concat (body plan (take count (packets_taken bytes))) →
    refusal_from plan.site [] (take count (packets_taken bytes)) ≡ None → slice_get (packets_taken bytes) count ≡ here →
    IsDueAt plan (take count (packets_taken bytes)) here due → Appends before now first →
    StreamWritten (sent_of plan bytes) (sent_status plan bytes) before now (head_stop_status due)
stopped_at plan bytes count first before now None here place wrote none at due taken =
    some_written (inl refl) (
      first,
      subst (λ (xs : List ℕ). IsPrefix xs (sent_of plan bytes)) (sym wrote) (begins plan bytes count place.within none),
      taken,
    )
stopped_at plan bytes count first before now (Some fault) None place wrote none at due taken =
    let all = all_there (packets_taken bytes) count place.within at in
    let ends = subst (λ (ps : List (List ℕ)). end_refusal plan.site ps ≡ Some fault) all.1 due in
    let last = end_names plan.site (packets_taken bytes) fault ends in
    let is = end_refused plan bytes fault
    (subst (λ (ps : List (List ℕ)). refusal_from plan.site [] ps ≡ None) all.1 none) ends (place.end all.0) in
    let sent = sent_refused plan bytes fault is in
    let same : clear_packet fault ≡ count = last.1 ∙ sym (all.0 ∙ ap length last.0) in
    all_written sent.1 tt
    (subst (λ (xs : List ℕ). Appends before now xs)
    (wrote ∙ ap (λ (k : ℕ). concat (body plan (take k (packets_taken bytes)))) (sym same) ∙ sent.0) taken)
stopped_at plan bytes count first before now (Some fault) (Some packet) place wrote none at due taken =
    let is = first_refused plan.site (packets_taken bytes) count packet fault none at due in
    let sent = sent_refused plan bytes fault (refused_sent plan.site (packets_taken bytes) (end_of bytes) fault is.0) in
    all_written sent.1 tt
    (subst (λ (xs : List ℕ). Appends before now xs)
    (wrote ∙ ap (λ (k : ℕ). concat (body plan (take k (packets_taken bytes)))) (sym is.1) ∙ sent.0) taken)

-- what was written of the first packets alone
some_sent : {S F : Type 0} (plan : Plan) (does : S → List ℕ → S → List ℕ → ℕ → Type 0) (ends : S → S → List ℕ → ℕ →
    Type 0)
    (refuses : S → Option (List ℕ) → F → S → List ℕ → ℕ → Type 0) (told : F → Option ClearFault)
    (After : List (List ℕ) → S → Type 0)
    (head : IsHeadEnd plan does ends refuses told After) (bytes : List ℕ) (a b : DriveState S) (count : ℕ) →
    After [] a.stage → count ≤ length (packets_taken bytes) →
    PassesPackets does a (take count (packets_taken bytes)) b →
    StreamWritten (sent_of plan bytes) (sent_status plan bytes) a.sink.held b.sink.held DepotFault
some_sent plan does ends refuses told After head bytes a b count stands within grew =
    let first = take count (packets_taken bytes) in
    let went = went_on plan does ends refuses told After head [] first a.stage b.stage grew.bytes grew.steps stands
    grew.says in
    some_written (inr refl) (
      grew.bytes,
      subst (λ (xs : List ℕ). IsPrefix xs (sent_of plan bytes)) (sym (went.wrote ∙ sym (body_bytes plan first)))
          (begins plan bytes count within went.unrefused),
      grew.taken,
    )

-- all that was written of a stream that was driven through a head end
pub wrote_sent : {S F : Type 0} (plan : Plan) (does : S → List ℕ → S → List ℕ → ℕ → Type 0) (ends : S → S → List ℕ → ℕ →
    Type 0)
    (refuses : S → Option (List ℕ) → F → S → List ℕ → ℕ → Type 0) (told : F → Option ClearFault)
    (After : List (List ℕ) → S → Type 0)
    (head : IsHeadEnd plan does ends refuses told After) (bytes : List ℕ) (a b : DriveState S)
    (result : Result ℕ (DriveFault F)) →
    After [] a.stage → DriveOutcomeOver does ends refuses bytes a b result →
    StreamWritten (sent_of plan bytes) (sent_status plan bytes) a.sink.held b.sink.held (sent_told told result)
wrote_sent plan does ends refuses told After head bytes a b (Ok count) stands (whole, counted, grew) =
    wrote_all grew.bytes grew.says grew.taken
  where
    wrote_all : (xs : List ℕ) → ChainToEnd does ends a.stage (packets_taken bytes) b.stage xs grew.steps →
        Appends a.sink.held b.sink.held xs →
        StreamWritten (sent_of plan bytes) (sent_status plan bytes) a.sink.held b.sink.held Done
    wrote_all xs (mid, first, last, m, k, chain, end, joined, number) taken =
        let clear = packets_taken bytes in
        let went = went_on plan does ends refuses told After head [] clear a.stage mid first m stands chain in
        let closes = head.last clear mid b.stage last k went.after end in
        let sent = whole_unrefused plan bytes went.unrefused closes.0 whole in
        let closing = closes.1 in
        all_written sent.1 tt
        (subst (λ (ys : List ℕ). Appends a.sink.held b.sink.held ys)
        (joined ∙ ap (λ (ys : List ℕ). ys ++ last) (went.wrote ∙ sym (body_bytes plan clear))
        ∙ ap (λ (ys : List ℕ). concat (body plan clear) ++ ys) closing ∙ sym (closed_bytes plan clear) ∙ sent.0) taken)
wrote_sent plan does ends refuses told After head bytes a b (Err (drive.Broken found)) stands (end, grew) =
    let clear = packets_taken bytes in
    let went = went_on plan does ends refuses told After head [] clear a.stage b.stage grew.bytes grew.steps stands
    grew.says in
    let sent = broken_unrefused plan bytes found went.unrefused end in
    all_written sent.1 tt
    (subst (λ (xs : List ℕ). Appends a.sink.held b.sink.held xs) (went.wrote ∙ sym (body_bytes plan clear) ∙ sent.0)
    grew.taken)
wrote_sent plan does ends refuses told After head bytes a b (Err drive.TooLong) stands (end, grew) =
    let clear = packets_taken bytes in
    let went = went_on plan does ends refuses told After head [] clear a.stage b.stage grew.bytes grew.steps stands
    grew.says in
    let sent = long_unrefused plan bytes went.unrefused end in
    all_written sent.1 tt
    (subst (λ (xs : List ℕ). Appends a.sink.held b.sink.held xs) (went.wrote ∙ sym (body_bytes plan clear) ∙ sent.0)
    grew.taken)
wrote_sent plan does ends refuses told After head bytes a b (Err drive.ReadFault) stands (count, within, grew) =
    some_sent plan does ends refuses told After head bytes a b count stands within grew
wrote_sent plan does ends refuses told After head bytes a b (Err drive.WriteFault) stands (inr h) =
    some_sent plan does ends refuses told After head bytes a b h.count stands h.within h.passed
wrote_sent plan does ends refuses told After head bytes a b (Err drive.WriteFault) stands (inl h) =
    let first = take h.count (packets_taken bytes) in
    let went = went_on plan does ends refuses told After head [] first a.stage h.mid.stage h.passed.bytes h.passed.steps
    stands h.passed.says in
    let part = may_write plan does ends refuses told After head bytes h.count h.mid.stage h.passed.bytes h.cut.bytes
    h.mid.steps b.steps (slice_get (packets_taken bytes) h.count) h.place went refl h.cut.says in
    some_written (inr refl) (
      h.passed.bytes ++ h.cut.prefix,
      prefix_of_prefix (h.passed.bytes ++ h.cut.prefix) (h.passed.bytes ++ h.cut.bytes) (sent_of plan bytes)
          (after_first h.passed.bytes h.cut.prefix h.cut.bytes h.cut.short) part,
      Appends-trans a.sink.held h.mid.sink.held b.sink.held h.passed.bytes h.cut.prefix h.passed.taken h.cut.taken,
    )
wrote_sent plan does ends refuses told After head bytes a b (Err (drive.Refused fault)) stands h =
    refused_so h.passed.bytes h.passed.says h.passed.taken
  where
    refused_so : (xs : List ℕ) → ChainToRefusal does refuses a.stage (take h.count (packets_taken bytes))
        (slice_get (packets_taken bytes) h.count) fault b.stage
        xs h.passed.steps → Appends a.sink.held b.sink.held xs →
        StreamWritten (sent_of plan bytes) (sent_status plan bytes) a.sink.held b.sink.held
        (head_stop_status (told fault))
    refused_so xs (mid, first, last, m, k, chain, refuse, joined, number) taken =
        let before = take h.count (packets_taken bytes) in
        let here = slice_get (packets_taken bytes) h.count in
        let went = went_on plan does ends refuses told After head [] before a.stage mid first m stands chain in
        let due = head.refusal before mid here fault b.stage last k went.after refuse in
        stopped_at plan bytes h.count xs a.sink.held b.sink.held (told fault) here h.place
        (nothing_joined first last xs due.0 joined ∙ went.wrote ∙ sym (body_bytes plan before)) went.unrefused refl
        due.1 taken
