-- One step of a head end that goes on.
use Rattle.std.proofs.Common.{◌≡◌, ℕ, ◌+◌, ◌-◌, ◌^◌, ◌<◌, ◌==◌, Bool, true, false, List, [], ◌∷◌, ◌++◌, length}
use Rattle.std.proofs.Common.{refl, sym, ap, subst, ◌∙◌, arith, length-append, append-nil}
use Rattle.std.specs.Prelude.{not, is_none, if◌then◌else◌, ◌||◌, Option, Some, None, option_map, Result, Ok, Err}
use Rattle.std.specs.Option.{option_or}
use Rattle.sd_base.specs.Types.{Packet, Packets, PacketNumber, Pid}
use Rattle.sd_base.specs.Count.{with_added}
use Rattle.sd_packet.specs.Header.{pid_of, scrambling_of}
use Rattle.sd_site_cards.specs.SiteFields.{SiteFields}
use Rattle.sd_psi.specs.declared.fault.FormFault.TheVariants as Form
use Rattle.sd_message.specs.declared.clear_fault.ClearFault.{ClearFault}
use Rattle.sd_message.specs.declared.clear_fault.ClearFault.TheVariants.{AlreadyScrambled, PidTaken, PatForm, PmtForm}
use Rattle.sd_message.specs.declared.clear_fault.ClearFault.TheVariants.{TooManyPids, TooLong}
use Rattle.sd_spec.specs.Counting.{is_marked}
use Rattle.sd_spec.specs.Kinds.{kind_of}
use Rattle.sd_spec.specs.Plan.{Plan, period_of}
use Rattle.sd_spec.specs.Refused.{fault_where, is_reserved_pid, is_full_own, is_one_too_many, is_used_up}
use Rattle.sd_spec.specs.Refused.{unsent_at, pat_wrong}
use Rattle.sd_spec.specs.Aired.{Verdict, Marked, Refused, Sent, Ends, verdict_by, verdict_of, by_verdict, aired}
use Rattle.sd_spec.specs.Aired.{aired_from, ended_from, left_from, none_left}
use Rattle.sd_spec.specs.declared.left_out.LeftOut.{LeftOut}
use Rattle.sd_head.specs.Left.{is_over, clear_fault_at, with_marked, with_refused, with_sent}
use Rattle.sd_head.specs.Leaving.{IsLiveJudged, IsPacketLeftOut}
use Rattle.sd_head.specs.Live.{live_breaks, live_ends, live_stops, live_takes, starts_period, verdict_after}
use Rattle.sd_head.specs.Live.{IsLiveAfter}
use Rattle.sd_head.specs.Live.{TakesLivePacket}
use Rattle.sd_head.specs.Staged.{head_closes, head_sends, IsHeadEndAfter, IsOfSent}
use Rattle.sd_head.specs.declared.head.Head.{Head}
use Rattle.sd_head.specs.declared.judged.Judged.{Judged}
use Rattle.sd_head.specs.declared.live.Live.{Live}
use Rattle.sd_head.specs.declared.live.Taken.{Taken}
use Rattle.sd_head.specs.declared.live.Taken.TheVariants.{On, Begins}
use Rattle.sd_head.proofs.Airing.{aired_more, aired_alone, ended_more, ended_alone, left_more, left_with, left_within}
use Rattle.sd_head.proofs.Airing.{IsWithin}
use Rattle.sd_head.proofs.Offering.{site_is}

-- the first rule that a packet breaks is the same whatever its number
same_rule : (a b c d e : Bool) (pid : Pid) (m n : PacketNumber) →
    fault_where a (AlreadyScrambled n) (fault_where b (PidTaken n pid) (fault_where c (PmtForm n Form.NoRoom)
    (fault_where d (TooManyPids n) (fault_where e (TooLong n) None))))
    ≡ option_map (clear_fault_at n) (fault_where a (AlreadyScrambled m) (fault_where b (PidTaken m pid)
    (fault_where c (PmtForm m Form.NoRoom) (fault_where d (TooManyPids m) (fault_where e (TooLong m) None)))))
same_rule true b c d e pid m n = refl
same_rule false true c d e pid m n = refl
same_rule false false true d e pid m n = refl
same_rule false false false true e pid m n = refl
same_rule false false false false true pid m n = refl
same_rule false false false false false pid m n = refl

pub unsent_renumbered : (site : SiteFields) (before : Packets) (packet : Packet) (m n : PacketNumber) →
    unsent_at site before n packet ≡ option_map (clear_fault_at n) (unsent_at site before m packet)
unfolding unsent_at
unsent_renumbered site before packet m n =
    same_rule (not (scrambling_of packet == 0)) (is_reserved_pid site (pid_of packet))
    (is_full_own site (kind_of before packet) packet) (is_one_too_many before packet)
    (is_used_up site (length before)) (pid_of packet) m n

-- what becomes of a packet that isn't marked, by the first rule that it breaks
verdict_told : (site : SiteFields) (before : Packets) (n : PacketNumber) (packet : Packet)
    (found : Option ClearFault) → is_marked packet ≡ false → unsent_at site before (length before) packet ≡ found →
    verdict_of site before n packet ≡ verdict_by (option_map (clear_fault_at n) found)
unfolding verdict_of
verdict_told site before n packet found unmarked is =
    rw unmarked (ap verdict_by (unsent_renumbered site before packet (length before) n
    ∙ ap (option_map (clear_fault_at n)) is))

-- of a packet that is judged without the rule on PATs
pub is_sent : (plan : Plan) (past : Packets) (s : Live) (packet : Packet) (judged : Judged) → IsLiveAfter plan past s →
    is_marked packet ≡ false → IsLiveJudged s packet (Ok judged) → verdict_after plan past packet ≡ Sent
unfolding unsent_at
is_sent plan past s packet judged live unmarked told =
    verdict_told plan.site (aired plan.site past) (length past) packet None unmarked
    (subst (λ (site : SiteFields). unsent_at site (aired plan.site past) (length (aired plan.site past)) packet ≡ None)
    (site_is plan (aired plan.site past) s.head live.head_is) (told.value (aired plan.site past) live.head_is.clear_is))

pub is_faulty : (plan : Plan) (past : Packets) (s : Live) (packet : Packet) (fault : ClearFault) →
    IsLiveAfter plan past s →
    is_marked packet ≡ false → IsLiveJudged s packet (Err fault) →
    verdict_after plan past packet ≡ verdict_by (Some (clear_fault_at (length past) fault))
unfolding unsent_at
is_faulty plan past s packet fault live unmarked told =
    verdict_told plan.site (aired plan.site past) (length past) packet (Some fault) unmarked
    (subst (λ (site : SiteFields). unsent_at site (aired plan.site past) (length (aired plan.site past)) packet
    ≡ Some fault) (site_is plan (aired plan.site past) s.head live.head_is)
    (told.value (aired plan.site past) live.head_is.clear_is))

-- what is counted of a packet of which this becomes
abbrev pub counted : Verdict → Packet → LeftOut → LeftOut
counted Marked packet out = with_marked out
counted (Refused fault) packet out = with_refused out fault
counted Sent packet out = with_sent out packet
counted Ends packet out = out

-- a count below its last value is one more
one_more : (n : ℕ) → n < 2 ^ 64 - 1 → with_added n 1 ≡ n + 1
one_more n small = omega (arith, small)

counted_is : (v : Verdict) (packet : Packet) (out : LeftOut) (n : ℕ) → IsWithin n out → n < 2 ^ 48 →
    counted v packet out ≡ left_with v packet out
counted_is Marked packet out n within small =
    ap (λ (k : ℕ). record { marked = k; refused = out.refused; pats = out.pats; first = out.first })
    (one_more out.marked (omega (arith, within, small)))
counted_is (Refused fault) packet out n within small =
    ap (λ (k : ℕ). record {
      marked = out.marked;
      refused = k;
      pats = out.pats;
      first = option_or out.first (Some fault);
    }) (one_more out.refused (omega (arith, within, small)))
counted_is Sent packet out n within small =
    ap (λ (k : ℕ). record { marked = out.marked; refused = out.refused; pats = k; first = out.first })
    (pats_are (is_none (pat_wrong packet)))
  where
    pats_are : (b : Bool) → (if b then out.pats else with_added out.pats 1) ≡ (if b then 0 else 1) + out.pats
    pats_are true = omega arith
    pats_are false = omega (arith, within, small)
counted_is Ends packet out n within small = refl

-- the broadcast goes on with a packet of which this becomes
abbrev pub goes : Verdict → Bool
goes v = by_verdict v true true false

goes_on : (v : Verdict) (n : PacketNumber) → goes v ≡ true →
    ◌≡◌ {A = Option ℕ} (by_verdict v None None (Some n)) None
goes_on Marked n h = refl
goes_on (Refused fault) n h = refl
goes_on Sent n h = refl
goes_on Ends n h = absurd cc

-- after a packet more
pub still_live : (plan : Plan) (past : Packets) (packet : Packet) (s t : Live) (v : Verdict) → IsLiveAfter plan past s →
    length past < 2 ^ 48 → verdict_after plan past packet ≡ v → goes v ≡ true →
    IsHeadEndAfter plan (aired plan.site past ++ by_verdict v (packet ∷ []) [] []) t.head →
    t.left_out ≡ counted v packet s.left_out → t.packets ≡ with_added s.packets 1 →
    IsLiveAfter plan (past ++ packet ∷ []) t
still_live plan past packet s t v live small is go head left packets =
    let site = plan.site in
    let before = aired site past in
    let none : 0 + length past ≡ length past = omega arith in
    let sent : aired site (past ++ packet ∷ []) ≡ before ++ by_verdict v (packet ∷ []) [] [] =
    aired_more site (packet ∷ []) [] 0 past live.goes_on
    ∙ ap (λ (more : Packets). before ++ more) (rw none (aired_alone site before (length past) packet)
    ∙ ap (λ (w : Verdict). by_verdict w (packet ∷ []) [] []) is) in
    let ended : ended_from site [] 0 (past ++ packet ∷ []) ≡ None =
    ended_more site (packet ∷ []) [] 0 past live.goes_on
    ∙ (rw none (ended_alone site before (length past) packet)
    ∙ (ap (λ (w : Verdict). by_verdict w None None (Some (length past))) is ∙ goes_on v (length past) go)) in
    let out : left_from site [] 0 (past ++ packet ∷ []) ≡ left_with v packet (left_from site [] 0 past) =
    rw none at (left_more site packet [] 0 past live.goes_on)
    ∙ ap (λ (w : Verdict). left_with w packet (left_from site [] 0 past)) is in record {
      head_is = subst (λ (b : Packets). IsHeadEndAfter plan b t.head) (sym sent) head;
      goes_on = ended;
      left_out_is = left ∙ (ap (counted v packet) live.left_out_is
          ∙ (counted_is v packet (left_from site [] 0 past) (length past) (left_within site [] 0 past) small
          ∙ sym out));
      packets_are = packets ∙ (ap (λ (n : ℕ). with_added n 1) live.packets_are
          ∙ (one_more (length past) (omega (arith, small)) ∙ sym (length-append past (packet ∷ []))));
    }

-- a packet that is left out, which is marked or breaks a rule
abbrev is_left : Verdict → Bool
is_left v = by_verdict v false true false

left_taken : (plan : Plan) (past : Packets) (packet : Packet) (s t : Live) (v : Verdict) → IsLiveAfter plan past s →
    length past < 2 ^ 48 → verdict_after plan past packet ≡ v → is_left v ≡ true → t.head ≡ s.head →
    t.left_out ≡ counted v packet s.left_out → t.packets ≡ with_added s.packets 1 →
    TakesLivePacket plan past s packet t On []
left_taken plan past packet s t Marked live small is left head out packets = record {
  told = rw is refl;
  bytes_are = rw is refl;
  leads = rw is (still_live plan past packet s t Marked live small is refl
      (rw head (rw (append-nil (aired plan.site past)) live.head_is)) out packets);
}
left_taken plan past packet s t (Refused fault) live small is left head out packets = record {
  told = rw is refl;
  bytes_are = rw is refl;
  leads = rw is (still_live plan past packet s t (Refused fault) live small is refl
      (rw head (rw (append-nil (aired plan.site past)) live.head_is)) out packets);
}
left_taken plan past packet s t Sent live small is left head out packets = absurd cc
left_taken plan past packet s t Ends live small is left head out packets = absurd cc

marked_is : (site : SiteFields) (before : Packets) (n : PacketNumber) (packet : Packet) → is_marked packet ≡ true →
    verdict_of site before n packet ≡ Marked
unfolding verdict_of
marked_is site before n packet marked = rw marked refl

pub marked_taken : (s t : Live) (packet : Packet) (steps : ℕ) → is_marked packet ≡ true → t.head ≡ s.head →
    t.left_out ≡ with_marked s.left_out → t.packets ≡ with_added s.packets 1 → live_takes s packet t On [] steps
marked_taken s t packet steps marked head out packets = λ plan past live small.
    left_taken plan past packet s t Marked live small
    (marked_is plan.site (aired plan.site past) (length past) packet marked) refl head out packets

refused_by : (n : PacketNumber) (fault : ClearFault) → is_over fault ≡ false →
    verdict_by (Some (clear_fault_at n fault)) ≡ Refused (clear_fault_at n fault)
refused_by n (AlreadyScrambled k) h = refl
refused_by n (PidTaken k pid) h = refl
refused_by n (PatForm k form) h = refl
refused_by n (PmtForm k form) h = refl
refused_by n (TooManyPids k) h = refl
refused_by n (TooLong k) h = absurd cc

ends_by : (n : PacketNumber) (fault : ClearFault) → is_over fault ≡ true →
    verdict_by (Some (clear_fault_at n fault)) ≡ Ends
ends_by n (AlreadyScrambled k) h = absurd cc
ends_by n (PidTaken k pid) h = absurd cc
ends_by n (PatForm k form) h = absurd cc
ends_by n (PmtForm k form) h = absurd cc
ends_by n (TooManyPids k) h = absurd cc
ends_by n (TooLong k) h = refl

-- a packet that breaks a rule: it is left out, or the broadcast ends before it
faulty_taken : (s t : Live) (packet : Packet) (fault : ClearFault) (over : Bool) (taken : Taken) (steps : ℕ) →
    is_marked packet ≡ false → IsLiveJudged s packet (Err fault) → is_over fault ≡ over →
    IsPacketLeftOut over fault s t taken →
    live_takes s packet t taken [] steps
faulty_taken s t packet fault true taken steps unmarked told over leaves = λ plan past live small.
    let is = is_faulty plan past s packet fault live unmarked told ∙ ends_by (length past) fault over in record {
      told = rw is leaves.0;
      bytes_are = rw is refl;
      leads = rw is leaves.1;
    }
faulty_taken s t packet fault false taken steps unmarked told over leaves = λ plan past live small.
    let is = is_faulty plan past s packet fault live unmarked told ∙ refused_by (length past) fault over in
    rw leaves.0 (left_taken plan past packet s t (Refused (clear_fault_at (length past) fault)) live small is refl
    leaves.1.same
    (leaves.1.left_out ∙ ap (λ (n : ℕ). with_refused s.left_out (clear_fault_at n fault)) live.packets_are)
    leaves.1.packets)

pub leaves_taken : (s t : Live) (packet : Packet) (result : Result Judged ClearFault) (fault : ClearFault)
    (taken : Taken) (steps : ℕ) → is_marked packet ≡ false → IsLiveJudged s packet result → result ≡ Err fault →
    IsPacketLeftOut (is_over fault) fault s t taken → live_takes s packet t taken [] steps
leaves_taken s t packet result fault taken steps unmarked told is leaves =
    faulty_taken s t packet fault (is_over fault) taken steps unmarked (subst (IsLiveJudged s packet) is told) refl
    leaves

-- a packet that is sent, after so many, and that leads to this head end
pub sent_taken : (s t : Live) (u : Head) (packet : Packet) (judged : Judged) (bytes : List ℕ)
    (steps number last period : ℕ) (taken : Taken) → is_marked packet ≡ false → IsLiveJudged s packet (Ok judged) →
    head_sends s.head packet u bytes steps → t.head ≡ u → t.left_out ≡ with_sent s.left_out packet →
    t.packets ≡ with_added s.packets 1 → number ≡ s.head.clear.count →
    ((plan : Plan) (before : Packets) → IsHeadEndAfter plan before s.head → last ≡ period_of plan (length before - 1)) →
    ((plan : Plan) (before : Packets) → IsHeadEndAfter plan before t.head →
    period ≡ period_of plan (length before - 1)) →
    taken ≡ (if (number == 0) || not (last == period) then Begins else On) → live_takes s packet t taken bytes steps
unfolding starts_period
sent_taken s t u packet judged bytes steps number last period taken unmarked told sends same out packets counts lasted
    begins told_is = λ plan past live small.
    let before = aired plan.site past in
    let is = is_sent plan past s packet judged live unmarked told in
    let there = sends plan before live.head_is in
    let after : IsHeadEndAfter plan (before ++ packet ∷ []) t.head = rw same there.1 in
    let long : length (before ++ packet ∷ []) - 1 ≡ length before =
    let more = length-append before (packet ∷ []) in omega (arith, more) in
    let now : period ≡ period_of plan (length before) =
    begins plan (before ++ packet ∷ []) after ∙ ap (period_of plan) long in record {
      told = rw is (told_is ∙ (ap (λ (n : ℕ). if (n == 0) || not (last == period) then Begins else On)
          (counts ∙ live.head_is.clear_is.number)
          ∙ (ap (λ (q : ℕ). if (length before == 0) || not (q == period) then Begins else On)
          (lasted plan before live.head_is)
          ∙ ap (λ (q : ℕ). if (length before == 0) || not (period_of plan (length before - 1) == q) then Begins
          else On) now)));
      bytes_are = rw is there.0;
      leads = rw is (still_live plan past packet s t Sent live small is refl after out packets);
    }

-- a write of it failed
pub sent_stops : (s : Live) (packet : Packet) (judged : Judged) (from to : ℕ) (bytes : List ℕ) →
    is_marked packet ≡ false → IsLiveJudged s packet (Ok judged) → IsOfSent (head_sends s.head packet) from to bytes →
    live_stops s packet from to bytes
sent_stops s packet judged from to bytes unmarked told (steps, few, (t, sends)) = (
  steps,
  few,
  λ plan past live. (
    is_sent plan past s packet judged live unmarked told,
    (sends plan (aired plan.site past) live.head_is).0,
  ),
)

-- at the end
pub ends_live : (s : Live) (t : Head) (bytes : List ℕ) (steps : ℕ) → head_closes s.head t bytes steps →
    live_ends s bytes steps
ends_live s t bytes steps ends = λ plan past live. (ends plan (aired plan.site past) live.head_is).0

pub breaks_live : (s : Live) (from to : ℕ) (bytes : List ℕ) → IsOfSent (head_closes s.head) from to bytes →
    live_breaks s from to bytes
breaks_live s from to bytes (steps, few, (t, ends)) = (steps, few, ends_live s t bytes steps ends)

-- before the first packet
pub begun_live : (plan : Plan) (head : Head) → IsHeadEndAfter plan [] head →
    IsLiveAfter plan [] (record { head = head; packets = 0; left_out = none_left })
unfolding aired_from ended_from left_from
begun_live plan head after = record { head_is = after; goes_on = refl; left_out_is = refl; packets_are = refl }
