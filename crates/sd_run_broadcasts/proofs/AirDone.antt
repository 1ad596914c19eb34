-- What comes of a live stream that is sent into OUT behind its mark, and then reported.
use Rattle.std.proofs.Common.{◌≡◌, ◌≢◌, ◌⊎◌, ◌∙◌, ℕ, Bool, true, false, List, [], ◌∷◌, Option, Some, None}
use Rattle.std.proofs.Common.{Result, Ok, Err, refl, sym, ap, subst, inl, inr, arith, append-nil}
use Rattle.std.specs.List.{concat}
use Rattle.std.specs.Io.KnownBytes.{Appends}
use Rattle.std.proofs.KnownBytes.{Appends-nil}
use Rattle.sd_base.specs.Count.{HasRisen, with_added}
use Rattle.sd_ports.specs.Bytes.{AppendsPrefix}
use Rattle.sd_ports.specs.Files.{ClosesFile}
use Rattle.sd_ports.proofs.Outlets.{closed_whole, cut_short}
use Rattle.sd_spec.specs.Plan.{Plan}
use Rattle.sd_command_base.specs.declared.status.Status.{Status}
use Rattle.sd_command_base.specs.declared.status.Status.TheVariants.{Done, DepotFault, NoMemory}
use Rattle.sd_command_base.specs.Outside.{DepotState, PageState, io_state}
use Rattle.sd_command_base.specs.Spec.{FileArgument}
use Rattle.sd_command_base.specs.Work.{Work}
use Rattle.sd_command_base.specs.Made.{out_file}
use Rattle.sd_command_base.specs.Outcome.{IsEnding, IsOutMade, IsOutMadeShort, Outcome, ended, exhausted, failed}
use Rattle.sd_command_base.specs.Outcome.{cut_off}
use Rattle.sd_command_base.specs.Outcome.{writing, printing, OutcomeWithin, status_of}
use Rattle.sd_command_base.specs.Turned.{HasPortCause, ArePortsClosed, unclosed_by}
use Rattle.sd_command_base.proofs.Turning.{added_later, all_prefix, both_closed, rises, still}
use Rattle.sd_run_broadcasts.specs.Air.{air_line, air_report, aired_by, airing, live_sent, mark_word}
use Rattle.sd_run_broadcasts.specs.Marked.{with_mark_made, IsOpenedMarked}
use Rattle.sd_run_broadcasts.specs.OnAir.{sending_result, sent_status_at, status_in, IsStop, SendsLiveStream, SendsLive}
use Rattle.sd_run_broadcasts.specs.OnAir.{TellsReport}
use Rattle.sd_run_broadcasts.specs.declared.air_send.Finished.{Finished}

-- the status at the end of a stream that was sent may stand at the end of work
ending_at : (used_up : Bool) (packets : ℕ) → IsEnding (sent_status_at used_up packets)
ending_at true packets = tt
ending_at false packets = tt

-- what was written is a prefix of all
sends_prefix : (plan : Plan) (bytes : List ℕ) (held held' : Option (List ℕ)) (sent : Result Finished Status) →
    SendsLiveStream plan bytes held held' sent → AppendsPrefix held held' (live_sent plan bytes)
sends_prefix plan bytes held held' (Ok finished) h = all_prefix held held' (live_sent plan bytes) h.2
sends_prefix plan bytes held held' (Err status) h = h.1

-- how the sending ended, if OUT was closed or not
data Closing (sent : Result Finished Status) (status : Status) : Type 0 where
  -- memory was out
  wanting : status ≡ NoMemory → status_in sent ≢ DepotFault → Closing sent status
  -- the device failed while it was sent
  faulty : status ≡ DepotFault → status_in sent ≡ DepotFault → Closing sent status

stop_closing : (sent : Result Finished Status) (s status : Status) → sent ≡ Err s → IsStop s → s ≡ status →
    Closing sent status
stop_closing sent s status is (inl memory) same =
    wanting (sym same ∙ memory) (λ fault. let wrong : NoMemory ≡ DepotFault = sym memory ∙ sym (ap status_in is) ∙ fault
    in cc)
stop_closing sent s status is (inr device) same = faulty (sym same ∙ device) (ap status_in is ∙ device)

closing_by : (plan : Plan) (bytes : List ℕ) (held held' : Option (List ℕ)) (sent : Result Finished Status)
    (status : Status) → SendsLiveStream plan bytes held held' sent → sending_result sent ≡ Err status →
    Closing sent status
closing_by plan bytes held held' (Ok finished) status h is = cc
closing_by plan bytes held held' (Err s) status h is = stop_closing (Err s) s status refl h.0 (same is)
  where
    same : {s status : Status} → ◌≡◌ {A = Result (Unit {0}) Status} (Err s) (Err status) → s ≡ status
    same e = ap status_of e

-- OUT wasn't closed: the device failed, or memory was out before
unclosed_closing : (plan : Plan) (bytes : List ℕ) (held held' : Option (List ℕ)) (sent : Result Finished Status)
    (status : Status) → SendsLiveStream plan bytes held held' sent → unclosed_by (sending_result sent) ≡ Err status →
    ((status ≡ NoMemory) × (status_in sent ≢ DepotFault)) ⊎ (status ≡ DepotFault)
unclosed_closing plan bytes held held' (Ok finished) status h is = inr (sym (ap status_of is))
unclosed_closing plan bytes held held' (Err s) status h is = by s h.0 is
  where
    by : (s : Status) → IsStop s → unclosed_by (Err s) ≡ Err status →
        ((status ≡ NoMemory) × (s ≢ DepotFault)) ⊎ (status ≡ DepotFault)
    by s (inl memory) is = inl (
      sym (ap status_of is) ∙ ap (λ (x : Status). status_of (unclosed_by (Err x))) memory,
      λ fault. let wrong : NoMemory ≡ DepotFault = sym memory ∙ fault in cc,
    )
    by s (inr device) is = inr (sym (ap status_of is) ∙ ap (λ (x : Status). status_of (unclosed_by (Err x))) device)

-- a result that is no error stays none if its port isn't closed
never_closed : (ended : Result (Unit {0}) Status) → unclosed_by ended ≢ Ok tt
never_closed (Ok done) e = cc
never_closed (Err status) e = cc

-- what is known once both ports were closed
pub record IsDone (plan : Plan) (site out : FileArgument) (a m r : DepotState) (from : List ℕ)
    (left held held' : Option (List ℕ)) (f f' o o' : ℕ) (sent : Result Finished Status)
    (closed : Result (Unit {0}) Status) : Type 0 where
  pub opened : IsOpenedMarked (mark_word site) a m from out.text left held f o
  pub cause : HasPortCause f f' o o' (status_in sent)
  pub sends : SendsLive plan left held held' sent
  pub closes : ArePortsClosed m r out.text held' f' o' (sending_result sent) closed

module _ (plan : Plan) (site out : FileArgument) (a m r : DepotState) (from : List ℕ)
    (left held held' : Option (List ℕ)) (f f' o o' : ℕ) (sent : Result Finished Status)
    (closed : Result (Unit {0}) Status)
    (h : IsDone plan site out a m r from left held held' f f' o o' sent closed)
    (page : PageState) (i j clear : ℕ) where
  abbrev work : Work
  work = airing plan site out h.sends.bytes

  abbrev p : DepotState
  p = with_mark_made (mark_word site) a

  -- OUT has a prefix of its bytes
  short : IsOutMadeShort (out_file out (live_sent plan h.sends.bytes)) p r
  short =
      let it = cut_short p.files m.files r.files out.text (live_sent plan h.sends.bytes) held held' h.opened.files
      h.opened.empty (sends_prefix plan h.sends.bytes held held' sent h.sends.sends) h.closes.prefix in
      record { prefix = it.0; short = it.1; files = it.2; made = h.closes.made ∙ h.opened.made }

  missed : r.misses ≡ a.misses
  missed = h.closes.misses ∙ h.opened.misses

  -- no device failed but at closing OUT
  stops_stand : status_in sent ≢ DepotFault → r.stops ≡ a.stops
  stops_stand other = still a.stops m.stops r.stops f f' o o' (status_in sent) h.opened.stops h.closes.below
      h.opened.from_fresh h.opened.out_fresh h.cause other h.closes.stops

  memory_out : (status : Status) → status ≡ NoMemory → status_in sent ≢ DepotFault →
      Outcome (Ok work) (io_state a page i) (io_state r page j) status
  memory_out status is other =
      exhausted is (writing work refl (out_file out (live_sent plan h.sends.bytes)) refl short refl) (stops_stand other)
      refl missed

  device_failed : (status : Status) → status ≡ DepotFault → HasRisen a.faults r.faults →
      Outcome (Ok work) (io_state a page i) (io_state r page j) status
  device_failed status is rose =
      failed is (writing work refl (out_file out (live_sent plan h.sends.bytes)) refl short refl) rose
      (λ breaks. cc) refl
      missed

  -- the outside stopped it, or OUT failed to close
  stopped_comes : (status : Status) → closed ≡ Err status →
      Outcome (Ok work) (io_state a page i) (io_state r page j) status
  stopped_comes status is = elim h.closes.ends [
    | inl whole ↦ by whole.2 (closing_by plan h.sends.bytes held held' sent status h.sends.sends (sym whole.0 ∙ is))
    | inr cut ↦
        let rose : HasRisen a.faults r.faults =
        subst (λ (n : ℕ). HasRisen n r.faults) h.opened.faults (added_later m.faults f' o' r.faults cut.1) in
        elim (unclosed_closing plan h.sends.bytes held held' sent status h.sends.sends (sym cut.0 ∙ is)) [
          | inl memory ↦ memory_out status memory.0 memory.1
          | inr device ↦ device_failed status device rose
        ]
  ]
    where
      by : r.faults ≡ with_added (with_added m.faults f') o' → Closing sent status →
          Outcome (Ok work) (io_state a page i) (io_state r page j) status
      by added (wanting e other) = memory_out status e other
      by added (faulty e over) = device_failed status e
          (rises a.faults m.faults r.faults f f' o o' (status_in sent) h.opened.faults h.opened.from_fresh
          h.opened.out_fresh h.cause over added)

  -- all was sent, and both were closed
  module _ (finished : Finished) (is : sent ≡ Ok finished) (c : PageState) where
    all : SendsLiveStream plan h.sends.bytes held held' (Ok finished)
    all = subst (SendsLiveStream plan h.sends.bytes held held') is h.sends.sends

    other : status_in sent ≢ DepotFault
    other fault = let wrong : Done ≡ DepotFault = sym (ap status_in is) ∙ fault in cc

    reported : air_line finished.report ≡ air_line (air_report plan h.sends.bytes)
    reported = ap air_line all.0

    whole_line : concat (air_line (air_report plan h.sends.bytes) ∷ []) ≡ air_line finished.report
    whole_line = append-nil (air_line (air_report plan h.sends.bytes)) ∙ sym reported

    module _ (closes : ClosesFile m.files r.files out.text held')
        (added : r.faults ≡ with_added (with_added m.faults f') o') where
      made : IsOutMade (Some (out_file out (live_sent plan h.sends.bytes))) p r
      made = record {
        files = closed_whole p.files m.files r.files out.text (live_sent plan h.sends.bytes) held held'
            h.opened.files h.opened.empty all.2 closes;
        made = h.closes.made ∙ h.opened.made;
      }

      calm : r.faults ≡ a.faults
      calm = still a.faults m.faults r.faults f f' o o' (status_in sent) h.opened.faults h.closes.within
          h.opened.from_fresh h.opened.out_fresh h.cause other added

      told : (status : Status) → TellsReport finished page c status →
          Outcome (Ok work) (io_state a page i) (io_state r c j) status
      told status (inl t) =
          ended work refl (t.0 ∙ all.1)
          (subst IsEnding (sym t.0) (ending_at finished.used_up finished.report.packets)) made
          (subst (Appends page.printed c.printed) (sym whole_line) t.1) (record { depot = calm; print = t.2 }) missed
      told status (inr (inl t)) =
          subst (λ (now : PageState). Outcome (Ok work) (io_state a page i) (io_state r now j) status) (sym t.1)
          (exhausted t.0 (printing work refl made (0, Appends-nil page.printed)) (stops_stand other) refl missed)
      told status (inr (inr t)) =
          cut_off work refl t.0 made (subst (AppendsPrefix page.printed c.printed) (sym whole_line) t.1) t.2 calm
          missed

    told_comes : (status : Status) → closed ≡ Ok tt → TellsReport finished page c status →
        Outcome (Ok work) (io_state a page i) (io_state r c j) status
    told_comes status good tells = elim h.closes.ends [
      | inl whole ↦ told whole.1 whole.2 status tells
      | inr cut ↦ absurd (never_closed (sending_result sent) (sym cut.0 ∙ good))
    ]

  -- so it is of all that was meant by what the file gave
  obeys : (c : PageState) (status : Status) → Outcome (Ok work) (io_state a page i) (io_state r c j) status →
      OutcomeWithin (aired_by plan site clear out (Some h.sends.bytes) None) (io_state a page i) (io_state r c j) status
  obeys c status comes = record {
    comes = comes;
    ports = both_closed a.opened m.opened r.opened h.opened.within h.opened.ports h.closes.low h.closes.ports;
    calls = let x = h.opened.calls in let y = h.closes.calls in omega (arith, x, y);
    steps = tt;
  }

  pub stopped_obeys : (status : Status) → closed ≡ Err status →
      OutcomeWithin (aired_by plan site clear out (Some h.sends.bytes) None) (io_state a page i) (io_state r page j)
      status
  stopped_obeys status is = obeys page status (stopped_comes status is)

  pub told_obeys : (finished : Finished) → sent ≡ Ok finished → (c : PageState) (status : Status) → closed ≡ Ok tt →
      TellsReport finished page c status →
      OutcomeWithin (aired_by plan site clear out (Some h.sends.bytes) None) (io_state a page i) (io_state r c j) status
  told_obeys finished is c status good tells = obeys c status (told_comes finished is c status good tells)

  -- a stream that the outside stopped isn't closed well
  pub never_stopped : (status : Status) → sent ≡ Err status → closed ≡ Ok tt → ⊥
  never_stopped status is good = elim h.closes.ends [
    | inl whole ↦ let wrong : Err status ≡ Ok tt = sym (ap sending_result is) ∙ sym whole.0 ∙ good in absurd (cc)
    | inr cut ↦ absurd (never_closed (sending_result sent) (sym cut.0 ∙ good))
  ]
