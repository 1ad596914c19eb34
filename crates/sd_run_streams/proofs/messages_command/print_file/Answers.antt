use Rattle.std.proofs.Common.{refl, ◌∙◌, ◌≡◌, arith}
use Rattle.sd_ports.proofs.Calls.{twice_called, open_as_before}
use Rattle.sd_engine.specs.Taken.{end_of}
use Rattle.sd_site_cards.specs.SiteFields.{site_fields_of}
use Rattle.sd_command_base.specs.Outside.{depot_state, page_state}
use Rattle.sd_command_base.specs.Spec.{whole_file_bytes, value}
use Rattle.sd_command_base.specs.Outcome.{status_of}
use Rattle.sd_command_base.proofs.Follow.{looks_follows}
use Rattle.sd_command_base.proofs.Streams.{faults_added, reading_follows}
use Rattle.sd_command_base.specs.Shown.{shown_word}
use Rattle.sd_command_base.proofs.Looked.{bytes_seen, opened_got, opens_refused}
use Rattle.sd_run_streams.proofs.Inspected.{stream_ends}
use Rattle.sd_run_streams.specs.Messages.{monitoring}
use Rattle.sd_run_streams.proofs.messages_command.print_file.Goals as goal

-- the stream's file was not opened
pub returns-in-Err : goal.returns-in-Err
returns-in-Err g c steps =
    let stream = shown_word c.args.stream in
    let p = depot_state g.D.Depot c.args.depot.now in
    let q = depot_state g.D.Depot c.open_in.new.self in
    let h = c.in-Err.ensures in
    looks_follows bytes_seen (whole_file_bytes stream.number)
    (λ bytes. value (monitoring (site_fields_of c.args.site.now) bytes))
    stream p q (page_state g.P.Sink c.args.print.now) steps _
    (rw c.opening_fault.ensures (opens_refused stream.number stream.text p q _ h.not_there h.cause h.stops
    (record { files = h.files; made = h.made; ports = h.ports.refused; calls = let n = h.calls in omega (arith, n) })))

pub returns : goal.returns
returns g c steps =
    let stream = shown_word c.args.stream in
    let p = depot_state g.D.Depot c.args.depot.now in
    let q = depot_state g.D.Depot c.close_in.new.self in
    let status = status_of c.print_messages-printed.result in
    let h = c.in-Ok.ensures in
    let k = c.close_in.ensures in
    let seen = c.print_messages-printed.ensures.value in
    reading_follows (monitoring (site_fields_of c.args.site.now)) stream seen.bytes p q
    (page_state g.P.Sink c.args.print.now) (page_state g.P.Sink c.print_messages-printed.new.print)
    steps status refl refl (stream_ends (end_of seen.bytes)) (opened_got p.files stream.text _ seen.bytes h.opened
    seen.is_left)
    (record {
      files = k.files ∙ h.files;
      made = k.made ∙ h.made;
      misses = k.misses ∙ h.cause.no_miss (λ e. cc);
      ports = open_as_before _ _ _ h.ports.given k.ports;
      calls = let n : q.calls ≡ _ = twice_called p.calls _ q.calls h.calls k.calls in omega (arith, n);
      faults = faults_added p.faults _ q.faults _ _ status (h.cause.no_fault (λ e. cc)) k.within k.faults h.fresh
          c.print_messages-printed.ensures.cause;
      stops = faults_added p.stops _ q.stops _ _ status (h.stops.calm (λ e. cc)) k.below k.stops h.fresh
          c.print_messages-printed.ensures.cause;
    })
    seen.prints
