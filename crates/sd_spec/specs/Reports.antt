-- Public meaning: what is told of a stream that may be damaged: what it had that doesn't count, and how its runs end.
use Rattle.std.specs.Prelude.{◌+◌, ◌-◌, ◌^◌, ◌&&◌, Bool, List, [], ◌∷◌, ◌++◌, length, min}
use Rattle.std.specs.Prelude.{reverse, is_none, if◌then◌else◌, Option, Some, None}
use Rattle.sd_base.specs.Types.{Packet, Packets, PacketNumber}
use Rattle.sd_site_cards.specs.CardFields.{CardFields}
use Rattle.sd_message.specs.declared.stream_fault.StreamFault.{StreamFault}
use Rattle.sd_spec.specs.declared.ending.Ending.{Ending}
use Rattle.sd_spec.specs.declared.ending.Ending.TheVariants.{NoCat}
use Rattle.sd_spec.specs.declared.report.Report.{Report}
use Rattle.sd_spec.specs.declared.report.Tally.{Tally}
use Rattle.sd_spec.specs.Tuned.{tuning_of}
use Rattle.sd_spec.specs.Runs.{run_name_in}
use Rattle.sd_spec.specs.Offered.{heard, tuned_offering, out_from}
use Rattle.sd_spec.specs.Ending.{turns_at, run_ending, run_wrote}
use Rattle.sd_spec.specs.Counting.{is_marked, is_doubled, is_stray_at, counts, counting}

-- the tally with one packet more in front: a marked one, a doubled one, an odd one, one that is refused for this cause
abbrev pub tally_marked : Tally → Tally
tally_marked tally = record {
  marked = tally.marked + 1;
  doubled = tally.doubled;
  odd = tally.odd;
  refused = tally.refused;
  first = tally.first;
}

abbrev pub one_doubled : Tally → Tally
one_doubled tally = record {
  marked = tally.marked;
  doubled = tally.doubled + 1;
  odd = tally.odd;
  refused = tally.refused;
  first = tally.first;
}

abbrev pub one_odd : Tally → Tally
one_odd tally = record {
  marked = tally.marked;
  doubled = tally.doubled;
  odd = tally.odd + 1;
  refused = tally.refused;
  first = tally.first;
}

abbrev pub tally_refused : StreamFault → Tally → Tally
tally_refused fault tally = record {
  marked = tally.marked;
  doubled = tally.doubled;
  odd = tally.odd;
  refused = tally.refused + 1;
  first = Some fault;
}

-- a packet that isn't refused counts; else it is refused for this cause
abbrev pub refused_or : Option StreamFault → Tally → Tally → Tally
refused_or None counted uncounted = counted
refused_or (Some fault) counted uncounted = tally_refused fault uncounted

-- what is told of packets from number n on, after these that counted, the newest first [this project, docs/FORMATS.md,
-- Receiver]
unfoldable pub tally_from : CardFields → PacketNumber → Packets → Packets → Tally
tally_from card n past [] = record { marked = 0; doubled = 0; odd = 0; refused = 0; first = None }
tally_from card n past (packet ∷ packets) =
    if is_marked packet then tally_marked (tally_from card (n + 1) past packets)
    else if is_doubled card past packet then one_doubled (tally_from card (n + 1) past packets)
    else if is_stray_at card past packet then one_odd (tally_from card (n + 1) past packets)
    else refused_or (tuned_offering card (tuning_of card.ca past) n (heard card past) packet).fault
    (tally_from card (n + 1) (packet ∷ past) packets) (tally_from card (n + 1) past packets)

-- how the current run would end, if it were the only one and the stream ended here
abbrev pub run_end : CardFields → Packets → Ending
run_end card past =
    if is_none (tuning_of card.ca past) then NoCat else run_ending card (heard card past) (run_wrote card past)

-- what is told of a stream so far, and of its current run. What is written is told up to 2^64 - 1
unfoldable pub report_of : CardFields → Packets → Report
report_of card packets = record {
  tally = tally_from card 0 [] packets;
  packets = length packets;
  written = min (length (out_from card [] (counting card [] packets))) (2 ^ 64 - 1);
  run = run_name_in (heard card (reverse (counting card [] packets)));
  ending = run_end card (reverse (counting card [] packets));
}

-- the packet counts after these, and is the first message of another run
unfoldable pub turns_after : CardFields → Packets → Packet → Bool
turns_after card before packet = counts card (reverse (counting card [] before)) packet
    && turns_at card (reverse (counting card [] before)) packet

-- the reports before each packet that turns to another run, of packets after others
unfoldable pub turned_reports : CardFields → Packets → Packets → List Report
turned_reports card before [] = []
turned_reports card before (packet ∷ packets) =
    (if turns_after card before packet then report_of card before ∷ [] else [])
    ++ turned_reports card (before ++ packet ∷ []) packets

-- the reports on a stream: one before each turn, and one at the end [this project, docs/FORMATS.md, Receiver]
unfoldable pub reports : CardFields → Packets → List Report
reports card packets = turned_reports card [] packets ++ report_of card packets ∷ []
