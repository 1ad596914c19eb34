-- Public meaning: a tally with one packet more, at its end.
use Rattle.std.specs.Prelude.{Some}
use Rattle.std.specs.Option.{option_or}
use Rattle.sd_base.specs.Count.{with_added}
use Rattle.sd_message.specs.declared.stream_fault.StreamFault.{StreamFault}
use Rattle.sd_spec.specs.declared.report.Tally.{Tally}
use Rattle.sd_watch.specs.declared.uncounted.Uncounted.{Uncounted}
use Rattle.sd_watch.specs.declared.uncounted.Uncounted.TheVariants.{Marked, Doubled, Odd}

-- one packet more that doesn't count for this reason, up to 2^64 - 1
abbrev pub tally_add : Tally → Uncounted → Tally
tally_add tally Marked = record {
  marked = with_added tally.marked 1;
  doubled = tally.doubled;
  odd = tally.odd;
  refused = tally.refused;
  first = tally.first;
}
tally_add tally Doubled = record {
  marked = tally.marked;
  doubled = with_added tally.doubled 1;
  odd = tally.odd;
  refused = tally.refused;
  first = tally.first;
}
tally_add tally Odd = record {
  marked = tally.marked;
  doubled = tally.doubled;
  odd = with_added tally.odd 1;
  refused = tally.refused;
  first = tally.first;
}

-- one packet more that is refused for this cause, up to 2^64 - 1; the cause of the first one stays
abbrev pub tally_refuse : Tally → StreamFault → Tally
tally_refuse tally fault = record {
  marked = tally.marked;
  doubled = tally.doubled;
  odd = tally.odd;
  refused = with_added tally.refused 1;
  first = option_or tally.first (Some fault);
}
