use Rattle.sd_run_books.proofs.Coalition.{text_is, trace_is, leaves_are, found_once}
use Rattle.sd_run_books.proofs.cover_laws.printed_leaves_are_the_coalition.Goals as goal

pub returns : goal.returns
returns c = record { text = text_is; trace = trace_is; leaves = leaves_are; once = found_once }
