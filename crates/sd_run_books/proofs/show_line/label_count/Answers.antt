use Rattle.std.proofs.Common.{rules}
use Rattle.sd_run_books.proofs.show_line.label_count.Goals as goal

pub returns : goal.returns
returns c = search rules
