use Rattle.std.proofs.Common.{rules}
use Rattle.sd_site_cards.specs.Text.{site_and_book_on}
use Rattle.sd_site_cards.proofs.site_read.judge_lines.Goals as goal

pub returns : goal.returns
unfolding site_and_book_on
returns c = search rules
