use Rattle.sd_site_cards.proofs.Alone.{both_told}
use Rattle.sd_site_cards.proofs.site_read.read_with_book.Goals as goal

pub returns : goal.returns
returns c = record { value = both_told c.args.bytes.now c.judge_lines.result c.judge_lines.ensures }
