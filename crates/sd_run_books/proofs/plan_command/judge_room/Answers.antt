use Rattle.std.proofs.Common.{rules}
use Rattle.sd_run_books.proofs.plan_command.judge_room.Goals as goal

pub returns-then-last_word-from : goal.returns-then-last_word-from
returns-then-last_word-from c = search rules
