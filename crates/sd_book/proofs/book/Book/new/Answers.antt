use Rattle.std.proofs.Common.{rules, List, subst, sym}
use Rattle.sd_book.specs.declared.command.Command.{Command}
use Rattle.sd_book.specs.Limits.{IsWithinLimits}
use Rattle.sd_book.proofs.Judged.{none_within}
use Rattle.sd_book.proofs.book.Book.new.Goals as goal

pub invariant_of-result : goal.invariant_of-result
invariant_of-result c = (
  search rules,
  subst (λ (commands : List Command). IsWithinLimits c.args.h commands)
      (sym c.new.ensures.items) (none_within c.args.h),
)
