-- Good files of accounts and books mean work.
use Rattle.std.proofs.Common.{◌≡◌, ℕ, List, ◌++◌, Ok, ◌∙◌}
use Rattle.sd_book.specs.Text.{text_of_book}
use Rattle.sd_command_base.specs.Spec.{Readings}
use Rattle.sd_command_base.specs.Work.{NoSteps}
use Rattle.sd_command_base.specs.Made.{making}
use Rattle.sd_command_line.specs.Words.{AccountsOf, BookOf}
use Rattle.sd_run_books.specs.AccountsCommand.{accounts_value, making_then, accounts_line}
use Rattle.sd_run_books.proofs.GoodAccounts.{accounts_good}
use Rattle.sd_run_books.proofs.Longer.{good_files}
use Rattle.sd_law_run.specs.Good.{IsGoodAccounts, IsGoodBooks}
use Rattle.sd_run.specs.Meaning.{meaning}
use Rattle.sd_law_run.proofs.Goodness.{site_good, site_low, book_good, both_good, ordered}

-- accounts make their book, and are reported
pub accounts_kept : (words : List (List ℕ)) (given : Readings) (good : IsGoodAccounts words given) →
    (meaning words given).result ≡ Ok (making_then good.out (text_of_book good.commands)
    (accounts_line (accounts_value good.fields.height good.bytes good.commands)))
accounts_kept words given good =
    ordered words given (AccountsOf good.site good.accounts good.out) good.order
    ∙ accounts_good good.site good.accounts good.out given good.fields good.bytes good.commands
    (site_good given good.site good.fields good.good_site) good.there good.short good.is_book

-- two books make a longer one
pub books_joined : (words : List (List ℕ)) (given : Readings) (good : IsGoodBooks words given) →
    (meaning words given).result ≡ Ok (making NoSteps good.out (text_of_book (good.before ++ good.added)))
books_joined words given good =
    ordered words given (BookOf good.site good.book good.commands good.out) good.order
    ∙ good_files good.site good.book good.commands good.out given
    (record { site = good.fields; commands = good.before }) good.added
    (both_good given good.site good.book good.fields good.before good.good_site good.good_book)
    (book_good given good.fields.height good.commands good.added
    (site_low (given good.site) good.fields good.good_site) good.good_added) good.within
