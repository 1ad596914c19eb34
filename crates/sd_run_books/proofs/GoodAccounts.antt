-- Good files mean that the book is made and the report printed.
use Rattle.std.proofs.Common.{◌≡◌, ℕ, ◌≤◌, Bool, cond, List, length, Option, Some, Ok, Err, ap, ◌∙◌, le-ltb}
use Rattle.sd_site_cards.specs.SiteFields.{SiteFields}
use Rattle.sd_book.specs.Text.{text_of_book}
use Rattle.sd_book.specs.declared.command.Command.{Command}
use Rattle.sd_run_books.specs.Accounts.{AccountsValue}
use Rattle.sd_run_books.specs.Judged.{accounts_book}
use Rattle.sd_command_base.specs.declared.status.Status.TheVariants.{Limit}
use Rattle.sd_command_base.specs.declared.status.LimitKind.TheVariants.{BookBytes}
use Rattle.sd_command_base.specs.Spec.{FileArgument, Readings, of_result, value, within, ◌>>=◌}
use Rattle.sd_command_base.proofs.Follow.{then_is}
use Rattle.sd_command_base.specs.Files.{site_in, most_book_bytes}
use Rattle.sd_run_books.specs.AccountsCommand.{accounts_in, accounts_meaning, accounts_of_file, accounts_value}
use Rattle.sd_run_books.specs.AccountsCommand.{making_then, accounts_line, accounts_or_status}

-- an accounts file within the limit, whose lines make these commands
file_good : (word d : ℕ) (bytes : List ℕ) (commands : List Command) → length bytes ≤ most_book_bytes →
    accounts_book d bytes ≡ Ok commands →
    (accounts_of_file word d (Some bytes)).result ≡ Ok (accounts_value d bytes commands)
unfolding accounts_of_file
file_good word d bytes commands short book =
    then_is (within word most_book_bytes BookBytes (Some bytes)) bytes
    (λ bytes. of_result (accounts_or_status word d bytes (accounts_book d bytes)))
    (ap (λ (b : Bool). cond b (Err (Limit BookBytes)) (Ok bytes)) (le-ltb most_book_bytes (length bytes) short))
    ∙ ap (accounts_or_status word d bytes) book

-- the site and the accounts
both_good : (site accounts : FileArgument) (given : Readings) (fields : SiteFields) (found : AccountsValue) →
    (site_in given site).result ≡ Ok fields →
    (accounts_of_file accounts.number fields.height (given accounts)).result ≡ Ok found →
    (accounts_in site accounts given).result ≡ Ok found
unfolding accounts_in
both_good site accounts given fields found good_site good_file =
    then_is (site_in given site) fields
    (λ fields. accounts_of_file accounts.number fields.height (given accounts) >>= λ found. value found) good_site
    ∙ then_is (accounts_of_file accounts.number fields.height (given accounts)) found (λ found. value found) good_file

-- the book is made and the report printed
pub accounts_good : (site accounts out : FileArgument) (given : Readings) (fields : SiteFields) (bytes : List ℕ)
    (commands : List Command) → (site_in given site).result ≡ Ok fields → given accounts ≡ Some bytes →
    length bytes ≤ most_book_bytes → accounts_book fields.height bytes ≡ Ok commands →
    (accounts_meaning site accounts out given).result ≡
    Ok (making_then out (text_of_book commands) (accounts_line (accounts_value fields.height bytes commands)))
accounts_good site accounts out given fields bytes commands good_site there short book =
    let found = accounts_value fields.height bytes commands in
    then_is (accounts_in site accounts given) found
    (λ found. value (making_then out (text_of_book found.book.commands) (accounts_line found)))
    (both_good site accounts given fields found good_site
    (ap (λ (got : Option (List ℕ)). (accounts_of_file accounts.number fields.height got).result) there
    ∙ file_good accounts.number fields.height bytes commands short book))
