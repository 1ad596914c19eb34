-- No command of this crate ever means `Usage`.
use Rattle.std.proofs.Common.{ℕ, List, Option, Result, Ok, Err, [], ◌++◌, map, Some, Bool, true, false, cond, None}
use Rattle.std.specs.Prelude.{nat_le}
use Rattle.sd_site_cards.specs.SiteFields.{SiteFields}
use Rattle.sd_book.specs.Text.{text_of_book, book_commands as said}
use Rattle.sd_book.specs.declared.command.Command.{Command}
use Rattle.sd_run_books.specs.Accounts.{AccountsValue}
use Rattle.sd_run_books.specs.Judged.{accounts_book}
use Rattle.sd_run_books.specs.declared.account_fault.AccountFault.{AccountFault}
use Rattle.sd_run_books.specs.declared.account_fault.AccountFault.TheVariants.{Line, Unknown, Taken, Limit, NoMemory}
use Rattle.sd_command_base.specs.declared.status.LimitKind.TheVariants.{BookBytes}
use Rattle.sd_command_base.specs.Spec.{FileArgument, Readings, of_result, value, within, ◌>>=◌}
use Rattle.sd_command_base.specs.Work.{NoSteps, work_of_text}
use Rattle.sd_command_base.specs.declared.status.Status.TheVariants.{BadWord}
use Rattle.sd_command_base.specs.declared.status.Clash.{Clash as ClashKind}
use Rattle.sd_command_base.specs.Files.{site_of_file, most_book_bytes, book_of_file}
use Rattle.sd_command_base.proofs.Others.{IsOther, other_after, other_file, other_site_file, other_book}
use Rattle.sd_command_base.proofs.Others.{other_book_file, other_both}
use Rattle.sd_command_base.specs.Both.{both_by, SiteBook}
use Rattle.sd_command_base.specs.Made.{making}
use Rattle.sd_command_base.specs.Shown.{NumberArgument}
use Rattle.sd_run_books.specs.AccountsCommand.{accounts_in, accounts_meaning, accounts_of_file, accounts_value}
use Rattle.sd_run_books.specs.AccountsCommand.{making_then}
use Rattle.sd_run_books.specs.AccountsCommand.{accounts_line, accounts_or_status}
use Rattle.sd_run_books.specs.Book.{longer_book, book_meaning}
use Rattle.sd_run_books.specs.Air.{last_word_for, plan_command_meaning, planning, roomy_site_of_file, told_room}
use Rattle.sd_run_books.specs.Apart.{apart_meaning, apart_text, plan_clash, plan_of_both, told_apart, told_clash}

other_told_accounts : (word d : ℕ) (bytes : List ℕ) (r : Result (List Command) AccountFault) →
    IsOther (accounts_or_status word d bytes r)
other_told_accounts word d bytes (Ok commands) = tt
other_told_accounts word d bytes (Err (Line k)) = λ e. cc
other_told_accounts word d bytes (Err (Unknown k)) = λ e. cc
other_told_accounts word d bytes (Err (Taken k)) = λ e. cc
other_told_accounts word d bytes (Err (Limit limit)) = λ e. cc
other_told_accounts word d bytes (Err NoMemory) = λ e. cc

other_accounts_file : (word d : ℕ) (got : Option (List ℕ)) → IsOther (accounts_of_file word d got).result
unfolding accounts_of_file
other_accounts_file word d got =
    other_after (within word most_book_bytes BookBytes got).calls (within word most_book_bytes BookBytes got).result
    (λ bytes. of_result (accounts_or_status word d bytes (accounts_book d bytes)))
    (other_file word most_book_bytes BookBytes got)
    (λ bytes. other_told_accounts word d bytes (accounts_book d bytes))

other_accounts_in : (site accounts : FileArgument) (given : Readings) → IsOther (accounts_in site accounts given).result
unfolding accounts_in
other_accounts_in site accounts given =
    other_after (site_of_file site.number (given site)).calls (site_of_file site.number (given site)).result
    (λ fields. accounts_of_file accounts.number fields.height (given accounts) >>= λ found. value found)
    (other_site_file site.number (given site))
    (λ fields. other_after (accounts_of_file accounts.number fields.height (given accounts)).calls
    (accounts_of_file accounts.number fields.height (given accounts)).result (λ found. value found)
    (other_accounts_file accounts.number fields.height (given accounts)) (λ found. tt))

pub other_accounts : (site accounts out : FileArgument) (given : Readings) →
    IsOther (accounts_meaning site accounts out given).result
other_accounts site accounts out given =
    other_after (accounts_in site accounts given).calls (accounts_in site accounts given).result
    (λ found. value (making_then out (text_of_book found.book.commands) (accounts_line found)))
    (other_accounts_in site accounts given) (λ found. tt)

other_longer : (word d : ℕ) (commands added : List Command) → IsOther (longer_book word d commands added)
unfolding longer_book
other_longer word d commands added = other_book word d [] (said d [] (map Some (commands ++ added)))

pub other_book_order : (site book commands out : FileArgument) (given : Readings) →
    IsOther (book_meaning site book commands out given).result
unfolding book_meaning
other_book_order site book commands out given =
    other_after (both_by site.number book.number (given site) (given book)).calls
    (both_by site.number book.number (given site) (given book)).result
    (λ both. book_of_file commands.number both.site.height (given commands)
    >>= λ added. of_result (longer_book commands.number both.site.height both.commands added)
    >>= λ longer. value (making NoSteps out (text_of_book longer)))
    (other_both site.number book.number (given site) (given book))
    (λ both. other_after (book_of_file commands.number both.site.height (given commands)).calls
    (book_of_file commands.number both.site.height (given commands)).result
    (λ added. of_result (longer_book commands.number both.site.height both.commands added)
    >>= λ longer. value (making NoSteps out (text_of_book longer)))
    (other_book_file commands.number both.site.height (given commands))
    (λ added. other_after 0 (longer_book commands.number both.site.height both.commands added)
    (λ longer. value (making NoSteps out (text_of_book longer)))
    (other_longer commands.number both.site.height both.commands added) (λ longer. tt)))

-- there are enough control words, or the number is refused
other_room : (b : Bool) (fields : SiteFields) (word : ℕ) → IsOther (cond b (Ok fields) (Err (BadWord word)))
other_room true fields word = tt
other_room false fields word = λ e. cc

other_roomy_site : (word : ℕ) (packets : NumberArgument) (got : Option (List ℕ)) →
    IsOther (roomy_site_of_file word packets got).result
other_roomy_site word packets got =
    other_after (site_of_file word got).calls (site_of_file word got).result
    (λ fields. of_result (told_room packets fields)) (other_site_file word got)
    (λ fields. other_room (nat_le (last_word_for fields packets.value) fields.last_word) fields packets.word)

pub other_plan : (site book : FileArgument) (packets : NumberArgument) (pids : ℕ) (given : Readings) →
    IsOther (plan_command_meaning site book packets pids given).result
other_plan site book packets pids given =
    other_after (roomy_site_of_file site.number packets (given site)).calls
    (roomy_site_of_file site.number packets (given site)).result
    (λ fields. book_of_file book.number fields.height (given book)
    >>= λ commands. value (planning (record { site = fields; commands = commands }) packets.value pids))
    (other_roomy_site site.number packets (given site))
    (λ fields. other_after (book_of_file book.number fields.height (given book)).calls
    (book_of_file book.number fields.height (given book)).result
    (λ commands. value (planning (record { site = fields; commands = commands }) packets.value pids))
    (other_book_file book.number fields.height (given book)) (λ commands. tt))

other_clash : (clash : Option ClashKind) (text : List ℕ) → IsOther (told_clash clash text)
other_clash None text = tt
other_clash (Some clash) text = λ e. cc

other_told_apart : (a b : SiteBook) → IsOther (told_apart (plan_of_both a) (plan_of_both b))
unfolding told_apart
other_told_apart a b =
    other_clash (plan_clash (plan_of_both a) (plan_of_both b)) (apart_text (plan_of_both a) (plan_of_both b))

pub other_apart : (site book other more : FileArgument) (given : Readings) →
    IsOther (apart_meaning site book other more given).result
other_apart site book other more given =
    let one = both_by site.number book.number (given site) (given book) in
    let two = both_by other.number more.number (given other) (given more) in
    other_after one.calls one.result
    (λ first. two >>= λ second. of_result (told_apart (plan_of_both first) (plan_of_both second))
    >>= λ text. value (work_of_text text))
    (other_both site.number book.number (given site) (given book))
    (λ first. other_after two.calls two.result
    (λ second. of_result (told_apart (plan_of_both first) (plan_of_both second)) >>= λ text. value (work_of_text text))
    (other_both other.number more.number (given other) (given more))
    (λ second. other_after 0 (told_apart (plan_of_both first) (plan_of_both second)) (λ text. value (work_of_text text))
    (other_told_apart first second) (λ text. tt)))
