-- Public meaning: `accounts SITE ACCOUNTS OUT` [this project, docs/FORMATS.md, Accounts].
use Rattle.std.specs.Prelude.{ℕ, List, [], ◌∷◌, ◌++◌, false, Option, Some, None, Result, Ok, Err}
use Rattle.std.specs.List.{filter_map}
use Rattle.std.specs.Ordering.{nat_cmp}
use Rattle.std.specs.Cmp.Lexicographic.{slice_cmp}
use Rattle.std.specs.FinMap.{entries, from_entries}
use Rattle.serde_json.specs.Written.{compact_text}
use Rattle.sd_book.specs.declared.command.Command.{Command}
use Rattle.sd_book.specs.Text.{text_of_book}
use Rattle.sd_run_books.specs.Line.{Entry, Assigns, Drops, Restores, Ends, said_by_accounts}
use Rattle.sd_run_books.specs.Accounts.{Account, AccountsValue}
use Rattle.sd_run_books.specs.AccountsCause.{bad_entry, taken_entry, unknown_entry}
use Rattle.sd_run_books.specs.Judged.{accounts_book}
use Rattle.sd_run_books.specs.Report.{accounts_data}
use Rattle.sd_run_books.specs.declared.account_fault.AccountFault.{AccountFault}
use Rattle.sd_run_books.specs.declared.account_fault.AccountFault.TheVariants as account
use Rattle.sd_command_base.specs.declared.status.Status.{Status}
use Rattle.sd_command_base.specs.declared.status.Status.TheVariants.{Done, BadBook, Limit, NoMemory}
use Rattle.sd_command_base.specs.declared.status.LimitKind.TheVariants.{BookBytes, Book}
use Rattle.sd_command_base.specs.Spec.{Spec, FileArgument, Readings, value, of_result, within, ◌>>=◌}
use Rattle.sd_command_base.specs.Work.{NoSteps, Work}
use Rattle.sd_command_base.specs.Files.{site_in, most_book_bytes}

-- the account that a line binds
abbrev pub account_on : Option Entry → Option Account
account_on None = None
account_on (Some (Assigns name u)) = Some (name, u)
account_on (Some (Drops name)) = None
account_on (Some (Restores name)) = None
account_on (Some Ends) = None

-- the accounts that lines bind, ascending by the bytes of the name: a name has the leaf of the first that assigns it
unfoldable pub bound_by : List (Option Entry) → List Account
bound_by said = entries (from_entries {R = slice_cmp nat_cmp} (filter_map account_on said))

-- an accounts file whose lines make these commands for a tree of height d
abbrev pub accounts_value : ℕ → List ℕ → List Command → AccountsValue
accounts_value d bytes commands =
    record { book = record { height = d; commands = commands }; accounts = bound_by (said_by_accounts d bytes) }

-- what is answered to accounts for a tree of height d that are refused, which this word's file of these bytes says
abbrev pub refused_accounts : ℕ → ℕ → List ℕ → AccountFault → Status
refused_accounts word d bytes (account.Line k) = BadBook word (bad_entry d k bytes)
refused_accounts word d bytes (account.Unknown k) = BadBook word (unknown_entry k bytes)
refused_accounts word d bytes (account.Taken k) = BadBook word (taken_entry d k bytes)
refused_accounts word d bytes (account.Limit limit) = Limit (Book limit)
refused_accounts word d bytes account.NoMemory = NoMemory

-- the accounts for a tree of height d that a file's bytes say
abbrev pub accounts_or_status : ℕ → ℕ → List ℕ → Result (List Command) AccountFault → Result AccountsValue Status
accounts_or_status word d bytes (Ok commands) = Ok (accounts_value d bytes commands)
accounts_or_status word d bytes (Err fault) = Err (refused_accounts word d bytes fault)

-- the accounts, for a tree of height d, of what the file of this word gave
unfoldable pub accounts_of_file : ℕ → ℕ → Option (List ℕ) → Spec AccountsValue
accounts_of_file word d got =
    within word most_book_bytes BookBytes got
    >>= λ bytes. of_result (accounts_or_status word d bytes (accounts_book d bytes))

-- the accounts that the two files say
unfoldable pub accounts_in : FileArgument → FileArgument → Readings → Spec AccountsValue
accounts_in site accounts given = do
  fields ← site_in given site
  found ← accounts_of_file accounts.number fields.height (given accounts)
  value found

-- the report: compact JSON and a line feed
unfoldable pub accounts_line : AccountsValue → List ℕ
accounts_line accounts = compact_text (accounts_data accounts) ++ 10 ∷ []

-- makes a file of these bytes, and then prints a text
abbrev pub making_then : FileArgument → List ℕ → List ℕ → Work
making_then out bytes text = record {
  mark = None;
  out = Some (record { word = out.number; name = out.text; bytes = bytes });
  pieces = text ∷ [];
  ends = Done;
  breaks = false;
  live = false;
  steps = NoSteps;
}

-- makes OUT the book that the lines make, and then prints the report
abbrev pub accounts_meaning : FileArgument → FileArgument → FileArgument → Readings → Spec Work
accounts_meaning site accounts out given = do
  found ← accounts_in site accounts given
  value (making_then out (text_of_book found.book.commands) (accounts_line found))
