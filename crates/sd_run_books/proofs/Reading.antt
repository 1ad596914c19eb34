-- The lines of a text, one after the other.
use Rattle.std.proofs.Common.{◌≡◌, ℕ, ◌+◌, List, [], ◌∷◌, ◌++◌, Bool, length, append_assoc, append-nil}
use Rattle.std.proofs.Common.{Option, Ok, Err, sym, ap, subst, ◌∙◌}
use Rattle.std.proofs.lemmas.List.{length_push}
use Rattle.std.specs.Prelude.{map}
use Rattle.sd_base.specs.Lines.{lines_of}
use Rattle.sd_book.specs.declared.command.Command.{Command}
use Rattle.sd_book.specs.Text.{period_end_check}
use Rattle.sd_run_books.specs.declared.account_fault.AccountFault.{AccountFault}
use Rattle.sd_run_books.specs.Line.{entry_on, said_by_accounts}
use Rattle.sd_run_books.specs.Judged.{allowed, judged_account_line, account_commands, accounts_book}
use Rattle.sd_run_books.specs.Kept.{AreAccountsKept, IsRead}
use Rattle.sd_run_books.proofs.NextLine.{judged_taken, judged_refused}

-- what the rest says, where a line is cut off
said_first : (d : ℕ) (rest line after : List ℕ) → lines_of rest ≡ line ∷ lines_of after →
    said_by_accounts d rest ≡ entry_on d line ∷ said_by_accounts d after
said_first d rest line after cut = ap (map (entry_on d)) cut

-- one more line is taken
pub read_more : (d : ℕ) (bytes rest line after : List ℕ) (commands more : List Command) (command : Command)
    (leaf_for new : List ℕ → Option ℕ) (marks marked : List Bool) →
    lines_of rest ≡ line ∷ lines_of after → (read : IsRead d bytes rest commands leaf_for marks) →
    AreAccountsKept d (read.before ++ entry_on d line ∷ []) new marked →
    judged_account_line d read.before commands (entry_on d line) ≡ Ok command → more ≡ commands ++ command ∷ [] →
    IsRead d bytes after more new marked
read_more d bytes rest line after commands more command leaf_for new marks marked cut read kept taken is = record {
  before = read.before ++ entry_on d line ∷ [];
  all = read.all ∙ ap (λ said. read.before ++ said) (said_first d rest line after cut) ∙
      sym (append_assoc read.before (entry_on d line ∷ []) (said_by_accounts d after));
  count = length_push read.before (entry_on d line) ∙ ap (λ n. n + 1) read.count ∙
      sym (ap length is ∙ length_push commands command);
  kept = kept;
  same = read.same ∙ ap (account_commands d read.before commands) (said_first d rest line after cut) ∙
      judged_taken d read.before commands (entry_on d line) (said_by_accounts d after) command taken ∙
      ap (λ cs. account_commands d (read.before ++ entry_on d line ∷ []) cs (said_by_accounts d after)) (sym is);
}

-- a line is refused
pub read_refused : (d : ℕ) (bytes rest line after : List ℕ) (commands : List Command) (fault : AccountFault)
    (leaf_for : List ℕ → Option ℕ) (marks : List Bool) →
    lines_of rest ≡ line ∷ lines_of after → (read : IsRead d bytes rest commands leaf_for marks) →
    judged_account_line d read.before commands (entry_on d line) ≡ Err fault → accounts_book d bytes ≡ Err fault
unfolding accounts_book
read_refused d bytes rest line after commands fault leaf_for marks cut read refused =
    read.same ∙ ap (account_commands d read.before commands) (said_first d rest line after cut) ∙
    judged_refused d read.before commands (entry_on d line) (said_by_accounts d after) fault refused

-- no line is left
pub read_all : (d : ℕ) (bytes rest : List ℕ) (commands : List Command) (leaf_for : List ℕ → Option ℕ)
    (marks : List Bool) → rest ≡ [] → IsRead d bytes rest commands leaf_for marks →
    AreAccountsKept d (said_by_accounts d bytes) leaf_for marks
read_all d bytes rest commands leaf_for marks none read =
    let all : said_by_accounts d bytes ≡ read.before =
    read.all ∙ ap (λ text. read.before ++ said_by_accounts d text) none ∙ append-nil read.before in
    subst (λ said. AreAccountsKept d said leaf_for marks) (sym all) read.kept

pub ends_judged : (d : ℕ) (bytes rest : List ℕ) (commands : List Command) (leaf_for : List ℕ → Option ℕ)
    (marks : List Bool) → rest ≡ [] → IsRead d bytes rest commands leaf_for marks →
    accounts_book d bytes ≡ allowed (period_end_check d commands commands)
unfolding accounts_book
ends_judged d bytes rest commands leaf_for marks none read =
    read.same ∙ ap (λ text. account_commands d read.before commands (said_by_accounts d text)) none
