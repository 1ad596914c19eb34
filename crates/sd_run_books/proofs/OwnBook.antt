-- The book of a site, with which a longer one begins.
use Rattle.std.proofs.Common.{arith, ◌≡◌, ℕ, ◌+◌, ◌≤◌, ◌==◌, ◌&&◌, Bool, true, false, cond, nat_lt, nat_le, bytes_eq}
use Rattle.std.proofs.Common.{if◌then◌else◌}
use Rattle.std.proofs.Common.{List, [], ◌∷◌, ◌++◌, length, map, take, drop, Option, Some, None, Result, Ok, Err}
use Rattle.std.proofs.Common.{refl, sym, ap, ◌∙◌, append_assoc, append-nil}
use Rattle.std.specs.List.{count_by, filter_map}
use Rattle.std.proofs.lemmas.Bool.Decides.{nat_tests}
use Rattle.std.proofs.lemmas.List.{length-map, map-append, take-append-drop}
use Rattle.sha2.specs.Sha256.{sha256}
use Rattle.sd_base.specs.Lines.{lines_of}
use Rattle.sd_site_cards.specs.declared.book_line.BookLine.{BookLine}
use Rattle.sd_book.specs.declared.command.Command.{Command}
use Rattle.sd_book.specs.declared.fault.BookFault.{BookFault}
use Rattle.sd_book.specs.declared.fault.BookFault.TheVariants.{Limit}
use Rattle.sd_book.specs.declared.fault.BookLimit.TheVariants.{Lines}
use Rattle.sd_book.specs.Limits.{most_commands}
use Rattle.sd_book.specs.Text.{in_tree, period_fits, book_commands as judged_from, judged_book_line, book_of}
use Rattle.sd_book.specs.Text.{command_of}
use Rattle.sd_book.specs.Text.{said_by_book, ◌>>=◌}
use Rattle.sd_book.proofs.Judged.{bind_ok, ended_ok, fits_same, guard_ok, line_command}
use Rattle.sd_command_base.specs.declared.status.Status.{Status}
use Rattle.sd_command_base.specs.declared.status.Status.TheVariants.{BadBook, Limit as OverLimit, OtherBook}
use Rattle.sd_command_base.specs.declared.status.LimitKind.TheVariants.{BookBytes}
use Rattle.sd_command_base.specs.Spec.{and_then, of_result}
use Rattle.sd_command_base.specs.Files.{BookText, begins_with_book, ends_lines, longer_book_of_file, most_book_bytes}
use Rattle.sd_command_base.specs.declared.bad_line.LineCause.TheVariants.{Unended}
use Rattle.sd_command_base.specs.BadLines.{bad_line}
use Rattle.sd_command_base.specs.Files.{book_or_status, longer_book_or_status, whole_book_or_status}
use Rattle.sd_run_books.specs.Chain.{own_commands}
use Rattle.sd_run_books.proofs.WholeLines.{lines_joined, feeds_are_lines}

-- what a line that was judged says
line_said : (d : ℕ) (before : List Command) (said : Option Command) (command : Command) →
    judged_book_line d before said ≡ Ok command → said ≡ Some command
line_said d before said command e =
    let long = guard_ok (nat_le most_commands (length before)) (Limit Lines)
    (in_tree d (length before + 1) said >>= λ c. period_fits d before c) command e in
    let step = bind_ok (in_tree d (length before + 1) said) (λ c. period_fits d before c) command long.1 in
    let form = line_command d before said step.0
    (ap (λ (b : Bool). cond b (Err (Limit Lines)) (in_tree d (length before + 1) said)) long.0 ∙ step.1) in
    let same = fits_same d before step.0 command
    (ap (λ (b : Bool). cond b (Err (Limit Lines)) (period_fits d before step.0)) long.0 ∙ step.2) in
    form.0 ∙ ap Some same

-- the commands of lines that were judged are those that the lines say
all_said : (d : ℕ) (before : List Command) (said : List (Option Command)) (commands : List Command) →
    judged_from d before said ≡ Ok commands → map Some commands ≡ map Some before ++ said
all_said d before [] commands e =
    let ends = ended_ok d before before commands e in
    ap (map Some) (sym ends.1) ∙ sym (append-nil (map Some before))
all_said d before (said ∷ rest) commands e =
    let step = bind_ok (judged_book_line d before said) (λ command. judged_from d (before ++ command ∷ []) rest)
    commands
    e in
    let is = line_said d before said step.0 step.1 in
    all_said d (before ++ step.0 ∷ []) rest commands step.2
    ∙ ap (λ (os : List (Option Command)). os ++ rest) (map-append Some before (step.0 ∷ []))
    ∙ append_assoc (map Some before) (Some step.0 ∷ []) rest
    ∙ ap (λ (o : Option Command). map Some before ++ o ∷ rest) (sym is)

-- a book's lines say its commands
pub book_said : (d : ℕ) (bytes : List ℕ) (commands : List Command) → book_of d bytes ≡ Ok commands →
    map Some commands ≡ said_by_book bytes
unfolding book_of
book_said d bytes commands e = all_said d [] (said_by_book bytes) commands e

-- the first of commands that are said in two parts
first_said : (first rest : List (Option Command)) (commands : List Command) → map Some commands ≡ first ++ rest →
    (filter_map (λ said. said) first ≡ take (length first) commands) × (length first ≤ length commands)
first_said [] rest commands e = (refl, omega arith)
first_said (said ∷ first) rest [] e = absurd cc
first_said (said ∷ first) rest (command ∷ commands) e =
    let is : said ≡ Some command = cc in
    let more : map Some commands ≡ first ++ rest = cc in
    let ih = first_said first rest commands more in (
      ap (λ (o : Option Command). filter_map (λ said. said) (o ∷ first)) is
          ∙ ap (λ (cs : List Command). command ∷ cs) ih.0,
      omega (arith, ih.1),
    )

-- how many lines the site's book has
abbrev own_count : Option BookLine → List ℕ → ℕ
own_count None bytes = 0
own_count (Some line) bytes = count_by (λ byte. byte == 10) (take line.size bytes)

-- a text whose digest is right is whole lines
begins_whole : (line : BookLine) (bytes : List ℕ) → begins_with_book (Some line) bytes ≡ true →
    ends_lines (take line.size bytes) ≡ true
begins_whole line bytes h = by (nat_le line.size (length bytes)) (ends_lines (take line.size bytes)) refl h
  where
    same : Bool
    same = bytes_eq (sha256 (take line.size bytes)) line.digest

    by : (fits ends : Bool) → ends_lines (take line.size bytes) ≡ ends → (fits && (ends && same)) ≡ true →
        ends_lines (take line.size bytes) ≡ true
    by true true ends h = ends
    by true false ends h = absurd cc
    by false ends is h = absurd cc

-- the commands of the site's book are the first ones of a longer book
pub own_are_first : (d : ℕ) (line : Option BookLine) (bytes : List ℕ) (commands : List Command) →
    begins_with_book line bytes ≡ true → book_of d bytes ≡ Ok commands →
    (own_commands line bytes ≡ take (own_count line bytes) commands) × (own_count line bytes ≤ length commands)
own_are_first d None bytes commands begins is = (refl, omega arith)
own_are_first d (Some line) bytes commands begins is =
    let own = take line.size bytes in
    let rest = drop line.size bytes in
    let whole = begins_whole line bytes begins in
    let parts : said_by_book bytes ≡ said_by_book own ++ said_by_book rest =
    ap said_by_book (sym (take-append-drop line.size bytes))
    ∙ ap (map command_of) (lines_joined own rest whole)
    ∙ map-append command_of (lines_of own) (lines_of rest) in
    let first = first_said (said_by_book own) (said_by_book rest) commands (book_said d bytes commands is ∙ parts) in
    let count : length (said_by_book own) ≡ own_count (Some line) bytes =
    length-map (lines_of own) command_of ∙ sym (feeds_are_lines own whole) in
    rw (sym count) first

-- what a longer book is, if the file gave one
pub record IsLonger (d : ℕ) (line : Option BookLine) (text : BookText) : Type 0 where
  pub size : length text.bytes ≤ most_book_bytes
  pub begins : begins_with_book line text.bytes ≡ true
  pub says : book_of d text.bytes ≡ Ok text.commands

whole_says : (word : ℕ) (bytes : List ℕ) (r : Result (List Command) Status) (text : BookText) →
    whole_book_or_status word bytes r ≡ Ok text → (text.bytes ≡ bytes) × (r ≡ Ok text.commands)
whole_says word bytes (Err status) text e = absurd cc
whole_says word bytes (Ok commands) text e = by (ends_lines bytes) e
  where
    told : List Command → Result (List Command) Status
    told commands = Ok commands

    by : (ends : Bool) → (if ends then Ok (record { bytes = bytes; commands = commands })
        else Err (BadBook word (bad_line Unended (length commands) bytes))) ≡ Ok text →
        (text.bytes ≡ bytes) × (told commands ≡ told text.commands)
    by true e = let same : record { bytes = bytes; commands = commands } ≡ text = cc in
        (sym (ap (λ (t : BookText). t.bytes) same), ap (λ (t : BookText). told t.commands) same)
    by false e = absurd cc

-- what a book's file says was judged
book_told : (word d : ℕ) (bytes : List ℕ) (r : Result (List Command) BookFault) (commands : List Command) →
    book_or_status word d bytes r ≡ Ok commands → r ≡ Ok commands
book_told word d bytes (Ok found) commands e = let same : found ≡ commands = cc in ap Ok same
book_told word d bytes (Err fault) commands e = absurd cc

longer_says : (word d : ℕ) (line : Option BookLine) (bytes : List ℕ) (text : BookText) →
    length bytes ≤ most_book_bytes → longer_book_or_status word d line bytes ≡ Ok text → IsLonger d line text
longer_says word d line bytes text size e = by (begins_with_book line bytes) refl e
  where
    by : (begins : Bool) → begins_with_book line bytes ≡ begins →
        (if begins then whole_book_or_status word bytes (book_or_status word d bytes (book_of d bytes))
        else Err OtherBook) ≡ Ok text
        →
        IsLonger d line text
    by true begins e =
        let says = whole_says word bytes (book_or_status word d bytes (book_of d bytes)) text e in
        let told = book_told word d bytes (book_of d bytes) text.commands says.1 in
        record {
          size = rw says.0 size;
          begins = ap (begins_with_book line) says.0 ∙ begins;
          says = ap (book_of d) says.0 ∙ told;
        }
    by false begins e = absurd cc

-- a file that gave a longer book
pub is_longer : (word d : ℕ) (line : Option BookLine) (got : Option (List ℕ)) (text : BookText) →
    (longer_book_of_file word d line got).result ≡ Ok text → IsLonger d line text
unfolding longer_book_of_file
is_longer word d line None text e = absurd cc
is_longer word d line (Some bytes) text e = by (nat_lt most_book_bytes (length bytes)) refl e
  where
    by : (over : Bool) → nat_lt most_book_bytes (length bytes) ≡ over →
        (and_then 2 (if over then Err (OverLimit BookBytes) else Ok bytes)
        (λ bytes. of_result (longer_book_or_status word d line bytes))).result ≡ Ok text → IsLonger d line text
    by true over e = absurd cc
    by false over e = longer_says word d line bytes text (grind (arith, nat_tests, over)) e
