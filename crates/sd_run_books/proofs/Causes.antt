-- The fault of lines, and what is judged of them.
use Rattle.std.proofs.Common.{arith, ◌≡◌, ℕ, suc, ◌+◌, ◌<◌, ◌^◌, ◌||◌, Bool, true, false, nat_lt, nat_le}
use Rattle.std.proofs.Common.{List, [], ◌∷◌, ◌++◌, length, take, Option, Some, None, Result, Ok, Err, refl, sym, ap}
use Rattle.std.proofs.Common.{subst, ◌∙◌, inl, inr, append_assoc}
use Rattle.std.proofs.lemmas.Bool.{lt-ltb, ltb-true}
use Rattle.std.proofs.lemmas.Grind.{common_steps}
use Rattle.std.proofs.lemmas.List.{append-nil, length_push, take-append-le}
use Rattle.std.proofs.Math.Seq.{take-append_seam}
use Rattle.std.specs.Prelude.{◌⊎◌, MatchResult, bytes_eq, is_some, map, slice_get, if◌then◌else◌, option_map}
use Rattle.std.specs.Prelude.{option_and_then, codes}
use Rattle.sd_base.proofs.Bools.{or_true}
use Rattle.sd_base.specs.Lines.{cut_at_space, lines_of}
use Rattle.sd_base.specs.Number.{rest_after, decimal_value}
use Rattle.sd_site_cards.proofs.Places.{get_first}
use Rattle.sd_tree_keys.specs.declared.leaf.TheConstants.{MOST_REVOKED}
use Rattle.sd_book.specs.declared.command.Command.{Command}
use Rattle.sd_book.specs.declared.command.Command.TheVariants.{Subscribe, Revoke, Period}
use Rattle.sd_book.specs.declared.fault.BookFault.{BookFault}
use Rattle.sd_book.specs.declared.fault.BookFault.TheVariants as book
use Rattle.sd_book.specs.declared.fault.BookLimit.{BookLimit}
use Rattle.sd_book.specs.declared.fault.BookLimit.TheVariants.{Lines, Periods, Revoked}
use Rattle.sd_book.specs.declared.limits.TheConstants.{MOST_COMMANDS, MOST_PERIODS}
use Rattle.sd_book.specs.Commands.{is_within, last_period, revoked_after}
use Rattle.sd_book.specs.Faults.{BreaksLimit, IsBrokenLimit}
use Rattle.sd_book.specs.Limits.{IsDraft, IsWithinLimits}
use Rattle.sd_book.specs.Text.{command_fits, period_end_check}
use Rattle.sd_book.proofs.Causes.{command_broken, end_broken}
use Rattle.sd_book.proofs.Judged.{command_again, ended_ok, fits_same, judged_none, judged_one_more}
use Rattle.sd_run_books.specs.declared.account_fault.AccountFault.{AccountFault}
use Rattle.sd_run_books.specs.declared.account_fault.AccountFault.TheVariants.{Line, Unknown, Taken, NoMemory}
use Rattle.sd_run_books.specs.Bound.{leaf_on, leaf_of, first_number_there, is_held}
use Rattle.sd_run_books.specs.Fault.{as_fault}
use Rattle.sd_run_books.specs.Faults.{AddsCommand, IsWrong, AreGoodAccountLines, NextIsWrong, NextMakes, NextBreaks}
use Rattle.sd_run_books.specs.Faults.{IsAccountFaultOf}
use Rattle.sd_run_books.specs.Judged.{◌>>=◌, on_leaf, command_after, allowed, judged_account_line, account_commands}
use Rattle.sd_run_books.specs.Judged.{accounts_book}
use Rattle.sd_run_books.specs.Kept.{IsBelow}
use Rattle.sd_run_books.specs.Line.{Entry, Assigns, Drops, Restores, Ends, assigned, entry_by_word, entry_on}
use Rattle.sd_run_books.specs.Line.{leaf_numbered}
use Rattle.sd_run_books.specs.Line.{account_name_in, said_by_accounts}
use Rattle.sd_run_books.proofs.Kept.{leaf_more}
use Rattle.sd_run_books.proofs.Limits.{book_ends, end_by}

-- a good line gives its command
makes_command : (before : List (Option Entry)) (entry : Entry) (command : Command) → AddsCommand before entry command →
    command_after before (Some entry) ≡ Ok command
makes_command before (Assigns name u) command h = rw (h.1, h.2, h.0) refl
makes_command before (Drops name) command h = rw (h.2, h.1) refl
makes_command before (Restores name) command h = rw (h.2, h.1) refl
makes_command before Ends command h = rw h refl

-- a wrong line gives its fault
wrong_command : (before : List (Option Entry)) (said : Option Entry) (fault : AccountFault) →
    IsWrong before said fault → command_after before said ≡ Err fault
wrong_command before None fault h = rw h refl
wrong_command before (Some (Assigns name u)) fault h =
    elim h.1 [
      | inl bound ↦ rw (bound, h.0) refl
      | inr held ↦ rw (held, or_true (is_some (leaf_of name before)), h.0) refl
    ]
wrong_command before (Some (Drops name)) fault h = rw (h.1, h.0) refl
wrong_command before (Some (Restores name)) fault h = rw (h.1, h.0) refl
wrong_command before (Some Ends) fault h = absurd h

-- a line that gives a command is good
command_makes : (before : List (Option Entry)) (entry : Entry) (command : Command) →
    command_after before (Some entry) ≡ Ok command → AddsCommand before entry command
command_makes before (Assigns name u) command e = free (leaf_of name before) (is_held u before) refl refl e
  where
    free : (o : Option ℕ) (b : Bool) → leaf_of name before ≡ o → is_held u before ≡ b →
        (if is_some o || b then Err (Taken (length before + 1)) else Ok (Subscribe u)) ≡ Ok command →
        AddsCommand before (Assigns name u) command
    free None false none unheld e = let same : Subscribe u ≡ command = cc in (sym same, none, unheld)
    free None true none held e = absurd cc
    free (Some leaf) b bound held e = absurd cc
command_makes before (Drops name) command e = bound (leaf_of name before) refl e
  where
    bound : (o : Option ℕ) → leaf_of name before ≡ o → on_leaf (length before + 1) Revoke o ≡ Ok command →
        AddsCommand before (Drops name) command
    bound None none e = absurd cc
    bound (Some u) is e = let same : Revoke u ≡ command = cc in (u, sym same, is)
command_makes before (Restores name) command e = bound (leaf_of name before) refl e
  where
    bound : (o : Option ℕ) → leaf_of name before ≡ o → on_leaf (length before + 1) Subscribe o ≡ Ok command →
        AddsCommand before (Restores name) command
    bound None none e = absurd cc
    bound (Some u) is e = let same : Subscribe u ≡ command = cc in (u, sym same, is)
command_makes before Ends command e = cc

-- a line that gives none is wrong
fault_wrong : (before : List (Option Entry)) (said : Option Entry) (fault : AccountFault) →
    command_after before said ≡ Err fault → IsWrong before said fault
fault_wrong before None fault e = cc
fault_wrong before (Some (Assigns name u)) fault e = taken (leaf_of name before) (is_held u before) refl refl e
  where
    taken : (o : Option ℕ) (b : Bool) → leaf_of name before ≡ o → is_held u before ≡ b →
        (if is_some o || b then Err (Taken (length before + 1)) else Ok (Subscribe u)) ≡ Err fault →
        IsWrong before (Some (Assigns name u)) fault
    taken None false none free e = absurd cc
    taken None true none held e = let same : Taken (length before + 1) ≡ fault = cc in (sym same, inr held)
    taken (Some leaf) b bound held e =
        let same : Taken (length before + 1) ≡ fault = cc in (sym same, inl (ap is_some bound))
fault_wrong before (Some (Drops name)) fault e = unbound (leaf_of name before) refl e
  where
    unbound : (o : Option ℕ) → leaf_of name before ≡ o → on_leaf (length before + 1) Revoke o ≡ Err fault →
        IsWrong before (Some (Drops name)) fault
    unbound None none e = let same : Unknown (length before + 1) ≡ fault = cc in (sym same, none)
    unbound (Some u) is e = absurd cc
fault_wrong before (Some (Restores name)) fault e = unbound (leaf_of name before) refl e
  where
    unbound : (o : Option ℕ) → leaf_of name before ≡ o → on_leaf (length before + 1) Subscribe o ≡ Err fault →
        IsWrong before (Some (Restores name)) fault
    unbound None none e = let same : Unknown (length before + 1) ≡ fault = cc in (sym same, none)
    unbound (Some u) is e = absurd cc
fault_wrong before (Some Ends) fault e = absurd cc

-- the element after a list
get_next : {X : Type 0} (xs : List X) (y : X) → slice_get (xs ++ y ∷ []) (length xs) ≡ Some y
get_next [] y = refl
get_next (x ∷ xs) y = get_next xs y

-- no line is good
none_good : (d : ℕ) → AreGoodAccountLines d [] []
none_good d = record { same = refl; each = λ k h. absurd (omega (arith, h)); draft = judged_none d }

-- good lines and a good one
good_more : (d : ℕ) (before : List (Option Entry)) (entry : Entry) (commands : List Command) (command : Command) →
    AreGoodAccountLines d before commands → AddsCommand before entry command → IsDraft d (commands ++ command ∷ []) →
    AreGoodAccountLines d (before ++ Some entry ∷ []) (commands ++ command ∷ [])
good_more d before entry commands command good makes draft = record {
  same = length_push commands command ∙ ap (λ n. n + 1) good.same ∙ sym (length_push before (Some entry));
  each = λ k h. each k (omega (arith, h, length_push before (Some entry)));
  draft = draft;
}
  where
    said : List (Option Entry)
    said = before ++ Some entry ∷ []

    all : List Command
    all = commands ++ command ∷ []

    earlier : (k : ℕ) → k < length before → (entry : Entry) × (command : Command) ×
        (slice_get said k ≡ Some (Some entry))
        × (slice_get all k ≡ Some command) × AddsCommand (take k said) entry command
    earlier k low =
        let one = good.each k low in (
          one.0,
          one.1,
          get_first before (Some entry ∷ []) k low ∙ one.2,
          get_first commands (command ∷ []) k (omega (arith, low, good.same)) ∙ one.3,
          subst (λ lines. AddsCommand lines one.0 one.1)
              (sym (take-append-le k before (Some entry ∷ []) (omega (arith, low))))
              one.4,
        )

    newest : (k : ℕ) → k ≡ length before → (entry : Entry) × (command : Command) ×
        (slice_get said k ≡ Some (Some entry))
        × (slice_get all k ≡ Some command) × AddsCommand (take k said) entry command
    newest k is = (
      entry,
      command,
      rw is (get_next before (Some entry)),
      ap (slice_get all) (is ∙ sym good.same) ∙ get_next commands command,
      subst (λ lines. AddsCommand lines entry command)
          (sym (ap (λ n. take n said) is ∙ take-append_seam before (Some entry ∷ []))) makes,
    )

    each : (k : ℕ) → k < length before + 1 → (entry : Entry) × (command : Command)
        × (slice_get said k ≡ Some (Some entry)) × (slice_get all k ≡ Some command) ×
        AddsCommand (take k said) entry command
    each k h = by (nat_lt k (length before)) refl
      where
        by : (b : Bool) → nat_lt k (length before) ≡ b → (entry : Entry) × (command : Command)
            × (slice_get said k ≡ Some (Some entry)) × (slice_get all k ≡ Some command)
            × AddsCommand (take k said) entry command
        by true lt = earlier k (ltb-true k (length before) lt)
        by false le = newest k (grind (arith, common_steps, h, le))

-- all names that these lines bind have leaves of the tree
abbrev pub AreWithin : ℕ → List (Option Entry) → Type 0
AreWithin d before = (name : List ℕ) (u : ℕ) → leaf_of name before ≡ Some u → u < 2 ^ d

-- with one line more
within_more : (d : ℕ) (before : List (Option Entry)) (entry : Entry) → IsBelow (2 ^ d) entry → AreWithin d before →
    AreWithin d (before ++ Some entry ∷ [])
within_more d before entry low within name u e =
    go (leaf_of name before) (leaf_on name (Some entry)) refl refl (sym (leaf_more name before (Some entry)) ∙ e)
  where
    of_line : (entry : Entry) → IsBelow (2 ^ d) entry → leaf_on name (Some entry) ≡ Some u → u < 2 ^ d
    of_line (Assigns other leaf) low e = by (bytes_eq name other) e
      where
        by : (b : Bool) → (if b then Some leaf else None) ≡ Some u → u < 2 ^ d
        by true e = let same : leaf ≡ u = cc in rw same at low
        by false e = absurd cc
    of_line (Drops other) low e = absurd cc
    of_line (Restores other) low e = absurd cc
    of_line Ends low e = absurd cc

    go : (o p : Option ℕ) → leaf_of name before ≡ o → leaf_on name (Some entry) ≡ p → first_number_there o p ≡ Some u →
        u < 2 ^ d
    go (Some leaf) p is on e = within name u (is ∙ e)
    go None p is on e = of_line entry low (on ∙ e)

-- the command of a good line is of the tree
makes_within : (d : ℕ) (before : List (Option Entry)) (entry : Entry) (command : Command) → IsBelow (2 ^ d) entry →
    AreWithin d before → AddsCommand before entry command → is_within d command ≡ true
makes_within d before (Assigns name u) command low within h = ap (is_within d) h.0 ∙ lt-ltb u (2 ^ d) low
makes_within d before (Drops name) command low within h =
    ap (is_within d) h.1 ∙ lt-ltb h.0 (2 ^ d) (within name h.0 h.2)
makes_within d before (Restores name) command low within h =
    ap (is_within d) h.1 ∙ lt-ltb h.0 (2 ^ d) (within name h.0 h.2)
makes_within d before Ends command low within h = ap (is_within d) h

-- a line that assigns says a leaf of the tree
assigned_below : (d : ℕ) (text : List ℕ) (entry : Entry) → assigned d text ≡ Some entry → IsBelow (2 ^ d) entry
unfolding assigned
assigned_below d text entry e = by_cut (cut_at_space text) e
  where
    by_leaf : (name : List ℕ) (o : Option ℕ) → option_map (Assigns name) (leaf_numbered d o) ≡ Some entry →
        IsBelow (2 ^ d) entry
    by_leaf name None e = absurd cc
    by_leaf name (Some u) e = by (nat_lt u (2 ^ d)) refl e
      where
        by : (b : Bool) → nat_lt u (2 ^ d) ≡ b → option_map (Assigns name) (if b then Some u else None) ≡ Some entry →
            IsBelow (2 ^ d) entry
        by true low e =
            let same : Assigns name u ≡ entry = cc in subst (IsBelow (2 ^ d)) same (ltb-true u (2 ^ d) low)
        by false low e = absurd cc

    by_name : (name : Option (List ℕ)) (leaf : Option ℕ) →
        option_and_then (λ name. option_map (Assigns name) (leaf_numbered d leaf)) name ≡ Some entry →
        IsBelow (2 ^ d) entry
    by_name None leaf e = absurd cc
    by_name (Some name) leaf e = by_leaf name leaf e

    by_cut : (cut : Option (List ℕ × List ℕ)) →
        option_and_then (λ parts. option_and_then
        (λ name. option_map (Assigns name) (leaf_numbered d (decimal_value parts.1))) (account_name_in parts.0)) cut
        ≡ Some
        entry →
        IsBelow (2 ^ d) entry
    by_cut None e = absurd cc
    by_cut (Some parts) e = by_name (account_name_in parts.0) (decimal_value parts.1) e

-- each line says a leaf of the tree, if it says one
entry_below : (d : ℕ) (line : List ℕ) (entry : Entry) → entry_on d line ≡ Some entry → IsBelow (2 ^ d) entry
unfolding entry_on
entry_below d line entry e =
    go (bytes_eq line (codes "period")) (rest_after (codes "assign ") line) (rest_after (codes "drop ") line)
    (rest_after (codes "restore ") line) e
  where
    drops : (name : Option (List ℕ)) → option_map Drops name ≡ Some entry → IsBelow (2 ^ d) entry
    drops None e = absurd cc
    drops (Some name) e = let same : Drops name ≡ entry = cc in subst (IsBelow (2 ^ d)) same tt

    restores : (name : Option (List ℕ)) → option_map Restores name ≡ Some entry → IsBelow (2 ^ d) entry
    restores None e = absurd cc
    restores (Some name) e = let same : Restores name ≡ entry = cc in subst (IsBelow (2 ^ d)) same tt

    go : (b : Bool) (assign drop restore : Option (List ℕ)) →
        (if b then Some Ends else entry_by_word assign (assigned d)
        (entry_by_word drop (λ text. option_map Drops (account_name_in text))
        (entry_by_word restore (λ text. option_map Restores (account_name_in text)) None))) ≡ Some entry →
        IsBelow (2 ^ d) entry
    go true assign drop restore e = let same : Ends ≡ entry = cc in subst (IsBelow (2 ^ d)) same tt
    go false (Some text) drop restore e = assigned_below d text entry e
    go false None (Some text) restore e = drops (account_name_in text) e
    go false None None (Some text) e = restores (account_name_in text) e
    go false None None None e = absurd cc

-- a limit that is broken is the fault
broken_fault : (d : ℕ) (before : List (Option Entry)) (commands : List Command) (rest : List (Option Entry))
    (next : List (Option Command)) (fault : BookFault) → NextMakes before rest next →
    IsBrokenLimit d commands next fault →
    NextBreaks d before commands rest (as_fault fault)
broken_fault d before commands rest next fault makes broken =
    (broken.0, next, makes, ap as_fault broken.1, broken.2)

-- what lines come to: good lines, or a fault
abbrev pub ComesTo : ℕ → List (Option Entry) → Result (List Command) AccountFault → Type 0
ComesTo d said result = MatchResult result (AreGoodAccountLines d said) (IsAccountFaultOf d said)

-- at the end of good lines
end_comes : (d : ℕ) (before : List (Option Entry)) (commands : List Command) → AreGoodAccountLines d before commands →
    ComesTo d (before ++ []) (account_commands d before commands [])
end_comes d before commands good = by (period_end_check d commands commands) refl
  where
    by : (r : Result (List Command) BookFault) → period_end_check d commands commands ≡ r →
        ComesTo d (before ++ []) (allowed r)
    by (Ok got) e =
        subst (λ cs. AreGoodAccountLines d (before ++ []) cs) (ended_ok d commands commands got e).1
        (subst (λ said. AreGoodAccountLines d said commands) (sym (append-nil before)) good)
    by (Err fault) e =
        let broken = end_broken d commands fault (end_by {B = Unit {0}} d commands commands tt fault e) in
        (before, [], commands, refl, good, inr (broken_fault d before commands [] [] fault refl broken))

module _ (d : ℕ) (before : List (Option Entry)) (commands : List Command) (rest : List (Option Entry))
    (good : AreGoodAccountLines d before commands) (within : AreWithin d before) where
  -- at a wrong line
  wrong_comes : (said : Option Entry) (fault : AccountFault) → command_after before said ≡ Err fault →
      ComesTo d (before ++ said ∷ rest) (account_commands d before commands (said ∷ rest))
  wrong_comes said fault e =
      rw e (before, said ∷ rest, commands, refl, good, inl (said, rest, refl, fault_wrong before said fault e))

  -- at a line that makes a command, if what comes after it is known
  made_comes : (entry : Entry) (command : Command) → IsBelow (2 ^ d) entry →
      command_after before (Some entry) ≡ Ok command →
      (AreGoodAccountLines d (before ++ Some entry ∷ []) (commands ++ command ∷ []) →
      AreWithin d (before ++ Some entry ∷ []) →
      ComesTo d (before ++ Some entry ∷ rest)
      (account_commands d (before ++ Some entry ∷ []) (commands ++ command ∷ []) rest)) →
      ComesTo d (before ++ Some entry ∷ rest) (account_commands d before commands (Some entry ∷ rest))
  made_comes entry command low e next = rw e (by (command_fits d commands command) refl)
    where
      makes : AddsCommand before entry command
      makes = command_makes before entry command e

      by : (r : Result Command BookFault) → command_fits d commands command ≡ r →
          ComesTo d (before ++ Some entry ∷ rest) (allowed r >>= λ command.
          account_commands d (before ++ Some entry ∷ []) (commands ++ command ∷ []) rest)
      by (Ok got) fits =
          let same : command ≡ got = fits_same d commands command got fits in
          let draft = judged_one_more d commands command good.draft
          (makes_within d before entry command low within makes) (fits ∙ ap Ok (sym same)) in
          subst (λ c. ComesTo d (before ++ Some entry ∷ rest)
          (account_commands d (before ++ Some entry ∷ []) (commands ++ c ∷ []) rest)) same
          (next (good_more d before entry commands command good makes draft) (within_more d before entry low within))
      by (Err fault) fits =
          let broken = command_broken d commands command [] fault good.draft fits in
          let breaks = broken_fault d before commands (Some entry ∷ rest) (Some command ∷ []) fault
          (command, makes, refl) broken in
          (before, Some entry ∷ rest, commands, refl, good, inr breaks)

-- at a line, if what comes after it is known
line_comes : (d : ℕ) (line : List ℕ) (before : List (Option Entry)) (commands : List Command)
    (rest : List (Option Entry)) → AreGoodAccountLines d before commands → AreWithin d before →
    ((more : List (Option Entry)) (longer : List Command) → AreGoodAccountLines d more longer → AreWithin d more →
    ComesTo d (more ++ rest) (account_commands d more longer rest)) →
    ComesTo d (before ++ entry_on d line ∷ rest) (account_commands d before commands (entry_on d line ∷ rest))
line_comes d line before commands rest good within next = by_line (entry_on d line) refl
  where
    by_line : (said : Option Entry) → entry_on d line ≡ said →
        ComesTo d (before ++ said ∷ rest) (account_commands d before commands (said ∷ rest))
    by_line None none = wrong_comes d before commands rest good within None (Line (length before + 1)) refl
    by_line (Some entry) says = by_command (command_after before (Some entry)) refl
      where
        by_command : (r : Result Command AccountFault) → command_after before (Some entry) ≡ r →
            ComesTo d (before ++ Some entry ∷ rest) (account_commands d before commands (Some entry ∷ rest))
        by_command (Err fault) e = wrong_comes d before commands rest good within (Some entry) fault e
        by_command (Ok command) e = made_comes d before commands rest good within entry command
            (entry_below d line entry says) e (λ more low.
            subst (λ said. ComesTo d said (account_commands d (before ++ Some entry ∷ []) (commands ++ command ∷ [])
            rest))
            (append_assoc before (Some entry ∷ []) rest)
            (next (before ++ Some entry ∷ []) (commands ++ command ∷ []) more low))

-- after good lines
rest_comes : (d : ℕ) (lines : List (List ℕ)) (before : List (Option Entry)) (commands : List Command) →
    AreGoodAccountLines d before commands → AreWithin d before →
    ComesTo d (before ++ map (entry_on d) lines) (account_commands d before commands (map (entry_on d) lines))
rest_comes d [] before commands good within = end_comes d before commands good
rest_comes d (line ∷ lines) before commands good within =
    line_comes d line before commands (map (entry_on d) lines) good within (rest_comes d lines)

-- what an accounts file comes to
pub file_comes : (d : ℕ) (bytes : List ℕ) → ComesTo d (said_by_accounts d bytes) (accounts_book d bytes)
unfolding accounts_book
file_comes d bytes = rest_comes d (lines_of bytes) [] [] (none_good d) (λ name u e. absurd cc)

-- the commands of these lines are good, of whatever answer is the book of the bytes
pub read_sound : (d : ℕ) (bytes : List ℕ) (commands : List Command) → accounts_book d bytes ≡ Ok commands →
    AreGoodAccountLines d (said_by_accounts d bytes) commands
read_sound d bytes commands e = subst (ComesTo d (said_by_accounts d bytes)) e (file_comes d bytes)

-- and the fault has its cause
pub read_fault : (d : ℕ) (bytes : List ℕ) (fault : AccountFault) →
    (fault ≡ NoMemory) ⊎ (accounts_book d bytes ≡ Err fault) →
    (fault ≡ NoMemory) ⊎ IsAccountFaultOf d (said_by_accounts d bytes) fault
read_fault d bytes fault (inl none) = inl none
read_fault d bytes fault (inr e) = inr (subst (ComesTo d (said_by_accounts d bytes)) e (file_comes d bytes))

-- good lines are judged to their end
good_judged : (d : ℕ) (before : List (Option Entry)) (commands : List Command) (said : List (Option Entry))
    (more : List Command) (rest : List (Option Entry)) → length more ≡ length said →
    ((k : ℕ) → k < length said → (entry : Entry) × (command : Command) × (slice_get said k ≡ Some (Some entry))
    × (slice_get more k ≡ Some command) × AddsCommand (before ++ take k said) entry command) →
    IsDraft d (commands ++ more) → account_commands d before commands (said ++ rest) ≡ account_commands d
    (before ++ said)
    (commands ++ more) rest
good_judged d before commands [] [] rest same each draft =
    rw (append-nil before, append-nil commands) refl
good_judged d before commands [] (command ∷ more) rest same each draft = absurd (omega (arith, same))
good_judged d before commands (one ∷ said) [] rest same each draft = absurd (omega (arith, same))
good_judged d before commands (one ∷ said) (command ∷ more) rest same each draft =
    let first = each 0 (omega arith) in
    let is_entry : one ≡ Some first.0 = cc in
    let is_command : command ≡ first.1 = cc in
    let makes : AddsCommand before first.0 first.1 =
    subst (λ lines. AddsCommand lines first.0 first.1) (append-nil before) first.4 in
    let gives : command_after before one ≡ Ok command =
    ap (command_after before) is_entry ∙ makes_command before first.0 first.1 makes ∙ ap Ok (sym is_command) in
    let fits = command_again d commands command more draft in
    let line : judged_account_line d before commands one ≡ Ok command = rw (gives, fits) refl in
    let others = good_judged d (before ++ one ∷ []) (commands ++ command ∷ []) said more rest (omega (arith, same))
    (λ k h. let next = each (suc k) (omega (arith, h)) in (
      next.0,
      next.1,
      next.2,
      next.3,
      subst (λ lines. AddsCommand lines next.0 next.1) (sym (append_assoc before (one ∷ []) (take k said))) next.4,
    ))
    (subst (IsDraft d) (sym (append_assoc commands (command ∷ []) more)) draft) in
    rw line (others ∙ rw (append_assoc before (one ∷ []) said, append_assoc commands (command ∷ []) more) refl)

-- from the first line on
all_judged : (d : ℕ) (before : List (Option Entry)) (commands : List Command) (rest : List (Option Entry)) →
    AreGoodAccountLines d before commands → account_commands d [] [] (before ++ rest)
    ≡ account_commands d before commands rest
all_judged d before commands rest good = good_judged d [] [] before commands rest good.same good.each good.draft

-- a period that may not end
crowded : {A : Type 0} (d : ℕ) (commands : List Command) (value : A) →
    MOST_REVOKED < length (revoked_after d commands) →
    period_end_check d commands value ≡ Err (book.Limit (Revoked (last_period commands)))
crowded d commands value many =
    let more : nat_lt MOST_REVOKED (length (revoked_after d commands)) ≡ true = grind (arith, common_steps, many) in
    rw more refl

-- a limit that a command breaks
command_breaks : (d : ℕ) (commands : List Command) (command : Command) (limit : BookLimit) →
    BreaksLimit d commands (Some command ∷ []) limit → command_fits d commands command ≡ Err (book.Limit limit)
command_breaks d commands command Lines h =
    let full : nat_le MOST_COMMANDS (length commands) ≡ true = grind (arith, common_steps, h.0) in rw full refl
command_breaks d commands command Periods h =
    let here : Some command ∷ [] ≡ Some Period ∷ h.1.0 = h.1.1 in
    let same : command ≡ Period = cc in
    let room : nat_le MOST_COMMANDS (length commands) ≡ false = grind (arith, common_steps, h.0) in
    let last : nat_le MOST_PERIODS (last_period commands) ≡ true = grind (arith, common_steps, h.2) in
    rw same (rw (room, last) refl)
command_breaks d commands command (Revoked q) (inl none, many) = absurd cc
command_breaks d commands command (Revoked q) (inr period, many) =
    let here : Some command ∷ [] ≡ Some Period ∷ period.1.0 = period.1.1 in
    let same : command ≡ Period = cc in
    let room : nat_le MOST_COMMANDS (length commands) ≡ false = grind (arith, common_steps, period.0) in
    let open_periods : nat_le MOST_PERIODS (last_period commands) ≡ false = grind (arith, common_steps, period.2) in
    rw same (rw (room, open_periods, many.0) (crowded d commands Period many.1))

-- a limit that the end breaks
end_breaks : {A : Type 0} (d : ℕ) (commands : List Command) (value : A) (limit : BookLimit) →
    BreaksLimit d commands [] limit →
    period_end_check d commands value ≡ Err (book.Limit limit)
end_breaks d commands value Lines h = let here : [] ≡ h.1 ∷ h.2.0 = h.2.1 in absurd cc
end_breaks d commands value Periods h = let here : [] ≡ Some Period ∷ h.1.0 = h.1.1 in absurd cc
end_breaks d commands value (Revoked q) (ends, many) = rw many.0 (crowded d commands value many.1)

-- what is judged where a limit is broken
breaks_judged : (d : ℕ) (before : List (Option Entry)) (commands : List Command) (rest : List (Option Entry))
    (fault : AccountFault) → NextBreaks d before commands rest fault → account_commands d before commands rest
    ≡ Err fault
breaks_judged d before commands [] fault (limit, next, none, is, breaks) =
    let broken = end_breaks d commands commands limit (subst (λ rest. BreaksLimit d commands rest limit) none breaks) in
    rw (broken, is) refl
breaks_judged d before commands (None ∷ others) fault (limit, next, makes, is, breaks) = absurd makes
breaks_judged d before commands (Some entry ∷ others) fault (limit, next, makes, is, breaks) =
    let broken = command_breaks d commands makes.0 limit
    (subst (λ rest. BreaksLimit d commands rest limit) makes.2 breaks) in
    rw (makes_command before entry makes.0 makes.1, broken, is) refl

-- and where a line is wrong
wrong_judged : (d : ℕ) (before : List (Option Entry)) (commands : List Command) (rest : List (Option Entry))
    (fault : AccountFault) → NextIsWrong before rest fault → account_commands d before commands rest ≡ Err fault
wrong_judged d before commands rest fault (said, others, is, wrong) =
    rw (is, wrong_command before said fault wrong) refl

-- the fault of lines is what is judged of them
cause_judged : (d : ℕ) (said : List (Option Entry)) (fault : AccountFault) → IsAccountFaultOf d said fault →
    account_commands d [] [] said ≡ Err fault
cause_judged d said fault (before, rest, commands, is, good, cause) =
    ap (account_commands d [] []) is ∙ all_judged d before commands rest good ∙ elim cause [
      | inl wrong ↦ wrong_judged d before commands rest fault wrong
      | inr breaks ↦ breaks_judged d before commands rest fault breaks
    ]

-- good lines whose commands are within the limits are judged to be these commands
within_judged : (d : ℕ) (said : List (Option Entry)) (commands : List Command) → AreGoodAccountLines d said commands →
    IsWithinLimits d commands → account_commands d [] [] said ≡ Ok commands
within_judged d said commands good all =
    ap (account_commands d [] []) (sym (append-nil said)) ∙ all_judged d said commands [] good
    ∙ book_ends d commands all

-- lines have one fault
pub one_cause : (d : ℕ) (said : List (Option Entry)) (a b : AccountFault) → IsAccountFaultOf d said a →
    IsAccountFaultOf d said b →
    a ≡ b
one_cause d said a b x y =
    let same : Err a ≡ Err b = sym (cause_judged d said a x) ∙ cause_judged d said b y in cc

-- and none if they are good and their commands within the limits
pub no_cause : (d : ℕ) (said : List (Option Entry)) (commands : List Command) (fault : AccountFault) →
    AreGoodAccountLines d said commands → IsWithinLimits d commands → IsAccountFaultOf d said fault → ⊥
no_cause d said commands fault good all x =
    let same : Ok commands ≡ Err fault = sym (within_judged d said commands good all) ∙ cause_judged d said fault x in
    absurd cc

-- such lines are read as these commands
pub read_again : (d : ℕ) (bytes : List ℕ) (commands : List Command) →
    AreGoodAccountLines d (said_by_accounts d bytes) commands →
    IsWithinLimits d commands → accounts_book d bytes ≡ Ok commands
unfolding accounts_book
read_again d bytes commands good all = within_judged d (said_by_accounts d bytes) commands good all

-- and are refused only where memory was out
pub read_wanting : (d : ℕ) (bytes : List ℕ) (commands : List Command) (fault : AccountFault) →
    AreGoodAccountLines d (said_by_accounts d bytes) commands → IsWithinLimits d commands →
    (fault ≡ NoMemory) ⊎ (accounts_book d bytes ≡ Err fault) → fault ≡ NoMemory
read_wanting d bytes commands fault good all (inl none) = none
read_wanting d bytes commands fault good all (inr e) =
    let same : Ok commands ≡ Err fault = sym (read_again d bytes commands good all) ∙ e in absurd cc

-- what they are read as is these commands
pub read_same : (d : ℕ) (bytes : List ℕ) (commands got : List Command) →
    AreGoodAccountLines d (said_by_accounts d bytes) commands →
    IsWithinLimits d commands → accounts_book d bytes ≡ Ok got → got ≡ commands
read_same d bytes commands got good all e =
    let same : Ok commands ≡ Ok got = sym (read_again d bytes commands good all) ∙ e in cc
