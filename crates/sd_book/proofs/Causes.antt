-- The fault of lines, and what is judged of them.
use Rattle.std.proofs.Common.{arith, ◌≡◌, ℕ, ◌+◌, ◌<◌, ◌≤◌, Bool, true, false, cond, List, [], ◌∷◌, ◌++◌, length, map}
use Rattle.std.proofs.Common.{drop, get_or, Option, Some, None, Result, Ok, Err, refl, sym, ap, subst, ◌∙◌}
use Rattle.std.proofs.Common.{append_assoc, inl, inr, nat_lt, nat_le, take}
use Rattle.std.specs.Prelude.{◌⊎◌, IfOk, IfErr, MatchResult}
use Rattle.std.proofs.lemmas.Grind.{common_steps}
use Rattle.std.proofs.lemmas.List.{append-nil, map-append, drop_more, take_more, take_all, take-append-drop}
use Rattle.sd_base.specs.Lines.{lines_of}
use Rattle.sd_tree_keys.specs.Limits.{most_revoked}
use Rattle.sd_book.specs.declared.command.Command.{Command}
use Rattle.sd_book.specs.declared.command.Command.TheVariants.{Subscribe, Revoke, Period}
use Rattle.sd_book.specs.declared.fault.BookFault.{BookFault}
use Rattle.sd_book.specs.declared.fault.BookFault.TheVariants.{Line, Leaf, Limit, NoMemory}
use Rattle.sd_book.specs.declared.fault.BookLimit.{BookLimit}
use Rattle.sd_book.specs.declared.fault.BookLimit.TheVariants.{Lines, Periods, Revoked}
use Rattle.sd_book.specs.Commands.{is_within, last_period, revoked_after}
use Rattle.sd_book.specs.Faults.{HasCommandRoom, IsCrowded, BreaksLimit, IsBrokenLimit, FaultAfter, IsBookFaultOf}
use Rattle.sd_book.specs.Faults.{IsFirstLimit}
use Rattle.sd_book.specs.Limits.{IsWithinLimits, IsDraft, most_commands, most_periods}
use Rattle.sd_book.specs.Value.{BookValue}
use Rattle.sd_book.specs.Text.{SpellsBook, in_tree, period_end_check, period_fits, command_fits, book_commands}
use Rattle.sd_book.specs.Text.{said_by_book, book_of}
use Rattle.sd_book.proofs.Judged.{draft_again, said_again, command_again, within_is_draft, book_again}

-- by the test of the room
room_open : (before : List Command) → HasCommandRoom before → nat_le most_commands (length before) ≡ false
room_open before h = grind (arith, common_steps)

-- a fault by a test, or by what comes after it
guard_err : {A : Type 0} (b : Bool) (d fault : BookFault) (r : Result A BookFault) → cond b (Err d) r ≡ Err fault
    → ((b ≡ true) × (d ≡ fault)) ⊎ ((b ≡ false) × (r ≡ Err fault))
guard_err true d fault r e = inl (refl, cc)
guard_err false d fault r e = inr (refl, e)

-- a period that may not end
crowded : {A : Type 0} (d : ℕ) (before : List Command) (value : A) (q : ℕ) → IsCrowded d before q →
    period_end_check d before value
    ≡ Err (Limit (Revoked q))
crowded d before value q h =
    let many : nat_lt most_revoked (length (revoked_after d before)) ≡ true = grind (arith, common_steps, h.1) in
    rw (many, h.0) refl

-- what is judged where a fault comes
fault_judged : (d : ℕ) (before : List Command) (rest : List (Option Command)) (fault : BookFault) →
    FaultAfter d before rest fault
    → book_commands d before rest ≡ Err fault
fault_judged d before rest (Line k) h =
    subst (λ (r : List (Option Command)). book_commands d before r ≡ Err (Line k)) (sym h.2.1)
    (rw (room_open before h.0, h.1) refl)
fault_judged d before rest (Leaf k) h =
    subst (λ (r : List (Option Command)). book_commands d before r ≡ Err (Leaf k)) (sym h.3.1)
    (rw (room_open before h.0, h.4, h.1) refl)
fault_judged d before rest (Limit Lines) h =
    let full : nat_le most_commands (length before) ≡ true = grind (arith, common_steps, h.0) in
    subst (λ (r : List (Option Command)). book_commands d before r ≡ Err (Limit Lines)) (sym h.2.1) (rw full refl)
fault_judged d before rest (Limit Periods) h =
    let last : nat_le most_periods (last_period before) ≡ true = grind (arith, common_steps, h.2) in
    subst (λ (r : List (Option Command)). book_commands d before r ≡ Err (Limit Periods)) (sym h.1.1)
    (rw (room_open before h.0, last) refl)
fault_judged d before rest (Limit (Revoked q)) h =
    elim h.0 [
      | inl none ↦ subst (λ (r : List (Option Command)). book_commands d before r ≡ Err (Limit (Revoked q))) (sym none)
          (crowded d before before q h.1)
      | inr period ↦
          let open_periods : nat_le most_periods (last_period before) ≡ false = grind (arith, common_steps, period.2) in
          subst (λ (r : List (Option Command)). book_commands d before r ≡ Err (Limit (Revoked q))) (sym period.1.1)
          (rw (room_open before period.0, open_periods, crowded d before Period q h.1) refl)
    ]
fault_judged d before rest NoMemory h = absurd h

-- the fault of lines is what is judged of them
pub cause_judged : (d : ℕ) (said : List (Option Command)) (fault : BookFault) → IsBookFaultOf d said fault →
    book_commands d [] said ≡ Err fault
cause_judged d said fault h = ap (book_commands d []) h.2 ∙ draft_again d [] h.0 h.1 h.3 ∙ fault_judged d h.0 h.1 fault
    h.4

-- and of a book file
pub cause_is_fault : (d : ℕ) (bytes : List ℕ) (fault : BookFault) → IsBookFaultOf d (said_by_book bytes) fault →
    book_of d bytes
    ≡ Err fault
unfolding book_of
cause_is_fault d bytes fault h = cause_judged d (said_by_book bytes) fault h

-- lines have one fault
pub one_cause : (d : ℕ) (said : List (Option Command)) (a b : BookFault) → IsBookFaultOf d said a →
    IsBookFaultOf d said b →
    a ≡ b
one_cause d said a b x y =
    let same : Err a ≡ Err b = sym (cause_judged d said a x) ∙ cause_judged d said b y in
    cc

-- and none where they say commands within the limits
pub no_cause : (d : ℕ) (commands : List Command) (fault : BookFault) → IsWithinLimits d commands →
    IsBookFaultOf d (map Some commands) fault → ⊥
no_cause d commands fault all x =
    let same : Ok commands ≡ Err fault = sym (said_again d commands all) ∙ cause_judged d (map Some commands) fault x in
    absurd cc

-- a period that may not end is crowded
end_err : {A : Type 0} (d : ℕ) (before : List Command) (value : A) (fault : BookFault) → period_end_check d before value
    ≡ Err fault
    → (q : ℕ) × (fault ≡ Limit (Revoked q)) × IsCrowded d before q
end_err d before value fault e =
    elim (guard_err (nat_lt most_revoked (length (revoked_after d before))) (Limit (Revoked (last_period before))) fault
    (Ok value) e) [
      | inl many ↦ (last_period before, sym many.1, (refl, grind (arith, common_steps, many.0)))
      | inr other ↦ absurd cc
    ]

-- a book that is full
lines_err : (d : ℕ) (before : List Command) (said : Option Command) (others : List (Option Command))
    (fault : BookFault) → IsDraft d before
    → nat_le most_commands (length before) ≡ true → Limit Lines ≡ fault → IsBrokenLimit d before (said ∷ others) fault
lines_err d before said others fault all full
    same = (Lines, sym same, (grind (arith, common_steps, full, all.lines), said, (others, refl)))

-- a Period that may not come
period_err : (d : ℕ) (before : List Command) (others : List (Option Command)) (fault : BookFault) → IsDraft d before →
    HasCommandRoom before
    → period_fits d before Period ≡ Err fault → IsBrokenLimit d before (Some Period ∷ others) fault
period_err d before others fault all room e =
    elim (guard_err (nat_le most_periods (last_period before)) (Limit Periods) fault (period_end_check d before Period)
    e) [
      | inl last ↦ (Periods, sym last.1, (room, (others, refl), grind (arith, common_steps, last.0, all.periods)))
      | inr other ↦
          let few : last_period before < most_periods = grind (arith, common_steps, other.0) in
          let end = end_err d before Period fault other.1 in
          (Revoked end.0, end.1, (inr (room, (others, refl), few), end.2))
    ]

-- a command that doesn't fit breaks a limit
step_err : (d : ℕ) (before : List Command) (command : Command) (others : List (Option Command)) (fault : BookFault) →
    IsDraft d before → HasCommandRoom before
    → period_fits d before command ≡ Err fault → IsBrokenLimit d before (Some command ∷ others) fault
step_err d before (Subscribe u) others fault all room e = absurd cc
step_err d before (Revoke u) others fault all room e = absurd cc
step_err d before Period others fault all room e = period_err d before others fault all room e

-- a command that may not come breaks a limit
pub command_broken : (d : ℕ) (before : List Command) (command : Command) (others : List (Option Command))
    (fault : BookFault) → IsDraft d before
    → command_fits d before command ≡ Err fault → IsBrokenLimit d before (Some command ∷ others) fault
command_broken d before command others fault all e =
    elim (guard_err (nat_le most_commands (length before)) (Limit Lines) fault (period_fits d before command) e) [
      | inl full ↦ lines_err d before (Some command) others fault all full.0 full.1
      | inr other ↦ step_err d before command others fault all (grind (arith, common_steps, other.0)) other.1
    ]

-- a command of a longer draft may come
pub command_allowed : (d : ℕ) (before : List Command) (command : Command) (fault : BookFault) →
    IsDraft d (before ++ command ∷ [])
    → command_fits d before command ≡ Err fault → ⊥
command_allowed d before command fault all e =
    let fits = command_again d before command [] all in
    absurd cc

-- commands that may not end break a limit
pub end_broken : (d : ℕ) (before : List Command) (fault : BookFault) → period_end_check {A = Unit {0}} d before tt
    ≡ Err fault →
    IsBrokenLimit d before [] fault
end_broken d before fault e =
    let end = end_err d before tt fault e in
    (Revoked end.0, end.1, (inl refl, end.2))

-- a limit that is broken by a command is broken whatever comes after it
longer_breaks : (d : ℕ) (before : List Command) (command : Command) (others : List (Option Command)) (limit : BookLimit)
    → BreaksLimit d before (Some command ∷ []) limit → BreaksLimit d before (Some command ∷ others) limit
longer_breaks d before command others Lines h = (h.0, Some command, (others, refl))
longer_breaks d before command others Periods h =
    let here : Some command ∷ [] ≡ Some Period ∷ h.1.0 = h.1.1 in
    let same : command ≡ Period = cc in
    (h.0, (others, ap (λ (c : Command). Some c ∷ others) same), h.2)
longer_breaks d before command others (Revoked q) h =
    elim h.0 [
      | inl none ↦ absurd cc
      | inr period ↦
          let here : Some command ∷ [] ≡ Some Period ∷ period.1.0 = period.1.1 in
          let same : command ≡ Period = cc in
          (inr (period.0, (others, ap (λ (c : Command). Some c ∷ others) same), period.2), h.1)
    ]

-- so is the fault
longer_rest : (d : ℕ) (before : List Command) (command : Command) (others : List (Option Command)) (fault : BookFault)
    → IsBrokenLimit d before (Some command ∷ []) fault → IsBrokenLimit d before (Some command ∷ others) fault
longer_rest d before command others fault h = (h.0, h.1, longer_breaks d before command others h.0 h.2)

-- the fault of lines, at a limit
broken_cause : (d : ℕ) (said : List (Option Command)) (before : List Command) (rest : List (Option Command))
    (fault : BookFault)
    → said ≡ map Some before ++ rest → IsDraft d before → IsBrokenLimit d before rest fault → IsBookFaultOf d said fault
broken_cause d said before rest fault same all broken =
    (before, rest, same, all, subst (λ (f : BookFault). FaultAfter d before rest f) (sym broken.1) broken.2)

-- the fault of lines, at a command that may not come
pub push_cause : (d : ℕ) (said : List (Option Command)) (before : List Command) (command : Command)
    (others : List (Option Command)) (fault : BookFault)
    → said ≡ map Some before ++ Some command ∷ others → IsDraft d before →
    IsBrokenLimit d before (Some command ∷ []) fault →
    IsBookFaultOf d said fault
push_cause d said before command others fault same all broken =
    broken_cause d said before (Some command ∷ others) fault same all (longer_rest d before command others fault broken)

-- at their end
pub end_cause : (d : ℕ) (said : List (Option Command)) (commands : List Command) (fault : BookFault) →
    said ≡ map Some commands → IsDraft d commands
    → IsBrokenLimit d commands [] fault → IsBookFaultOf d said fault
end_cause d said commands fault same all broken =
    broken_cause d said commands [] fault (same ∙ sym (append-nil (map Some commands))) all broken

-- at a line whose leaf is not of the tree
leaf_cause : (d : ℕ) (before : List Command) (command : Command) (others : List (Option Command)) (fault : BookFault)
    (b : Bool)
    → is_within d command ≡ b → HasCommandRoom before → cond b (Ok command) (Err (Leaf (length before + 1))) ≡ Err fault
    → FaultAfter d before (Some command ∷ others) fault
leaf_cause d before command others fault true outside room e = absurd cc
leaf_cause d before command others fault false outside room e =
    let same : Leaf (length before + 1) ≡ fault = cc in
    subst (λ (f : BookFault). FaultAfter d before (Some command ∷ others) f) same
    (room, refl, command, (others, refl), outside)

-- at a line that is no command of the tree
tree_cause : (d : ℕ) (before : List Command) (o : Option Command) (others : List (Option Command)) (fault : BookFault) →
    HasCommandRoom before
    → in_tree d (length before + 1) o ≡ Err fault → FaultAfter d before (o ∷ others) fault
tree_cause d before None others fault room e =
    let same : Line (length before + 1) ≡ fault = cc in
    subst (λ (f : BookFault). FaultAfter d before (None ∷ others) f) same (room, refl, (others, refl))
tree_cause d before (Some command) others fault room e = leaf_cause d before command others fault (is_within d command)
    refl room e

-- at a line that may not come, or is no command of the tree
pub line_cause : (d : ℕ) (said : List (Option Command)) (before : List Command) (o : Option Command)
    (others : List (Option Command)) (fault : BookFault)
    → said ≡ map Some before ++ o ∷ others → IsDraft d before
    → cond (nat_le most_commands (length before)) (Err (Limit Lines)) (in_tree d (length before + 1) o) ≡ Err fault →
    IsBookFaultOf d said fault
line_cause d said before o others fault same all e =
    elim (guard_err (nat_le most_commands (length before)) (Limit Lines) fault (in_tree d (length before + 1) o) e) [
      | inl full ↦ broken_cause d said before (o ∷ others) fault same all
          (lines_err d before o others fault all full.0 full.1)
      | inr other ↦ (
        before,
        o ∷ others,
        same,
        all,
        tree_cause d before o others fault
            (grind (arith, common_steps, other.0)) other.1,
      )
    ]

-- commands within the limits may end
pub end_allowed : (d : ℕ) (commands : List Command) (fault : BookFault) → IsWithinLimits d commands →
    period_end_check {A = Unit {0}} d commands tt ≡ Err fault → ⊥
end_allowed d commands fault all e =
    no_cause d commands fault all (end_cause d (map Some commands) commands fault refl (within_is_draft d commands all)
    (end_broken d commands fault e))

-- the answer to a text, at a command that may not come
pub push_faulty : (d h : ℕ) (said : List (Option Command)) (before : List Command) (command : Command)
    (others : List (Option Command)) (fault : BookFault) →
    h ≡ d → said ≡ map Some before ++ Some command ∷ others → IsDraft d before →
    (fault ≡ NoMemory) ⊎ IsBrokenLimit h before (Some command ∷ []) fault →
    (fault ≡ NoMemory) ⊎ IsBookFaultOf d said fault
push_faulty d h said before command others fault height same all (inl none) = inl none
push_faulty d h said before command others fault height same all (inr broken) =
    inr (push_cause d said before command others fault same all
    (subst (λ (k : ℕ). IsBrokenLimit k before (Some command ∷ []) fault) height broken))

-- and where their last period may not end
pub end_faulty : (d h : ℕ) (bytes : List ℕ) (commands : List Command) (answer : Result BookValue BookFault) →
    h ≡ d → SpellsBook (lines_of bytes) commands → IsDraft d commands →
    IfErr answer (λ fault. IsBrokenLimit h commands [] fault) →
    IfErr answer (λ fault. (fault ≡ NoMemory) ⊎ IsBookFaultOf d (said_by_book bytes) fault)
end_faulty d h bytes commands (Ok book) height spelled all broken = tt
end_faulty d h bytes commands (Err fault) height spelled all broken =
    inr (end_cause d (said_by_book bytes) commands fault spelled all
    (subst (λ (k : ℕ). IsBrokenLimit k commands [] fault) height broken))

-- lines that say a command more
pub said_more : (said : List (Option Command)) (before commands : List Command) (command : Command)
    (others : List (Option Command)) →
    said ≡ map Some before ++ Some command ∷ others → commands ≡ before ++ command ∷ [] →
    said ≡ map Some commands ++ others
said_more said before commands command others same longer =
    same ∙ sym (append_assoc (map Some before) (Some command ∷ []) others) ∙
    ap (λ (cs : List (Option Command)). cs ++ others)
    (sym (map-append Some before (command ∷ [])) ∙ ap (map Some) (sym longer))

-- commands with one more of those that come after them
pub appended : (before more commands new : List Command) (i : ℕ) (command : Command) → i < length more →
    get_or more i command ≡ command → commands ≡ before ++ take i more → new ≡ commands ++ command ∷ [] →
    new ≡ before ++ take (i + 1) more
appended before more commands new i command h at same longer =
    let next : take (i + 1) more ≡ take i more ++ command ∷ [] =
    take_more more i command h ∙ ap (λ (c : Command). take i more ++ c ∷ []) at in
    longer ∙ ap (λ (cs : List Command). cs ++ command ∷ []) same ∙
    append_assoc before (take i more) (command ∷ []) ∙ ap (λ (cs : List Command). before ++ cs) (sym next)

-- and with all of them
pub appended_all : (before more commands : List Command) (i : ℕ) → commands ≡ before ++ take i more →
    length more ≤ i → commands ≡ before ++ more
appended_all before more commands i same h = same ∙ ap (λ (cs : List Command). before ++ cs) (take_all i more h)

-- the fault of a book's lines that get longer one command at a time
append_cause : (d : ℕ) (before more : List Command) (i : ℕ) (command : Command) (fault : BookFault) → i < length more →
    get_or more i command ≡ command
    → IsDraft d (before ++ take i more) → IsBrokenLimit d (before ++ take i more) (Some command ∷ []) fault
    → IsFirstLimit d (before ++ more) fault
append_cause d before more i command fault h at all broken =
    let rest : drop i more ≡ command ∷ drop (i + 1) more = drop_more more i command h ∙
    ap (λ (c : Command). c ∷ drop (i + 1) more) at in
    let cut : before ++ more ≡ (before ++ take i more) ++ command ∷ drop (i + 1) more =
    ap (λ (cs : List Command). before ++ cs) (sym (take-append-drop i more) ∙
    ap (λ (cs : List Command). take i more ++ cs) rest) ∙
    sym (append_assoc before (take i more) (command ∷ drop (i + 1) more)) in
    let said : map Some (before ++ more) ≡ map Some (before ++ take i more) ++ Some command
    ∷ map Some (drop (i + 1) more) =
    ap (map Some) cut ∙ map-append Some (before ++ take i more) (command ∷ drop (i + 1) more) in
    record {
      limit = (broken.0, broken.1);
      cause = push_cause d (map Some (before ++ more)) (before ++ take i more) command (map Some (drop (i + 1) more))
          fault said all broken;
    }

-- the answer where a command may not come
pub append_fault : (d h : ℕ) (before more commands : List Command) (i : ℕ) (command : Command) (fault : BookFault) →
    h ≡ d
    → commands ≡ before ++ take i more → i < length more → get_or more i command ≡ command → IsDraft d commands
    → (fault ≡ NoMemory) ⊎ IsBrokenLimit h commands (Some command ∷ []) fault
    → (fault ≡ NoMemory) ⊎ IsFirstLimit d (before ++ more) fault
append_fault d h before more commands i command fault height same lt at all (inl none) = inl none
append_fault d h before more commands i command fault height same lt at all (inr broken) =
    inr (append_cause d before more i command fault lt at (subst (λ (cs : List Command). IsDraft d cs) same all)
    (subst (λ (cs : List Command). IsBrokenLimit d cs (Some command ∷ []) fault) same
    (subst (λ (k : ℕ). IsBrokenLimit k commands (Some command ∷ []) fault) height broken)))

-- and where the last period may not end
pub finish_fault : (d h : ℕ) (before more commands : List Command) (answer : Result BookValue BookFault) → h ≡ d →
    commands ≡ before ++ more
    → IsDraft d commands → IfErr answer (λ fault. IsBrokenLimit h commands [] fault)
    → IfErr answer (λ fault. (fault ≡ NoMemory) ⊎ IsFirstLimit d (before ++ more) fault)
finish_fault d h before more commands (Ok book) height same all broken = tt
finish_fault d h before more commands (Err fault) height same all broken =
    inr (record {
      limit = (broken.0, broken.1);
      cause = end_cause d (map Some (before ++ more)) commands fault (ap (map Some) (sym same)) all
          (subst (λ (k : ℕ). IsBrokenLimit k commands [] fault) height broken);
    })

-- within the limits no longer book is refused
pub none_refused : (d : ℕ) (commands : List Command) (fault : BookFault) → (fault ≡ NoMemory) ⊎ IsFirstLimit d commands
    fault
    → IsWithinLimits d commands → fault ≡ NoMemory
none_refused d commands fault (inl same) all = same
none_refused d commands fault (inr cause) all = absurd (no_cause d commands fault all cause.cause)

-- nor a text
pub none_faulty : (d : ℕ) (bytes : List ℕ) (commands : List Command) (fault : BookFault) → (fault ≡ NoMemory)
    ⊎ IsBookFaultOf d (said_by_book bytes) fault
    → SpellsBook (lines_of bytes) commands → IsWithinLimits d commands → fault ≡ NoMemory
none_faulty d bytes commands fault (inl same) spelled all = same
none_faulty d bytes commands fault (inr cause) spelled all =
    absurd (no_cause d commands fault all (subst (λ (said : List (Option Command)). IsBookFaultOf d said fault) spelled
    cause))

-- the answer to a text that has a fault
pub faulty_is : (d : ℕ) (bytes : List ℕ) (fault : BookFault) →
    (fault ≡ NoMemory) ⊎ IsBookFaultOf d (said_by_book bytes) fault
    → (fault ≡ NoMemory) ⊎ (book_of d bytes ≡ Err fault)
faulty_is d bytes fault (inl same) = inl same
faulty_is d bytes fault (inr cause) = inr (cause_is_fault d bytes fault cause)

-- lines that spell two lists of commands
pub one_spelled : (a b : List Command) → map Some a ≡ map Some b → a ≡ b
one_spelled [] [] e = refl
one_spelled [] (y ∷ b) e = absurd cc
one_spelled (x ∷ a) [] e = absurd cc
one_spelled (x ∷ a) (y ∷ b) e =
    let first : x ≡ y = cc in
    let rest : map Some a ≡ map Some b = cc in
    let others = one_spelled a b rest in
    cc

-- of all that is asked of the answer to a text, what follows from the rest: it is complete
pub answer_complete : (d : ℕ) (bytes : List ℕ) (answer : Result BookValue BookFault) →
    IfOk answer (λ book. SpellsBook (lines_of bytes) book.commands)
    → IfErr answer (λ fault. (fault ≡ NoMemory) ⊎ IsBookFaultOf d (said_by_book bytes) fault)
    → (commands : List Command) → SpellsBook (lines_of bytes) commands → IsWithinLimits d commands
    → MatchResult answer (λ book. book.commands ≡ commands) (λ fault. fault ≡ NoMemory)
answer_complete d bytes (Ok book) sound cause commands spelled all = one_spelled book.commands commands
    (sym sound ∙ spelled)
answer_complete d bytes (Err fault) sound cause commands spelled all = none_faulty d bytes commands fault cause spelled
    all

-- and it is the book of the text
pub answer_value : (d : ℕ) (bytes : List ℕ) (answer : Result BookValue BookFault) →
    IfOk answer (λ book. IsWithinLimits d book.commands)
    → IfOk answer (λ book. SpellsBook (lines_of bytes) book.commands) →
    IfErr answer (λ fault. (fault ≡ NoMemory) ⊎ IsBookFaultOf d (said_by_book bytes) fault)
    → MatchResult answer (λ book. book_of d bytes ≡ Ok book.commands)
    (λ fault. (fault ≡ NoMemory) ⊎ (book_of d bytes ≡ Err fault))
answer_value d bytes (Ok book) fits sound cause = book_again d bytes book.commands sound fits
answer_value d bytes (Err fault) fits sound cause = faulty_is d bytes fault cause
