-- The lines of accounts with which a line clashes.
use Rattle.std.proofs.Common.{◌≡◌, ℕ, suc, ◌+◌, ◌-◌, ◌<◌, ◌≤◌, arith, List, [], ◌∷◌, map, take, Option, refl, ap, ◌∙◌}
use Rattle.std.proofs.Math.Seq.{take-nil}
use Rattle.sd_base.specs.Lines.{lines_of}
use Rattle.sd_run_books.specs.AccountsCause.{clash_from}
use Rattle.sd_run_books.specs.Line.{Entry, entry_on, said_by_accounts}
use Rattle.sd_command_base.specs.declared.bad_line.LineCause.TheVariants.{Form}

take_one : (k line : ℕ) (entry : Option Entry) (said : List (Option Entry)) → line < k →
    take (k - line) (entry ∷ said) ≡ entry ∷ take (k - (line + 1)) said
take_one k line entry said low =
    let one : k - line ≡ suc (k - (line + 1)) = omega (arith, low) in
    rw one refl

-- the next line, and those after it
pub next_clash : (d k line u : ℕ) (name rest text after : List ℕ) → line < k →
    lines_of rest ≡ text ∷ lines_of after →
    clash_from line name u (take (k - line) (said_by_accounts d rest))
    ≡ clash_from line name u (entry_on d text ∷ take (k - (line + 1)) (said_by_accounts d after))
next_clash d k line u name rest text after low cut =
    ap (λ lines. clash_from line name u (take (k - line) (map (entry_on d) lines))) cut
    ∙ ap (clash_from line name u) (take_one k line (entry_on d text) (said_by_accounts d after) low)

-- no line is left
pub nothing_left : (d k line u : ℕ) (name rest : List ℕ) → rest ≡ [] →
    clash_from line name u (take (k - line) (said_by_accounts d rest)) ≡ Form
nothing_left d k line u name rest none =
    ap (λ (bytes : List ℕ). clash_from line name u (take (k - line) (said_by_accounts d bytes))) none
    ∙ ap (clash_from line name u) (take-nil (k - line))

-- no line is to be looked at
pub none_before : (d k line u : ℕ) (name rest : List ℕ) → k ≤ line →
    clash_from line name u (take (k - line) (said_by_accounts d rest)) ≡ Form
none_before d k line u name rest past =
    let zero_left : k - line ≡ 0 = omega (arith, past) in
    rw zero_left refl
