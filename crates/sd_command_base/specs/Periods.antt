-- Public meaning: the texts of the periods of a book [this project, docs/FORMATS.md, Cover].
use Rattle.std.specs.Prelude.{ℕ, zero, suc, ◌+◌, List, [], ◌∷◌, ◌++◌, length, codes, false, None}
use Rattle.std.specs.List.{flat_map}
use Rattle.std.specs.Fmt.{decimal}
use Rattle.sd_tree_keys.specs.declared.set.SetName.{SetName}
use Rattle.sd_tree_keys.specs.declared.set.SetName.TheVariants.{Whole, Diff}
use Rattle.sd_book.specs.declared.command.Command.{Command}
use Rattle.sd_book.specs.Commands.{last_period, revoked}
use Rattle.sd_command_base.specs.declared.status.Status.TheVariants.{Done}
use Rattle.sd_command_base.specs.Work.{NoSteps, Work}

-- the line of a set: its name, and then this end
unfoldable pub set_line : List ℕ → SetName → List ℕ
set_line end Whole = codes "all" ++ end
set_line end (Diff i j) = decimal i ++ (codes " " ++ (decimal j ++ end))

-- the end of a line that has the name of its set alone
abbrev pub bare_end : SetName → List ℕ
bare_end name = codes "\n"

-- the line of a period with this many revoked leaves and sets
unfoldable pub period_line : ℕ → ℕ → ℕ → List ℕ
period_line q revoked sets =
    codes "period "
    ++ (decimal q ++ (codes " revoked " ++ (decimal revoked ++ (codes " sets " ++ (decimal sets ++ codes "\n")))))

-- what is printed of a period: its line, and then a line for each of its sets, with this end after its name
abbrev pub period_text : (SetName → List ℕ) → ℕ → ℕ → List SetName → List ℕ
period_text end q revoked sets = period_line q revoked (length sets) ++ flat_map (λ name. set_line (end name) name) sets

-- the text of period q of a book for a tree of height d: these sets for its revoked leaves, with these ends
abbrev pub text_at : (List ℕ → List SetName) → (SetName → List ℕ) → ℕ → List Command → ℕ → List ℕ
text_at sets end d commands q =
    period_text end q (length (revoked d commands q)) (sets (revoked d commands q))

-- the first n of some texts
abbrev pub first_texts : (ℕ → List ℕ) → ℕ → List (List ℕ)
first_texts text zero = []
first_texts text (suc n) = first_texts text n ++ text n ∷ []

-- prints these texts, from number 0 to the last
abbrev pub printing_texts : (ℕ → List ℕ) → ℕ → Work
printing_texts text last =
    record {
      mark = None;
      out = None;
      pieces = first_texts text (last + 1);
      ends = Done;
      breaks = false;
      live = false;
      steps = NoSteps;
    }

-- prints these sets of each period of a book for a tree of height d, with these ends
abbrev pub listing : (List ℕ → List SetName) → (SetName → List ℕ) → ℕ → List Command → Work
listing sets end d commands = printing_texts (text_at sets end d commands) (last_period commands)
