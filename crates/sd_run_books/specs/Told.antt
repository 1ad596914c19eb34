-- Public meaning: what `next` prints of the site that it makes [this project, docs/FORMATS.md, Chains of sites].
use Rattle.std.specs.Prelude.{ℕ, ◌+◌, ◌-◌, ◌*◌, ◌==◌, if◌then◌else◌, List, [], ◌∷◌, ◌++◌, length, filter}
use Rattle.std.specs.Prelude.{flat_map, codes, min, Option, Some, None}
use Rattle.std.specs.List.{range_with_len}
use Rattle.std.specs.Fmt.{decimal}
use Rattle.sd_tree_keys.specs.Leaves.{leaves}
use Rattle.sd_site_cards.specs.SiteFields.{SiteFields}
use Rattle.sd_book.specs.declared.command.Command.{Command}
use Rattle.sd_book.specs.declared.command.Command.TheVariants.{Subscribe, Revoke}
use Rattle.sd_book.specs.Commands.{commands_until, is_revoked, last_period, revoked_after}
use Rattle.sd_book.specs.Text.{book_command_line}
use Rattle.sd_run_books.specs.Apart.{differ}

-- the line of a period, with the first clear packet that is of it and the number of revoked receivers
unfoldable pub chain_period_text : ℕ → ℕ → ℕ → List ℕ
chain_period_text q packet revoked =
    codes "period "
    ++ (decimal q
    ++ (codes " packet " ++ (decimal packet ++ (codes " revoked " ++ (decimal revoked ++ codes "\n")))))

-- the receivers that are revoked after one book's commands alone, ascending
abbrev pub changed : ℕ → List Command → List Command → List ℕ
changed d before now = filter (λ u. differ (is_revoked before u) (is_revoked now u)) (leaves d)

-- the least number of two ascending lists
abbrev pub least_leaf : List ℕ → List ℕ → Option ℕ
least_leaf [] [] = None
least_leaf (u ∷ us) [] = Some u
least_leaf [] (v ∷ vs) = Some v
least_leaf (u ∷ us) (v ∷ vs) = Some (min u v)

-- the line of a receiver that changes
unfoldable pub change_text : List Command → ℕ → List ℕ
change_text now u = book_command_line (if is_revoked now u then Revoke u else Subscribe u) ++ 10 ∷ []

-- the first clear packet of period q, if the control words suffice [this project, docs/FORMATS.md, Chains of sites]
abbrev pub first_packet_of : SiteFields → ℕ → ℕ
first_packet_of site q = (q - site.first_period) * site.span * site.cryptos * site.every

-- the lines of period q, which these commands decide, and of the receivers that change against those commands
unfoldable pub told_of_period : SiteFields → ℕ → List Command → List Command → List ℕ
told_of_period site q before now =
    chain_period_text q (first_packet_of site q) (length (revoked_after site.height now))
    ++ flat_map (change_text now) (changed site.height before now)

-- the commands that period q of a book is told against: those of the period before, or those of the old book at the
-- site's first period
abbrev pub commands_told_before : SiteFields → List Command → List Command → ℕ → List Command
commands_told_before site own commands q =
    if q == site.first_period then own else commands_until (q - 1) commands

-- the lines of period q of a book
abbrev pub told_at : SiteFields → List Command → List Command → ℕ → List ℕ
told_at site own commands q = told_of_period site q (commands_told_before site own commands q)
    (commands_until q commands)

-- the periods that are told of a site: from its first one to the last one of its book, or the first one alone
abbrev pub told_periods : SiteFields → List Command → List ℕ
told_periods site commands = range_with_len site.first_period (last_period commands - site.first_period + 1)

-- what is printed of a new site: the lines of its periods [this project, docs/FORMATS.md, Chains of sites]
unfoldable pub told_next : SiteFields → List Command → List Command → List ℕ
told_next site own commands = flat_map (told_at site own commands) (told_periods site commands)
