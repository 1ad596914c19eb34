-- Public meaning: `apart SITE BOOK SITE BOOK` [this project, docs/FORMATS.md, Apart].
use Rattle.std.specs.Prelude.{ℕ, ◌+◌, ◌-◌, ◌^◌, ◌==◌, nat_lt, nat_le, not, ◌&&◌, min, max, find, List, [], ◌∷◌, ◌++◌}
use Rattle.std.specs.Prelude.{Bool, true, false, Option, Some, None, Result, Ok, Err, bytes_eq, codes}
use Rattle.std.specs.Option.{option_map, option_or}
use Rattle.std.specs.List.{range_with_len}
use Rattle.std.specs.Fmt.{decimal}
use Rattle.sd_site_cards.specs.SiteFields.{SiteFields}
use Rattle.sd_book.specs.Commands.{commands_until, is_revoked}
use Rattle.sd_spec.specs.Plan.{Plan, period_in}
use Rattle.sd_command_base.specs.declared.status.Status.{Status}
use Rattle.sd_command_base.specs.declared.status.Status.TheVariants.{Clash}
use Rattle.sd_command_base.specs.declared.status.Clash.{Clash as ClashKind}
use Rattle.sd_command_base.specs.declared.status.Clash.TheVariants.{Heights, Masters, NoWords, SharedWord, Books}
use Rattle.sd_command_base.specs.Spec.{Spec, FileArgument, Readings, of_result, value, ◌>>=◌}
use Rattle.sd_command_base.specs.Work.{Work, work_of_text}
use Rattle.sd_command_base.specs.Both.{SiteBook, both_meaning}

-- the last period that a broadcast may use, whatever its stream is: that of the last control word of its range
abbrev pub last_due : Plan → ℕ
last_due plan = period_in plan (plan.site.last_word - plan.site.first_word)

-- the first period that broadcasts of both may use, and how many from there on
abbrev pub first_shared : Plan → Plan → ℕ
first_shared a b = max a.site.first_period b.site.first_period

abbrev pub shared_count : Plan → Plan → ℕ
shared_count a b = min (last_due a) (last_due b) + 1 - first_shared a b

-- the periods that broadcasts of both may use
abbrev pub due_in_both : Plan → Plan → List ℕ
due_in_both a b = range_with_len (first_shared a b) (shared_count a b)

-- one of two tests says yes alone
abbrev pub differ : Bool → Bool → Bool
differ false other = other
differ true other = not other

-- the least number below n of which one of two tests says yes alone
abbrev pub first_differing : (ℕ → Bool) → (ℕ → Bool) → ℕ → Option ℕ
first_differing one other n = find (λ u. differ (one u) (other u)) (range_with_len 0 n)

-- the first receiver that one book alone revokes in period q
abbrev pub differing_in : Plan → Plan → ℕ → Option ℕ
differing_in a b q =
    first_differing (is_revoked (commands_until q a.commands)) (is_revoked (commands_until q b.commands))
    (2 ^ a.site.height)

abbrev pub clash_in : Plan → Plan → ℕ → Option ClashKind
clash_in a b q = option_map (λ u. Books u q) (differing_in a b q)

-- the first clash in some periods
abbrev pub first_of : (ℕ → Option ClashKind) → List ℕ → Option ClashKind
first_of clash [] = None
first_of clash (q ∷ qs) = option_or (clash q) (first_of clash qs)

-- why two books don't agree on the periods of both
unfoldable pub books_clash : Plan → Plan → Option ClashKind
books_clash a b = first_of (clash_in a b) (due_in_both a b)

-- this clash where the test holds, else the next one
abbrev pub clash_where : Bool → ClashKind → Option ClashKind → Option ClashKind
clash_where true clash next = Some clash
clash_where false clash next = next

-- the greater of two first control words is in both ranges
abbrev pub shares_word : SiteFields → SiteFields → Bool
shares_word a b =
    nat_le (max a.first_word b.first_word) a.last_word && nat_le (max a.first_word b.first_word) b.last_word

-- why two sites don't go together
unfoldable pub sites_clash : SiteFields → SiteFields → Option ClashKind
sites_clash a b =
    clash_where (not (a.height == b.height)) Heights
    (clash_where (not (bytes_eq a.master b.master)) Masters
    (clash_where (nat_lt a.last_word a.first_word) (NoWords 1)
    (clash_where (nat_lt b.last_word b.first_word) (NoWords 2)
    (clash_where (shares_word a b) (SharedWord (max a.first_word b.first_word)) None))))

-- why two broadcasts may not go out under one set of cards
abbrev pub plan_clash : Plan → Plan → Option ClashKind
plan_clash a b = option_or (sites_clash a.site b.site) (books_clash a b)

-- the line of a site: its control words, and the periods that a broadcast of it may use
unfoldable pub apart_site_line : ℕ → ℕ → ℕ → ℕ → ℕ → List ℕ
apart_site_line number first_word last_word first_period last_period =
    codes "site "
    ++ (decimal number
    ++ (codes " words "
    ++ (decimal first_word
    ++ (codes " to "
    ++ (decimal last_word
    ++ (codes " periods " ++ (decimal first_period ++ (codes " to " ++ (decimal last_period ++ codes "\n")))))))))

abbrev pub apart_line : ℕ → Plan → List ℕ
apart_line number plan =
    apart_site_line number plan.site.first_word plan.site.last_word plan.site.first_period (last_due plan)

-- both lines
abbrev pub apart_text : Plan → Plan → List ℕ
apart_text a b = apart_line 1 a ++ apart_line 2 b

-- the lines, if the two may go out under one set of cards
abbrev pub told_clash : Option ClashKind → List ℕ → Result (List ℕ) Status
told_clash None text = Ok text
told_clash (Some clash) text = Err (Clash clash)

unfoldable pub told_apart : Plan → Plan → Result (List ℕ) Status
told_apart a b = told_clash (plan_clash a b) (apart_text a b)

abbrev pub plan_of_both : SiteBook → Plan
plan_of_both both = record { site = both.site; commands = both.commands }

-- the work that the words and the four files say
abbrev pub apart_meaning : FileArgument → FileArgument → FileArgument → FileArgument → Readings → Spec Work
apart_meaning site book other more given = do
  first ← both_meaning site book given
  second ← both_meaning other more given
  text ← of_result (told_apart (plan_of_both first) (plan_of_both second))
  value (work_of_text text)
