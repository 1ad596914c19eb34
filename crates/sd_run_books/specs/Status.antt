-- Public meaning: `status SITE BOOK LEAF` [this project, docs/FORMATS.md, Status].
use Rattle.std.specs.Prelude.{ℕ, ◌-◌, ◌^◌, ◌==◌, ◌||◌, nat_lt, Bool, true, false, if◌then◌else◌, List, ◌++◌, codes}
use Rattle.std.specs.Prelude.{filter}
use Rattle.std.specs.Prelude.{flat_map, Option, Result, Ok, Err}
use Rattle.std.specs.Fmt.{decimal}
use Rattle.hex.specs.Hex.{encode_lower}
use Rattle.sd_site_cards.specs.SiteFields.{SiteFields}
use Rattle.sd_book.specs.declared.command.Command.{Command}
use Rattle.sd_book.specs.Commands.{revoked}
use Rattle.sd_command_base.specs.declared.status.Status.{Status as Answer}
use Rattle.sd_command_base.specs.declared.status.Status.TheVariants.{BadWord}
use Rattle.sd_command_base.specs.Spec.{Spec, FileArgument, Readings, of_result, value, ◌>>=◌}
use Rattle.sd_command_base.specs.Work.{Work, work_of_text}
use Rattle.sd_command_base.specs.Shown.{NumberArgument}
use Rattle.sd_command_base.specs.Files.{site_of_file, book_in}
use Rattle.sd_run_books.specs.Apart.{differ}
use Rattle.sd_run_books.specs.Report.{is_active}
use Rattle.sd_run_books.specs.Told.{told_periods}
use Rattle.sd_run_books.specs.Fingerprint.{fingerprint_of}

-- receiver u is entitled in period q of a book: it isn't revoked in it
abbrev pub is_entitled : ℕ → List Command → ℕ → ℕ → Bool
is_entitled d commands u q = is_active (revoked d commands q) u

-- period q is the first one, or this differs from what it is in the period before
abbrev pub is_change : ℕ → (ℕ → Bool) → ℕ → Bool
is_change first entitled q = (q == first) || differ (entitled (q - 1)) (entitled q)

-- the periods that are printed, ascending: the site's first one, and each later one, up to the book's last, in which it
-- changes whether receiver u is entitled
unfoldable pub change_periods : SiteFields → List Command → ℕ → List ℕ
change_periods site commands u =
    filter (is_change site.first_period (is_entitled site.height commands u)) (told_periods site commands)

-- how the line of a period ends
abbrev pub entitled_end : Bool → List ℕ
entitled_end true = codes " entitled\n"
entitled_end false = codes " revoked\n"

-- the line of period q and receiver u
unfoldable pub entitled_line : ℕ → Bool → ℕ → List ℕ
entitled_line u entitled q =
    codes "period " ++ (decimal q ++ (codes " receiver " ++ (decimal u ++ entitled_end entitled)))

-- the line of the fingerprint of a master
unfoldable pub fingerprint_line : List ℕ → List ℕ
fingerprint_line master = codes "master " ++ (encode_lower (fingerprint_of master) ++ codes "\n")

-- the lines of the periods
abbrev pub change_lines : SiteFields → List Command → ℕ → List ℕ
change_lines site commands u =
    flat_map (λ q. entitled_line u (is_entitled site.height commands u q) q) (change_periods site commands u)

-- all lines for receiver u
unfoldable pub status_text : SiteFields → List Command → ℕ → List ℕ
status_text site commands u = fingerprint_line site.master ++ change_lines site commands u

-- the site, whose tree must have a leaf of this number
abbrev pub told_tree : NumberArgument → SiteFields → Result SiteFields Answer
told_tree leaf site = if nat_lt leaf.value (2 ^ site.height) then Ok site else Err (BadWord leaf.word)

-- the site of what the file of this word gave
abbrev pub tree_of_file : ℕ → NumberArgument → Option (List ℕ) → Spec SiteFields
tree_of_file word leaf got = site_of_file word got >>= λ site. of_result (told_tree leaf site)

-- the work that the words and the two files say
abbrev pub status_meaning : FileArgument → FileArgument → NumberArgument → Readings → Spec Work
status_meaning site book leaf given = do
  fields ← tree_of_file site.number leaf (given site)
  commands ← book_in given fields.height book
  value (work_of_text (status_text fields commands leaf.value))
