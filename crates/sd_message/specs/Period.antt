-- Public meaning: all sections of a period's entitlements.
use Rattle.std.specs.Prelude.{◌≡◌, ℕ, ◌^◌, ◌<◌, ◌≤◌, List, length, Option, IfSome}
use Rattle.sd_tree_keys.specs.SetNames.{AreAscending}
use Rattle.sd_message.specs.EmmSpelled.{names_in}
use Rattle.sd_message.specs.EmmForm.{sections_for, AreWrapped, most_entries}
use Rattle.sd_message.specs.EmmFields.{padded_entries}
use Rattle.sd_message.specs.declared.emm.Entry.{Entry}
use Rattle.sd_message.specs.declared.emm.Emm.{Emm}
use Rattle.sd_message.specs.Pieces.{piece_at, each_below}

-- what a period's sections say: the broadcast's name, where they tell it, the period's number, the check value of its
-- key, and all of its sets, each with the wrapped key
pub record Period : Type 0 where
  pub run : Option ℕ
  pub number : ℕ
  pub check : List ℕ
  pub entries : List Entry

-- the entries of section x: the sets 3x, 3x + 1 and 3x + 2, as far as they are there [this project, docs/FORMATS.md,
-- Messages]
abbrev pub entries_at : List Entry → ℕ → List Entry
entries_at entries x = piece_at most_entries entries x

-- section x of the period [this project, docs/FORMATS.md, Messages]
unfoldable pub emm_at : Period → ℕ → Emm
emm_at period x = record {
  period = period.number;
  sets = length period.entries;
  sections = sections_for (length period.entries);
  index = x;
  check = period.check;
  run = period.run;
  count = length (entries_at period.entries x);
  entries = padded_entries (entries_at period.entries x);
}

-- all sections of the period, section 0 first [this project, docs/FORMATS.md, Messages]
unfoldable pub emms_of : Period → List Emm
emms_of period = each_below (emm_at period) (sections_for (length period.entries))

-- the sets are strictly ascending and no more than a cover has, and what the period says fits the fields of its
-- sections [this project, docs/FORMATS.md, Messages]
pub record IsPeriod (period : Period) : Type 0 where
  pub ascending : AreAscending (names_in period.entries)
  pub run : IfSome period.run (λ run. run < 2 ^ 32)
  pub number : period.number < 2 ^ 32
  pub check : length period.check ≡ 16
  pub sets : length period.entries ≤ 131071
  pub wrapped : AreWrapped period.entries

-- the section says of the period what each of its sections does
pub record IsOfPeriod (period : Period) (emm : Emm) : Type 0 where
  pub run : emm.run ≡ period.run
  pub number : emm.period ≡ period.number
  pub sets : emm.sets ≡ length period.entries
  pub sections : emm.sections ≡ sections_for (length period.entries)
  pub check : emm.check ≡ period.check

-- two sections say the same of a period
pub record SaysSame (a b : Emm) : Type 0 where
  pub period : a.period ≡ b.period
  pub sets : a.sets ≡ b.sets
  pub sections : a.sections ≡ b.sections
  pub check : a.check ≡ b.check
