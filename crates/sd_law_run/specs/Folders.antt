-- Public meaning: a folder with a chain of sites, and what a run leaves of it [this project, docs/FORMATS.md, Chains of
-- sites].
use Rattle.std.specs.Prelude.{◌≡◌, ◌≢◌, ◌⊎◌, ℕ, ◌+◌, ◌<◌, ◌≤◌, List, [], ◌∷◌, ◌++◌, length, unwrap_or, Option, Some}
use Rattle.std.specs.Prelude.{None, Ok}
use Rattle.std.specs.FinMap.{get}
use Rattle.std.specs.Fmt.{decimal}
use Rattle.sd_base.specs.Types.{Bytes, FileName}
use Rattle.sd_base.specs.Number.{decimal_value}
use Rattle.sd_ports.specs.Files.{Files}
use Rattle.sd_ports.specs.Bytes.{IsPrefix}
use Rattle.sd_site_cards.specs.Written.{is_first_site, site_text}
use Rattle.sd_site_cards.specs.Chain.{most_word}
use Rattle.sd_command_base.specs.declared.status.Status.{Status}
use Rattle.sd_command_base.specs.declared.status.Status.TheVariants.{Done}
use Rattle.sd_run_books.specs.SiteNames.{after_number, before_number, digits_in}
use Rattle.sd_run_books.specs.Chain.{line_of_book}
use Rattle.sd_command_line.specs.declared.command.Command.TheVariants as commands
use Rattle.sd_command_line.specs.Words.{Argument, CommandOf, command_in, file, number, order_of}
use Rattle.sd_law_chain.specs.Chain.{Call, IsChain, IsTaken, Link, Next, Twin, link_at, made_by}
use Rattle.sd_law_chain.specs.Made.{IsFileOf}
use Rattle.sd_law_run.specs.Outcome.{out_name, used_by}

-- the last number of a name, if it has one
abbrev pub last_number_in : FileName → ℕ
last_number_in name = unwrap_or (decimal_value (digits_in name)) 0

-- the name with its last number so much higher
unfoldable pub site_name_at : FileName → ℕ → FileName
site_name_at name i = before_number name ++ (decimal (last_number_in name + i) ++ after_number name)

-- a site that is so many links behind the first one has a name
abbrev pub HasName : FileName → ℕ → Type 0
HasName name i = last_number_in name + i ≤ most_word

-- the file of a link: all lines of its site, with its book
abbrev pub text_of_link : Link → Bytes
text_of_link link = site_text link.site (line_of_book link.book)

-- What the files have whose names follow the name of a chain's first site: that site, those that the calls made one
-- after the other, one thing above them, and nothing above that
pub record HoldsChain (files : Files) (name : FileName) (root : Link) (calls : List Call) (above : Option Bytes) :
    Type 0 where
  pub is_chain : IsChain root calls
  pub numbered : decimal_value (digits_in name) ≡ Some (last_number_in name)
  pub named : HasName name (length calls)
  pub bytes : Bytes
  pub there : get files name ≡ Some bytes
  pub first : IsFileOf is_first_site root bytes
  pub made : (i : ℕ) → 1 ≤ i → i ≤ length calls →
      get files (site_name_at name i) ≡ Some (text_of_link (link_at root calls i))
  pub next : HasName name (length calls + 1) → get files (site_name_at name (length calls + 1)) ≡ above
  pub free : (i : ℕ) → length calls + 1 < i → HasName name i → get files (site_name_at name i) ≡ None

-- a folder with a chain of sites: the first one has this name, and no file has the name that is to come next
abbrev pub IsFolder : Files → FileName → Link → List Call → Type 0
IsFolder files name root calls = HoldsChain files name root calls None

-- a folder with a chain of sites, and above them a torn one: a proper prefix of the file that a call was to make
pub record IsTorn (files : Files) (name : FileName) (root : Link) (calls : List Call) : Type 0 where
  pub torn : Bytes
  pub holds : HoldsChain files name root calls (Some torn)
  pub named : HasName name (length calls + 1)
  pub call : Call
  pub taken : IsTaken (link_at root calls (length calls)) call
  pub prefix : IsPrefix torn (text_of_link (made_by (link_at root calls (length calls)) call))
  pub proper : torn ≢ text_of_link (made_by (link_at root calls (length calls)) call)

-- the arguments are those of `next` or `twin`
abbrev pub MakeSites : List Bytes → Type 0
MakeSites words = (command_in words ≡ Some commands.Next) ⊎ (command_in words ≡ Some commands.Twin)

-- neither OUT, unless `next` or `twin` makes it, nor the mark of `air` has one of the names of a chain's sites
abbrev pub SparesNames : FileName → List Bytes → Type 0
SparesNames name words = (i : ℕ) → HasName name i → (¬ MakeSites words → out_name words ≢ Some (site_name_at name i))
    × (used_by words ≢ Some (site_name_at name i))

-- the arguments ask for this call of a chain, with the BOOK that these files have
abbrev pub AsksFor : List Bytes → Files → Call → Type 0
AsksFor words files (Next bytes count) =
    (arguments : List Argument) × (order_of words ≡ Ok (CommandOf commands.Next arguments))
    × (get files (file 2 arguments).text ≡ Some bytes) × ((number 3 arguments).value ≡ count)
AsksFor words files (Twin count) =
    (arguments : List Argument) × (order_of words ≡ Ok (CommandOf commands.Twin arguments))
    × ((number 2 arguments).value ≡ count)

-- a run leaves the chain as it was; or a site longer, or with a torn site above it, by the call that it asked for. No
-- run that is done leaves a torn site
pub data FolderOutcome (words : List Bytes) (answer : Status) (files now : Files) (name : FileName) (root : Link)
    (calls : List Call) : Type 0 where
  kept : IsFolder now name root calls → FolderOutcome words answer files now name root calls
  longer : (call : Call) → AsksFor words files call → IsFolder now name root (calls ++ call ∷ []) →
      FolderOutcome words answer files now name root calls
  torn : answer ≢ Done → (is : IsTorn now name root calls) → AsksFor words files is.call →
      FolderOutcome words answer files now name root calls
