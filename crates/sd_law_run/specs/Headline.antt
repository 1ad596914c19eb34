-- Public meaning: the headline in three parts: the results of `head`, of `card` and of `receive`, each a run by itself.
use Rattle.std.specs.Prelude.{◌≡◌, ◌≢◌, ◌+◌, ◌-◌, ◌*◌, ◌≤◌, List, [], ◌∷◌, codes, length, map, Option, Some}
use Rattle.std.specs.FinMap.{get}
use Rattle.std.specs.List.{concat}
use Rattle.std.specs.Option.{option_and_then}
use Rattle.std.specs.Io.KnownBytes.{Appends}
use Rattle.sd_base.specs.Types.{Bytes, FileName, Packets, LeafNumber, PeriodNumber}
use Rattle.sd_base.specs.Count.{HasNotRisen}
use Rattle.sd_tree_keys.specs.Names.{names_of_receiver}
use Rattle.sd_site_cards.specs.SiteFields.{SiteFields}
use Rattle.sd_site_cards.specs.Secrets.{secret_of}
use Rattle.sd_site_cards.specs.Files.{file_bytes}
use Rattle.sd_site_cards.specs.CardFields.{card_head}
use Rattle.sd_engine.specs.Taken.{packets_taken}
use Rattle.sd_spec.specs.Plan.{Plan, period_of}
use Rattle.sd_spec.specs.Sent.{broadcast}
use Rattle.sd_law_broadcast.specs.Named.{sets_named, NamesPeriod}
use Rattle.sd_law_losses.specs.Confirmed.{opened_by}
use Rattle.sd_law_losses.specs.Endings.{first_revoked}
use Rattle.sd_command_base.specs.declared.status.Status.{Status}
use Rattle.sd_command_base.specs.declared.status.Status.TheVariants.{Done, NoMemory}
use Rattle.sd_command_base.specs.Outside.{IoState}
use Rattle.sd_law_run.specs.Good.{IsGoodSite, IsGoodBook, IsGoodClear, IsOwnBook}
use Rattle.sd_law_run.specs.Opened.{unrevoked_periods, revoked_status, revoked_text}

-- the names of the files
pub record Names : Type 0 where
  pub site : FileName
  pub book : FileName
  pub clear : FileName
  pub stream : FileName
  pub card : FileName
  pub out : FileName

-- `head SITE BOOK CLEAR STREAM` [this project, docs/FORMATS.md, Commands]
abbrev pub head_run : Names → List Bytes
head_run names = codes "head" ∷ names.site ∷ names.book ∷ names.clear ∷ names.stream ∷ []

-- `card SITE LEAF CARD` [this project, docs/FORMATS.md, Commands]
abbrev pub card_run : Names → Bytes → List Bytes
card_run names leaf = codes "card" ∷ names.site ∷ leaf ∷ names.card ∷ []

-- `receive CARD STREAM OUT` [this project, docs/FORMATS.md, Commands]
abbrev pub receive_run : Names → List Bytes
receive_run names = codes "receive" ∷ names.card ∷ names.stream ∷ names.out ∷ []

-- the bytes of the file of that name, if it is there and the model knows the file system's contents
abbrev pub file_in : IoState → FileName → Option Bytes
file_in at name = option_and_then (λ files. get files name) at.place.files

-- SITE, BOOK and CLEAR are a site, its own book and a clear stream, all within their limits
pub record AreGiven (at : IoState) (names : Names) (plan : Plan) (packets : Packets) : Type 0 where
  pub site : IsGoodSite (file_in at names.site) plan.site
  pub book : IsGoodBook (file_in at names.book) plan.site.height plan.commands
  pub own : IsOwnBook site book
  pub clear : IsGoodClear (file_in at names.clear) plan.site packets

-- no I/O error occurred, and memory sufficed
pub record IsUndisturbed (a b : IoState) (answer : Status) : Type 0 where
  pub depot : HasNotRisen a.place.faults b.place.faults
  pub print : HasNotRisen a.page.faults b.page.faults
  pub memory : answer ≢ NoMemory

-- the card of leaf u as a file: its head, the secrets of the names that the leaf is given, and the check value of both
-- [Naor, Naor, Lotspiech 2001, 3.2; this project, docs/FORMATS.md, Card]
abbrev pub card_file_for : SiteFields → LeafNumber → Bytes
card_file_for site u = file_bytes (card_head site.height u site.ca) (map (secret_of site.master)
    (names_of_receiver site.height u))

-- The result of `head SITE BOOK CLEAR STREAM`.
pub record HeadResult (names : Names) (plan : Plan) (clear : Packets) (a b : IoState) (answer : Status) : Type 0
  where
    pub done : answer ≡ Done
    -- STREAM is the broadcast: its packets, one after the other
    pub sent_is : file_in b names.stream ≡ Some (concat (broadcast plan clear))
    -- each of its periods names, in the bytes of STREAM, disjoint sets that unite to exactly the leaves that aren't
    -- revoked. It is one set if none is, and at most 2r - 1 sets if r > 0 are. No label or key of a named set is
    -- derivable from what a revoked leaf is given
    pub periods : (q : PeriodNumber) → plan.site.first_period ≤ q → q ≤ period_of plan (length clear - 1) →
        NamesPeriod plan q (sets_named plan.site.height plan.site.emm q (packets_taken (concat (broadcast plan clear))))
    -- all other files are as they were
    pub others : (name : FileName) → name ≢ names.stream → file_in b name ≡ file_in a name
    -- nothing more is printed
    pub silent : Appends a.page.printed b.page.printed []

-- The result of `card SITE LEAF CARD`.
pub record CardResult (names : Names) (site : SiteFields) (u : LeafNumber) (a b : IoState) (answer : Status) : Type 0
  where
    pub done : answer ≡ Done
    -- CARD is the card of the leaf
    pub card_is : file_in b names.card ≡ Some (card_file_for site u)
    pub others : (name : FileName) → name ≢ names.card → file_in b name ≡ file_in a name
    -- nothing more is printed
    pub silent : Appends a.page.printed b.page.printed []

-- The result of `receive CARD STREAM OUT`, if CARD is the card of leaf u and STREAM is the broadcast.
pub record ReceiveResult (names : Names) (plan : Plan) (u : LeafNumber) (clear : Packets) (a b : IoState)
    (answer : Status) : Type 0 where
  -- OUT is the clear packets of the periods in which the leaf isn't revoked, and no others
  pub written : file_in b names.out ≡ Some (concat (opened_by plan u clear))
  -- the answer is `Done`, or names the leaf as revoked and the first period in which it is
  pub ends : answer ≡ revoked_status u (first_revoked plan u clear)
  -- at most as many steps of the generator as the tree is high, for each period in which the leaf isn't revoked
  pub steps : b.steps ≤ a.steps + plan.site.height * unrevoked_periods plan u clear
  pub others : (name : FileName) → name ≢ names.out → file_in b name ≡ file_in a name
  -- the line of the answer is printed, and nothing else: `Done` has no line, and a revoked leaf is named with its
  -- period
  pub told : Appends a.page.printed b.page.printed (revoked_text u (first_revoked plan u clear))
