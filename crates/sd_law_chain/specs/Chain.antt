-- Public meaning: sites that `next` and `twin` make one after the other, and what is sent with them
-- [this project, docs/FORMATS.md, Chains of sites].
use Rattle.std.specs.Prelude.{◌≡◌, ◌≢◌, ℕ, ◌+◌, ◌-◌, ◌<◌, ◌≤◌, true, List, [], ◌∷◌, length, get_or, slice_get, take}
use Rattle.std.specs.Prelude.{drop}
use Rattle.std.specs.Prelude.{Some, Ok, All, Contains, map}
use Rattle.sha2.specs.Sha256.{sha256}
use Rattle.sd_base.specs.Types.{Bytes, Packets, Leaves, PeriodNumber}
use Rattle.sd_ports.specs.Bytes.{IsPrefix}
use Rattle.sd_site_cards.specs.SiteFields.{SiteFields}
use Rattle.sd_site_cards.specs.Written.{IsSayable}
use Rattle.sd_site_cards.specs.Forms.{most_book_size}
use Rattle.sd_site_cards.specs.Chain.{most_word, next_site, twin_site}
use Rattle.sd_book.specs.declared.command.Command.{Command}
use Rattle.sd_book.specs.declared.command.Command.TheVariants.{Subscribe}
use Rattle.sd_book.specs.Commands.{commands_until, last_period}
use Rattle.sd_book.specs.Text.{book_of}
use Rattle.sd_spec.specs.Plan.{Plan}
use Rattle.sd_spec.specs.Refused.{IsSendable}
use Rattle.sd_law_broadcast.specs.Runs.{Run, HasWords}
use Rattle.sd_command_base.specs.Files.{ends_lines}
use Rattle.sd_run_books.specs.Chain.{commands_said, line_of_book}

-- a site and the bytes of its book, none without line 13
pub record Link : Type 0 where
  pub site : SiteFields
  pub book : Bytes

-- a call that made a site: `next` with the bytes of BOOK, or `twin`; and its number of control words
pub data Call : Type 0 where
  Next : (bytes : Bytes) (words : ℕ) → Call
  Twin : (words : ℕ) → Call

-- the first bytes of a text, as many as the link's book has: what `next` takes for the book of its SITE
abbrev pub own_bytes : Link → Bytes → Bytes
own_bytes link bytes = take (length link.book) bytes

-- the site that a call makes, and the book that it is for
abbrev pub made_by : Link → Call → Link
made_by link (Next bytes words) =
    record { site = next_site (last_period (commands_said (own_bytes link bytes))) words link.site; book = bytes }
made_by link (Twin words) = record { site = twin_site words link.site; book = link.book }

-- what the program compares: one text has the number of bytes and the digest of the other
abbrev pub IsLike : Bytes → Bytes → Type 0
IsLike x y = (length x ≡ length y) × (sha256 x ≡ sha256 y)

-- the text is empty or ends with a line feed
abbrev pub EndsLines : Bytes → Type 0
EndsLines bytes = ends_lines bytes ≡ true

-- so many control words are left above those of the site
abbrev pub AreWordsLeft : SiteFields → ℕ → Type 0
AreWordsLeft site words = (1 ≤ words) × (site.last_word + words ≤ most_word)

-- `next` from this site is not refused
pub record IsNextTaken (link : Link) (bytes : Bytes) (words : ℕ) : Type 0 where
  pub left : AreWordsLeft link.site words
  pub period : link.site.first_period < most_word
  pub size : length bytes ≤ most_book_size
  -- BOOK begins with the site's book, which ends with a line feed as BOOK does
  pub begins : IsLike (own_bytes link bytes) link.book
  pub own_ends : EndsLines (own_bytes link bytes)
  pub ends : EndsLines bytes
  -- each line is a command of a book for the site's tree
  pub book : book_of link.site.height bytes ≡ Ok (commands_said bytes)

-- the call is not refused
abbrev pub IsTaken : Link → Call → Type 0
IsTaken link (Next bytes words) = IsNextTaken link bytes words
IsTaken link (Twin words) = AreWordsLeft link.site words

-- the number of control words that the call asks for
abbrev pub words_asked : Call → ℕ
words_asked (Next bytes words) = words
words_asked (Twin words) = words

-- the first eight lines of the two sites say the same: they are of one tree, one master and one channel
pub record AreOneSet (a b : SiteFields) : Type 0 where
  pub height : a.height ≡ b.height
  pub master : a.master ≡ b.master
  pub ca : a.ca ≡ b.ca
  pub emm : a.emm ≡ b.emm
  pub ecm : a.ecm ≡ b.ecm
  pub every : a.every ≡ b.every
  pub cryptos : a.cryptos ≡ b.cryptos
  pub span : a.span ≡ b.span

-- a first site, and those that calls make one after the other
abbrev pub chain : Link → List Call → List Link
chain link [] = link ∷ []
chain link (call ∷ calls) = link ∷ chain (made_by link call) calls

-- none of the calls is refused
abbrev pub AreTaken : Link → List Call → Type 0
AreTaken link [] = Unit {0}
AreTaken link (call ∷ calls) = IsTaken link call × AreTaken (made_by link call) calls

-- a site file can say the first site, and each call makes the site after it
pub record IsChain (root : Link) (calls : List Call) : Type 0 where
  pub first : IsSayable root.site (line_of_book root.book)
  pub taken : AreTaken root calls

-- the site of number n with its book, the first one being number 0
unfoldable pub link_at : Link → List Call → ℕ → Link
link_at root calls n = get_or (chain root calls) n root

abbrev pub site_at : Link → List Call → ℕ → SiteFields
site_at root calls n = (link_at root calls n).site

abbrev pub chain_book : Link → List Call → ℕ → Bytes
chain_book root calls n = (link_at root calls n).book

-- what a broadcast of site n with its own book is planned by
abbrev pub plan_at : Link → List Call → ℕ → Plan
plan_at root calls n = record { site = site_at root calls n; commands = commands_said (chain_book root calls n) }

-- site n was made by a `next` with this BOOK
abbrev pub IsNextAt : List Call → ℕ → Bytes → Type 0
IsNextAt calls n bytes = (words : ℕ) × (1 ≤ n) × (slice_get calls (n - 1) ≡ Some (Next bytes words))

-- a broadcast: the number of its site, the bytes of its book, and the clear packets that its head end took
pub record OnAir : Type 0 where
  pub number : ℕ
  pub book : Bytes
  pub clear : Packets

-- what is sent is planned by the site and the book
abbrev pub chain_plan : Link → List Call → OnAir → Plan
chain_plan root calls air = record { site = site_at root calls air.number; commands = commands_said air.book }

abbrev pub chain_run : Link → List Call → OnAir → Run
chain_run root calls air = record { plan = chain_plan root calls air; clear = air.clear }

-- the book is not refused, and each packet can be sent
pub record IsChainOnAir (root : Link) (calls : List Call) (air : OnAir) : Type 0 where
  pub there : air.number ≤ length calls
  -- each site that a call made has a control word; it is asked of the first one
  pub words : HasWords (site_at root calls air.number)
  pub book : IsLike air.book (chain_book root calls air.number)
  pub commands : book_of root.site.height air.book ≡ Ok (commands_said air.book)
  pub sendable : IsSendable (site_at root calls air.number) air.clear

-- the operator's duty: each site is for one broadcast
abbrev pub HaveOwnSites : List OnAir → Type 0
HaveOwnSites airs = (i j : ℕ) (a b : OnAir) → slice_get airs i ≡ Some a → slice_get airs j ≡ Some b → i < j →
    a.number ≢ b.number

-- each `next` got a book that begins with that of its site
abbrev pub HaveGrown : Link → List Call → Type 0
HaveGrown root calls = (n : ℕ) (bytes : Bytes) → IsNextAt calls n bytes → IsPrefix (chain_book root calls (n - 1)) bytes

-- what was compared was equal: each `next` got a book that grew, and each broadcast its site's own
pub record AreTrue (root : Link) (calls : List Call) (airs : List OnAir) : Type 0 where
  pub grown : HaveGrown root calls
  pub own : All (λ air. air.book ≡ chain_book root calls air.number) airs

-- the broadcasts of a chain whose books are true
pub record IsTrueChain (root : Link) (calls : List Call) (airs : List OnAir) : Type 0 where
  pub chain : IsChain root calls
  pub sent : All (IsChainOnAir root calls) airs
  pub sites : HaveOwnSites airs
  pub books : AreTrue root calls airs

-- two texts of one length and one digest
pub record IsCollision (x y : Bytes) : Type 0 where
  pub other : x ≢ y
  pub like : IsLike x y

-- one of the pairs that were compared is a collision
pub data Collides (root : Link) (calls : List Call) (airs : List OnAir) : Type 0 where
  grown : (n : ℕ) (bytes : Bytes) → IsNextAt calls n bytes →
      IsCollision (own_bytes (link_at root calls (n - 1)) bytes) (chain_book root calls (n - 1)) →
      Collides root calls airs
  sent : (air : OnAir) → Contains airs air → IsCollision air.book (chain_book root calls air.number) →
      Collides root calls airs

-- the runs of broadcasts of a chain
abbrev pub runs_of : Link → List Call → List OnAir → List Run
runs_of root calls airs = map (chain_run root calls) airs

-- behind the commands that decide period q of a book, that of the broadcast subscribes none of the leaves
abbrev pub KeepsOut : Leaves → PeriodNumber → List Command → OnAir → Type 0
KeepsOut leaves q commands air =
    All (λ u. ¬ Contains (drop (length (commands_until q commands)) (commands_said air.book)) (Subscribe u)) leaves
