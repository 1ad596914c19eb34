-- Public meaning: arguments and files that mean work: they are there, in their grammars and within their limits.
use Rattle.std.specs.Prelude.{◌≡◌, ℕ, List, Option, Some, Ok, ◌≤◌, [], ◌++◌, ◌+◌, length, None, ◌^◌, ◌<◌, ◌||◌, true}
use Rattle.sd_base.specs.Types.{Bytes, Packets, Height, Leaves}
use Rattle.sd_command_base.specs.Spec.{FileArgument, Readings}
use Rattle.sd_command_line.specs.Words.{SampleOf, order_of, ReceiveOf, CoverOf, CardOf, TablesOf, HeadOf}
use Rattle.sd_command_line.specs.Words.{AccountsOf, ApartOf, BookOf, LayeredOf, LcardOf, MessagesOf, OpensOf, PlanOf}
use Rattle.sd_command_line.specs.Words.{NextOf, ShowOf, TraceOf, TwinOf}
use Rattle.sd_engine.specs.Taken.{Whole, packets_taken, end_of}
use Rattle.sd_site_cards.specs.CardFields.{CardFields, IsCard, card_bytes}
use Rattle.sd_run_books.specs.Judged.{accounts_book}
use Rattle.sd_book.specs.declared.command.Command.{Command}
use Rattle.sd_site_cards.specs.SiteFields.{SiteFields}
use Rattle.sd_command_base.specs.Shown.{NumberArgument}
use Rattle.sd_spec.specs.Plan.{Plan}
use Rattle.sd_spec.specs.Refused.{whole_refusal}
use Rattle.sd_law_broadcast.specs.Synced.{AreBytes}
use Rattle.sd_site_cards.specs.Text.{IsSite, book_line_of}
use Rattle.sd_site_cards.specs.Written.{is_first_site, are_lines_whole}
use Rattle.sd_site_cards.specs.Chain.{most_word}
use Rattle.sd_site_cards.specs.declared.book_line.BookLine.{BookLine}
use Rattle.sd_command_base.specs.Text.{leaves_of_text}
use Rattle.sd_cover_tracing.specs.Trace.{not_among}
use Rattle.sd_tree_keys.specs.Limits.{most_revoked}
use Rattle.sd_run_books.specs.Air.{last_word_for}
use Rattle.sd_run_books.specs.Trace.{revoked_last}
use Rattle.sd_base.specs.Lines.{lines_of}
use Rattle.sd_book.specs.Text.{SpellsBook}
use Rattle.sd_book.specs.Limits.{IsWithinLimits}
use Rattle.sd_command_base.specs.Files.{begins_with_book, ends_lines, is_book, most_book_bytes}
use Rattle.sd_run_books.specs.Chain.{own_commands}
use Rattle.sd_run_books.specs.Next.{Origin}
use Rattle.sd_run_books.specs.SiteNames.{follows}

-- a file is there and a site, and says this
pub record IsGoodSite (got : Option Bytes) (fields : SiteFields) : Type 0 where
  pub bytes : Bytes
  pub there : got ≡ Some bytes
  pub is_site : IsSite bytes fields

-- a file is there and a book for a tree of height d, within the limits, and says these commands
pub record IsGoodBook (got : Option Bytes) (d : Height) (commands : List Command) : Type 0 where
  pub bytes : Bytes
  pub there : got ≡ Some bytes
  pub is_book : SpellsBook (lines_of bytes) commands
  pub within : IsWithinLimits d commands

-- the book is that of the site's line 13, if the site has one
abbrev pub IsOwnBook : {got more : Option Bytes} {fields : SiteFields} {commands : List Command} →
    IsGoodSite got fields → IsGoodBook more fields.height commands → Type 0
IsOwnBook site book = is_book (book_line_of site.bytes) book.bytes ≡ true

-- a file is there and a clear stream for a site: it ends whole, its packets are these, and it is not refused
pub record IsGoodClear (got : Option Bytes) (site : SiteFields) (clear : Packets) : Type 0 where
  pub bytes : Bytes
  pub there : got ≡ Some bytes
  -- each number of a file is a byte's
  pub are_bytes : AreBytes bytes
  pub whole : end_of bytes ≡ Whole
  pub packets : packets_taken bytes ≡ clear
  pub is_clear : whole_refusal site clear ≡ None

-- the arguments are `cover SITE BOOK`, and the two files are there, in their grammars and within their limits
pub record IsGoodCover (words : List Bytes) (given : Readings) : Type 0 where
  pub site : FileArgument
  pub book : FileArgument
  pub order : order_of words ≡ Ok (CoverOf site book)
  pub fields : SiteFields
  pub good_site : IsGoodSite (given site) fields
  pub commands : List Command
  pub good_book : IsGoodBook (given book) fields.height commands

-- the arguments are `card SITE LEAF OUT`, the file is there and a site, and its tree has the leaf
pub record IsGoodCard (words : List Bytes) (given : Readings) : Type 0 where
  pub site : FileArgument
  pub leaf : NumberArgument
  pub out : FileArgument
  pub order : order_of words ≡ Ok (CardOf site leaf out)
  pub fields : SiteFields
  pub good_site : IsGoodSite (given site) fields
  pub of_tree : leaf.value < 2 ^ fields.height

-- the arguments are `sample NUMBER PACKETS OUT`
pub record IsGoodSample (words : List Bytes) : Type 0 where
  pub number : ℕ
  pub packets : ℕ
  pub out : FileArgument
  pub order : order_of words ≡ Ok (SampleOf number packets out)

-- the arguments are `tables STREAM`, and the file is there and nothing but packets, and no more than a stream has
pub record IsGoodTables (words : List Bytes) (given : Readings) : Type 0 where
  pub stream : FileArgument
  pub order : order_of words ≡ Ok (TablesOf stream)
  pub bytes : Bytes
  pub there : given stream ≡ Some bytes
  pub whole : end_of bytes ≡ Whole

-- the arguments are `messages SITE STREAM`, and the two files are there, the first a site, and the second nothing but
-- packets, and no more than a stream has
pub record IsGoodMessages (words : List Bytes) (given : Readings) : Type 0 where
  pub site : FileArgument
  pub stream : FileArgument
  pub order : order_of words ≡ Ok (MessagesOf site stream)
  pub fields : SiteFields
  pub good_site : IsGoodSite (given site) fields
  pub bytes : Bytes
  pub there : given stream ≡ Some bytes
  pub whole : end_of bytes ≡ Whole

-- the arguments are `show CARD`, and the file is there and a card
pub record IsGoodShow (words : List Bytes) (given : Readings) : Type 0 where
  pub card : FileArgument
  pub order : order_of words ≡ Ok (ShowOf card)
  pub fields : CardFields
  pub is_card : IsCard fields
  pub there : given card ≡ Some (card_bytes fields)

-- the arguments are `head SITE BOOK CLEAR OUT`, the files are there, a site, its own book and a stream that is not
-- refused
pub record IsGoodHead (words : List Bytes) (given : Readings) : Type 0 where
  pub site : FileArgument
  pub book : FileArgument
  pub clear : FileArgument
  pub out : FileArgument
  pub order : order_of words ≡ Ok (HeadOf site book clear out)
  pub fields : SiteFields
  pub good_site : IsGoodSite (given site) fields
  pub commands : List Command
  pub good_book : IsGoodBook (given book) fields.height commands
  pub own : IsOwnBook good_site good_book
  pub bytes : Bytes
  pub there : given clear ≡ Some bytes
  pub whole : end_of bytes ≡ Whole
  pub is_clear : whole_refusal fields (packets_taken bytes) ≡ None

-- the plan that they say
abbrev pub plan_told : {words : List Bytes} {given : Readings} → IsGoodHead words given → Plan
plan_told good = record { site = good.fields; commands = good.commands }

-- the arguments are `receive CARD STREAM OUT`, and the two files are there, the first a card within the limit
pub record IsGoodReceive (words : List Bytes) (given : Readings) : Type 0 where
  pub card : FileArgument
  pub stream : FileArgument
  pub out : FileArgument
  pub order : order_of words ≡ Ok (ReceiveOf card stream out)
  pub fields : CardFields
  pub is_card : IsCard fields
  pub card_there : given card ≡ Some (card_bytes fields)
  pub bytes : Bytes
  pub there : given stream ≡ Some bytes

-- the arguments are `accounts SITE ACCOUNTS OUT`, the two files are there, the first a site and the second within the
-- limit, and its lines make a book within the limits
pub record IsGoodAccounts (words : List Bytes) (given : Readings) : Type 0 where
  pub site : FileArgument
  pub accounts : FileArgument
  pub out : FileArgument
  pub order : order_of words ≡ Ok (AccountsOf site accounts out)
  pub fields : SiteFields
  pub good_site : IsGoodSite (given site) fields
  pub bytes : Bytes
  pub there : given accounts ≡ Some bytes
  pub short : length bytes ≤ most_book_bytes
  pub commands : List Command
  pub is_book : accounts_book fields.height bytes ≡ Ok commands

-- the arguments are `apart SITE BOOK SITE BOOK`, and the four files are good
pub record IsGoodApart (words : List Bytes) (given : Readings) : Type 0 where
  pub site : FileArgument
  pub book : FileArgument
  pub other : FileArgument
  pub more : FileArgument
  pub order : order_of words ≡ Ok (ApartOf site book other more)
  pub fields : SiteFields
  pub good_site : IsGoodSite (given site) fields
  pub commands : List Command
  pub good_book : IsGoodBook (given book) fields.height commands
  pub other_fields : SiteFields
  pub good_other : IsGoodSite (given other) other_fields
  pub more_commands : List Command
  pub good_more : IsGoodBook (given more) other_fields.height more_commands

-- the arguments are `book SITE BOOK COMMANDS OUT`, the three files are there, a site and two books, and the second
-- book's commands after the first's are within the limits
pub record IsGoodBooks (words : List Bytes) (given : Readings) : Type 0 where
  pub site : FileArgument
  pub book : FileArgument
  pub commands : FileArgument
  pub out : FileArgument
  pub order : order_of words ≡ Ok (BookOf site book commands out)
  pub fields : SiteFields
  pub good_site : IsGoodSite (given site) fields
  pub before : List Command
  pub good_book : IsGoodBook (given book) fields.height before
  pub added : List Command
  pub good_added : IsGoodBook (given commands) fields.height added
  pub within : IsWithinLimits fields.height (before ++ added)

-- the arguments are `layered SITE BOOK WIDTH`, the two files are good, and the width is 1 to the height
pub record IsGoodLayered (words : List Bytes) (given : Readings) : Type 0 where
  pub site : FileArgument
  pub book : FileArgument
  pub width : NumberArgument
  pub order : order_of words ≡ Ok (LayeredOf site book width)
  pub fields : SiteFields
  pub good_site : IsGoodSite (given site) fields
  pub some : 1 ≤ width.value
  pub within : width.value ≤ fields.height
  pub commands : List Command
  pub good_book : IsGoodBook (given book) fields.height commands

-- the arguments are `lcard SITE LEAF WIDTH OUT`, the file is there and a site, its tree has the leaf, and the width is
-- 1 to the height
pub record IsGoodLcard (words : List Bytes) (given : Readings) : Type 0 where
  pub site : FileArgument
  pub leaf : NumberArgument
  pub width : NumberArgument
  pub out : FileArgument
  pub order : order_of words ≡ Ok (LcardOf site leaf width out)
  pub fields : SiteFields
  pub good_site : IsGoodSite (given site) fields
  pub of_tree : leaf.value < 2 ^ fields.height
  pub some : 1 ≤ width.value
  pub within : width.value ≤ fields.height

-- the arguments are `plan SITE BOOK PACKETS PIDS`, the two files are good, and the site has a control word for each
-- packet
pub record IsGoodPlan (words : List Bytes) (given : Readings) : Type 0 where
  pub site : FileArgument
  pub book : FileArgument
  pub packets : NumberArgument
  pub pids : NumberArgument
  pub order : order_of words ≡ Ok (PlanOf site book packets pids)
  pub fields : SiteFields
  pub good_site : IsGoodSite (given site) fields
  pub room : last_word_for fields packets.value ≤ fields.last_word
  pub commands : List Command
  pub good_book : IsGoodBook (given book) fields.height commands

-- the word's file is there and within the limit, and says these leaves of a tree of height d, ascending
pub record IsGoodLeaves (given : Readings) (d : Height) (word : FileArgument) (leaves : Leaves) : Type 0 where
  pub bytes : Bytes
  pub there : given word ≡ Some bytes
  pub short : length bytes ≤ most_book_bytes
  pub are_leaves : leaves_of_text d bytes ≡ Ok leaves

-- the arguments are `opens SITE BOOK LEAVES`, and the three files are good
pub record IsGoodOpens (words : List Bytes) (given : Readings) : Type 0 where
  pub site : FileArgument
  pub book : FileArgument
  pub leaves : FileArgument
  pub order : order_of words ≡ Ok (OpensOf site book leaves)
  pub fields : SiteFields
  pub good_site : IsGoodSite (given site) fields
  pub commands : List Command
  pub good_book : IsGoodBook (given book) fields.height commands
  pub pooled : Leaves
  pub good_leaves : IsGoodLeaves given fields.height leaves pooled

-- the arguments are `trace SITE BOOK LEAVES`, the three files are good, and no more leaves are revoked in the last
-- period or of the coalition than may be revoked
pub record IsGoodTrace (words : List Bytes) (given : Readings) : Type 0 where
  pub site : FileArgument
  pub book : FileArgument
  pub leaves : FileArgument
  pub order : order_of words ≡ Ok (TraceOf site book leaves)
  pub fields : SiteFields
  pub good_site : IsGoodSite (given site) fields
  pub commands : List Command
  pub good_book : IsGoodBook (given book) fields.height commands
  pub coalition : Leaves
  pub good_leaves : IsGoodLeaves given fields.height leaves coalition
  pub few : length (revoked_last fields.height commands)
      + length (not_among fields.height (revoked_last fields.height commands) coalition) ≤ most_revoked

-- the arguments are `next SITE BOOK WORDS OUT`. OUT's name follows that of SITE, and no file has it. SITE has all
-- thirteen lines or is a first site, its first period isn't the last one, and so many control words are left. BOOK is
-- good, begins with SITE's book and ends with a line feed
pub record IsGoodNext (words : List Bytes) (given : Readings) : Type 0 where
  pub site : FileArgument
  pub book : FileArgument
  pub count : NumberArgument
  pub out : FileArgument
  pub order : order_of words ≡ Ok (NextOf site book count out)
  pub named : follows site.text out.text ≡ true
  pub free : given out ≡ None
  pub fields : SiteFields
  pub good_site : IsGoodSite (given site) fields
  pub newest : (are_lines_whole 13 good_site.bytes || is_first_site good_site.bytes fields) ≡ true
  pub period : fields.first_period < most_word
  pub left : fields.last_word + count.value ≤ most_word
  pub commands : List Command
  pub good_book : IsGoodBook (given book) fields.height commands
  pub begins : begins_with_book (book_line_of good_site.bytes) good_book.bytes ≡ true
  pub ends : ends_lines good_book.bytes ≡ true

-- what the next site is made from: the site, the commands of its book, and the longer book
abbrev pub origin_told : {words : List Bytes} {given : Readings} → IsGoodNext words given → Origin
origin_told good = record {
  site = good.fields;
  own = own_commands (book_line_of good.good_site.bytes) good.good_book.bytes;
  bytes = good.good_book.bytes;
  commands = good.commands;
}

-- the arguments are `twin SITE WORDS OUT`. OUT's name follows that of SITE, and no file has it. SITE has all thirteen
-- lines, of which the last says this of its book, and so many control words are left
pub record IsGoodTwin (words : List Bytes) (given : Readings) : Type 0 where
  pub site : FileArgument
  pub count : NumberArgument
  pub out : FileArgument
  pub order : order_of words ≡ Ok (TwinOf site count out)
  pub named : follows site.text out.text ≡ true
  pub free : given out ≡ None
  pub fields : SiteFields
  pub good_site : IsGoodSite (given site) fields
  pub whole : are_lines_whole 13 good_site.bytes ≡ true
  pub line : BookLine
  pub said : book_line_of good_site.bytes ≡ Some line
  pub left : fields.last_word + count.value ≤ most_word
