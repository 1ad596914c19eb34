-- Good words over good files mean work.
use Rattle.std.proofs.Common.{◌≡◌, ℕ, ◌≤◌, ◌^◌, true, cond, List, length, Option, Some, Result, Ok, Err, ap, ◌∙◌}
use Rattle.std.proofs.Common.{le-ltb, lt-ltb, arith, refl}
use Rattle.sd_site_cards.specs.SiteFields.{SiteFields}
use Rattle.sd_site_cards.specs.Text.{book_line_of, site_of, IsSite}
use Rattle.sd_site_cards.specs.declared.book_line.BookLine.{BookLine}
use Rattle.sd_site_cards.proofs.Alone.{site_said}
use Rattle.sd_site_cards.specs.CardFields.{card_of, card_bytes, site_card}
use Rattle.sd_engine.specs.Sample.{sample_of}
use Rattle.sd_book.specs.declared.command.Command.{Command}
use Rattle.sd_book.specs.Text.{SpellsBook, book_of, text_of_book}
use Rattle.sd_book.proofs.Judged.{book_again}
use Rattle.sd_base.specs.Lines.{lines_of}
use Rattle.sd_command_base.specs.declared.status.Status.{Status}
use Rattle.sd_command_base.specs.declared.status.Status.TheVariants.{Done, Limit, BadWord, OtherBook}
use Rattle.sd_command_base.specs.declared.status.LimitKind.{LimitKind}
use Rattle.sd_command_base.specs.declared.status.LimitKind.TheVariants.{SiteBytes, BookBytes}
use Rattle.sd_command_base.specs.Spec.{FileArgument, Readings, whole_file_bytes, of_result, value, within, ◌>>=◌}
use Rattle.sd_command_base.specs.Work.{Uncounted, NoSteps}
use Rattle.sd_command_base.proofs.Follow.{then_is}
use Rattle.sd_command_line.specs.Words.{Order, order_of, CoverOf, CardOf, SampleOf, TablesOf, HeadOf}
use Rattle.sd_command_base.specs.Files.{most_site_bytes, most_book_bytes, site_or_status, book_or_status, site_of_file}
use Rattle.sd_command_base.specs.Files.{book_of_file, is_book, own_book_of_file, own_book_or_status}
use Rattle.sd_command_base.specs.Files.{site_in, book_in}
use Rattle.sd_command_base.specs.Both.{SiteBook, both_meaning, both_by}
use Rattle.sd_book.proofs.Short.{book_short}
use Rattle.sd_site_cards.proofs.Short.{site_short}
use Rattle.sd_book.proofs.Written.{spelled_again}
use Rattle.sd_book.specs.Limits.{IsWithinLimits}
use Rattle.sd_law_run.specs.Good.{IsGoodSite, IsGoodBook, IsOwnBook}
use Rattle.sd_run_books.specs.Cover.{covering, cover_meaning}
use Rattle.sd_law_run.specs.Good.{IsGoodCover}
use Rattle.sd_command_base.specs.Made.{making}
use Rattle.sd_run_books.specs.Card.{made_card}
use Rattle.sd_law_run.specs.Good.{IsGoodCard}
use Rattle.sd_law_run.specs.Good.{IsGoodSample}
use Rattle.sd_run_streams.specs.Tables.{inspecting, tables_meaning}
use Rattle.sd_command_base.specs.Streams.{stream_status}
use Rattle.sd_law_run.specs.Good.{IsGoodTables}
use Rattle.std.specs.List.{concat}
use Rattle.sd_engine.specs.Taken.{Whole, packets_taken}
use Rattle.sd_spec.specs.Sent.{broadcast}
use Rattle.sd_run_broadcasts.specs.Head.{head_plan_by, head_plan_meaning, sending, sending_of, sent_of, sent_status}
use Rattle.sd_run_broadcasts.specs.Head.{head_meaning}
use Rattle.sd_run_broadcasts.specs.Head.{site_and_line_of_file, with_line}
use Rattle.sd_law_run.specs.Good.{plan_told, IsGoodHead}
use Rattle.sd_run_broadcasts.proofs.HeadSending.{sent_whole}
use Rattle.sd_run.specs.Meaning.{order_meaning, meaning}

pub file_read : (word most : ℕ) (kind : LimitKind) (bytes : List ℕ) → length bytes ≤ most →
    (within word most kind (Some bytes)).result ≡ Ok bytes
file_read word most kind bytes short = ap (λ b. cond b (Err (Limit kind)) (Ok bytes)) (le-ltb most (length bytes) short)

-- sites and books are short enough
pub site_fits : (bytes : List ℕ) (site : SiteFields) → IsSite bytes site → length bytes ≤ most_site_bytes
site_fits bytes site is = omega (arith, site_short bytes site is)

pub book_fits : (d : ℕ) (bytes : List ℕ) (commands : List Command) → d ≤ 20 → SpellsBook (lines_of bytes) commands →
    IsWithinLimits d commands → length bytes ≤ most_book_bytes
book_fits d bytes commands low spells within = omega (arith, book_short d bytes commands low spells within)

-- a site's tree is at most 20 high
pub site_low : (got : Option (List ℕ)) (fields : SiteFields) → IsGoodSite got fields → fields.height ≤ 20
site_low got fields good = good.is_site.ranges.height.1

pub site_good : (given : Readings) (word : FileArgument) (fields : SiteFields) → IsGoodSite (given word) fields →
    (site_in given word).result ≡ Ok fields
unfolding site_of_file
site_good given word fields good =
    ap (λ (got : Option (List ℕ)). (site_of_file word.number got).result) good.there
    ∙ then_is (within word.number most_site_bytes SiteBytes (Some good.bytes)) good.bytes
    (λ bytes. of_result (site_or_status word.number bytes (site_of bytes)))
    (file_read word.number most_site_bytes SiteBytes good.bytes (site_fits good.bytes fields good.is_site))
    ∙ ap (site_or_status word.number good.bytes) (site_said good.bytes fields good.is_site)

pub book_good : (given : Readings) (d : ℕ) (word : FileArgument) (commands : List Command) → d ≤ 20 →
    IsGoodBook (given word) d commands → (book_in given d word).result ≡ Ok commands
unfolding book_of_file
book_good given d word commands low good =
    ap (λ (got : Option (List ℕ)). (book_of_file word.number d got).result) good.there
    ∙ then_is (within word.number most_book_bytes BookBytes (Some good.bytes)) good.bytes
    (λ bytes. of_result (book_or_status word.number d bytes (book_of d bytes)))
    (file_read word.number most_book_bytes BookBytes good.bytes
    (book_fits d good.bytes commands low good.is_book good.within))
    ∙ ap (book_or_status word.number d good.bytes) (book_again d good.bytes commands good.is_book good.within)

-- a site and its book are read
pub both_good : (given : Readings) (site book : FileArgument) (fields : SiteFields) (commands : List Command) →
    IsGoodSite (given site) fields → IsGoodBook (given book) fields.height commands →
    (both_meaning site book given).result ≡ Ok (record { site = fields; commands = commands })
unfolding both_by
both_good given site book fields commands good_site good_book =
    then_is (site_in given site) fields
    (λ fields. book_in given fields.height book
    >>= λ commands. value {A = SiteBook} (record { site = fields; commands = commands }))
    (site_good given site fields good_site)
    ∙ then_is (book_in given fields.height book) commands
    (λ commands. value {A = SiteBook} (record { site = fields; commands = commands }))
    (book_good given fields.height book commands (site_low (given site) fields good_site) good_book)

-- the work of an order is the words'
pub ordered : (words : List (List ℕ)) (given : Readings) (order : Order) → order_of words ≡ Ok order →
    (meaning words given).result ≡ (order_meaning order given).result
ordered words given order read = ap (λ (r : Result Order Status). (of_result r >>= λ o. order_meaning o given).result)
    read

pub cover_good : (words : List (List ℕ)) (given : Readings) (good : IsGoodCover words given) →
    (meaning words given).result
    ≡ Ok (covering good.fields.height good.commands)
unfolding cover_meaning
cover_good words given good =
    let both : SiteBook = record { site = good.fields; commands = good.commands } in
    ordered words given (CoverOf good.site good.book) good.order
    ∙ then_is (both_meaning good.site good.book given) both (λ both. value (covering both.site.height both.commands))
    (both_good given good.site good.book good.fields good.commands good.good_site good.good_book)

pub card_good : (words : List (List ℕ)) (given : Readings) (good : IsGoodCard words given) →
    (meaning words given).result
    ≡ Ok
    (making Uncounted good.out
    (card_bytes (site_card good.fields good.leaf.value)))
card_good words given good =
    let fields = good.fields in
    let bytes = card_bytes (card_of fields.master fields.ca fields.height good.leaf.value) in
    ordered words given (CardOf good.site good.leaf good.out) good.order
    ∙ then_is (site_in given good.site) fields (λ fields. of_result (made_card fields good.leaf) >>= λ bytes. value
    (making Uncounted good.out bytes))
    (site_good given good.site fields good.good_site)
    ∙ then_is (of_result (made_card fields good.leaf)) bytes (λ bytes. value (making Uncounted good.out bytes))
    (ap (λ b. cond b (Ok bytes) (Err (BadWord good.leaf.word)))
    (lt-ltb good.leaf.value (2 ^ fields.height) good.of_tree))

pub sample_good : (words : List (List ℕ)) (given : Readings) (good : IsGoodSample words) →
    (meaning words given).result ≡ Ok (making NoSteps good.out (sample_of good.number good.packets))
sample_good words given good = ordered words given (SampleOf good.number good.packets good.out) good.order

pub tables_good : (words : List (List ℕ)) (given : Readings) (good : IsGoodTables words given) →
    ((meaning words given).result ≡ Ok (inspecting good.bytes)) × ((inspecting good.bytes).ends ≡ Done)
unfolding tables_meaning
tables_good words given good = (
  ordered words given (TablesOf good.stream) good.order
      ∙ ap (λ (got : Option (List ℕ)). (whole_file_bytes good.stream.number got >>=
      λ bytes. value (inspecting bytes)).result)
      good.there,
  ap stream_status good.whole,
)

-- a site is read with its line 13
said_good : (given : Readings) (word : FileArgument) (fields : SiteFields) (good : IsGoodSite (given word) fields) →
    (site_and_line_of_file word.number (given word)).result ≡ Ok (fields, book_line_of good.bytes)
unfolding site_and_line_of_file
said_good given word fields good =
    ap (λ (got : Option (List ℕ)). (site_and_line_of_file word.number got).result) good.there
    ∙ then_is (within word.number most_site_bytes SiteBytes (Some good.bytes)) good.bytes
    (λ bytes. of_result (with_line (book_line_of bytes) (site_or_status word.number bytes (site_of bytes))))
    (file_read word.number most_site_bytes SiteBytes good.bytes (site_fits good.bytes fields good.is_site))
    ∙ ap (λ r. with_line (book_line_of good.bytes) (site_or_status word.number good.bytes r))
    (site_said good.bytes fields good.is_site)

-- and its own book
pub own_good : (given : Readings) (d : ℕ) (word : FileArgument) (line : Option BookLine) (commands : List Command) →
    d ≤ 20 → (good : IsGoodBook (given word) d commands) → is_book line good.bytes ≡ true →
    (own_book_of_file word.number d line (given word)).result ≡ Ok commands
unfolding own_book_of_file
own_good given d word line commands low good own =
    ap (λ (got : Option (List ℕ)). (own_book_of_file word.number d line got).result) good.there
    ∙ then_is (within word.number most_book_bytes BookBytes (Some good.bytes)) good.bytes
    (λ bytes. of_result (own_book_or_status word.number d line bytes))
    (file_read word.number most_book_bytes BookBytes good.bytes
    (book_fits d good.bytes commands low good.is_book good.within))
    ∙ ap (λ b. cond b (book_or_status word.number d good.bytes (book_of d good.bytes)) (Err OtherBook)) own
    ∙ ap (book_or_status word.number d good.bytes) (book_again d good.bytes commands good.is_book good.within)

pub plan_good : (given : Readings) (site book : FileArgument) (fields : SiteFields) (commands : List Command) →
    (good_site : IsGoodSite (given site) fields) →
    (good_book : IsGoodBook (given book) fields.height commands) → IsOwnBook good_site good_book →
    (head_plan_meaning site book given).result ≡ Ok (record { site = fields; commands = commands })
unfolding head_plan_by
plan_good given site book fields commands good_site good_book own =
    let line = book_line_of good_site.bytes in
    then_is (site_and_line_of_file site.number (given site)) (fields, line)
    (λ said. own_book_of_file book.number said.0.height said.1 (given book)
    >>= λ commands. value (record { site = said.0; commands = commands }))
    (said_good given site fields good_site)
    ∙ then_is (own_book_of_file book.number fields.height line (given book)) commands
    (λ commands. value (record { site = fields; commands = commands }))
    (own_good given fields.height book line commands (site_low (given site) fields good_site) good_book own)

pub head_good : (words : List (List ℕ)) (given : Readings) (good : IsGoodHead words given) →
    ((meaning words given).result ≡ Ok (sending (plan_told good) good.out good.bytes))
    × (concat (broadcast (plan_told good) (packets_taken good.bytes)) ≡ sent_of (plan_told good) good.bytes)
    × (Done ≡ sent_status (plan_told good) good.bytes)
unfolding head_meaning
head_good words given good =
    let plan = plan_told good in
    let sent = sent_whole plan good.bytes good.is_clear good.whole in (
      ordered words given (HeadOf good.site good.book good.clear good.out) good.order
          ∙ then_is (head_plan_meaning good.site good.book given) plan (sending_of good.clear good.out
          (given good.clear))
          (plan_good given good.site good.book good.fields good.commands good.good_site good.good_book
          good.own)
          ∙ ap (λ (got : Option (List ℕ)). (sending_of good.clear good.out got plan).result) good.there,
      sent.0,
      sent.1,
    )

-- the text of commands within the limits is a good book
pub made_good : (d : ℕ) (commands : List Command) → d ≤ 20 → IsWithinLimits d commands →
    IsGoodBook (Some (text_of_book commands)) d commands
made_good d commands low within =
    record {
      bytes = text_of_book commands;
      there = refl;
      is_book = spelled_again d commands low within.leaves;
      within = within;
    }
