-- A site or a book that a command took is good.
use Rattle.std.proofs.Common.{◌≡◌, ℕ, ◌≤◌, Bool, true, false, cond, List, length, Option, None, Some, Result, Ok}
use Rattle.std.proofs.Common.{Err, refl, sym, ap, subst, ◌∙◌, ltb-false}
use Rattle.std.specs.Prelude.{nat_lt}
use Rattle.sd_base.specs.Lines.{lines_of}
use Rattle.sd_site_cards.specs.SiteFields.{SiteFields}
use Rattle.sd_site_cards.specs.Text.{site_of}
use Rattle.sd_book.specs.declared.command.Command.{Command}
use Rattle.sd_book.specs.declared.fault.BookFault.{BookFault}
use Rattle.sd_book.specs.Text.{SpellsBook, book_of}
use Rattle.sd_command_base.specs.declared.status.Status.TheVariants.{Limit}
use Rattle.sd_command_base.specs.declared.status.LimitKind.{LimitKind}
use Rattle.sd_command_base.specs.declared.status.LimitKind.TheVariants.{SiteBytes, BookBytes}
use Rattle.sd_command_base.specs.Spec.{FileArgument, Readings, of_result, value, within, ◌>>=◌}
use Rattle.sd_command_base.specs.Both.{SiteBook, both_by, both_meaning}
use Rattle.sd_command_base.specs.Files.{most_site_bytes, most_book_bytes, site_or_status, book_or_status, site_in}
use Rattle.sd_command_base.specs.Files.{book_in}
use Rattle.sd_command_base.specs.Files.{site_of_file, book_of_file, low_site_or_status}
use Rattle.sd_run_books.proofs.OwnBook.{book_said}
use Rattle.sd_law_run.specs.Good.{IsGoodSite, IsGoodBook}
use Rattle.sd_law_run.proofs.Sent.{then_ok, value_is, site_right, book_right}

-- a file of at most this number of bytes
pub record IsRead (got : Option (List ℕ)) (most : ℕ) (bytes : List ℕ) : Type 0 where
  pub there : got ≡ Some bytes
  pub short : length bytes ≤ most

pub file_taken : (word most : ℕ) (kind : LimitKind) (got : Option (List ℕ)) (bytes : List ℕ) →
    (within word most kind got).result ≡ Ok bytes → IsRead got most bytes
file_taken word most kind None bytes e = absurd (cc)
file_taken word most kind (Some found) bytes e = by_test (nat_lt most (length found)) refl e
  where
    by_test : (t : Bool) → nat_lt most (length found) ≡ t → cond t (Err (Limit kind)) (Ok found) ≡ Ok bytes →
        IsRead (Some found) most bytes
    by_test true f e = absurd (cc)
    by_test false f e =
        let same : found ≡ bytes = cc in
        subst (IsRead (Some found) most) same (record { there = refl; short = ltb-false most (length found) f })

pub site_taken : (given : Readings) (word : FileArgument) (fields : SiteFields) →
    (site_in given word).result ≡ Ok fields → IsGoodSite (given word) fields
unfolding site_of_file
site_taken given word fields e =
    let read = then_ok (within word.number most_site_bytes SiteBytes (given word))
    (λ bytes. of_result (site_or_status word.number bytes (site_of bytes))) fields e in
    let is = file_taken word.number most_site_bytes SiteBytes (given word) read.from read.first_is in
    record {
      bytes = read.from;
      there = is.there;
      is_site = site_right word.number read.from fields read.next_is;
    }

-- the lines of a book that is told are its commands
told_spells : (word d : ℕ) (bytes : List ℕ) (commands : List Command) →
    book_or_status word d bytes (book_of d bytes) ≡ Ok commands → SpellsBook (lines_of bytes) commands
told_spells word d bytes commands e = by_answer (book_of d bytes) refl e
  where
    by_answer : (r : Result (List Command) BookFault) → book_of d bytes ≡ r →
        book_or_status word d bytes r ≡ Ok commands →
        SpellsBook (lines_of bytes) commands
    by_answer (Ok found) f e =
        let same : found ≡ commands = cc in
        sym (book_said d bytes commands (f ∙ ap (λ (c : List Command). Ok c) same))
    by_answer (Err fault) f e = absurd (cc)

pub book_taken : (given : Readings) (d : ℕ) (word : FileArgument) (commands : List Command) →
    (book_in given d word).result ≡ Ok commands → IsGoodBook (given word) d commands
unfolding book_of_file
book_taken given d word commands e =
    let read = then_ok (within word.number most_book_bytes BookBytes (given word))
    (λ bytes. of_result (book_or_status word.number d bytes (book_of d bytes))) commands e in
    let is = file_taken word.number most_book_bytes BookBytes (given word) read.from read.first_is in
    record {
      bytes = read.from;
      there = is.there;
      is_book = told_spells word.number d read.from commands read.next_is;
      within = book_right word.number d read.from commands read.next_is;
    }

-- a site and its book
pub record AreTaken (given : Readings) (site book : FileArgument) (both : SiteBook) : Type 0 where
  pub good_site : IsGoodSite (given site) both.site
  pub good_book : IsGoodBook (given book) both.site.height both.commands

pub both_taken : (given : Readings) (site book : FileArgument) (both : SiteBook) →
    (both_meaning site book given).result ≡ Ok both → AreTaken given site book both
unfolding both_by
both_taken given site book both e =
    let fields = then_ok (site_in given site)
    (λ fields. book_in given fields.height book
    >>= λ commands. value {A = SiteBook} (record { site = fields; commands = commands })) both e in
    let commands = then_ok (book_in given fields.from.height book)
    (λ commands. value {A = SiteBook} (record { site = fields.from; commands = commands })) both fields.next_is in
    let made : SiteBook = record { site = fields.from; commands = commands.from } in
    subst (AreTaken given site book) (value_is made both commands.next_is) (record {
      good_site = site_taken given site fields.from fields.first_is;
      good_book = book_taken given fields.from.height book commands.from commands.first_is;
    })

-- a site whose tree is low enough
pub low_taken : (most : ℕ) (kind : LimitKind) (site found : SiteFields) → low_site_or_status most kind site ≡ Ok found →
    (site ≡ found) × (found.height ≤ most)
low_taken most kind site found e = by_test (nat_lt most site.height) refl e
  where
    by_test : (t : Bool) → nat_lt most site.height ≡ t → cond t (Err (Limit kind)) (Ok site) ≡ Ok found →
        (site ≡ found) × (found.height ≤ most)
    by_test true f e = absurd (cc)
    by_test false f e =
        let same : site ≡ found = cc in
        (same, subst (λ (s : SiteFields). s.height ≤ most) same (ltb-false most site.height f))
