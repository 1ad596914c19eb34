-- Good words of `next` and `twin` over good files mean the next site.
use Rattle.std.proofs.Common.{◌≡◌, ℕ, ◌≤◌, ◌+◌, ◌||◌, Bool, true, cond, List, [], Option, None, Ok, Err}
use Rattle.std.proofs.Common.{Some, ap, ◌∙◌, arith, refl, le-leb, le-ltb}
use Rattle.std.specs.Option.{option_map_or}
use Rattle.sd_site_cards.specs.SiteFields.{SiteFields}
use Rattle.sd_site_cards.specs.Text.{book_line_of}
use Rattle.sd_site_cards.specs.Chain.{most_word, twin_site}
use Rattle.sd_site_cards.specs.Written.{is_first_site, are_lines_whole, site_of_chain, none_fewer, site_text}
use Rattle.sd_site_cards.specs.declared.book_line.BookLine.{BookLine}
use Rattle.sd_site_cards.proofs.Alone.{site_said}
use Rattle.sd_book.specs.declared.command.Command.{Command}
use Rattle.sd_book.proofs.Judged.{book_again}
use Rattle.sd_command_base.specs.declared.status.Status.TheVariants.{BadOut}
use Rattle.sd_command_base.specs.declared.status.OutCause.TheVariants.{Name}
use Rattle.sd_command_base.specs.declared.status.LimitKind.TheVariants.{SiteBytes, BookBytes}
use Rattle.sd_command_base.specs.Spec.{FileArgument, Readings, of_result, value, within, ◌>>=◌}
use Rattle.sd_command_base.specs.Shown.{NumberArgument}
use Rattle.sd_command_base.specs.Files.{BookText, begins_with_book, ends_lines, longer_book_of_file, most_book_bytes}
use Rattle.sd_command_base.specs.Files.{most_site_bytes, longer_book_or_status}
use Rattle.sd_command_base.specs.Made.{NewFile, making_new, new_work}
use Rattle.sd_command_base.proofs.Follow.{then_is}
use Rattle.sd_command_line.specs.Words.{NextOf, TwinOf}
use Rattle.sd_run_books.specs.Chain.{newest_of_file, own_commands, told_name, told_newest}
use Rattle.sd_run_books.specs.Next.{Origin, next_made, next_meaning, origin_of_files}
use Rattle.sd_run_books.specs.Twin.{twin_made, twin_meaning}
use Rattle.sd_run_books.specs.SiteNames.{follows}
use Rattle.sd_run.specs.Meaning.{meaning}
use Rattle.sd_law_run.specs.Good.{IsGoodSite, IsGoodBook, IsGoodNext, IsGoodTwin, origin_told}
use Rattle.sd_law_run.proofs.Goodness.{book_fits, file_read, ordered, site_fits, site_low}

-- the name of OUT follows that of SITE
name_good : (site out : FileArgument) → follows site.text out.text ≡ true →
    (of_result (told_name site out)).result ≡ Ok tt
name_good site out named = ap (λ b. cond b (Ok tt) (Err (BadOut out.number Name))) named

-- a good site with enough lines, a first period of at most this and so many control words left
newest_good : (fewer : List ℕ → SiteFields → Bool) (given : Readings) (word : FileArgument) (most : ℕ)
    (words : NumberArgument) (fields : SiteFields) (good : IsGoodSite (given word) fields) →
    (are_lines_whole 13 good.bytes || fewer good.bytes fields) ≡ true → fields.first_period ≤ most →
    fields.last_word + words.value ≤ most_word →
    (newest_of_file fewer word.number most words (given word)).result ≡ Ok (fields, book_line_of good.bytes)
unfolding newest_of_file site_of_chain
newest_good fewer given word most words fields good whole low left =
    ap (λ (got : Option (List ℕ)). (newest_of_file fewer word.number most words got).result) good.there
    ∙ then_is (within word.number most_site_bytes SiteBytes (Some good.bytes)) good.bytes
    (λ bytes. of_result (told_newest word.number bytes most words (site_of_chain fewer bytes)))
    (file_read word.number most_site_bytes SiteBytes good.bytes (site_fits good.bytes fields good.is_site))
    ∙ rw (
      site_said good.bytes fields good.is_site,
      whole,
      le-ltb most fields.first_period low,
      le-leb (fields.last_word + words.value) most_word left,
    ) refl

-- a good book that begins with the site's and ends with a line feed
longer_good : (given : Readings) (d : ℕ) (word : FileArgument) (line : Option BookLine) (commands : List Command) →
    d ≤ 20 → (good : IsGoodBook (given word) d commands) → begins_with_book line good.bytes ≡ true →
    ends_lines good.bytes ≡ true → (longer_book_of_file word.number d line (given word)).result
    ≡ Ok (record { bytes = good.bytes; commands = commands })
unfolding longer_book_of_file
longer_good given d word line commands low good begins ends =
    ap (λ (got : Option (List ℕ)). (longer_book_of_file word.number d line got).result) good.there
    ∙ then_is (within word.number most_book_bytes BookBytes (Some good.bytes)) good.bytes
    (λ bytes. of_result (longer_book_or_status word.number d line bytes))
    (file_read word.number most_book_bytes BookBytes good.bytes
    (book_fits d good.bytes commands low good.is_book good.within))
    ∙ rw (begins, book_again d good.bytes commands good.is_book good.within, ends) refl

-- both are what the next site is made from
origin_good : (words : List (List ℕ)) (given : Readings) (good : IsGoodNext words given) →
    (origin_of_files good.site.number good.book.number good.count (given good.site) (given good.book)).result
    ≡ Ok (origin_told good)
unfolding origin_of_files
origin_good words given good =
    let fields = good.fields in
    let line = book_line_of good.good_site.bytes in
    let text : BookText = record { bytes = good.good_book.bytes; commands = good.commands } in
    then_is (newest_of_file is_first_site good.site.number 4294967294 good.count (given good.site)) (fields, line)
    (λ newest. longer_book_of_file good.book.number newest.0.height newest.1 (given good.book)
    >>= λ text. value {A = Origin} (record {
      site = newest.0;
      own = own_commands newest.1 text.bytes;
      bytes = text.bytes;
      commands = text.commands;
    }))
    (newest_good is_first_site given good.site 4294967294 good.count fields good.good_site good.newest
    (omega (arith, good.period)) good.left)
    ∙ then_is (longer_book_of_file good.book.number fields.height line (given good.book)) text
    (λ text. value {A = Origin} (record {
      site = fields;
      own = own_commands line text.bytes;
      bytes = text.bytes;
      commands = text.commands;
    }))
    (longer_good given fields.height good.book line good.commands (site_low (given good.site) fields good.good_site)
    good.good_book good.begins good.ends)

-- a file of which nothing has the name is made
free_made : (made : NewFile) (out : FileArgument) (got : Option (List ℕ)) → got ≡ None →
    (making_new made out got).result ≡ Ok (new_work made out)
free_made made out got free = ap (λ (g : Option (List ℕ)). (making_new made out g).result) free

pub next_good : (words : List (List ℕ)) (given : Readings) (good : IsGoodNext words given) →
    (meaning words given).result ≡ Ok (new_work (next_made (origin_told good) good.count.value) good.out)
unfolding next_meaning
next_good words given good =
    let origin = origin_of_files good.site.number good.book.number good.count (given good.site) (given good.book) in
    let made : Origin → NewFile = λ origin. next_made origin good.count.value in
    ordered words given (NextOf good.site good.book good.count good.out) good.order
    ∙ then_is (of_result (told_name good.site good.out)) tt
    (λ named. origin >>= λ found. making_new (made found) good.out (given good.out))
    (name_good good.site good.out good.named)
    ∙ then_is origin (origin_told good) (λ found. making_new (made found) good.out (given good.out))
    (origin_good words given good)
    ∙ free_made (made (origin_told good)) good.out (given good.out) good.free

pub twin_good : (words : List (List ℕ)) (given : Readings) (good : IsGoodTwin words given) →
    (meaning words given).result ≡ Ok (new_work
    (record { bytes = site_text (twin_site good.count.value good.fields) good.line; pieces = [] }) good.out)
unfolding twin_meaning
twin_good words given good =
    let line = book_line_of good.good_site.bytes in
    let newest = newest_of_file none_fewer good.site.number most_word good.count (given good.site) in
    let made : SiteFields → Option BookLine → NewFile = λ fields line. twin_made fields line good.count.value in
    let bytes = site_text (twin_site good.count.value good.fields) in
    ordered words given (TwinOf good.site good.count good.out) good.order
    ∙ then_is (of_result (told_name good.site good.out)) tt
    (λ named. newest >>= λ found. making_new (made found.0 found.1) good.out (given good.out))
    (name_good good.site good.out good.named)
    ∙ then_is newest (good.fields, line) (λ found. making_new (made found.0 found.1) good.out (given good.out))
    (newest_good none_fewer given good.site most_word good.count good.fields good.good_site
    (rw good.whole refl) good.good_site.is_site.ranges.first_period.1 good.left)
    ∙ free_made (made good.fields line) good.out (given good.out) good.free
    ∙ ap (λ (said : Option BookLine). Ok (new_work (record { bytes = option_map_or bytes said []; pieces = [] })
    good.out)) good.said
