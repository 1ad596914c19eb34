-- What `next` and `twin` found if they make a site: their steps, each of which was not refused.
use Rattle.std.proofs.Common.{arith, ◌≡◌, ℕ, ◌+◌, ◌-◌, ◌≤◌, Bool, true, false, cond, List, length, Option, Some, None}
use Rattle.std.proofs.Common.{Result, Ok, Err, refl, sym, ap, ◌∙◌, subst}
use Rattle.std.proofs.lemmas.Bool.{leb-true}
use Rattle.std.proofs.lemmas.Bool.Decides.{nat_tests}
use Rattle.std.specs.Prelude.{nat_lt}
use Rattle.sd_base.specs.Types.{Bytes}
use Rattle.sd_site_cards.specs.SiteFields.{SiteFields}
use Rattle.sd_site_cards.specs.Written.{site_of_chain, is_first_site, none_fewer}
use Rattle.sd_site_cards.specs.Chain.{most_word, has_word_room}
use Rattle.sd_site_cards.specs.declared.book_line.BookLine.{BookLine}
use Rattle.sd_site_cards.specs.declared.site_fault.SiteFault.{SiteFault}
use Rattle.sd_book.specs.declared.command.Command.{Command}
use Rattle.sd_book.specs.Text.{book_of}
use Rattle.sd_command_base.specs.declared.status.Status.{Status}
use Rattle.sd_command_base.specs.declared.status.LimitKind.{LimitKind}
use Rattle.sd_command_base.specs.declared.status.LimitKind.TheVariants.{SiteBytes, BookBytes}
use Rattle.sd_command_base.specs.declared.status.Status.TheVariants.{BadOut, BadWord, BadBook, Limit, OtherBook}
use Rattle.sd_command_base.specs.declared.status.OutCause.TheVariants.{Name}
use Rattle.sd_site_cards.specs.declared.site_fault.SiteFault.TheVariants.{Range}
use Rattle.sd_book.specs.declared.fault.BookFault.{BookFault}
use Rattle.std.specs.Result.{result_unwrap_or}
use Rattle.sd_command_base.specs.Spec.{Spec, FileArgument, Readings, and_then, of_result, value, within, ◌>>=◌}
use Rattle.sd_command_base.specs.Shown.{NumberArgument}
use Rattle.sd_command_base.specs.Work.{Work}
use Rattle.sd_command_base.specs.Files.{begins_with_book, ends_lines, longer_book_of_file, most_book_bytes}
use Rattle.sd_command_base.specs.Files.{most_site_bytes}
use Rattle.sd_command_base.specs.Files.{refused_site, book_or_status, longer_book_or_status, whole_book_or_status}
use Rattle.sd_command_base.specs.BadLines.{bad_line}
use Rattle.sd_command_base.specs.declared.bad_line.LineCause.TheVariants.{Unended}
use Rattle.sd_command_base.specs.Files.{BookText}
use Rattle.sd_command_base.specs.Made.{NewFile, making_new, new_work, free}
use Rattle.sd_run_books.specs.SiteNames.{follows}
use Rattle.sd_run_books.specs.Chain.{newest_of_file, own_commands, told_name, told_newest}
use Rattle.sd_run_books.specs.Next.{Origin, origin_of_files, next_made, next_meaning}
use Rattle.sd_run_books.specs.Twin.{twin_made, twin_meaning}

-- where steps came to a value, the first one did
pub then_ok : {A B : Type 0} (first : Spec A) (next : A → Spec B) (y : B) → (first >>= next).result ≡ Ok y →
    (x : A) × (first.result ≡ Ok x) × ((next x).result ≡ Ok y)
then_ok {A} {B} first next y e = by_result first.result e
  where
    by_result : (r : Result A Status) → (and_then first.calls r next).result ≡ Ok y →
        (x : A) × (r ≡ Ok x) × ((next x).result ≡ Ok y)
    by_result (Ok x) h = (x, refl, h)
    by_result (Err status) h = absurd cc

-- one result has one value
pub one_value : {A : Type 0} (r : Result A Status) (x y : A) → r ≡ Ok x → r ≡ Ok y → x ≡ y
one_value {A} r x y is same = ap (λ (s : Result A Status). result_unwrap_or s x) (sym is ∙ same)

-- a test that was passed
pub met : {A : Type 0} (b : Bool) (r : Result A Status) (y : A) (status : Status) → cond b r (Err status) ≡ Ok y →
    (b ≡ true) × (r ≡ Ok y)
met true r y status e = (refl, e)
met false r y status e = absurd cc

-- and its value
test_ok : {A : Type 0} (b : Bool) (x y : A) (status : Status) → cond b (Ok x) (Err status) ≡ Ok y →
    (b ≡ true) × (x ≡ y)
test_ok b x y status e =
    let passed = met b (Ok x) y status e in
    (passed.0, one_value (Ok x) x y refl passed.1)

-- a test that refuses was not met
pub unmet : {A : Type 0} (b : Bool) (r : Result A Status) (y : A) (status : Status) → cond b (Err status) r ≡ Ok y →
    (b ≡ false) × (r ≡ Ok y)
unmet true r y status e = absurd cc
unmet false r y status e = (refl, e)

-- a file within a limit was there
pub within_ok : (word most : ℕ) (kind : LimitKind) (got : Option Bytes) (bytes : Bytes) →
    (within word most kind got).result ≡ Ok bytes → (got ≡ Some bytes) × (length bytes ≤ most)
within_ok word most kind None bytes e = absurd cc
within_ok word most kind (Some found) bytes e =
    let small = unmet (nat_lt most (length found)) (Ok found) bytes (Limit kind) e in
    let same = one_value (Ok found) found bytes refl small.1 in
    let size : length found ≤ most = grind (arith, nat_tests, small.0) in
    (ap Some same, subst (λ (b : Bytes). length b ≤ most) same size)

-- a name that follows
name_ok : (site out : FileArgument) (x : Unit {0}) → told_name site out ≡ Ok x → follows site.text out.text ≡ true
name_ok site out x e = (test_ok (follows site.text out.text) tt x (BadOut out.number Name) e).0

-- a name that is free
free_ok : (word : ℕ) (got : Option Bytes) (x : Unit {0}) → (free word got).result ≡ Ok x → got ≡ None
free_ok word None x e = refl
free_ok word (Some bytes) x e = absurd cc

-- what is made new
new_ok : (made : NewFile) (out : FileArgument) (got : Option Bytes) (work : Work) →
    (making_new made out got).result ≡ Ok work → (got ≡ None) × (work ≡ new_work made out)
new_ok made out got work e =
    let (x, is_free, is_work) = then_ok (free out.number got) (λ new. value (new_work made out)) work e in
    (free_ok out.number got x is_free, sym (one_value (Ok (new_work made out)) (new_work made out) work refl is_work))

-- the site that was read, whose lines 11 and 12 leave room
pub record IsNewest (fewer : List ℕ → SiteFields → Bool) (most words : ℕ) (got : Option Bytes)
    (newest : SiteFields × Option BookLine) : Type 0 where
  pub text : Bytes
  pub there : got ≡ Some text
  pub says : site_of_chain fewer text ≡ Ok newest
  pub period : newest.0.first_period ≤ most
  pub room : newest.0.last_word + words ≤ most_word

told_ok : (word : ℕ) (bytes : Bytes) (most : ℕ) (words : NumberArgument)
    (said : Result (SiteFields × Option BookLine) SiteFault) (newest : SiteFields × Option BookLine) →
    told_newest word bytes most words said ≡ Ok newest →
    (said ≡ Ok newest) × (newest.0.first_period ≤ most) × (newest.0.last_word + words.value ≤ most_word)
told_ok word bytes most words (Err fault) newest e = absurd cc
told_ok word bytes most words (Ok found) newest e =
    let low = unmet (nat_lt most found.0.first_period) _ newest (refused_site word bytes (Range 12)) e in
    let room = test_ok (has_word_room words.value found.0) found newest (BadWord words.word) low.1 in
    let period : found.0.first_period ≤ most = grind (arith, nat_tests, low.0) in (
      ap Ok room.1,
      subst (λ (n : SiteFields × Option BookLine). n.0.first_period ≤ most) room.1 period,
      subst (λ (n : SiteFields × Option BookLine). n.0.last_word + words.value ≤ most_word) room.1
          (leb-true _ _ room.0),
    )

newest_ok : (fewer : List ℕ → SiteFields → Bool) (word most : ℕ) (words : NumberArgument) (got : Option Bytes)
    (newest : SiteFields × Option BookLine) → (newest_of_file fewer word most words got).result ≡ Ok newest →
    IsNewest fewer most words.value got newest
unfolding newest_of_file
newest_ok fewer word most words got newest e =
    let (text, read, told) = then_ok (within word most_site_bytes SiteBytes got)
    (λ bytes. of_result (told_newest word bytes most words (site_of_chain fewer bytes))) newest e in
    let parts = told_ok word text most words (site_of_chain fewer text) newest told in
    record {
      text = text;
      there = (within_ok word most_site_bytes SiteBytes got text read).0;
      says = parts.0;
      period = parts.1;
      room = parts.2;
    }

-- the longer book that was read
pub record IsLonger (height : ℕ) (line : Option BookLine) (got : Option Bytes) (book : BookText) : Type 0 where
  pub there : got ≡ Some book.bytes
  pub size : length book.bytes ≤ most_book_bytes
  pub begins : begins_with_book line book.bytes ≡ true
  pub ends : ends_lines book.bytes ≡ true
  pub is_book : book_of height book.bytes ≡ Ok book.commands

pub book_ok : (word d : ℕ) (bytes : Bytes) (said : Result (List Command) BookFault) (commands : List Command) →
    book_or_status word d bytes said ≡ Ok commands → said ≡ Ok commands
book_ok word d bytes (Ok found) commands e = ap Ok (one_value (Ok found) found commands refl e)
book_ok word d bytes (Err fault) commands e = absurd cc

whole_ok : (word : ℕ) (bytes : Bytes) (said : Result (List Command) Status) (book : BookText) →
    whole_book_or_status word bytes said ≡ Ok book →
    (said ≡ Ok book.commands) × (book.bytes ≡ bytes) × (ends_lines bytes ≡ true)
whole_ok word bytes (Err status) book e = absurd cc
whole_ok word bytes (Ok commands) book e =
    let parts = test_ok (ends_lines bytes) (record { bytes = bytes; commands = commands }) book
    (BadBook word (bad_line Unended (length commands) bytes)) e in
    (ap (λ (b : BookText). Ok b.commands) parts.1, ap (λ (b : BookText). b.bytes) (sym parts.1), parts.0)

longer_ok : (word height : ℕ) (line : Option BookLine) (got : Option Bytes) (book : BookText) →
    (longer_book_of_file word height line got).result ≡ Ok book → IsLonger height line got book
unfolding longer_book_of_file
longer_ok word height line got book e =
    let (bytes, read, told) = then_ok (within word most_book_bytes BookBytes got)
    (λ bytes. of_result (longer_book_or_status word height line bytes)) book e in
    let file = within_ok word most_book_bytes BookBytes got bytes read in
    let begins = met (begins_with_book line bytes) (whole_book_or_status word bytes (book_or_status word height bytes
    (book_of height bytes)))
    book OtherBook told in
    let whole = whole_ok word bytes (book_or_status word height bytes (book_of height bytes)) book begins.1 in
    let commands = book_ok word height bytes (book_of height bytes) book.commands whole.0 in
    record {
      there = rw whole.1 file.0;
      size = rw whole.1 file.1;
      begins = rw whole.1 begins.0;
      ends = rw whole.1 whole.2;
      is_book = rw whole.1 commands;
    }

-- what the next site is made from: the site and line 13 of a file, and a longer book
abbrev pub with_book : SiteFields × Option BookLine → BookText → Origin
with_book newest text = record {
  site = newest.0;
  own = own_commands newest.1 text.bytes;
  bytes = text.bytes;
  commands = text.commands;
}

-- the steps of `next` behind the first file, and behind both
abbrev pub then_read : ℕ → Option Bytes → SiteFields × Option BookLine → Spec Origin
then_read book got newest =
    longer_book_of_file book newest.0.height newest.1 got >>= λ text. value (with_book newest text)

abbrev then_make : NumberArgument → FileArgument → Option Bytes → Origin → Spec Work
then_make words out got origin = making_new (next_made origin words.value) out got

-- What a `next` found that makes this work
pub record NextFound (site book : FileArgument) (words : NumberArgument) (out : FileArgument) (given : Readings)
    (work : Work) : Type 0 where
  pub follow : follows site.text out.text ≡ true
  pub newest : SiteFields × Option BookLine
  pub is_newest : IsNewest is_first_site (most_word - 1) words.value (given site) newest
  pub text : BookText
  pub longer : IsLonger newest.0.height newest.1 (given book) text
  pub new : given out ≡ None
  pub is_work : work ≡ new_work (next_made (with_book newest text) words.value) out

pub next_found : (site book : FileArgument) (words : NumberArgument) (out : FileArgument) (given : Readings)
    (work : Work) → (next_meaning site book words out given).result ≡ Ok work → NextFound site book words out given work
unfolding next_meaning origin_of_files
next_found site book words out given work e =
    let read : Spec Origin = origin_of_files site.number book.number words (given site) (given book) in
    let (named, is_named, after_name) =
    then_ok (of_result (told_name site out)) (λ named. read >>= then_make words out (given out)) work e in
    let (origin, is_origin, made) = then_ok read (then_make words out (given out)) work after_name in
    let (newest, is_newest, after_site) =
    then_ok (newest_of_file is_first_site site.number (most_word - 1) words (given site))
    (then_read book.number (given book))
    origin is_origin in
    let (text, is_text, is_it) =
    then_ok (longer_book_of_file book.number newest.0.height newest.1 (given book))
    (λ text. value (with_book newest text))
    origin after_site in
    let new = new_ok (next_made origin words.value) out (given out) work made in
    record {
      follow = name_ok site out named is_named;
      newest = newest;
      is_newest = newest_ok is_first_site site.number (most_word - 1) words (given site) newest is_newest;
      text = text;
      longer = longer_ok book.number newest.0.height newest.1 (given book) text is_text;
      new = new.0;
      is_work = new.1 ∙ ap (λ (o : Origin). new_work (next_made o words.value) out)
          (sym (one_value (Ok (with_book newest text)) (with_book newest text) origin refl is_it));
    }

-- the step of `twin` behind its file
abbrev then_twin : NumberArgument → FileArgument → Option Bytes → SiteFields × Option BookLine → Spec Work
then_twin words out got newest = making_new (twin_made newest.0 newest.1 words.value) out got

-- What a `twin` found that makes this work
pub record TwinFound (site : FileArgument) (words : NumberArgument) (out : FileArgument) (given : Readings)
    (work : Work) : Type 0 where
  pub follow : follows site.text out.text ≡ true
  pub newest : SiteFields × Option BookLine
  pub is_newest : IsNewest none_fewer most_word words.value (given site) newest
  pub new : given out ≡ None
  pub is_work : work ≡ new_work (twin_made newest.0 newest.1 words.value) out

pub twin_found : (site : FileArgument) (words : NumberArgument) (out : FileArgument) (given : Readings) (work : Work) →
    (twin_meaning site words out given).result ≡ Ok work → TwinFound site words out given work
unfolding twin_meaning
twin_found site words out given work e =
    let read : Spec (SiteFields × Option BookLine) =
    newest_of_file none_fewer site.number most_word words (given site) in
    let (named, is_named, after_name) =
    then_ok (of_result (told_name site out)) (λ named. read >>= then_twin words out (given out)) work e in
    let (newest, is_newest, made) = then_ok read (then_twin words out (given out)) work after_name in
    let new = new_ok (twin_made newest.0 newest.1 words.value) out (given out) work made in
    record {
      follow = name_ok site out named is_named;
      newest = newest;
      is_newest = newest_ok none_fewer site.number most_word words (given site) newest is_newest;
      new = new.0;
      is_work = new.1;
    }
