-- What `next` and `twin` make of the file of a site of a chain.
use Rattle.std.proofs.Common.{arith, ◌≡◌, ℕ, ◌+◌, ◌-◌, ◌≤◌, ◌&&◌, Bool, true, false, cond, nat_lt, nat_le}
use Rattle.std.proofs.Common.{List, [], length, take, Option, Some, None, Result, Ok, Err, refl, ap, sym, subst, ◌∙◌}
use Rattle.std.specs.Prelude.{◌↔◌, ◌||◌, IsSome, if◌then◌else◌}
use Rattle.std.specs.Str.{bytes_eq}
use Rattle.std.proofs.lemmas.Bool.{and_parts}
use Rattle.std.proofs.lemmas.Bool.Decides.{nat_tests}
use Rattle.std.proofs.lemmas.List.{length-take, length-take-le}
use Rattle.std.proofs.lemmas.Slice.Eq.{bytes_eq-Decides}
use Rattle.sha2.specs.Sha256.{sha256}
use Rattle.sd_base.specs.Types.{Bytes}
use Rattle.sd_base.proofs.Lists.{equal_bytes}
use Rattle.sd_site_cards.specs.SiteFields.{SiteFields}
use Rattle.sd_site_cards.specs.Chain.{has_word_room, most_word}
use Rattle.sd_site_cards.specs.Written.{is_first_site, are_lines_whole, site_of_chain, none_fewer}
use Rattle.sd_site_cards.specs.Text.{book_line_of, site_of}
use Rattle.sd_site_cards.proofs.Alone.{newest_say, said_is_site}
use Rattle.sd_site_cards.specs.declared.book_line.BookLine.{BookLine}
use Rattle.sd_site_cards.specs.declared.site_fault.SiteFault.{SiteFault}
use Rattle.sd_book.specs.declared.command.Command.{Command}
use Rattle.sd_book.specs.Text.{book_of}
use Rattle.sd_command_base.specs.declared.status.Status.{Status}
use Rattle.sd_command_base.specs.declared.status.Status.TheVariants.{BadBook, BadOut, BadWord, Limit, OtherBook}
use Rattle.sd_command_base.specs.declared.status.OutCause.TheVariants.{Name}
use Rattle.sd_command_base.specs.declared.status.LimitKind.TheVariants.{BookBytes, SiteBytes}
use Rattle.sd_site_cards.specs.declared.site_fault.SiteFault.TheVariants.{Range, Short}
use Rattle.sd_command_base.specs.Files.{BookText, begins_with_book, ends_lines, longer_book_of_file, most_book_bytes}
use Rattle.sd_command_base.specs.Files.{most_site_bytes, refused_site, book_or_status, longer_book_or_status}
use Rattle.sd_command_base.specs.Files.{whole_book_or_status}
use Rattle.sd_command_base.specs.BadLines.{bad_line}
use Rattle.sd_command_base.specs.declared.bad_line.LineCause.TheVariants.{Unended}
use Rattle.sd_command_base.specs.Made.{NewFile, making_new, new_work}
use Rattle.sd_command_base.specs.Shown.{NumberArgument}
use Rattle.sd_command_base.specs.Spec.{FileArgument, Readings, Spec, and_then, of_result, value, ◌>>=◌}
use Rattle.sd_command_base.specs.Work.{Work}
use Rattle.sd_run_books.specs.Chain.{commands_said, line_of_book, newest_of_file, own_commands, told_name, told_newest}
use Rattle.sd_run_books.specs.Next.{Origin, next_made, next_meaning, origin_of_files}
use Rattle.sd_run_books.specs.SiteNames.{follows}
use Rattle.sd_run_books.specs.Twin.{twin_made, twin_meaning}
use Rattle.sd_law_chain.specs.Chain.{EndsLines, AreWordsLeft, IsLike, IsNextTaken, IsTaken, Link, Next, Twin, own_bytes}
use Rattle.sd_law_chain.specs.Made.{IsFileOf, IsLineOf, IsNewNext, work_made}
use Rattle.sd_law_chain.proofs.Found.{IsLonger, IsNewest, next_found, then_read, twin_found, with_book}
use Rattle.sd_law_chain.proofs.Said.{commands_are}

-- a step behind one that was not refused
pub ok_then : {A B : Type 0} (calls : ℕ) (first : Result A Status) (next : A → Spec B) (x : A) → first ≡ Ok x →
    (and_then calls first next).result ≡ (next x).result
ok_then calls first next x is = ap (λ r. (and_then calls r next).result) is

not_above : (most n : ℕ) → n ≤ most → nat_lt most n ≡ false
not_above most n h = grind (arith, nat_tests, h)

-- a file that is short enough
pub within_back : (most : ℕ) (status : Status) (bytes : List ℕ) → length bytes ≤ most →
    cond (nat_lt most (length bytes)) (Err status) (Ok bytes) ≡ Ok bytes
within_back most status bytes short =
    ap (λ (t : Bool). cond t (Err status) (Ok bytes)) (not_above most (length bytes) short)

told_back : (word : ℕ) (bytes : Bytes) (most : ℕ) (words : NumberArgument) (said : SiteFields × Option BookLine) →
    said.0.first_period ≤ most → said.0.last_word + words.value ≤ most_word →
    told_newest word bytes most words (Ok said) ≡ Ok said
told_back word bytes most words said low left =
    let room : has_word_room words.value said.0 ≡ true = grind (arith, nat_tests, left) in
    ap (λ (t : Bool). cond t (Err (refused_site word bytes (Range 12))) (cond (has_word_room words.value said.0)
    (Ok said)
    (Err (BadWord words.word)))) (not_above most said.0.first_period low)
    ∙ ap (λ (t : Bool). cond t (Ok said) (Err (BadWord words.word))) room

-- what the file of SITE gives
newest_back : (fewer : List ℕ → SiteFields → Bool) (word most : ℕ) (words : NumberArgument) (bytes : List ℕ)
    (said : SiteFields × Option BookLine) → length bytes ≤ most_site_bytes → site_of_chain fewer bytes ≡ Ok said →
    said.0.first_period ≤ most → said.0.last_word + words.value ≤ most_word →
    (newest_of_file fewer word most words (Some bytes)).result ≡ Ok said
unfolding newest_of_file
newest_back fewer word most words bytes said short says low left =
    ok_then 2 (cond (nat_lt most_site_bytes (length bytes)) (Err (Limit SiteBytes)) (Ok bytes))
    (λ text. of_result (told_newest word text most words (site_of_chain fewer text))) bytes
    (within_back most_site_bytes (Limit SiteBytes) bytes short)
    ∙ ap (told_newest word bytes most words) says
    ∙ told_back word bytes most words said low left

-- what the file of BOOK gives
longer_back : (word d : ℕ) (line : Option BookLine) (bytes : Bytes) (commands : List Command) →
    length bytes ≤ most_book_bytes → begins_with_book line bytes ≡ true → book_of d bytes ≡ Ok commands →
    ends_lines bytes ≡ true → (longer_book_of_file word d line (Some bytes)).result
    ≡ Ok (record { bytes = bytes; commands = commands })
unfolding longer_book_of_file
longer_back word d line bytes commands size begins book ends =
    ok_then 2 (cond (nat_lt most_book_bytes (length bytes)) (Err (Limit BookBytes)) (Ok bytes))
    (λ read. of_result (longer_book_or_status word d line read)) bytes
    (within_back most_book_bytes (Limit BookBytes) bytes size)
    ∙ ap (λ (t : Bool). cond t (whole_book_or_status word bytes (book_or_status word d bytes (book_of d bytes)))
    (Err OtherBook)) begins
    ∙ ap (λ found. whole_book_or_status word bytes (book_or_status word d bytes found)) book
    ∙ ap (λ (t : Bool). cond t (Ok (record { bytes = bytes; commands = commands }))
    (Err (BadBook word (bad_line Unended (length commands) bytes)))) ends

-- what `next` asks of the first bytes of BOOK
abbrev IsOwn : Bytes → Bytes → Type 0
IsOwn book bytes = IsLike (take (length book) bytes) book × EndsLines (take (length book) bytes)

begins_ok : (line : Option BookLine) (book bytes : Bytes) → IsLineOf line book → begins_with_book line bytes ≡ true →
    IsOwn book bytes
begins_ok None book bytes is h = subst (λ (b : Bytes). IsOwn b bytes) (sym is) ((refl, refl), refl)
begins_ok (Some line) book bytes is h =
    let own : Bytes = take (length book) bytes in
    let said : begins_with_book (Some (line_of_book book)) bytes ≡ true =
    ap (λ (l : BookLine). begins_with_book (Some l) bytes) (sym is) ∙ h in
    let one = and_parts (nat_le (length book) (length bytes))
    (ends_lines own && bytes_eq (sha256 own) (sha256 book)) said in
    let two = and_parts (ends_lines own) (bytes_eq (sha256 own) (sha256 book)) one.1 in
    let fits : length book ≤ length bytes = grind (arith, nat_tests, one.0) in
    ((length-take-le (length book) bytes fits, (bytes_eq-Decides (sha256 own) (sha256 book)).0 two.1), two.0)

begins_back : (line : Option BookLine) (book bytes : Bytes) → IsLineOf line book → IsOwn book bytes →
    begins_with_book line bytes ≡ true
begins_back None book bytes is own = refl
begins_back (Some line) book bytes is own =
    let first : Bytes = take (length book) bytes in
    let fits : nat_le (length book) (length bytes) ≡ true =
    grind (arith, nat_tests, length-take (length book) bytes, own.0.0) in
    ap (λ (l : BookLine). begins_with_book (Some l) bytes) is
    ∙ ap (λ (t : Bool). t && (ends_lines first && bytes_eq (sha256 first) (sha256 book))) fits
    ∙ ap (λ (t : Bool). t && bytes_eq (sha256 first) (sha256 book)) own.1
    ∙ equal_bytes (sha256 first) (sha256 book) own.0.1

own_said : (line : Option BookLine) (book bytes : Bytes) → IsLineOf line book →
    own_commands line bytes ≡ commands_said (take (length book) bytes)
own_said None book bytes is = subst (λ (b : Bytes). [] ≡ commands_said (take (length b) bytes)) (sym is) refl
own_said (Some line) book bytes is = ap (λ (l : BookLine). commands_said (take l.size bytes)) is

-- what the next site is made from
abbrev origin_of : Link → Bytes → Origin
origin_of link bytes = record {
  site = link.site;
  own = commands_said (own_bytes link bytes);
  bytes = bytes;
  commands = commands_said bytes;
}

abbrev origin_by : SiteFields → Bytes → List Command → List Command → Origin
origin_by site bytes own commands = record { site = site; own = own; bytes = bytes; commands = commands }

same_origin : (site : SiteFields) (bytes : Bytes) (own its commands more : List Command) → own ≡ its →
    commands ≡ more → origin_by site bytes own commands ≡ origin_by site bytes its more
same_origin site bytes own its commands more p q = rw (p, q) refl

-- what a `next` found if its SITE says the site of a link
abbrev IsFoundBy : NumberArgument → FileArgument → Option Bytes → Work → BookText → SiteFields × Option BookLine →
    Type 0
IsFoundBy words out book_got work text newest =
    (newest.0.first_period ≤ most_word - 1) × (newest.0.last_word + words.value ≤ most_word)
    × IsLonger newest.0.height newest.1 book_got text
    × (work ≡ new_work (next_made (with_book newest text) words.value) out)

taken_by : (link : Link) (line : Option BookLine) (words : NumberArgument) (out : FileArgument)
    (book_got : Option Bytes) (work : Work) (text : BookText) → IsLineOf line link.book → 1 ≤ words.value →
    IsFoundBy words out book_got work text (link.site, line) →
    IsNextTaken link text.bytes words.value × (work ≡ work_made link (Next text.bytes words.value) out)
taken_by link line words out book_got work text is some (period, room, longer, made) =
    let begins = begins_ok line link.book text.bytes is longer.begins in
    let commands = commands_are link.site.height text.bytes text.commands longer.is_book in (
      record {
        left = (some, room);
        period = omega (arith, period);
        size = longer.size;
        begins = begins.0;
        own_ends = begins.1;
        ends = longer.ends;
        book = longer.is_book ∙ ap (λ (c : List Command). Ok c) commands;
      },
      made ∙ ap (λ (o : Origin). new_work (next_made o words.value) out)
          (same_origin link.site text.bytes (own_commands line text.bytes) (commands_said (own_bytes link text.bytes))
          text.commands (commands_said text.bytes) (own_said line link.book text.bytes is) commands),
    )

pub one_some : (a b : Bytes) → Some a ≡ Some b → a ≡ b
one_some a b h = cc

-- what is told of a site and line 13
abbrev told_if : Bool → SiteFields → Option BookLine → Result (SiteFields × Option BookLine) SiteFault
told_if whole site line = if whole then Ok (site, line) else Err Short

said_once : (p q : SiteFields × Option BookLine) → told_if true p.0 p.1 ≡ told_if true q.0 q.1 → p ≡ q
said_once p q h = cc

-- the file of SITE was read, and says what it says
one_newest : (fewer : List ℕ → SiteFields → Bool) (most words : ℕ) (got : Option Bytes) (text : Bytes)
    (said newest : SiteFields × Option BookLine) → got ≡ Some text → site_of_chain fewer text ≡ Ok said →
    IsNewest fewer most words got newest → newest ≡ said
one_newest fewer most words got text said newest given says is =
    let same : is.text ≡ text = one_some is.text text (sym is.there ∙ given) in
    said_once newest said (sym is.says ∙ ap (site_of_chain fewer) same ∙ says)

next_ok : (link : Link) (site book out : FileArgument) (words : NumberArgument) (given : Readings) (text bytes : Bytes)
    (work : Work) → given site ≡ Some text → IsFileOf is_first_site link text → given book ≡ Some bytes →
    1 ≤ words.value →
    (next_meaning site book words out given).result ≡ Ok work →
    (IsNextTaken link bytes words.value × IsNewNext site out given)
    × (work ≡ work_made link (Next bytes words.value) out)
next_ok link site book out words given text bytes work first is second some h =
    let found = next_found site book words out given work h in
    let newest = found.is_newest in
    let same = one_newest is_first_site (most_word - 1) words.value (given site) text (link.site, is.line) found.newest
    first
    is.says newest in
    let by = subst (IsFoundBy words out (given book) work found.text) same
    (newest.period, newest.room, found.longer, found.is_work) in
    let taken = taken_by link is.line words out (given book) work found.text is.book some by in
    let read : found.text.bytes ≡ bytes = one_some found.text.bytes bytes (sym found.longer.there ∙ second) in (
      (subst (λ (b : Bytes). IsNextTaken link b words.value) read taken.0, (found.follow, found.new)),
      subst (λ (b : Bytes). work ≡ work_made link (Next b words.value) out) read taken.1,
    )

-- OUT's name follows that of SITE
name_back : (site out : FileArgument) → follows site.text out.text ≡ true → told_name site out ≡ Ok tt
name_back site out h = ap (λ (t : Bool). cond t (Ok tt) (Err (BadOut out.number Name))) h

-- and nothing has the name
new_back : (made : NewFile) (out : FileArgument) (got : Option (List ℕ)) → got ≡ None →
    (making_new made out got).result ≡ Ok (new_work made out)
new_back made out got is = ap (λ (g : Option (List ℕ)). (making_new made out g).result) is

-- `next`, by what the files gave
abbrev next_by : FileArgument → FileArgument → NumberArgument → FileArgument → Option (List ℕ) → Option (List ℕ) →
    Option (List ℕ) → Spec Work
next_by site book words out site_got book_got out_got =
    of_result (told_name site out) >>= λ named. (origin_of_files site.number book.number words site_got book_got
    >>= λ origin. making_new (next_made origin words.value) out out_got)

next_is : (site book out : FileArgument) (words : NumberArgument) (given : Readings) (text bytes : Bytes) →
    given site ≡ Some text → given book ≡ Some bytes →
    next_meaning site book words out given ≡ next_by site book words out (Some text) (Some bytes) (given out)
unfolding next_meaning
next_is site book out words given text bytes first second =
    ap (λ got. next_by site book words out got (given book) (given out)) first
    ∙ ap (λ got. next_by site book words out (Some text) got (given out)) second

origin_back : (link : Link) (site book : ℕ) (words : NumberArgument) (text bytes : Bytes) →
    IsFileOf is_first_site link text →
    IsNextTaken link bytes words.value →
    (origin_of_files site book words (Some text) (Some bytes)).result ≡ Ok (origin_of link bytes)
unfolding origin_of_files
origin_back link site book words text bytes is taken =
    let said : SiteFields × Option BookLine = (link.site, is.line) in
    let site_read : Spec (SiteFields × Option BookLine) =
    newest_of_file is_first_site site (most_word - 1) words (Some text) in
    let book_read : Spec BookText = longer_book_of_file book link.site.height is.line (Some bytes) in
    let read : BookText = record { bytes = bytes; commands = commands_said bytes } in
    ok_then site_read.calls site_read.result (then_read book (Some bytes)) said
    (newest_back is_first_site site (most_word - 1) words text said is.short is.says (omega (arith, taken.period))
    taken.left.1)
    ∙ ok_then book_read.calls book_read.result (λ t. value (with_book said t)) read
    (longer_back book link.site.height is.line bytes (commands_said bytes) taken.size
    (begins_back is.line link.book bytes is.book (taken.begins, taken.own_ends)) taken.book taken.ends)
    ∙ ap (λ (own : List Command). Ok (origin_by link.site bytes own (commands_said bytes)))
    (own_said is.line link.book bytes is.book)

next_back : (link : Link) (site book out : FileArgument) (words : NumberArgument) (text bytes : Bytes)
    (got : Option (List ℕ)) → IsFileOf is_first_site link text → IsNextTaken link bytes words.value →
    follows site.text out.text ≡ true → got ≡ None →
    (next_by site book words out (Some text) (Some bytes) got).result ≡ Ok (work_made link (Next bytes words.value) out)
next_back link site book out words text bytes got is taken name new =
    let read : Spec Origin = origin_of_files site.number book.number words (Some text) (Some bytes) in
    ok_then 0 (told_name site out) (λ named. read >>= λ origin. making_new (next_made origin words.value) out got) tt
    (name_back site out name)
    ∙ ok_then read.calls read.result (λ origin. making_new (next_made origin words.value) out got)
    (origin_of link bytes) (origin_back link site.number book.number words text bytes is taken)
    ∙ new_back (next_made (origin_of link bytes) words.value) out got new

pub next_exactly : (link : Link) (site book out : FileArgument) (words : NumberArgument) (given : Readings)
    (text bytes : Bytes) → given site ≡ Some text → IsFileOf is_first_site link text → given book ≡ Some bytes →
    1 ≤ words.value →
    ((next_meaning site book words out given).result ≡ Ok (work_made link (Next bytes words.value) out)) ↔
    (IsTaken link (Next bytes words.value) × IsNewNext site out given)
next_exactly link site book out words given text bytes first is second some = (
  λ h. (next_ok link site book out words given text bytes (work_made link (Next bytes words.value) out) first is second
      some h).0,
  λ (taken, (name, new)). ap (λ (s : Spec Work). s.result) (next_is site book out words given text bytes first second)
      ∙ next_back link site book out words text bytes (given out) is taken name new,
)

pub next_alone : (link : Link) (site book out : FileArgument) (words : NumberArgument) (given : Readings)
    (text bytes : Bytes) (work : Work) → given site ≡ Some text → IsFileOf is_first_site link text →
    given book ≡ Some bytes → 1 ≤ words.value → (next_meaning site book words out given).result ≡ Ok work →
    work ≡ work_made link (Next bytes words.value) out
next_alone link site book out words given text bytes work first is second some h =
    (next_ok link site book out words given text bytes work first is second some h).1

-- what a file says that a next site is made from
record SaysSite (fewer : List ℕ → SiteFields → Bool) (bytes : Bytes) (site : SiteFields) (line : Option BookLine) :
    Type 0 where
  site_is : site_of bytes ≡ Ok site
  whole : (are_lines_whole 13 bytes || fewer bytes site) ≡ true
  line_is : book_line_of bytes ≡ line

-- a step behind the site
abbrev site_then : Result SiteFields SiteFault → (SiteFields → Result (SiteFields × Option BookLine) SiteFault) →
    Result (SiteFields × Option BookLine) SiteFault
site_then (Ok site) next = next site
site_then (Err fault) next = Err fault

newest_says : (fewer : List ℕ → SiteFields → Bool) (bytes : Bytes) (site : SiteFields) (line : Option BookLine) →
    site_of_chain fewer bytes ≡ Ok (site, line) → SaysSite fewer bytes site line
unfolding site_of_chain
newest_says fewer bytes site line h = by_site (site_of bytes) refl h
  where
    by_whole : (found : SiteFields) (whole : Bool) → site_of bytes ≡ Ok found →
        (are_lines_whole 13 bytes || fewer bytes found) ≡ whole →
        told_if whole found (book_line_of bytes) ≡ Ok (site, line) → SaysSite fewer bytes site line
    by_whole found true read whole e =
        let pair = said_once (found, book_line_of bytes) (site, line) e in
        let same : found ≡ site = ap (λ p. p.0) pair in
        let told : book_line_of bytes ≡ line = ap (λ p. p.1) pair in
        record {
          site_is = read ∙ ap (λ (s : SiteFields). Ok s) same;
          whole = ap (λ (s : SiteFields). are_lines_whole 13 bytes || fewer bytes s) (sym same) ∙ whole;
          line_is = told;
        }
    by_whole found false read whole e = absurd cc

    by_site : (found : Result SiteFields SiteFault) → site_of bytes ≡ found →
        site_then found (λ s. told_if (are_lines_whole 13 bytes || fewer bytes s) s (book_line_of bytes))
        ≡ Ok (site, line) → SaysSite fewer bytes site line
    by_site (Ok found) read e = by_whole found (are_lines_whole 13 bytes || fewer bytes found) read refl e
    by_site (Err fault) read e = absurd cc

-- a file of thirteen lines has line 13
line_is : (link : Link) (bytes : Bytes) (line : Option BookLine) → site_of_chain none_fewer bytes ≡ Ok (
  link.site,
  line,
) →
    IsLineOf line link.book → line ≡ Some (line_of_book link.book)
line_is link bytes line says is =
    let said = newest_says none_fewer bytes link.site line says in
    by_line line (subst IsSome said.line_is (newest_say bytes link.site false said.site_is said.whole refl)) is
  where
    by_line : (line : Option BookLine) → IsSome line → IsLineOf line link.book → line ≡ Some (line_of_book link.book)
    by_line None some is = absurd (let e = some in cc)
    by_line (Some found) some is = ap (λ (l : BookLine). Some l) is

-- its first period is of line 12's range
first_low : (link : Link) (text : Bytes) → IsFileOf none_fewer link text → link.site.first_period ≤ most_word
first_low link text is =
    (said_is_site text link.site (newest_says none_fewer text link.site is.line is.says).site_is).ranges.first_period.1

-- what a `twin` found if its SITE says the site of a link
abbrev IsTwinBy : NumberArgument → FileArgument → Work → SiteFields × Option BookLine → Type 0
IsTwinBy words out work newest =
    (newest.0.last_word + words.value ≤ most_word) × (work ≡ new_work (twin_made newest.0 newest.1 words.value) out)

twin_ok : (link : Link) (site out : FileArgument) (words : NumberArgument) (given : Readings) (text : Bytes)
    (work : Work) → given site ≡ Some text → IsFileOf none_fewer link text → 1 ≤ words.value →
    (twin_meaning site words out given).result ≡ Ok work →
    (IsTaken link (Twin words.value) × IsNewNext site out given) × (work ≡ work_made link (Twin words.value) out)
twin_ok link site out words given text work first is some h =
    let found = twin_found site words out given work h in
    let same = one_newest none_fewer most_word words.value (given site) text (link.site, is.line) found.newest first
    is.says found.is_newest in
    let by = subst (IsTwinBy words out work) same (found.is_newest.room, found.is_work) in (
      ((some, by.0), (found.follow, found.new)),
      by.1 ∙ ap (λ (l : Option BookLine). new_work (twin_made link.site l words.value) out)
          (line_is link text is.line is.says is.book),
    )

-- `twin`, by what the files gave
abbrev twin_by : FileArgument → NumberArgument → FileArgument → Option (List ℕ) → Option (List ℕ) → Spec Work
twin_by site words out site_got out_got =
    of_result (told_name site out) >>= λ named. (newest_of_file none_fewer site.number most_word words site_got
    >>= λ newest. making_new (twin_made newest.0 newest.1 words.value) out out_got)

twin_is : (site out : FileArgument) (words : NumberArgument) (given : Readings) (text : Bytes) →
    given site ≡ Some text → twin_meaning site words out given ≡ twin_by site words out (Some text) (given out)
unfolding twin_meaning
twin_is site out words given text first = ap (λ got. twin_by site words out got (given out)) first

twin_back : (link : Link) (site out : FileArgument) (words : NumberArgument) (text : Bytes) (got : Option (List ℕ)) →
    IsFileOf none_fewer link text → AreWordsLeft link.site words.value → follows site.text out.text ≡ true →
    got ≡ None →
    (twin_by site words out (Some text) got).result ≡ Ok (work_made link (Twin words.value) out)
twin_back link site out words text got is left name new =
    let said : SiteFields × Option BookLine = (link.site, is.line) in
    let read : Spec (SiteFields × Option BookLine) =
    newest_of_file none_fewer site.number most_word words (Some text) in
    ok_then 0 (told_name site out) (λ named. read >>= λ n. making_new (twin_made n.0 n.1 words.value) out got) tt
    (name_back site out name)
    ∙ ok_then read.calls read.result (λ n. making_new (twin_made n.0 n.1 words.value) out got) said
    (newest_back none_fewer site.number most_word words text said is.short is.says (first_low link text is) left.1)
    ∙ new_back (twin_made link.site is.line words.value) out got new
    ∙ ap (λ (l : Option BookLine). Ok (new_work (twin_made link.site l words.value) out))
    (line_is link text is.line is.says is.book)

pub twin_exactly : (link : Link) (site out : FileArgument) (words : NumberArgument) (given : Readings) (text : Bytes) →
    given site ≡ Some text → IsFileOf none_fewer link text → 1 ≤ words.value →
    ((twin_meaning site words out given).result ≡ Ok (work_made link (Twin words.value) out)) ↔
    (IsTaken link (Twin words.value) × IsNewNext site out given)
twin_exactly link site out words given text first is some = (
  λ h. (twin_ok link site out words given text (work_made link (Twin words.value) out) first is some h).0,
  λ (left, (name, new)). ap (λ (s : Spec Work). s.result) (twin_is site out words given text first)
      ∙ twin_back link site out words text (given out) is left name new,
)

pub twin_alone : (link : Link) (site out : FileArgument) (words : NumberArgument) (given : Readings) (text : Bytes)
    (work : Work) → given site ≡ Some text → IsFileOf none_fewer link text → 1 ≤ words.value →
    (twin_meaning site words out given).result ≡ Ok work → work ≡ work_made link (Twin words.value) out
twin_alone link site out words given text work first is some h =
    (twin_ok link site out words given text work first is some h).1
