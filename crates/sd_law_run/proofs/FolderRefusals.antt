-- When `next` refuses the file of a site.
use Rattle.std.proofs.Common.{arith, ◌≡◌, ◌≢◌, ℕ, zero, suc, ◌+◌, ◌-◌, ◌≤◌, Bool, true, false, cond}
use Rattle.std.proofs.Common.{List, length, Option, Some, None, Result, Ok, Err, refl, sym, ap, subst}
use Rattle.std.proofs.Common.{◌∙◌, nat_lt}
use Rattle.std.specs.FinMap.{get, remove, get-remove}
use Rattle.std.proofs.lemmas.Cmp.{nat_list_cmp_total, eq_by_cmp_equiv}
use Rattle.std.proofs.lemmas.Map.Text.{is_eq-slice_cmp}
use Rattle.std.proofs.lemmas.Option.{same_Some}
use Rattle.sd_base.specs.Types.{Bytes, FileName}
use Rattle.sd_ports.specs.Files.{Files}
use Rattle.sd_site_cards.specs.SiteFields.{SiteFields}
use Rattle.sd_site_cards.specs.Written.{is_first_site, site_of_chain}
use Rattle.sd_site_cards.specs.Chain.{has_word_room, most_word}
use Rattle.sd_site_cards.specs.declared.book_line.BookLine.{BookLine}
use Rattle.sd_site_cards.specs.declared.site_fault.SiteFault.{SiteFault}
use Rattle.sd_site_cards.specs.declared.site_fault.SiteFault.TheVariants.{Range}
use Rattle.sd_book.specs.declared.command.Command.{Command}
use Rattle.sd_book.specs.declared.fault.BookFault.{BookFault}
use Rattle.sd_book.specs.declared.fault.BookFault.TheVariants as book
use Rattle.sd_book.specs.Text.{book_of}
use Rattle.sd_command_base.specs.declared.status.Status.{Status}
use Rattle.sd_command_base.specs.declared.status.Status.TheVariants.{BadBook, BadOut, BadSite, BadWord, Limit}
use Rattle.sd_command_base.specs.declared.status.Status.TheVariants.{OtherBook}
use Rattle.sd_command_base.specs.declared.bad_line.Excerpt.{Excerpt}
use Rattle.sd_command_base.specs.declared.bad_line.LineCause.TheVariants.{Unended}
use Rattle.sd_command_base.specs.BadLines.{bad_line}
use Rattle.sd_command_base.specs.declared.status.LimitKind.{LimitKind}
use Rattle.sd_command_base.specs.declared.status.LimitKind.TheVariants.{BookBytes, SiteBytes}
use Rattle.sd_command_base.specs.declared.status.OutCause.TheVariants.{Name}
use Rattle.sd_command_base.specs.Spec.{FileArgument, Readings, Spec, and_then, contents_of, of_result, within}
use Rattle.sd_command_base.specs.Spec.{◌>>=◌}
use Rattle.sd_command_base.specs.Shown.{NumberArgument}
use Rattle.sd_command_base.specs.Files.{begins_with_book, ends_lines, longer_book_of_file, most_book_bytes}
use Rattle.sd_command_base.specs.Files.{most_site_bytes, refused_book, refused_site, book_or_status}
use Rattle.sd_command_base.specs.Files.{longer_book_or_status, whole_book_or_status}
use Rattle.sd_command_base.specs.Made.{NewFile, making_new}
use Rattle.sd_command_line.specs.Words.{NextOf, order_of}
use Rattle.sd_run.specs.Meaning.{meaning}
use Rattle.sd_run_books.specs.SiteNames.{follows}
use Rattle.sd_run_books.specs.Chain.{line_of_book, newest_of_file, told_name, told_newest}
use Rattle.sd_run_books.specs.Next.{next_made, next_meaning, origin_of_files}
use Rattle.sd_law_formats.proofs.ShortSites.{short_written}
use Rattle.sd_law_formats.proofs.TornLines.{torn_in_range}
use Rattle.sd_law_formats.proofs.WrittenSites.{site_read}
use Rattle.std.proofs.Common.{le-ltb}
use Rattle.std.proofs.lemmas.List.{length-append}
use Rattle.sd_law_chain.specs.Chain.{Call, Link, link_at, made_by}
use Rattle.sd_law_chain.proofs.Rising.{all_are_sayable}
use Rattle.sd_law_run.specs.Folders.{HasName, HoldsChain, IsFolder, IsTorn, site_name_at, text_of_link}
use Rattle.sd_law_run.proofs.FolderFiles.{apart, first_name}
use Rattle.sd_law_run.proofs.Shelf.{apart_texts}
use Rattle.sd_law_run.proofs.FolderEnds.{meant_so}
use Rattle.sd_law_run.proofs.FolderRuns.{made_sayable, torn_dead}
use Rattle.sd_law_chain.proofs.Found.{within_ok}

-- a status says nothing of the file of SITE, but that line 12 is out of range
abbrev IsClean : Status → Type 0
IsClean status = (word : ℕ) (fault : SiteFault) (text : Excerpt) → status ≡ BadSite word fault text → fault ≡ Range 12

-- so it is of a result
abbrev IsCleared : {A : Type 0} → Result A Status → Type 0
IsCleared (Ok x) = Unit {0}
IsCleared (Err status) = IsClean status

-- of steps, if it is of each
then_cleared : {A B : Type 0} (first : Spec A) (next : A → Spec B) → IsCleared first.result →
    ((x : A) → first.result ≡ Ok x → IsCleared (next x).result) → IsCleared (first >>= next).result
then_cleared {A} {B} first next clear later = by_result first.result clear later
  where
    by_result : (r : Result A Status) → IsCleared r → ((x : A) → r ≡ Ok x → IsCleared (next x).result) →
        IsCleared (and_then first.calls r next).result
    by_result (Ok x) clean after = after x refl
    by_result (Err status) clean after = clean

-- of a test, if it is of what follows
unless_cleared : {A : Type 0} (b : Bool) (status : Status) (r : Result A Status) → IsClean status → IsCleared r →
    IsCleared (cond b (Err status) r)
unless_cleared true status r clean rest = clean
unless_cleared false status r clean rest = rest

if_cleared : {A : Type 0} (b : Bool) (status : Status) (r : Result A Status) → IsClean status → IsCleared r →
    IsCleared (cond b r (Err status))
if_cleared true status r clean rest = rest
if_cleared false status r clean rest = clean

-- of a file within a limit
within_cleared : (word most : ℕ) (kind : LimitKind) (got : Option Bytes) → IsCleared (within word most kind got).result
within_cleared word most kind None = λ w f t e. absurd cc
within_cleared word most kind (Some bytes) =
    unless_cleared (nat_lt most (length bytes)) (Limit kind) (Ok bytes) (λ w f t e. absurd cc) tt

-- of a book
refused_clean : (word d : ℕ) (bytes : Bytes) (fault : BookFault) → IsClean (refused_book word d bytes fault)
refused_clean word d bytes (book.Line k) = λ w f t e. absurd cc
refused_clean word d bytes (book.Leaf k) = λ w f t e. absurd cc
refused_clean word d bytes (book.Limit limit) = λ w f t e. absurd cc
refused_clean word d bytes book.NoMemory = λ w f t e. absurd cc

whole_cleared : (word d : ℕ) (bytes : Bytes) (said : Result (List Command) BookFault) →
    IsCleared (whole_book_or_status word bytes (book_or_status word d bytes said))
whole_cleared word d bytes (Err fault) = refused_clean word d bytes fault
whole_cleared word d bytes (Ok commands) =
    if_cleared (ends_lines bytes) (BadBook word (bad_line Unended (length commands) bytes))
    (Ok (record { bytes = bytes; commands = commands }))
    (λ w f t e. absurd cc) tt

longer_cleared : (word height : ℕ) (line : Option BookLine) (got : Option Bytes) →
    IsCleared (longer_book_of_file word height line got).result
unfolding longer_book_of_file
longer_cleared word height line got =
    then_cleared (within word most_book_bytes BookBytes got)
    (λ bytes. of_result (longer_book_or_status word height line bytes))
    (within_cleared word most_book_bytes BookBytes got)
    (λ bytes read. if_cleared (begins_with_book line bytes) OtherBook
    (whole_book_or_status word bytes (book_or_status word height bytes (book_of height bytes))) (λ w f t e. absurd cc)
    (whole_cleared word height bytes (book_of height bytes)))

-- of a name and of a new file
name_cleared : (site out : FileArgument) → IsCleared (told_name site out)
name_cleared site out =
    if_cleared (follows site.text out.text) (BadOut out.number Name) (Ok tt) (λ w f t e. absurd cc) tt

new_cleared : (made : NewFile) (out : FileArgument) (got : Option Bytes) → IsCleared (making_new made out got).result
new_cleared made out None = tt
new_cleared made out (Some bytes) = λ w f t e. absurd cc

-- of a site that is good
told_cleared : (word : ℕ) (bytes : Bytes) (most : ℕ) (words : NumberArgument)
    (said : Result (SiteFields × Option BookLine) SiteFault) (newest : SiteFields × Option BookLine) →
    said ≡ Ok newest →
    IsCleared (told_newest word bytes most words said)
told_cleared word bytes most words (Err fault) newest e = absurd cc
told_cleared word bytes most words (Ok found) newest e =
    unless_cleared (nat_lt most found.0.first_period) (refused_site word bytes (Range 12)) _ (λ w f t same. cc)
    (if_cleared (has_word_room words.value found.0) (BadWord words.word) (Ok found) (λ w f t same. absurd cc) tt)

newest_cleared : (word most : ℕ) (words : NumberArgument) (text : Bytes) (newest : SiteFields × Option BookLine) →
    site_of_chain is_first_site text ≡ Ok newest → IsCleared (newest_of_file is_first_site word most words
    (Some text)).result
unfolding newest_of_file
newest_cleared word most words text newest says =
    then_cleared (within word most_site_bytes SiteBytes (Some text))
    (λ bytes. of_result (told_newest word bytes most words (site_of_chain is_first_site bytes)))
    (within_cleared word most_site_bytes SiteBytes (Some text))
    (λ bytes read. told_cleared word bytes most words (site_of_chain is_first_site bytes) newest
    (ap (site_of_chain is_first_site)
    (sym (same_Some text bytes (within_ok word most_site_bytes SiteBytes (Some text) bytes read).0))
    ∙ says))

-- so `next` from such a site has no other fault of it
next_cleared : (site book : FileArgument) (words : NumberArgument) (out : FileArgument) (given : Readings)
    (text : Bytes) (newest : SiteFields × Option BookLine) → given site ≡ Some text →
    site_of_chain is_first_site text ≡ Ok newest → IsCleared (next_meaning site book words out given).result
unfolding next_meaning origin_of_files
next_cleared site book words out given text newest there says =
    let read = subst (λ (got : Option Bytes).
    IsCleared (newest_of_file is_first_site site.number (most_word - 1) words got).result) (sym there)
    (newest_cleared site.number (most_word - 1) words text newest says) in
    then_cleared (of_result (told_name site out)) _ (name_cleared site out)
    (λ named is_named. then_cleared (origin_of_files site.number book.number words (given site) (given book)) _
    (then_cleared (newest_of_file is_first_site site.number (most_word - 1) words (given site)) _ read
    (λ found is_found. then_cleared (longer_book_of_file book.number found.0.height found.1 (given book)) _
    (longer_cleared book.number found.0.height found.1 (given book)) (λ longer is_longer. tt)))
    (λ origin is_origin. new_cleared (next_made origin words.value) out (given out)))

cleared_is : {A : Type 0} (r : Result A Status) (word : ℕ) (fault : SiteFault) (text : Excerpt) → IsCleared r →
    r ≡ Err (BadSite word fault text) → fault ≡ Range 12
cleared_is (Ok x) word fault text clear e = absurd cc
cleared_is (Err status) word fault text clear e = clear word fault text cc

-- the sites of a chain are read
site_there : (files : Files) (name : FileName) (root : Link) (calls : List Call) (above : Option Bytes) (i : ℕ) →
    HoldsChain files name root calls above → i ≤ length calls →
    (text : Bytes) × (get files (site_name_at name i) ≡ Some text)
    × ((newest : SiteFields × Option BookLine) × (site_of_chain is_first_site text ≡ Ok newest))
site_there files name root calls above zero holds low = (
  holds.bytes,
  ap (get files) (sym (first_name holds)) ∙ holds.there,
  ((root.site, holds.first.line), holds.first.says),
)
site_there files name root calls above (suc k) holds low =
    let link = link_at root calls (suc k) in (
      text_of_link link,
      holds.made (suc k) (omega arith) low,
      (
        (link.site, Some (line_of_book link.book)),
        site_read is_first_site link.site (line_of_book link.book)
            (all_are_sayable root calls (suc k) holds.is_chain low),
      ),
    )

-- `next` from a site of a chain has no fault of its file, but that line 12 is out of range
pub chain_cleared : (words : List Bytes) (files : Files) (name : FileName) (root : Link) (calls : List Call)
    (above : Option Bytes) (i : ℕ) (site book : FileArgument) (count : NumberArgument) (out : FileArgument) (word : ℕ)
    (fault : SiteFault) (shown : Excerpt) → HoldsChain files name root calls above → i ≤ length calls →
    order_of words ≡ Ok (NextOf site book count out) → site.text ≡ site_name_at name i →
    (meaning words (contents_of files)).result ≡ Err (BadSite word fault shown) → fault ≡ Range 12
chain_cleared words files name root calls above i site book count out word fault shown holds low order at refused =
    let (text, there, (newest, says)) = site_there files name root calls above i holds low in
    let clear = next_cleared site book count out (contents_of files) text newest (ap (get files) at ∙ there) says in
    cleared_is (next_meaning site book count out (contents_of files)).result word fault shown clear
    (sym (meant_so words (NextOf site book count out) (contents_of files) order) ∙ refused)

-- a torn site is refused
bad_or_good : (text : Bytes) → ((newest : SiteFields × Option BookLine) → site_of_chain is_first_site text
    ≡ Ok newest → ⊥) →
    (fault : SiteFault) × (site_of_chain is_first_site text ≡ Err fault)
bad_or_good text never = by_result (site_of_chain is_first_site text) never
  where
    by_result : (r : Result (SiteFields × Option BookLine) SiteFault) →
        ((newest : SiteFields × Option BookLine) → r ≡ Ok newest → ⊥) → (fault : SiteFault) × (r ≡ Err fault)
    by_result (Ok newest) none = absurd (none newest refl)
    by_result (Err fault) none = (fault, refl)

-- steps of which the first came to a value, or was refused
then_value : {A B : Type 0} (first : Spec A) (next : A → Spec B) (x : A) → first.result ≡ Ok x →
    (first >>= next).result ≡ (next x).result
then_value {A} {B} first next x e = ap (λ (r : Result A Status). (and_then first.calls r next).result) e

then_refused : {A B : Type 0} (first : Spec A) (next : A → Spec B) (status : Status) → first.result ≡ Err status →
    (first >>= next).result ≡ Err status
then_refused {A} {B} first next status e = ap (λ (r : Result A Status). (and_then first.calls r next).result) e

-- a site that is no good is refused
site_refused : (word most : ℕ) (words : NumberArgument) (text : Bytes) (fault : SiteFault) → length text ≤ 4096 →
    site_of_chain is_first_site text ≡ Err fault →
    (newest_of_file is_first_site word most words (Some text)).result ≡ Err (refused_site word text fault)
unfolding newest_of_file
site_refused word most words text fault short bad =
    then_value (within word most_site_bytes SiteBytes (Some text))
    (λ bytes. of_result (told_newest word bytes most words (site_of_chain is_first_site bytes))) text
    (ap (λ (b : Bool). cond b (Err (Limit SiteBytes)) (Ok text)) (le-ltb _ _ short))
    ∙ ap (told_newest word text most words) bad

-- by `next`
next_refused : (site book : FileArgument) (words : NumberArgument) (out : FileArgument) (given : Readings)
    (text : Bytes) (fault : SiteFault) → given site ≡ Some text → length text ≤ 4096 →
    follows site.text out.text ≡ true → site_of_chain is_first_site text ≡ Err fault →
    (next_meaning site book words out given).result ≡ Err (refused_site site.number text fault)
unfolding next_meaning origin_of_files
next_refused site book words out given text fault there short follow bad =
    let read = ap (λ (got : Option Bytes).
    (newest_of_file is_first_site site.number (most_word - 1) words got).result) there
    ∙ site_refused site.number (most_word - 1) words text fault short bad in
    then_value (of_result (told_name site out)) _ tt
    (ap (λ (b : Bool). cond b (Ok tt) (Err (BadOut out.number Name))) follow)
    ∙ then_refused (origin_of_files site.number book.number words (given site) (given book)) _
    (refused_site site.number text fault)
    (then_refused (newest_of_file is_first_site site.number (most_word - 1) words (given site)) _
    (refused_site site.number text fault) read)

pub torn_refused : (words : List Bytes) (files : Files) (name : FileName) (root : Link) (calls : List Call)
    (site book : FileArgument) (count : NumberArgument) (out : FileArgument) →
    (is : IsTorn files name root calls) → order_of words ≡ Ok (NextOf site book count out) →
    site.text ≡ site_name_at name (length calls + 1) → follows site.text out.text ≡ true →
    (fault : SiteFault) × (fault ≢ Range 12)
    × ((meaning words (contents_of files)).result ≡ Err (refused_site site.number is.torn fault))
torn_refused words files name root calls site book count out is order at follow =
    let made = made_by (link_at root calls (length calls)) is.call in
    let sayable = (made_sayable root calls is.call is.holds.is_chain is.taken).0 in
    let long : length is.torn + length is.prefix.0 ≡ length (text_of_link made) =
    sym (length-append is.torn is.prefix.0) ∙ ap (λ (r : Bytes). length r) is.prefix.1 in
    let short : length is.torn ≤ 4096 =
    omega (arith, long, short_written made.site (line_of_book made.book) sayable) in
    let (fault, bad) =
    bad_or_good is.torn (λ newest read. torn_dead files name root calls is is.torn newest refl read) in (
      fault,
      λ same. torn_in_range made.site (line_of_book made.book) is.torn sayable is.prefix
          (bad ∙ ap (λ (f : SiteFault). Err f) same),
      meant_so words (NextOf site book count out) (contents_of files) order
          ∙ next_refused site book count out (contents_of files) is.torn fault
          (ap (get files) at ∙ is.holds.next is.named) short follow bad,
    )

-- the file of a name is removed
removed_stay : (files : Files) (at other : FileName) → other ≢ at → get (remove files at) other ≡ get files other
removed_stay files at other apart =
    get-remove nat_list_cmp_total files at other
    ∙ ap (λ (b : Bool). cond b None (get files other)) (is_eq-slice_cmp other at ∙ apart_texts other at apart)

removed_gone : (files : Files) (at : FileName) → get (remove files at) at ≡ None
removed_gone files at =
    get-remove nat_list_cmp_total files at at
    ∙ ap (λ (b : Bool). cond b None (get files at)) ((eq_by_cmp_equiv nat_list_cmp_total).refl at)

-- once a torn site is removed, the folder holds the chain alone
pub torn_removed : (files : Files) (name : FileName) (root : Link) (calls : List Call) → IsTorn files name root calls →
    IsFolder (remove files (site_name_at name (length calls + 1))) name root calls
torn_removed files name root calls is =
    let holds = is.holds in
    let at = site_name_at name (length calls + 1) in
    let stays : (i : ℕ) → HasName name i → i ≢ length calls + 1 →
    get (remove files at) (site_name_at name i) ≡ get files (site_name_at name i) =
    λ i low other. removed_stay files at (site_name_at name i) (apart holds i (length calls + 1) low is.named other) in
    let first = first_name holds in
    record {
      is_chain = holds.is_chain;
      numbered = holds.numbered;
      named = holds.named;
      bytes = holds.bytes;
      there = ap (get (remove files at)) first ∙ (stays 0 (omega (arith, is.named)) (λ e. absurd (omega (arith, e)))
          ∙ (ap (get files) (sym first) ∙ holds.there));
      first = holds.first;
      made = λ i some low. stays i (omega (arith, is.named, low)) (λ e. absurd (omega (arith, e, low)))
          ∙ holds.made i some low;
      next = λ low. removed_gone files at;
      free = λ i high low. stays i low (λ e. absurd (omega (arith, e, high))) ∙ holds.free i high low;
    }
