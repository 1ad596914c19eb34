-- The call of a chain that a run makes.
use Rattle.std.proofs.Common.{arith, ◌≡◌, inl, inr, ℕ, zero, suc, ◌+◌, ◌≤◌, ◌||◌, Bool, true, false, cond, List, length}
use Rattle.std.proofs.Common.{Option, Some, None, Result, Ok, Err, refl, sym, ap, subst, ◌∙◌}
use Rattle.std.proofs.lemmas.Bool.{cases_lt}
use Rattle.std.proofs.lemmas.Option.{same_Some}
use Rattle.std.specs.FinMap.{get}
use Rattle.std.specs.Result.{result_unwrap_or}
use Rattle.sd_base.specs.Types.{Bytes, FileName}
use Rattle.sd_ports.specs.Files.{Files}
use Rattle.sd_site_cards.specs.SiteFields.{SiteFields}
use Rattle.sd_site_cards.specs.Text.{◌>>=◌, site_of, book_line_of}
use Rattle.sd_site_cards.specs.Written.{site_of_chain, is_first_site, are_lines_whole, none_fewer}
use Rattle.sd_site_cards.specs.declared.book_line.BookLine.{BookLine}
use Rattle.sd_site_cards.specs.declared.site_fault.SiteFault.{SiteFault}
use Rattle.sd_site_cards.specs.declared.site_fault.SiteFault.TheVariants.{Short}
use Rattle.sd_command_base.specs.Spec.{FileArgument, contents_of}
use Rattle.sd_command_base.specs.Shown.{NumberArgument}
use Rattle.sd_command_base.specs.Work.{Work}
use Rattle.sd_run_books.specs.Chain.{line_of_book}
use Rattle.sd_run_books.specs.Next.{next_meaning}
use Rattle.sd_run_books.specs.SiteNames.{follows}
use Rattle.sd_run_books.specs.Twin.{twin_meaning}
use Rattle.sd_law_formats.proofs.ShortSites.{short_written}
use Rattle.sd_law_formats.proofs.WrittenSites.{site_read}
use Rattle.sd_law_chain.specs.Chain.{Call, IsTaken, Link, Next, Twin, link_at}
use Rattle.sd_law_chain.specs.Made.{IsFileOf, work_made}
use Rattle.sd_law_chain.proofs.Found.{next_found, twin_found}
use Rattle.sd_law_chain.proofs.Links.{first_link}
use Rattle.sd_law_chain.proofs.Making.{next_alone, next_exactly, twin_alone, twin_exactly}
use Rattle.sd_law_chain.proofs.Rising.{all_are_sayable}
use Rattle.sd_law_run.specs.Folders.{last_number_in, site_name_at, HasName, text_of_link, HoldsChain}
use Rattle.sd_law_run.proofs.FolderFiles.{first_name}
use Rattle.sd_law_run.proofs.FolderNames.{named_before}

-- what is above a chain makes no site
abbrev pub IsDead : Option Bytes → Type 0
IsDead above = (torn : Bytes) (newest : SiteFields × Option BookLine) → above ≡ Some torn →
    site_of_chain is_first_site torn ≡ Ok newest → ⊥

-- a result has one value
one_newest : (r : Result (SiteFields × Option BookLine) SiteFault) (x y : SiteFields × Option BookLine) →
    r ≡ Ok x → r ≡ Ok y → x ≡ y
one_newest r x y is same = ap (λ (s : Result (SiteFields × Option BookLine) SiteFault). result_unwrap_or s x)
    (sym is ∙ same)

-- what `twin` takes, `next` takes too
pub taken_by_both : (text : Bytes) (newest : SiteFields × Option BookLine) → site_of_chain none_fewer text ≡ Ok newest →
    site_of_chain is_first_site text ≡ Ok newest
unfolding site_of_chain
taken_by_both text newest e = by_said (site_of text) (are_lines_whole 13 text) e
  where
    by_said : (said : Result SiteFields SiteFault) (thirteen : Bool) →
        (said >>= λ site. cond (thirteen || false) (Ok (site, book_line_of text)) (Err Short)) ≡ Ok newest →
        (said >>= λ site. cond (thirteen || is_first_site text site) (Ok (site, book_line_of text)) (Err Short))
        ≡ Ok newest
    by_said (Err fault) thirteen h = absurd cc
    by_said (Ok site) true h = h
    by_said (Ok site) false h = absurd cc

-- the last site of a chain has its file
last_file : (files : Files) (name : FileName) (root : Link) (calls : List Call) (above : Option Bytes) (text : Bytes) →
    HoldsChain files name root calls above → (n : ℕ) → n ≡ length calls → get files (site_name_at name n) ≡ Some text →
    IsFileOf is_first_site (link_at root calls n) text
last_file files name root calls above text holds zero is there =
    let same : holds.bytes ≡ text =
    same_Some holds.bytes text (sym holds.there ∙ (ap (get files) (first_name holds) ∙ there)) in
    subst (λ (l : Link). IsFileOf is_first_site l text) (sym (first_link root calls))
    (subst (IsFileOf is_first_site root) same holds.first)
last_file files name root calls above text holds (suc k) is there =
    let link = link_at root calls (suc k) in
    let sayable = all_are_sayable root calls (suc k) holds.is_chain (omega (arith, is)) in
    let same : text_of_link link ≡ text =
    same_Some (text_of_link link) text (sym (holds.made (suc k) (omega arith) (omega (arith, is))) ∙ there) in
    subst (IsFileOf is_first_site link) same (record {
      short = omega (arith, short_written link.site (line_of_book link.book) sayable);
      line = Some (line_of_book link.book);
      says = site_read is_first_site link.site (line_of_book link.book) sayable;
      book = refl;
    })

-- no file is there, or one is
nothing_there : (got : Option Bytes) (bytes : Bytes) → got ≡ None → got ≡ Some bytes → ⊥
nothing_there got bytes none some = let e = sym none ∙ some in cc

-- If a site is made of one that is read, and its name is a chain's, it is the next one, and is made of the last one.
record IsLast (root : Link) (calls : List Call) (above : Option Bytes) (i : ℕ) (text : Bytes) : Type 0 where
  at : i ≡ length calls + 1
  none : above ≡ None
  is_file : IsFileOf is_first_site (link_at root calls (length calls)) text

last_read : (files : Files) (name : FileName) (root : Link) (calls : List Call) (above : Option Bytes) (i : ℕ)
    (site out text : Bytes) (newest : SiteFields × Option BookLine) → HoldsChain files name root calls above →
    IsDead above → HasName name i → out ≡ site_name_at name i → follows site out ≡ true → get files out ≡ None →
    get files site ≡ Some text → site_of_chain is_first_site text ≡ Ok newest → IsLast root calls above i text
last_read files name root calls above zero site out text newest holds dead named at follow new there says =
    absurd (nothing_there (get files out) holds.bytes new (ap (get files) (at ∙ sym (first_name holds)) ∙ holds.there))
last_read files name root calls above (suc k) site out text newest holds dead named at follow new there says =
    let before : site ≡ site_name_at name k =
    named_before name site out (last_number_in name) k holds.numbered named at follow in
    let is : get files (site_name_at name k) ≡ Some text = ap (get files) (sym before) ∙ there in
    let free : get files (site_name_at name (suc k)) ≡ None = ap (get files) (sym at) ∙ new in
    elim (cases_lt k (length calls)) [
      | inl lt ↦
          absurd (nothing_there (get files (site_name_at name (suc k))) (text_of_link (link_at root calls (suc k))) free
          (holds.made (suc k) (omega arith) (omega (arith, lt))))
      | inr least ↦ elim (cases_lt (length calls) k) [
        | inl gt ↦ elim (cases_lt (length calls + 1) k) [
          | inl past ↦ absurd (nothing_there (get files (site_name_at name k)) text
              (holds.free k past (omega (arith, named))) is)
          | inr most ↦
              let one : k ≡ length calls + 1 = omega (arith, gt, most) in
              let has : HasName name (length calls + 1) = omega (arith, named, one) in
              absurd (dead text newest (sym (holds.next has)
              ∙ (ap (λ (j : ℕ). get files (site_name_at name j)) (sym one) ∙ is)) says)
        ]
        | inr most ↦
            let last : k ≡ length calls = omega (arith, least, most) in
            let one : suc k ≡ length calls + 1 = omega (arith, last) in
            record {
              at = one;
              none = sym (holds.next (omega (arith, named, one)))
                  ∙ (ap (λ (j : ℕ). get files (site_name_at name j)) (sym one) ∙ free);
              is_file = subst (λ (j : ℕ). IsFileOf is_first_site (link_at root calls j) text) last
                  (last_file files name root calls above text holds k last is);
            }
      ]
    ]

-- the call of a run that makes a site of a chain, and its work
pub record IsCall (root : Link) (calls : List Call) (above : Option Bytes) (i : ℕ) (call : Call) (out : FileArgument)
    (work : Work) : Type 0 where
  pub at : i ≡ length calls + 1
  pub none : above ≡ None
  pub taken : IsTaken (link_at root calls (length calls)) call
  pub makes : work ≡ work_made (link_at root calls (length calls)) call out

-- `next` with its BOOK
pub next_call : (files : Files) (name : FileName) (root : Link) (calls : List Call) (above : Option Bytes) (i : ℕ)
    (site book : FileArgument) (words : NumberArgument) (out : FileArgument) (work : Work) →
    HoldsChain files name root calls above → IsDead above → HasName name i → out.text ≡ site_name_at name i →
    1 ≤ words.value → (next_meaning site book words out (contents_of files)).result ≡ Ok work →
    (bytes : Bytes) × (get files book.text ≡ Some bytes)
    × IsCall root calls above i (Next bytes words.value) out work
next_call files name root calls above i site book words out work holds dead named at some is =
    let found = next_found site book words out (contents_of files) work is in
    let newest = found.is_newest in
    let last = last_read files name root calls above i site.text out.text newest.text found.newest holds dead named at
    found.follow found.new newest.there newest.says in
    let link = link_at root calls (length calls) in
    let bytes = found.text.bytes in
    let same = next_alone link site book out words (contents_of files) newest.text bytes work newest.there last.is_file
    found.longer.there some is in
    let taken = (next_exactly link site book out words (contents_of files) newest.text bytes newest.there last.is_file
    found.longer.there some).0 (is ∙ ap Ok same) in
    (bytes, found.longer.there, record { at = last.at; none = last.none; taken = taken.0; makes = same })

-- a file that both read says one thing
file_of_both : (link : Link) (text : Bytes) (newest : SiteFields × Option BookLine) → IsFileOf is_first_site link text →
    site_of_chain none_fewer text ≡ Ok newest → IsFileOf none_fewer link text
file_of_both link text newest is says =
    let same =
    one_newest (site_of_chain is_first_site text) newest (link.site, is.line) (taken_by_both text newest says) is.says
    in
    record { short = is.short; line = is.line; says = says ∙ ap Ok same; book = is.book }

-- `twin`
pub twin_call : (files : Files) (name : FileName) (root : Link) (calls : List Call) (above : Option Bytes) (i : ℕ)
    (site : FileArgument) (words : NumberArgument) (out : FileArgument) (work : Work) →
    HoldsChain files name root calls above → IsDead above → HasName name i → out.text ≡ site_name_at name i →
    1 ≤ words.value → (twin_meaning site words out (contents_of files)).result ≡ Ok work →
    IsCall root calls above i (Twin words.value) out work
twin_call files name root calls above i site words out work holds dead named at some is =
    let found = twin_found site words out (contents_of files) work is in
    let newest = found.is_newest in
    let last = last_read files name root calls above i site.text out.text newest.text found.newest holds dead named at
    found.follow found.new newest.there (taken_by_both newest.text found.newest newest.says) in
    let link = link_at root calls (length calls) in
    let file = file_of_both link newest.text found.newest last.is_file newest.says in
    let same = twin_alone link site out words (contents_of files) newest.text work newest.there file some is in
    let taken = (twin_exactly link site out words (contents_of files) newest.text newest.there file some).0
    (is ∙ ap Ok same) in
    record { at = last.at; none = last.none; taken = taken.0; makes = same }
