-- The book that is that of a site.
use Rattle.std.proofs.Common.{◌≡◌, ℕ, ◌≤◌, ◌==◌, ◌&&◌, Bool, true, cond, nat_lt, List, length, Some, Ok, Err}
use Rattle.std.proofs.Common.{bytes_eq, sym, subst, ap, ◌∙◌, eq-eqb, eqb-true}
use Rattle.std.specs.Prelude.{◌↔◌}
use Rattle.std.proofs.lemmas.Bool.{and_parts}
use Rattle.std.proofs.lemmas.Slice.Eq.{bytes_eq-Decides}
use Rattle.sha2.specs.Sha256.{sha256}
use Rattle.sd_base.specs.Types.{Bytes}
use Rattle.sd_base.proofs.Lists.{equal_bytes}
use Rattle.sd_book.specs.declared.command.Command.{Command}
use Rattle.sd_book.specs.Text.{book_of}
use Rattle.sd_command_base.specs.declared.status.LimitKind.TheVariants.{BookBytes}
use Rattle.sd_command_base.specs.declared.status.Status.TheVariants.{Limit, OtherBook}
use Rattle.sd_command_base.specs.Files.{most_book_bytes, own_book_of_file, book_or_status, own_book_or_status}
use Rattle.sd_command_base.specs.Spec.{of_result, within}
use Rattle.sd_run_books.specs.Chain.{commands_said, line_of_book}
use Rattle.sd_law_chain.specs.Chain.{IsLike, Link}
use Rattle.sd_law_chain.proofs.Found.{book_ok, met, then_ok, within_ok}
use Rattle.sd_law_chain.proofs.Making.{ok_then, one_some, within_back}
use Rattle.sd_law_chain.proofs.Said.{commands_are}

-- a text that is taken for a book is like it
same_like : (book bytes : Bytes) → ((length bytes == length book) && bytes_eq (sha256 bytes) (sha256 book)) ≡ true →
    IsLike bytes book
same_like book bytes h =
    let parts = and_parts (length bytes == length book) (bytes_eq (sha256 bytes) (sha256 book)) h in
    (eqb-true (length bytes) (length book) parts.0, (bytes_eq-Decides (sha256 bytes) (sha256 book)).0 parts.1)

like_same : (book bytes : Bytes) → IsLike bytes book →
    ((length bytes == length book) && bytes_eq (sha256 bytes) (sha256 book)) ≡ true
like_same book bytes like =
    ap (λ (t : Bool). t && bytes_eq (sha256 bytes) (sha256 book)) (eq-eqb (length bytes) (length book) like.0)
    ∙ equal_bytes (sha256 bytes) (sha256 book) like.1

own_ok : (link : Link) (word : ℕ) (bytes : Bytes) (commands : List Command) →
    (own_book_of_file word link.site.height (Some (line_of_book link.book)) (Some bytes)).result ≡ Ok commands →
    (length bytes ≤ most_book_bytes) × IsLike bytes link.book
    × (book_of link.site.height bytes ≡ Ok (commands_said bytes)) × (commands ≡ commands_said bytes)
unfolding own_book_of_file
own_ok link word bytes commands h =
    let line = Some (line_of_book link.book) in
    let (text, read, told) = then_ok (within word most_book_bytes BookBytes (Some bytes))
    (λ text. of_result (own_book_or_status word link.site.height line text)) commands h in
    let (there, size) = within_ok word most_book_bytes BookBytes (Some bytes) text read in
    let same : text ≡ bytes = one_some text bytes (sym there) in
    let own : own_book_or_status word link.site.height line bytes ≡ Ok commands =
    ap (own_book_or_status word link.site.height line) (sym same) ∙ told in
    let parts = met ((length bytes == length link.book) && bytes_eq (sha256 bytes) (sha256 link.book))
    (book_or_status word link.site.height bytes (book_of link.site.height bytes)) commands OtherBook own in
    let book = book_ok word link.site.height bytes (book_of link.site.height bytes) commands parts.1 in
    let said = commands_are link.site.height bytes commands book in (
      subst (λ (b : Bytes). length b ≤ most_book_bytes) same size,
      same_like link.book bytes parts.0,
      book ∙ ap (λ (c : List Command). Ok c) said,
      said,
    )

own_back : (link : Link) (word : ℕ) (bytes : Bytes) (commands : List Command) → length bytes ≤ most_book_bytes →
    IsLike bytes link.book → book_of link.site.height bytes ≡ Ok (commands_said bytes) →
    commands ≡ commands_said bytes →
    (own_book_of_file word link.site.height (Some (line_of_book link.book)) (Some bytes)).result ≡ Ok commands
unfolding own_book_of_file
own_back link word bytes commands size like book same =
    ok_then 2 (cond (nat_lt most_book_bytes (length bytes)) (Err (Limit BookBytes)) (Ok bytes))
    (λ read. of_result (own_book_or_status word link.site.height (Some (line_of_book link.book)) read)) bytes
    (within_back most_book_bytes (Limit BookBytes) bytes size)
    ∙ ap (λ (t : Bool). cond t (book_or_status word link.site.height bytes (book_of link.site.height bytes))
    (Err OtherBook))
    (like_same link.book bytes like)
    ∙ ap (book_or_status word link.site.height bytes) book
    ∙ ap Ok (sym same)

pub own_exactly : (link : Link) (word : ℕ) (bytes : Bytes) (commands : List Command) →
    ((own_book_of_file word link.site.height (Some (line_of_book link.book)) (Some bytes)).result ≡ Ok commands) ↔
    ((length bytes ≤ most_book_bytes) × IsLike bytes link.book
    × (book_of link.site.height bytes ≡ Ok (commands_said bytes)) × (commands ≡ commands_said bytes))
own_exactly link word bytes commands =
    (own_ok link word bytes commands, λ (size, like, book, same). own_back link word bytes commands size like book same)
