-- Sections that this project writes are read as they were written.
use Rattle.std.proofs.Common.{ℕ, ◌+◌, ◌-◌, ◌*◌, ◌/◌, ◌%◌, ◌^◌, ◌<◌, ◌≤◌, ◌≡◌, Bool, true, List, [], ◌++◌, length, take}
use Rattle.std.proofs.Common.{drop, length-append, append-nil, append_assoc, eq-eqb, refl, sym, ap, subst, ◌∙◌, arith}
use Rattle.std.specs.Prelude.{None, slice_index, ◌==◌}
use Rattle.std.specs.Int.{w32, to_be_bytes}
use Rattle.std.proofs.lemmas.Bool.{le-leb}
use Rattle.std.proofs.lemmas.List.{take_at, drop_at}
use Rattle.sd_base.specs.Bits.{field}
use Rattle.sd_base.proofs.Fields.{field_below, field_split}
use Rattle.sd_base.proofs.Words.{byte_field}
use Rattle.sd_section.specs.Crc.{crc_of}
use Rattle.sd_section.proofs.Words.{crc_below}
use Rattle.sd_section.specs.Header.{syntax_of, private_bit, section_length_of, extension_of, section_version_number}
use Rattle.sd_section.specs.Header.{current_of}
use Rattle.sd_section.specs.Header.{whole_of, body_of, crc_in, crc_due}
use Rattle.sd_section.specs.Judged.{section_fault_unless, crc_fault, section_fault}
use Rattle.sd_section.specs.Written.{header_bytes, with_crc, section_bytes, FitsHeaderFields, IsWrittenSection}
use Rattle.sd_section.specs.declared.fault.SectionFault.TheVariants.{Crc}
use Rattle.sd_section.specs.declared.write.Header.{Header}

-- a list of four bytes as a number
four_field : (xs : List ℕ) → slice_index xs 0 < 256 → slice_index xs 1 < 256 → slice_index xs 2 < 256 → slice_index xs 3
    < 256 →
    field xs 0 32 ≡ ((slice_index xs 0 * 256 + slice_index xs 1) * 256 + slice_index xs 2) * 256 + slice_index xs 3
four_field xs h0 h1 h2 h3 =
    let b0 = byte_field xs 0 h0 in
    let b1 = byte_field xs 1 h1 in
    let b2 = byte_field xs 2 h2 in
    let b3 = byte_field xs 3 h3 in
    omega (arith, field_split xs 0 24 8, field_split xs 0 16 8, field_split xs 0 8 8)

-- a number of four bytes is read from them
number_again : (n : ℕ) → n < 2 ^ 32 → field (to_be_bytes w32 n) 0 32 ≡ n
number_again n h = four_field (to_be_bytes w32 n) (omega arith) (omega arith) (omega arith) (omega arith) ∙ omega arith

-- the CRC of sealed bytes
sealed_long : (head : List ℕ) → length (with_crc head) - 4 ≡ length head
sealed_long head = omega (arith, length-append head (to_be_bytes w32 (crc_of head)))

pub crc_is_read : (head : List ℕ) → crc_in (with_crc head) ≡ crc_of head
unfolding crc_in
crc_is_read head =
    ap (λ (n : ℕ). field (drop n (with_crc head)) 0 32) (sealed_long head)
    ∙ (ap (λ (l : List ℕ). field l 0 32) (drop_at head (to_be_bytes w32 (crc_of head)) (length head) refl) ∙
    number_again (crc_of head) (crc_below head))

pub crc_is_due : (head : List ℕ) → crc_due (with_crc head) ≡ crc_of head
unfolding crc_due
crc_is_due head =
    ap (λ (n : ℕ). crc_of (take n (with_crc head))) (sealed_long head) ∙
    ap crc_of (take_at head (to_be_bytes w32 (crc_of head)) (length head) refl)

-- the fields of bytes that begin with a header
pub record HasHeader (header : Header) (body : ℕ) (section : List ℕ) : Type 0 where
  pub table_id : field section 0 8 ≡ header.table_id
  pub syntax : syntax_of section ≡ 1
  pub private : private_bit section ≡ 0
  pub section_length : section_length_of section ≡ body + 9
  pub extension : extension_of section ≡ header.extension
  pub version : section_version_number section ≡ 0
  pub current : current_of section ≡ 1
  pub number : field section 48 8 ≡ header.number
  pub last_number : field section 56 8 ≡ header.last_number

header_is_read : (header : Header) (body : ℕ) (rest : List ℕ) → FitsHeaderFields header → body ≤ 4084 →
    HasHeader header body (header_bytes header body ++ rest)
header_is_read header body rest fits few =
    let section : List ℕ = header_bytes header body ++ rest in
    let h0 = fits.table_id in
    let h3 = fits.extension in
    let h6 = fits.number in
    let h7 = fits.last_number in
    let b0 : field section 0 8 ≡ header.table_id = byte_field section 0 (omega arith) in
    let b1 : field section 8 8 ≡ 0xB0 + (body + 9) / 256 = byte_field section 1 (omega arith) in
    let b2 : field section 16 8 ≡ (body + 9) % 256 = byte_field section 2 (omega arith) in
    let b3 : field section 24 8 ≡ header.extension / 256 = byte_field section 3 (omega arith) in
    let b4 : field section 32 8 ≡ header.extension % 256 = byte_field section 4 (omega arith) in
    let b5 : field section 40 8 ≡ 0xC1 = byte_field section 5 (omega arith) in
    let b6 : field section 48 8 ≡ header.number = byte_field section 6 (omega arith) in
    let b7 : field section 56 8 ≡ header.last_number = byte_field section 7 (omega arith) in
    let flags = field_split section 8 4 4 in
    let first_flags = field_split section 8 2 2 in
    let two_flags = field_split section 8 1 1 in
    let lengths = field_split section 12 4 8 in
    let extensions = field_split section 24 8 8 in
    let versions = field_split section 40 2 6 in
    let version_and_current = field_split section 42 5 1 in
    let f0 = field_below section 8 1 in
    let f1 = field_below section 9 1 in
    let f2 = field_below section 10 2 in
    let f3 = field_below section 12 4 in
    let f4 = field_below section 40 2 in
    let f5 = field_below section 42 5 in
    let f6 = field_below section 47 1 in
    record {
      table_id = b0;
      syntax = omega arith;
      private = omega arith;
      section_length = omega arith;
      extension = omega arith;
      version = omega arith;
      current = omega arith;
      number = b6;
      last_number = b7;
    }

-- a section, and what stands after it, begin with the header
parts_are : (header : Header) (body rest : List ℕ) →
    section_bytes header body ++ rest ≡
    header_bytes header (length body) ++ ((body ++ to_be_bytes w32 (crc_of (header_bytes header (length body) ++ body)))
    ++ rest)
unfolding section_bytes
parts_are header body rest = refl

pub all_headed : (header : Header) (body rest : List ℕ) → FitsHeaderFields header → length body ≤ 4084 →
    HasHeader header (length body) (section_bytes header body ++ rest)
all_headed header body rest fits few =
    subst (HasHeader header (length body)) (sym (parts_are header body rest))
    (header_is_read header (length body) ((body ++ to_be_bytes w32 (crc_of (header_bytes header (length body) ++ body)))
    ++ rest) fits few)

section_headed : (header : Header) (body : List ℕ) → FitsHeaderFields header → length body ≤ 4084 →
    HasHeader header (length body) (section_bytes header body)
section_headed header body fits few = rw append-nil at (all_headed header body [] fits few)

-- how long the section is
pub section_long : (header : Header) (body : List ℕ) → length (section_bytes header body) ≡ length body + 12
unfolding section_bytes
section_long header body = omega
    (arith, length-append body (to_be_bytes w32 (crc_of (header_bytes header (length body) ++ body))))

-- the whole section is read
pub whole_is_read : (header : Header) (body rest : List ℕ) → FitsHeaderFields header → length body ≤ 4084 →
    whole_of (section_bytes header body ++ rest) ≡ section_bytes header body
whole_is_read header body rest fits few =
    let head = all_headed header body rest fits few in
    take_at (section_bytes header body) rest (3 + section_length_of (section_bytes header body ++ rest))
    (omega (arith, section_long header body, head.section_length))

-- its CRC is the one due
pub crc_is_right : (header : Header) (body : List ℕ) → crc_fault (section_bytes header body) ≡ None
unfolding section_bytes
crc_is_right header body =
    let head : List ℕ = header_bytes header (length body) ++ body in
    let right : (crc_in (with_crc head) == crc_due (with_crc head)) ≡ true =
    eq-eqb (crc_in (with_crc head)) (crc_due (with_crc head)) (crc_is_read head ∙ sym (crc_is_due head)) in
    ap (λ (b : Bool). section_fault_unless b (Crc (crc_in (with_crc head)) (crc_due (with_crc head))) None) right

-- nothing is wrong with it
all_good : (bytes section : List ℕ) → 3 ≤ length bytes → syntax_of bytes ≡ 1 → 9 ≤ section_length_of bytes →
    section_length_of bytes ≤ 4093 →
    3 + section_length_of bytes ≤ length bytes → whole_of bytes ≡ section → crc_fault section ≡ None →
    section_fault bytes ≡ None
unfolding section_fault
all_good bytes section three long low high there is right =
    rw (le-leb 3 (length bytes) three)
    (rw long (rw (le-leb 9 (section_length_of bytes) low) (rw (le-leb (section_length_of bytes) 4093 high)
    (rw (le-leb (3 + section_length_of bytes) (length bytes) there) (ap crc_fault is ∙ right)))))

pub none_is_wrong : (header : Header) (body rest : List ℕ) → FitsHeaderFields header → length body ≤ 4084 →
    section_fault (section_bytes header body ++ rest) ≡ None
none_is_wrong header body rest fits few =
    let head = all_headed header body rest fits few in
    let all = length-append (section_bytes header body) rest in
    let long = section_long header body in
    all_good (section_bytes header body ++ rest) (section_bytes header body) (omega arith) head.syntax (omega arith)
    (omega arith) (omega arith)
    (whole_is_read header body rest fits few) (crc_is_right header body)

-- what stands between eight bytes and four
between : (head body back : List ℕ) → length head ≡ 8 → length back ≡ 4 → body_of ((head ++ body) ++ back) ≡ body
between head body back h k =
    let all : List ℕ = (head ++ body) ++ back in
    let count : length all - 4 - 8 ≡ length body = omega (
      arith,
      length-append (head ++ body) back,
      length-append head
          body,
    ) in
    let after : drop 8 all ≡ body ++ back = ap (drop 8) (append_assoc head body back) ∙ drop_at head (body ++ back) 8
    h in
    ap (λ (n : ℕ). take n (drop 8 all)) count ∙ (ap (take (length body)) after ∙ take_at body back (length body) refl)

-- its body is what was written
body_is_read : (header : Header) (body : List ℕ) → body_of (section_bytes header body) ≡ body
unfolding section_bytes
body_is_read header body =
    let head : List ℕ = header_bytes header (length body) in
    between head body (to_be_bytes w32 (crc_of (head ++ body))) refl refl

pub fields_are_read : (header : Header) (body : List ℕ) → FitsHeaderFields header → length body ≤ 4084 →
    IsWrittenSection header body (section_bytes header body)
fields_are_read header body fits few =
    let head = section_headed header body fits few in
    record {
      table_id = head.table_id;
      syntax = head.syntax;
      private = head.private;
      section_length = head.section_length;
      extension = head.extension;
      version = head.version;
      current = head.current;
      number = head.number;
      last_number = head.last_number;
      inner = body_is_read header body;
    }
