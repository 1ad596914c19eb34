-- What a packet that begins with a section of this project is read as.
use Rattle.std.proofs.Common.{ℕ, suc, ◌+◌, ◌-◌, ◌<◌, ◌≤◌, ◌≡◌, List, [], ◌∷◌, ◌++◌, length, take, drop}
use Rattle.std.proofs.Common.{length-append, refl, sym, ap, subst, ◌∙◌, arith}
use Rattle.std.specs.Prelude.{replicate, slice_get, true, false, Option, Some, None, IsSome, IsNone, ◌↔◌}
use Rattle.std.specs.Prelude.{Result, Ok, Err, IfOk, MatchResult, is_ok}
use Rattle.std.specs.Result.{result_ok}
use Rattle.std.proofs.lemmas.Bool.{false≢true}
use Rattle.std.specs.Int.{w32, to_be_bytes}
use Rattle.std.proofs.lemmas.List.{take_at, take-append-drop}
use Rattle.sd_section.specs.Header.{crc_of}
use Rattle.sd_packet.specs.Header.{payload_of}
use Rattle.sd_packet.specs.Packing.{section_packet}
use Rattle.sd_packet.proofs.Packets.{packet_reads}
use Rattle.sd_section.specs.Header.{whole_of}
use Rattle.sd_section.specs.Judged.{section_fault}
use Rattle.sd_section.specs.Written.{header_bytes, section_bytes, FitsHeaderFields}
use Rattle.sd_section.specs.declared.write.Header.{Header}
use Rattle.sd_section.specs.declared.section.Section.{Section}
use Rattle.sd_section.specs.declared.fault.SectionFault.{SectionFault}
use Rattle.sd_section.proofs.Spelling.{whole_is_read, none_is_wrong, fields_are_read}
use Rattle.sd_message.specs.Framed.{header_of, IsPlainHeader, HasPointer, HasSection, BeginsWithSection, section_of}

-- a packet that is packed of a section begins with it
pub packed_begins : (section : List ℕ) (pid counter : ℕ) → pid < 8192 → counter < 16 →
    BeginsWithSection section (section_packet section pid counter)
packed_begins section pid counter h k =
    let read = packet_reads section pid counter h k in
    let stuffing : List ℕ = replicate (183 - length section) 0xFF in
    let one_more : length section + 1 ≡ suc (length section) = omega arith in
    record {
      unit_start = read.unit_start;
      payload =
          ap (take (length section + 1)) read.payload
          ∙ (ap (λ (n : ℕ). take n (0 ∷ (section ++ stuffing))) one_more
          ∙ ap (λ (l : List ℕ). 0 ∷ l) (take_at section stuffing (length section) refl));
    }

-- the payload of a packet that begins with a section
payload_split : (section packet : List ℕ) → BeginsWithSection section packet →
    payload_of packet ≡ 0 ∷ (section ++ drop (length section + 1) (payload_of packet))
payload_split section packet begins =
    sym (take-append-drop (length section + 1) (payload_of packet))
    ∙ ap (λ (l : List ℕ). l ++ drop (length section + 1) (payload_of packet)) begins.payload

-- what stands in the payload after the pointer
after_split : (section packet : List ℕ) → BeginsWithSection section packet →
    drop 1 (payload_of packet) ≡ section ++ drop (length section + 1) (payload_of packet)
after_split section packet begins = ap (drop 1) (payload_split section packet begins)

-- the section is what a packet that begins with it is read as
pub begun_is_read : (header : Header) (body packet : List ℕ) → FitsHeaderFields header → length body ≤ 4084 →
    BeginsWithSection (section_bytes header body) packet → section_of packet ≡ section_bytes header body
begun_is_read header body packet fits few begins =
    ap whole_of (after_split (section_bytes header body) packet begins) ∙ whole_is_read header body _ fits few

-- what is read from the header of a section is what was written
pub header_again : (header : Header) (body : List ℕ) → FitsHeaderFields header → length body ≤ 4084 →
    header_of (section_bytes header body) ≡ header
unfolding header_of
header_again header body fits few =
    let read = fields_are_read header body fits few in
    rw (read.table_id, read.extension, read.number, read.last_number) refl

-- how long the section is
section_long : (header : Header) (body : List ℕ) → length (section_bytes header body) - 12 ≡ length body
unfolding section_bytes
section_long header body = omega
    (arith, length-append body (to_be_bytes w32 (crc_of (header_bytes header (length body) ++ body))))

head_is : (header : Header) (body : List ℕ) → take 8 (section_bytes header body) ≡ header_bytes header (length body)
unfolding section_bytes
head_is header body = refl

written_is_plain : (header : Header) (body : List ℕ) → FitsHeaderFields header → length body ≤ 4084 →
    IsPlainHeader (section_bytes header body)
written_is_plain header body fits few =
    rw (header_again header body fits few, section_long header body) (head_is header body)

-- and it is one of this project
pub begun_is_there : (header : Header) (body packet : List ℕ) → FitsHeaderFields header → length body ≤ 4084 →
    BeginsWithSection (section_bytes header body) packet → HasSection packet
begun_is_there header body packet fits few begins =
    record {
      starts = record {
        unit_start = begins.unit_start;
        pointer = ap (λ (l : List ℕ). slice_get l 0)
            (payload_split _ packet begins);
      };
      good = ap section_fault (after_split _ packet begins) ∙ none_is_wrong header body _ fits few;
      plain = subst IsPlainHeader (sym (begun_is_read header body packet fits few begins))
          (written_is_plain header body fits few);
    }

-- what isn't there is read as none
pub none_there : {A : Type 0} (read : Option A) (There : Type 0) → read ≡ None → ¬ There →
    (IsNone read ↔ ¬ There) × (IsSome read ↔ There)
none_there read There none never =
    rw none ((λ _. never, λ _. refl), (λ some. absurd (false≢true some), λ there. absurd (never there)))

-- where bytes after the pointer are read as no section, none is there
pub no_section : {A : Type 0} (read : Result A SectionFault) (bytes packet : List ℕ) →
    bytes ≡ drop 1 (payload_of packet) →
    MatchResult read (λ _. section_fault bytes ≡ None) (λ fault. section_fault bytes ≡ Some fault) →
    false ≡ is_ok read → ¬ HasSection packet
no_section (Ok x) bytes packet is fault bad has = absurd (false≢true bad)
no_section (Err e) bytes packet is fault bad has = absurd (cc (fault, has.good, ap section_fault is))

-- where they are read as one, none is wrong with it
pub good_there : {A : Type 0} (read : Result A SectionFault) (bytes packet : List ℕ) →
    bytes ≡ drop 1 (payload_of packet) →
    MatchResult read (λ _. section_fault bytes ≡ None) (λ fault. section_fault bytes ≡ Some fault) →
    true ≡ is_ok read → section_fault (drop 1 (payload_of packet)) ≡ None
good_there (Ok x) bytes packet is fault good = sym (ap section_fault is) ∙ fault
good_there (Err e) bytes packet is fault good = absurd (false≢true (sym good))

-- and it is the packet's
pub read_there : (read : Result Section SectionFault) (section : Section) (bytes packet : List ℕ) →
    bytes ≡ drop 1 (payload_of packet) → IfOk read (λ found. found.bytes.now ≡ whole_of bytes) →
    Some section ≡ result_ok read → section.bytes.now ≡ section_of packet
read_there (Ok found) section bytes packet is value same =
    let one : section ≡ found = cc in ap (λ (s : Section). s.bytes.now) one ∙ (value ∙ ap whole_of is)
read_there (Err e) section bytes packet is value same = absurd (cc same)

-- as many first items as some first items are, are these
take_first : (n : ℕ) (xs : List ℕ) → take (length (take n xs)) xs ≡ take n xs
take_first n xs =
    subst (λ (ys : List ℕ). take (length (take n xs)) ys ≡ take n xs) (take-append-drop n xs)
    (take_at (take n xs) (drop n xs) (length (take n xs)) refl)

-- a section stands after the pointer
after_pointer : (payload section : List ℕ) → slice_get payload 0 ≡ Some 0 → section ≡ whole_of (drop 1 payload) →
    take (length section + 1) payload ≡ 0 ∷ section
after_pointer [] section pointer is = absurd (cc pointer)
after_pointer (x ∷ xs) section pointer is =
    let first : x ≡ 0 = cc in
    let one_more : length section + 1 ≡ suc (length section) = omega arith in
    let rest : take (length section) xs ≡ section =
    subst (λ (s : List ℕ). take (length s) xs ≡ s) (sym is) (take_first _ xs) in
    ap (λ (n : ℕ). take n (x ∷ xs)) one_more
    ∙ (ap (λ (y : ℕ). y ∷ take (length section) xs) first ∙ ap (λ (l : List ℕ). 0 ∷ l) rest)

-- the packet begins with the section that is read
pub begins_there : (section packet : List ℕ) → HasPointer packet → section ≡ section_of packet →
    BeginsWithSection section packet
begins_there section packet points is = record {
  unit_start = points.unit_start;
  payload = after_pointer (payload_of packet) section points.pointer is;
}
