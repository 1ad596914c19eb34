-- The project's CAT is a CAT, has one descriptor, and is read again.
use Rattle.std.proofs.Common.{ℕ, zero, suc, ◌+◌, ◌-◌, ◌^◌, ◌<◌, ◌≤◌, ◌≡◌, true, ◌==◌, List, [], ◌∷◌, ◌++◌, length, drop}
use Rattle.std.proofs.Common.{length-append, length-drop, eq-eqb, refl, sym, ap, ◌∙◌, arith}
use Rattle.std.specs.Prelude.{◌&&◌, Bool, false, Some, None, nat_le, replicate, option_map, if◌then◌else◌}
use Rattle.std.proofs.lemmas.Bool.{le-leb, leb-true, and_parts}
use Rattle.std.proofs.lemmas.Bool.Decides.{nat_tests}
use Rattle.std.proofs.lemmas.List.{drop_at}
use Rattle.sd_base.specs.Bits.{field}
use Rattle.sd_base.proofs.Fields.{field_split, field_below}
use Rattle.sd_base.proofs.Words.{byte_field}
use Rattle.sd_packet.specs.Header.{has_payload}
use Rattle.sd_packet.specs.Packing.{section_packet}
use Rattle.sd_packet.proofs.Packets.{packet_reads}
use Rattle.sd_section.specs.Header.{whole_of, body_of, crc_in, crc_due}
use Rattle.sd_section.specs.Written.{header_bytes, section_bytes, FitsHeaderFields}
use Rattle.sd_section.specs.declared.write.Header.{Header}
use Rattle.sd_section.proofs.Spelling.{all_headed, section_long, whole_is_read, fields_are_read}
use Rattle.sd_psi.specs.declared.form.Table.{Table}
use Rattle.sd_psi.specs.declared.form.Table.TheVariants.{Cat}
use Rattle.sd_psi.specs.declared.items.Kind.TheVariants.{Descriptor}
use Rattle.sd_psi.specs.Items.{item_size, is_whole_item, are_whole}
use Rattle.sd_psi.specs.Tables.{descriptors_of, tag_of, content_of, is_cat}
use Rattle.sd_psi.specs.Access.{is_ca}
use Rattle.sd_psi.specs.OurCat.{cat_descriptor, cat_header, cat_section, IsCatDescriptor}
use Rattle.sd_psi.specs.OurCat.{tuning_in, is_tuning, is_for, cat_tuning}
use Rattle.sd_psi.specs.declared.our_cat.Tuning.{Tuning}
use Rattle.sd_psi.specs.Forms.{after_pointer, section_in, has_body, is_stuffing, bytes_fault, outer_fault, cat_fault}
use Rattle.sd_psi.specs.Forms.{form_fault}
use Rattle.sd_psi.proofs.Grammar.{spelled_items, spelled_whole}
use Rattle.sd_psi.proofs.Shapes.{sealed_right}
use Rattle.sd_psi.proofs.Tunings.{private_field}

-- stuffing is stuffing alone
only_stuffing : (n : ℕ) → is_stuffing (replicate n 255) ≡ true
only_stuffing zero = refl
only_stuffing (suc n) = only_stuffing n

-- a packed section is found after the pointer, and what stands after it is stuffing
after_packed : (section : List ℕ) (pid counter : ℕ) → pid < 8192 → counter < 16 →
    after_pointer (section_packet section pid counter) ≡ section ++ replicate (183 - length section) 255
after_packed section pid counter h k = ap (drop 1) (packet_reads section pid counter h k).payload

-- where nothing is wrong with the section, nothing is with the packet up to its loops
packed_good : (table : Table) (section : List ℕ) (pid counter : ℕ) → pid < 8192 → counter < 16 →
    bytes_fault table (section ++ replicate (183 - length section) 255) ≡ None →
    outer_fault table (section_packet section pid counter) ≡ None
unfolding outer_fault
packed_good table section pid counter h k good =
    let read = packet_reads section pid counter h k in
    rw (read.unit_start, read.payload) good

cat_fits : FitsHeaderFields cat_header
cat_fits = record { table_id = omega arith; extension = omega arith; number = omega arith; last_number = omega arith }

section_right : (header : Header) (body : List ℕ) → crc_in (section_bytes header body)
    ≡ crc_due (section_bytes header body)
unfolding section_bytes
section_right header body = sealed_right (header_bytes header (length body) ++ body)

-- nothing is wrong with a section that has the CAT's header, up to its loops
module _ (body : List ℕ) (few : length body ≤ 171) where
  cat_good : (count : ℕ) → bytes_fault Cat (section_bytes cat_header body ++ replicate count 255) ≡ None
  unfolding has_body
  cat_good count =
      let rest : List ℕ = replicate count 255 in
      let section : List ℕ = section_bytes cat_header body in
      let head = all_headed cat_header body rest cat_fits (omega arith) in
      let long : length section ≡ length body + 12 = section_long cat_header body in
      let all = length-append section rest in
      let whole : whole_of (section ++ rest) ≡ section = whole_is_read cat_header body rest cat_fits (omega arith) in
      let two : nat_le 2 (length (section ++ rest)) ≡ true = le-leb 2 (length (section ++ rest)) (omega arith) in
      let three : nat_le 3 (length (section ++ rest)) ≡ true = le-leb 3 (length (section ++ rest)) (omega arith) in
      let there : nat_le (3 + (length body + 9)) (length (section ++ rest)) ≡ true = le-leb (3 + (length body + 9))
      (length (section ++ rest)) (omega arith) in
      let low : nat_le 9 (length body + 9) ≡ true = le-leb 9 (length body + 9) (omega arith) in
      let right : (crc_in section == crc_due section) ≡ true = eq-eqb (crc_in section) (crc_due section)
      (section_right cat_header body) in
      let after : drop (3 + (length body + 9)) (section ++ rest) ≡ rest =
      drop_at section rest (3 + (length body + 9)) (omega (arith, long)) in
      rw (
        whole,
        two,
        three,
        head.table_id,
        head.syntax,
        head.number,
        head.last_number,
        head.section_length,
        there,
        low,
        right,
        after,
        only_stuffing count,
      ) refl

-- the descriptor of the project's CAT fills its body
descriptor_whole : (ca emm ecm : ℕ) → is_whole_item Descriptor (cat_descriptor ca emm ecm) ≡ true
unfolding item_size field
descriptor_whole ca emm ecm = refl

cat_descriptors : (ca emm ecm : ℕ) → descriptors_of (cat_descriptor ca emm ecm) ≡ cat_descriptor ca emm ecm ∷ []
cat_descriptors ca emm ecm =
    spelled_items Descriptor (cat_descriptor ca emm ecm ∷ []) (rw (descriptor_whole ca emm ecm) refl)

descriptors_fill : (ca emm ecm : ℕ) → are_whole Descriptor (cat_descriptor ca emm ecm) ≡ true
descriptors_fill ca emm ecm =
    spelled_whole Descriptor (cat_descriptor ca emm ecm ∷ []) (rw (descriptor_whole ca emm ecm) refl)

-- the section is found in its packet
module _ (ca emm ecm n : ℕ) (few : n < 16) where
  found : section_in (section_packet (cat_section ca emm ecm) 1 n) ≡ cat_section ca emm ecm
  unfolding cat_section
  found =
      ap whole_of (after_packed (cat_section ca emm ecm) 1 n (omega arith) few)
      ∙ whole_is_read cat_header (cat_descriptor ca emm ecm) _ cat_fits (omega arith)

  body_found : body_of (cat_section ca emm ecm) ≡ cat_descriptor ca emm ecm
  unfolding cat_section
  body_found = (fields_are_read cat_header (cat_descriptor ca emm ecm) cat_fits (omega arith)).inner

  is_one : is_cat (cat_section ca emm ecm) ≡ true
  unfolding cat_section
  is_one =
      let written = fields_are_read cat_header (cat_descriptor ca emm ecm) cat_fits (omega arith) in
      rw (written.table_id, written.inner, descriptors_fill ca emm ecm) refl

  pub our_cat_is_good : cat_fault (section_packet (cat_section ca emm ecm) 1 n) ≡ None
  unfolding form_fault cat_section
  our_cat_is_good =
      let outer = packed_good Cat (cat_section ca emm ecm) 1 n (omega arith) few
      (cat_good (cat_descriptor ca emm ecm) (omega arith) (183 - length (cat_section ca emm ecm))) in
      rw (outer, found, is_one) refl

  pub our_cat_has_one : descriptors_of (body_of (section_in (section_packet (cat_section ca emm ecm) 1 n)))
      ≡ cat_descriptor ca
      emm ecm ∷ []
  our_cat_has_one = ap (λ (l : List ℕ). descriptors_of (body_of l)) found ∙
      (ap descriptors_of body_found ∙ cat_descriptors ca emm ecm)

-- CA_system_ID and CA_PID are there in a CA_descriptor
pub ca_is_long : (descriptor : List ℕ) → is_ca descriptor ≡ true → 6 ≤ length descriptor
unfolding is_ca
ca_is_long descriptor h = omega (
  arith,
  leb-true 4 (length (content_of descriptor))
      (and_parts (tag_of descriptor == 9) (nat_le 4 (length (content_of descriptor))) h).1,
  length-drop 2 descriptor,
)

-- what is read from the descriptor
shown_is : (ca emm ecm : ℕ) → is_ca (cat_descriptor ca emm ecm) ≡ true
unfolding is_ca field
shown_is ca emm ecm = refl

pub our_descriptor_is_read : (ca emm ecm : ℕ) → ca < 2 ^ 16 → emm < 8192 → ecm < 8192 →
    IsCatDescriptor ca emm ecm (cat_descriptor ca emm ecm)
our_descriptor_is_read ca emm ecm system first second =
    let d : List ℕ = cat_descriptor ca emm ecm in
    let p : List ℕ = drop 6 d in
    record {
      shown = shown_is ca emm ecm;
      system = omega (arith, field_split d 16 8 8, byte_field d 2 (omega arith), byte_field d 3 (omega arith));
      ca_pid = omega (
        arith,
        field_split d 32 8 8,
        field_split d 32 3 13,
        byte_field d 4 (omega arith),
        byte_field d 5 (omega arith),
        field_below d 32 3,
        field_below d 35 13,
      );
      private = omega (
        arith,
        field_split p 0 8 8,
        field_split p 0 3 13,
        byte_field p 0 (omega arith),
        byte_field p 1 (omega arith),
        field_below p 0 3,
        field_below p 3 13,
      );
    }

tag_is : (ca emm ecm : ℕ) → tag_of (cat_descriptor ca emm ecm) ≡ 9
unfolding field
tag_is ca emm ecm = refl

-- the descriptor of a system and two PIDs
module _ (ca : ℕ) (tuning : Tuning) (system : ca < 2 ^ 16) (emm : tuning.emm < 8192) (ecm : tuning.ecm < 8192) where
  descriptor_tunes : tuning_in (cat_descriptor ca tuning.emm tuning.ecm) ≡ tuning
  unfolding tuning_in
  descriptor_tunes =
      let reads = our_descriptor_is_read ca tuning.emm tuning.ecm system emm ecm in
      rw (reads.ca_pid, sym (private_field (cat_descriptor ca tuning.emm tuning.ecm)), reads.private) refl

  descriptor_is_for : (reader : ℕ) →
      is_for reader (cat_descriptor ca tuning.emm tuning.ecm) ≡ ((ca == reader) && is_tuning tuning)
  unfolding is_for
  descriptor_is_for reader =
      let reads = our_descriptor_is_read ca tuning.emm tuning.ecm system emm ecm in
      rw (tag_is ca tuning.emm tuning.ecm, reads.system, descriptor_tunes) refl

read_if : (chosen : Bool) (descriptor : List ℕ) (tuning : Tuning) → tuning_in descriptor ≡ tuning →
    option_map tuning_in (if chosen then Some descriptor else None) ≡ (if chosen then Some tuning else None)
read_if true descriptor tuning is = ap (λ (t : Tuning). Some t) is
read_if false descriptor tuning is = refl

-- a reader takes the two PIDs that were written, if they are good and the system is its own
pub our_cat_is_read : (ca reader counter : ℕ) (tuning : Tuning) → ca < 2 ^ 16 → tuning.emm < 8192 →
    tuning.ecm < 8192 → counter < 16 →
    cat_tuning reader (section_packet (cat_section ca tuning.emm tuning.ecm) 1 counter)
    ≡ (if (ca == reader) && is_tuning tuning then Some tuning else None)
unfolding cat_tuning
our_cat_is_read ca reader counter tuning system emm ecm few =
    let packet = packet_reads (cat_section ca tuning.emm tuning.ecm) 1 counter (omega arith) few in
    let start = packet.start in
    let some : has_payload (section_packet (cat_section ca tuning.emm tuning.ecm) 1 counter) ≡ true =
    grind (arith, nat_tests, start) in
    let good = our_cat_is_good ca tuning.emm tuning.ecm counter few in
    let has = our_cat_has_one ca tuning.emm tuning.ecm counter few in
    let own = descriptor_is_for ca tuning system emm ecm reader in
    rw (packet.pid_is, some, good, has, own) (read_if ((ca == reader) && is_tuning tuning)
    (cat_descriptor ca tuning.emm tuning.ecm) tuning (descriptor_tunes ca tuning system emm ecm))
