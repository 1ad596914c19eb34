-- What is wrong first.
use Rattle.std.proofs.Common.{ℕ, zero, suc, ◌+◌, ◌-◌, ◌*◌, ◌/◌, ◌≤◌, ◌≡◌, Bool, true, false, ◌==◌, ◌&&◌, List, length}
use Rattle.std.proofs.Common.{get_or, refl, sym, ap, ◌∙◌, arith, take, drop, length-drop}
use Rattle.std.specs.Prelude.{Option, Some, None, nat_le, slice_index}
use Rattle.std.proofs.lemmas.List.{get_or_past, take_rest}
use Rattle.std.proofs.lemmas.Bool.{and_parts, eqb-true, leb-true, le-leb}
use Rattle.sd_base.specs.Bits.{bit, field}
use Rattle.sd_packet.specs.Header.{payload_start_of, payload_of, unit_start_of}
use Rattle.sd_packet.proofs.Packets.{start_within}
use Rattle.sd_section.specs.declared.fault.SectionFault.TheVariants as SectionFault
use Rattle.sd_section.specs.Header.{table_id_of, syntax_of, section_length_of, section_number_of, last_number_of}
use Rattle.sd_section.specs.Header.{whole_of}
use Rattle.sd_section.specs.Judged.{section_fault, section_fault_unless}
use Rattle.sd_section.specs.Judged.{crc_fault as section_crc_fault}
use Rattle.sd_psi.specs.declared.fault.FormFault.{FormFault}
use Rattle.sd_psi.specs.declared.fault.FormFault.TheVariants as Fault
use Rattle.sd_psi.specs.declared.form.Table.{Table}
use Rattle.sd_psi.specs.declared.form.Table.TheVariants.{Pat, Cat, Pmt}
use Rattle.sd_psi.specs.Forms.{fault_unless, fault_or_next, id_of, least_section_length, section_in, has_table}
use Rattle.sd_psi.specs.Forms.{has_body, has_length}
use Rattle.sd_psi.specs.Forms.{table_crc_fault, outer_fault, has_form, form_fault, bytes_fault, after_pointer}

-- a payload has at most 184 bytes
pub payload_short : (packet : List ℕ) (n : ℕ) → n ≡ 188 - payload_start_of packet → n ≤ 184
payload_short packet n h = omega (arith, (start_within packet).0)

-- and after its first byte at most 183
pub rest_short : (packet payload : List ℕ) → length payload ≡ 188 - payload_start_of packet →
    length (take (length payload - 1) (drop 1 payload)) ≤ 183
rest_short packet payload long =
    rw (take_rest payload 1)
    (omega (arith, length-drop 1 payload, payload_short packet (length payload) long))

-- where a section starts with the payload, what is wrong first is what is wrong with the bytes after the pointer
pub pointed_first : (table : Table) (packet : List ℕ) → unit_start_of packet ≡ 1 →
    slice_index (payload_of packet) 0 ≡ 0 → outer_fault table packet ≡ bytes_fault table (after_pointer packet)
unfolding outer_fault
pointed_first table packet start first = rw (start, first) refl

-- a field past the end is 0
pub past_is_zero : (bytes : List ℕ) (at width : ℕ) → 8 * length bytes ≤ at → field bytes at width ≡ 0
unfolding field
past_is_zero bytes at zero h = refl
past_is_zero bytes at (suc n) h =
    let none : get_or bytes ((at + n) / 8) 0 ≡ 0 = get_or_past bytes ((at + n) / 8) 0 (omega arith) in
    let last : bit bytes (at + n) ≡ 0 = rw none (omega arith) in
    omega (arith, past_is_zero bytes at n h, last)

-- what a section of the table and length has
record IsFitting (table : Table) (bytes : List ℕ) : Type 0 where
  syntax : syntax_of bytes ≡ 1
  three : 3 ≤ length bytes
  there : 3 + section_length_of bytes ≤ length bytes
  low : 9 ≤ section_length_of bytes

least_low : (table : Table) → 9 ≤ least_section_length table
least_low Pat = omega arith
least_low Cat = omega arith
least_low Pmt = omega arith

fitting : (table : Table) (bytes : List ℕ) → has_table table bytes ≡ true → has_length table bytes ≡ true →
    IsFitting table bytes
fitting table bytes t l =
    let ids = and_parts (nat_le 2 (length bytes))
    ((table_id_of bytes == id_of table) &&
    ((syntax_of bytes == 1) && ((section_number_of bytes == 0) && (last_number_of bytes == 0)))) t in
    let forms = and_parts (table_id_of bytes == id_of table)
    ((syntax_of bytes == 1) && ((section_number_of bytes == 0) && (last_number_of bytes == 0))) ids.1 in
    let syntax = and_parts (syntax_of bytes ==
    1) ((section_number_of bytes == 0) && (last_number_of bytes == 0)) forms.1 in
    let threes = and_parts (nat_le 3 (length bytes))
    (nat_le (3 + section_length_of bytes) (length bytes) &&
    (nat_le (least_section_length table) (section_length_of bytes) && has_body table (whole_of bytes))) l in
    let wholes = and_parts (nat_le (3 + section_length_of bytes) (length bytes))
    (nat_le (least_section_length table) (section_length_of bytes) && has_body table (whole_of bytes)) threes.1 in
    let lows = and_parts (nat_le (least_section_length table) (section_length_of bytes))
    (has_body table (whole_of bytes))
    wholes.1 in
    let least = least_low table in
    let low : least_section_length table ≤ section_length_of bytes = leb-true (least_section_length table)
    (section_length_of bytes) lows.0 in
    record {
      syntax = eqb-true (syntax_of bytes) 1 syntax.0;
      three = leb-true 3 (length bytes) threes.0;
      there = leb-true (3 + section_length_of bytes) (length bytes) wholes.0;
      low = omega arith;
    }

-- then the CRC alone may be wrong
judged : (table : Table) (bytes : List ℕ) → length bytes ≤ 183 → has_table table bytes ≡ true → has_length table bytes
    ≡ true →
    section_fault bytes ≡ section_crc_fault (whole_of bytes)
unfolding section_fault
judged table bytes short t l =
    let is = fitting table bytes t l in
    rw (le-leb 3 (length bytes) is.three) (rw is.syntax (rw (le-leb 9 (section_length_of bytes) is.low) (
    rw (le-leb (section_length_of bytes) 4093 (omega (arith, is.there)))
    (rw (le-leb (3 + section_length_of bytes) (length bytes) is.there) refl))))

-- which is then the same fault
right_test : (test : Bool) (a b : ℕ) → section_fault_unless test (SectionFault.Crc a b) None ≡ None →
    fault_unless test (Fault.Crc a b) ≡ None
right_test true a b h = refl
right_test false a b h = absurd (cc)

wrong_test : (test : Bool) (a b found due : ℕ) → section_fault_unless test (SectionFault.Crc a b) None
    ≡ Some (SectionFault.Crc found due) →
    fault_unless test (Fault.Crc a b) ≡ Some (Fault.Crc found due)
wrong_test true a b found due h = absurd (cc)
wrong_test false a b found due h =
    let first : a ≡ found = (cc) in
    let second : b ≡ due = (cc) in
    rw (first, second) refl

short_test : (test : Bool) (a b : ℕ) (next : Option FormFault) → section_fault_unless test (SectionFault.Crc a b) None
    ≡ Some SectionFault.Short → fault_unless test (Fault.Crc a b) ≡ next
short_test true a b next h = absurd (cc)
short_test false a b next h = absurd (cc)

length_test : (test : Bool) (a b : ℕ) (next : Option FormFault) → section_fault_unless test (SectionFault.Crc a b) None
    ≡ Some SectionFault.Length → fault_unless test (Fault.Crc a b) ≡ next
length_test true a b next h = absurd (cc)
length_test false a b next h = absurd (cc)

pub crc_right : (table : Table) (bytes : List ℕ) → length bytes ≤ 183 → has_table table bytes ≡ true →
    has_length table bytes ≡ true →
    section_fault bytes ≡ None → table_crc_fault (whole_of bytes) ≡ None
crc_right table bytes short t l h = right_test _ _ _ (sym (judged table bytes short t l) ∙ h)

pub crc_wrong : (table : Table) (bytes : List ℕ) (found due : ℕ) → length bytes ≤ 183 → has_table table bytes ≡ true →
    has_length table bytes ≡ true →
    section_fault bytes ≡ Some (SectionFault.Crc found due) →
    table_crc_fault (whole_of bytes) ≡ Some (Fault.Crc found due)
crc_wrong table bytes found due short t l h = wrong_test _ _ _ found due (sym (judged table bytes short t l) ∙ h)

pub never_short : (table : Table) (bytes : List ℕ) → length bytes ≤ 183 → has_table table bytes ≡ true →
    has_length table bytes ≡ true →
    section_fault bytes ≡ Some SectionFault.Short → table_crc_fault (whole_of bytes) ≡ Some Fault.Length
never_short table bytes short t l h = short_test _ _ _ _ (sym (judged table bytes short t l) ∙ h)

pub never_length : (table : Table) (bytes : List ℕ) → length bytes ≤ 183 → has_table table bytes ≡ true →
    has_length table bytes ≡ true →
    section_fault bytes ≡ Some SectionFault.Length → table_crc_fault (whole_of bytes) ≡ Some Fault.Length
never_length table bytes short t l h = length_test _ _ _ _ (sym (judged table bytes short t l) ∙ h)

-- what is wrong before the loops is wrong first, and else the loops may be wrong
pub outer_first : (table : Table) (packet : List ℕ) (fault : FormFault) → outer_fault table packet ≡ Some fault →
    form_fault table packet ≡ Some fault
unfolding form_fault
outer_first table packet fault h = ap
    (λ (f : Option FormFault). fault_or_next f (fault_unless (has_form table (section_in packet)) Fault.Descriptor)) h

form_is : (table : Table) (packet : List ℕ) (test : Bool) → outer_fault table packet ≡ None →
    has_form table (section_in packet) ≡ test →
    form_fault table packet ≡ fault_unless test Fault.Descriptor
unfolding form_fault
form_is table packet test h e =
    ap (λ (f : Option FormFault). fault_or_next f (fault_unless (has_form table (section_in packet)) Fault.Descriptor))
    h
    ∙ ap (λ (b : Bool). fault_unless b Fault.Descriptor) e

pub then_good : (table : Table) (packet : List ℕ) → outer_fault table packet ≡ None → has_form table (section_in packet)
    ≡ true → form_fault table packet ≡ None
then_good table packet h e = form_is table packet true h e

pub then_loops : (table : Table) (packet : List ℕ) → outer_fault table packet ≡ None →
    has_form table (section_in packet) ≡ false →
    form_fault table packet ≡ Some Fault.Descriptor
then_loops table packet h e = form_is table packet false h e
