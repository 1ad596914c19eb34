-- Packets whose PMT is rewritten or restored.
use Rattle.std.proofs.Common.{ℕ, zero, suc, ◌+◌, ◌-◌, ◌<◌, ◌≤◌, ◌≡◌, min, Bool, true, false, List, [], ◌∷◌, ◌++◌}
use Rattle.std.proofs.Common.{length, take, drop, get_or, length-drop, length-take, length-take-le, append_assoc, inl}
use Rattle.std.proofs.Common.{inr, refl, sym, ap, ◌∙◌, arith}
use Rattle.std.specs.Prelude.{Some, None, nat_le, bytes_eq, replicate}
use Rattle.std.proofs.lemmas.List.{drop-drop, take-take}
use Rattle.std.proofs.lemmas.Slice.Eq.{bytes_eq-Decides}
use Rattle.std.proofs.lemmas.Bool.{and_parts, leb-true, le-leb, cases_lt}
use borrow.Rule.Slice.PartMut.{put_mid}
use Rattle.sd_base.proofs.Arithmetic.{above_fails}
use Rattle.sd_packet.specs.Header.{payload_start_of, payload_of}
use Rattle.sd_section.proofs.Judging.{field_take}
use Rattle.sd_section.specs.Header.{section_length_of, whole_of, body_of}
use Rattle.sd_section.proofs.Cutting.{body_long}
use Rattle.sd_psi.specs.declared.fault.FormFault.{FormFault}
use Rattle.sd_psi.specs.declared.fault.FormFault.TheVariants as Fault
use Rattle.sd_psi.specs.declared.form.Table.TheVariants.{Pmt}
use Rattle.sd_psi.specs.declared.items.Kind.TheVariants.{Descriptor}
use Rattle.sd_psi.specs.Items.{item_size, items_of}
use Rattle.sd_psi.specs.Tables.{descriptors_of, info_length_of, info_of, has_info, is_pmt}
use Rattle.sd_psi.specs.Forms.{fault_unless, after_pointer, section_in, after_section, outer_fault}
use Rattle.sd_psi.specs.Rewriting.{ca_descriptor, section_with_descriptor, section_without_descriptor}
use Rattle.sd_psi.specs.Rewriting.{pmt_with_descriptor, pmt_without_descriptor, has_pmt_room, is_first_descriptor}
use Rattle.sd_psi.specs.Rewriting.{rewrite_fault, removal_fault}
use Rattle.sd_psi.proofs.Listing.{pmt_has}
use Rattle.sd_psi.proofs.Cutting.{none_cut, first_cut}

-- a section that bytes begin with is as long as they say
pub whole_long : (bytes section : List ℕ) → section ≡ whole_of bytes → length section ≡ 3 + section_length_of section →
    9 ≤ section_length_of section →
    length section ≡ 3 + section_length_of bytes
whole_long bytes section is long low =
    let count : length section ≡ min (3 + section_length_of bytes) (length bytes) = ap (λ (l : List ℕ). length l) is ∙
    length-take (3 + section_length_of bytes) bytes in
    let same : section_length_of section ≡ section_length_of bytes = ap section_length_of is ∙
    field_take bytes (3 + section_length_of bytes) 12 12 (omega arith) in
    omega arith

pub whole_within : (bytes section : List ℕ) → section ≡ whole_of bytes → length section ≤ length bytes
whole_within bytes section is = omega (
  arith,
  ap (λ (l : List ℕ). length l) is,
  length-take (3 + section_length_of bytes) bytes,
)

-- program_info_length is within the section
pub info_within : (bytes section : List ℕ) → section ≡ whole_of bytes → 12 ≤ length section → is_pmt section ≡ true →
    16 + info_length_of bytes ≤ length section
unfolding has_info
info_within bytes section is long pmt =
    let has = and_parts (nat_le 4 (length (body_of section)))
    (nat_le (4 + info_length_of section) (length (body_of section))) (pmt_has section pmt) in
    let some : 4 ≤ length (body_of section) = leb-true 4 (length (body_of section)) has.0 in
    let fits : 4 + info_length_of section ≤ length (body_of section) = leb-true (4 + info_length_of section)
    (length (body_of section)) has.1 in
    let count = body_long section in
    let taken : length section ≤ 3 + section_length_of bytes = omega (
      arith,
      ap (λ (l : List ℕ). length l) is,
      length-take (3 + section_length_of bytes) bytes,
    ) in
    let same : info_length_of section ≡ info_length_of bytes = ap info_length_of is ∙
    field_take bytes (3 + section_length_of bytes) 84 12 (omega arith) in
    omega arith

-- what is wrong first with a packet that is to be rewritten
pub rewrite_outer : (packet : List ℕ) (fault : FormFault) → outer_fault Pmt packet ≡ Some fault → rewrite_fault packet
    ≡ Some fault
unfolding rewrite_fault
rewrite_outer packet fault h = rw h refl

room_is : (packet section : List ℕ) → section ≡ section_in packet → length section ≡ 3 + section_length_of
    (after_pointer packet) →
    length (after_section packet) ≡ length (payload_of packet) - (1 + length section)
room_is packet section is long =
    omega (
      arith,
      length-drop (3 + section_length_of (after_pointer packet)) (after_pointer packet),
      length-drop 1 (payload_of packet),
    )

pub rewrite_room : (packet section : List ℕ) → outer_fault Pmt packet ≡ None → section ≡ section_in packet →
    length section ≡ 3 + section_length_of (after_pointer packet) →
    length (payload_of packet) < 1 + length section + 6 → rewrite_fault packet ≡ Some Fault.NoRoom
unfolding rewrite_fault
rewrite_room packet section h is long over =
    let room : has_pmt_room packet ≡ false = above_fails 6 (length (after_section packet)) _ refl
    (omega (arith, room_is packet section is long)) in
    rw (h, room) refl

rewrite_is : (packet section : List ℕ) (test : Bool) → outer_fault Pmt packet ≡ None → section ≡ section_in packet →
    length section ≡ 3 + section_length_of (after_pointer packet) →
    1 + length section + 6 ≤ length (payload_of packet) → is_pmt section ≡ test → rewrite_fault packet
    ≡ fault_unless test Fault.Descriptor
unfolding rewrite_fault
rewrite_is packet section test h is long under pmt =
    let room : has_pmt_room packet ≡ true = le-leb 6 (length (after_section packet))
    (omega (arith, room_is packet section is long)) in
    let form : is_pmt (section_in packet) ≡ test = ap is_pmt (sym is) ∙ pmt in
    rw (h, room, form) refl

pub rewrite_loops : (packet section : List ℕ) → outer_fault Pmt packet ≡ None → section ≡ section_in packet →
    length section ≡ 3 + section_length_of (after_pointer packet) →
    1 + length section + 6 ≤ length (payload_of packet) → is_pmt section ≡ false → rewrite_fault packet
    ≡ Some Fault.Descriptor
rewrite_loops packet section h is long under pmt = rewrite_is packet section false h is long under pmt

pub rewrite_good : (packet section : List ℕ) → outer_fault Pmt packet ≡ None → section ≡ section_in packet →
    length section ≡ 3 + section_length_of (after_pointer packet) →
    1 + length section + 6 ≤ length (payload_of packet) → is_pmt section ≡ true → rewrite_fault packet ≡ None
rewrite_good packet section h is long under pmt = rewrite_is packet section true h is long under pmt

-- what is wrong first with a packet that is to be restored
pub restore_outer : (descriptor packet : List ℕ) (fault : FormFault) → outer_fault Pmt packet ≡ Some fault →
    removal_fault descriptor packet ≡ Some fault
unfolding removal_fault
restore_outer descriptor packet fault h = rw h refl

pub restore_loops : (descriptor packet section : List ℕ) → outer_fault Pmt packet ≡ None → section ≡ section_in packet →
    is_pmt section ≡ false →
    removal_fault descriptor packet ≡ Some Fault.Descriptor
unfolding removal_fault
restore_loops descriptor packet section h is pmt =
    let form : is_pmt (section_in packet) ≡ false = ap is_pmt (sym is) ∙ pmt in
    rw (h, form) refl

restore_is : (descriptor packet section : List ℕ) (test : Bool) → outer_fault Pmt packet ≡ None →
    section ≡ section_in packet → is_pmt section ≡ true →
    is_first_descriptor descriptor section ≡ test → removal_fault descriptor packet ≡ fault_unless test Fault.Descriptor
unfolding removal_fault
restore_is descriptor packet section test h is pmt first =
    let form : is_pmt (section_in packet) ≡ true = ap is_pmt (sym is) ∙ pmt in
    let ours : is_first_descriptor descriptor (section_in packet) ≡ test = ap (is_first_descriptor descriptor) (sym is)
    ∙ first in
    rw (h, form, ours) refl

pub restore_first : (descriptor packet section : List ℕ) → outer_fault Pmt packet ≡ None → section ≡ section_in packet →
    is_pmt section ≡ true →
    is_first_descriptor descriptor section ≡ false → removal_fault descriptor packet ≡ Some Fault.Descriptor
restore_first descriptor packet section h is pmt first = restore_is descriptor packet section false h is pmt first

pub restore_good : (descriptor packet section : List ℕ) → outer_fault Pmt packet ≡ None → section ≡ section_in packet →
    is_pmt section ≡ true →
    is_first_descriptor descriptor section ≡ true → removal_fault descriptor packet ≡ None
restore_good descriptor packet section h is pmt first = restore_is descriptor packet section true h is pmt first

not_nothing : (descriptor : List ℕ) → 0 < length descriptor → bytes_eq [] descriptor ≡ false
not_nothing [] h = absurd (omega arith)
not_nothing (x ∷ xs) h = refl

-- the first descriptor of program_info
pub first_is : (descriptor section first rest : List ℕ) (test : Bool) →
    descriptors_of (info_of section) ≡ first ∷ descriptors_of rest → test ≡ bytes_eq first descriptor →
    test ≡ is_first_descriptor descriptor section
first_is descriptor section first rest test cut e =
    e ∙ ap (λ (l : List (List ℕ)). bytes_eq (get_or l 0 []) descriptor) (sym cut)

pub none_is_first : (descriptor section : List ℕ) → 0 < length descriptor → descriptors_of (info_of section) ≡ [] →
    is_first_descriptor descriptor section ≡ false
none_is_first descriptor section some none =
    ap (λ (l : List (List ℕ)). bytes_eq (get_or l 0 []) descriptor) none ∙ not_nothing descriptor some

-- it is the first six bytes of them where it has six
pub record BeginsInfo (descriptor info : List ℕ) : Type 0 where
  pub some : 6 ≤ length info
  pub size : 6 ≤ item_size Descriptor info
  pub is : take (item_size Descriptor info) info ≡ descriptor

begins_by : (descriptor info : List ℕ) → get_or (items_of Descriptor info) 0 [] ≡ descriptor → length descriptor ≡ 6 →
    BeginsInfo descriptor info
begins_by descriptor info h six = elim (cases_lt 0 (length info)) [
  | inl some ↦
      let first : take (item_size Descriptor info) info ≡ descriptor = ap (λ (l : List (List ℕ)). get_or l 0 [])
      (sym (first_cut Descriptor info some)) ∙ h in
      let count : length (take (item_size Descriptor info) info) ≡ 6 = ap (λ (l : List ℕ). length l) first ∙ six in
      let taken = length-take (item_size Descriptor info) info in
      record { some = omega arith; size = omega arith; is = first }
  | inr none ↦
      let nothing : get_or (items_of Descriptor info) 0 [] ≡ [] = ap (λ (l : List (List ℕ)). get_or l 0 [])
      (none_cut Descriptor info (omega arith)) in
      absurd (omega (arith, six, ap (λ (l : List ℕ). length l) (sym nothing ∙ h)))
]

pub info_begins : (descriptor section : List ℕ) → is_first_descriptor descriptor section ≡ true →
    length descriptor ≡ 6 →
    BeginsInfo descriptor (info_of section)
info_begins descriptor section h six =
    begins_by descriptor (info_of section)
    ((bytes_eq-Decides (get_or (descriptors_of (info_of section)) 0 []) descriptor).0 h) six

-- so program_info_length counts at least six
pub first_within : (descriptor bytes section : List ℕ) → is_first_descriptor descriptor section ≡ true →
    length descriptor ≡ 6 →
    section ≡ whole_of bytes →
    12 ≤ length section → 6 ≤ info_length_of bytes
unfolding info_of
first_within descriptor bytes section h six is long =
    let before = info_begins descriptor section h six in
    let some : 6 ≤ length (info_of section) = before.some in
    let counted : length (info_of section) ≤ info_length_of section = omega
    (arith, length-take (info_length_of section) (drop 4 (body_of section))) in
    let taken : length section ≤ 3 + section_length_of bytes = omega (
      arith,
      ap (λ (l : List ℕ). length l) is,
      length-take (3 + section_length_of bytes) bytes,
    ) in
    let same : info_length_of section ≡ info_length_of bytes = ap info_length_of is ∙
    field_take bytes (3 + section_length_of bytes) 84 12 (omega arith) in
    omega arith

-- the bytes after the pointer, by their place
pub after_is : (packet : List ℕ) (start : ℕ) → start ≡ payload_start_of packet + 1 → after_pointer packet
    ≡ drop start packet
after_is packet start is = drop-drop 1 (payload_start_of packet) packet ∙ ap (λ (n : ℕ). drop n packet) (sym is)

-- bytes that are written after the first don't change it
pub sync_stays : (packet piece : List ℕ) (start k : ℕ) → 0 < start → 0 < length packet →
    get_or (put_mid start k packet piece) 0 0 ≡ get_or packet 0 0
sync_stays [] piece start k h l = absurd (omega arith)
sync_stays (x ∷ xs) piece zero k h l = absurd (omega arith)
sync_stays (x ∷ xs) piece (suc start) k h l = refl

-- the packet with the section that was written
pub rewritten_laid : (packet piece : List ℕ) (ca pid start count : ℕ) → start ≡ payload_start_of packet + 1 →
    count ≡ 3 + section_length_of (after_pointer packet) → start + count + 6 ≤ length packet →
    piece ≡ section_with_descriptor (ca_descriptor ca pid) (take
    (length (take (start + count + 6 - start) (drop start packet)) - 6)
    (take (start + count + 6 - start) (drop start packet))) →
    put_mid start (start + count + 6 - start) packet piece ≡ pmt_with_descriptor ca pid packet
unfolding pmt_with_descriptor
rewritten_laid packet piece ca pid start count is_start is_count within is_piece =
    let after = after_is packet start is_start in
    let width : start + count + 6 - start ≡ count + 6 = omega arith in
    let long : length (take (start + count + 6 - start) (drop start packet)) - 6 ≡ count =
    omega (
      arith,
      length-take-le (start + count + 6 - start) (drop start packet)
          (omega (arith, length-drop start packet)),
    ) in
    let section : take (length (take (start + count + 6 - start) (drop start packet)) - 6)
    (take (start + count + 6 - start) (drop start packet)) ≡ section_in packet =
    ap (λ (n : ℕ). take n (take (start + count + 6 - start) (drop start packet))) long
    ∙ (take-take count (start + count + 6 - start) (drop start packet) (omega arith)
    ∙ (ap (λ (n : ℕ). take n (drop start packet)) is_count ∙ ap (take (3 + section_length_of (after_pointer packet)))
    (sym after))) in
    let rest : drop (start + count + 6 - start) (drop start packet) ≡ drop 6 (after_section packet) =
    ap (λ (n : ℕ). drop n (drop start packet)) width
    ∙ (sym (drop-drop 6 count (drop start packet))
    ∙ (ap (λ (n : ℕ). drop 6 (drop n (drop start packet))) is_count ∙
    ap (λ (l : List ℕ). drop 6 (drop (3 + section_length_of (after_pointer packet)) l)) (sym after))) in
    ap (λ (l : List ℕ). take start packet ++ (l ++ drop (start + count + 6 - start) (drop start packet)))
    (is_piece ∙ ap (section_with_descriptor (ca_descriptor ca pid)) section)
    ∙ (ap (λ (l : List ℕ). take start packet ++ (section_with_descriptor (ca_descriptor ca pid) (section_in packet)
    ++ l)) rest
    ∙ ap (λ (n : ℕ). take n packet
    ++ (section_with_descriptor (ca_descriptor ca pid) (section_in packet) ++ drop 6 (after_section packet))) is_start)

pub restored_laid : (packet piece : List ℕ) (start count : ℕ) → start ≡ payload_start_of packet + 1 →
    count ≡ 3 + section_length_of (after_pointer packet) → start + count ≤ length packet →
    piece ≡ section_without_descriptor (take (start + count - start) (drop start packet)) ++ replicate 6 255 →
    put_mid start (start + count - start) packet piece ≡ pmt_without_descriptor packet
unfolding pmt_without_descriptor
restored_laid packet piece start count is_start is_count within is_piece =
    let after = after_is packet start is_start in
    let width : start + count - start ≡ count = omega arith in
    let section : take (start + count - start) (drop start packet) ≡ section_in packet =
    ap (λ (n : ℕ). take n (drop start packet)) (width ∙ is_count) ∙
    ap (take (3 + section_length_of (after_pointer packet))) (sym after) in
    let rest : drop (start + count - start) (drop start packet) ≡ after_section packet =
    ap (λ (n : ℕ). drop n (drop start packet)) (width ∙ is_count) ∙
    ap (drop (3 + section_length_of (after_pointer packet))) (sym after) in
    ap (λ (l : List ℕ). take start packet ++ (l ++ drop (start + count - start) (drop start packet)))
    (is_piece ∙ ap (λ (l : List ℕ). section_without_descriptor l ++ replicate 6 255) section)
    ∙ (ap (λ (l : List ℕ). take start packet ++ ((section_without_descriptor (section_in packet) ++ replicate 6 255)
    ++ l)) rest
    ∙ (ap (λ (l : List ℕ). take start packet ++ l) (append_assoc (section_without_descriptor (section_in packet))
    (replicate 6 255)
    (after_section packet))
    ∙ ap (λ (n : ℕ). take n packet ++ (section_without_descriptor (section_in packet)
    ++ (replicate 6 255 ++ after_section packet)))
    is_start))

-- the lengths are read after the pointer
pub piece_section : (packet : List ℕ) (start k : ℕ) → start ≡ payload_start_of packet + 1 → 12 ≤ k →
    section_length_of (take k (drop start packet)) ≡ section_length_of (after_pointer packet)
piece_section packet start k is long =
    field_take (drop start packet) k 12 12 (omega arith) ∙ ap section_length_of (sym (after_is packet start is))

pub piece_info : (packet : List ℕ) (start k : ℕ) → start ≡ payload_start_of packet + 1 → 12 ≤ k →
    info_length_of (take k (drop start packet)) ≡ info_length_of (after_pointer packet)
piece_info packet start k is long =
    field_take (drop start packet) k 84 12 (omega arith) ∙ ap info_length_of (sym (after_is packet start is))

-- a payload goes to the packet's end
pub payload_long : (packet : List ℕ) → length (payload_of packet) ≡ length packet - payload_start_of packet
payload_long packet = length-drop (payload_start_of packet) packet

-- a section is shorter than the payload in which it stands after the pointer
pub section_within : (packet section : List ℕ) → section ≡ section_in packet → 0 < length section →
    length section < length (payload_of packet)
section_within packet section is some = omega (
  arith,
  whole_within (after_pointer packet) section is,
  length-drop 1 (payload_of packet),
)
