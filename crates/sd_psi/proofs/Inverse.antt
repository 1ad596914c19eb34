-- A packet that is rewritten and restored is as it was, and one that is restored and rewritten too.
use Rattle.std.proofs.Common.{ℕ, zero, suc, ◌+◌, ◌≤◌, ◌≡◌, Bool, true, false, ◌==◌, ◌&&◌, List, [], ◌∷◌, ◌++◌, length}
use Rattle.std.proofs.Common.{take, drop, get_or, get_or-take, get_or-drop, eq-eqb, length-append, length-drop}
use Rattle.std.proofs.Common.{length-take, length-take-le, take-append-drop, refl, sym, ap, ◌∙◌, arith}
use Rattle.std.specs.Prelude.{Option, Some, None, nat_le, replicate}
use Rattle.std.specs.List.{list_all}
use Rattle.std.proofs.lemmas.List.{take_at, drop_at, drop-drop}
use Rattle.std.proofs.lemmas.Bool.{and_parts, eqb-true, leb-true, le-leb}
use Rattle.sd_base.specs.Bits.{field}
use Rattle.sd_packet.specs.Header.{adaptation_of, payload_start_of, payload_of}
use Rattle.sd_packet.proofs.Packets.{start_within}
use Rattle.sd_section.proofs.Judging.{field_take}
use Rattle.sd_section.specs.Header.{table_id_of, syntax_of, section_length_of, section_number_of, last_number_of}
use Rattle.sd_section.specs.Header.{whole_of}
use Rattle.sd_section.specs.Header.{body_of, crc_in, crc_due}
use Rattle.sd_section.proofs.Cutting.{field_append, body_long}
use Rattle.sd_psi.specs.declared.fault.FormFault.{FormFault}
use Rattle.sd_psi.specs.declared.fault.FormFault.TheVariants as Fault
use Rattle.sd_psi.specs.declared.form.Table.TheVariants.{Pmt}
use Rattle.sd_psi.specs.Tables.{info_length_of, has_info, is_pmt}
use Rattle.sd_psi.specs.Forms.{fault_unless, fault_or_next, after_pointer, section_in, after_section, has_pointer}
use Rattle.sd_psi.specs.Forms.{has_table}
use Rattle.sd_psi.specs.Forms.{has_body, has_length, table_crc_fault, is_stuffing, bytes_fault, outer_fault}
use Rattle.sd_psi.specs.Rewriting.{ca_descriptor, section_with_descriptor, section_without_descriptor, before_section}
use Rattle.sd_psi.specs.Rewriting.{pmt_with_descriptor, pmt_without_descriptor, loops_fault}
use Rattle.sd_psi.specs.Rewriting.{has_pmt_room, is_first_descriptor, rewrite_fault, removal_fault}
use Rattle.sd_psi.specs.Undone.{IsPacket}
use Rattle.sd_psi.proofs.Listing.{pmt_has, pmt_info}
use Rattle.sd_psi.proofs.Heads.{bytes_after, bytes_before}
use Rattle.sd_psi.proofs.Shapes.{IsShaped, shaped_has, IsInserted, inserted_shape, IsSix, first_six, removed_shape}
use Rattle.sd_psi.proofs.Undoing.{IsRightPmt, removed_inserted, inserted_removed}
use Rattle.sd_psi.proofs.Shapes.{six_long}

-- where a payload starts is read from the first five bytes
pub same_start : (p q : List ℕ) (n : ℕ) → 5 ≤ n → take n p ≡ take n q → payload_start_of p ≡ payload_start_of q
unfolding payload_start_of
same_start p q n h e =
    let control : adaptation_of p ≡ adaptation_of q =
    sym (field_take p n 26 2 (omega arith)) ∙
    (ap (λ (l : List ℕ). field l 26 2) e ∙ field_take q n 26 2 (omega arith)) in
    let count : get_or p 4 0 ≡ get_or q 4 0 =
    sym (get_or-take n p 4 0 (omega arith)) ∙
    (ap (λ (l : List ℕ). get_or l 4 0) e ∙ get_or-take n q 4 0 (omega arith)) in
    rw (control, count) refl

-- the prefix of a packet with another section and other bytes after it
module _ (packet : List ℕ) (is : IsPacket packet) (section rest : List ℕ)
    (long : length section ≡ 3 + section_length_of section) (some : 12 ≤ length section) where
  before_long : length (before_section packet) ≡ payload_start_of packet + 1
  before_long = length-take-le (payload_start_of packet + 1) packet (omega (arith, is.long, is.payload))

  before_at : take (payload_start_of packet + 1) (before_section packet ++ (section ++ rest)) ≡ before_section packet
  before_at = take_at (before_section packet) (section ++ rest) (payload_start_of packet + 1) before_long

  pub start_of : payload_start_of (before_section packet ++ (section ++ rest)) ≡ payload_start_of packet
  start_of = same_start (before_section packet ++ (section ++ rest)) packet (payload_start_of packet + 1)
      (omega (arith, (start_within packet).0)) before_at

  pub before_of : before_section (before_section packet ++ (section ++ rest)) ≡ before_section packet
  before_of = ap (λ (n : ℕ). take (n + 1) (before_section packet ++ (section ++ rest))) start_of ∙ before_at

  pub after_of : after_pointer (before_section packet ++ (section ++ rest)) ≡ section ++ rest
  after_of =
      ap (λ (n : ℕ). drop 1 (drop n (before_section packet ++ (section ++ rest)))) start_of
      ∙ (drop-drop 1 (payload_start_of packet) (before_section packet ++ (section ++ rest)) ∙
      drop_at (before_section packet) (section ++ rest) (payload_start_of packet + 1) before_long)

  length_of : section_length_of (section ++ rest) ≡ section_length_of section
  length_of = field_append section rest 12 12 (omega arith)

  pub section_of : section_in (before_section packet ++ (section ++ rest)) ≡ section
  section_of =
      ap whole_of after_of
      ∙ (ap (λ (n : ℕ). take (3 + n) (section ++ rest)) length_of ∙ take_at section rest (3 + section_length_of section)
      long)

  pub rest_of : after_section (before_section packet ++ (section ++ rest)) ≡ rest
  rest_of =
      ap (λ (l : List ℕ). drop (3 + section_length_of l) l) after_of
      ∙ (ap (λ (n : ℕ). drop (3 + n) (section ++ rest)) length_of ∙ drop_at section rest (3 + section_length_of section)
      long)

-- a packet is its prefix, its section, and what stands after it
pub packet_parts : (packet : List ℕ) → before_section packet ++ (section_in packet ++ after_section packet) ≡ packet
packet_parts packet =
    ap (λ (l : List ℕ). before_section packet ++ l) (take-append-drop (3 + section_length_of (after_pointer packet))
    (after_pointer packet))
    ∙ (ap (λ (l : List ℕ). before_section packet ++ l) (drop-drop 1 (payload_start_of packet) packet) ∙
    take-append-drop (payload_start_of packet + 1) packet)

-- where nothing is wrong, each test holds
pub none_parts : (a b : Option FormFault) → fault_or_next a b ≡ None → (a ≡ None) × (b ≡ None)
none_parts None b h = (refl, h)
none_parts (Some f) b h = absurd (cc)

pub none_true : (test : Bool) (fault : FormFault) → fault_unless test fault ≡ None → test ≡ true
none_true true fault h = refl
none_true false fault h = absurd (cc)

pub record IsGood (packet : List ℕ) : Type 0 where
  pub pointer : has_pointer packet ≡ true
  pub table : has_table Pmt (after_pointer packet) ≡ true
  pub lengths : has_length Pmt (after_pointer packet) ≡ true
  pub right : crc_in (section_in packet) ≡ crc_due (section_in packet)
  pub stuffing : is_stuffing (after_section packet) ≡ true

outer_good : (packet : List ℕ) → outer_fault Pmt packet ≡ None → IsGood packet
unfolding outer_fault
outer_good packet h =
    let pointers = none_parts (fault_unless (has_pointer packet) Fault.Pointer) (bytes_fault Pmt (after_pointer packet))
    h in
    let tables = none_parts (fault_unless (has_table Pmt (after_pointer packet)) Fault.Table)
    (fault_or_next (fault_unless (has_length Pmt (after_pointer packet)) Fault.Length)
    (fault_or_next (table_crc_fault (section_in packet)) (fault_unless (is_stuffing (after_section packet))
    Fault.Trailing)))
    pointers.1 in
    let lengths = none_parts (fault_unless (has_length Pmt (after_pointer packet)) Fault.Length)
    (fault_or_next (table_crc_fault (section_in packet)) (fault_unless (is_stuffing (after_section packet))
    Fault.Trailing))
    tables.1 in
    let crcs = none_parts (table_crc_fault (section_in packet))
    (fault_unless (is_stuffing (after_section packet)) Fault.Trailing) lengths.1 in
    record {
      pointer = none_true (has_pointer packet) Fault.Pointer pointers.0;
      table = none_true (has_table Pmt (after_pointer packet)) Fault.Table tables.0;
      lengths = none_true (has_length Pmt (after_pointer packet)) Fault.Length lengths.0;
      right = eqb-true (crc_in (section_in packet)) (crc_due (section_in packet))
          (none_true (crc_in (section_in packet) == crc_due (section_in packet)) _ crcs.0);
      stuffing = none_true (is_stuffing (after_section packet)) Fault.Trailing crcs.1;
    }

-- a good packet's section is a PMT
right_pmt : (packet : List ℕ) → IsPacket packet → IsGood packet → is_pmt (section_in packet) ≡ true →
    IsRightPmt (section_in packet)
unfolding has_info
right_pmt packet is good pmt =
    let after : List ℕ = after_pointer packet in
    let section : List ℕ = section_in packet in
    let threes = and_parts (nat_le 3 (length after))
    (nat_le (3 + section_length_of after) (length after) &&
    (nat_le 13 (section_length_of after) && has_body Pmt section)) good.lengths in
    let wholes = and_parts (nat_le (3 + section_length_of after) (length after))
    (nat_le 13 (section_length_of after) && has_body Pmt section) threes.1 in
    let lows = and_parts (nat_le 13 (section_length_of after)) (has_body Pmt section) wholes.1 in
    let there : 3 + section_length_of after ≤ length after = leb-true (3 + section_length_of after) (length after)
    wholes.0 in
    let low : 13 ≤ section_length_of after = leb-true 13 (section_length_of after) lows.0 in
    let count : length section ≡ 3 + section_length_of after = length-take-le (3 + section_length_of after) after
    there in
    let same : section_length_of section ≡ section_length_of after = field_take after (3 + section_length_of after) 12
    12 (omega arith) in
    let has = and_parts (nat_le 4 (length (body_of section)))
    (nat_le (4 + info_length_of section) (length (body_of section))) (pmt_has section pmt) in
    let fits : 4 + info_length_of section ≤ length (body_of section) = leb-true (4 + info_length_of section)
    (length (body_of section)) has.1 in
    record {
      long = omega arith;
      few = omega (
        arith,
        length-drop 1 (payload_of packet),
        length-drop (payload_start_of packet) packet,
        is.long,
        (start_within packet).0,
      );
      bytes = bytes_before after (3 + section_length_of after)
          (bytes_after (payload_of packet) 1 (bytes_after packet (payload_start_of packet) is.bytes));
      right = good.right;
      info = omega (arith, body_long section);
    }

-- six bytes of stuffing
stuffed : (n : ℕ) (bytes : List ℕ) → n ≤ length bytes → is_stuffing bytes ≡ true → replicate n 255 ++ drop n bytes
    ≡ bytes
stuffed zero bytes h all = refl
stuffed (suc n) [] h all = absurd (omega arith)
stuffed (suc n) (b ∷ bs) h all =
    let tests = and_parts (b == 255) (list_all (λ byte. byte == 255) bs) all in
    let first : b ≡ 255 = eqb-true b 255 tests.0 in
    rw (stuffed n bs (omega arith) tests.1) (ap (λ (x : ℕ). x ∷ bs) (sym first))

-- a packet that may be rewritten
pub record MayRewrite (packet : List ℕ) : Type 0 where
  pub good : IsGood packet
  pub is_right : IsRightPmt (section_in packet)
  pub room : 6 ≤ length (after_section packet)
  pub form : is_pmt (section_in packet) ≡ true

pub may_rewrite : (packet : List ℕ) → IsPacket packet → rewrite_fault packet ≡ None → MayRewrite packet
unfolding rewrite_fault
may_rewrite packet is h =
    let outers = none_parts (outer_fault Pmt packet)
    (fault_or_next (fault_unless (has_pmt_room packet) Fault.NoRoom) (loops_fault (section_in packet))) h in
    let rooms = none_parts (fault_unless (has_pmt_room packet) Fault.NoRoom) (loops_fault (section_in packet)) outers.1
    in
    let good = outer_good packet outers.0 in
    let form = none_true (is_pmt (section_in packet)) Fault.Descriptor rooms.1 in
    record {
      good = good;
      is_right = right_pmt packet is good form;
      room = leb-true 6 (length (after_section packet)) (none_true (has_pmt_room packet) Fault.NoRoom rooms.0);
      form = form;
    }

-- a packet that is good stays so with another section of its shape
pointer_kept : (packet : List ℕ) (is : IsPacket packet) (section rest : List ℕ) → length section ≡ 3 + section_length_of
    section → 12 ≤ length section →
    has_pointer (before_section packet ++ (section ++ rest)) ≡ has_pointer packet
pointer_kept packet is section rest long some =
    let new : List ℕ = before_section packet ++ (section ++ rest) in
    let n : ℕ = payload_start_of packet + 1 in
    let five : 5 ≤ n = omega (arith, (start_within packet).0) in
    let same : take n new ≡ take n packet = before_at packet is section rest long some in
    let unit : field new 9 1 ≡ field packet 9 1 =
    sym (field_take new n 9 1 (omega arith)) ∙
    (ap (λ (l : List ℕ). field l 9 1) same ∙ field_take packet n 9 1 (omega arith)) in
    let byte : get_or (payload_of new) 0 0 ≡ get_or (payload_of packet) 0 0 =
    ap (λ (k : ℕ). get_or (drop k new) 0 0) (start_of packet is section rest long some)
    ∙ (get_or-drop (payload_start_of packet) new 0 0
    ∙ (sym (get_or-take n new (payload_start_of packet + 0) 0 (omega arith))
    ∙ (ap (λ (l : List ℕ). get_or l (payload_start_of packet + 0) 0) same
    ∙ (get_or-take n packet (payload_start_of packet + 0) 0 (omega arith) ∙
    sym (get_or-drop (payload_start_of packet) packet 0 0))))) in
    rw (unit, byte) refl

bytes_good : (bytes : List ℕ) → has_table Pmt bytes ≡ true → has_length Pmt bytes ≡ true → crc_in (whole_of bytes)
    ≡ crc_due (whole_of bytes) →
    is_stuffing (drop (3 + section_length_of bytes) bytes) ≡ true → bytes_fault Pmt bytes ≡ None
bytes_good bytes table lengths right stuffing =
    let crc : table_crc_fault (whole_of bytes) ≡ None =
    ap (λ (t : Bool). fault_unless t (Fault.Crc (crc_in (whole_of bytes)) (crc_due (whole_of bytes))))
    (eq-eqb (crc_in (whole_of bytes)) (crc_due (whole_of bytes)) right) in
    ap (λ (t : Bool). fault_or_next (fault_unless t Fault.Table)
    (fault_or_next (fault_unless (has_length Pmt bytes) Fault.Length)
    (fault_or_next (table_crc_fault (whole_of bytes)) (fault_unless
    (is_stuffing (drop (3 + section_length_of bytes) bytes))
    Fault.Trailing)))) table
    ∙ (ap (λ (t : Bool). fault_or_next (fault_unless t Fault.Length)
    (fault_or_next (table_crc_fault (whole_of bytes)) (fault_unless
    (is_stuffing (drop (3 + section_length_of bytes) bytes))
    Fault.Trailing))) lengths
    ∙ (ap (λ (f : Option FormFault). fault_or_next f (fault_unless
    (is_stuffing (drop (3 + section_length_of bytes) bytes))
    Fault.Trailing)) crc
    ∙ ap (λ (t : Bool). fault_unless t Fault.Trailing) stuffing))

-- its table and its lengths
table_kept : (packet section rest : List ℕ) → IsGood packet → IsRightPmt (section_in packet) →
    IsShaped (section_in packet) section →
    has_table Pmt (section ++ rest) ≡ true
table_kept packet section rest good is_right shape =
    let after : List ℕ = after_pointer packet in
    let n : ℕ = 3 + section_length_of after in
    let taken : length (section_in packet) ≤ n = omega (arith, length-take n after) in
    let kept : (at width : ℕ) → at + width ≤ 96 → field (section_in packet) at width ≡ field after at width =
    λ at width h. field_take after n at width (omega (arith, is_right.info)) in
    let before : (at width : ℕ) → at + width ≤ 96 → field (section ++ rest) at width ≡ field section at width =
    λ at width h. field_append section rest at width (omega (arith, shape.low)) in
    let ids = and_parts (nat_le 2 (length after))
    ((table_id_of after == 2) &&
    ((syntax_of after == 1) && ((section_number_of after == 0) && (last_number_of after == 0)))) good.table in
    let forms = and_parts (table_id_of after == 2)
    ((syntax_of after == 1) && ((section_number_of after == 0) && (last_number_of after == 0))) ids.1 in
    let syntax = and_parts (syntax_of after ==
    1) ((section_number_of after == 0) && (last_number_of after == 0)) forms.1 in
    let numbers = and_parts (section_number_of after == 0) (last_number_of after == 0) syntax.1 in
    let e0 : table_id_of (section ++ rest) ≡ 2 = before 0 8 (omega arith) ∙
    (shape.id ∙ (kept 0 8 (omega arith) ∙ eqb-true (table_id_of after) 2 forms.0)) in
    let e1 : syntax_of (section ++ rest) ≡ 1 = before 8 1 (omega arith) ∙
    (shape.syntax ∙ (kept 8 1 (omega arith) ∙ eqb-true (syntax_of after) 1 syntax.0)) in
    let e2 : section_number_of (section ++ rest) ≡ 0 = before 48 8 (omega arith) ∙
    (shape.number ∙ (kept 48 8 (omega arith) ∙ eqb-true (section_number_of after) 0 numbers.0)) in
    let e3 : last_number_of (section ++ rest) ≡ 0 = before 56 8 (omega arith) ∙
    (shape.last_number ∙ (kept 56 8 (omega arith) ∙ eqb-true (last_number_of after) 0 numbers.1)) in
    let two : nat_le 2 (length (section ++ rest)) ≡ true = le-leb 2 (length (section ++ rest))
    (omega (arith, shape.low, length-append section rest)) in
    rw (two, e0, e1, e2, e3) refl

lengths_kept : (old section rest : List ℕ) → IsShaped old section → has_length Pmt (section ++ rest) ≡ true
unfolding has_body
lengths_kept old section rest shape =
    let all = length-append section rest in
    let lengths : section_length_of (section ++ rest) ≡ section_length_of section = field_append section rest 12 12
    (omega (arith, shape.low)) in
    let whole : whole_of (section ++ rest) ≡ section = take_at section rest (3 + section_length_of (section ++ rest))
    (shape.long ∙ omega arith) in
    let has : has_info (whole_of (section ++ rest)) ≡ true = ap has_info whole ∙ shaped_has old section shape in
    rw (le-leb 3 (length (section ++ rest)) (omega (arith, shape.low)))
    (rw (le-leb (3 + section_length_of (section ++ rest)) (length (section ++ rest)) (omega (arith, shape.long)))
    (rw (le-leb 13 (section_length_of (section ++ rest)) (omega (arith, shape.long, shape.low))) has))

outer_kept : (packet : List ℕ) (is : IsPacket packet) (section rest : List ℕ) → IsGood packet →
    IsRightPmt (section_in packet) →
    IsShaped (section_in packet) section → is_stuffing rest ≡ true →
    outer_fault Pmt (before_section packet ++ (section ++ rest)) ≡ None
unfolding outer_fault
outer_kept packet is section rest good is_right shape stuffing =
    let some : 12 ≤ length section = omega (arith, shape.low) in
    let after : after_pointer (before_section packet ++ (section ++ rest)) ≡ section ++ rest = after_of packet is
    section rest shape.long some in
    let lengths : section_length_of (section ++ rest) ≡ section_length_of section = field_append section rest 12 12
    (omega arith) in
    let count : length section ≡ 3 + section_length_of (section ++ rest) = shape.long ∙ omega arith in
    let whole : whole_of (section ++ rest) ≡ section = take_at section rest (3 + section_length_of (section ++ rest))
    count in
    let left : drop (3 + section_length_of (section ++ rest)) (section ++ rest) ≡ rest = drop_at section rest
    (3 + section_length_of (section ++ rest)) count in
    let right : crc_in (whole_of (section ++ rest)) ≡ crc_due (whole_of (section ++ rest)) = ap crc_in whole ∙
    (shape.right ∙ ap crc_due (sym whole)) in
    ap (λ (t : Bool). fault_or_next (fault_unless t Fault.Pointer)
    (bytes_fault Pmt (after_pointer (before_section packet ++ (section ++ rest)))))
    (pointer_kept packet is section rest shape.long some ∙ good.pointer)
    ∙ (ap (bytes_fault Pmt) after
    ∙ bytes_good (section ++ rest) (table_kept packet section rest good is_right shape)
    (lengths_kept (section_in packet) section rest shape) right (ap is_stuffing left ∙ stuffing))

-- a packet that was rewritten may be restored, and is then as it was
less_stuffing : (n : ℕ) (bytes : List ℕ) → is_stuffing bytes ≡ true → is_stuffing (drop n bytes) ≡ true
less_stuffing zero bytes h = h
less_stuffing (suc n) [] h = h
less_stuffing (suc n) (b ∷ bs) h = less_stuffing n bs (and_parts (b == 255) (list_all (λ byte. byte == 255) bs) h).1

-- how long a packet's parts are
parts_long : (packet : List ℕ) → IsPacket packet → length (section_in packet) + length (after_section packet) ≤ 183
parts_long packet is =
    omega (
      arith,
      ap (λ (l : List ℕ). length l) (take-append-drop (3 + section_length_of (after_pointer packet))
          (after_pointer packet)),
      length-append (section_in packet) (after_section packet),
      length-drop 1 (payload_of packet),
      length-drop (payload_start_of packet) packet,
      is.long,
      (start_within packet).0,
    )

rewritten_section : (ca pid : ℕ) (packet : List ℕ) → IsPacket packet → MayRewrite packet →
    IsInserted ca pid (section_in packet) (section_with_descriptor (ca_descriptor ca pid) (section_in packet))
rewritten_section ca pid packet is may = inserted_shape ca pid (section_in packet) may.is_right may.form
    (omega (arith, parts_long packet is, may.room))

pub restorable : (ca pid : ℕ) (packet : List ℕ) → IsPacket packet → rewrite_fault packet ≡ None →
    removal_fault (ca_descriptor ca pid) (pmt_with_descriptor ca pid packet) ≡ None
unfolding pmt_with_descriptor removal_fault
restorable ca pid packet is h =
    let may = may_rewrite packet is h in
    let section : List ℕ = section_with_descriptor (ca_descriptor ca pid) (section_in packet) in
    let new = rewritten_section ca pid packet is may in
    let rest : List ℕ = drop 6 (after_section packet) in
    let some : 12 ≤ length section = omega (arith, new.shape.low) in
    let before = outer_kept packet is section rest may.good may.is_right new.shape
    (less_stuffing 6 (after_section packet) may.good.stuffing) in
    let there : section_in (before_section packet ++ (section ++ rest)) ≡ section = section_of packet is section rest
    new.shape.long some in
    let form : is_pmt (section_in (before_section packet ++ (section ++ rest))) ≡ true = ap is_pmt there ∙ new.form in
    let first : is_first_descriptor (ca_descriptor ca pid) (section_in (before_section packet ++ (section ++ rest)))
    ≡ true = ap (is_first_descriptor (ca_descriptor ca pid)) there ∙ new.first in
    rw (before, form, first) refl

pub restored_again : (ca pid : ℕ) (packet : List ℕ) → IsPacket packet → rewrite_fault packet ≡ None →
    pmt_without_descriptor (pmt_with_descriptor ca pid packet) ≡ packet
unfolding pmt_with_descriptor pmt_without_descriptor
restored_again ca pid packet is h =
    let may = may_rewrite packet is h in
    let section : List ℕ = section_with_descriptor (ca_descriptor ca pid) (section_in packet) in
    let new = rewritten_section ca pid packet is may in
    let rest : List ℕ = drop 6 (after_section packet) in
    let some : 12 ≤ length section = omega (arith, new.shape.low) in
    ap (λ (l : List ℕ). l ++ (section_without_descriptor (section_in (before_section packet ++ (section ++ rest)))
    ++ (replicate 6 255 ++ after_section (before_section packet ++ (section ++ rest)))))
    (before_of packet is section rest new.shape.long some)
    ∙ (ap (λ (l : List ℕ). before_section packet
    ++ (section_without_descriptor l ++ (replicate 6 255 ++ after_section (before_section packet
    ++ (section ++ rest)))))
    (section_of packet is section rest new.shape.long some)
    ∙ (ap (λ (l : List ℕ). before_section packet ++ (section_without_descriptor section ++ (replicate 6 255 ++ l)))
    (rest_of packet is section rest new.shape.long some)
    ∙ (ap (λ (l : List ℕ). before_section packet ++ (l ++ (replicate 6 255 ++ rest)))
    (removed_inserted (section_in packet) may.is_right (ca_descriptor ca pid) (six_long ca pid))
    ∙ (ap (λ (l : List ℕ). before_section packet ++ (section_in packet ++ l))
    (stuffed 6 (after_section packet) may.room may.good.stuffing) ∙ packet_parts packet))))

-- a packet that may be restored
pub record MayRestore (descriptor packet : List ℕ) : Type 0 where
  pub good : IsGood packet
  pub is_right : IsRightPmt (section_in packet)
  pub form : is_pmt (section_in packet) ≡ true
  pub first : is_first_descriptor descriptor (section_in packet) ≡ true

may_restore : (descriptor packet : List ℕ) → IsPacket packet → removal_fault descriptor packet ≡ None →
    MayRestore descriptor packet
unfolding removal_fault
may_restore descriptor packet is h =
    let ours : Option FormFault = fault_unless (is_first_descriptor descriptor (section_in packet)) Fault.Descriptor in
    let outers = none_parts (outer_fault Pmt packet) (fault_or_next (loops_fault (section_in packet)) ours) h in
    let loops = none_parts (loops_fault (section_in packet)) ours outers.1 in
    let good = outer_good packet outers.0 in
    let form = none_true (is_pmt (section_in packet)) Fault.Descriptor loops.0 in
    record {
      good = good;
      is_right = right_pmt packet is good form;
      form = form;
      first = none_true (is_first_descriptor descriptor (section_in packet)) Fault.Descriptor loops.1;
    }

ours_six : (ca pid : ℕ) (packet : List ℕ) → MayRestore (ca_descriptor ca pid) packet →
    IsSix (ca_descriptor ca pid) (section_in packet)
ours_six ca pid packet may =
    first_six (ca_descriptor ca pid) (section_in packet) may.is_right may.first (six_long ca pid)
    (pmt_info (section_in packet) may.form)

-- a packet that was restored may be rewritten, and is then as it was
more_stuffing : (n : ℕ) (bytes : List ℕ) → is_stuffing bytes ≡ true → is_stuffing (replicate n 255 ++ bytes) ≡ true
more_stuffing zero bytes h = h
more_stuffing (suc n) bytes h = more_stuffing n bytes h

pub rewritable : (ca pid : ℕ) (packet : List ℕ) → IsPacket packet → removal_fault (ca_descriptor ca pid) packet ≡ None →
    rewrite_fault (pmt_without_descriptor packet) ≡ None
unfolding pmt_without_descriptor rewrite_fault
rewritable ca pid packet is h =
    let may = may_restore (ca_descriptor ca pid) packet is h in
    let section : List ℕ = section_without_descriptor (section_in packet) in
    let new = removed_shape (ca_descriptor ca pid) (section_in packet) may.is_right may.form
    (ours_six ca pid packet may) in
    let rest : List ℕ = replicate 6 255 ++ after_section packet in
    let some : 12 ≤ length section = omega (arith, new.shape.low) in
    let before = outer_kept packet is section rest may.good may.is_right new.shape
    (more_stuffing 6 (after_section packet) may.good.stuffing) in
    let left : after_section (before_section packet ++ (section ++ rest)) ≡ rest = rest_of packet is section rest
    new.shape.long some in
    let room : has_pmt_room (before_section packet ++ (section ++ rest)) ≡ true =
    ap (λ (l : List ℕ). nat_le 6 (length l))
    left ∙ le-leb 6 (length rest) (omega (arith, length-append (replicate 6 255) (after_section packet))) in
    let form : is_pmt (section_in (before_section packet ++ (section ++ rest))) ≡ true = ap is_pmt
    (section_of packet is section rest new.shape.long some) ∙ new.form in
    rw (before, room, form) refl

pub rewritten_again : (ca pid : ℕ) (packet : List ℕ) → IsPacket packet → removal_fault (ca_descriptor ca pid) packet
    ≡ None →
    pmt_with_descriptor ca pid (pmt_without_descriptor packet) ≡ packet
unfolding pmt_with_descriptor pmt_without_descriptor
rewritten_again ca pid packet is h =
    let may = may_restore (ca_descriptor ca pid) packet is h in
    let ours = ours_six ca pid packet may in
    let section : List ℕ = section_without_descriptor (section_in packet) in
    let new = removed_shape (ca_descriptor ca pid) (section_in packet) may.is_right may.form ours in
    let rest : List ℕ = replicate 6 255 ++ after_section packet in
    let some : 12 ≤ length section = omega (arith, new.shape.low) in
    let descriptor : List ℕ = ca_descriptor ca pid in
    ap (λ (l : List ℕ). l ++ (section_with_descriptor descriptor
    (section_in (before_section packet ++ (section ++ rest)))
    ++ drop 6 (after_section (before_section packet ++ (section ++ rest)))))
    (before_of packet is section rest new.shape.long some)
    ∙ (ap (λ (l : List ℕ). before_section packet
    ++ (section_with_descriptor descriptor l ++ drop 6 (after_section (before_section packet ++ (section ++ rest)))))
    (section_of packet is section rest new.shape.long some)
    ∙ (ap (λ (l : List ℕ). before_section packet ++ (section_with_descriptor descriptor section ++ drop 6 l))
    (rest_of packet is section rest new.shape.long some)
    ∙ (ap (λ (l : List ℕ). before_section packet ++ (l ++ after_section packet))
    (inserted_removed (section_in packet) may.is_right descriptor ours.is ours.counted)
    ∙ packet_parts packet)))
