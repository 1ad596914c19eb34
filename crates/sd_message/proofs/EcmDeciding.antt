-- The tests of what a packet is read as tell what the rules say.
use Rattle.std.proofs.Common.{◌≡◌, ℕ, ◌+◌, ◌*◌, ◌%◌, ◌<◌, List, length, refl, sym, ap, ◌∙◌, subst}
use Rattle.std.specs.Prelude.{Bool, true, false, ◌==◌, ◌&&◌, ◌||◌, not, nat_le, nat_lt, if◌then◌else◌, Option, Some}
use Rattle.std.specs.Prelude.{None, Result, Ok, Err}
use Rattle.std.specs.Bool.{Decides}
use Rattle.std.specs.List.{list_all}
use Rattle.std.proofs.lemmas.Bool.Decides.{Decides-and, Decides-or, Decides-eqb, Decides-ltb, Decides-like}
use Rattle.std.proofs.lemmas.Bool.Decides.{Decides-by_and}
use Rattle.sd_packet.specs.Packing.{section_packet}
use Rattle.sd_packet.specs.Positions.{is_positional}
use Rattle.sd_section.specs.Header.{least_length, table_id_of, section_length_of, extension_of, section_number_of}
use Rattle.sd_section.specs.Header.{last_number_of, body_of}
use Rattle.sd_message.specs.Framed.{frames_section, section_of}
use Rattle.sd_message.proofs.Deciding.{tells_section, is_false, tells_le}
use Rattle.sd_message.proofs.Ascending.{tells_pairs}
use Rattle.sd_message.specs.EcmVersions.{positions_for, ecm_head_length, even_table_id, version_for}
use Rattle.sd_message.specs.EcmSpelled.{listed_places, ecm_section, SpellsPart}
use Rattle.sd_message.specs.EcmForm.{ArePositioned, IsPositioned, ArePidsAscending, IsEcm, FitsEcmFields}
use Rattle.sd_message.specs.EcmFields.{ecm_version_of, body_flags, ecm_in, ecm_of, HasEcmCount, IsMatched, IsEcmSection}
use Rattle.sd_message.specs.EcmFields.{IsEcmPacket}
use Rattle.sd_message.specs.EcmFields.{IsGoodEcm, BreaksEcmRule, BreaksEcmFirst}
use Rattle.sd_message.specs.EcmJudged.{is_count_due, are_positioned, is_ascending_by_pid, is_matched, ecm_judged}
use Rattle.sd_message.specs.EcmJudged.{is_ecm_section}
use Rattle.sd_message.specs.EcmJudged.{has_ecm, ecm_read}
use Rattle.sd_message.specs.declared.ecm_part.Place.{Place}
use Rattle.sd_message.specs.declared.ecm_part.EcmPart.{EcmPart}
use Rattle.sd_message.specs.declared.ecm_fault.EcmFault.{EcmFault}
use Rattle.sd_message.specs.declared.ecm_fault.EcmFault.TheVariants.{Count, Order, Pid, Mixed, Back}
use Rattle.sd_message.proofs.EcmReading.{IsParted, at_section, breaks_first, good_first, good_form, spelled_is_packet}
use Rattle.sd_message.proofs.EcmReading.{spelled_is_read, spelled_is_good, written_spells}

-- the count is what it is to be
tells_counted : (length : ℕ) (part : EcmPart) → Decides (is_count_due length part) (HasEcmCount length part)
tells_counted length part =
    let most : ℕ = positions_for part.version in
    Decides-like _
    (λ all. (all.0, record { few = all.1.0; full = all.1.1.0; some = all.1.1.1 }))
    (λ has. (has.0, (has.1.few, (has.1.full, has.1.some))))
    (Decides-and (length == ecm_head_length part.version + 8 * part.count) _
    (Decides-eqb length (ecm_head_length part.version + 8 * part.count))
    (Decides-and (nat_le part.count most) _ (tells_le part.count most)
    (Decides-and ((part.part == part.last_part) || (part.count == most)) ((part.part == 0) || nat_lt 0 part.count)
    (Decides-or (part.part == part.last_part) (part.count == most) (Decides-eqb part.part part.last_part)
    (Decides-eqb part.count most))
    (Decides-or (part.part == 0) (nat_lt 0 part.count) (Decides-eqb part.part 0) (Decides-ltb 0 part.count)))))

-- the PIDs have positions
tells_same : (b : Bool) → Decides b (b ≡ true)
tells_same b = (λ yes. yes, λ yes. yes)

tells_positioned : (places : List Place) → Decides (are_positioned places) (ArePositioned places)
tells_positioned places =
    Decides-by_and (λ (place : Place). is_positional place.pid) IsPositioned
    (list_all (λ place. is_positional place.pid))
    (λ place. tells_same (is_positional place.pid)) refl (λ _ _. refl) places

-- they ascend
tells_ascending : (places : List Place) → Decides (is_ascending_by_pid places) (ArePidsAscending places)
tells_ascending places =
    tells_pairs (λ (a b : Place). nat_lt a.pid b.pid) (λ a b. a.pid < b.pid) (λ a b. Decides-ltb a.pid b.pid) places

-- the flags, the table_id and `since` match
tells_matched : (table_id flags : ℕ) (part : EcmPart) → Decides (is_matched table_id flags part)
    (IsMatched table_id flags part)
tells_matched table_id flags part =
    Decides-like _
    (λ all. record { flags_are = all.0; parity = all.1.0; since = all.1.1 })
    (λ is. (is.flags_are, (is.parity, is.since)))
    (Decides-and (nat_le flags 1) _ (tells_le flags 1)
    (Decides-and (table_id % 2 == part.word % 2) (nat_lt part.since part.number
    || ((part.since == 0) && (part.number == 0)))
    (Decides-eqb (table_id % 2) (part.word % 2))
    (Decides-or (nat_lt part.since part.number) ((part.since == 0) && (part.number == 0))
    (Decides-ltb part.since part.number)
    (Decides-and (part.since == 0) (part.number == 0) (Decides-eqb part.since 0) (Decides-eqb part.number 0)))))

-- the section is a part of a control message
tells_ecm_section : (section : List ℕ) → Decides (is_ecm_section section) (IsEcmSection section)
tells_ecm_section section =
    let table : ℕ = table_id_of section in
    let even : ℕ = even_table_id (ecm_version_of section) in
    let room : ℕ = ecm_head_length (ecm_version_of section) + least_length in
    Decides-like _
    (λ all. record { table_id = all.0; extension = all.1.0; numbered = all.1.1.0; room = all.1.1.1 })
    (λ is. (is.table_id, (is.extension, (is.numbered, is.room))))
    (Decides-and ((table == even) || (table == even + 1)) _
    (Decides-or (table == even) (table == even + 1) (Decides-eqb table even) (Decides-eqb table (even + 1)))
    (Decides-and (extension_of section == 0) _ (Decides-eqb (extension_of section) 0)
    (Decides-and (nat_le (section_number_of section) (last_number_of section)) (nat_le room (section_length_of section))
    (tells_le (section_number_of section) (last_number_of section)) (tells_le room (section_length_of section)))))

-- the packet begins with one
tells_ecm : (packet : List ℕ) → Decides (has_ecm packet) (IsEcmPacket packet)
unfolding has_ecm
tells_ecm packet =
    Decides-like _ (λ both. record { has = both.0; ecm = both.1 }) (λ is. (is.has, is.ecm))
    (Decides-and (frames_section packet) (is_ecm_section (section_of packet)) (tells_section packet)
    (tells_ecm_section (section_of packet)))

-- what breaks no rule is taken
judged_good : (table_id : ℕ) (body : List ℕ) (part : EcmPart) → IsGoodEcm table_id body part →
    ecm_judged table_id body part ≡ Ok (Some part)
unfolding ecm_judged
judged_good table_id body part good =
    rw (
      (tells_counted (length body) part).1 good.has_count,
      (tells_positioned (listed_places part)).1 good.places,
      (tells_ascending (listed_places part)).1 good.ascending,
      (tells_matched table_id (body_flags part.version body) part).1
          good.matched,
    )
    refl

-- the rule that is broken first is the fault
judged_bad : (table_id : ℕ) (body : List ℕ) (part : EcmPart) (fault : EcmFault) →
    BreaksEcmRule table_id body part fault →
    ecm_judged table_id body part ≡ Err fault
unfolding ecm_judged
judged_bad table_id body part Count breaks = rw (is_false _ (tells_counted (length body) part) breaks) refl
judged_bad table_id body part Pid breaks =
    rw ((tells_counted (length body) part).1 breaks.0, is_false _ (tells_positioned (listed_places part)) breaks.1) refl
judged_bad table_id body part Order breaks =
    rw (
      (tells_counted (length body) part).1 breaks.0,
      (tells_positioned (listed_places part)).1 breaks.1.0,
      is_false _
          (tells_ascending (listed_places part)) breaks.1.1,
    )
    refl
judged_bad table_id body part Mixed breaks =
    rw (
      (tells_counted (length body) part).1 breaks.0,
      (tells_positioned (listed_places part)).1 breaks.1.0,
      (tells_ascending (listed_places part)).1 breaks.1.1.0,
      is_false _ (tells_matched table_id (body_flags part.version body)
          part) breaks.1.1.1,
    )
    refl
judged_bad table_id body part Back breaks = absurd breaks

-- where something is taken, each test is passed
all_passed : (a b c d : Bool) (part read : EcmPart) →
    (if not a then Err Count else if not b then Err Pid else if not c then Err Order else if not d then Err Mixed else
    Ok (Some part))
    ≡ Ok (Some read) → ((a ≡ true) × (b ≡ true)) × ((c ≡ true) × ((d ≡ true) × (part ≡ read)))
all_passed false b c d part read is = absurd (cc)
all_passed true false c d part read is = absurd (cc)
all_passed true true false d part read is = absurd (cc)
all_passed true true true false part read is = absurd (cc)
all_passed true true true true part read is = ((refl, refl), (refl, (refl, cc)))

-- something is read of a packet of this kind alone
taken : (has : Bool) (read : Result (Option EcmPart) EcmFault) (part : EcmPart) → (if has then read else Ok None)
    ≡ Ok (Some part) →
    (has ≡ true) × (read ≡ Ok (Some part))
taken true read part is = (refl, is)
taken false read part is = absurd (cc)

-- what is taken breaks no rule
good_judged : (table_id : ℕ) (body : List ℕ) (part read : EcmPart) → ecm_judged table_id body part ≡ Ok (Some read) →
    (part ≡ read) × IsGoodEcm table_id body part
unfolding ecm_judged
good_judged table_id body part read is =
    let all = all_passed (is_count_due (length body) part) (are_positioned (listed_places part))
    (is_ascending_by_pid (listed_places part))
    (is_matched table_id (body_flags part.version body) part) part read is in (
      all.1.1.1,
      record {
        has_count = (tells_counted (length body) part).0 all.0.0;
        places = (tells_positioned (listed_places part)).0 all.0.1;
        ascending = (tells_ascending (listed_places part)).0 all.1.0;
        matched = (tells_matched table_id (body_flags part.version body) part).0 all.1.1.0;
      },
    )

-- a packet of another kind is read as nothing
pub other_reads : (packet : List ℕ) → ¬ IsEcmPacket packet → ecm_read packet ≡ Ok None
unfolding ecm_read
other_reads packet other = rw (is_false _ (tells_ecm packet) other) refl

-- one that breaks a rule as the first that it breaks
pub broken_reads : (packet : List ℕ) (fault : EcmFault) → IsEcmPacket packet →
    BreaksEcmFirst (section_of packet) fault →
    ecm_read packet ≡ Err fault
unfolding ecm_read
broken_reads packet fault is breaks =
    rw ((tells_ecm packet).1 is) (judged_bad (table_id_of (section_of packet)) (body_of (section_of packet))
    (ecm_of (section_of packet)) fault breaks)

-- one that breaks none as what it says
pub good_reads : (packet : List ℕ) → IsEcmPacket packet →
    IsGoodEcm (table_id_of (section_of packet)) (body_of (section_of packet)) (ecm_of (section_of packet)) →
    ecm_read packet ≡ Ok (Some (ecm_of (section_of packet)))
unfolding ecm_read
good_reads packet is good =
    rw ((tells_ecm packet).1 is) (judged_good (table_id_of (section_of packet)) (body_of (section_of packet))
    (ecm_of (section_of packet)) good)

-- what is known of the parts of a packet's section, by themselves
pub broken_at : (packet section body : List ℕ) (table_id number last : ℕ) (fault : EcmFault) → IsEcmPacket packet →
    section ≡ section_of packet → IsParted section body table_id number last →
    BreaksEcmRule table_id body (ecm_in (version_for table_id) number last body) fault → ecm_read packet ≡ Err fault
broken_at packet section body table_id number last fault is is_section are breaks =
    broken_reads packet fault is (breaks_first packet section body table_id number last fault is_section are breaks)

pub good_at : (packet section body : List ℕ) (table_id number last : ℕ) (part : EcmPart) → IsEcmPacket packet →
    section ≡ section_of packet → IsParted section body table_id number last → part ≡ ecm_in (version_for table_id)
    number last body →
    IsGoodEcm table_id body (ecm_in (version_for table_id) number last body) → ecm_read packet ≡ Ok (Some part)
good_at packet section body table_id number last part is is_section are is_part good =
    let same : part ≡ ecm_of section = at_section (λ (t : ℕ) (b : List ℕ) (p : EcmPart). part ≡ p) section body table_id
    number last are is_part in
    good_reads packet is (good_first packet section body table_id number last is_section are good)
    ∙ ap (λ (p : EcmPart). Ok (Some p)) (sym (same ∙ ap ecm_of is_section))

-- a packet that spells a part is read as it
pub spelled_reads : (part : EcmPart) (packet : List ℕ) → FitsEcmFields part → IsEcm part → SpellsPart part packet →
    ecm_read packet
    ≡ Ok (Some part)
spelled_reads part packet fits form spells =
    good_reads packet (spelled_is_packet part packet fits form spells)
    (spelled_is_good part packet (section_of packet) fits form spells refl)
    ∙ ap (λ (p : EcmPart). Ok (Some p)) (spelled_is_read part packet (section_of packet) fits form spells refl)

pub packed_reads : (part : EcmPart) (pid counter : ℕ) → FitsEcmFields part → IsEcm part → pid < 8192 → counter < 16 →
    ecm_read (section_packet (ecm_section part) pid counter) ≡ Ok (Some part)
packed_reads part pid counter fits form p c =
    spelled_reads part (section_packet (ecm_section part) pid counter) fits form (written_spells part pid counter p c)

-- what is read is in its form, and its table_id has the parity of its control word
record IsTaken (packet : List ℕ) (part : EcmPart) : Type 0 where
  same : ecm_of (section_of packet) ≡ part
  ecm : IsEcmSection (section_of packet)
  good : IsGoodEcm (table_id_of (section_of packet)) (body_of (section_of packet)) (ecm_of (section_of packet))

is_taken : (packet : List ℕ) (part : EcmPart) → ecm_read packet ≡ Ok (Some part) → IsTaken packet part
unfolding ecm_read
is_taken packet part is =
    let section : List ℕ = section_of packet in
    let judged = taken (has_ecm packet) (ecm_judged (table_id_of section) (body_of section) (ecm_of section)) part is in
    let good = good_judged (table_id_of section) (body_of section) (ecm_of section) part judged.1 in
    let there : IsEcmPacket packet = (tells_ecm packet).0 judged.0 in
    record { same = good.0; ecm = there.ecm; good = good.1 }

pub read_form : (packet : List ℕ) (part : EcmPart) → ecm_read packet ≡ Ok (Some part) → IsEcm part
read_form packet part is =
    let read = is_taken packet part is in
    subst IsEcm read.same (good_form (section_of packet) read.ecm read.good)

pub read_parity : (packet : List ℕ) (part : EcmPart) → ecm_read packet ≡ Ok (Some part) →
    table_id_of (section_of packet) % 2 ≡ part.word % 2
read_parity packet part is =
    let read = is_taken packet part is in
    subst (λ (p : EcmPart). table_id_of (section_of packet) % 2 ≡ p.word % 2) read.same read.good.matched.parity
