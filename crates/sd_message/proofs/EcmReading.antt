-- Packets of control messages and what they spell.
use Rattle.std.proofs.Common.{◌≡◌, inl, inr, ℕ, ◌+◌, ◌*◌, ◌%◌, ◌<◌, ◌≤◌, List, length, arith, refl, sym, ap, ◌∙◌, subst}
use Rattle.std.proofs.lemmas.Bool.{cases_eq}
use Rattle.sd_packet.specs.Packing.{section_packet}
use Rattle.sd_section.specs.Header.{table_id_of, section_number_of, last_number_of, body_of}
use Rattle.sd_section.specs.Written.{section_bytes, FitsHeaderFields as FitsHeader}
use Rattle.sd_section.specs.declared.write.Header.{Header}
use Rattle.sd_section.proofs.Spelling.{fields_are_read}
use Rattle.sd_message.specs.Framed.{section_of, header_of, BeginsWithSection}
use Rattle.sd_message.proofs.Numbers.{IsBytes}
use Rattle.sd_message.proofs.Framing.{packed_begins, begun_is_there, begun_is_read}
use Rattle.sd_message.specs.EcmVersions.{ecm_head_length, even_table_id, version_for}
use Rattle.sd_message.specs.EcmSpelled.{ecm_header, ecm_body, ecm_section, SpellsPart}
use Rattle.sd_message.specs.EcmForm.{IsEcm, FitsEcmFields}
use Rattle.sd_message.specs.EcmFields.{ecm_version_of, IsEcmTable, body_flags, ecm_in, ecm_of, BreaksEcmRule}
use Rattle.sd_message.specs.EcmFields.{BreaksEcmFirst, IsEcmSection}
use Rattle.sd_message.specs.EcmFields.{IsEcmPacket, IsGoodEcm}
use Rattle.sd_message.specs.declared.ecm_part.EcmPart.{EcmPart}
use Rattle.sd_message.specs.declared.ecm_fault.EcmFault.{EcmFault}
use Rattle.sd_message.proofs.Versions.{even_fits, even_is_even, version_again, version_is, fits_packet}
use Rattle.sd_message.proofs.EcmAgain.{body_again, long_body, few_flags}
use Rattle.sd_message.proofs.EcmJudging.{good_is_ecm, good_never, breaks_once}
use Rattle.sd_message.proofs.EcmSpelling.{body_spelled}

-- the header's numbers fit
header_fits : (part : EcmPart) → FitsEcmFields part → FitsHeader (ecm_header part)
header_fits part fits = record {
  table_id = omega (arith, even_fits part.version);
  extension = omega arith;
  number = fits.part_fits;
  last_number = fits.last_part;
}

-- a body is short
short_body : (part : EcmPart) → FitsEcmFields part → IsEcm part → length (ecm_body part) ≤ 4084
short_body part fits form = omega (arith, long_body part fits form, form.counted.few, fits_packet part.version)

-- the section of a packet that spells a part
spelled_section : (part : EcmPart) (packet : List ℕ) → FitsEcmFields part → IsEcm part → SpellsPart part packet →
    section_of packet ≡ section_bytes (ecm_header part) (ecm_body part)
unfolding ecm_section
spelled_section part packet fits form spells =
    begun_is_read (ecm_header part) (ecm_body part) packet (header_fits part fits) (short_body part fits form) spells

-- what is read of a part's section, by its fields
record IsPart (part : EcmPart) (section : List ℕ) : Type 0 where
  table_id : table_id_of section ≡ even_table_id part.version + part.word % 2
  version : ecm_version_of section ≡ part.version
  number : section_number_of section ≡ part.part
  last_number : last_number_of section ≡ part.last_part
  inner : body_of section ≡ ecm_body part

part_read : (part : EcmPart) → FitsEcmFields part → IsEcm part →
    IsPart part (section_bytes (ecm_header part) (ecm_body part))
part_read part fits form =
    let read = fields_are_read (ecm_header part) (ecm_body part) (header_fits part fits) (short_body part fits form) in
    record {
      table_id = read.table_id;
      version = ap version_for read.table_id ∙ version_again part.version part.word form.version;
      number = read.number;
      last_number = read.last_number;
      inner = read.inner;
    }

-- the table_id of a part's section is the version's and the parity of its control word
pub table_of_section : (part : EcmPart) → FitsEcmFields part → IsEcm part →
    table_id_of (ecm_section part) ≡ even_table_id part.version + part.word % 2
unfolding ecm_section
table_of_section part fits form = (part_read part fits form).table_id

pub parity_of_section : (part : EcmPart) → FitsEcmFields part → IsEcm part →
    table_id_of (ecm_section part) % 2 ≡ part.word % 2
parity_of_section part fits form = omega (arith, table_of_section part fits form, even_is_even part.version)

-- the table_id is one of two
table_cases : (table_id version word : ℕ) → table_id ≡ even_table_id version + word % 2 → IsEcmTable version table_id
table_cases table_id version word is = elim (cases_eq (word % 2) 0) [
  | inl e ↦ inl (omega arith)
  | inr g ↦ let odd : word % 2 ≡ 1 = omega arith in inr (omega arith)
]

-- such a packet is one of control messages
pub spelled_is_packet : (part : EcmPart) (packet : List ℕ) → FitsEcmFields part → IsEcm part → SpellsPart part packet →
    IsEcmPacket packet
unfolding ecm_section
spelled_is_packet part packet fits form spells =
    let section : List ℕ = section_bytes (ecm_header part) (ecm_body part) in
    let read = fields_are_read (ecm_header part) (ecm_body part) (header_fits part fits) (short_body part fits form) in
    let is = part_read part fits form in
    let is_ecm : IsEcmSection section = record {
      table_id = subst (λ (v : ℕ). IsEcmTable v (table_id_of section)) (sym is.version)
          (table_cases _ part.version part.word is.table_id);
      extension = read.extension;
      numbered = omega (arith, is.number, is.last_number, form.numbered);
      room = rw is.version (omega (arith, read.section_length, long_body part fits form));
    } in
    record {
      has = begun_is_there (ecm_header part) (ecm_body part) packet (header_fits part fits) (short_body part fits form)
          spells;
      ecm = subst IsEcmSection (sym (spelled_section part packet fits form spells)) is_ecm;
    }

-- what is read of it is what it spells
pub spelled_is_read : (part : EcmPart) (packet section : List ℕ) → FitsEcmFields part → IsEcm part →
    SpellsPart part packet →
    section ≡ section_of packet → ecm_of section ≡ part
spelled_is_read part packet section fits form spells is_section =
    let is = subst (IsPart part) (sym (is_section ∙ spelled_section part packet fits form spells))
    (part_read part fits form) in
    rw (is.version, is.number, is.last_number, is.inner) (body_again part fits form)

-- and nothing is wrong with it
pub spelled_is_good : (part : EcmPart) (packet section : List ℕ) → FitsEcmFields part → IsEcm part →
    SpellsPart part packet →
    section ≡ section_of packet → IsGoodEcm (table_id_of section) (body_of section) (ecm_of section)
spelled_is_good part packet section fits form spells is_section =
    let is = subst (IsPart part) (sym (is_section ∙ spelled_section part packet fits form spells))
    (part_read part fits form) in
    let same = spelled_is_read part packet section fits form spells is_section in
    subst (IsGoodEcm (table_id_of section) (body_of section)) (sym same) (record {
      has_count = (ap length is.inner ∙ long_body part fits form, form.counted);
      places = form.places;
      ascending = form.ascending;
      matched = record {
        flags_are = subst (λ (l : List ℕ). body_flags part.version l ≤ 1) (sym is.inner) (few_flags part);
        parity = omega (arith, is.table_id, even_is_even part.version);
        since = form.since.before;
      };
    })

-- a header by its fields
abbrev headed : ℕ → ℕ → ℕ → ℕ → Header
headed table_id extension number last = record {
  table_id = table_id;
  extension = extension;
  number = number;
  last_number = last;
}

same_headed : (t t' e e' n n' l l' : ℕ) → t ≡ t' → e ≡ e' → n ≡ n' → l ≡ l' → headed t e n l ≡ headed t' e' n' l'
same_headed t t' e e' n n' l l' f g h i = rw (f, g, h, i) refl

-- the table_id is that of the control word
table_of : (table_id version word : ℕ) → IsEcmTable version table_id → table_id % 2 ≡ word % 2 →
    table_id ≡ even_table_id version + word % 2
table_of table_id version word (inl e) parity = omega (arith, even_is_even version)
table_of table_id version word (inr e) parity = omega (arith, even_is_even version)

-- what is read of a section, by its fields
fields_of_section : (section : List ℕ) →
    ((ecm_of section).version ≡ ecm_version_of section) × ((ecm_of section).part ≡ section_number_of section)
    × ((ecm_of section).last_part ≡ last_number_of section)
unfolding ecm_in
fields_of_section section = (refl, refl, refl)

-- the section's header is that of the part
header_is : (section : List ℕ) → IsEcmSection section → table_id_of section % 2 ≡ (ecm_of section).word % 2 →
    header_of section ≡ ecm_header (ecm_of section)
unfolding header_of
header_is section ecm parity =
    let part : EcmPart = ecm_of section in
    let are = fields_of_section section in
    let table : table_id_of section ≡ even_table_id part.version + part.word % 2 =
    rw are.0 (table_of (table_id_of section) (ecm_version_of section) part.word ecm.table_id parity) in
    same_headed _ _ _ _ _ _ _ _ table ecm.extension (sym are.1) (sym are.2)

-- the packet spells what was read of it
read_spells : (packet section : List ℕ) → IsBytes (body_of section) → IsGoodEcm (table_id_of section) (body_of section)
    (ecm_of section) →
    IsEcmSection section → BeginsWithSection section packet →
    section ≡ section_bytes (header_of section) (body_of section) →
    SpellsPart (ecm_of section) packet
unfolding ecm_section
read_spells packet section each good ecm begins spelled =
    let part : EcmPart = ecm_of section in
    let are = fields_of_section section in
    let long : length (body_of section) ≡ ecm_head_length (ecm_version_of section) + 8 * part.count =
    subst (λ (v : ℕ). length (body_of section) ≡ ecm_head_length v + 8 * part.count) are.0 good.has_count.0 in
    let few : body_flags (ecm_version_of section) (body_of section) ≤ 1 =
    subst (λ (v : ℕ). body_flags v (body_of section) ≤ 1) are.0 good.matched.flags_are in
    let same_body : ecm_body part ≡ body_of section =
    body_spelled (ecm_version_of section) (section_number_of section) (last_number_of section) (body_of section) each
    long
    few in
    let head : header_of section ≡ ecm_header part = header_is section ecm good.matched.parity in
    let same : section ≡ section_bytes (ecm_header part) (ecm_body part) =
    spelled ∙ (ap (λ (h : Header). section_bytes h (body_of section)) head ∙ ap (section_bytes (ecm_header part))
    (sym same_body)) in
    subst (λ (s : List ℕ). BeginsWithSection s packet) same begins

-- which is in its form
pub good_form : (section : List ℕ) → IsEcmSection section → IsGoodEcm (table_id_of section) (body_of section)
    (ecm_of section) →
    IsEcm (ecm_of section)
good_form section ecm good =
    good_is_ecm (table_id_of section) (ecm_version_of section) (section_number_of section) (last_number_of section)
    (body_of section)
    (version_is (table_id_of section)) ecm.numbered good

-- what was read of a section's parts, which are those of the section
pub record IsParted (section body : List ℕ) (table_id number last : ℕ) : Type 0 where
  pub is_table : table_id ≡ table_id_of section
  pub is_number : number ≡ section_number_of section
  pub is_last : last ≡ last_number_of section
  pub is_body : body ≡ body_of section

-- a fact of the parts is one of the section
pub at_section : (P : ℕ → List ℕ → EcmPart → Type 0) (section body : List ℕ) (table_id number last : ℕ) →
    IsParted section body table_id number last → P table_id body (ecm_in (version_for table_id) number last body) →
    P (table_id_of section) (body_of section) (ecm_of section)
at_section P section body table_id number last are known =
    subst (λ (b : List ℕ). P (table_id_of section) b (ecm_in (ecm_version_of section) (section_number_of section)
    (last_number_of section) b)) are.is_body
    (subst (λ (l : ℕ). P (table_id_of section) body (ecm_in (ecm_version_of section) (section_number_of section) l
    body))
    are.is_last
    (subst (λ (n : ℕ). P (table_id_of section) body (ecm_in (ecm_version_of section) n last body)) are.is_number
    (subst (λ (t : ℕ). P t body (ecm_in (version_for t) number last body)) are.is_table known)))

abbrev pub IsRead : List ℕ → EcmPart → Type 0
IsRead packet part = SpellsPart part packet × IsEcm part

pub read_is_right : (packet section body : List ℕ) (table_id number last : ℕ) (part : EcmPart) →
    IsParted section body table_id number last →
    part ≡ ecm_in (version_for table_id) number last body → IsBytes body →
    IsGoodEcm table_id body (ecm_in (version_for table_id) number last body) → IsEcmSection section →
    BeginsWithSection section packet →
    section ≡ section_bytes (header_of section) (body_of section) → IsRead packet part
read_is_right packet section body table_id number last part are is each good ecm begins spelled =
    let good_too = at_section IsGoodEcm section body table_id number last are good in
    let same : part ≡ ecm_of section = at_section (λ (t : ℕ) (b : List ℕ) (p : EcmPart). part ≡ p) section body table_id
    number last are is in
    subst (IsRead packet) (sym same) (
      read_spells packet section (subst IsBytes are.is_body each) good_too ecm begins spelled,
      good_form section ecm
          good_too,
    )

-- the packet of a part begins with its section
pub written_spells : (part : EcmPart) (pid counter : ℕ) → pid < 8192 → counter < 16 →
    SpellsPart part (section_packet (ecm_section part) pid counter)
written_spells part pid counter h k = packed_begins (ecm_section part) pid counter h k

-- the rule that was broken is the one that the packet's section breaks first
pub breaks_first : (packet section body : List ℕ) (table_id number last : ℕ) (fault : EcmFault) →
    section ≡ section_of packet →
    IsParted section body table_id number last → BreaksEcmRule table_id body
    (ecm_in (version_for table_id) number last body)
    fault →
    BreaksEcmFirst (section_of packet) fault
breaks_first packet section body table_id number last fault is_section are breaks =
    subst (λ (s : List ℕ). BreaksEcmFirst s fault) is_section
    (at_section (λ (t : ℕ) (b : List ℕ) (p : EcmPart). BreaksEcmRule t b p fault) section body table_id number last are
    breaks)

-- and a section that breaks none
pub good_first : (packet section body : List ℕ) (table_id number last : ℕ) → section ≡ section_of packet →
    IsParted section body table_id number last → IsGoodEcm table_id body
    (ecm_in (version_for table_id) number last body) →
    IsGoodEcm (table_id_of (section_of packet)) (body_of (section_of packet)) (ecm_of (section_of packet))
good_first packet section body table_id number last is_section are good =
    subst (λ (s : List ℕ). IsGoodEcm (table_id_of s) (body_of s) (ecm_of s)) is_section
    (at_section IsGoodEcm section body table_id number last are good)

-- no rule is broken where none was
pub never_first : (packet section body : List ℕ) (table_id number last : ℕ) (fault : EcmFault) →
    section ≡ section_of packet →
    IsParted section body table_id number last → IsGoodEcm table_id body
    (ecm_in (version_for table_id) number last body) →
    ¬ BreaksEcmFirst (section_of packet) fault
never_first packet section body table_id number last fault is_section are good breaks =
    good_never _ _ _ fault (good_first packet section body table_id number last is_section are good) breaks

-- so the fault that was found is the first
pub first_once : (packet section body : List ℕ) (table_id number last : ℕ) (found fault : EcmFault) →
    section ≡ section_of packet →
    IsParted section body table_id number last → BreaksEcmRule table_id body
    (ecm_in (version_for table_id) number last body)
    found →
    BreaksEcmFirst (section_of packet) fault → found ≡ fault
first_once packet section body table_id number last found fault is_section are breaks first =
    let s : List ℕ = section_of packet in
    breaks_once (table_id_of s) (body_of s) (ecm_of s) found fault
    (breaks_first packet section body table_id number last found is_section are breaks) first
