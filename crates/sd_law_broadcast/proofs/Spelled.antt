-- How long the packets of a broadcast are, and that each begins with the sync byte.
use Rattle.std.proofs.Common.{◌≡◌, ℕ, ◌+◌, ◌-◌, ◌*◌, ◌%◌, ◌≤◌, List, ◌++◌, length, take, drop}
use Rattle.std.proofs.Common.{refl, ap, ◌∙◌, arith, inl, inr, length-append, length-take-le, length-drop}
use Rattle.std.proofs.Common.{get_or-take, true}
use Rattle.std.specs.Prelude.{Option, Some, None, is_none, slice_index, slice_set}
use Rattle.std.proofs.lemmas.Bool.{cases_Bool}
use Rattle.std.proofs.lemmas.List.{get_or_append_left, length-set}
use Rattle.sd_cipher.specs.Keystream.{keystream, xored}
use Rattle.sd_cipher.proofs.Streams.{keystream_length, xored_length}
use Rattle.sd_packet.specs.Header.{pid_of, payload_start_of}
use Rattle.sd_packet.specs.Packing.{section_packet}
use Rattle.sd_packet.proofs.Packets.{packet_length, packet_sync, start_within}
use Rattle.sd_section.proofs.Spelling.{section_long}
use Rattle.sd_tree_keys.specs.Keys.{control_word_of}
use Rattle.sd_site_cards.specs.SiteFields.{SiteFields}
use Rattle.sd_psi.specs.Forms.{section_in, after_section}
use Rattle.sd_psi.specs.OurCat.{cat_header, cat_descriptor, cat_section}
use Rattle.sd_psi.specs.Tables.{info_length_of}
use Rattle.sd_psi.specs.Rewriting.{ca_descriptor, with_lengths, section_with_descriptor, before_section}
use Rattle.sd_psi.specs.Rewriting.{pmt_with_descriptor, rewrite_fault}
use Rattle.sd_psi.specs.declared.fault.FormFault.{FormFault}
use Rattle.sd_psi.specs.Undone.{IsPacket}
use Rattle.sd_psi.proofs.Undoing.{IsRightPmt, other_head, sealed_long}
use Rattle.sd_psi.proofs.Inverse.{packet_parts, may_rewrite}
use Rattle.sd_section.specs.Header.{section_length_of}
use Rattle.sd_cipher.specs.Scrambling.{stream_number, control_of, payload_under, packet_under_keystream}
use Rattle.sd_cipher.proofs.Scramblings.{prefix_is}
use Rattle.sd_message.specs.EmmSpelled.{listed_entries, table_id_for, emm_body, emm_header, emm_section}
use Rattle.sd_message.specs.EmmForm.{AreSets, IsEmm, FitsEmmFields}
use Rattle.sd_message.specs.declared.emm.Emm.{Emm}
use Rattle.sd_message.proofs.EmmAgain.{few_entries, few_head, long_whole}
use Rattle.sd_message.specs.EcmSpelled.{ecm_body, ecm_header, ecm_section}
use Rattle.sd_message.specs.EcmForm.{IsEcm, FitsEcmFields as FitsPart}
use Rattle.sd_message.specs.declared.ecm_part.EcmPart.{EcmPart}
use Rattle.sd_message.proofs.Versions.{fits_packet}
use Rattle.sd_message.proofs.EcmAgain.{long_body}
use Rattle.sd_spec.specs.Plan.{word_of}
use Rattle.sd_spec.specs.Kinds.{kind_of}
use Rattle.sd_spec.specs.Carried.{parity_of, place_after, pmt_carried, packet_under_word, carried_as, carried}
use Rattle.sd_spec.specs.declared.kind.Kind.{Kind}
use Rattle.sd_spec.specs.declared.kind.Kind.TheVariants.{Passed, Pmt, Scrambled}
use Rattle.sd_law_broadcast.specs.Packets.{IsWholePacket}
use Rattle.sd_law_broadcast.proofs.Carrying.{kind_placed, placed_packet}
use Rattle.sd_law_broadcast.specs.Synced.{IsSynced}

-- a packed section is one that a stream may have
pub packed_synced : (section : List ℕ) (pid counter : ℕ) → length section ≤ 183 →
    IsSynced (section_packet section pid counter)
packed_synced section pid counter few =
    record { long = packet_length section pid counter few; sync = packet_sync section pid counter }

-- the project's sections fit into a packet
pub cat_short : (ca emm ecm : ℕ) → length (cat_section ca emm ecm) ≤ 183
unfolding cat_section
cat_short ca emm ecm = omega (arith, section_long cat_header (cat_descriptor ca emm ecm))

pub emm_short : (h : ℕ) (emm : Emm) → h ≤ 20 → FitsEmmFields emm → IsEmm emm → AreSets h emm.sets (listed_entries emm) →
    length (emm_section emm) ≤ 183
unfolding emm_section
emm_short h emm high fits form sets =
    omega (
      arith,
      section_long (emm_header (table_id_for emm.run) emm.index) (emm_body emm),
      long_whole h emm high fits form sets,
      few_head emm.run,
      few_entries emm form,
    )

pub ecm_short : (part : EcmPart) → FitsPart part → IsEcm part → length (ecm_section part) ≤ 183
unfolding ecm_section
ecm_short part fits form =
    omega (
      arith,
      section_long (ecm_header part) (ecm_body part),
      long_body part fits form,
      form.counted.few,
      fits_packet part.version,
    )

-- a scrambled packet is as long, and begins as it did
veiled_synced : (site : SiteFields) (t position : ℕ) (packet : List ℕ) → IsSynced packet →
    IsSynced (packet_under_word site t position packet)
unfolding packet_under_word packet_under_keystream
veiled_synced site t position packet is =
    let word : List ℕ = control_word_of site.master t in
    let start : ℕ = payload_start_of packet in
    let within = start_within packet in
    let fourth : ℕ = control_of (parity_of t) * 64 + slice_index packet 3 % 64 in
    let stream : List ℕ = keystream word (stream_number (pid_of packet) position) 184 in
    let prefix = prefix_is packet (payload_under packet word position) start fourth within.0 (omega (arith, is.long)) in
    record {
      long = omega (
        arith,
        length-append (take start (slice_set packet 3 fourth)) (xored (drop start packet) stream),
        length-take-le start (slice_set packet 3 fourth) (omega (arith, length-set packet 3 fourth, is.long, within.1)),
        xored_length (drop start packet) stream (omega (
          arith,
          length-drop start packet,
          is.long,
          within.0,
          keystream_length word (stream_number (pid_of packet) position) 184,
        )),
        length-drop start packet,
        is.long,
        within.1,
      );
      sync = prefix.first ∙ is.sync;
    }

-- the section of a PMT is six bytes longer with the descriptor
inserted_long : (ca pid : ℕ) (section : List ℕ) → IsRightPmt section → length section + 6 ≤ 183 →
    length (section_with_descriptor (ca_descriptor ca pid) section) ≡ length section + 6
unfolding section_with_descriptor ca_descriptor
inserted_long ca pid section is few =
    let a : ℕ = section_length_of section + 6 in
    let b : ℕ = info_length_of section + 6 in
    let head = other_head section is a b (omega (arith, is.long, is.few)) (omega (arith, is.info, is.few)) in
    let inner : List ℕ = take (length section - 4 - 12) (drop 12 section) in
    omega (
      arith,
      sealed_long (with_lengths a b (take 12 section)) (ca_descriptor ca pid ++ inner) head.long,
      length-append (ca_descriptor ca pid) inner,
      length-take-le (length section - 4 - 12) (drop 12 section) (omega (arith, length-drop 12 section, is.info)),
      is.info,
    )

-- a rewritten packet is as long, and begins as it did
rewritten_synced : (ca pid : ℕ) (packet : List ℕ) → IsPacket packet → rewrite_fault packet ≡ None → IsSynced packet →
    IsSynced (pmt_with_descriptor ca pid packet)
unfolding pmt_with_descriptor
rewritten_synced ca pid packet is may synced =
    let good = may_rewrite packet is may in
    let section : List ℕ = section_in packet in
    let after : List ℕ = after_section packet in
    let parts = ap (λ (l : List ℕ). length l) (packet_parts packet) in
    let all = length-append (before_section packet) (section ++ after) in
    let both = length-append section after in
    let before = length-take-le (payload_start_of packet + 1) packet (omega (arith, is.long, is.payload)) in
    let start = (start_within packet).0 in
    let new = inserted_long ca pid section good.is_right
    (omega (arith, parts, all, both, before, start, is.long, good.room)) in
    record {
      long = omega (
        arith,
        length-append (before_section packet) (section_with_descriptor (ca_descriptor ca pid) section ++ drop 6 after),
        length-append (section_with_descriptor (ca_descriptor ca pid) section) (drop 6 after),
        length-drop 6 after,
        parts,
        all,
        both,
        new,
        good.room,
        is.long,
      );
      sync =
          get_or_append_left (before_section packet) (section_with_descriptor (ca_descriptor ca pid) section
          ++ drop 6 after) 0 0
          (omega (arith, before))
          ∙ (get_or-take (payload_start_of packet + 1) packet 0 0 (omega arith) ∙ synced.sync);
    }

none_is : (fault : Option FormFault) → is_none fault ≡ true → fault ≡ None
none_is None e = refl
none_is (Some fault) e = absurd (cc)

pmt_synced : (site : SiteFields) (packet : List ℕ) → IsPacket packet → IsSynced packet →
    IsSynced (pmt_carried site packet)
unfolding pmt_carried
pmt_synced site packet is synced = elim (cases_Bool (is_none (rewrite_fault packet))) [
  | inr full ↦ rw full synced
  | inl room ↦ rw room (rewritten_synced site.ca site.ecm packet is (none_is (rewrite_fault packet) room) synced)
]

-- a clear packet stays one that a stream may have
pub carried_synced : (site : SiteFields) (before : List (List ℕ)) (packet : List ℕ) → IsWholePacket packet →
    IsSynced packet → IsSynced (carried site before packet)
unfolding carried
carried_synced site before packet whole synced = by_kind (kind_of before packet) refl
  where
    by_kind : (kind : Kind) → kind_of before packet ≡ kind → IsSynced (carried_as kind site before packet)
    by_kind Passed is = synced
    by_kind Pmt is =
        pmt_synced site packet (placed_packet packet whole (kind_placed before packet (λ e. absurd (cc)))) synced
    by_kind Scrambled is = veiled_synced site (word_of site (length before)) (place_after before packet) packet synced
