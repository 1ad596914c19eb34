-- Public meaning: what stands in a PAT, a CAT and a PMT.
use Rattle.std.specs.Prelude.{◌≡◌, ℕ, ◌+◌, ◌==◌, ◌&&◌, Bool, List, length, take, drop, map, filter, not, nat_le}
use Rattle.std.specs.List.{list_all}
use Rattle.sd_base.specs.Bits.{field}
use Rattle.sd_section.specs.Header.{table_id_of, body_of}
use Rattle.sd_psi.specs.declared.items.Kind.TheVariants.{Program, Descriptor}
use Rattle.sd_psi.specs.declared.items.Kind.TheVariants as Item
use Rattle.sd_psi.specs.Items.{item_size, items_of, is_whole_item, are_whole}

-- the descriptors that stand in some bytes, each by its own bytes [ISO/IEC 13818-1, 2.6]
abbrev pub descriptors_of : List ℕ → List (List ℕ)
descriptors_of bytes = items_of Descriptor bytes

-- descriptors fill the bytes exactly
abbrev pub are_descriptors : List ℕ → Bool
are_descriptors bytes = are_whole Descriptor bytes

-- descriptor_tag [ISO/IEC 13818-1, 2.6]
abbrev pub tag_of : List ℕ → ℕ
tag_of descriptor = field descriptor 0 8

-- what stands after descriptor_length [ISO/IEC 13818-1, 2.6]
abbrev pub content_of : List ℕ → List ℕ
content_of descriptor = drop 2 descriptor

-- a descriptor is as long as it says [ISO/IEC 13818-1, 2.6]
abbrev pub IsDescriptor : List ℕ → Type 0
IsDescriptor bytes = length bytes ≡ item_size Descriptor bytes

-- program_number, and the PID of the program's PMT, or of the network for program 0 [ISO/IEC 13818-1, 2.4.4.3]
abbrev pub program_of : List ℕ → ℕ × ℕ
program_of program = (field program 0 16, field program 19 13)

-- the programs that stand in some bytes [ISO/IEC 13818-1, 2.4.4.3]
abbrev pub programs_in : List ℕ → List (ℕ × ℕ)
programs_in bytes = map program_of (items_of Program bytes)

-- a PAT's programs [ISO/IEC 13818-1, 2.4.4.3]
unfoldable pub programs_of : List ℕ → List (ℕ × ℕ)
programs_of section = programs_in (body_of section)

-- the PIDs of the PMTs of some programs: those of all programs but 0, whose PID is the network's [ISO/IEC 13818-1,
-- 2.4.4.3]
unfoldable pub pmt_pids_in : List (ℕ × ℕ) → List ℕ
pmt_pids_in programs = map (λ program. program.1) (filter (λ program. not (program.0 == 0)) programs)

-- those that a PAT names
unfoldable pub pmt_pids_of : List ℕ → List ℕ
pmt_pids_of section = pmt_pids_in (programs_of section)

-- the section is a PAT: programs fill its body exactly [ISO/IEC 13818-1, 2.4.4.3]
abbrev pub is_pat : List ℕ → Bool
is_pat section = (table_id_of section == 0) && are_whole Program (body_of section)

-- the section is a CAT: descriptors fill its body exactly [ISO/IEC 13818-1, 2.4.4.6]
abbrev pub is_cat : List ℕ → Bool
is_cat section = (table_id_of section == 1) && are_descriptors (body_of section)

-- a PMT's PCR_PID [ISO/IEC 13818-1, 2.4.4.8]
abbrev pub pcr_of : List ℕ → ℕ
pcr_of section = field section 67 13

-- a PMT's program_info_length [ISO/IEC 13818-1, 2.4.4.8]
abbrev pub info_length_of : List ℕ → ℕ
info_length_of section = field section 84 12

-- the bytes of a PMT that it counts [ISO/IEC 13818-1, 2.4.4.8]
unfoldable pub info_of : List ℕ → List ℕ
info_of section = take (info_length_of section) (drop 4 (body_of section))

-- the bytes after those, up to the CRC [ISO/IEC 13818-1, 2.4.4.8]
unfoldable pub loop_of : List ℕ → List ℕ
loop_of section = drop (4 + info_length_of section) (body_of section)

-- a PMT's stream: stream_type, elementary_PID, and the bytes that ES_info_length counts [ISO/IEC 13818-1, 2.4.4.8]
pub record Stream : Type 0 where
  pub stream_type : ℕ
  pub pid : ℕ
  pub info : List ℕ

-- the stream of these bytes
abbrev pub stream_of : List ℕ → Stream
stream_of stream = record { stream_type = field stream 0 8; pid = field stream 11 13; info = drop 5 stream }

-- the streams that stand in some bytes [ISO/IEC 13818-1, 2.4.4.8]
abbrev pub streams_in : List ℕ → List Stream
streams_in bytes = map stream_of (items_of Item.Stream bytes)

-- a PMT's streams [ISO/IEC 13818-1, 2.4.4.8]
unfoldable pub streams_of : List ℕ → List Stream
streams_of section = streams_in (loop_of section)

-- the stream is as long as it says, and descriptors fill the part that ES_info_length counts [ISO/IEC 13818-1, 2.4.4.8]
abbrev pub is_stream : List ℕ → Bool
is_stream stream = is_whole_item Item.Stream stream && are_descriptors (drop 5 stream)

-- streams fill the bytes exactly
unfoldable pub are_streams : List ℕ → Bool
are_streams bytes = list_all is_stream (items_of Item.Stream bytes)

-- a PMT's program_info_length is there, and doesn't pass its body [ISO/IEC 13818-1, 2.4.4.8]
unfoldable pub has_info : List ℕ → Bool
has_info section = nat_le 4 (length (body_of section)) && nat_le (4 + info_length_of section) (length (body_of section))

-- the section is a PMT: its loops fill its body exactly [ISO/IEC 13818-1, 2.4.4.8]
unfoldable pub is_pmt : List ℕ → Bool
is_pmt section = (table_id_of section == 2) &&
    (has_info section && (are_descriptors (info_of section) && are_streams (loop_of section)))
