-- Public meaning: sections assembled from the packets of a PID.
use Rattle.std.specs.Prelude.{ℕ, zero, suc, refl, ◌+◌, ◌%◌, Bool, false, not, ◌==◌, ◌&&◌, nat_le, nat_lt, if◌then◌else◌}
use Rattle.std.specs.Prelude.{List, [], ◌∷◌, ◌++◌, length, take, drop, slice_index, slice_get, Option, Some, None}
use Rattle.std.specs.Coded.{Coded, code_by, coded×, coded_list, coded_option, coded_ℕ}
use Rattle.sd_section.specs.Header.{most_length, section_length_of, whole_of}

-- what counts of a packet: payload_unit_start_indicator, continuity_counter, and the payload [ISO/IEC 13818-1, 2.4.3.3]
pub record Fed : Type 0 where
  pub unit_start : Bool
  pub counter : ℕ
  pub payload : List ℕ

-- a section starts here: there is a byte, and it isn't the stuffing byte 0xFF [ISO/IEC 13818-1, 2.4.4]
abbrev pub starts : List ℕ → Bool
starts [] = false
starts (byte ∷ bytes) = not (byte == 255)

-- section_length is there and above the most that it may count [this project, docs/FORMATS.md, Assembler]
unfoldable pub is_overlong : List ℕ → Bool
is_overlong bytes = nat_le 3 (length bytes) && nat_lt most_length (section_length_of bytes)

-- section_length is there, and so are the bytes that it counts [ISO/IEC 13818-1, 2.4.4]
unfoldable pub is_section_whole : List ℕ → Bool
is_section_whole bytes = nat_le 3 (length bytes) && nat_le (3 + section_length_of bytes) (length bytes)

-- bytes cut into sections, and what is there of a partial one, which is nothing where there is none
pub record Cut : Type 0 where
  pub sections : List (List ℕ)
  pub making : List ℕ

-- no section, and no partial one
abbrev pub no_cut : Cut
no_cut = record { sections = []; making = [] }

-- with a section more before them
abbrev pub with_section : List ℕ → Cut → Cut
with_section section cut = record { sections = section ∷ cut.sections; making = cut.making }

-- at most n sections that follow one another and start in `first`; the last may go on in `more`
-- [ISO/IEC 13818-1, 2.4.4; this project, docs/FORMATS.md, Assembler]
unfoldable pub cut_from : ℕ → List ℕ → List ℕ → Cut
cut_from zero first more = no_cut
cut_from (suc n) first more =
    if not (starts first) then no_cut else
    if is_overlong (first ++ more) then no_cut else
    if is_section_whole (first ++ more) then with_section (whole_of (first ++ more))
    (cut_from n (drop (3 + section_length_of (first ++ more)) first) more) else
    record { sections = []; making = first ++ more }

-- all sections that start in `first`, and the last may go on in `more`
abbrev pub cut_of : List ℕ → List ℕ → Cut
cut_of first more = cut_from (length first) first more

-- the counter is the last one
abbrev pub is_last : ℕ → Option ℕ → Bool
is_last counter None = false
is_last counter (Some last) = last == counter

-- the counter is the one after the last [ISO/IEC 13818-1, 2.4.3.3]
abbrev pub is_next : ℕ → Option ℕ → Bool
is_next counter None = false
is_next counter (Some last) = (last + 1) % 16 == counter

-- the packet has a payload
abbrev pub is_fed : Fed → Bool
is_fed packet = nat_lt 0 (length packet.payload)

-- the counter of the last packet that has a payload; of the packets the last comes first [ISO/IEC 13818-1, 2.4.3.3]
unfoldable pub last_counter : List Fed → Option ℕ
last_counter [] = None
last_counter (packet ∷ before) = if is_fed packet then Some packet.counter else last_counter before

-- the packet has a payload, and isn't a duplicate [ISO/IEC 13818-1, 2.4.3.3]
abbrev pub is_taken : Fed → Option ℕ → Bool
is_taken packet last = is_fed packet && not (is_last packet.counter last)

-- the bytes of a payload with unit start that belong to what came before: as many as its first byte, the pointer, says,
-- and none where that passes the payload [ISO/IEC 13818-1, 2.4.4]
abbrev pub tail_of : List ℕ → List ℕ
tail_of payload = if nat_lt (slice_index payload 0) (length payload) then take (slice_index payload 0)
    (drop 1 payload) else []

-- the bytes after those, in which sections start [ISO/IEC 13818-1, 2.4.4]
abbrev pub fresh_of : List ℕ → List ℕ
fresh_of payload = drop (slice_index payload 0 + 1) payload

-- bytes without a gap: those in which sections start, and those of the packets after them
pub record SectionRun : Type 0 where
  pub first : List ℕ
  pub more : List ℕ

-- the run goes on where no counter is missing
abbrev pub kept_run : Fed → Option ℕ → SectionRun → SectionRun
kept_run packet last run = if is_next packet.counter last then run else record { first = []; more = [] }

-- a payload without unit start goes on with a run, and one with unit start begins another
abbrev pub longer_run : Fed → SectionRun → SectionRun
longer_run packet run =
    if packet.unit_start then record { first = fresh_of packet.payload; more = [] } else
    record { first = run.first; more = run.more ++ packet.payload }

-- the bytes since the last unit start, after these packets [ISO/IEC 13818-1, 2.4.4; this project, docs/FORMATS.md,
-- Assembler]
unfoldable pub run_after : List Fed → SectionRun
run_after [] = record { first = []; more = [] }
run_after (packet ∷ before) =
    if is_taken packet (last_counter before) then longer_run packet (kept_run packet (last_counter before)
    (run_after before)) else
    run_after before

-- the sections that bytes complete with which a run goes on
abbrev pub sections_made_whole : SectionRun → List ℕ → List (List ℕ)
sections_made_whole run bytes = drop (length (cut_of run.first run.more).sections)
    (cut_of run.first (run.more ++ bytes)).sections

-- the sections that a payload completes: of the run, and with unit start also those that are whole in the payload
-- itself
abbrev pub sections_completed_in : Fed → SectionRun → List (List ℕ)
sections_completed_in packet run =
    if packet.unit_start then sections_made_whole run (tail_of packet.payload)
    ++ (cut_of (fresh_of packet.payload) []).sections else
    sections_made_whole run packet.payload

-- the sections that the last packet completes [ISO/IEC 13818-1, 2.4.4; this project, docs/FORMATS.md, Assembler]
unfoldable pub sections_completed_by : List Fed → List (List ℕ)
sections_completed_by [] = []
sections_completed_by (packet ∷ before) =
    if is_taken packet (last_counter before) then sections_completed_in packet (kept_run packet (last_counter before)
    (run_after before)) else []

-- what an assembler keeps: the last counter, the partial section, the completed sections that it has still to
-- lend
pub record Assembling : Type 0 where
  pub counter : Option ℕ
  pub making : List ℕ
  pub waiting : List (List ℕ)

-- how contracts hold it
abbrev pub assembling_code : Coded Assembling
assembling_code = code_by (Option ℕ × (List ℕ × List (List ℕ)))
    (coded× (coded_option coded_ℕ) (coded× (coded_list coded_ℕ) (coded_list (coded_list coded_ℕ))))
    (λ s. (s.counter, (s.making, s.waiting))) (λ p. record { counter = p.0; making = p.1.0; waiting = p.1.1 })
    (λ _. refl)

-- the assembler after these packets, of which the last comes first
unfoldable pub assembler_after : List Fed → Assembling
assembler_after packets = record {
  counter = last_counter packets;
  making = (cut_of (run_after packets).first (run_after packets).more).making;
  waiting = sections_completed_by packets;
}

-- with nothing left to lend
abbrev pub all_lent : Assembling → Assembling
all_lent state = record { counter = state.counter; making = state.making; waiting = [] }

-- the section that is lent next
abbrev pub next_of : Assembling → Option (List ℕ)
next_of state = slice_get state.waiting 0

-- with that one lent
abbrev pub one_lent : Assembling → Assembling
one_lent state = record { counter = state.counter; making = state.making; waiting = drop 1 state.waiting }
