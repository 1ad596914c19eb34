-- Public meaning: how a stream ends for a receiver.
use Rattle.std.specs.Prelude.{ℕ, ◌+◌, ◌-◌, ◌^◌, ◌==◌, ◌&&◌, Bool, false, nat_lt, min, List, [], ◌∷◌, length, map}
use Rattle.std.specs.Prelude.{reverse, find, is_none, if◌then◌else◌, Option, Some, None}
use Rattle.std.specs.List.{list_any, list_all, range_with_len}
use Rattle.std.specs.Option.{option_map_or}
use Rattle.sd_base.specs.Types.{Packet, Packets, PeriodNumber}
use Rattle.sd_site_cards.specs.CardFields.{CardFields}
use Rattle.sd_message.specs.declared.emm.Emm.{Emm}
use Rattle.sd_spec.specs.declared.ending.Ending.{Ending}
use Rattle.sd_spec.specs.declared.ending.Ending.TheVariants.{Opened, Revoked, Unheard, NoCat, Unclosed, Gaps}
use Rattle.sd_spec.specs.Tuned.{tuning_of}
use Rattle.sd_spec.specs.Heard.{Heard, hears}
use Rattle.sd_spec.specs.Stretches.{messages, newest_message, is_closed, sections_seen}
use Rattle.sd_spec.specs.Keys.{key_at}
use Rattle.sd_spec.specs.Runs.{is_turn}
use Rattle.sd_spec.specs.Offered.{heard, offered}

-- the periods of the complete messages, the oldest first
unfoldable pub periods_told : List Heard → List PeriodNumber
periods_told past = reverse (map (λ message. message.period) (messages past))

-- no key of the period is known
abbrev pub is_unkeyed : CardFields → List Heard → PeriodNumber → Bool
is_unkeyed card past q = is_none (key_at card past q)

-- there is a section, and one of each index that it says there is
abbrev pub are_all : List Emm → Bool
are_all [] = false
are_all (emm ∷ sections) =
    list_all (λ x. list_any (λ other. other.index == x) (emm ∷ sections)) (range_with_len 0 emm.sections)

-- all sections of the period were seen, and at least one
abbrev pub is_all_seen : List Heard → PeriodNumber → Bool
is_all_seen past q = are_all (sections_seen q past)

-- the ending by the first revoked period, the first period without a key, and the number of packets that are missing
abbrev pub ending_with : Option PeriodNumber → Option PeriodNumber → ℕ → Ending
ending_with (Some q) other gaps = Revoked q
ending_with None (Some q) gaps = Unheard q
ending_with None None gaps = if nat_lt 0 gaps then Gaps gaps else Opened

-- how a closed run ends of which this was heard and this number of packets was written
abbrev pub closed_ending : CardFields → List Heard → ℕ → Ending
closed_ending card past written =
    ending_with (find (λ q. is_unkeyed card past q && is_all_seen past q) (periods_told past))
    (find (is_unkeyed card past) (periods_told past))
    (option_map_or (λ message. message.clear) (newest_message past).message 0 - written)

-- how a run ends of which this was heard and this number of packets was written [this project, docs/FORMATS.md,
-- Receiver]
unfoldable pub run_ending : CardFields → List Heard → ℕ → Ending
run_ending card past written =
    if is_closed past then closed_ending card past written
    else Unclosed (option_map_or (λ message. message.number + 1) (newest_message past).message 0)

-- the order of endings: of two runs the ending with the lower rank counts
abbrev pub rank_of : Ending → ℕ
rank_of NoCat = 0
rank_of (Unclosed n) = 1
rank_of (Revoked q) = 2
rank_of (Unheard q) = 3
rank_of (Gaps n) = 4
rank_of Opened = 5

-- the number of packets that were not written, if the ending is Gaps
abbrev pub gaps_in : Ending → Option ℕ
gaps_in (Gaps n) = Some n
gaps_in NoCat = None
gaps_in (Unclosed n) = None
gaps_in (Revoked q) = None
gaps_in (Unheard q) = None
gaps_in Opened = None

-- Gaps with the sum of two numbers if both are there, up to 2^64 - 1; or else this ending
abbrev pub gaps_or : Option ℕ → Option ℕ → Ending → Ending
gaps_or None b other = other
gaps_or (Some a) None other = other
gaps_or (Some a) (Some b) other = Gaps (min (a + b) (2 ^ 64 - 1))

-- the ending of two runs together: that which comes first in the order of endings, of equal ones that of the earlier
-- run. The numbers of Gaps are added, up to 2^64 - 1 [this project, docs/FORMATS.md, Receiver]
unfoldable pub endings_joined : Ending → Ending → Ending
endings_joined earlier later =
    gaps_or (gaps_in earlier) (gaps_in later) (if nat_lt (rank_of later) (rank_of earlier) then later else earlier)

-- a packet is the first message of another run
unfoldable pub turns_at : CardFields → Packets → Packet → Bool
turns_at card past packet =
    option_map_or (λ tuning. is_turn (heard card past) (hears card.height tuning (length past) packet))
    (tuning_of card.ca past) false

-- the number of packets that are written of the current run, after these packets
unfoldable pub run_wrote : CardFields → Packets → ℕ
run_wrote card [] = 0
run_wrote card (packet ∷ past) =
    (if turns_at card past packet then 0 else run_wrote card past) + length (offered card past packet).wrote

-- the ending of the runs before the current one, together; Opened if there is none
unfoldable pub ended_before : CardFields → Packets → Ending
ended_before card [] = Opened
ended_before card (packet ∷ past) =
    if turns_at card past packet
    then endings_joined (ended_before card past) (run_ending card (heard card past) (run_wrote card past))
    else ended_before card past

-- how a stream of these packets ends: NoCat if no CAT was taken, or else the ending of its runs, together [this
-- project, docs/FORMATS.md, Receiver]
unfoldable pub ending_of : CardFields → Packets → Ending
ending_of card past =
    if is_none (tuning_of card.ca past) then NoCat
    else endings_joined (ended_before card past) (run_ending card (heard card past) (run_wrote card past))
