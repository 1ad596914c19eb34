-- Public meaning: what a receiver keeps of the sections of entitlements that it heard, and of the periods of control
-- messages.
use Rattle.std.specs.Prelude.{◌≡◌, ℕ, ◌==◌, ◌&&◌, ◌^◌, ◌<◌, ◌≤◌, Bool, true, false, not, nat_le, nat_lt, List, []}
use Rattle.std.specs.Prelude.{◌∷◌, All}
use Rattle.std.specs.Prelude.{bytes_eq, find, filter, get_or, take, drop, replicate, ◌++◌, is_none, if◌then◌else◌}
use Rattle.std.specs.Prelude.{Option, Some, None}
use Rattle.std.specs.Prelude.{Result, MatchResult}
use Rattle.std.specs.List.{list_any, list_all}
use Rattle.std.specs.Option.{option_map_or}
use Rattle.sd_site_cards.specs.CardFields.{CardFields}
use Rattle.sd_message.specs.declared.emm.Emm.{Emm}
use Rattle.sd_message.specs.declared.stream_fault.StreamFault.{StreamFault}
use Rattle.sd_spec.specs.Heard.{Heard, Dropped, Entitles, Controls, BadEmm, BadEcm, Other}
use Rattle.sd_spec.specs.Stretches.{completes, current, sections_seen}
use Rattle.sd_spec.specs.Keys.{key_at, key_from}
use Rattle.sd_spec.specs.Offered.{emm_offering, is_mixed}
use Rattle.sd_spec.specs.Ending.{periods_told, is_unkeyed, is_all_seen}
use Rattle.sd_receive.specs.declared.emm.header.PeriodHeader.{PeriodHeader}
use Rattle.sd_receive.specs.declared.emm.PeriodKeys.{PeriodKeys}

-- what a section says of its period
abbrev pub says_in : Emm → PeriodHeader
says_in emm = record { sets = emm.sets; sections = emm.sections; check = emm.check }

-- what the newest of some sections says
abbrev pub says_of_newest_emm : List Emm → Option PeriodHeader
says_of_newest_emm [] = None
says_of_newest_emm (emm ∷ sections) = Some (says_in emm)

-- each of these sections says this of its period, and its index is below the number of sections that it says
abbrev pub SayAlike : Option PeriodHeader → List Emm → Type 0
SayAlike header sections =
    All (λ emm. (header ≡ Some (says_in emm)) × ((emm.index < emm.sections) × (emm.sections < 2 ^ 16))) sections

-- the section disagrees with what was said, if something was
abbrev pub is_said_otherwise : Option PeriodHeader → Emm → Bool
is_said_otherwise None emm = false
is_said_otherwise (Some header) emm =
    not ((header.sets == emm.sets) && ((header.sections == emm.sections) && bytes_eq header.check emm.check))

-- one of these sections has the index
abbrev pub has_index : ℕ → List Emm → Bool
has_index x sections = list_any (λ emm. emm.index == x) sections

-- the marks of all sections that a period is said to have are set
abbrev pub all_marked : Option PeriodHeader → List Bool → Bool
all_marked None marks = false
all_marked (Some header) marks = list_all (λ mark. mark) (take header.sections marks)

-- the marks without those of a period's sections
abbrev pub cleared : Option PeriodHeader → List Bool → List Bool
cleared None marks = marks
cleared (Some header) marks = replicate header.sections false ++ drop header.sections marks

-- all sections of the period were seen, and its key isn't known
abbrev pub is_told_revoked : CardFields → List Heard → ℕ → Bool
is_told_revoked card tr q = is_unkeyed card tr q && is_all_seen tr q

-- the periods below q of the complete messages, the oldest first
unfoldable pub told_below : ℕ → List Heard → List ℕ
told_below q tr = filter (λ p. nat_lt p q) (periods_told tr)

-- each complete message was of the period that was current then, or of a later one
unfoldable pub is_in_turn : List Heard → Bool
is_in_turn [] = true
is_in_turn (heard ∷ tr) = option_map_or (λ message. nat_le (current tr) message.period) (completes tr heard) true
    && is_in_turn tr

-- what is kept of what was heard, if q is the current period or a later one that begins [this project, docs/FORMATS.md,
-- Receiver]
pub record IsStateAt (card : CardFields) (tr : List Heard) (q : ℕ) (state : PeriodKeys) : Type 0 where
  pub period : state.period ≡ q
  pub header : state.header ≡ says_of_newest_emm (sections_seen q tr)
  pub alike : SayAlike state.header (sections_seen q tr)
  pub marks : (x : ℕ) → x < 2 ^ 16 → get_or state.marks.items x false ≡ has_index x (sections_seen q tr)
  pub told : state.told ≡ list_any (λ p. p == q) (periods_told tr)
  pub key : state.key ≡ key_at card tr q
  pub revoked : state.revoked ≡ find (is_told_revoked card tr) (told_below q tr)
  pub unkeyed : state.unkeyed ≡ find (is_unkeyed card tr) (told_below q tr)
  pub in_turn : is_in_turn tr ≡ true

-- what is kept of what was heard, the newest first [this project, docs/FORMATS.md, Receiver]
abbrev pub IsEntitled : CardFields → List Heard → PeriodKeys → Type 0
IsEntitled card tr state = IsStateAt card tr (current tr) state

-- the key of period q, if q is the current period and its key is known
abbrev pub key_kept : PeriodKeys → ℕ → Option (List ℕ)
key_kept state q = if state.period == q then state.key else None

-- the same with this key of the current period
abbrev pub with_key : PeriodKeys → Option (List ℕ) → PeriodKeys
with_key state key = record {
  period = state.period;
  header = state.header;
  marks = state.marks;
  told = state.told;
  key = key;
  revoked = state.revoked;
  unkeyed = state.unkeyed;
  long = state.long;
}

-- Nothing is wrong with a section in packet n after what was heard, and this is the key that it gives, if that of its
-- period isn't known [this project, docs/FORMATS.md, Receiver].
pub record IsEmmJudged (card : CardFields) (n : ℕ) (tr : List Heard) (emm : Emm) (key : Option (List ℕ)) : Type 0 where
  pub fault : (emm_offering card n tr emm).fault ≡ None
  pub unmixed : current tr ≤ emm.period → is_mixed (sections_seen emm.period tr) emm ≡ false
  pub gives : current tr ≤ emm.period → key_at card tr emm.period ≡ None → key ≡ key_from card emm

-- the result is this fault if there is one, and no fault else
abbrev pub HasFault : {X : Type 0} → Result X StreamFault → Option StreamFault → Type 0
HasFault result due = MatchResult result (λ _. due ≡ None) (λ fault. due ≡ Some fault)

-- what comes is no section, and completes no message
abbrev pub tells_nothing : List Heard → Heard → Bool
tells_nothing tr (Entitles emm) = false
tells_nothing tr (Controls part) = is_none (completes tr (Controls part))
tells_nothing tr Dropped = true
tells_nothing tr (BadEmm fault) = true
tells_nothing tr (BadEcm fault) = true
tells_nothing tr (Other n packet) = true
