-- Public meaning: the script of a field. Each line says one event, or a number of equal ones [this project,
-- docs/FORMATS.md, Field].
use Rattle.std.specs.Prelude.{ℕ, ◌+◌, ◌&&◌, nat_le, nat_lt, List, [], ◌∷◌, ◌++◌, replicate, codes}
use Rattle.std.specs.Prelude.{if◌then◌else◌, Option, Some, None, option_map, option_and_then, Result, Ok, Err}
use Rattle.sd_base.specs.Lines.{cut_at_space, lines_of}
use Rattle.sd_base.specs.Number.{rest_after, decimal_value}
use Rattle.sd_spec.specs.declared.event.Event.{Event}
use Rattle.sd_spec.specs.declared.event.Event.TheVariants.{Subscribe, Revoke, Send, Offer, Lose, Off, On}
use Rattle.sd_spec.specs.Events.{is_of}
use Rattle.sd_field.specs.declared.fault.ScriptFault.{ScriptFault}
use Rattle.sd_field.specs.declared.fault.ScriptFault.TheVariants.{Line, Leaf, Events}

-- a number of events on one line: from 1 to 65,536 [this project, docs/FORMATS.md, Field]
abbrev pub event_count : ℕ → Option ℕ
event_count n = if nat_le 1 n && nat_le n 65536 then Some n else None

-- the number of events that a text says
abbrev pub count_of : List ℕ → Option ℕ
count_of text = option_and_then event_count (decimal_value text)

-- one event of the leaf that a text says, which is any number
unfoldable pub single_event : (ℕ → Event) → List ℕ → Option (Event × ℕ)
single_event make text = option_map (λ u. (make u, 1)) (decimal_value text)

-- the number of sends that a text says
unfoldable pub sends_said : List ℕ → Option (Event × ℕ)
sends_said text = option_map (λ n. (Send, n)) (count_of text)

-- two numbers, if both are there
abbrev pub both_of : Option ℕ → Option ℕ → Option (ℕ × ℕ)
both_of leaf count = option_and_then (λ u. option_map (λ n. (u, n)) count) leaf

-- the leaf and the number of events that a text says, with a space between them
unfoldable pub leaf_and_count : List ℕ → Option (ℕ × ℕ)
leaf_and_count text = option_and_then (λ parts. both_of (decimal_value parts.0) (count_of parts.1)) (cut_at_space text)

-- the leaf and the number of events of a text, as events of that leaf
unfoldable pub repeated : (ℕ → Event) → List ℕ → Option (Event × ℕ)
repeated make text = option_map (λ pair. (make pair.0, pair.1)) (leaf_and_count text)

-- what a line says by the text after its first word, or else what it says if it doesn't begin with that word
abbrev pub event_by_word : Option (List ℕ) → (List ℕ → Option (Event × ℕ)) → Option (Event × ℕ) → Option (Event × ℕ)
event_by_word None says other = other
event_by_word (Some text) says other = says text

-- the event that a line says, whose leaf is any number, and how often [this project, docs/FORMATS.md, Field]
unfoldable pub script_line_event : List ℕ → Option (Event × ℕ)
script_line_event line =
    event_by_word (rest_after (codes "subscribe ") line) (single_event Subscribe)
    (event_by_word (rest_after (codes "revoke ") line) (single_event Revoke)
    (event_by_word (rest_after (codes "send ") line) sends_said
    (event_by_word (rest_after (codes "offer ") line) (repeated Offer)
    (event_by_word (rest_after (codes "lose ") line) (repeated Lose)
    (event_by_word (rest_after (codes "off ") line) (single_event Off)
    (event_by_word (rest_after (codes "on ") line) (single_event On) None))))))

-- the event of line k and how often, after n events, or what is wrong with the line. The grammar is judged first, then
-- the leaf, which must be of a tree of height d, then the number of events of the script [this project,
-- docs/FORMATS.md, Field]
abbrev pub judged_event : ℕ → ℕ → ℕ → Option (Event × ℕ) → Result (Event × ℕ) ScriptFault
judged_event d k n None = Err (Line k)
judged_event d k n (Some run) =
    if is_of d run.0 then (if nat_lt 524288 (n + run.1) then Err Events else Ok run) else Err (Leaf k)

-- the events of the line and of those after it, if nothing is wrong with the line
abbrev pub by_run : Result (Event × ℕ) ScriptFault → (Event × ℕ → Result (List Event) ScriptFault) →
    Result (List Event) ScriptFault
by_run (Ok run) says = says run
by_run (Err fault) says = Err fault

-- these events before those of a script
abbrev pub put_before : List Event → Result (List Event) ScriptFault → Result (List Event) ScriptFault
put_before events (Ok more) = Ok (events ++ more)
put_before events (Err fault) = Err fault

-- the events of these lines, of which the first is line k and comes after n events: the first bad line decides
unfoldable pub script_from : ℕ → ℕ → ℕ → List (List ℕ) → Result (List Event) ScriptFault
script_from d k n [] = Ok []
script_from d k n (line ∷ lines) = by_run (judged_event d k n (script_line_event line))
    (λ run. put_before (replicate run.1 run.0) (script_from d (k + 1) (n + run.1) lines))

-- the events of a script for a tree of height d, or its first fault
abbrev pub script_of : ℕ → List ℕ → Result (List Event) ScriptFault
script_of d bytes = script_from d 1 0 (lines_of bytes)
