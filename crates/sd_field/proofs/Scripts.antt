-- The lines of a script.
use Rattle.std.proofs.Common.{arith, ◌≡◌, ℕ, ◌+◌, ◌^◌, ◌≤◌, Bool, true, false, nat_lt, nat_le, List, [], ◌∷◌, ◌++◌}
use Rattle.std.proofs.Common.{Option, Some, None, Result, Ok, Err, refl, sym, ap, append-nil, append_assoc, suc, zero}
use Rattle.std.proofs.Common.{All}
use Rattle.std.proofs.lemmas.Bool.{ltb-false, leb-true}
use Rattle.std.specs.Prelude.{◌&&◌, if◌then◌else◌, option_map, option_and_then, replicate, codes}
use Rattle.std.proofs.lemmas.List.Elements.{All-nil, All-cons, All-append}
use Rattle.sd_base.specs.declared.decimals.NumberFault.{NumberFault}
use Rattle.sd_base.specs.Lines.{cut_at_space}
use Rattle.sd_base.specs.Number.{rest_after, fitting_u32, decimal_value}
use Rattle.sd_base.proofs.Fitting.{fits_is, misfit_high}
use Rattle.sd_spec.specs.declared.event.Event.{Event}
use Rattle.sd_spec.specs.declared.event.Event.TheVariants.{Subscribe, Revoke, Send, Offer, Lose, Off, On}
use Rattle.sd_spec.specs.Events.{is_of}
use Rattle.sd_field.specs.declared.fault.ScriptFault.{ScriptFault}
use Rattle.sd_field.specs.declared.fault.ScriptFault.TheVariants.{Leaf, Events}
use Rattle.sd_field.specs.declared.line.LineFault.{LineFault}
use Rattle.sd_field.specs.declared.line.LineFault.TheVariants.{Form}
use Rattle.sd_field.specs.declared.line.LineFault.TheVariants as fault
use Rattle.sd_field.specs.Line.{events_in_run, event_leaf, pair_in, times_in}
use Rattle.sd_field.specs.Script.{single_event, both_of, event_by_word, count_of, event_count, judged_event}
use Rattle.sd_field.specs.Script.{leaf_and_count, put_before, repeated, script_from, sends_said, script_line_event}

-- a number of 32 bits is counted as it is said
pub times_said : (text : List ℕ) (n : ℕ) → fitting_u32 (decimal_value text) ≡ Ok n →
    times_in (count_of text) ≡ times_in (event_count n)
times_said text n e =
    ap (λ (number : Option ℕ). times_in (option_and_then event_count number)) (fits_is (decimal_value text) n e)

-- a text that says none says no number of events
none_counted : (number : Option ℕ) (fault : NumberFault) → fitting_u32 number ≡ Err fault →
    option_and_then event_count number ≡ None
none_counted None fault e = refl
none_counted (Some m) fault e =
    let high = misfit_high m fault e in
    let over : nat_le m 65536 ≡ false = grind (arith, high) in
    by_first (nat_le 1 m) over
  where
    by_first : (b : Bool) → nat_le m 65536 ≡ false → (if b && nat_le m 65536 then Some m else None) ≡ None
    by_first true over = rw over refl
    by_first false over = refl

pub times_unsaid : (text : List ℕ) (fault : NumberFault) → fitting_u32 (decimal_value text) ≡ Err fault →
    times_in (count_of text) ≡ Err Form
times_unsaid text fault e = ap times_in (none_counted (decimal_value text) fault e)

-- a leaf and a number of events as events of that leaf
abbrev pub of_leaf : (ℕ → Event) → Result (ℕ × ℕ) LineFault → Result (Event × ℕ) LineFault
of_leaf make (Ok pair) = Ok (make pair.0, pair.1)
of_leaf make (Err fault) = Err fault

-- a leaf as one event of it
abbrev pub once : (ℕ → Event) → Result ℕ LineFault → Result (Event × ℕ) LineFault
once make (Ok u) = Ok (make u, 1)
once make (Err fault) = Err fault

-- the events of a text are those of its leaf, if that is one of the tree
pub repeated_run : (d : ℕ) (make : ℕ → Event) (text : List ℕ) → ((u : ℕ) → is_of d (make u) ≡ nat_lt u (2 ^ d)) →
    of_leaf make (pair_in d (leaf_and_count text)) ≡ events_in_run d (repeated make text)
unfolding repeated
repeated_run d make text leaf = by (leaf_and_count text)
  where
    by_leaf : (pair : ℕ × ℕ) (b : Bool) → of_leaf make (if b then Ok pair else Err fault.Leaf)
        ≡ (if b then Ok (make pair.0, pair.1) else Err fault.Leaf)
    by_leaf pair true = refl
    by_leaf pair false = refl

    by : (said : Option (ℕ × ℕ)) → of_leaf make (pair_in d said)
        ≡ events_in_run d (option_map (λ pair. (make pair.0, pair.1)) said)
    by None = refl
    by (Some pair) = rw (leaf pair.0) (by_leaf pair (nat_lt pair.0 (2 ^ d)))

-- and so is the one event of a text
pub alone_run : (d : ℕ) (make : ℕ → Event) (text : List ℕ) → ((u : ℕ) → is_of d (make u) ≡ nat_lt u (2 ^ d)) →
    once make (event_leaf d (decimal_value text)) ≡ events_in_run d (single_event make text)
unfolding single_event
alone_run d make text leaf = by (decimal_value text)
  where
    by_leaf : (u : ℕ) (b : Bool) → once make (if b then Ok u else Err fault.Leaf)
        ≡ (if b then Ok (make u, 1) else Err fault.Leaf)
    by_leaf u true = refl
    by_leaf u false = refl

    by : (number : Option ℕ) → once make (event_leaf d number) ≡ events_in_run d (option_map (λ u. (make u, 1)) number)
    by None = refl
    by (Some u) = rw (leaf u) (by_leaf u (nat_lt u (2 ^ d)))

-- a run has an event
counted_some : (m n : ℕ) → event_count m ≡ Some n → 1 ≤ n
counted_some m n e = by (nat_le 1 m) (nat_le m 65536) refl e
  where
    by : (a b : Bool) → nat_le 1 m ≡ a → (if a && b then Some m else None) ≡ Some n → 1 ≤ n
    by true true t e = let same : m ≡ n = cc in let low = leb-true 1 m t in omega (arith, low, same)
    by true false t e = absurd cc
    by false b t e = absurd cc

count_some : (text : List ℕ) (n : ℕ) → count_of text ≡ Some n → 1 ≤ n
count_some text n e = by (decimal_value text) e
  where
    by : (number : Option ℕ) → option_and_then event_count number ≡ Some n → 1 ≤ n
    by None e = absurd cc
    by (Some m) e = counted_some m n e

-- no run, or one that has an event
abbrev HasSome : Option (Event × ℕ) → Type 0
HasSome None = Unit {0}
HasSome (Some run) = 1 ≤ run.1

alone_some : (make : ℕ → Event) (text : List ℕ) → HasSome (single_event make text)
unfolding single_event
alone_some make text = by (decimal_value text)
  where
    by : (number : Option ℕ) → HasSome (option_map (λ u. (make u, 1)) number)
    by None = tt
    by (Some u) = omega arith

sends_some : (text : List ℕ) → HasSome (sends_said text)
unfolding sends_said
sends_some text = by (count_of text) refl
  where
    by : (count : Option ℕ) → count_of text ≡ count → HasSome (option_map (λ n. (Send, n)) count)
    by None e = tt
    by (Some n) e = count_some text n e

abbrev second_of : Option (ℕ × ℕ) → ℕ
second_of None = 0
second_of (Some pair) = pair.1

both_some : (leaf : Option ℕ) (text : List ℕ) (u n : ℕ) → both_of leaf (count_of text) ≡ Some (u, n) → 1 ≤ n
both_some None text u n e = absurd cc
both_some (Some v) text u n e = by (count_of text) refl e
  where
    by : (count : Option ℕ) → count_of text ≡ count → option_map {U = ℕ × ℕ} (λ m. (v, m)) count ≡ Some (u, n) → 1 ≤ n
    by None t e = absurd cc
    by (Some m) t e = let low = count_some text m t in let same : m ≡ n = ap second_of e in omega (arith, low, same)

pair_some : (text : List ℕ) (u n : ℕ) → leaf_and_count text ≡ Some (u, n) → 1 ≤ n
unfolding leaf_and_count
pair_some text u n e = by (cut_at_space text) e
  where
    by : (parts : Option (List ℕ × List ℕ)) →
        option_and_then (λ parts. both_of (decimal_value parts.0) (count_of parts.1)) parts ≡ Some (u, n) → 1 ≤ n
    by None e = absurd cc
    by (Some parts) e = both_some (decimal_value parts.0) parts.1 u n e

repeated_some : (make : ℕ → Event) (text : List ℕ) → HasSome (repeated make text)
unfolding repeated
repeated_some make text = by (leaf_and_count text) refl
  where
    by : (pair : Option (ℕ × ℕ)) → leaf_and_count text ≡ pair →
        HasSome (option_map (λ pair. (make pair.0, pair.1)) pair)
    by None e = tt
    by (Some pair) e = pair_some text pair.0 pair.1 e

word_some : (text : Option (List ℕ)) (says : List ℕ → Option (Event × ℕ)) (other : Option (Event × ℕ)) →
    ((text : List ℕ) → HasSome (says text)) → HasSome other → HasSome (event_by_word text says other)
word_some None says other some rest = rest
word_some (Some text) says other some rest = some text

spoken_some : (line : List ℕ) → HasSome (script_line_event line)
unfolding script_line_event
spoken_some line =
    word_some (rest_after (codes "subscribe ") line) (single_event Subscribe) _ (alone_some Subscribe)
    (word_some (rest_after (codes "revoke ") line) (single_event Revoke) _ (alone_some Revoke)
    (word_some (rest_after (codes "send ") line) sends_said _ sends_some
    (word_some (rest_after (codes "offer ") line) (repeated Offer) _ (repeated_some Offer)
    (word_some (rest_after (codes "lose ") line) (repeated Lose) _ (repeated_some Lose)
    (word_some (rest_after (codes "off ") line) (single_event Off) _ (alone_some Off)
    (word_some (rest_after (codes "on ") line) (single_event On) None (alone_some On) tt))))))

-- a run of the tree is the one that is said
run_said : (d : ℕ) (said : Option (Event × ℕ)) (run : Event × ℕ) → HasSome said → events_in_run d said ≡ Ok run →
    1 ≤ run.1
run_said d None run some e = absurd cc
run_said d (Some other) run some e = by (is_of d other.0) e
  where
    by : (b : Bool) → (if b then Ok other else Err fault.Leaf) ≡ Ok run → 1 ≤ run.1
    by true e = let same : other ≡ run = cc in rw (sym same) some
    by false e = absurd cc

pub run_some : (d : ℕ) (line : List ℕ) (run : Event × ℕ) → events_in_run d (script_line_event line) ≡ Ok run → 1 ≤ run.1
run_some d line run e = run_said d (script_line_event line) run (spoken_some line) e

-- what a good line says: a run of the tree, with which the events aren't too many
pub record IsGood (d n : ℕ) (run : Event × ℕ) : Type 0 where
  pub some : 1 ≤ run.1
  pub few : n + run.1 ≤ 524288
  pub leaf : is_of d run.0 ≡ true

judged_good : (d k n : ℕ) (said : Option (Event × ℕ)) (run : Event × ℕ) → HasSome said →
    judged_event d k n said ≡ Ok run → IsGood d n run
judged_good d k n None run some e = absurd cc
judged_good d k n (Some other) run some e = by_leaf (is_of d other.0) (nat_lt 524288 (n + other.1)) refl refl e
  where
    by_leaf : (a b : Bool) → is_of d other.0 ≡ a → nat_lt 524288 (n + other.1) ≡ b →
        (if a then (if b then Err Events else Ok other) else Err (Leaf k)) ≡ Ok run → IsGood d n run
    by_leaf true true s t e = absurd cc
    by_leaf false b s t e = absurd cc
    by_leaf true false s t e =
        let same : other ≡ run = cc in
        rw (sym same) (record { some = some; few = ltb-false 524288 (n + other.1) t; leaf = s })

pub line_good : (d k n : ℕ) (line : List ℕ) (run : Event × ℕ) → judged_event d k n (script_line_event line) ≡ Ok run →
    IsGood d n run
line_good d k n line run e = judged_good d k n (script_line_event line) run (spoken_some line) e

-- the events of a good line, and those after it
put_twice : (first second : List Event) (more : Result (List Event) ScriptFault) →
    put_before first (put_before second more) ≡ put_before (first ++ second) more
put_twice first second (Ok more) = ap (λ (events : List Event). Ok events) (sym (append_assoc first second more))
put_twice first second (Err fault) = refl

pub script_on : (d k n : ℕ) (events : List Event) (line : List ℕ) (lines : List (List ℕ)) (run : Event × ℕ) →
    judged_event d k n (script_line_event line) ≡ Ok run →
    put_before events (script_from d k n (line ∷ lines))
    ≡ put_before (events ++ replicate run.1 run.0) (script_from d (k + 1) (n + run.1) lines)
unfolding script_from
script_on d k n events line lines run e =
    rw e (put_twice events (replicate run.1 run.0) (script_from d (k + 1) (n + run.1) lines))

-- a bad line is the fault
pub script_broken : (d k n : ℕ) (events : List Event) (line : List ℕ) (lines : List (List ℕ)) (fault : ScriptFault) →
    judged_event d k n (script_line_event line) ≡ Err fault → put_before events (script_from d k n (line ∷ lines))
    ≡ Err fault
unfolding script_from
script_broken d k n events line lines fault e = rw e refl

-- the end says nothing more
pub script_ended : (d k n : ℕ) (events : List Event) (lines : List (List ℕ)) → lines ≡ [] →
    put_before events (script_from d k n lines) ≡ Ok events
unfolding script_from
script_ended d k n events lines none = rw none (ap (λ (all : List Event). Ok all) (append-nil events))

-- all events of a run are of the tree
equal_events : (d n : ℕ) (event : Event) → is_of d event ≡ true →
    All (λ event. is_of d event ≡ true) (replicate n event)
equal_events d zero event is = All-nil (λ event. is_of d event ≡ true)
equal_events d (suc n) event is =
    All-cons (λ event. is_of d event ≡ true) event (replicate n event) is (equal_events d n event is)

pub run_of_tree : (d n : ℕ) (event : Event) (events : List Event) → is_of d event ≡ true →
    All (λ event. is_of d event ≡ true) events → All (λ event. is_of d event ≡ true) (events ++ replicate n event)
run_of_tree d n event events is all =
    All-append (λ event. is_of d event ≡ true) events (replicate n event) all (equal_events d n event is)
