-- What is kept after some packets is enough to go on with the next.
use Rattle.std.proofs.Common.{ℕ, ◌+◌, ◌-◌, ◌≤◌, ◌≡◌, Bool, true, false, not, ◌==◌, ◌&&◌, List, [], ◌∷◌, ◌++◌, length}
use Rattle.std.proofs.Common.{take, drop, append-nil, refl, sym, ap, ◌∙◌, arith}
use Rattle.std.specs.Prelude.{if◌then◌else◌, Option, Some, None, slice_range, slice_get}
use Rattle.std.proofs.lemmas.List.{drop_at, take-take, drop-drop, drop-take}
use Rattle.std.proofs.lemmas.Bool.{eqb-true, and_parts}
use Rattle.sd_base.proofs.Bools.{true_from_not}
use Rattle.sd_section.specs.Assembled.{Fed, SectionRun, Cut, cut_of, is_last, is_next, is_fed, is_taken, last_counter}
use Rattle.sd_section.specs.Assembled.{tail_of, fresh_of, kept_run, longer_run, run_after, sections_made_whole}
use Rattle.sd_section.specs.Assembled.{sections_completed_in}
use Rattle.sd_section.specs.Assembled.{sections_completed_by, Assembling, assembler_after, all_lent, with_section}
use Rattle.sd_section.specs.Assembled.{next_of}
use Rattle.sd_section.specs.Assembled.{one_lent}
use Rattle.sd_section.specs.OneMore.{cut_more, cut_of_section, assembler_state, holds_of, has_section, tail_with}
use Rattle.sd_section.specs.OneMore.{fresh_with, still_making}
use Rattle.sd_section.specs.OneMore.{going_on, assembler_fed_packet, HasSectionRoom}
use Rattle.sd_section.specs.declared.holds.Holds.{Holds}
use Rattle.sd_section.specs.declared.holds.Holds.TheVariants.{Making, Section, Lent}
use Rattle.sd_section.proofs.Cutting.{longer, cut_none}

-- the section in the making of a run
abbrev pub making_of : SectionRun → List ℕ
making_of run = (cut_of run.first run.more).making

-- bytes after a run complete what they complete of the section in the making
newly_is : (run : SectionRun) (bytes : List ℕ) → sections_made_whole run bytes
    ≡ (cut_more (making_of run) bytes).sections
newly_is run bytes =
    let sections : List (List ℕ) = (cut_of run.first run.more).sections in
    ap (λ (c : Cut). drop (length sections) c.sections) (longer (length run.first) run.first run.more bytes)
    ∙ drop_at sections (cut_more (making_of run) bytes).sections (length sections) refl

-- a payload with unit start or without, after a run
completed_is : (unit_start : Bool) (counter : ℕ) (payload : List ℕ) (run : SectionRun) →
    sections_completed_in (record { unit_start = unit_start; counter = counter; payload = payload }) run
    ≡ (going_on (record { unit_start = unit_start; counter = counter; payload = payload }) (making_of run)).waiting
completed_is true counter payload run =
    ap (λ (l : List (List ℕ)). l ++ (cut_of (fresh_of payload) []).sections) (newly_is run (tail_of payload))
completed_is false counter payload run =
    let none : (cut_of [] []).sections ≡ [] = ap (λ (c : Cut). c.sections) (cut_none 0 []) in
    newly_is run payload ∙ (sym (append-nil (cut_more (making_of run) payload).sections) ∙
    ap (λ (l : List (List ℕ)). (cut_more (making_of run) payload).sections ++ l) (sym none))

making_is : (unit_start : Bool) (counter : ℕ) (payload : List ℕ) (run : SectionRun) →
    making_of (longer_run (record { unit_start = unit_start; counter = counter; payload = payload }) run)
    ≡ (going_on (record { unit_start = unit_start; counter = counter; payload = payload }) (making_of run)).making
making_is true counter payload run = refl
making_is false counter payload run =
    let none : (cut_of [] []).making ≡ [] = ap (λ (c : Cut). c.making) (cut_none 0 []) in
    ap (λ (c : Cut). c.making) (longer (length run.first) run.first run.more payload)
    ∙ (sym (append-nil (cut_more (making_of run) payload).making) ∙
    ap (λ (l : List ℕ). (cut_more (making_of run) payload).making ++ l) (sym none))

-- a state by its parts
abbrev assembling : Option ℕ → List ℕ → List (List ℕ) → Assembling
assembling counter making waiting = record { counter = counter; making = making; waiting = waiting }

state_is : (a c : Option ℕ) (m n : List ℕ) (v w : List (List ℕ)) → a ≡ c → m ≡ n → v ≡ w → assembling a m v
    ≡ assembling c n w
state_is a c m n v w e f g =
    ap (λ (k : Option ℕ). assembling k m v) e ∙ (ap (λ (k : List ℕ). assembling c k v) f ∙
    ap (λ (k : List (List ℕ)). assembling c n k) g)

-- a packet that is passed over leaves the last counter, the run, and completes nothing
counter_by : (has : Bool) (counter : ℕ) (last : Option ℕ) → (has && not (is_last counter last)) ≡ false →
    (if has then Some counter else last) ≡ last
counter_by false counter last h = refl
counter_by true counter None h = absurd (cc)
counter_by true counter (Some last) h = ap (λ (n : ℕ). Some n)
    (sym (eqb-true last counter (true_from_not (last == counter) h)))

counter_passed : (packet : Fed) (before : List Fed) → is_taken packet (last_counter before) ≡ false →
    last_counter (packet ∷ before) ≡ last_counter before
unfolding last_counter
counter_passed packet before e = counter_by (is_fed packet) packet.counter (last_counter before) e

run_passed : (packet : Fed) (before : List Fed) → is_taken packet (last_counter before) ≡ false →
    run_after (packet ∷ before) ≡ run_after before
unfolding run_after
run_passed packet before e = rw e refl

completed_passed : (packet : Fed) (before : List Fed) → is_taken packet (last_counter before) ≡ false →
    sections_completed_by (packet ∷ before) ≡ []
unfolding sections_completed_by
completed_passed packet before e = rw e refl

fed_passed : (state : Assembling) (packet : Fed) → is_taken packet state.counter ≡ false →
    assembler_fed_packet state packet ≡ state
unfolding assembler_fed_packet
fed_passed state packet e = rw e refl

passed_over : (packet : Fed) (before : List Fed) → is_taken packet (last_counter before) ≡ false →
    assembler_after (packet ∷ before) ≡ assembler_fed_packet (all_lent (assembler_after before)) packet
unfolding assembler_after
passed_over packet before e =
    state_is _ _ _ _ _ _ (counter_passed packet before e) (ap making_of (run_passed packet before e))
    (completed_passed packet before e)
    ∙ sym (fed_passed (all_lent (assembler_after before)) packet e)

-- a packet that is taken
counter_taken : (packet : Fed) (before : List Fed) → is_taken packet (last_counter before) ≡ true →
    last_counter (packet ∷ before) ≡ Some packet.counter
unfolding last_counter
counter_taken packet before e = let has =
    (and_parts (is_fed packet) (not (is_last packet.counter (last_counter before))) e).0 in rw has refl

run_taken : (packet : Fed) (before : List Fed) → is_taken packet (last_counter before) ≡ true →
    run_after (packet ∷ before) ≡ longer_run packet (kept_run packet (last_counter before) (run_after before))
unfolding run_after
run_taken packet before e = rw e refl

completed_taken : (packet : Fed) (before : List Fed) → is_taken packet (last_counter before) ≡ true →
    sections_completed_by (packet ∷ before) ≡ sections_completed_in packet (kept_run packet (last_counter before)
    (run_after before))
unfolding sections_completed_by
completed_taken packet before e = rw e refl

fed_taken : (state : Assembling) (packet : Fed) → is_taken packet state.counter ≡ true →
    assembler_fed_packet state packet ≡ going_on packet (if is_next packet.counter state.counter then state.making
    else [])
unfolding assembler_fed_packet
fed_taken state packet e = rw e refl

kept_making : (next : Bool) (run : SectionRun) →
    making_of (if next then run else record { first = []; more = [] }) ≡ (if next then making_of run else [])
kept_making true run = refl
kept_making false run = ap (λ (c : Cut). c.making) (cut_none 0 [])

taken : (packet : Fed) (before : List Fed) → is_taken packet (last_counter before) ≡ true →
    assembler_after (packet ∷ before) ≡ assembler_fed_packet (all_lent (assembler_after before)) packet
unfolding assembler_after
taken packet before e =
    let run : SectionRun = kept_run packet (last_counter before) (run_after before) in
    let making : making_of run ≡ (if is_next packet.counter (last_counter before) then making_of
    (run_after before) else []) =
    kept_making (is_next packet.counter (last_counter before)) (run_after before) in
    state_is _ _ _ _ _ _ (counter_taken packet before e)
    (ap making_of (run_taken packet before e) ∙ making_is packet.unit_start packet.counter packet.payload run)
    (completed_taken packet before e ∙ completed_is packet.unit_start packet.counter packet.payload run)
    ∙ (ap (going_on packet) making ∙ sym (fed_taken (all_lent (assembler_after before)) packet e))

-- what is kept after the packets and the next one is what the next one makes of what was kept before
pub after_fed : (packet : Fed) (before : List Fed) →
    assembler_after (packet ∷ before) ≡ assembler_fed_packet (all_lent (assembler_after before)) packet
after_fed packet before = by_test (is_taken packet (last_counter before)) refl where
  by_test : (test : Bool) → is_taken packet (last_counter before) ≡ test →
      assembler_after (packet ∷ before) ≡ assembler_fed_packet (all_lent (assembler_after before)) packet
  by_test true e = taken packet before e
  by_test false e = passed_over packet before e

-- so too from what equals it
pub fed_after : (old new : Assembling) (packet : Fed) (before : List Fed) → new ≡ assembler_fed_packet old packet →
    old ≡ all_lent (assembler_after before) →
    new ≡ assembler_after (packet ∷ before)
fed_after old new packet before e f = e ∙ (ap (λ (s : Assembling). assembler_fed_packet s packet) f
    ∙ sym (after_fed packet before))

-- what is kept, by its fields: the counter, and what the others come to whatever the counter is
kept_counter : (holds : Holds) (bytes : List ℕ) (cut : Cut) (counter : Option ℕ) →
    (assembler_state holds bytes cut counter).counter ≡ counter
kept_counter Making bytes cut counter = refl
kept_counter Section bytes cut counter = refl
kept_counter Lent bytes cut counter = refl

kept_same : (holds : Holds) (bytes : List ℕ) (cut : Cut) (counter other : Option ℕ) →
    (assembler_state holds bytes cut counter).making ≡ (assembler_state holds bytes cut other).making
kept_same Making bytes cut counter other = refl
kept_same Section bytes cut counter other = refl
kept_same Lent bytes cut counter other = refl

kept_held : (whole : Bool) (bytes : List ℕ) (cut : Cut) (counter : Option ℕ) →
    assembler_state (holds_of whole) bytes cut counter ≡
    assembling counter ((cut_of_section whole bytes).making ++ cut.making) ((cut_of_section whole bytes).sections
    ++ cut.sections)
kept_held true bytes cut counter = refl
kept_held false bytes cut counter = refl

-- a packet that is passed over leaves what is kept
pub nothing_taken : (holds : Holds) (bytes : List ℕ) (cut : Cut) (last : Option ℕ) (packet : Fed) (state : Assembling) →
    assembler_state holds bytes cut last ≡ state → is_taken packet last ≡ false →
    state ≡ assembler_fed_packet state packet
nothing_taken holds bytes cut last packet state is e =
    let counter : state.counter ≡ last = ap (λ (s : Assembling). s.counter) (sym is) ∙
    kept_counter holds bytes cut last in
    sym (fed_passed state packet (ap (is_taken packet) counter ∙ e))

-- what the steps of taking a packet come to
pub all_taken : (holds : Holds) (bytes gathered before later stored : List ℕ) (cut : Cut) (last : Option ℕ)
    (unit_start next whole : Bool) (now : Holds) (counter : ℕ) (payload : List ℕ) (state : Assembling) →
    assembler_state holds bytes cut last ≡ state → now ≡ holds_of whole →
    is_taken (record { unit_start = unit_start; counter = counter; payload = payload }) last ≡ true →
    gathered ≡ (assembler_state holds bytes cut None).making → next ≡ is_next counter last →
    before ≡ (if next then gathered else []) →
    (cut_of_section whole later).sections ≡ (cut_more before (tail_with unit_start payload)).sections →
    (cut_of_section whole later).making ≡ still_making unit_start before payload →
    stored ≡ fresh_with unit_start payload →
    assembler_state now later (cut_of stored []) (Some counter) ≡
    assembler_fed_packet state (record { unit_start = unit_start; counter = counter; payload = payload })
all_taken holds bytes gathered before later stored cut last unit_start next whole now counter payload state is is_now e
    is_gathered is_next' is_before sections making is_stored =
    let packet : Fed = record { unit_start = unit_start; counter = counter; payload = payload } in
    let same_counter : state.counter ≡ last = ap (λ (s : Assembling). s.counter) (sym is) ∙
    kept_counter holds bytes cut last in
    let same_making : gathered ≡ state.making =
    is_gathered ∙ (kept_same holds bytes cut None last ∙ ap (λ (s : Assembling). s.making) is) in
    let start : before ≡ (if is_next counter state.counter then state.making else []) =
    is_before ∙ (ap (λ (b : Bool). if b then gathered else []) (is_next' ∙ ap (is_next counter) (sym same_counter))
    ∙ ap (λ (l : List ℕ). if is_next counter state.counter then l else []) same_making) in
    let result : assembler_state now later (cut_of stored []) (Some counter) ≡ going_on packet before =
    ap (λ (h : Holds). assembler_state h later (cut_of stored []) (Some counter)) is_now
    ∙ (kept_held whole later (cut_of stored []) (Some counter)
    ∙ state_is _ _ _ _ _ _ refl
    (ap (λ (l : List ℕ). l ++ (cut_of stored []).making) making ∙
    ap (λ (l : List ℕ). still_making unit_start before payload ++ (cut_of l []).making) is_stored)
    (ap (λ (l : List (List ℕ)). l ++ (cut_of stored []).sections) sections
    ∙ ap (λ (l : List ℕ). (cut_more before (tail_with unit_start payload)).sections ++ (cut_of l []).sections)
    is_stored)) in
    result ∙ (ap (going_on packet) start ∙ sym (fed_taken state packet (ap (is_taken packet) same_counter ∙ e)))

-- with a section more before what is cut, that one is lent next
pub lent_next : (holds : Holds) (bytes section : List ℕ) (cut : Cut) (counter : Option ℕ) → has_section holds ≡ false →
    (next_of (assembler_state holds bytes (with_section section cut) counter) ≡ Some section)
    × (assembler_state holds bytes cut counter ≡ one_lent (assembler_state holds bytes (with_section section cut)
    counter))
lent_next Making bytes section cut counter h = (refl, refl)
lent_next Section bytes section cut counter h = absurd (cc)
lent_next Lent bytes section cut counter h = (refl, refl)

-- a part of a payload, cut in two
part_first : (payload : List ℕ) (at n end : ℕ) → at + n ≤ end → slice_range payload at (at + n)
    ≡ take n (slice_range payload at end)
part_first payload at n end h =
    let count : at + n - at ≡ n = omega arith in
    ap (λ (k : ℕ). take k (drop at payload)) count ∙ sym (take-take n (end - at) (drop at payload) (omega arith))

part_back : (payload : List ℕ) (at n end : ℕ) → at + n ≤ end → slice_range payload (at + n) end
    ≡ drop n (slice_range payload at end)
part_back payload at n end h =
    let count : n + (end - (at + n)) ≡ end - at = omega arith in
    ap (take (end - (at + n))) (sym (drop-drop n at payload))
    ∙ (sym (drop-take n (end - (at + n)) (drop at payload)) ∙ ap (λ (k : ℕ). drop n (take k (drop at payload))) count)

-- what lending a section of the payload comes to
pub part_lent : (holds : Holds) (bytes payload rest : List ℕ) (at n end : ℕ) (counter : Option ℕ) (state : Assembling) →
    has_section holds ≡ false → at + n ≤ end →
    assembler_state holds bytes (cut_of (slice_range payload at end) []) counter ≡ state →
    rest ≡ slice_range payload at end →
    cut_of rest [] ≡ with_section (take n rest) (cut_of (drop n rest) []) →
    (assembler_state holds bytes (cut_of (slice_range payload (at + n) end) []) counter ≡ one_lent state)
    × (Some (slice_range payload at (at + n)) ≡ next_of state)
part_lent holds bytes payload rest at n end counter state h fits is is_rest cut =
    let next = lent_next holds bytes (take n rest) (cut_of (drop n rest) []) counter h in
    let whole : state ≡ assembler_state holds bytes (with_section (take n rest) (cut_of (drop n rest) [])) counter =
    sym is ∙ (ap (λ (l : List ℕ). assembler_state holds bytes (cut_of l []) counter) (sym is_rest) ∙
    ap (λ (c : Cut). assembler_state holds bytes c counter) cut) in
    let here : slice_range payload at (at + n) ≡ take n rest = part_first payload at n end fits ∙
    ap (take n) (sym is_rest) in
    let back : slice_range payload (at + n) end ≡ drop n rest = part_back payload at n end fits ∙
    ap (drop n) (sym is_rest) in (
      ap (λ (l : List ℕ). assembler_state holds bytes (cut_of l []) counter) back ∙ (next.1 ∙ ap one_lent (sym whole)),
      ap (λ (l : List ℕ). Some l) here ∙ (sym next.0 ∙ ap next_of (sym whole)),
    )

-- where a section is lent next, some are left
pub some_left : (state : Assembling) (section : List ℕ) → Some section ≡ next_of state → state.waiting ≡ [] → ⊥
some_left state section e h =
    let none : next_of state ≡ None = ap (λ (l : List (List ℕ)). slice_get l 0) h in
    absurd (cc)

-- a section in the buffer is lent first
pub buffer_lent : (holds : Holds) (bytes : List ℕ) (cut : Cut) (counter : Option ℕ) (state : Assembling) →
    has_section holds ≡ true → assembler_state holds bytes cut counter ≡ state →
    (assembler_state Lent bytes cut counter ≡ one_lent state) × (Some bytes ≡ next_of state)
buffer_lent Making bytes cut counter state h is = absurd (cc)
buffer_lent Section bytes cut counter state h is = (ap one_lent is, ap next_of is)
buffer_lent Lent bytes cut counter state h is = absurd (cc)

-- with no section in the buffer, those that are cut are left
pub only_cut_left : (holds : Holds) (bytes : List ℕ) (cut : Cut) (counter : Option ℕ) (state : Assembling) →
    has_section holds ≡ false → assembler_state holds bytes cut counter ≡ state → state.waiting ≡ cut.sections
only_cut_left Making bytes cut counter state h is = ap (λ (s : Assembling). s.waiting) (sym is)
only_cut_left Section bytes cut counter state h is = absurd (cc)
only_cut_left Lent bytes cut counter state h is = ap (λ (s : Assembling). s.waiting) (sym is)

-- where none is left, lending changes nothing
pub none_lent : (state : Assembling) → state.waiting ≡ [] → state ≡ one_lent state
none_lent state none = ap (λ (sections : List (List ℕ)). record {
  counter = state.counter;
  making = state.making;
  waiting = sections;
}) (none ∙ ap (drop 1) (sym none))

-- what is left has no more need of room
pub room_left : (holds : Holds) (count more less : ℕ) → less ≤ more → HasSectionRoom holds count more →
    HasSectionRoom holds count less
room_left Making count more less h room = omega arith
room_left Section count more less h room = tt
room_left Lent count more less h room = tt

-- true is not false
pub true_is_not_false : true ≡ false → ⊥
true_is_not_false h = absurd (cc)
