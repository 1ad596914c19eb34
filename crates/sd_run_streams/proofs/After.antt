-- What the inspector keeps after a packet more.
use Rattle.std.proofs.Common.{ℕ, ◌<◌, ◌≡◌, ◌≢◌, ◌↔◌, Bool, true, false, ◌==◌, ◌&&◌, ◌||◌, List, [], ◌∷◌, ◌++◌, length}
use Rattle.std.proofs.Common.{map, get_or, set, replicate, cond, refl, sym, ap, subst, ◌∙◌, append-nil, inl, inr}
use Rattle.std.proofs.Common.{length-set}
use Rattle.std.specs.Prelude.{Option, Some, None, filter}
use Rattle.std.specs.List.{flat_map, list_any}
use Rattle.std.proofs.lemmas.Bool.{false≢true, eqb-true, eq-eqb, ne_eqb, cases_eq}
use Rattle.std.proofs.lemmas.List.{get_or-set_same, get_or-set_other, get_or-replicate}
use Rattle.std.proofs.lemmas.List.Folds.{list_any-append}
use Rattle.sd_packet.specs.Header.{pid_of, unit_start_of, counter_of, payload_of}
use Rattle.sd_section.specs.Assembled.{Fed, Assembling, sections_completed_by, assembler_after, all_lent}
use Rattle.sd_run_streams.specs.TableLines.{section_line}
use Rattle.sd_run_streams.specs.Inspected.{fed_of, on_pid, pat_sections_at, pids_named_by, named_in, is_watched}
use Rattle.sd_run_streams.specs.Inspected.{watched_on}
use Rattle.sd_run_streams.specs.Inspected.{sections_at}
use Rattle.sd_run_streams.specs.Watching.{is_named_pid, naming, AreSectionsLearned, IsAssembledFrom, AreWatchedMarks}
use Rattle.sd_run_streams.specs.Watching.{ArePlaced}
use Rattle.sd_run_streams.specs.Watching.{IsInspectedAfter}
use Rattle.sd_run_streams.proofs.Learning.{or_stay}
use Rattle.sd_run_streams.proofs.Showing.{none_named}

-- PID 0 is always watched
zero_watched : (packets : List (List ℕ)) → is_watched 0 packets ≡ true
unfolding is_watched
zero_watched packets = refl

by_zero : (zero watched : Bool) (packet : List ℕ) (before : List (List ℕ)) → watched ≡ true → on_pid 0 before
    ≡ watched_on 0 before →
    map fed_of (cond zero (packet ∷ filter (λ p. pid_of p == 0) before) (filter (λ p. pid_of p == 0) before))
    ≡ cond (zero && watched) (fed_of packet ∷ watched_on 0 before) (watched_on 0 before)
unfolding on_pid
by_zero true watched packet before is h =
    ap (λ (r : List Fed). fed_of packet ∷ r) h
    ∙ sym (ap (λ (b : Bool). cond b (fed_of packet ∷ watched_on 0 before) (watched_on 0 before)) is)
by_zero false watched packet before is h = h

-- so its packets are those since it is watched
zero_on : (packets : List (List ℕ)) → on_pid 0 packets ≡ watched_on 0 packets
unfolding on_pid watched_on
zero_on [] = refl
zero_on (packet ∷ before) = by_zero (pid_of packet == 0) (is_watched 0 before) packet before (zero_watched before)
    (zero_on before)

-- a packet more on a watched PID
one_more : (packet : List ℕ) (before : List (List ℕ)) → is_watched (pid_of packet) before ≡ true →
    watched_on (pid_of packet) (packet ∷ before) ≡ fed_of packet ∷ watched_on (pid_of packet) before
unfolding watched_on
one_more packet before watched =
    ap (λ (b : Bool). cond (b && is_watched (pid_of packet) before) (fed_of packet ∷ watched_on (pid_of packet) before)
    (watched_on (pid_of packet) before)) (eq-eqb (pid_of packet) (pid_of packet) refl)
    ∙ ap (λ (b : Bool). cond b (fed_of packet ∷ watched_on (pid_of packet) before) (watched_on (pid_of packet) before))
    watched

-- the sections that a packet completes, where its PID is watched, and where it isn't
pub sections_watched : (packet : List ℕ) (before : List (List ℕ)) → is_watched (pid_of packet) before ≡ true →
    sections_at packet before ≡ sections_completed_by (fed_of packet ∷ watched_on (pid_of packet) before)
unfolding sections_at watched_on
sections_watched packet before watched =
    ap (λ (b : Bool). cond b (sections_completed_by (watched_on (pid_of packet) (packet ∷ before))) []) watched
    ∙ ap sections_completed_by (one_more packet before watched)

pub no_sections : (packet : List ℕ) (before : List (List ℕ)) → is_watched (pid_of packet) before ≡ false →
    sections_at packet before ≡ []
unfolding sections_at
no_sections packet before unwatched = ap
    (λ (b : Bool). cond b (sections_completed_by (watched_on (pid_of packet) (packet ∷ before))) []) unwatched

-- nothing more on a PID that isn't watched, nor on another
none_more : (packet : List ℕ) (before : List (List ℕ)) → is_watched (pid_of packet) before ≡ false →
    watched_on (pid_of packet) (packet ∷ before) ≡ watched_on (pid_of packet) before
unfolding watched_on
none_more packet before unwatched =
    ap (λ (b : Bool). cond (b && is_watched (pid_of packet) before) (fed_of packet ∷ watched_on (pid_of packet) before)
    (watched_on (pid_of packet) before)) (eq-eqb (pid_of packet) (pid_of packet) refl)
    ∙ ap (λ (b : Bool). cond b (fed_of packet ∷ watched_on (pid_of packet) before) (watched_on (pid_of packet) before))
    unwatched

other_on : (pid : ℕ) (packet : List ℕ) (before : List (List ℕ)) → pid_of packet ≢ pid →
    watched_on pid (packet ∷ before) ≡ watched_on pid before
unfolding watched_on
other_on pid packet before other =
    ap (λ (b : Bool). cond (b && is_watched pid before) (fed_of packet ∷ watched_on pid before) (watched_on pid before))
    (ne_eqb (pid_of packet) pid other)

naming_by : (packet : List ℕ) (before : List (List ℕ)) (b : Bool) → (pid_of packet == 0) ≡ b →
    cond b (sections_completed_by (on_pid 0 (packet ∷ before))) [] ≡ cond b (sections_at packet before) []
naming_by packet before true e =
    let zero : pid_of packet ≡ 0 = eqb-true (pid_of packet) 0 e in
    let watched : is_watched (pid_of packet) before ≡ true = ap (λ (p : ℕ). is_watched p before) zero
    ∙ zero_watched before in
    ap sections_completed_by (zero_on (packet ∷ before) ∙ ap (λ (p : ℕ). watched_on p (packet ∷ before)) (sym zero)
    ∙ one_more packet before watched)
    ∙ sym (sections_watched packet before watched)
naming_by packet before false e = refl

-- the sections that may name PIDs are those that a packet completes on PID 0
naming_at : (packet : List ℕ) (before : List (List ℕ)) → pat_sections_at packet before ≡ naming (pid_of packet)
    (sections_at packet before)
unfolding pat_sections_at
naming_at packet before = naming_by packet before (pid_of packet == 0) refl

-- what is watched after a packet more
or_regrouped : (a b c d : Bool) → (a || (b || (c || d))) ≡ ((a || (b || c)) || d)
or_regrouped true b c d = refl
or_regrouped false true c d = refl
or_regrouped false false c d = refl

watched_more : (pid : ℕ) (packet : List ℕ) (before : List (List ℕ)) →
    is_watched pid (packet ∷ before) ≡ (is_watched pid before || is_named_pid pid (pat_sections_at packet before))
unfolding is_watched named_in is_named_pid
watched_more pid packet before =
    ap (λ (a : Bool). (pid == 0) || ((pid == 1) || a))
    (list_any-append (λ (named : ℕ). named == pid) (named_in before)
    (flat_map pids_named_by (pat_sections_at packet before)))
    ∙ or_regrouped (pid == 0) (pid == 1) (list_any (λ (named : ℕ). named == pid) (named_in before))
    (list_any (λ (named : ℕ). named == pid) (flat_map pids_named_by (pat_sections_at packet before)))

pub marks_more : (packet : List ℕ) (before : List (List ℕ)) (marks new : List Bool) → AreWatchedMarks before marks →
    AreSectionsLearned (naming (pid_of packet) (sections_at packet before)) marks new →
    AreWatchedMarks (packet ∷ before) new
marks_more packet before marks new are learned = record {
  at = λ pid h.
      learned.at pid h
      ∙ ap (λ (a : Bool). a || is_named_pid pid (naming (pid_of packet) (sections_at packet before))) (are.at pid h)
      ∙ ap (λ (s : List (List ℕ)). is_watched pid before || is_named_pid pid s) (sym (naming_at packet before))
      ∙ sym (watched_more pid packet before);
}

-- the places after a packet more
pub places_more : (packet : List ℕ) (before : List (List ℕ)) (places new : List (Option Assembling)) →
    ArePlaced before places →
    ((pid : ℕ) → pid_of packet ≢ pid → get_or new pid None ≡ get_or places pid None) →
    IsAssembledFrom (watched_on (pid_of packet) (packet ∷ before)) (get_or new (pid_of packet) None) →
    ArePlaced (packet ∷ before) new
places_more packet before places new are others here = record {
  at = λ pid h. elim (cases_eq (pid_of packet) pid) [
    | inl same ↦ subst (λ (p : ℕ). IsAssembledFrom (watched_on p (packet ∷ before)) (get_or new p None)) same here
    | inr other ↦
        subst (λ (o : Option Assembling). IsAssembledFrom (watched_on pid (packet ∷ before)) o) (sym (others pid other))
        (subst (λ (w : List Fed). IsAssembledFrom w (get_or places pid None)) (sym (other_on pid packet before other))
        (are.at pid h))
  ];
}

-- the mark of a packet's PID says whether it is watched
watched_is : (packet : List ℕ) (before : List (List ℕ)) (marks : List Bool) (places : List (Option Assembling))
    (pid : ℕ) (mark : Bool) →
    pid ≡ pid_of packet → pid < 8192 → get_or marks pid false ≡ mark → IsInspectedAfter before marks places →
    is_watched (pid_of packet) before ≡ mark
watched_is packet before marks places pid mark on h is are =
    ap (λ (p : ℕ). is_watched p before) (sym on) ∙ sym (are.marked.at pid h) ∙ is

-- where the PID isn't watched, all stays
pub unwatched_after : (packet : List ℕ) (before : List (List ℕ)) (marks : List Bool) (places : List (Option Assembling))
    (pid : ℕ) →
    pid ≡ pid_of packet → pid < 8192 → get_or marks pid false ≡ false → IsInspectedAfter before marks places →
    IsInspectedAfter (packet ∷ before) marks places
unwatched_after packet before marks places pid on h mark are =
    let unwatched : is_watched (pid_of packet) before ≡ false = watched_is packet before marks places pid false on h
    mark are in
    let within : pid_of packet < 8192 = subst (λ (p : ℕ). p < 8192) on h in
    let none : sections_at packet before ≡ [] = no_sections packet before unwatched in
    record {
      marked = marks_more packet before marks marks are.marked
          (subst (λ (s : List (List ℕ)). AreSectionsLearned (naming (pid_of packet) s) marks marks) (sym none)
          (record {
            at = λ q k. or_stay (get_or marks q false) (is_named_pid q (naming (pid_of packet) [])) _
                (none_named (pid_of packet) q) refl;
          }));
      placed = places_more packet before places places are.placed (λ pid other. refl)
          (subst (λ (w : List Fed). IsAssembledFrom w (get_or places (pid_of packet) None))
          (sym (none_more packet before unwatched))
          (are.placed.at (pid_of packet) within));
    }

pub unwatched_lines : (packet text : List ℕ) (before : List (List ℕ)) (marks : List Bool)
    (places : List (Option Assembling))
    (number pid : ℕ) →
    pid ≡ pid_of packet → pid < 8192 → get_or marks pid false ≡ false → IsInspectedAfter before marks places →
    text ≡ text ++ flat_map (section_line number (pid_of packet)) (sections_at packet before)
unwatched_lines packet text before marks places number pid on h mark are =
    let unwatched : is_watched (pid_of packet) before ≡ false = watched_is packet before marks places pid false on h
    mark are in
    sym (ap (λ (s : List (List ℕ)). text ++ flat_map (section_line number (pid_of packet)) s)
    (no_sections packet before unwatched)
    ∙ append-nil text)

-- a test that is true where a number is 1
start_is : (start : Bool) (n : ℕ) → ((start ≡ true) ↔ (n ≡ 1)) → start ≡ (n == 1)
start_is true n is = sym (eq-eqb n 1 (is.0 refl))
start_is false n is = sym (ne_eqb n 1 (λ e. false≢true (is.1 e)))

-- what was fed, as a packet has it
pub fed_is : (start : Bool) (counter : ℕ) (payload packet : List ℕ) → ((start ≡ true) ↔ (unit_start_of packet ≡ 1)) →
    counter ≡ counter_of packet →
    payload ≡ payload_of packet → record { unit_start = start; counter = counter; payload = payload } ≡ fed_of packet
fed_is start counter payload packet s c p =
    ap (λ (x : Bool). record { unit_start = x; counter = counter; payload = payload })
    (start_is start (unit_start_of packet) s)
    ∙ ap (λ (x : ℕ). record { unit_start = (fed_of packet).unit_start; counter = x; payload = payload }) c
    ∙ ap (λ (x : List ℕ). record {
      unit_start = (fed_of packet).unit_start;
      counter = (fed_of packet).counter;
      payload =
          x;
    }) p

-- what waits after packets is what the last completes
pub waiting_is : (packets : List Fed) → (assembler_after packets).waiting ≡ sections_completed_by packets
unfolding assembler_after
waiting_is packets = refl

-- what its assembler lends, where the PID is watched, is what the packet completes
shown_is : (packet : List ℕ) (before : List (List ℕ)) (fed : Assembling) → is_watched (pid_of packet) before ≡ true →
    fed ≡ assembler_after (fed_of packet ∷ watched_on (pid_of packet) before) → fed.waiting ≡ sections_at packet before
shown_is packet before fed watched is =
    ap (λ (a : Assembling). a.waiting) is ∙ waiting_is (fed_of packet ∷ watched_on (pid_of packet) before)
    ∙ sym (sections_watched packet before watched)

-- the place of a PID, taken out and put back
put_back : (packet : List ℕ) (before : List (List ℕ)) (places : List (Option Assembling)) (state : Assembling) →
    pid_of packet < 8192 →
    length places ≡ 8192 →
    ArePlaced before places → state ≡ all_lent (assembler_after (watched_on (pid_of packet) (packet ∷ before))) →
    ArePlaced (packet ∷ before) (set (set places (pid_of packet) None) (pid_of packet) (Some state))
put_back packet before places state h long are is =
    let out : List (Option Assembling) = set places (pid_of packet) None in
    let long_out : length out ≡ 8192 = length-set places (pid_of packet) None ∙ long in
    let within : pid_of packet < length out = subst (λ (n : ℕ). pid_of packet < n) (sym long_out) h in
    places_more packet before places (set out (pid_of packet) (Some state)) are
    (λ q other. get_or-set_other out (pid_of packet) q (Some state) None (λ e. other (sym e))
    ∙ get_or-set_other places (pid_of packet) q None None (λ e. other (sym e)))
    (subst (λ (o : Option Assembling). IsAssembledFrom (watched_on (pid_of packet) (packet ∷ before)) o)
    (sym (get_or-set_same out (pid_of packet) (Some state) None within)) is)

-- where it is watched, its assembler took the packet, and the PIDs that its sections name are learned
pub watched_after : (packet : List ℕ) (before : List (List ℕ)) (marks new : List Bool)
    (places out : List (Option Assembling))
    (fed put : Assembling) (pid place : ℕ) →
    pid ≡ pid_of packet → place ≡ pid → pid < 8192 → length places ≡ 8192 → out ≡ set places pid None →
    put ≡ all_lent fed →
    get_or marks pid false ≡ true → IsInspectedAfter before marks places →
    fed ≡ assembler_after (fed_of packet ∷ watched_on (pid_of packet) before) →
    AreSectionsLearned (naming pid fed.waiting) marks new →
    IsInspectedAfter (packet ∷ before) new (set out place (Some put))
watched_after packet before marks new places out fed put pid place on at h long taken lent mark are is learned =
    let watched : is_watched (pid_of packet) before ≡ true = watched_is packet before marks places pid true on h mark
    are in
    let within : pid_of packet < 8192 = subst (λ (p : ℕ). p < 8192) on h in
    let state : put ≡ all_lent (assembler_after (watched_on (pid_of packet) (packet ∷ before))) =
    lent ∙ ap all_lent is ∙ ap (λ (w : List Fed).
    all_lent (assembler_after w)) (sym (one_more packet before watched)) in
    let same : set (set places (pid_of packet) None) (pid_of packet) (Some put) ≡ set out place (Some put) =
    ap (λ (p : ℕ). set (set places p None) p (Some put)) (sym on)
    ∙ ap (λ (p : ℕ). set (set places pid None) p (Some put)) (sym at)
    ∙ ap (λ (l : List (Option Assembling)). set l place (Some put)) (sym taken) in
    record {
      marked = marks_more packet before marks new are.marked
          (subst (λ (s : List (List ℕ)). AreSectionsLearned (naming (pid_of packet) s) marks new)
          (shown_is packet before fed watched is)
          (subst (λ (p : ℕ). AreSectionsLearned (naming p fed.waiting) marks new) on learned));
      placed = subst (ArePlaced (packet ∷ before)) same (put_back packet before places put within long are.placed
          state);
    }

-- and its lines are those of the sections
pub watched_lines : (packet text new : List ℕ) (before : List (List ℕ)) (marks : List Bool)
    (places : List (Option Assembling))
    (fed : Assembling) (number pid : ℕ) →
    pid ≡ pid_of packet → pid < 8192 → get_or marks pid false ≡ true → IsInspectedAfter before marks places →
    fed ≡ assembler_after (fed_of packet ∷ watched_on (pid_of packet) before) → new ≡ text ++
    flat_map (section_line number pid) fed.waiting →
    new ≡ text ++ flat_map (section_line number (pid_of packet)) (sections_at packet before)
watched_lines packet text new before marks places fed number pid on h mark are is pushed =
    let watched : is_watched (pid_of packet) before ≡ true = watched_is packet before marks places pid true on h mark
    are in
    pushed
    ∙ ap (λ (p : ℕ). text ++ flat_map (section_line number p) fed.waiting) on
    ∙ ap (λ (s : List (List ℕ)). text ++ flat_map (section_line number (pid_of packet)) s)
    (shown_is packet before fed watched is)

-- what the place of a watched PID is after a packet more that was fed
pub fed_after : (packet : List ℕ) (before : List (List ℕ)) (fed : Assembling) (taken : Fed) (pid : ℕ) →
    pid ≡ pid_of packet →
    taken ≡ fed_of packet →
    fed ≡ assembler_after (taken ∷ watched_on pid before) →
    fed ≡ assembler_after (fed_of packet ∷ watched_on (pid_of packet) before)
fed_after packet before fed taken pid on was is =
    is ∙ ap (λ (f : Fed). assembler_after (f ∷ watched_on pid before)) was
    ∙ ap (λ (p : ℕ). assembler_after (fed_of packet ∷ watched_on p before)) on

-- before the first packet there is no assembler
pub first_placed : (places : List (Option Assembling)) → places ≡ replicate 8192 None → ArePlaced [] places
unfolding watched_on
first_placed places is = record {
  at = λ pid h. subst (λ (o : Option Assembling). IsAssembledFrom (watched_on pid []) o)
      (sym (ap (λ (l : List (Option Assembling)). get_or l pid None) is ∙ get_or-replicate 8192 pid None None h)) refl;
}
