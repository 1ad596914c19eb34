-- What is gathered of what was heard was heard.
use Rattle.std.proofs.Common.{◌≡◌, ℕ, ◌+◌, ◌==◌, ◌&&◌, Bool, true, false, List, [], ◌∷◌, ◌++◌, Some, None, refl, sym}
use Rattle.std.proofs.Common.{ap}
use Rattle.std.proofs.Common.{subst, ◌∙◌, append_assoc}
use Rattle.std.specs.Prelude.{All, Option, reverse, not, nat_lt, length, flat_map, if◌then◌else◌}
use Rattle.std.proofs.lemmas.Bool.{or_parts, not-false}
use Rattle.std.proofs.lemmas.List.{reverse-append}
use Rattle.std.proofs.lemmas.List.Elements.{All-nil, All-cons, All-head, All-tail, All-push, All-weaker}
use Rattle.sd_message.specs.EcmSpelled.{listed_places}
use Rattle.sd_message.specs.EcmParts.{Message, SaySame, message_of, ecm_head_of}
use Rattle.sd_message.specs.declared.ecm_part.EcmPart.{EcmPart}
use Rattle.sd_message.specs.declared.ecm_message.EcmHead.{EcmHead}
use Rattle.sd_message.specs.declared.ecm_fault.EcmFault.TheVariants.{Count, Order, Mixed}
use Rattle.sd_spec.specs.Heard.{Heard, Dropped, Entitles, Controls, BadEmm, BadEcm, Other}
use Rattle.sd_spec.specs.Stretches.{exceeds, counted_parts, message_parts_with, run_of_parts, message_parts_to}
use Rattle.sd_spec.specs.Stretches.{message_told, newest_message, stretch_after}
use Rattle.sd_spec.specs.Stretches.{completed, completes, others, held_in}
use Rattle.sd_spec.specs.Offered.{same_header, is_after, part_fault}
use Rattle.sd_receive.proofs.Alike.{headers_told}
use Rattle.sd_receive.proofs.Gathering.{is_mixed_with}
use Rattle.sd_site_cards.specs.CardFields.{CardFields}
use Rattle.sd_law_keys.specs.Written.{IsHeardIn, IsMessageIn, Says}
use Rattle.sd_law_keys.proofs.Running.{IsRunning, ascending_in, is_part, run_to_runs}

-- what holds of a list holds of it in reverse
all_reversed : {X : Type 0} (P : X → Type 0) (xs : List X) → All P xs → All P (reverse xs)
all_reversed P [] all = All-nil P
all_reversed P (x ∷ xs) all =
    subst (All P) (sym (reverse-append (x ∷ []) xs))
    (All-push P (reverse xs) x (all_reversed P xs (All-tail P x xs all)) (All-head P x xs all))

-- what was heard after the newest message was heard
after_one : (P : Heard → Type 0) (so_far : List Heard) (thing : Heard) (m : Option Message) → P thing
    → All P (newest_message so_far).after → All P (stretch_after so_far (newest_message so_far) thing m).after
after_one P so_far thing None is all = All-cons P thing (newest_message so_far).after is all
after_one P so_far thing (Some message) is all = All-nil P

after_heard : (P : Heard → Type 0) (so_far : List Heard) → All P so_far → All P (newest_message so_far).after
unfolding newest_message
after_heard P [] all = All-nil P
after_heard P (thing ∷ so_far) all =
    after_one P so_far thing (completed (newest_message so_far) thing) (All-head P thing so_far all)
    (after_heard P so_far (All-tail P thing so_far all))

-- one part more, if it counts
with_counted : (Q : EcmPart → Type 0) (part : EcmPart) (parts : List EcmPart) (b : Bool) → Q part → All Q parts
    → All Q (if b then part ∷ parts else parts)
with_counted Q part parts true is all = All-cons Q part parts is all
with_counted Q part parts false is all = all

-- the parts that count were heard
counted_heard : (P : Heard → Type 0) (message : Option Message) (things : List Heard) → All P things
    → All (λ (part : EcmPart). P (Controls part)) (counted_parts message things)
unfolding counted_parts
counted_heard P message [] all = All-nil (λ (part : EcmPart). P (Controls part))
counted_heard P message (Controls part ∷ things) all =
    with_counted (λ (part : EcmPart). P (Controls part)) part (counted_parts message things) (exceeds message part)
    (All-head P (Controls part) things all)
    (counted_heard P message things (All-tail P (Controls part) things all))
counted_heard P message (Dropped ∷ things) all = counted_heard P message things (All-tail P Dropped things all)
counted_heard P message (Entitles emm ∷ things) all =
    counted_heard P message things (All-tail P (Entitles emm) things all)
counted_heard P message (BadEmm fault ∷ things) all =
    counted_heard P message things (All-tail P (BadEmm fault) things all)
counted_heard P message (BadEcm fault ∷ things) all =
    counted_heard P message things (All-tail P (BadEcm fault) things all)
counted_heard P message (Other n packet ∷ things) all =
    counted_heard P message things (All-tail P (Other n packet) things all)

-- the parts of a run are some of those that count
with_part : (Q : EcmPart → Type 0) (part : EcmPart) (run : List EcmPart) → Q part → All Q run
    → All Q (message_parts_with part run)
with_part Q part [] is all = All-nil Q
with_part Q part (before ∷ run) is all = by_test ((before.number == part.number) && (before.part + 1 == part.part))
  where
    by_test : (b : Bool) → All Q (if b then part ∷ before ∷ run else [])
    by_test true = All-cons Q part (before ∷ run) is all
    by_test false = All-nil Q

begun_or_with : (Q : EcmPart → Type 0) (part : EcmPart) (run : List EcmPart) (b : Bool) → Q part → All Q run
    → All Q (if b then part ∷ [] else message_parts_with part run)
begun_or_with Q part run true is all = All-cons Q part [] is (All-nil Q)
begun_or_with Q part run false is all = with_part Q part run is all

run_heard : (Q : EcmPart → Type 0) (parts : List EcmPart) → All Q parts → All Q (run_of_parts parts)
unfolding run_of_parts
run_heard Q [] all = All-nil Q
run_heard Q (part ∷ earlier) all =
    begun_or_with Q part (run_of_parts earlier) (part.part == 0) (All-head Q part earlier all)
    (run_heard Q earlier (All-tail Q part earlier all))

run_to_heard : (P : Heard → Type 0) (so_far : List Heard) (part : EcmPart) → All P so_far → P (Controls part)
    → All (λ (one : EcmPart). P (Controls one)) (message_parts_to (newest_message so_far) part)
unfolding message_parts_to
run_to_heard P so_far part all is = by_test (exceeds (newest_message so_far).message part)
  where
    parts : List EcmPart
    parts = part ∷ counted_parts (newest_message so_far).message (newest_message so_far).after

    by_test : (b : Bool) → All (λ (one : EcmPart). P (Controls one)) (if b then run_of_parts parts else [])
    by_test true =
        run_heard (λ (one : EcmPart). P (Controls one)) parts
        (All-cons (λ (one : EcmPart). P (Controls one)) part (counted_parts (newest_message so_far).message
        (newest_message so_far).after) is
        (counted_heard P (newest_message so_far).message (newest_message so_far).after (after_heard P so_far all)))
    by_test false = All-nil (λ (one : EcmPart). P (Controls one))

-- the other packets were heard
others_heard : (P : Heard → Type 0) (things : List Heard) → All P things
    → All (λ (held : ℕ × List ℕ). P (Other held.0 held.1)) (others things)
unfolding others
others_heard P [] all = All-nil (λ (held : ℕ × List ℕ). P (Other held.0 held.1))
others_heard P (Other n packet ∷ things) all =
    All-cons (λ (held : ℕ × List ℕ). P (Other held.0 held.1)) (n, packet) (others things)
    (All-head P (Other n packet) things all) (others_heard P things (All-tail P (Other n packet) things all))
others_heard P (Dropped ∷ things) all = others_heard P things (All-tail P Dropped things all)
others_heard P (Entitles emm ∷ things) all = others_heard P things (All-tail P (Entitles emm) things all)
others_heard P (Controls part ∷ things) all = others_heard P things (All-tail P (Controls part) things all)
others_heard P (BadEmm fault ∷ things) all = others_heard P things (All-tail P (BadEmm fault) things all)
others_heard P (BadEcm fault ∷ things) all = others_heard P things (All-tail P (BadEcm fault) things all)

pub held_heard : (P : Heard → Type 0) (so_far : List Heard) → All P so_far
    → All (λ (held : ℕ × List ℕ). P (Other held.0 held.1)) (held_in (newest_message so_far))
held_heard P so_far all =
    all_reversed (λ (held : ℕ × List ℕ). P (Other held.0 held.1)) (others (newest_message so_far).after)
    (others_heard P (newest_message so_far).after (after_heard P so_far all))

-- none of the earlier parts says otherwise
none_mixed : (part : EcmPart) (run : List EcmPart) → is_mixed_with part run ≡ false
    → All (λ (other : EcmPart). SaySame other part) run
none_mixed part [] none = All-nil (λ (other : EcmPart). SaySame other part)
none_mixed part (before ∷ run) none =
    let tests = or_parts (not (same_header before part)) (is_mixed_with part run) none in
    All-cons (λ (other : EcmPart). SaySame other part) before run
    ((headers_told before part).0 (not-false (same_header before part) tests.0)) (none_mixed part run tests.1)

-- a part without a fault isn't mixed with the earlier ones
not_mixed : (a b c : Bool) → (if a then Some Mixed else if b then Some Order else if c then Some Count else None) ≡ None
    → a ≡ false
not_mixed true b c none = absurd cc
not_mixed false b c none = refl

-- so all parts of a message without a fault say what it says
all_say : (message : Message) (run : List EcmPart) → message_told run ≡ Some message → part_fault run ≡ None
    → (last : ℕ) × All (Says message last) run
unfolding part_fault
all_say message [] told none = absurd cc
all_say message (part ∷ run) told none =
    let is : message_of (ecm_head_of part) (flat_map listed_places (reverse (part ∷ run))) ≡ message = cc in
    let places : flat_map listed_places (reverse (part ∷ run)) ≡ message.places = ap (λ (m : Message). m.places) is in
    let first : message_of (ecm_head_of part) message.places ≡ message =
    ap (message_of (ecm_head_of part)) (sym places) ∙ is in
    let same = not_mixed (is_mixed_with part run) (not (is_after part run))
    (nat_lt 256 (length (flat_map listed_places (part ∷ run)))) none in (
      part.last_part,
      All-cons (Says message part.last_part) part run (first, refl)
          (All-weaker (λ (other : EcmPart). SaySame other part) (Says message part.last_part)
          (λ other e. (ap (λ (head : EcmHead). message_of head message.places) e.0 ∙ first, e.1)) run
          (none_mixed part run same)),
    )

-- the message that a part completes is told by its run
told_by_run : (test : Bool) (run : List EcmPart) (message : Message)
    → (if test then message_told run else None) ≡ Some message → message_told run ≡ Some message
told_by_run true run message is = is
told_by_run false run message is = absurd cc

-- a message that is completed without a fault of its parts is in the packets
pub message_in : (card : CardFields) (past : List (List ℕ)) (so_far : List Heard) (part : EcmPart) (message : Message)
    → All (IsHeardIn card past) so_far → IsHeardIn card past (Controls part)
    → part_fault (message_parts_to (newest_message so_far) part) ≡ None
    → IsRunning (newest_message so_far) → completes so_far (Controls part) ≡ Some message →
    IsMessageIn card past message
message_in card past so_far part message all is none running done =
    let told = told_by_run (part.part == part.last_part) (message_parts_to (newest_message so_far) part) message done in
    let (last, alike) = all_say message (message_parts_to (newest_message so_far) part) told none in record {
      last = last;
      parts = message_parts_to (newest_message so_far) part;
      told = told;
      are_heard = run_to_heard (IsHeardIn card past) so_far part all is;
      alike = alike;
      ascending = ascending_in message (message_parts_to (newest_message so_far) part)
          (run_to_runs so_far part running (is_part card past part is) none) told;
    }

-- packets in reverse after others
pub one_on : (packets : List (List ℕ)) (packet : List ℕ) (past : List (List ℕ))
    → reverse (packet ∷ packets) ++ past ≡ reverse packets ++ packet ∷ past
one_on packets packet past =
    ap (λ (l : List (List ℕ)). l ++ past) (reverse-append (packet ∷ []) packets)
    ∙ append_assoc (reverse packets) (packet ∷ []) past
