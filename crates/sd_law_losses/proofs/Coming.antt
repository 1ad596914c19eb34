-- What a receiver makes of the parts of one message, of which some are lost.
use Rattle.std.proofs.Common.{◌≡◌, refl, ℕ, ◌+◌, ◌<◌, ◌≤◌, ◌==◌, ◌&&◌, Bool, true, false, not}
use Rattle.std.proofs.Common.{List, [], ◌∷◌, ◌++◌, map, length, Option, Some, None, arith, sym, ap, ◌∙◌, subst}
use Rattle.std.specs.Prelude.{if◌then◌else◌, All}
use Rattle.std.proofs.lemmas.List.Elements.{All-cons, All-head, All-weaker}
use Rattle.std.proofs.lemmas.Bool.Decides.{nat_tests}
use Rattle.sd_base.proofs.Bools.{chosen_itself}
use Rattle.sd_site_cards.specs.CardFields.{CardFields}
use Rattle.sd_message.specs.EcmParts.{Message}
use Rattle.sd_message.specs.declared.ecm_part.EcmPart.{EcmPart}
use Rattle.sd_psi.specs.declared.our_cat.Tuning.{Tuning}
use Rattle.sd_spec.specs.Heard.{Heard, Controls}
use Rattle.sd_spec.specs.Stretches.{Stretch, newest_message, counted_parts, exceeds, run_of_parts, message_parts_with}
use Rattle.sd_spec.specs.Stretches.{message_parts_to, message_told}
use Rattle.sd_spec.specs.Stretches.{completed}
use Rattle.sd_spec.specs.Stretches.{completes}
use Rattle.sd_spec.specs.Stretches.{current, sections_seen, is_closed, others, messages}
use Rattle.sd_spec.specs.Offered.{heard_offering, part_fault, message_offering, part_offering, no_offering}
use Rattle.sd_spec.proofs.Hearing.{no_fault_in_none}
use Rattle.sd_law_losses.specs.Chosen.{chosen}
use Rattle.sd_law_losses.proofs.Parts.{Stands, follows, stands_from, whole_next, broken_next, kept_next, lost_next}
use Rattle.sd_law_losses.proofs.Taking.{keys_of}
use Rattle.sd_law_losses.proofs.Writing.{onto, Writes, writes_nothing}

-- the parts that count
abbrev pub counting : List Heard → List EcmPart
counting past = counted_parts (newest_message past).message (newest_message past).after

-- from one moment to another nothing came but parts that completed no message
pub record Same (past now : List Heard) : Type 0 where
  pub message : (newest_message now).message ≡ (newest_message past).message
  pub before : (newest_message now).before ≡ (newest_message past).before
  pub others : others (newest_message now).after ≡ others (newest_message past).after
  pub current : current now ≡ current past
  pub seen : (q : ℕ) → sections_seen q now ≡ sections_seen q past
  pub closed : is_closed now ≡ is_closed past
  pub messages : messages now ≡ messages past
  pub taken : (card : CardFields) → keys_of card now ≡ keys_of card past

pub same_itself : (past : List Heard) → Same past past
same_itself past =
    record {
      message = refl;
      before = refl;
      others = refl;
      current = refl;
      seen = λ q. refl;
      closed = refl;
      messages =
          refl;
      taken = λ card. refl;
    }

pub same_after : (past mid now : List Heard) → Same past mid → Same mid now → Same past now
same_after past mid now a b = record {
  message = b.message ∙ a.message;
  before = b.before ∙ a.before;
  others = b.others ∙ a.others;
  current = b.current ∙ a.current;
  seen = λ q. b.seen q ∙ a.seen q;
  closed = b.closed ∙ a.closed;
  messages = b.messages ∙ a.messages;
  taken = λ card. b.taken card ∙ a.taken card;
}

-- one such part
pub one_part : (past : List Heard) (part : EcmPart) → completed (newest_message past) (Controls part) ≡ None →
    Same past (Controls part ∷ past)
unfolding newest_message current sections_seen is_closed others messages
one_part past part none = record {
  message = rw none refl;
  before = rw none refl;
  others = rw none refl;
  current = rw none (omega arith);
  seen = λ q. refl;
  closed = rw none (chosen_itself (is_closed past));
  messages = rw none refl;
  taken = λ card. omega arith;
}

-- what is known of a message: its number is below this one
abbrev pub IsBelow : ℕ → Option Message → Type 0
IsBelow a None = Unit {0}
IsBelow a (Some message) = message.number < a

pub exceeds_below : (message : Option Message) (part : EcmPart) → IsBelow part.number message →
    exceeds message part ≡ true
exceeds_below None part below = refl
exceeds_below (Some message) part below = grind (arith, nat_tests, below)

-- the parts that count with one more
pub counting_more : (past : List Heard) (part : EcmPart) → exceeds (newest_message past).message part ≡ true →
    completed (newest_message past) (Controls part) ≡ None → counting (Controls part ∷ past) ≡ part ∷ counting past
unfolding newest_message counted_parts
counting_more past part above none = rw none (rw above refl)

pub run_is : (stretch : Stretch) (part : EcmPart) → exceeds stretch.message part ≡ true →
    message_parts_to stretch part ≡ run_of_parts (part ∷ counted_parts stretch.message stretch.after)
unfolding message_parts_to
run_is stretch part above = rw above refl

-- a part of which nothing comes
pub calm_part : (card : CardFields) (tuning : Tuning) (past : List Heard) (part : EcmPart) →
    part_fault (message_parts_to (newest_message past) part) ≡ None → completed (newest_message past) (Controls part)
    ≡ None →
    (n : ℕ) → heard_offering card tuning n past (Controls part) ≡ no_offering
calm_part card tuning past part good none n =
    ap (λ fault. part_offering n fault (message_offering card tuning n past (completes past (Controls part)))) good
    ∙ ap (message_offering card tuning n past) none

abbrev pub is_nil : List EcmPart → Bool
is_nil [] = true
is_nil (part ∷ parts) = false

-- a part of a message after others of it, the newest first, and before these
pub record IsPartAt (message : Message) (prior : List EcmPart) (part : EcmPart) (rest : List EcmPart) : Type 0 where
  pub number : part.number ≡ message.number
  pub place : part.part ≡ length prior
  pub count : part.last_part ≡ length prior + length rest
  pub good : part_fault (part ∷ prior) ≡ None

-- it is the last where none follows
last_is : (message : Message) (prior : List EcmPart) (part : EcmPart) (rest : List EcmPart) →
    IsPartAt message prior part rest → (part.part == part.last_part) ≡ is_nil rest
last_is message prior part [] is = grind (arith, nat_tests, is.place, is.count)
last_is message prior part (next ∷ rest) is = grind (arith, nat_tests, is.place, is.count)

-- the parts of a message from some place on
abbrev pub AreParts : Message → List EcmPart → List EcmPart → Type 0
AreParts message prior [] = message_told prior ≡ Some message
AreParts message prior (part ∷ rest) = IsPartAt message prior part rest × AreParts message (part ∷ prior) rest

-- all of these are there
abbrev pub all_kept : {A : Type 0} → List Bool → List A → Bool
all_kept fs [] = true
all_kept [] (x ∷ xs) = false
all_kept (f ∷ fs) (x ∷ xs) = f && all_kept fs xs

-- where a receiver stands after some parts of message number a
pub record IsMidway (a : ℕ) (all : Bool) (prior : List EcmPart) (now : List Heard) : Type 0 where
  pub below : IsBelow a (newest_message now).message
  pub stands : Stands all a prior (run_of_parts (counting now))
  pub counted : All (λ part. part.number ≤ a) (counting now)

-- these things complete the message with the last of them
pub record Complete (card : CardFields) (tuning : Tuning) (message : Message) (past things : List Heard) : Type 0 where
  pub first : List Heard
  pub part : EcmPart
  pub split : things ≡ first ++ Controls part ∷ []
  pub calm : Writes card tuning past first []
  pub same : Same past (onto first past)
  pub good : part_fault (message_parts_to (newest_message (onto first past)) part) ≡ None
  pub completes : completes (onto first past) (Controls part) ≡ Some message
  pub number : part.number ≡ message.number

-- these things complete nothing
pub record Calm (card : CardFields) (tuning : Tuning) (a : ℕ) (past things : List Heard) : Type 0 where
  pub calm : Writes card tuning past things []
  pub same : Same past (onto things past)
  pub counted : All (λ part. part.number ≤ a) (counting (onto things past))

abbrev pub Come : Bool → CardFields → Tuning → Message → List Heard → List Heard → Type 0
Come true card tuning message past things = Complete card tuning message past things
Come false card tuning message past things = Calm card tuning message.number past things

-- what is missing at an end
come_to_nothing : (card : CardFields) (tuning : Tuning) (message : Message) (now : List Heard) (prior : List EcmPart)
    (all : Bool) → IsMidway message.number all prior now → Calm card tuning message.number now []
come_to_nothing card tuning message now prior all mid =
    record { calm = refl; same = same_itself now; counted = mid.counted }

-- one part more of which nothing comes
midway_next : (a : ℕ) (all : Bool) (prior : List EcmPart) (now : List Heard) (part : EcmPart) → part.number ≡ a →
    part.part ≡ length prior → IsMidway a all prior now → completed (newest_message now) (Controls part) ≡ None →
    IsMidway a all (part ∷ prior) (Controls part ∷ now)
midway_next a all prior now part number place mid none =
    let above : exceeds (newest_message now).message part ≡ true =
    exceeds_below (newest_message now).message part (subst (λ (n : ℕ). IsBelow n (newest_message now).message)
    (sym number) mid.below) in
    let more = counting_more now part above none in
    record {
      below = subst (IsBelow a) (sym (one_part now part none).message) mid.below;
      stands = subst (λ (parts : List EcmPart). Stands all a (part ∷ prior) (run_of_parts parts)) (sym more)
          (kept_next all a part prior (counting now) number place mid.stands);
      counted = subst (All (λ part. part.number ≤ a)) (sym more)
          (All-cons (λ part. part.number ≤ a) part (counting now) (omega (arith, number)) mid.counted);
    }

-- one part that is lost
midway_lost : (a : ℕ) (all : Bool) (prior : List EcmPart) (now : List Heard) (part : EcmPart) →
    IsMidway a all prior now → IsMidway a false (part ∷ prior) now
midway_lost a all prior now part mid = record {
  below = mid.below;
  stands = lost_next all a part prior (run_of_parts (counting now)) mid.stands;
  counted = mid.counted;
}

-- what follows a part of which nothing comes
come_after : (all : Bool) (card : CardFields) (tuning : Tuning) (message : Message) (now things : List Heard)
    (part : EcmPart) → completed (newest_message now) (Controls part) ≡ None →
    part_fault (message_parts_to (newest_message now) part) ≡ None →
    Come all card tuning message (Controls part ∷ now) things → Come all card tuning message now
    (Controls part ∷ things)
come_after true card tuning message now things part none good rest = record {
  first = Controls part ∷ rest.first;
  part = rest.part;
  split = ap (λ (hs : List Heard). Controls part ∷ hs) rest.split;
  calm = writes_nothing card tuning now (Controls part) rest.first [] (calm_part card tuning now part good none)
      rest.calm;
  same = same_after now (Controls part ∷ now) (onto rest.first (Controls part ∷ now))
      (one_part now part none) rest.same;
  good = rest.good;
  completes = rest.completes;
  number = rest.number;
}
come_after false card tuning message now things part none good rest = record {
  calm = writes_nothing card tuning now (Controls part) things [] (calm_part card tuning now part good none) rest.calm;
  same = same_after now (Controls part ∷ now) (onto things (Controls part ∷ now)) (one_part now part none) rest.same;
  counted = rest.counted;
}

-- the run to a part that counts
run_at : (message : Message) (all : Bool) (prior : List EcmPart) (now : List Heard) (part : EcmPart) →
    part.number ≡ message.number → IsMidway message.number all prior now →
    message_parts_to (newest_message now) part ≡ run_of_parts (part ∷ counting now)
run_at message all prior now part number mid =
    run_is (newest_message now) part (exceeds_below (newest_message now).message part
    (subst (λ (n : ℕ). IsBelow n (newest_message now).message) (sym number) mid.below))

-- where all parts before it came the run to a part is all of them, else none
run_whole : (message : Message) (prior : List EcmPart) (now : List Heard) (part : EcmPart) (rest : List EcmPart) →
    IsPartAt message prior part rest → IsMidway message.number true prior now →
    message_parts_to (newest_message now) part ≡ part ∷ prior
run_whole message prior now part rest is mid = run_at message true prior now part is.number mid
    ∙ whole_next message.number part prior (counting now) is.number is.place mid.stands

run_broken : (message : Message) (prior : List EcmPart) (now : List Heard) (part : EcmPart) (rest : List EcmPart) →
    IsPartAt message prior part rest → IsMidway message.number false prior now →
    message_parts_to (newest_message now) part ≡ []
run_broken message prior now part rest is mid = run_at message false prior now part is.number mid
    ∙ broken_next message.number part prior (counting now) is.number is.place mid.stands

-- a part that isn't the last completes nothing
not_last : (stretch : Stretch) (part : EcmPart) → (part.part == part.last_part) ≡ false →
    completed stretch (Controls part) ≡ None
not_last stretch part other = rw other refl

-- nor does any part without a run
no_run : (stretch : Stretch) (part : EcmPart) → message_parts_to stretch part ≡ [] → completed stretch (Controls part)
    ≡ None
no_run stretch part none = by_test (part.part == part.last_part)
  where
    by_test : (b : Bool) → (if b then message_told (message_parts_to stretch part) else None) ≡ None
    by_test true = ap message_told none
    by_test false = refl

-- a part that is the last completes what its run tells
completes_with : (stretch : Stretch) (part : EcmPart) (message : Message) →
    message_told (message_parts_to stretch part) ≡ Some message →
    (part.part == part.last_part) ≡ true → completed stretch (Controls part) ≡ Some message
completes_with stretch part message tells last = rw last tells

-- parts of earlier messages stand at none of this one
below_first : (a : ℕ) (part : EcmPart) (run : List EcmPart) → part.number < a → stands_from a 0 (part ∷ run) ≡ false
below_first a part run below = grind (arith, nat_tests, below)

below_with : (a : ℕ) (part : EcmPart) (run : List EcmPart) → part.number < a →
    stands_from a 0 (message_parts_with part run) ≡ false
below_with a part [] below = refl
below_with a part (before ∷ run) below = by_test (follows before part)
  where
    by_test : (b : Bool) → stands_from a 0 (if b then part ∷ before ∷ run else []) ≡ false
    by_test true = below_first a part (before ∷ run) below
    by_test false = refl

none_stands : (a : ℕ) (parts : List EcmPart) → All (λ part. part.number < a) parts →
    stands_from a 0 (run_of_parts parts) ≡ false
unfolding run_of_parts
none_stands a [] below = refl
none_stands a (part ∷ earlier) below = by_test (part.part == 0)
  where
    by_test : (b : Bool) → stands_from a 0 (if b then part ∷ [] else message_parts_with part (run_of_parts earlier))
        ≡ false
    by_test true = below_first a part [] (All-head (λ part. part.number < a) part earlier below)
    by_test false = below_with a part (run_of_parts earlier) (All-head (λ part. part.number < a) part earlier below)

pub chosen_none : {A : Type 0} (fs : List Bool) → chosen {A = A} fs [] ≡ []
unfolding chosen
chosen_none [] = refl
chosen_none (f ∷ fs) = refl

-- once a part is lost, the message isn't completed
pub broken_come : (card : CardFields) (tuning : Tuning) (message : Message) (fs : List Bool) (rest prior : List EcmPart)
    (now : List Heard) → AreParts message prior rest → IsMidway message.number false prior now →
    Calm card tuning message.number now (map Controls (chosen fs rest))
unfolding chosen
broken_come card tuning message [] rest prior now are mid = come_to_nothing card tuning message now prior false mid
broken_come card tuning message (f ∷ fs) [] prior now are mid =
    come_to_nothing card tuning message now prior false mid
broken_come card tuning message (false ∷ fs) (part ∷ rest) prior now are mid =
    broken_come card tuning message fs rest (part ∷ prior) now are.1
    (midway_lost message.number false prior now part mid)
broken_come card tuning message (true ∷ fs) (part ∷ rest) prior now are mid =
    let none = run_broken message prior now part rest are.0 mid in
    let calm = no_run (newest_message now) part none in
    come_after false card tuning message now (map Controls (chosen fs rest)) part calm
    (ap part_fault none ∙ no_fault_in_none)
    (broken_come card tuning message fs rest (part ∷ prior) (Controls part ∷ now) are.1
    (midway_next message.number false prior now part are.0.number are.0.place mid calm))

-- while none is lost, the last one completes it
pub whole_come : (card : CardFields) (tuning : Tuning) (message : Message) (fs : List Bool) (rest prior : List EcmPart)
    (now : List Heard) → AreParts message prior rest → IsMidway message.number true prior now →
    Come (all_kept fs rest && not (is_nil rest)) card tuning message now (map Controls (chosen fs rest))
unfolding chosen
whole_come card tuning message [] [] prior now are mid = come_to_nothing card tuning message now prior true mid
whole_come card tuning message [] (part ∷ rest) prior now are mid =
    come_to_nothing card tuning message now prior true mid
whole_come card tuning message (f ∷ fs) [] prior now are mid =
    come_to_nothing card tuning message now prior true mid
whole_come card tuning message (false ∷ fs) (part ∷ rest) prior now are mid =
    broken_come card tuning message fs rest (part ∷ prior) now are.1
    (midway_lost message.number true prior now part mid)
whole_come card tuning message (true ∷ fs) (part ∷ []) prior now are mid =
    let whole = run_whole message prior now part [] are.0 mid in
    record {
      first = [];
      part = part;
      split = ap (λ (ps : List EcmPart). Controls part ∷ map Controls ps) (chosen_none fs);
      calm = refl;
      same = same_itself now;
      good = ap part_fault whole ∙ are.0.good;
      completes = completes_with (newest_message now) part message whole_told
          (last_is message prior part [] are.0);
      number = are.0.number;
    }
  where
    whole_told : message_told (message_parts_to (newest_message now) part) ≡ Some message
    whole_told = ap message_told (run_whole message prior now part [] are.0 mid) ∙ are.1
whole_come card tuning message (true ∷ fs) (part ∷ next ∷ rest) prior now are mid =
    let calm = not_last (newest_message now) part (last_is message prior part (next ∷ rest) are.0) in
    come_after (all_kept fs (next ∷ rest) && not (is_nil (next ∷ rest))) card tuning message now
    (map Controls (chosen fs (next ∷ rest))) part calm
    (ap part_fault (run_whole message prior now part (next ∷ rest) are.0 mid) ∙ are.0.good)
    (whole_come card tuning message fs (next ∷ rest) (part ∷ prior) (Controls part ∷ now) are.1
    (midway_next message.number true prior now part are.0.number are.0.place mid calm))

-- What a receiver makes of the parts of a message, of which some are lost: where all come the last one completes it,
-- else nothing comes of them.
pub parts_come : (card : CardFields) (tuning : Tuning) (message : Message) (fs : List Bool) (parts : List EcmPart)
    (now : List Heard) → AreParts message [] parts → is_nil parts ≡ false → IsBelow message.number
    (newest_message now).message →
    All (λ part. part.number < message.number) (counting now) →
    Come (all_kept fs parts) card tuning message now (map Controls (chosen fs parts))
parts_come card tuning message fs parts now are some below counted_parts =
    subst (λ (b : Bool). Come b card tuning message now (map Controls (chosen fs parts)))
    (outcome (all_kept fs parts) (is_nil parts) some)
    (whole_come card tuning message fs parts [] now are (record {
      below = below;
      stands = none_stands message.number (counting now) counted_parts;
      counted = All-weaker (λ part. part.number < message.number) (λ part. part.number ≤ message.number)
          (λ part less. omega (arith, less)) (counting now) counted_parts;
    }))
  where
    outcome : (all nil : Bool) → nil ≡ false → (all && not nil) ≡ all
    outcome true nil is = rw is refl
    outcome false nil is = refl
