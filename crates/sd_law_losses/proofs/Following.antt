-- A receiver that goes over from one run to the next, and one that is at the same place of the next run alone.
use Rattle.std.proofs.Common.{◌≡◌, ◌≢◌, refl, ℕ, ◌+◌, ◌++◌, Bool, true, false, List, [], ◌∷◌, length, Option, Some}
use Rattle.std.proofs.Common.{None, sym, ap, ◌∙◌, arith, subst, ◌⊎◌, inl, inr}
use Rattle.std.specs.Prelude.{if◌then◌else◌, not}
use Rattle.std.proofs.lemmas.Bool.{false≢true}
use Rattle.sd_base.proofs.Bools.{tested}
use Rattle.sd_site_cards.specs.CardFields.{CardFields}
use Rattle.sd_spec.specs.Tuned.{tuning_of}
use Rattle.sd_psi.specs.declared.our_cat.Tuning.{Tuning}
use Rattle.sd_spec.specs.Heard.{Heard, Dropped, Entitles, Controls, BadEmm, BadEcm, Other, hears}
use Rattle.sd_spec.specs.Stretches.{is_closed}
use Rattle.sd_spec.specs.Runs.{run_name_heard, name_or, run_name_in, is_same_run, are_two, is_turn, of_run}
use Rattle.sd_spec.specs.Offered.{heard, heard_more, Offering, no_offering, offered, heard_offering}
use Rattle.sd_spec.proofs.Runs.{same_run, new_run}
use Rattle.sd_spec.proofs.Hearing.{tuned_more}
use Rattle.sd_law_losses.specs.Pieces.{packet_run_name}
use Rattle.sd_law_losses.proofs.NextLater.{thing_later, things_later, hears_later, names_later, closed_later}
use Rattle.sd_law_losses.proofs.Offerings.{offering_later, open_offering, open_later}
use Rattle.sd_law_losses.proofs.Leading.{is_quiet, AreQuiet, name_quiet, closed_quiet, names_led, closed_led}
use Rattle.sd_law_losses.proofs.Leading.{offering_led}
use Rattle.sd_law_losses.proofs.Agreeing.{offered_by, heard_by, name_any, same_is}
use Rattle.sd_law_losses.proofs.Agreeing.{some_kept}
use Rattle.sd_law_losses.proofs.Agreeing.{name_next}

-- a packet of the run with this name: no message, or one of it
abbrev pub IsPacketOf : CardFields → Tuning → Option ℕ → List ℕ → Type 0
IsPacketOf card tuning name packet =
    (is_quiet (hears card.height tuning 0 packet) ≡ true) ⊎ (packet_run_name card.height tuning packet ≡ Some name)

quiet_later : (k : ℕ) (thing : Heard) → is_quiet (thing_later k thing) ≡ is_quiet thing
quiet_later k Dropped = refl
quiet_later k (Entitles emm) = refl
quiet_later k (Controls part) = refl
quiet_later k (BadEmm fault) = refl
quiet_later k (BadEcm fault) = refl
quiet_later k (Other n packet) = refl

pub quiet_any : (h n : ℕ) (tuning : Tuning) (packet : List ℕ) → is_quiet (hears h tuning 0 packet) ≡ true →
    is_quiet (hears h tuning n packet) ≡ true
quiet_any h n tuning packet quiet =
    let zero_more : n ≡ n + 0 = omega arith in
    ap (λ (m : ℕ). is_quiet (hears h tuning m packet)) zero_more
    ∙ (ap is_quiet (hears_later h n 0 tuning packet) ∙ (quiet_later n (hears h tuning 0 packet) ∙ quiet))

pub quiet_unnamed : (thing : Heard) → is_quiet thing ≡ true → run_name_heard thing ≡ None
quiet_unnamed Dropped quiet = refl
quiet_unnamed (Entitles emm) quiet = absurd (false≢true quiet)
quiet_unnamed (Controls part) quiet = absurd (false≢true quiet)
quiet_unnamed (BadEmm fault) quiet = refl
quiet_unnamed (BadEcm fault) quiet = refl
quiet_unnamed (Other n packet) quiet = refl

quiet_offering : (card : CardFields) (tuning : Tuning) (n : ℕ) (past : List Heard) (thing : Heard) →
    is_quiet thing ≡ true → heard_offering card tuning n past thing ≡ no_offering
quiet_offering card tuning n past Dropped quiet = refl
quiet_offering card tuning n past (Entitles emm) quiet = absurd (false≢true quiet)
quiet_offering card tuning n past (Controls part) quiet = absurd (false≢true quiet)
quiet_offering card tuning n past (BadEmm fault) quiet = absurd (false≢true quiet)
quiet_offering card tuning n past (BadEcm fault) quiet = absurd (false≢true quiet)
quiet_offering card tuning n past (Other m packet) quiet = refl

either_nothing : (closed : Bool) (offering : Offering) → offering ≡ no_offering →
    (if closed then no_offering else offering) ≡ no_offering
either_nothing true offering is = refl
either_nothing false offering is = is

pub quiet_offered : (card : CardFields) (tuning : Tuning) (past : List (List ℕ)) (packet : List ℕ) →
    tuning_of card.ca past ≡ Some tuning → is_quiet (hears card.height tuning 0 packet) ≡ true →
    offered card past packet ≡ no_offering
quiet_offered card tuning past packet tuned quiet =
    let thing : Heard = hears card.height tuning (length past) packet in
    let run : List Heard = of_run (heard card past) thing in
    offered_by card tuning past packet tuned
    ∙ either_nothing (is_closed run) (heard_offering card tuning (length past) run thing)
    (quiet_offering card tuning (length past) run thing (quiet_any card.height (length past) tuning packet quiet))

not_two_none : (name : Option (Option ℕ)) → are_two name None ≡ false
not_two_none None = refl
not_two_none (Some a) = refl

pub quiet_stays : (past : List Heard) (thing : Heard) → is_quiet thing ≡ true → is_turn past thing ≡ false
unfolding is_turn
quiet_stays past thing quiet =
    ap (are_two (run_name_in past)) (quiet_unnamed thing quiet) ∙ not_two_none (run_name_in past)

-- what was heard with one thing more of the same run
abbrev pub more : List Heard → Heard → List Heard
more past thing = if is_closed past then past else thing ∷ past

pub more_is : (past : List Heard) (thing : Heard) → is_turn past thing ≡ false → heard_more past thing ≡ more past thing
more_is past thing stays =
    ap (λ (run : List Heard). if is_closed run then past else thing ∷ run) (same_run past thing stays)

quiet_by : (past : List Heard) (thing : Heard) (closed : Bool) → AreQuiet past → is_quiet thing ≡ true →
    AreQuiet (if closed then past else thing ∷ past)
quiet_by past thing true all quiet = all
quiet_by past thing false all quiet = (quiet, all)

pub quiet_more : (past : List Heard) (thing : Heard) → AreQuiet past → is_quiet thing ≡ true →
    AreQuiet (heard_more past thing)
quiet_more past thing all quiet =
    subst AreQuiet (sym (more_is past thing (quiet_stays past thing quiet)))
    (quiet_by past thing (is_closed past) all quiet)

pub name_goes_on : (past : List Heard) (thing : Heard) → is_quiet thing ≡ true →
    run_name_in (heard_more past thing) ≡ run_name_in past
unfolding is_turn
name_goes_on past thing quiet =
    name_next past thing (quiet_stays past thing quiet)
    ∙ ap (λ (name : Option (Option ℕ)). name_or name (run_name_in past)) (quiet_unnamed thing quiet)

-- The run at hand is none, or one of which this holds of the name.
abbrev pub IsLast : CardFields → (Option ℕ → Type 0) → List (List ℕ) → Type 0
IsLast card Fresh past =
    AreQuiet (heard card past) ⊎ ((a : Option ℕ) × (run_name_in (heard card past) ≡ Some a) × Fresh a)

-- No message of the run came yet.
pub record Waits (card : CardFields) (tuning : Tuning) (k : ℕ) (Fresh : Option ℕ → Type 0)
    (past alone : List (List ℕ)) : Type 0 where
  pub tuned : tuning_of card.ca past ≡ Some tuning
  pub alone_tuned : tuning_of card.ca alone ≡ Some tuning
  pub count : length past ≡ k + length alone
  pub alone_quiet : AreQuiet (heard card alone)
  pub last : IsLast card Fresh past

pub last_more : (card : CardFields) (tuning : Tuning) (Fresh : Option ℕ → Type 0) (past : List (List ℕ))
    (packet : List ℕ) →
    tuning_of card.ca past ≡ Some tuning → is_quiet (hears card.height tuning 0 packet) ≡ true →
    IsLast card Fresh past → IsLast card Fresh (packet ∷ past)
last_more card tuning Fresh past packet tuned quiet (inl all) =
    inl (subst AreQuiet (sym (heard_by card tuning past packet tuned))
    (quiet_more (heard card past) (hears card.height tuning (length past) packet) all
    (quiet_any card.height (length past) tuning packet quiet)))
last_more card tuning Fresh past packet tuned quiet (inr (a, named, fresh)) =
    inr (
      a,
      ap run_name_in (heard_by card tuning past packet tuned)
          ∙ (name_goes_on (heard card past) (hears card.height tuning (length past) packet)
          (quiet_any card.height (length past) tuning packet quiet) ∙ named),
      fresh,
    )

pub waits_more : (card : CardFields) (tuning : Tuning) (k : ℕ) (Fresh : Option ℕ → Type 0)
    (past alone : List (List ℕ)) (packet : List ℕ) →
    is_quiet (hears card.height tuning 0 packet) ≡ true → Waits card tuning k Fresh past alone →
    Waits card tuning k Fresh (packet ∷ past) (packet ∷ alone)
waits_more card tuning k Fresh past alone packet quiet waits = record {
  tuned = tuned_more card tuning past packet waits.tuned;
  alone_tuned = tuned_more card tuning alone packet waits.alone_tuned;
  count = omega (arith, waits.count);
  alone_quiet = subst AreQuiet (sym (heard_by card tuning alone packet waits.alone_tuned))
      (quiet_more (heard card alone) (hears card.height tuning (length alone) packet) waits.alone_quiet
      (quiet_any card.height (length alone) tuning packet quiet));
  last = last_more card tuning Fresh past packet waits.tuned quiet waits.last;
}

-- What was heard of the run is the same, but for what was heard before its first message.
pub record Follows (card : CardFields) (tuning : Tuning) (k : ℕ) (name : Option ℕ) (past alone : List (List ℕ))
    (things old own : List Heard) : Type 0 where
  pub tuned : tuning_of card.ca past ≡ Some tuning
  pub alone_tuned : tuning_of card.ca alone ≡ Some tuning
  pub count : length past ≡ k + length alone
  pub heard_is : heard card past ≡ things_later k things ++ old
  pub alone_is : heard card alone ≡ things ++ own
  pub old_quiet : AreQuiet old
  pub own_quiet : AreQuiet own
  pub named : run_name_in things ≡ Some name

open_led : (n : ℕ) (card : CardFields) (tuning : Tuning) (past lead : List Heard) (thing : Heard) → AreQuiet lead →
    open_offering card tuning n (past ++ lead) thing ≡ open_offering card tuning n past thing
open_led n card tuning past lead thing quiet =
    ap (λ (closed : Bool). if closed then no_offering else heard_offering card tuning n (past ++ lead) thing)
    (closed_led past lead quiet)
    ∙ ap (λ (offering : Offering). if is_closed past then no_offering else offering)
    (offering_led n card tuning past lead thing quiet)

more_by : (past lead : List Heard) (thing : Heard) (closed : Bool) →
    (if closed then past ++ lead else thing ∷ past ++ lead) ≡ (if closed then past else thing ∷ past) ++ lead
more_by past lead thing true = refl
more_by past lead thing false = refl

more_led : (past lead : List Heard) (thing : Heard) → AreQuiet lead →
    more (past ++ lead) thing ≡ more past thing ++ lead
more_led past lead thing quiet =
    ap (λ (closed : Bool). if closed then past ++ lead else thing ∷ past ++ lead) (closed_led past lead quiet)
    ∙ more_by past lead thing (is_closed past)

later_by : (k : ℕ) (past : List Heard) (thing : Heard) (closed : Bool) →
    (if closed then things_later k past else thing_later k thing ∷ things_later k past)
    ≡ things_later k (if closed then past else thing ∷ past)
later_by k past thing true = refl
later_by k past thing false = refl

mores_later : (k : ℕ) (past : List Heard) (thing : Heard) →
    more (things_later k past) (thing_later k thing) ≡ things_later k (more past thing)
mores_later k past thing =
    ap (λ (closed : Bool). if closed then things_later k past else thing_later k thing ∷ things_later k past)
    (closed_later k past)
    ∙ later_by k past thing (is_closed past)

named_by : (name : Option ℕ) (past : List Heard) (thing : Heard) (closed : Bool) → run_name_in past ≡ Some name →
    are_two (Some name) (run_name_heard thing) ≡ false →
    run_name_in (if closed then past else thing ∷ past) ≡ Some name
unfolding run_name_in
named_by name past thing true named one = named
named_by name past thing false named one =
    ap (name_or (run_name_heard thing)) named ∙ sym (some_kept name (run_name_heard thing) one)

-- no thing of the run turns
pub led_stays : (name : Option ℕ) (past lead : List Heard) (thing : Heard) → AreQuiet lead →
    run_name_in past ≡ Some name →
    are_two (Some name) (run_name_heard thing) ≡ false → is_turn (past ++ lead) thing ≡ false
unfolding is_turn
led_stays name past lead thing quiet named one =
    ap (λ (n : Option (Option ℕ)). are_two n (run_name_heard thing)) (names_led past lead quiet ∙ named) ∙ one

offered_led : (card : CardFields) (tuning : Tuning) (name : Option ℕ) (past : List (List ℕ)) (packet : List ℕ)
    (things lead : List Heard) → tuning_of card.ca past ≡ Some tuning → heard card past ≡ things ++ lead →
    AreQuiet lead → is_turn (things ++ lead) (hears card.height tuning (length past) packet) ≡ false →
    offered card past packet ≡ open_offering card tuning (length past) things
    (hears card.height tuning (length past) packet)
offered_led card tuning name past packet things lead tuned is quiet stays =
    let n : ℕ = length past in
    let thing : Heard = hears card.height tuning n packet in
    offered_by card tuning past packet tuned
    ∙ (ap (λ (hs : List Heard). open_offering card tuning n (of_run hs thing) thing) is
    ∙ (ap (λ (run : List Heard). open_offering card tuning n run thing) (same_run (things ++ lead) thing stays)
    ∙ open_led n card tuning things lead thing quiet))

heard_led : (card : CardFields) (tuning : Tuning) (past : List (List ℕ)) (packet : List ℕ)
    (things lead : List Heard) → tuning_of card.ca past ≡ Some tuning → heard card past ≡ things ++ lead →
    AreQuiet lead → is_turn (things ++ lead) (hears card.height tuning (length past) packet) ≡ false →
    heard card (packet ∷ past) ≡ more things (hears card.height tuning (length past) packet) ++ lead
heard_led card tuning past packet things lead tuned is quiet stays =
    let thing : Heard = hears card.height tuning (length past) packet in
    heard_by card tuning past packet tuned
    ∙ (ap (λ (hs : List Heard). heard_more hs thing) is
    ∙ (more_is (things ++ lead) thing stays ∙ more_led things lead thing quiet))

pub there_is : (card : CardFields) (tuning : Tuning) (k n m : ℕ) (packet : List ℕ) → n ≡ k + m →
    hears card.height tuning n packet ≡ thing_later k (hears card.height tuning m packet)
there_is card tuning k n m packet count =
    ap (λ (j : ℕ). hears card.height tuning j packet) count ∙ hears_later card.height k m tuning packet

-- the same comes of a thing in both places
both_offer : (card : CardFields) (tuning : Tuning) (k n m : ℕ) (packet : List ℕ) (things : List Heard) → n ≡ k + m →
    open_offering card tuning n (things_later k things) (hears card.height tuning n packet)
    ≡ offering_later k (open_offering card tuning m things (hears card.height tuning m packet))
both_offer card tuning k n m packet things count =
    ap (λ (thing : Heard). open_offering card tuning n (things_later k things) thing)
    (there_is card tuning k n m packet count)
    ∙ (ap (λ (j : ℕ). open_offering card tuning j (things_later k things)
    (thing_later k (hears card.height tuning m packet))) count
    ∙ open_later k m card tuning things (hears card.height tuning m packet))

pub one_name : (card : CardFields) (tuning : Tuning) (n : ℕ) (name : Option ℕ) (packet : List ℕ) →
    are_two (Some name) (packet_run_name card.height tuning packet) ≡ false →
    are_two (Some name) (run_name_heard (hears card.height tuning n packet)) ≡ false
one_name card tuning n name packet one =
    ap (are_two (Some name)) (name_any card.height n tuning packet) ∙ one

pub follows_offered : (card : CardFields) (tuning : Tuning) (k : ℕ) (name : Option ℕ) (past alone : List (List ℕ))
    (packet : List ℕ) (things old own : List Heard) →
    are_two (Some name) (packet_run_name card.height tuning packet) ≡ false →
    Follows card tuning k name past alone things old own →
    offered card past packet ≡ offering_later k (offered card alone packet)
follows_offered card tuning k name past alone packet things old own one f =
    offered_led card tuning name past packet (things_later k things) old f.tuned f.heard_is f.old_quiet
    (led_stays name (things_later k things) old (hears card.height tuning (length past) packet) f.old_quiet
    (names_later k things ∙ f.named) (one_name card tuning (length past) name packet one))
    ∙ (both_offer card tuning k (length past) (length alone) packet things f.count
    ∙ ap (offering_later k) (sym (offered_led card tuning name alone packet things own f.alone_tuned f.alone_is
    f.own_quiet (led_stays name things own (hears card.height tuning (length alone) packet) f.own_quiet f.named
    (one_name card tuning (length alone) name packet one)))))

pub follows_more : (card : CardFields) (tuning : Tuning) (k : ℕ) (name : Option ℕ) (past alone : List (List ℕ))
    (packet : List ℕ) (things old own : List Heard) →
    are_two (Some name) (packet_run_name card.height tuning packet) ≡ false →
    Follows card tuning k name past alone things old own →
    Follows card tuning k name (packet ∷ past) (packet ∷ alone)
    (more things (hears card.height tuning (length alone) packet)) old own
follows_more card tuning k name past alone packet things old own one f =
    let thing : Heard = hears card.height tuning (length alone) packet in
    record {
      tuned = tuned_more card tuning past packet f.tuned;
      alone_tuned = tuned_more card tuning alone packet f.alone_tuned;
      count = omega (arith, f.count);
      heard_is = heard_led card tuning past packet (things_later k things) old f.tuned f.heard_is f.old_quiet
          (led_stays name (things_later k things) old (hears card.height tuning (length past) packet) f.old_quiet
          (names_later k things ∙ f.named) (one_name card tuning (length past) name packet one))
          ∙ (ap (λ (t : Heard). more (things_later k things) t ++ old)
          (there_is card tuning k (length past) (length alone) packet f.count)
          ∙ ap (λ (hs : List Heard). hs ++ old) (mores_later k things thing));
      alone_is = heard_led card tuning alone packet things own f.alone_tuned f.alone_is f.own_quiet
          (led_stays name things own thing f.own_quiet f.named (one_name card tuning (length alone) name packet one));
      old_quiet = f.old_quiet;
      own_quiet = f.own_quiet;
      named = named_by name things thing (is_closed things) f.named
          (one_name card tuning (length alone) name packet one);
    }

-- the first message of the run
pub unnamed_stays : (past : List Heard) (thing : Heard) → AreQuiet past → is_turn past thing ≡ false
unfolding is_turn
unnamed_stays past thing quiet =
    ap (λ (n : Option (Option ℕ)). are_two n (run_name_heard thing)) (name_quiet past quiet)

two_names : (a b : Option ℕ) → a ≢ b → not (is_same_run a b) ≡ true
two_names a b apart =
    tested (is_same_run a b) (λ same. absurd (apart (same_is a b same)))
    (λ other. ap {B = Bool} (λ (t : Bool). not t) other)

pub turn_there : (card : CardFields) (tuning : Tuning) (past : List (List ℕ)) (packet : List ℕ) (a name : Option ℕ) →
    run_name_in (heard card past) ≡ Some a → a ≢ name → packet_run_name card.height tuning packet ≡ Some name →
    is_turn (heard card past) (hears card.height tuning (length past) packet) ≡ true
unfolding is_turn
turn_there card tuning past packet a name named apart is =
    ap (λ (n : Option (Option ℕ)). are_two n (run_name_heard (hears card.height tuning (length past) packet))) named
    ∙ (ap (are_two (Some a)) (name_any card.height (length past) tuning packet ∙ is) ∙ two_names a name apart)

-- what was heard of the run before it
pub record Begins (card : CardFields) (tuning : Tuning) (past : List (List ℕ)) (packet : List ℕ) (old : List Heard) :
    Type 0 where
  pub run : of_run (heard card past) (hears card.height tuning (length past) packet) ≡ old
  pub quiet : AreQuiet old

pub begun : (card : CardFields) (tuning : Tuning) (name : Option ℕ) (Fresh : Option ℕ → Type 0) (past : List (List ℕ))
    (packet : List ℕ) → ((a : Option ℕ) → Fresh a → a ≢ name) → packet_run_name card.height tuning packet ≡ Some name →
    IsLast card Fresh past → (old : List Heard) × Begins card tuning past packet old
begun card tuning name Fresh past packet apart is (inl quiet) = (
  heard card past,
  record {
    run = same_run (heard card past) (hears card.height tuning (length past) packet)
        (unnamed_stays (heard card past) (hears card.height tuning (length past) packet) quiet);
    quiet = quiet;
  },
)
begun card tuning name Fresh past packet apart is (inr (a, named, fresh)) = (
  [],
  record {
    run = new_run (heard card past) (hears card.height tuning (length past) packet)
        (turn_there card tuning past packet a name named (apart a fresh) is);
    quiet = tt;
  },
)

begun_offered : (card : CardFields) (tuning : Tuning) (past : List (List ℕ)) (packet : List ℕ) (old : List Heard) →
    tuning_of card.ca past ≡ Some tuning → Begins card tuning past packet old →
    offered card past packet
    ≡ open_offering card tuning (length past) [] (hears card.height tuning (length past) packet)
begun_offered card tuning past packet old tuned begins =
    offered_by card tuning past packet tuned
    ∙ (ap (λ (run : List Heard). open_offering card tuning (length past) run
    (hears card.height tuning (length past) packet)) begins.run
    ∙ open_led (length past) card tuning [] old (hears card.height tuning (length past) packet) begins.quiet)

begun_heard : (card : CardFields) (tuning : Tuning) (past : List (List ℕ)) (packet : List ℕ) (old : List Heard) →
    tuning_of card.ca past ≡ Some tuning → Begins card tuning past packet old →
    heard card (packet ∷ past) ≡ hears card.height tuning (length past) packet ∷ old
begun_heard card tuning past packet old tuned begins =
    heard_by card tuning past packet tuned
    ∙ (ap (λ (run : List Heard). if is_closed run then heard card past
    else hears card.height tuning (length past) packet ∷ run) begins.run
    ∙ ap (λ (closed : Bool). if closed then heard card past
    else hears card.height tuning (length past) packet ∷ old) (closed_quiet old begins.quiet))

pub alone_begins : (card : CardFields) (tuning : Tuning) (alone : List (List ℕ)) (packet : List ℕ) →
    AreQuiet (heard card alone) → Begins card tuning alone packet (heard card alone)
alone_begins card tuning alone packet quiet = record {
  run = same_run (heard card alone) (hears card.height tuning (length alone) packet)
      (unnamed_stays (heard card alone) (hears card.height tuning (length alone) packet) quiet);
  quiet = quiet;
}

one_thing : (card : CardFields) (tuning : Tuning) (n : ℕ) (name : Option ℕ) (packet : List ℕ) →
    packet_run_name card.height tuning packet ≡ Some name → run_name_in (hears card.height tuning n packet ∷ [])
    ≡ Some name
unfolding run_name_in
one_thing card tuning n name packet is =
    ap (λ (m : Option (Option ℕ)). name_or m None) (name_any card.height n tuning packet ∙ is)

pub begun_follows : (card : CardFields) (tuning : Tuning) (k : ℕ) (name : Option ℕ) (Fresh : Option ℕ → Type 0)
    (past alone : List (List ℕ)) (packet : List ℕ) → ((a : Option ℕ) → Fresh a → a ≢ name) →
    packet_run_name card.height tuning packet ≡ Some name → Waits card tuning k Fresh past alone →
    (offered card past packet ≡ offering_later k (offered card alone packet))
    × ((old : List Heard) × Follows card tuning k name (packet ∷ past) (packet ∷ alone)
    (hears card.height tuning (length alone) packet ∷ []) old (heard card alone))
begun_follows card tuning k name Fresh past alone packet apart is waits =
    let start = begun card tuning name Fresh past packet apart is waits.last in
    let here = alone_begins card tuning alone packet waits.alone_quiet in (
      begun_offered card tuning past packet start.0 waits.tuned start.1
          ∙ (both_offer card tuning k (length past) (length alone) packet [] waits.count
          ∙ ap (offering_later k) (sym (begun_offered card tuning alone packet (heard card alone) waits.alone_tuned
          here))),
      (
        start.0,
        record {
          tuned = tuned_more card tuning past packet waits.tuned;
          alone_tuned = tuned_more card tuning alone packet waits.alone_tuned;
          count = omega (arith, waits.count);
          heard_is = begun_heard card tuning past packet start.0 waits.tuned start.1
              ∙ ap (λ (t : Heard). t ∷ start.0)
              (there_is card tuning k (length past) (length alone) packet waits.count);
          alone_is = begun_heard card tuning alone packet (heard card alone) waits.alone_tuned here;
          old_quiet = start.1.quiet;
          own_quiet = waits.alone_quiet;
          named = one_thing card tuning (length alone) name packet is;
        },
      ),
    )
