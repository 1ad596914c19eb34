-- How the runs before end while a receiver goes on, and how a run ends within a stream: as it does by itself.
use Rattle.std.proofs.Common.{◌≡◌, ◌≢◌, ℕ, ◌+◌, ◌++◌, true, false, List, ◌∷◌, length, Option, Some, None}
use Rattle.std.proofs.Common.{sym, ap, ◌∙◌, arith, subst, inl, inr}
use Rattle.sd_site_cards.specs.CardFields.{CardFields}
use Rattle.sd_spec.specs.declared.ending.Ending.{Ending}
use Rattle.sd_spec.specs.declared.ending.Ending.TheVariants.{Opened}
use Rattle.sd_spec.specs.Tuned.{tuning_of}
use Rattle.sd_psi.specs.declared.our_cat.Tuning.{Tuning}
use Rattle.sd_spec.specs.Heard.{Heard, hears}
use Rattle.sd_spec.specs.Runs.{run_name_in, are_two, is_turn}
use Rattle.sd_spec.specs.Offered.{heard, Offering, offered}
use Rattle.sd_spec.specs.Ending.{run_ending, endings_joined, turns_at, run_wrote, ended_before, ending_of}
use Rattle.sd_spec.proofs.Runs.{ended_on, ended_now, opened_joins}
use Rattle.sd_law_losses.specs.Pieces.{packet_run_name}
use Rattle.sd_law_losses.proofs.NextLater.{things_later, names_later}
use Rattle.sd_law_losses.proofs.Offerings.{offering_later, ending_later}
use Rattle.sd_law_losses.proofs.Leading.{is_quiet, AreQuiet, ending_led}
use Rattle.sd_law_losses.proofs.Trailing.{ending_more}
use Rattle.sd_law_losses.proofs.Agreeing.{heard_by}
use Rattle.sd_law_losses.proofs.NextEndings.{ending_by, turns_by, wrote_on, wrote_anew}
use Rattle.sd_law_losses.proofs.Following.{IsLast, quiet_any, quiet_stays, quiet_more, quiet_offered, name_goes_on}
use Rattle.sd_law_losses.proofs.Following.{unnamed_stays, turn_there, led_stays, one_name, Follows, follows_offered}

-- the runs up to the one at hand end so, together
abbrev pub ending_here : CardFields → List (List ℕ) → Ending
ending_here card past = endings_joined (ended_before card past) (run_ending card (heard card past)
    (run_wrote card past))

-- how the runs that messages came of end together, after these packets; None where no message came
abbrev pub HaveEnded : CardFields → (Option ℕ → Type 0) → Option Ending → List (List ℕ) → Type 0
HaveEnded card Fresh None past =
    AreQuiet (heard card past) × (ended_before card past ≡ Opened) × (run_wrote card past ≡ 0)
HaveEnded card Fresh (Some ending) past =
    ((a : Option ℕ) × (run_name_in (heard card past) ≡ Some a) × Fresh a) × (ending_here card past ≡ ending)

-- the run at hand is none, or one of which this holds of the name
pub last_of : (card : CardFields) (Fresh : Option ℕ → Type 0) (told : Option Ending) (past : List (List ℕ)) →
    HaveEnded card Fresh told past → IsLast card Fresh past
last_of card Fresh None past ended = inl ended.0
last_of card Fresh (Some ending) past ended = inr ended.0

-- what holds of the names still holds
pub ended_still : (card : CardFields) (Fresh Next : Option ℕ → Type 0) (told : Option Ending)
    (past : List (List ℕ)) → ((a : Option ℕ) → Fresh a → Next a) → HaveEnded card Fresh told past →
    HaveEnded card Next told past
ended_still card Fresh Next None past still ended = ended
ended_still card Fresh Next (Some ending) past still ((a, named, fresh), is) = ((a, named, still a fresh), is)

-- a packet that is no message
quiet_turns : (card : CardFields) (tuning : Tuning) (past : List (List ℕ)) (packet : List ℕ) →
    tuning_of card.ca past ≡ Some tuning → is_quiet (hears card.height tuning 0 packet) ≡ true →
    turns_at card past packet ≡ false
quiet_turns card tuning past packet tuned quiet =
    turns_by card tuning past packet tuned
    ∙ quiet_stays (heard card past) (hears card.height tuning (length past) packet)
    (quiet_any card.height (length past) tuning packet quiet)

quiet_wrote : (card : CardFields) (tuning : Tuning) (past : List (List ℕ)) (packet : List ℕ) →
    tuning_of card.ca past ≡ Some tuning → is_quiet (hears card.height tuning 0 packet) ≡ true →
    run_wrote card (packet ∷ past) ≡ run_wrote card past
quiet_wrote card tuning past packet tuned quiet =
    let none_more : run_wrote card past + 0 ≡ run_wrote card past = omega arith in
    wrote_on card past packet (quiet_turns card tuning past packet tuned quiet)
    ∙ (ap {B = ℕ} (λ (o : Offering). run_wrote card past + length o.wrote)
    (quiet_offered card tuning past packet tuned quiet) ∙ none_more)

-- changes nothing of how the runs end
quiet_here : (card : CardFields) (tuning : Tuning) (past : List (List ℕ)) (packet : List ℕ) →
    tuning_of card.ca past ≡ Some tuning → is_quiet (hears card.height tuning 0 packet) ≡ true →
    ending_here card (packet ∷ past) ≡ ending_here card past
quiet_here card tuning past packet tuned quiet =
    let before : Ending = ended_before card past in
    let thing : Heard = hears card.height tuning (length past) packet in
    ap (λ (e : Ending). endings_joined e (run_ending card (heard card (packet ∷ past))
    (run_wrote card (packet ∷ past))))
    (ended_on card past packet (quiet_turns card tuning past packet tuned quiet))
    ∙ (ap (λ (n : ℕ). endings_joined before (run_ending card (heard card (packet ∷ past)) n))
    (quiet_wrote card tuning past packet tuned quiet)
    ∙ (ap (λ (hs : List Heard). endings_joined before (run_ending card hs (run_wrote card past)))
    (heard_by card tuning past packet tuned)
    ∙ ap (endings_joined before) (ending_more card (heard card past) thing (run_wrote card past)
    (quiet_any card.height (length past) tuning packet quiet))))

pub ended_more : (card : CardFields) (tuning : Tuning) (Fresh : Option ℕ → Type 0) (told : Option Ending)
    (past : List (List ℕ)) (packet : List ℕ) → tuning_of card.ca past ≡ Some tuning →
    is_quiet (hears card.height tuning 0 packet) ≡ true → HaveEnded card Fresh told past →
    HaveEnded card Fresh told (packet ∷ past)
ended_more card tuning Fresh None past packet tuned quiet ended = (
  subst AreQuiet (sym (heard_by card tuning past packet tuned))
      (quiet_more (heard card past) (hears card.height tuning (length past) packet) ended.0
      (quiet_any card.height (length past) tuning packet quiet)),
  ended_on card past packet (quiet_turns card tuning past packet tuned quiet) ∙ ended.1,
  quiet_wrote card tuning past packet tuned quiet ∙ ended.2,
)
ended_more card tuning Fresh (Some ending) past packet tuned quiet ((a, named, fresh), is) = (
  (
    a,
    ap run_name_in (heard_by card tuning past packet tuned)
        ∙ (name_goes_on (heard card past) (hears card.height tuning (length past) packet)
        (quiet_any card.height (length past) tuning packet quiet) ∙ named),
    fresh,
  ),
  quiet_here card tuning past packet tuned quiet ∙ is,
)

-- how the runs before a new one end together
abbrev pub earlier : Option Ending → Ending
earlier None = Opened
earlier (Some ending) = ending

-- the first message of a run
first_before : (card : CardFields) (tuning : Tuning) (name : Option ℕ) (Fresh : Option ℕ → Type 0)
    (told : Option Ending) (past : List (List ℕ)) (packet : List ℕ) → ((a : Option ℕ) → Fresh a → a ≢ name) →
    packet_run_name card.height tuning packet ≡ Some name → tuning_of card.ca past ≡ Some tuning →
    HaveEnded card Fresh told past → ended_before card (packet ∷ past) ≡ earlier told
first_before card tuning name Fresh None past packet apart is tuned ended =
    ended_on card past packet (turns_by card tuning past packet tuned
    ∙ unnamed_stays (heard card past) (hears card.height tuning (length past) packet) ended.0)
    ∙ ended.1
first_before card tuning name Fresh (Some ending) past packet apart is tuned ((a, named, fresh), so) =
    ended_now card past packet (turns_by card tuning past packet tuned
    ∙ turn_there card tuning past packet a name named (apart a fresh) is)
    ∙ so

first_wrote : (card : CardFields) (tuning : Tuning) (name : Option ℕ) (Fresh : Option ℕ → Type 0)
    (told : Option Ending) (past : List (List ℕ)) (packet : List ℕ) → ((a : Option ℕ) → Fresh a → a ≢ name) →
    packet_run_name card.height tuning packet ≡ Some name → tuning_of card.ca past ≡ Some tuning →
    HaveEnded card Fresh told past → run_wrote card (packet ∷ past) ≡ 0 + length (offered card past packet).wrote
first_wrote card tuning name Fresh None past packet apart is tuned ended =
    wrote_on card past packet (turns_by card tuning past packet tuned
    ∙ unnamed_stays (heard card past) (hears card.height tuning (length past) packet) ended.0)
    ∙ ap (λ (n : ℕ). n + length (offered card past packet).wrote) ended.2
first_wrote card tuning name Fresh (Some ending) past packet apart is tuned ((a, named, fresh), so) =
    wrote_anew card past packet (turns_by card tuning past packet tuned
    ∙ turn_there card tuning past packet a name named (apart a fresh) is)

-- The run at hand is as by itself, behind those before.
pub record RunsOn (card : CardFields) (told : Option Ending) (past alone : List (List ℕ)) : Type 0 where
  pub before : ended_before card past ≡ earlier told
  pub alone_before : ended_before card alone ≡ Opened
  pub wrote : run_wrote card past ≡ run_wrote card alone

pub run_begins : (card : CardFields) (tuning : Tuning) (k : ℕ) (name : Option ℕ) (Fresh : Option ℕ → Type 0)
    (told : Option Ending) (past alone : List (List ℕ)) (packet : List ℕ) → ((a : Option ℕ) → Fresh a → a ≢ name) →
    packet_run_name card.height tuning packet ≡ Some name → tuning_of card.ca past ≡ Some tuning →
    tuning_of card.ca alone ≡ Some tuning → HaveEnded card Fresh told past → HaveEnded card Fresh None alone →
    offered card past packet ≡ offering_later k (offered card alone packet) →
    RunsOn card told (packet ∷ past) (packet ∷ alone)
run_begins card tuning k name Fresh told past alone packet apart is tuned alone_tuned ended alone_ended same = record {
  before = first_before card tuning name Fresh told past packet apart is tuned ended;
  alone_before = first_before card tuning name Fresh None alone packet apart is alone_tuned alone_ended;
  wrote = first_wrote card tuning name Fresh told past packet apart is tuned ended
      ∙ (ap {B = ℕ} (λ (o : Offering). 0 + length o.wrote) same
      ∙ sym (first_wrote card tuning name Fresh None alone packet apart is alone_tuned alone_ended));
}

-- a packet of a run that is at hand begins no other
follows_stays : (card : CardFields) (tuning : Tuning) (name : Option ℕ) (past : List (List ℕ)) (packet : List ℕ)
    (things lead : List Heard) → tuning_of card.ca past ≡ Some tuning → heard card past ≡ things ++ lead →
    AreQuiet lead → run_name_in things ≡ Some name → are_two (Some name) (packet_run_name card.height tuning packet)
    ≡ false →
    turns_at card past packet ≡ false
follows_stays card tuning name past packet things lead tuned is quiet named one =
    let thing : Heard = hears card.height tuning (length past) packet in
    turns_by card tuning past packet tuned
    ∙ (ap (λ (hs : List Heard). is_turn hs thing) is
    ∙ led_stays name things lead thing quiet named (one_name card tuning (length past) name packet one))

pub run_goes_on : (card : CardFields) (tuning : Tuning) (k : ℕ) (name : Option ℕ) (told : Option Ending)
    (past alone : List (List ℕ)) (packet : List ℕ) (things old own : List Heard) →
    are_two (Some name) (packet_run_name card.height tuning packet) ≡ false →
    Follows card tuning k name past alone things old own → RunsOn card told past alone →
    RunsOn card told (packet ∷ past) (packet ∷ alone)
run_goes_on card tuning k name told past alone packet things old own one f on =
    let stays = follows_stays card tuning name past packet (things_later k things) old f.tuned f.heard_is f.old_quiet
    (names_later k things ∙ f.named) one in
    let stays_alone = follows_stays card tuning name alone packet things own f.alone_tuned f.alone_is f.own_quiet
    f.named one in
    record {
      before = ended_on card past packet stays ∙ on.before;
      alone_before = ended_on card alone packet stays_alone ∙ on.alone_before;
      wrote = wrote_on card past packet stays
          ∙ (ap (λ (n : ℕ). n + length (offered card past packet).wrote) on.wrote
          ∙ (ap {B = ℕ} (λ (o : Offering). run_wrote card alone + length o.wrote)
          (follows_offered card tuning k name past alone packet things old own one f)
          ∙ sym (wrote_on card alone packet stays_alone)));
    }

-- the run at hand, after those before, ends as by itself
pub run_done : (card : CardFields) (tuning : Tuning) (k : ℕ) (name : Option ℕ) (told : Option Ending)
    (past alone : List (List ℕ)) (things old own : List Heard) →
    Follows card tuning k name past alone things old own → RunsOn card told past alone →
    ending_here card past ≡ endings_joined (earlier told) (ending_of card alone)
run_done card tuning k name told past alone things old own f on =
    let wrote : ℕ = run_wrote card alone in
    ap (λ (e : Ending). endings_joined e (run_ending card (heard card past) (run_wrote card past))) on.before
    ∙ ap (endings_joined (earlier told)) (ap (run_ending card (heard card past)) on.wrote
    ∙ (ap (λ (hs : List Heard). run_ending card hs wrote) f.heard_is
    ∙ (ending_led wrote card (things_later k things) old f.old_quiet
    ∙ (ending_later k wrote card things
    ∙ (sym (ending_led wrote card things own f.own_quiet)
    ∙ (ap (λ (hs : List Heard). run_ending card hs wrote) (sym f.alone_is)
    ∙ sym (ending_by card tuning alone f.alone_tuned
    ∙ (ap (λ (e : Ending). endings_joined e (run_ending card (heard card alone) wrote)) on.alone_before
    ∙ opened_joins (run_ending card (heard card alone) wrote)))))))))
