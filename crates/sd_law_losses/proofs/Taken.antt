-- A packet of a run takes a key within a stream if it does so in the run by itself.
use Rattle.std.proofs.Common.{◌≡◌, ◌≢◌, ℕ, ◌+◌, ◌++◌, true, false, List, [], length, Option, Some, sym, ap}
use Rattle.std.proofs.Common.{◌∙◌}
use Rattle.sd_site_cards.specs.CardFields.{CardFields}
use Rattle.sd_spec.specs.Tuned.{tuning_of}
use Rattle.sd_psi.specs.declared.our_cat.Tuning.{Tuning}
use Rattle.sd_spec.specs.Heard.{Heard, hears}
use Rattle.sd_spec.specs.Runs.{are_two, is_turn, of_run}
use Rattle.sd_spec.specs.Offered.{heard}
use Rattle.sd_spec.specs.Taken.{takes_key_at}
use Rattle.sd_spec.proofs.Runs.{same_run}
use Rattle.sd_law_losses.specs.Pieces.{packet_run_name}
use Rattle.sd_law_losses.proofs.NextLater.{things_later, names_later}
use Rattle.sd_law_losses.proofs.Leading.{is_quiet, AreQuiet}
use Rattle.sd_law_losses.proofs.NextTaking.{takes_open, taken_later, taken_led, none_taken, taken_by}
use Rattle.sd_law_losses.proofs.Following.{quiet_any, Waits, Follows, led_stays, there_is, one_name, Begins, begun}
use Rattle.sd_law_losses.proofs.Following.{alone_begins}

-- a packet that is no message takes no key
pub quiet_taken : (card : CardFields) (tuning : Tuning) (past : List (List ℕ)) (packet : List ℕ) →
    tuning_of card.ca past ≡ Some tuning → is_quiet (hears card.height tuning 0 packet) ≡ true →
    takes_key_at card past packet ≡ false
quiet_taken card tuning past packet tuned quiet =
    taken_by card tuning past packet tuned
    ∙ none_taken card (of_run (heard card past) (hears card.height tuning (length past) packet))
    (hears card.height tuning (length past) packet) (quiet_any card.height (length past) tuning packet quiet)

-- a thing takes a key in both places or in none
both_take : (card : CardFields) (tuning : Tuning) (k n m : ℕ) (packet : List ℕ) (things : List Heard) → n ≡ k + m →
    takes_open card (things_later k things) (hears card.height tuning n packet)
    ≡ takes_open card things (hears card.height tuning m packet)
both_take card tuning k n m packet things count =
    ap (takes_open card (things_later k things)) (there_is card tuning k n m packet count)
    ∙ taken_later k card things (hears card.height tuning m packet)

-- what was heard before the first message of the run changes nothing
led_takes : (card : CardFields) (tuning : Tuning) (past : List (List ℕ)) (packet : List ℕ)
    (things lead : List Heard) → tuning_of card.ca past ≡ Some tuning → heard card past ≡ things ++ lead →
    AreQuiet lead → is_turn (things ++ lead) (hears card.height tuning (length past) packet) ≡ false →
    takes_key_at card past packet ≡ takes_open card things (hears card.height tuning (length past) packet)
led_takes card tuning past packet things lead tuned is quiet stays =
    let thing : Heard = hears card.height tuning (length past) packet in
    taken_by card tuning past packet tuned
    ∙ (ap (λ (hs : List Heard). takes_open card (of_run hs thing) thing) is
    ∙ (ap (λ (run : List Heard). takes_open card run thing) (same_run (things ++ lead) thing stays)
    ∙ taken_led card things lead thing quiet))

-- behind the first message a packet takes a key in both places or in none
pub follows_taken : (card : CardFields) (tuning : Tuning) (k : ℕ) (name : Option ℕ) (past alone : List (List ℕ))
    (packet : List ℕ) (things old own : List Heard) →
    are_two (Some name) (packet_run_name card.height tuning packet) ≡ false →
    Follows card tuning k name past alone things old own →
    takes_key_at card past packet ≡ takes_key_at card alone packet
follows_taken card tuning k name past alone packet things old own one f =
    led_takes card tuning past packet (things_later k things) old f.tuned f.heard_is f.old_quiet
    (led_stays name (things_later k things) old (hears card.height tuning (length past) packet) f.old_quiet
    (names_later k things ∙ f.named) (one_name card tuning (length past) name packet one))
    ∙ (both_take card tuning k (length past) (length alone) packet things f.count
    ∙ sym (led_takes card tuning alone packet things own f.alone_tuned f.alone_is f.own_quiet
    (led_stays name things own (hears card.height tuning (length alone) packet) f.own_quiet f.named
    (one_name card tuning (length alone) name packet one))))

-- the first message takes a key as if nothing was heard before
first_takes : (card : CardFields) (tuning : Tuning) (past : List (List ℕ)) (packet : List ℕ) (old : List Heard) →
    tuning_of card.ca past ≡ Some tuning → Begins card tuning past packet old →
    takes_key_at card past packet ≡ takes_open card [] (hears card.height tuning (length past) packet)
first_takes card tuning past packet old tuned begins =
    let thing : Heard = hears card.height tuning (length past) packet in
    taken_by card tuning past packet tuned
    ∙ (ap (λ (run : List Heard). takes_open card run thing) begins.run
    ∙ taken_led card [] old thing begins.quiet)

-- so it does in both places or in none
pub begun_taken : (card : CardFields) (tuning : Tuning) (k : ℕ) (name : Option ℕ) (Fresh : Option ℕ → Type 0)
    (past alone : List (List ℕ)) (packet : List ℕ) → ((a : Option ℕ) → Fresh a → a ≢ name) →
    packet_run_name card.height tuning packet ≡ Some name → Waits card tuning k Fresh past alone →
    takes_key_at card past packet ≡ takes_key_at card alone packet
begun_taken card tuning k name Fresh past alone packet apart is waits =
    let start = begun card tuning name Fresh past packet apart is waits.last in
    first_takes card tuning past packet start.0 waits.tuned start.1
    ∙ (both_take card tuning k (length past) (length alone) packet [] waits.count
    ∙ sym (first_takes card tuning alone packet (heard card alone) waits.alone_tuned
    (alone_begins card tuning alone packet waits.alone_quiet)))
