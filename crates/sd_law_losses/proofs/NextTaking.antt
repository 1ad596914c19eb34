-- Which packets take a key within a stream, and by themselves.
use Rattle.std.proofs.Common.{◌≡◌, refl, ℕ, ◌+◌, ◌&&◌, ◌++◌, Bool, true, false, not, List, [], ◌∷◌, length, Option}
use Rattle.std.proofs.Common.{Some, None, is_none, sym, ap, ◌∙◌}
use Rattle.std.specs.Prelude.{if◌then◌else◌, nat_le}
use Rattle.std.specs.Option.{option_map_or}
use Rattle.std.proofs.lemmas.Bool.{false≢true}
use Rattle.sd_site_cards.specs.CardFields.{CardFields}
use Rattle.sd_message.specs.declared.emm.Emm.{Emm}
use Rattle.sd_spec.specs.Tuned.{tuning_of}
use Rattle.sd_psi.specs.OurCat.{cat_tuning}
use Rattle.sd_psi.specs.declared.our_cat.Tuning.{Tuning}
use Rattle.sd_spec.specs.Heard.{Heard, Dropped, Entitles, Controls, BadEmm, BadEcm, Other, hears}
use Rattle.sd_spec.specs.Stretches.{current, is_closed}
use Rattle.sd_spec.specs.Runs.{is_turn, of_run}
use Rattle.sd_spec.specs.Keys.{key_from, key_at}
use Rattle.sd_spec.specs.Offered.{heard}
use Rattle.sd_spec.specs.Taken.{takes_key, takes_key_of, takes_key_in, takes_key_at}
use Rattle.sd_spec.proofs.Runs.{new_run}
use Rattle.sd_law_losses.proofs.NextLater.{thing_later, things_later, hears_later, run_later, closed_later}
use Rattle.sd_law_losses.proofs.NextLater.{current_later}
use Rattle.sd_law_losses.proofs.NextLater.{key_later}
use Rattle.sd_law_losses.proofs.Leading.{is_quiet, AreQuiet, closed_led, current_led, key_led}
use Rattle.sd_law_losses.proofs.Agreeing.{Agrees, cat_tuned, cat_unheard, first_run}

-- a thing takes a key of this run, which isn't closed
abbrev pub takes_open : CardFields → List Heard → Heard → Bool
takes_open card run thing = if is_closed run then false else takes_key_of card run thing

-- a section takes a key by the current period and the key that is known
abbrev pub takes_by : CardFields → ℕ → Option (List ℕ) → Emm → Bool
takes_by card now key emm = nat_le now emm.period && (is_none key && not (is_none (key_from card emm)))

-- k packets later the same takes a key
section_later : (k : ℕ) (card : CardFields) (past : List Heard) (emm : Emm) →
    takes_key card (things_later k past) emm ≡ takes_key card past emm
unfolding takes_key
section_later k card past emm =
    ap (λ (now : ℕ). takes_by card now (key_at card (things_later k past) emm.period) emm) (current_later k past)
    ∙ ap (λ (key : Option (List ℕ)). takes_by card (current past) key emm) (key_later k emm.period card past)

-- a thing that is heard k packets later takes a key if it did
thing_taken : (k : ℕ) (card : CardFields) (past : List Heard) (thing : Heard) →
    takes_key_of card (things_later k past) (thing_later k thing) ≡ takes_key_of card past thing
thing_taken k card past Dropped = refl
thing_taken k card past (Entitles emm) = section_later k card past emm
thing_taken k card past (Controls part) = refl
thing_taken k card past (BadEmm fault) = refl
thing_taken k card past (BadEcm fault) = refl
thing_taken k card past (Other n packet) = refl

-- of a run that isn't closed too
pub taken_later : (k : ℕ) (card : CardFields) (past : List Heard) (thing : Heard) →
    takes_open card (things_later k past) (thing_later k thing) ≡ takes_open card past thing
taken_later k card past thing =
    ap (λ (closed : Bool). if closed then false else takes_key_of card (things_later k past) (thing_later k thing))
    (closed_later k past)
    ∙ ap (λ (taken : Bool). if is_closed past then false else taken) (thing_taken k card past thing)

-- after quiet things a section takes a key if it did without them
section_led : (card : CardFields) (past lead : List Heard) (emm : Emm) → AreQuiet lead →
    takes_key card (past ++ lead) emm ≡ takes_key card past emm
unfolding takes_key
section_led card past lead emm quiet =
    ap (λ (now : ℕ). takes_by card now (key_at card (past ++ lead) emm.period) emm) (current_led past lead quiet)
    ∙ ap (λ (key : Option (List ℕ)). takes_by card (current past) key emm) (key_led emm.period card past lead quiet)

-- so does any thing
thing_led : (card : CardFields) (past lead : List Heard) (thing : Heard) → AreQuiet lead →
    takes_key_of card (past ++ lead) thing ≡ takes_key_of card past thing
thing_led card past lead Dropped quiet = refl
thing_led card past lead (Entitles emm) quiet = section_led card past lead emm quiet
thing_led card past lead (Controls part) quiet = refl
thing_led card past lead (BadEmm fault) quiet = refl
thing_led card past lead (BadEcm fault) quiet = refl
thing_led card past lead (Other n packet) quiet = refl

-- quiet things before a run change nothing of which thing takes a key
pub taken_led : (card : CardFields) (past lead : List Heard) (thing : Heard) → AreQuiet lead →
    takes_open card (past ++ lead) thing ≡ takes_open card past thing
taken_led card past lead thing quiet =
    ap (λ (closed : Bool). if closed then false else takes_key_of card (past ++ lead) thing)
    (closed_led past lead quiet)
    ∙ ap (λ (taken : Bool). if is_closed past then false else taken) (thing_led card past lead thing quiet)

-- a quiet thing takes none
quiet_takes : (card : CardFields) (past : List Heard) (thing : Heard) → is_quiet thing ≡ true →
    takes_key_of card past thing ≡ false
quiet_takes card past Dropped quiet = refl
quiet_takes card past (Entitles emm) quiet = absurd (false≢true quiet)
quiet_takes card past (Controls part) quiet = refl
quiet_takes card past (BadEmm fault) quiet = refl
quiet_takes card past (BadEcm fault) quiet = refl
quiet_takes card past (Other n packet) quiet = refl

-- nor in a run
pub none_taken : (card : CardFields) (past : List Heard) (thing : Heard) → is_quiet thing ≡ true →
    takes_open card past thing ≡ false
none_taken card past thing quiet =
    ap (λ (taken : Bool). if is_closed past then false else taken) (quiet_takes card past thing quiet)
    ∙ either (is_closed past)
  where
    either : (closed : Bool) → (if closed then false else false) ≡ false
    either true = refl
    either false = refl

-- a packet after the CAT
pub taken_by : (card : CardFields) (tuning : Tuning) (past : List (List ℕ)) (packet : List ℕ) →
    tuning_of card.ca past ≡ Some tuning →
    takes_key_at card past packet
    ≡ takes_open card (of_run (heard card past) (hears card.height tuning (length past) packet))
    (hears card.height tuning (length past) packet)
unfolding takes_key_at
taken_by card tuning past packet tuned =
    ap (λ (t : Option Tuning). option_map_or
    (λ (tuning : Tuning). takes_key_in card (heard card past) (hears card.height tuning (length past) packet)) t false)
    tuned

-- before it none takes a key
pub untuned_takes : (card : CardFields) (past : List (List ℕ)) (packet : List ℕ) → tuning_of card.ca past ≡ None →
    takes_key_at card past packet ≡ false
unfolding takes_key_at
untuned_takes card past packet none =
    ap (λ (t : Option Tuning). option_map_or
    (λ (tuning : Tuning). takes_key_in card (heard card past) (hears card.height tuning (length past) packet)) t false)
    none

-- a packet within a stream, and at the same place of the piece by itself
pub agrees_taken : (card : CardFields) (tuning : Tuning) (k : ℕ) (past alone : List (List ℕ)) (packet : List ℕ) →
    Agrees card tuning k past alone → takes_key_at card past packet ≡ takes_key_at card alone packet
agrees_taken card tuning k past alone packet agrees =
    let h : ℕ = card.height in
    let n : ℕ = length alone in
    let thing : Heard = hears h tuning n packet in
    taken_by card tuning past packet agrees.tuned
    ∙ (ap (λ (m : ℕ). takes_open card (of_run (heard card past) (hears h tuning m packet)) (hears h tuning m packet))
    agrees.count
    ∙ (ap (λ (hs : List Heard). takes_open card (of_run hs (hears h tuning (k + n) packet))
    (hears h tuning (k + n) packet)) agrees.heard_is
    ∙ (ap (λ (t : Heard). takes_open card (of_run (things_later k (heard card alone)) t) t)
    (hears_later h k n tuning packet)
    ∙ (ap (λ (run : List Heard). takes_open card run (thing_later k thing)) (run_later k (heard card alone) thing)
    ∙ (taken_later k card (of_run (heard card alone) thing) thing
    ∙ sym (taken_by card tuning alone packet agrees.alone_tuned))))))

-- the first message of another run
pub turn_taken : (card : CardFields) (tuning : Tuning) (k : ℕ) (past : List (List ℕ)) (cat packet : List ℕ) →
    tuning_of card.ca past ≡ Some tuning → cat_tuning card.ca cat ≡ Some tuning → length past ≡ k + 1 →
    is_turn (heard card past) (hears card.height tuning (length past) packet) ≡ true →
    takes_key_at card past packet ≡ takes_key_at card (cat ∷ []) packet
turn_taken card tuning k past cat packet tuned is count turns =
    let h : ℕ = card.height in
    let thing : Heard = hears h tuning 1 packet in
    taken_by card tuning past packet tuned
    ∙ (ap (λ (run : List Heard). takes_open card run (hears h tuning (length past) packet))
    (new_run (heard card past) (hears h tuning (length past) packet) turns)
    ∙ (ap (λ (m : ℕ). takes_open card [] (hears h tuning m packet)) count
    ∙ (ap (takes_open card []) (hears_later h k 1 tuning packet)
    ∙ (taken_later k card [] thing
    ∙ sym (taken_by card tuning (cat ∷ []) packet (cat_tuned card tuning cat is)
    ∙ (ap (λ (hs : List Heard). takes_open card (of_run hs thing) thing) (cat_unheard card cat)
    ∙ ap (λ (run : List Heard). takes_open card run thing) (first_run thing)))))))
