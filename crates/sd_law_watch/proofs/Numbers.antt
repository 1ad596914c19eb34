-- Whether a packet is refused doesn't depend on its number.
use Rattle.std.proofs.Common.{◌≡◌, refl, ℕ, ◌+◌, Bool, true, false, List, length, Option, Some, None, is_none}
use Rattle.std.proofs.Common.{bytes_eq, ap, ◌∙◌, arith}
use Rattle.std.specs.Prelude.{if◌then◌else◌, nat_lt}
use Rattle.std.specs.Option.{option_map_or}
use Rattle.sd_tree_keys.specs.Keys.{check_value_of}
use Rattle.sd_cipher.specs.Wrapping.{wrapped as under}
use Rattle.sd_psi.specs.declared.our_cat.Tuning.{Tuning}
use Rattle.sd_site_cards.specs.CardFields.{CardFields}
use Rattle.sd_message.specs.EcmParts.{Message}
use Rattle.sd_message.specs.declared.emm.Emm.{Emm}
use Rattle.sd_message.specs.declared.emm_fault.EmmFault.TheVariants as Emms
use Rattle.sd_message.specs.declared.ecm_fault.EcmFault.{EcmFault}
use Rattle.sd_message.specs.declared.ecm_fault.EcmFault.TheVariants as Ecms
use Rattle.sd_message.specs.declared.stream_fault.StreamFault.{StreamFault}
use Rattle.sd_message.specs.declared.stream_fault.StreamFault.TheVariants as Fault
use Rattle.sd_spec.specs.Tuned.{tuning_of}
use Rattle.sd_spec.specs.Heard.{Heard, Dropped, Entitles, Controls, BadEmm, BadEcm, Other, hears}
use Rattle.sd_spec.specs.Stretches.{newest_message, completes, is_closed, message_parts_to, current, sections_seen}
use Rattle.sd_spec.specs.Runs.{is_turn, of_run}
use Rattle.sd_spec.specs.Keys.{key_from, key_at}
use Rattle.sd_spec.specs.Confirmed.{WrittenPackets}
use Rattle.sd_spec.specs.Offered.{heard, Offering, offered, tuned_offering, run_offering, heard_offering, emm_offering}
use Rattle.sd_spec.specs.Offered.{key_offering, key_if_none, part_offering, part_fault, message_offering}
use Rattle.sd_spec.specs.Offered.{stretch_wrote, word_fault, wrote_or, is_back, is_mixed, no_offering, refused_offering}
use Rattle.sd_law_losses.proofs.NextLater.{thing_later, hears_later}

-- two results: both are refused, or none is
abbrev pub AreAlike : Offering → Offering → Type 0
AreAlike a b = is_none a.fault ≡ is_none b.fault

alike_if : (test : Bool) (a b c d : Offering) → AreAlike a c → AreAlike b d →
    AreAlike (if test then a else b) (if test then c else d)
alike_if true a b c d first second = first
alike_if false a b c d first second = second

alike_key : (n m : ℕ) (emm : Emm) (key : Option (List ℕ)) → AreAlike (key_offering n emm key) (key_offering m emm key)
alike_key n m emm None = refl
alike_key n m emm (Some key) =
    alike_if (bytes_eq (check_value_of key) emm.check)
    no_offering (refused_offering (Fault.WrongKey n emm.period (check_value_of key) emm.check))
    no_offering (refused_offering (Fault.WrongKey m emm.period (check_value_of key) emm.check)) refl refl

alike_known : (n m : ℕ) (emm : Emm) (known found : Option (List ℕ)) →
    AreAlike (key_if_none n emm known found) (key_if_none m emm known found)
alike_known n m emm (Some key) found = refl
alike_known n m emm None found = alike_key n m emm found

alike_emm : (card : CardFields) (n m : ℕ) (past : List Heard) (emm : Emm) →
    AreAlike (emm_offering card n past emm) (emm_offering card m past emm)
unfolding emm_offering
alike_emm card n m past emm =
    let known : ℕ → Offering = λ k. key_if_none k emm (key_at card past emm.period) (key_from card emm) in
    let mixed : ℕ → Offering = λ k. refused_offering (Fault.BadEmm k Emms.Mixed) in
    alike_if (nat_lt emm.period (current past)) no_offering
    (if is_mixed (sections_seen emm.period past) emm then mixed n else known n) no_offering
    (if is_mixed (sections_seen emm.period past) emm then mixed m else known m) refl
    (alike_if (is_mixed (sections_seen emm.period past) emm) (mixed n) (known n) (mixed m) (known m) refl
    (alike_known n m emm (key_at card past emm.period) (key_from card emm)))

alike_word : (n m : ℕ) (b : Message) (key : Option (List ℕ)) →
    is_none (word_fault n b key) ≡ is_none (word_fault m b key)
alike_word n m b None = refl
alike_word n m b (Some key) =
    by_test (bytes_eq (check_value_of (under key b.word b.wrapped)) b.check)
    (Fault.WrongWord n b.word (check_value_of (under key b.word b.wrapped)) b.check)
    (Fault.WrongWord m b.word (check_value_of (under key b.word b.wrapped)) b.check)
  where
    by_test : (test : Bool) (a c : StreamFault) →
        is_none (if test then None else Some a) ≡ is_none (if test then None else Some c)
    by_test true a c = refl
    by_test false a c = refl

alike_wrote : (wrote : WrittenPackets) (a b : Option StreamFault) → is_none a ≡ is_none b →
    AreAlike (wrote_or wrote a) (wrote_or wrote b)
alike_wrote wrote a b same = by_refused wrote.refused
  where
    by_refused : (refused : Option ℕ) →
        is_none (option_map_or (λ n. Some (Fault.Parity n)) refused a)
        ≡ is_none (option_map_or (λ n. Some (Fault.Parity n)) refused b)
    by_refused None = same
    by_refused (Some n) = refl

alike_message : (card : CardFields) (tuning : Tuning) (n m : ℕ) (past : List Heard) (message : Option Message) →
    AreAlike (message_offering card tuning n past message) (message_offering card tuning m past message)
alike_message card tuning n m past None = refl
alike_message card tuning n m past (Some b) =
    let wrote : WrittenPackets = stretch_wrote card tuning (newest_message past) (newest_message past).message b in
    let fault : ℕ → Option StreamFault = λ k. word_fault k b (key_at card past b.period) in
    alike_if (is_back past b) (refused_offering (Fault.BadEcm n Ecms.Back)) (wrote_or wrote (fault n))
    (refused_offering (Fault.BadEcm m Ecms.Back)) (wrote_or wrote (fault m)) refl
    (alike_wrote wrote (fault n) (fault m) (alike_word n m b (key_at card past b.period)))

alike_part : (n m : ℕ) (fault : Option EcmFault) (a b : Offering) → AreAlike a b →
    AreAlike (part_offering n fault a) (part_offering m fault b)
alike_part n m None a b same = same
alike_part n m (Some fault) a b same = refl

alike_heard : (card : CardFields) (tuning : Tuning) (n m : ℕ) (past : List Heard) (thing : Heard) →
    AreAlike (heard_offering card tuning n past (thing_later n thing)) (heard_offering card tuning m past
    (thing_later m thing))
alike_heard card tuning n m past Dropped = refl
alike_heard card tuning n m past (Entitles emm) = alike_emm card n m past emm
alike_heard card tuning n m past (Controls part) =
    alike_part n m (part_fault (message_parts_to (newest_message past) part))
    (message_offering card tuning n past (completes past (Controls part)))
    (message_offering card tuning m past (completes past (Controls part)))
    (alike_message card tuning n m past (completes past (Controls part)))
alike_heard card tuning n m past (BadEmm fault) = refl
alike_heard card tuning n m past (BadEcm fault) = refl
alike_heard card tuning n m past (Other k packet) = refl

same_turn : (n : ℕ) (past : List Heard) (thing : Heard) → of_run past (thing_later n thing) ≡ of_run past thing
unfolding of_run is_turn
same_turn n past Dropped = refl
same_turn n past (Entitles emm) = refl
same_turn n past (Controls part) = refl
same_turn n past (BadEmm fault) = refl
same_turn n past (BadEcm fault) = refl
same_turn n past (Other k packet) = refl

alike_run : (card : CardFields) (tuning : Tuning) (n m : ℕ) (past : List Heard) (thing : Heard) →
    AreAlike (run_offering card tuning n past (thing_later n thing))
    (run_offering card tuning m past (thing_later m thing))
alike_run card tuning n m past thing =
    rw (same_turn n past thing) (rw (same_turn m past thing)
    (alike_if (is_closed (of_run past thing)) no_offering
    (heard_offering card tuning n (of_run past thing) (thing_later n thing)) no_offering
    (heard_offering card tuning m (of_run past thing) (thing_later m thing)) refl
    (alike_heard card tuning n m (of_run past thing) thing)))

pub hears_at : (h n : ℕ) (tuning : Tuning) (packet : List ℕ) →
    hears h tuning n packet ≡ thing_later n (hears h tuning 0 packet)
hears_at h n tuning packet =
    let more : n ≡ n + 0 = omega arith in
    ap (λ (m : ℕ). hears h tuning m packet) more ∙ hears_later h n 0 tuning packet

alike_tuned : (card : CardFields) (tuned : Option Tuning) (n m : ℕ) (past : List Heard) (packet : List ℕ) →
    AreAlike (tuned_offering card tuned n past packet) (tuned_offering card tuned m past packet)
alike_tuned card None n m past packet = refl
alike_tuned card (Some tuning) n m past packet =
    rw (hears_at card.height n tuning packet) (rw (hears_at card.height m tuning packet)
    (alike_run card tuning n m past (hears card.height tuning 0 packet)))

-- of a packet with any number
pub refused_alike : (card : CardFields) (n : ℕ) (past : List (List ℕ)) (packet : List ℕ) →
    is_none (tuned_offering card (tuning_of card.ca past) n (heard card past) packet).fault
    ≡ is_none (offered card past packet).fault
unfolding offered
refused_alike card n past packet =
    alike_tuned card (tuning_of card.ca past) n (length past) (heard card past) packet
