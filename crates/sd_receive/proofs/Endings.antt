-- How a stream ends, by what is kept.
use Rattle.std.proofs.Common.{◌≡◌, ℕ, ◌+◌, ◌-◌, List, refl, sym, ap, ◌∙◌, true, false, arith}
use Rattle.std.specs.Prelude.{Option, Some, None, is_none, nat_lt, find}
use Rattle.std.specs.Option.{option_map_or}
use Rattle.std.proofs.lemmas.Bool.{lt-ltb}
use Rattle.sd_message.specs.EcmParts.{Message}
use Rattle.sd_message.specs.declared.ecm_part.Place.{Place}
use Rattle.sd_message.specs.declared.ecm_message.EcmHead.{EcmHead}
use Rattle.sd_site_cards.specs.CardFields.{CardFields}
use Rattle.sd_spec.specs.declared.ending.Ending.{Ending}
use Rattle.sd_spec.specs.declared.ending.Ending.TheVariants.{Opened, Revoked, Unheard, NoCat, Unclosed, Gaps}
use Rattle.sd_spec.specs.Tuned.{tuning_of}
use Rattle.sd_spec.specs.Stretches.{newest_message, is_closed}
use Rattle.sd_spec.specs.Heard.{Heard}
use Rattle.sd_spec.specs.Offered.{heard}
use Rattle.sd_spec.specs.Ending.{periods_told, is_unkeyed, ending_with, run_ending, endings_joined, run_wrote}
use Rattle.sd_spec.specs.Ending.{ended_before, ending_of}
use Rattle.sd_receive.specs.EcmAssembler.{IsMessageKept}
use Rattle.sd_receive.specs.PeriodKeys.{is_told_revoked}
use Rattle.sd_receive.specs.Session.{IsListenerAfter}
use Rattle.sd_receive.specs.Receiving.{receiver_card, HasReceived}
use Rattle.sd_receive.specs.declared.session.Session.{Session}
use Rattle.sd_receive.specs.declared.receiver.Receiver.{Receiver}

tuned_or_not : (r : Receiver) (past : List (List ℕ)) → HasReceived past r →
    is_none (tuning_of r.card.ca past) ≡ is_none r.tuning
tuned_or_not r past after = ap is_none (sym after.tuning)

pub no_cat : (r : Receiver) (past : List (List ℕ)) → HasReceived past r → is_none r.tuning ≡ true →
    NoCat ≡ ending_of (receiver_card r) past
unfolding ending_of
no_cat r past after none = rw (tuned_or_not r past after ∙ none) refl

-- the endings of the runs together
pub all_runs : (r : Receiver) (past : List (List ℕ)) (last : Ending) → HasReceived past r → is_none r.tuning ≡ false →
    last ≡ run_ending (receiver_card r) (heard (receiver_card r) past) (run_wrote (receiver_card r) past) →
    endings_joined r.ended.so_far last ≡ ending_of (receiver_card r) past
unfolding ending_of
all_runs r past last after some is =
    rw (tuned_or_not r past after ∙ some) (ap (λ (e : Ending). endings_joined e last) after.so_far
    ∙ ap (endings_joined (ended_before (receiver_card r) past)) is)

-- what is told of the newest message is told by what is kept of it
number_kept : (message : Option Message) (last : Option EcmHead) (places : List Place) →
    IsMessageKept message last places →
    option_map_or (λ (m : Message). m.number + 1) message 0 ≡ option_map_or (λ (h : EcmHead). h.number + 1) last 0
number_kept message None places kept = ap (λ (o : Option Message). option_map_or (λ (m : Message). m.number + 1) o 0)
    kept.says
number_kept message (Some head) places kept = ap (λ (o : Option Message). option_map_or
    (λ (m : Message). m.number + 1) o 0) kept.says

clear_kept : (message : Option Message) (last : Option EcmHead) (places : List Place) →
    IsMessageKept message last places →
    option_map_or (λ (m : Message). m.clear) message 0 ≡ option_map_or (λ (h : EcmHead). h.clear) last 0
clear_kept message None places kept = ap (λ (o : Option Message). option_map_or (λ (m : Message). m.clear) o 0)
    kept.says
clear_kept message (Some head) places kept = ap (λ (o : Option Message). option_map_or (λ (m : Message). m.clear) o 0)
    kept.says

pub unclosed : (card : CardFields) (past : List Heard) (total : ℕ) (l : Session) → IsListenerAfter card past l →
    l.closed ≡ false →
    Unclosed (option_map_or (λ head. head.number + 1) l.assembler.last 0) ≡ run_ending card past total
unfolding run_ending
unclosed card past total l follows open_yet =
    let there : is_closed past ≡ false = sym follows.closed ∙ open_yet in
    rw there (ap Unclosed (sym (number_kept (newest_message past).message l.assembler.last l.assembler.places.items
    follows.assembler.last)))

-- the ending of a run that was closed
pub closed : (card : CardFields) (past : List Heard) (total : ℕ) (l : Session) → IsListenerAfter card past l →
    l.closed ≡ true →
    ending_with (find (is_told_revoked card past) (periods_told past)) (find (is_unkeyed card past) (periods_told past))
    (option_map_or (λ head. head.clear) l.assembler.last 0 - total)
    ≡ run_ending card past total
unfolding run_ending
closed card past total l follows yes_closed =
    let there : is_closed past ≡ true = sym follows.closed ∙ yes_closed in
    rw there (ap (λ (n : ℕ). ending_with (find (is_told_revoked card past) (periods_told past))
    (find (is_unkeyed card past) (periods_told past)) (n - total))
    (sym (clear_kept (newest_message past).message l.assembler.last l.assembler.places.items follows.assembler.last)))

pub revoked_ending : (first second : Option ℕ) (gaps q : ℕ) → first ≡ Some q → Revoked q ≡ ending_with first second gaps
revoked_ending first second gaps q is = rw is refl

pub unheard_ending : (first second : Option ℕ) (gaps q : ℕ) → first ≡ None → second ≡ Some q →
    Unheard q ≡ ending_with first second gaps
unheard_ending first second gaps q none is = rw (none, is) refl

pub opened_ending : (first second : Option ℕ) (gaps : ℕ) → first ≡ None → second ≡ None → gaps ≡ 0 →
    Opened ≡ ending_with first second gaps
opened_ending first second gaps none also zero_gaps = rw (none, also, zero_gaps) refl

pub gaps_ending : (first second : Option ℕ) (gaps : ℕ) → first ≡ None → second ≡ None → (gaps ≡ 0 → ⊥) →
    Gaps gaps ≡ ending_with first second gaps
gaps_ending first second gaps none also some =
    let more : nat_lt 0 gaps ≡ true = lt-ltb 0 gaps (omega (arith, some)) in rw (none, also, more) refl
