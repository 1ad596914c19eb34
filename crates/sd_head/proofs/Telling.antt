-- What a control message says.
use Rattle.std.proofs.Common.{◌≡◌, ℕ, zero, suc, ◌-◌, ◌*◌, ◌/◌, ◌<◌, refl, ap, ◌∙◌, arith, subst}
use Rattle.std.proofs.Common.{◌≤◌, ◌^◌, ◌%◌, ◌==◌, Bool, true, false, List, length, inl, inr}
use Rattle.std.specs.Prelude.{Option, Some, None, if◌then◌else◌}
use Rattle.sd_site_cards.specs.Forms.{IsWithin, messages_line}
use Rattle.sd_site_cards.specs.SiteFields.{SiteFields}
use Rattle.sd_message.specs.declared.ecm_message.EcmHead.{EcmHead}
use Rattle.sd_message.specs.declared.ecm_part.Place.{Place}
use Rattle.sd_head.proofs.Placing.{positioned, ascending, short}
use Rattle.sd_spec.specs.Messages.{places_after}
use Rattle.sd_head.specs.declared.crypto.CryptoPeriod.{CryptoPeriod}
use Rattle.sd_head.specs.Messages.{head_of_ecm, message_due, number_due}
use Rattle.std.specs.List.{concat}
use Rattle.std.proofs.Common.{Vec, Global}
use Rattle.sd_message.specs.EcmParts.{message_of, parts_of}
use Rattle.sd_head.specs.Sending.{with_counters, packed_part}
use Rattle.sd_head.specs.Items.{MayBeSent, message_bytes}
use Rattle.sd_head.specs.declared.sender.Sender.{Sender}
use Rattle.sd_message.specs.EcmVersions.{IsSince, IsBeforeMessage, most_places}
use Rattle.sd_spec.specs.Plan.{since_of}
use Rattle.sd_spec.proofs.Schedule.{since_is_below}
use Rattle.sd_spec.proofs.Naming.{version_is, named_is}

-- message 0 has no message before it
pub since_first : (version cryptos number : ℕ) → number ≡ 0 → since_of version cryptos number ≡ 0
since_first version cryptos zero h = refl
since_first version cryptos (suc b) h = absurd (omega (arith, h))

-- in versions 2 and 3 its control word goes back to the first message of the crypto period of the one before
pub since_later : (version cryptos number : ℕ) → 1 < version → 0 < number →
    since_of version cryptos number ≡ (number - 1) / cryptos * cryptos
since_later version cryptos zero later some = absurd (omega (arith, some))
since_later zero cryptos (suc b) later some = absurd (omega (arith, later))
since_later (suc zero) cryptos (suc b) later some = absurd (omega (arith, later))
since_later (suc (suc v)) cryptos (suc b) later some = let back : suc b - 1 ≡ b = omega arith in rw back refl

-- in version 1 it is the one before
pub since_one : (version cryptos number : ℕ) → version ≤ 1 → 0 < number → since_of version cryptos number ≡ number - 1
since_one version cryptos zero first some = absurd (omega (arith, some))
since_one zero cryptos (suc b) first some = omega arith
since_one (suc zero) cryptos (suc b) first some = omega arith
since_one (suc (suc v)) cryptos (suc b) first some = absurd (omega (arith, first))

-- messages say since which message their control word holds
pub since_fits : (version cryptos number : ℕ) → IsSince version number (since_of version cryptos number)
since_fits version cryptos number = record { before = before number; fixed = fixed version number }
  where
    before : (number : ℕ) → IsBeforeMessage (since_of version cryptos number) number
    before zero = inr (refl, refl)
    before (suc b) = inl (since_is_below version cryptos (suc b) (omega arith))

    fixed : (version number : ℕ) → version ≡ 1 → since_of version cryptos number ≡ number - 1
    fixed version zero is = refl
    fixed zero (suc b) is = absurd (omega (arith, is))
    fixed (suc zero) (suc b) is = omega arith
    fixed (suc (suc v)) (suc b) is = absurd (omega (arith, is))

-- the message with the positions after these packets may be sent
pub may_be_sent : (site : SiteFields) (crypto : CryptoPeriod) (clear number : ℕ) (closing : Bool) (head : EcmHead)
    (places : List Place)
    (before : List (List ℕ)) → head ≡ head_of_ecm site crypto clear number closing →
    IsWithin messages_line site.messages →
    places ≡ places_after before → length before < 2 ^ 32 → length places ≤ most_places → MayBeSent head places
unfolding head_of_ecm
may_be_sent site crypto clear number closing head places before is range are counted few = rw is (rw are (record {
  version = version_is site.messages range;
  named = named_is site;
  since = since_fits site.messages site.cryptos number;
  few = subst (λ (ps : List Place). length ps ≤ most_places) are few;
  positioned = positioned before;
  ascending = ascending before;
  short = short before counted;
}))

-- no message stands before the next packet
pub none_due : (site : SiteFields) (crypto : CryptoPeriod) (count : ℕ) → None ≡ number_due site count →
    None ≡ message_due site crypto count
unfolding number_due message_due
none_due site crypto count none = by_test (count % site.every == 0) none
  where
    by_test : (b : Bool) → None ≡ (if b then Some (count / site.every) else None) →
        None ≡ (if b then Some (head_of_ecm site crypto count (count / site.every) false) else None)
    by_test true none = absurd cc
    by_test false none = refl

-- one does
pub some_due : (site : SiteFields) (crypto : CryptoPeriod) (count number : ℕ) (head : EcmHead) →
    Some number ≡ number_due site count → head ≡ head_of_ecm site crypto count number false →
    Some head ≡ message_due site crypto count
unfolding number_due message_due
some_due site crypto count number head some says = by_test (count % site.every == 0) some
  where
    by_test : (b : Bool) → Some number ≡ (if b then Some (count / site.every) else None) →
        Some head ≡ (if b then Some (head_of_ecm site crypto count (count / site.every) false) else None)
    by_test true some =
        let same : number ≡ count / site.every = cc in
        ap (λ (h : EcmHead). Some h) (says ∙ ap (λ (n : ℕ). head_of_ecm site crypto count n false) same)
    by_test false some = absurd cc

-- a message's bytes are of its counter and positions alone
pub same_message : (pid : ℕ) (old new : Sender) (message : Option EcmHead) → new.ecms ≡ old.ecms →
    new.places ≡ old.places →
    message_bytes pid new message ≡ message_bytes pid old message
same_message pid old new None ecms places = refl
same_message pid old new (Some head) ecms places =
    ap (λ (c : ℕ). concat (with_counters (packed_part pid) c (parts_of (message_of head new.places.items)))) ecms
    ∙ ap (λ (ps : Vec Place Global). concat
    (with_counters (packed_part pid) old.ecms (parts_of (message_of head ps.items)))) places
