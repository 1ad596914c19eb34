-- What receivers write, at whatever moments of whatever fields.
use Rattle.std.proofs.Common.{arith, ◌≡◌, ℕ, ◌<◌, ◌≤◌, ◌^◌, true, List, [], ◌∷◌, ◌++◌, refl, sym, ap}
use Rattle.std.proofs.Common.{subst, ◌∙◌, length, get_or, take, take_all, drop, reverse}
use Rattle.std.specs.Prelude.{All, Some, slice_get}
use Rattle.std.proofs.lemmas.List.{length-map, length-take, reverse-append, take-append-drop, take-take}
use Rattle.std.proofs.lemmas.List.Elements.{All-head, All-tail, All-take}
use Rattle.std.proofs.Math.Seq.{get_or-take}
use Rattle.sd_site_cards.specs.SiteFields.{SiteFields}
use Rattle.sd_site_cards.specs.CardFields.{site_card}
use Rattle.sd_spec.specs.Refused.{IsClear}
use Rattle.sd_law_broadcast.specs.Packets.{IsWholePacket}
use Rattle.sd_law_broadcast.specs.Synced.{IsSynced}
use Rattle.sd_field.proofs.Refused.{refused_in_front}
use Rattle.sd_law_losses.specs.Confirmed.{packet_at, packets_at}
use Rattle.sd_law_losses.proofs.Losses.{all_second}
use Rattle.sd_spec.specs.declared.event.Event.{Event}
use Rattle.sd_spec.specs.Events.{is_of}
use Rattle.sd_spec.specs.Book.{sends, plan_after}
use Rattle.sd_spec.proofs.Sends.{sends_rise}
use Rattle.sd_spec.proofs.Offers.{written_stays_later}
use Rattle.sd_law_field.specs.Fielded.{IsGoodField, confirmed_places, plan_for, sent_for, wrote_by, wrote_for}
use Rattle.sd_law_field.proofs.Written.{written_for, written_is_confirmed}
use Rattle.sd_law_field.proofs.Fielded.{confirmed_sent, plan_is}

-- each packet that is written has a number
pub each_has_a_number : (site : SiteFields) (clear : List (List ℕ)) (events : List Event) (u : ℕ) →
    IsGoodField site clear events → u < 2 ^ site.height →
    length (wrote_for site clear events u) ≡ length (confirmed_places site clear events u)
each_has_a_number site clear events u good leaf =
    ap length (written_is_confirmed (plan_for site clear events) clear u (reverse events)
    (plan_is site clear events good) good.sent good.whole good.synced leaf)
    ∙ length-map (confirmed_places site clear events u) (packet_at (sent_for clear events))

-- and is the clear packet of that number
pub each_is_clear : (site : SiteFields) (clear : List (List ℕ)) (events : List Event) (u i j : ℕ) →
    IsGoodField site clear events → u < 2 ^ site.height →
    slice_get (confirmed_places site clear events u) i ≡ Some j →
    slice_get (wrote_for site clear events u) i ≡ Some (get_or clear j [])
each_is_clear site clear events u i j good leaf at =
    written_for (plan_for site clear events) clear u i j (reverse events) (plan_is site clear events good) good.sent
    good.whole good.synced leaf at

-- so for one number all write the same
pub all_write_the_same : (site other : SiteFields) (clear : List (List ℕ)) (events more : List Event)
    (u v i k j : ℕ) → IsGoodField site clear events → IsGoodField other clear more → u < 2 ^ site.height →
    v < 2 ^ other.height → slice_get (confirmed_places site clear events u) i ≡ Some j →
    slice_get (confirmed_places other clear more v) k ≡ Some j →
    slice_get (wrote_for site clear events u) i ≡ slice_get (wrote_for other clear more v) k
all_write_the_same site other clear events more u v i k j good fine leaf there at same =
    each_is_clear site clear events u i j good leaf at ∙ sym (each_is_clear other clear more v k j fine there same)

-- what is at places of the first packets is what is there of all
of_all : (n : ℕ) (clear : List (List ℕ)) (places : List ℕ) → All (λ j. j < length (take n clear)) places →
    packets_at (take n clear) places ≡ packets_at clear places
of_all n clear [] below = refl
of_all n clear (j ∷ places) below =
    let here = All-head (λ i. i < length (take n clear)) j places below in
    let long = length-take n clear in
    rw (get_or-take n clear j [] (omega (arith, here, long)))
    (ap (λ (rest : List (List ℕ)). get_or clear j [] ∷ rest)
    (of_all n clear places (All-tail (λ i. i < length (take n clear)) j places below)))

-- what is written are the confirmed clear packets
pub clear_are_written : (site : SiteFields) (clear : List (List ℕ)) (events : List Event) (u : ℕ) →
    IsGoodField site clear events → u < 2 ^ site.height →
    wrote_for site clear events u ≡ packets_at clear (confirmed_places site clear events u)
clear_are_written site clear events u good leaf =
    written_is_confirmed (plan_for site clear events) clear u (reverse events) (plan_is site clear events good)
    good.sent good.whole good.synced leaf
    ∙ of_all (sends (length clear) (reverse events)) clear (confirmed_places site clear events u)
    (confirmed_sent site clear events u good leaf)

-- The first events of a field.

parted : (n : ℕ) (events : List Event) → reverse (drop n events) ++ reverse (take n events) ≡ reverse events
parted n events =
    sym (reverse-append (take n events) (drop n events)) ∙ ap reverse (take-append-drop n events)

-- they send the first of the clear packets that all send
fewer_sent : (n : ℕ) (clear : List (List ℕ)) (events : List Event) →
    sends (length clear) (reverse (take n events)) ≤ sends (length clear) (reverse events)
fewer_sent n clear events =
    let more = sends_rise (length clear) (reverse (drop n events)) (reverse (take n events)) in
    subst (λ (past : List Event). sends (length clear) (reverse (take n events)) ≤ sends (length clear) past)
    (parted n events) more

first_sent : (n : ℕ) (clear : List (List ℕ)) (events : List Event) →
    sent_for clear (take n events)
    ≡ take (sends (length clear) (reverse (take n events))) (sent_for clear events)
first_sent n clear events =
    sym (take-take (sends (length clear) (reverse (take n events))) (sends (length clear) (reverse events)) clear
    (fewer_sent n clear events))

-- the first packets of a clear stream are one
first_clear : (site : SiteFields) (clear : List (List ℕ)) (k : ℕ) → IsClear site clear → IsClear site (take k clear)
first_clear site clear k all =
    let whole = subst (IsClear site) (sym (take_all (length clear) clear (omega arith))) all in
    let each = (refused_in_front site clear (length clear)).0 whole in
    (refused_in_front site clear k).1 (λ j low within. each j within within)

pub first_are_good : (site : SiteFields) (clear : List (List ℕ)) (events : List Event) (n : ℕ) →
    IsGoodField site clear events → IsGoodField site clear (take n events)
first_are_good site clear events n good =
    let k : ℕ = sends (length clear) (reverse (take n events)) in
    let same = sym (first_sent n clear events) in record {
      range = good.range;
      system = good.system;
      low = good.low;
      few = let long = length-take n events in let few = good.few in omega (arith, long, few);
      leaves =
          all_second (λ event. is_of site.height event ≡ true) (reverse (drop n events)) (reverse (take n events))
          (subst (All (λ event. is_of site.height event ≡ true)) (sym (parted n events)) good.leaves);
      whole = subst (All IsWholePacket) same (All-take IsWholePacket k (sent_for clear events) good.whole);
      synced = subst (All IsSynced) same (All-take IsSynced k (sent_for clear events) good.synced);
      sent = subst (IsClear site) same (first_clear site (sent_for clear events) k good.sent);
    }

-- what they write is the same by the book of all events
pub book_is_one : (site : SiteFields) (clear : List (List ℕ)) (events : List Event) (u n : ℕ) →
    IsGoodField site clear events →
    wrote_by (plan_for site clear events) clear (take n events) u ≡ wrote_for site clear (take n events) u
book_is_one site clear events u n good =
    subst (λ (past : List Event). wrote_by (plan_after site (length clear) past) clear (take n events) u
    ≡ wrote_for site clear (take n events) u) (parted n events)
    (written_stays_later site (reverse (drop n events)) (reverse (take n events))
    (site_card site u) clear u good.range)
