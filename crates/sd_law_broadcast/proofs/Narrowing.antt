-- What is sent doesn't depend on the last control word that may be used.
use Rattle.std.proofs.Common.{◌≡◌, ℕ, ◌+◌, ◌-◌, ◌/◌, ◌<◌, ◌≤◌, ◌==◌, Bool, true, false, not, List, [], ◌∷◌, ◌++◌}
use Rattle.std.proofs.Common.{length}
use Rattle.std.proofs.Common.{Option, None, refl, ap, arith, length-append}
use Rattle.std.proofs.lemmas.Bool.Decides.{nat_tests}
use Rattle.sd_base.proofs.Lists.{both_none}
use Rattle.sd_packet.specs.Header.{scrambling_of}
use Rattle.sd_site_cards.specs.SiteFields.{SiteFields, run_name_of}
use Rattle.sd_spec.specs.Plan.{Plan, sets_at, crypto_of, word_of, period_in, period_of, closing_number}
use Rattle.sd_spec.specs.Kinds.{kind_of}
use Rattle.sd_spec.specs.Carried.{pmt_carried, packet_under_word, carried_as, carried}
use Rattle.sd_spec.specs.Messages.{entry_of, period_at, message_at}
use Rattle.sd_spec.specs.Refused.{fault_where, is_full_own, is_used_up}
use Rattle.sd_spec.specs.Refused.{unsent_at, unsent_from, IsSendable}
use Rattle.sd_spec.specs.Sent.{Item, Cat, Entitles, Controls, Carries, tables_at, added, sent, sent_from}
use Rattle.sd_spec.specs.Sent.{closing_of}
use Rattle.sd_spec.specs.Sent.{item_packet, packets_from, broadcast}
use Rattle.sd_message.specs.declared.clear_fault.ClearFault.{ClearFault}
use Rattle.sd_spec.specs.declared.kind.Kind.{Kind}
use Rattle.sd_spec.specs.declared.kind.Kind.TheVariants.{Passed, Pmt, Scrambled}
use Rattle.sd_law_broadcast.specs.Accepted.{IsAccepted}
use Rattle.sd_law_broadcast.specs.Narrowed.{up_to, plan_up_to}
use Rattle.sd_law_broadcast.proofs.Clear.{none_then, accepted}

-- a packet's control word is the same
word_same : (x : ℕ) (site : SiteFields) (k : ℕ) → word_of (up_to x site) k ≡ word_of site k
unfolding word_of crypto_of
word_same x site k = refl

-- a packet is carried as it was
carried_same : (x : ℕ) (site : SiteFields) (before : List (List ℕ)) (packet : List ℕ) →
    carried (up_to x site) before packet ≡ carried site before packet
unfolding carried pmt_carried packet_under_word word_of crypto_of
carried_same x site before packet = by_kind (kind_of before packet)
  where
    by_kind : (kind : Kind) → carried_as kind (up_to x site) before packet ≡ carried_as kind site before packet
    by_kind Passed = refl
    by_kind Pmt = refl
    by_kind Scrambled = refl

-- and so are the tables and the messages
tables_same : (x : ℕ) (plan : Plan) (k : ℕ) → tables_at (plan_up_to x plan) k ≡ tables_at plan k
unfolding tables_at period_at entry_of sets_at period_of period_in crypto_of run_name_of
tables_same x plan k = refl

message_same : (x : ℕ) (plan : Plan) (before : List (List ℕ)) (a k : ℕ) (closing : Bool) →
    message_at (plan_up_to x plan) before a k closing ≡ message_at plan before a k closing
unfolding message_at word_of period_of period_in crypto_of run_name_of
message_same x plan before a k closing = refl

-- so each packet adds what it did
added_same : (x : ℕ) (plan : Plan) (before : List (List ℕ)) (packet : List ℕ) →
    added (plan_up_to x plan) before packet ≡ added plan before packet
unfolding added
added_same x plan before packet =
    let n : ℕ = length before in
    rw (
      tables_same x plan n,
      message_same x plan before (n / plan.site.every) n false,
      carried_same x plan.site before packet,
    ) refl

sent_same : (x : ℕ) (plan : Plan) (before packets : List (List ℕ)) →
    sent_from (plan_up_to x plan) before packets ≡ sent_from plan before packets
unfolding sent_from
sent_same x plan before [] = refl
sent_same x plan before (packet ∷ packets) =
    rw (added_same x plan before packet) (ap (λ (rest : List Item). added plan before packet ++ rest)
    (sent_same x plan (before ++ packet ∷ []) packets))

closing_same : (x : ℕ) (plan : Plan) (clear : List (List ℕ)) →
    closing_of (plan_up_to x plan) clear ≡ closing_of plan clear
unfolding closing_of
closing_same x plan clear =
    rw (
      tables_same x plan 0,
      message_same x plan clear (closing_number plan.site (length clear)) (length clear - 1) true,
    ) refl

-- and its bytes are the same
packet_same : (x : ℕ) (site : SiteFields) (earlier : List Item) (item : Item) →
    item_packet (up_to x site) earlier item ≡ item_packet site earlier item
packet_same x site earlier Cat = refl
packet_same x site earlier (Entitles emm) = refl
packet_same x site earlier (Controls part) = refl
packet_same x site earlier (Carries k packet) = refl

packets_same : (x : ℕ) (site : SiteFields) (earlier items : List Item) →
    packets_from (up_to x site) earlier items ≡ packets_from site earlier items
unfolding packets_from
packets_same x site earlier [] = refl
packets_same x site earlier (item ∷ items) =
    rw (packet_same x site earlier item) (ap (λ (rest : List (List ℕ)). item_packet site earlier item ∷ rest)
    (packets_same x site (earlier ++ item ∷ []) items))

pub broadcast_same : (plan : Plan) (clear : List (List ℕ)) (x : ℕ) →
    broadcast (plan_up_to x plan) clear ≡ broadcast plan clear
unfolding broadcast
broadcast_same plan clear x =
    rw (sent_same x plan [] clear, closing_same x plan clear) (packets_same x plan.site [] (sent plan clear
    ++ closing_of plan clear))

-- a rule that isn't broken passes to the next
passed : (b : Bool) (fault : ClearFault) (next : Option ClearFault) → b ≡ false → next ≡ None →
    fault_where b fault next ≡ None
passed true fault next good rest = absurd (cc good)
passed false fault next good rest = rest

-- a packet that breaks no rule but that on PATs can be sent
pub can_be_sent : (site : SiteFields) (before : List (List ℕ)) (packet : List ℕ) → IsAccepted site before packet →
    unsent_at site before (length before) packet ≡ None
unfolding unsent_at
can_be_sent site before packet is =
    let clear = is.clear in
    let other = is.short in
    let word = is.word in
    let unscrambled : not (scrambling_of packet == 0) ≡ false = grind (arith, nat_tests, clear) in
    let short : is_used_up site (length before) ≡ false = grind (arith, nat_tests, other, word) in
    passed _ _ _ unscrambled (passed _ _ _ is.untaken (passed _ _ _ is.own
    (passed _ _ _ is.room (passed _ _ _ short refl))))

-- nor is it where its word may be used
narrowed_one : (x : ℕ) (site : SiteFields) (before : List (List ℕ)) (packet : List ℕ) → IsAccepted site before packet →
    word_of site (length before) ≤ x → IsAccepted (up_to x site) before packet
narrowed_one x site before packet is few = record {
  clear = is.clear;
  untaken = is.untaken;
  own = by_kind (kind_of before packet) is.own;
  room = is.room;
  short = is.short;
  word = rw (word_same x site (length before)) few;
}
  where
    by_kind : (kind : Kind) → is_full_own site kind packet ≡ false → is_full_own (up_to x site) kind packet ≡ false
    by_kind Passed own = own
    by_kind Pmt own = own
    by_kind Scrambled own = own

narrowed_from : (x : ℕ) (site : SiteFields) (before packets : List (List ℕ)) →
    unsent_from site before packets ≡ None →
    ((k : ℕ) → length before ≤ k → k < length before + length packets → word_of site k ≤ x) →
    unsent_from (up_to x site) before packets ≡ None
unfolding unsent_from
narrowed_from x site before [] h few = refl
narrowed_from x site before (packet ∷ packets) h few =
    let parts = both_none (unsent_at site before (length before) packet)
    (unsent_from site (before ++ packet ∷ []) packets) h in
    let long = length-append before (packet ∷ []) in
    let one = narrowed_one x site before packet (accepted site before packet parts.0)
    (few (length before) (omega arith) (omega arith)) in
    none_then (unsent_at (up_to x site) before (length before) packet)
    (unsent_from (up_to x site) (before ++ packet ∷ []) packets)
    (can_be_sent (up_to x site) before packet one)
    (narrowed_from x site (before ++ packet ∷ []) packets parts.1
    (λ k low high. few k (omega (arith, low, long)) (omega (arith, high, long))))

-- a clear stream that can be sent and whose words are no greater can be sent with that last word
pub clear_narrowed : (site : SiteFields) (clear : List (List ℕ)) (x : ℕ) → IsSendable site clear →
    ((k : ℕ) → k < length clear → word_of site k ≤ x) → IsSendable (up_to x site) clear
clear_narrowed site clear x h few =
    narrowed_from x site [] clear h (λ k low high. few k (omega (arith, high)))
