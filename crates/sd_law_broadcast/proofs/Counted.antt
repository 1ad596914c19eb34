-- How many packets a broadcast has.
use Rattle.std.proofs.Common.{◌≡◌, ℕ, suc, ◌+◌, ◌-◌, ◌*◌, ◌/◌, ◌%◌, ◌≤◌, ◌==◌, Bool, true, false, List, [], ◌∷◌, ◌++◌}
use Rattle.std.proofs.Common.{length, map, refl, sym, ap, subst, add-one, arith, inl, inr, length-append, append_assoc}
use Rattle.std.specs.Prelude.{if◌then◌else◌}
use Rattle.std.proofs.lemmas.Bool.{cases_Bool}
use Rattle.std.proofs.lemmas.List.{length-map}
use Rattle.sd_base.proofs.Arithmetic.{times_next}
use Rattle.sd_message.specs.Pieces.{pieces_for}
use Rattle.sd_message.specs.Period.{Period, IsPeriod, emms_of}
use Rattle.sd_message.specs.declared.emm.Emm.{Emm}
use Rattle.sd_message.proofs.EmmSharing.{as_many as sections_many}
use Rattle.sd_message.specs.EcmParts.{Message, IsMessage, parts_of}
use Rattle.sd_message.specs.EcmVersions.{positions_for}
use Rattle.sd_message.proofs.EcmSharing.{as_many as parts_many}
use Rattle.sd_engine.specs.Driving.{most_packets}
use Rattle.sd_spec.specs.Plan.{Plan, IsPlan, crypto_length, period_of, closing_number}
use Rattle.sd_spec.specs.Carried.{carried}
use Rattle.sd_spec.specs.Messages.{period_at, message_at}
use Rattle.sd_spec.specs.Refused.{IsSendable}
use Rattle.sd_spec.specs.Sent.{Item, Entitles, Controls, Carries, tables_at, tables_before, message_before}
use Rattle.sd_spec.specs.Sent.{added}
use Rattle.sd_spec.specs.Sent.{packets_from, sent_from, sent, closing_of, body, broadcast}
use Rattle.sd_spec.proofs.Schedule.{period_short}
use Rattle.sd_law_broadcast.proofs.Clear.{clear_short, prefix_clear}
use Rattle.sd_law_broadcast.proofs.Fitting.{period_fits, message_before_fits, word_low, closing_fits}

-- as many packets as things
packets_many : (plan : Plan) (earlier items : List Item) → length (packets_from plan.site earlier items) ≡ length items
unfolding packets_from
packets_many plan earlier [] = refl
packets_many plan earlier (item ∷ items) = ap suc (packets_many plan (earlier ++ item ∷ []) items)

-- a period's sections are few
sections_few : (period : Period) → IsPeriod period → length (emms_of period) ≤ 43691
unfolding pieces_for
sections_few period is = omega (arith, sections_many period, is.sets)

-- and so are the parts that share its positions
shared_few : (v n : ℕ) → n ≤ 256 → pieces_for (positions_for v) n ≤ 22
unfolding pieces_for positions_for
shared_few v n few = elim (cases_Bool (v == 1)) [
  | inl one ↦ rw one (omega (arith, few))
  | inr later ↦ rw later (omega (arith, few))
]

-- the parts of a message
pub parts_few : (message : Message) → IsMessage message → length (parts_of message) ≤ 22
parts_few message is = omega (arith, parts_many message, shared_few message.version (length message.places) is.count)

message_few : (message : Message) → IsMessage message → length (map Controls (parts_of message)) ≤ 22
message_few message fits = omega (arith, length-map (parts_of message) Controls, parts_few message fits)

message_or_none : (b : Bool) (message : Message) → IsMessage message →
    length (if b then map Controls (parts_of message) else []) ≤ 22
message_or_none true message fits = message_few message fits
message_or_none false message fits = omega arith

-- where the tables before a packet are at most so many
module _ (plan : Plan) (is : IsPlan plan) (most : ℕ) (few : (k : ℕ) → length (tables_at plan k) ≤ most) where
  tables_or_none : (b : Bool) (k : ℕ) → length (if b then tables_at plan k else []) ≤ most
  tables_or_none true k = few k
  tables_or_none false k = omega arith

  -- what one packet adds
  pub added_upto : (before : List (List ℕ)) (packet : List ℕ) → IsSendable plan.site (before ++ packet ∷ []) →
      length (added plan before packet) ≤ most + 23
  unfolding added
  added_upto before packet all =
      let n : ℕ = length before in
      let own : List Item = Carries n (carried plan.site before packet) ∷ [] in
      let more = length-append before (packet ∷ []) in
      let low = word_low plan (before ++ packet ∷ []) n is all (omega (arith, more)) in
      omega (
        arith,
        length-append (tables_before plan n) (message_before plan before ++ own),
        length-append (message_before plan before) own,
        tables_or_none (n % crypto_length plan.site == 0) n,
        message_or_none (n % plan.site.every == 0) (message_at plan before (n / plan.site.every) n false)
            (message_before_fits plan before is (prefix_clear plan.site before (packet ∷ []) all) low),
      )

  -- what packets add after others
  pub sent_upto : (before packets : List (List ℕ)) → IsSendable plan.site (before ++ packets) →
      length (sent_from plan before packets) ≤ length packets * (most + 23)
  unfolding sent_from
  sent_upto before [] all = omega arith
  sent_upto before (packet ∷ packets) all =
      omega (
        arith,
        length-append (added plan before packet) (sent_from plan (before ++ packet ∷ []) packets),
        added_upto before packet (prefix_clear plan.site (before ++ packet ∷ []) packets whole),
        sent_upto (before ++ packet ∷ []) packets whole,
        times,
      )
    where
      whole : IsSendable plan.site ((before ++ packet ∷ []) ++ packets)
      whole = subst (IsSendable plan.site) (sym (append_assoc before (packet ∷ []) packets)) all

      times : suc (length packets) * (most + 23) ≡ length packets * (most + 23) + (most + 23)
      times = rw (add-one (length packets)) at (times_next (length packets) (most + 23))

module _ (plan : Plan) (is : IsPlan plan) where
  -- the tables of a packet
  tables_few : (k : ℕ) → length (tables_at plan k) ≤ 43692
  unfolding tables_at
  tables_few k =
      let q : ℕ = period_of plan k in
      let emms : List Emm = emms_of (period_at plan q) in
      omega (
        arith,
        length-map emms Entitles,
        sections_few (period_at plan q) (period_fits plan q is (period_short plan k is)),
      )

  -- the closing message
  closing_few : (clear : List (List ℕ)) → IsSendable plan.site clear → length (closing_of plan clear) ≤ 65536
  unfolding closing_of
  closing_few clear all =
      let message : Message =
      message_at plan clear (closing_number plan.site (length clear)) (length clear - 1) true in
      omega (
        arith,
        length-append (if length clear == 0 then tables_at plan 0 else []) (map Controls (parts_of message)),
        tables_or_none plan is 43692 tables_few (length clear == 0) 0,
        message_few message (closing_fits plan clear is all),
      )

  -- no more than a stream may have
  pub broadcast_short : (clear : List (List ℕ)) → IsSendable plan.site clear →
      length (broadcast plan clear) ≤ most_packets
  unfolding broadcast
  broadcast_short clear all =
      omega (
        arith,
        packets_many plan [] (sent plan clear ++ closing_of plan clear),
        length-append (sent plan clear) (closing_of plan clear),
        sent_upto plan is 43692 tables_few [] clear all,
        closing_few clear all,
        clear_short plan.site clear all,
      )

  pub body_short : (clear : List (List ℕ)) → IsSendable plan.site clear → length (body plan clear) ≤ most_packets
  unfolding body
  body_short clear all =
      omega (
        arith,
        packets_many plan [] (sent plan clear),
        sent_upto plan is 43692 tables_few [] clear all,
        clear_short plan.site clear all,
      )
