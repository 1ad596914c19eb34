-- What `receive` makes of a stream, and of a broadcast.
use Rattle.std.proofs.Common.{◌≡◌, ℕ, ◌+◌, ◌*◌, ◌^◌, ◌<◌, ◌≤◌, cond, List, [], length, reverse, Option}
use Rattle.std.proofs.Common.{Some, None, Ok, Err, refl, ap, ◌∙◌, le-ltb, arith}
use Rattle.std.specs.List.{concat}
use Rattle.sd_site_cards.specs.CardFields.{CardFields, IsCard, card_of, card_bytes, site_card}
use Rattle.sd_site_cards.specs.CardFaults.{height_in, length_at}
use Rattle.sd_site_cards.proofs.Spellings.{written_is_good, good_parts}
use Rattle.sd_site_cards.proofs.Made.{made_is_card}
use Rattle.sd_engine.specs.Taken.{Whole, packets_taken, end_of}
use Rattle.sd_spec.specs.Plan.{Plan, IsPlan}
use Rattle.sd_spec.specs.Refused.{IsSendable}
use Rattle.sd_spec.specs.Sent.{broadcast}
use Rattle.sd_law_broadcast.specs.Packets.{AreWholePackets}
use Rattle.sd_spec.specs.Offered.{out_from, break_from}
use Rattle.sd_spec.specs.Ending.{ending_of}
use Rattle.sd_receive.specs.Receiving.{taken_keys}
use Rattle.sd_law_losses.specs.Confirmed.{opened_by}
use Rattle.sd_law_losses.specs.Endings.{first_revoked, whole_ending}
use Rattle.sd_law_losses.proofs.Theorem.{whole_refused, whole_opened, whole_ended}
use Rattle.sd_command_base.specs.declared.status.Status.TheVariants.{Limit}
use Rattle.sd_command_base.specs.declared.status.LimitKind.TheVariants.{CardBytes}
use Rattle.sd_command_base.specs.Spec.{FileArgument, Readings, whole_file_bytes, of_result, value, within, ◌>>=◌}
use Rattle.sd_command_base.specs.Texts.{line_of_status}
use Rattle.sd_command_base.specs.Work.{Work}
use Rattle.sd_command_base.proofs.Follow.{then_is}
use Rattle.sd_command_base.specs.Files.{most_card_bytes}
use Rattle.sd_command_line.specs.Words.{ReceiveOf}
use Rattle.sd_run_broadcasts.specs.Receive.{card_refusal, card_of_file, ending_status, receive_end_status}
use Rattle.sd_run_broadcasts.specs.Receive.{received_of, received_status, received_steps, receiving}
use Rattle.sd_run_broadcasts.specs.Receive.{receive_stream_meaning}
use Rattle.sd_run_broadcasts.specs.Receive.{receive_meaning}
use Rattle.sd_law_run.specs.Good.{IsGoodReceive}
use Rattle.sd_law_run.specs.Opened.{unrevoked_periods, revoked_status, revoked_text, IsBroadcastTo, IsReceivedOut}
use Rattle.sd_run.specs.Meaning.{meaning}
use Rattle.sd_run_broadcasts.proofs.Cards.{card_read}
use Rattle.sd_run_broadcasts.proofs.Received.{none_refused, bytes_are, unrefused_steps, scaled}
use Rattle.sd_law_run.proofs.Keyed.{keys_taken}
use Rattle.sd_law_run.proofs.Goodness.{ordered}

-- a card's file is within the limit
pub card_length : (card : CardFields) → IsCard card → length (card_bytes card) ≤ most_card_bytes
unfolding length_at
card_length card is =
    let good = good_parts (card_bytes card) (written_is_good card is) in
    let low = good.height.1 in
    let size = good.size in
    let d = height_in (card_bytes card) in
    let once = scaled d (d + 1) 21 (omega (arith, low)) in
    omega (arith, size, once, low)

pub card_good : (word : ℕ) (card : CardFields) → IsCard card → (card_of_file word (Some (card_bytes card))).result
    ≡ Ok card
unfolding card_of_file
card_good word card is =
    then_is (within word most_card_bytes CardBytes (Some (card_bytes card))) (card_bytes card)
    (λ bytes. of_result (card_refusal word bytes))
    (ap (λ b. cond b (Err (Limit CardBytes)) (Ok (card_bytes card)))
    (le-ltb most_card_bytes (length (card_bytes card)) (card_length card is)))
    ∙ card_read word (card_bytes card) card is refl

pub received : (given : Readings) (card stream out : FileArgument) (fields : CardFields) (bytes : List ℕ) →
    IsCard fields →
    given card ≡ Some (card_bytes fields) → given stream ≡ Some bytes →
    (receive_meaning card stream out given).result ≡ Ok (receiving fields out bytes)
unfolding receive_meaning
received given card stream out fields bytes is there stream_there =
    ap (λ (got : Option (List ℕ)). (card_of_file card.number got >>= λ f. receive_stream_meaning f stream out
    given).result)
    there
    ∙ then_is (card_of_file card.number (Some (card_bytes fields))) fields
    (λ f. receive_stream_meaning f stream out given)
    (card_good card.number fields is)
    ∙ ap (λ (got : Option (List ℕ)). (whole_file_bytes stream.number got >>=
    λ b. value (receiving fields out b)).result)
    stream_there

-- `receive` over a card and any stream
pub receive_good : (words : List (List ℕ)) (given : Readings) (good : IsGoodReceive words given) →
    (meaning words given).result ≡ Ok (receiving good.fields good.out good.bytes)
receive_good words given good =
    ordered words given (ReceiveOf good.card good.stream good.out) good.order
    ∙ received given good.card good.stream good.out good.fields good.bytes good.is_card good.card_there good.there

pub whole_status : (u : ℕ) (period : Option ℕ) → ending_status u (whole_ending period) ≡ revoked_status u period
whole_status u None = refl
whole_status u (Some q) = refl

-- and its line
pub whole_line : (u : ℕ) (period : Option ℕ) → line_of_status (revoked_status u period) ≡ revoked_text u period
unfolding line_of_status
whole_line u None = refl
whole_line u (Some q) = refl

module _ (plan : Plan) (u : ℕ) (clear : List (List ℕ)) (is : IsPlan plan) (can : IsSendable plan.site clear)
    (whole : AreWholePackets clear) (leaf : u < 2 ^ plan.site.height) where
  abbrev card : CardFields
  card = site_card plan.site u

  leaf_is : card.leaf ≡ u
  unfolding card_of
  leaf_is = refl

  height_is : card.height ≡ plan.site.height
  unfolding card_of
  height_is = refl

  pub opened_bytes : (bytes : List ℕ) → packets_taken bytes ≡ broadcast plan clear →
      received_of card bytes ≡ concat (opened_by plan u clear)
  opened_bytes bytes packets =
      bytes_are card bytes ∙ ap (λ (ps : List (List ℕ)). concat (out_from card [] ps)) packets
      ∙ ap concat (whole_opened plan clear u is can whole leaf)

  pub opened_status : (bytes : List ℕ) → packets_taken bytes ≡ broadcast plan clear → end_of bytes ≡ Whole →
      received_status card bytes ≡ revoked_status u (first_revoked plan u clear)
  unfolding receive_end_status
  opened_status bytes packets end =
      none_refused card bytes Whole (ap (break_from card []) packets ∙ whole_refused plan clear u is can whole leaf) end
      ∙ ap (λ (ps : List (List ℕ)). ending_status card.leaf (ending_of card (reverse ps))) packets
      ∙ ap (ending_status card.leaf) (whole_ended plan clear u is can whole leaf)
      ∙ ap (λ (v : ℕ). ending_status v (whole_ending (first_revoked plan u clear))) leaf_is
      ∙ whole_status u (first_revoked plan u clear)

  pub opened_steps : (bytes : List ℕ) → packets_taken bytes ≡ broadcast plan clear →
      received_steps card bytes ≤ plan.site.height * unrevoked_periods plan u clear
  opened_steps bytes packets =
      let most = unrefused_steps card bytes
      (ap (break_from card []) packets ∙ whole_refused plan clear u is can whole leaf)
      ∙ ap (λ (h : ℕ). h * taken_keys card [] (packets_taken bytes)) height_is
      ∙ ap (λ (ps : List (List ℕ)). plan.site.height * taken_keys card [] ps) packets in
      let keys = ap (λ (n : ℕ). plan.site.height * n) (keys_taken plan clear u is can whole leaf) in
      omega (arith, most, keys)

-- and over a card of a site and a broadcast of it
pub broadcast_opened : (plan : Plan) (u : ℕ) (clear : List (List ℕ)) (words : List (List ℕ)) (given : Readings) →
    IsPlan plan →
    IsSendable plan.site clear → AreWholePackets clear → u < 2 ^ plan.site.height →
    (sent : IsBroadcastTo plan u clear words given) →
    (work : Work) × ((meaning words given).result ≡ Ok work) × IsReceivedOut plan u clear sent.out work
broadcast_opened plan u clear words given is can whole leaf sent =
    let fields = site_card plan.site u in
    let site = is.site in
    let made = made_is_card plan.site.master plan.site.ca plan.site.height u is.ca site.height.0 site.height.1 leaf in (
      receiving fields sent.out sent.bytes,
      ordered words given (ReceiveOf sent.card sent.stream sent.out) sent.order
          ∙ received given sent.card sent.stream sent.out fields sent.bytes made sent.card_there sent.there,
      record {
        file = ap (λ (bytes : List ℕ). Some (record { word = sent.out.number; name = sent.out.text; bytes = bytes }))
            (opened_bytes plan u clear is can whole leaf sent.bytes sent.packets);
        printed = refl;
        ends = opened_status plan u clear is can whole leaf sent.bytes sent.packets sent.whole;
        most = received_steps fields sent.bytes;
        counted = refl;
        few = opened_steps plan u clear is can whole leaf sent.bytes sent.packets;
      },
    )
