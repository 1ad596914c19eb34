-- What `receive` makes of any choice of a broadcast's packets.
use Rattle.std.proofs.Common.{◌≡◌, ℕ, ◌*◌, ◌^◌, ◌<◌, ◌≤◌, ◌++◌, Bool, true, false, List, [], ◌∷◌, length, reverse}
use Rattle.std.proofs.Common.{refl, sym, ap, ◌∙◌, arith}
use Rattle.std.specs.Prelude.{Some, Ok}
use Rattle.std.specs.List.{concat}
use Rattle.sd_site_cards.specs.CardFields.{CardFields, card_of, site_card}
use Rattle.sd_site_cards.proofs.Made.{made_is_card}
use Rattle.sd_engine.specs.Driving.{most_packets}
use Rattle.sd_engine.specs.Taken.{Whole, packets_taken, end_of}
use Rattle.sd_spec.specs.Plan.{Plan, IsPlan}
use Rattle.sd_spec.specs.Refused.{IsSendable}
use Rattle.sd_spec.specs.Sent.{sent, closing_of, broadcast}
use Rattle.sd_law_broadcast.specs.Packets.{AreWholePackets}
use Rattle.sd_law_broadcast.specs.Synced.{IsSynced, AreSynced}
use Rattle.sd_law_broadcast.proofs.Joined.{taken_again, joined_whole}
use Rattle.sd_law_broadcast.proofs.Synced.{broadcast_synced}
use Rattle.sd_law_broadcast.proofs.Counted.{broadcast_short}
use Rattle.sd_spec.specs.declared.ending.Ending.{Ending}
use Rattle.sd_spec.specs.declared.ending.Ending.TheVariants as end
use Rattle.sd_spec.specs.Offered.{out_from, break_from}
use Rattle.sd_spec.specs.Ending.{ending_of}
use Rattle.sd_receive.specs.Receiving.{taken_keys}
use Rattle.sd_law_losses.specs.Chosen.{chosen}
use Rattle.sd_law_losses.specs.Confirmed.{confirmed, opened_by, is_revoked_in}
use Rattle.sd_law_losses.specs.Endings.{ending_told}
use Rattle.sd_law_losses.proofs.Theorem as lost
use Rattle.sd_law_losses.proofs.Revoking.{revoked_truly}
use Rattle.sd_law_losses.proofs.Opened.{confirmed_are_opened}
use Rattle.sd_law_losses.proofs.Later.{chosen_all_of}
use Rattle.sd_command_base.specs.declared.status.Status.TheVariants.{Revoked}
use Rattle.sd_command_base.specs.Texts.{line_of_status}
use Rattle.sd_command_base.specs.Spec.{Readings}
use Rattle.sd_command_base.specs.Work.{Work}
use Rattle.sd_run_broadcasts.specs.Receive.{ending_status, receive_end_status, received_of, received_status}
use Rattle.sd_run_broadcasts.specs.Receive.{received_steps}
use Rattle.sd_run_broadcasts.specs.Receive.{receiving}
use Rattle.sd_law_run.specs.Good.{IsGoodReceive}
use Rattle.sd_command_base.specs.Turned.{is_break}
use Rattle.sd_law_run.specs.Lost.{ending_line, kept_items, heard_periods, IsRestTo, IsConfirmed}
use Rattle.sd_run.specs.Meaning.{meaning}
use Rattle.sd_run_broadcasts.proofs.Received.{none_refused, bytes_are, unrefused_steps}
use Rattle.sd_law_run.proofs.Broadcasts.{receive_good}

-- no more are chosen than there are, and each is one of them
chosen_few : {A : Type 0} (flags : List Bool) (xs : List A) → length (chosen flags xs) ≤ length xs
unfolding chosen
chosen_few [] xs = omega arith
chosen_few (f ∷ flags) [] = omega arith
chosen_few (true ∷ flags) (x ∷ xs) = omega (arith, chosen_few flags xs)
chosen_few (false ∷ flags) (x ∷ xs) = omega (arith, chosen_few flags xs)

-- how a stream ends is never a refusal
never_broken : (u : ℕ) (ending : Ending) → is_break (ending_status u ending) ≡ false
never_broken u end.Opened = refl
never_broken u (end.Revoked q) = refl
never_broken u (end.Unheard q) = refl
never_broken u end.NoCat = refl
never_broken u (end.Unclosed n) = refl
never_broken u (end.Gaps n) = refl

-- its line
pub ended_line : (u : ℕ) (ending : Ending) → line_of_status (ending_status u ending) ≡ ending_line u ending
unfolding line_of_status
ended_line u end.Opened = refl
ended_line u (end.Revoked q) = refl
ended_line u (end.Unheard q) = refl
ended_line u end.NoCat = refl
ended_line u (end.Unclosed n) = refl
ended_line u (end.Gaps n) = refl

-- it is told revoked where it ends so
told_revoked : (u q : ℕ) (ending : Ending) → ending_status u ending ≡ Revoked u q → ending ≡ end.Revoked q
told_revoked u q end.Opened e = absurd (cc)
told_revoked u q (end.Revoked p) e = let same : p ≡ q = cc in ap end.Revoked same
told_revoked u q (end.Unheard p) e = absurd (cc)
told_revoked u q end.NoCat e = absurd (cc)
told_revoked u q (end.Unclosed n) e = absurd (cc)
told_revoked u q (end.Gaps n) e = absurd (cc)

module _ (plan : Plan) (u : ℕ) (clear : List (List ℕ)) (flags : List Bool) (is : IsPlan plan)
    (can : IsSendable plan.site clear) (whole : AreWholePackets clear) (synced : AreSynced clear)
    (leaf : u < 2 ^ plan.site.height) where
  abbrev card : CardFields
  card = site_card plan.site u

  abbrev packets : List (List ℕ)
  packets = chosen flags (broadcast plan clear)

  abbrev bytes : List ℕ
  bytes = concat packets

  leaf_is : card.leaf ≡ u
  unfolding card_of
  leaf_is = refl

  height_is : card.height ≡ plan.site.height
  unfolding card_of
  height_is = refl

  -- the packets of the stream are those that are kept
  rest_synced : AreSynced packets
  rest_synced = chosen_all_of IsSynced flags (broadcast plan clear) (broadcast_synced plan clear is can whole synced)

  rest_short : length packets ≤ most_packets
  rest_short = omega (arith, chosen_few flags (broadcast plan clear), broadcast_short plan is clear can)

  rest_taken : packets_taken bytes ≡ packets
  rest_taken = taken_again packets rest_synced rest_short

  rest_whole : end_of bytes ≡ Whole
  rest_whole = joined_whole packets rest_synced rest_short

  pub rest_bytes : received_of card bytes ≡ concat (confirmed plan u clear (kept_items plan clear flags))
  unfolding kept_items
  rest_bytes =
      bytes_are card bytes
      ∙ (ap (λ (ps : List (List ℕ)). concat (out_from card [] ps)) rest_taken
      ∙ ap concat (lost.confirmed_alone plan clear u flags is can whole leaf))

  pub rest_status : received_status card bytes ≡ ending_status u
      (ending_told plan u clear (kept_items plan clear flags))
  unfolding receive_end_status kept_items
  rest_status =
      none_refused card bytes Whole
      (ap (break_from card []) rest_taken ∙ lost.none_refused plan clear u flags is can whole leaf) rest_whole
      ∙ (ap (λ (ps : List (List ℕ)). ending_status card.leaf (ending_of card (reverse ps))) rest_taken
      ∙ (ap (ending_status card.leaf) (lost.ends_as_told plan clear u flags is can whole leaf)
      ∙ ap (λ (v : ℕ). ending_status v (ending_told plan u clear (chosen flags
      (sent plan clear ++ closing_of plan clear)))) leaf_is))

  rest_keys : taken_keys card [] packets ≡ heard_periods plan u clear (kept_items plan clear flags)
  unfolding heard_periods kept_items
  rest_keys = lost.keys_taken plan clear u flags is can whole leaf

  pub rest_steps : received_steps card bytes ≤ plan.site.height * heard_periods plan u clear
      (kept_items plan clear flags)
  rest_steps =
      let most = unrefused_steps card bytes
      (ap (break_from card []) rest_taken ∙ lost.none_refused plan clear u flags is can whole leaf)
      ∙ (ap (λ (h : ℕ). h * taken_keys card [] (packets_taken bytes)) height_is
      ∙ (ap (λ (ps : List (List ℕ)). plan.site.height * taken_keys card [] ps) rest_taken
      ∙ ap (λ (n : ℕ). plan.site.height * n) rest_keys)) in
      omega (arith, most)

  pub rest_revoked : (q : ℕ) → received_status card bytes ≡ Revoked u q → is_revoked_in plan u q ≡ true
  unfolding kept_items
  rest_revoked q ends =
      revoked_truly plan clear u q flags is leaf
      (told_revoked u q (ending_told plan u clear (chosen flags (sent plan clear ++ closing_of plan clear)))
      (sym rest_status ∙ ends))

  rest_unrefused : is_break (received_status card bytes) ≡ false
  rest_unrefused =
      ap is_break rest_status ∙ never_broken u (ending_told plan u clear (kept_items plan clear flags))

  pub rest_part : (parts : List Bool)
      × (confirmed plan u clear (kept_items plan clear flags) ≡ chosen parts (opened_by plan u clear))
  unfolding kept_items
  rest_part = confirmed_are_opened plan clear u flags is leaf

-- over a card of a site and any choice of the packets of a broadcast of it
pub rest_confirmed : (plan : Plan) (u : ℕ) (clear : List (List ℕ)) (flags : List Bool) (words : List (List ℕ))
    (given : Readings) → IsPlan plan → IsSendable plan.site clear → AreWholePackets clear → AreSynced clear →
    u < 2 ^ plan.site.height → (rest : IsRestTo plan u clear flags words given) →
    (work : Work) × ((meaning words given).result ≡ Ok work)
    × IsConfirmed plan u clear (kept_items plan clear flags) rest.out work
rest_confirmed plan u clear flags words given is can whole synced leaf rest =
    let fields = site_card plan.site u in
    let bytes = concat (chosen flags (broadcast plan clear)) in
    let site = is.site in
    let good : IsGoodReceive words given = record {
      card = rest.card;
      stream = rest.stream;
      out = rest.out;
      order = rest.order;
      fields = fields;
      is_card = made_is_card plan.site.master plan.site.ca plan.site.height u is.ca site.height.0 site.height.1 leaf;
      card_there = rest.card_there;
      bytes = bytes;
      there = rest.there;
    } in
    let part = rest_part plan u clear flags is can whole synced leaf in (
      receiving fields rest.out bytes,
      receive_good words given good,
      record {
        file = ap (λ (b : List ℕ). Some (record { word = rest.out.number; name = rest.out.text; bytes = b }))
            (rest_bytes plan u clear flags is can whole synced leaf);
        parts = part.0;
        part = part.1;
        printed = refl;
        ends = rest_status plan u clear flags is can whole synced leaf;
        unrefused = rest_unrefused plan u clear flags is can whole synced leaf;
        revoked = rest_revoked plan u clear flags is can whole synced leaf;
        most = received_steps fields bytes;
        counted = refl;
        few = rest_steps plan u clear flags is can whole synced leaf;
      },
    )
