-- The packets of a broadcast are ones that a stream may have.
use Rattle.std.proofs.Common.{ℕ, ◌%◌, List, [], ◌∷◌, ◌++◌, take, get_or, subst, sym, arith}
use Rattle.std.specs.Prelude.{All, count_by}
use Rattle.std.proofs.lemmas.List.Elements.{All-nil, All-cons, All-head, All-tail, All-contains, All-get_or}
use Rattle.sd_base.proofs.Lists.{all_first}
use Rattle.sd_psi.specs.OurCat.{cat_section}
use Rattle.sd_message.specs.EmmSpelled.{emm_section}
use Rattle.sd_message.specs.EcmSpelled.{ecm_section}
use Rattle.sd_message.specs.EcmForm.{IsEcm, FitsEcmFields as FitsPart}
use Rattle.sd_message.specs.EcmParts.{parts_of}
use Rattle.sd_message.specs.declared.ecm_part.EcmPart.{EcmPart}
use Rattle.sd_message.proofs.EcmSharing.{all_are_ecms}
use Rattle.sd_spec.specs.Plan.{Plan, IsPlan}
use Rattle.sd_spec.specs.Refused.{IsSendable}
use Rattle.sd_spec.specs.Sent.{Item, Cat, Entitles, Controls, Carries, is_alike, item_packet, packets_from}
use Rattle.sd_spec.specs.Sent.{sent}
use Rattle.sd_spec.specs.Sent.{closing_of, body, broadcast}
use Rattle.sd_spec.specs.Items.{IsOfBroadcast}
use Rattle.sd_spec.proofs.Items.{all_are_of_broadcast}
use Rattle.sd_law_broadcast.specs.Packets.{IsWholePacket, AreWholePackets}
use Rattle.sd_law_broadcast.proofs.Sections.{IsSaid, said, section_form, section_sets}
use Rattle.sd_law_broadcast.specs.Synced.{IsSynced, AreSynced}
use Rattle.sd_law_broadcast.proofs.Spelled.{packed_synced, cat_short, emm_short, ecm_short, carried_synced}

module _ (plan : Plan) (clear : List (List ℕ)) (is : IsPlan plan) (all : IsSendable plan.site clear)
    (whole : AreWholePackets clear) (synced : AreSynced clear) where
  -- the packet of each thing that is sent
  one_synced : (earlier : List Item) (item : Item) → IsSaid plan clear item →
      IsSynced (item_packet plan.site earlier item)
  one_synced earlier Cat says =
      packed_synced (cat_section plan.site.ca plan.site.emm plan.site.ecm) 1 (count_by (is_alike Cat) earlier % 16)
      (cat_short plan.site.ca plan.site.emm plan.site.ecm)
  one_synced earlier (Entitles emm) (k, within, m) =
      let form = section_form plan is k emm m in
      let sets = section_sets plan is k emm m in
      let high = is.site.height.1 in
      packed_synced (emm_section emm) plan.site.emm (count_by (is_alike (Entitles emm)) earlier % 16)
      (emm_short plan.site.height emm (omega (arith, high)) form.1 form.0 sets)
  one_synced earlier (Controls one) (message, fits, m) =
      let form = All-contains (λ (p : EcmPart). IsEcm p × FitsPart p) (parts_of message) one
      (all_are_ecms message fits) m in
      packed_synced (ecm_section one) plan.site.ecm (count_by (is_alike (Controls one)) earlier % 16)
      (ecm_short one form.1 form.0)
  one_synced earlier (Carries n packet) (k, within, same) =
      subst IsSynced (sym same)
      (carried_synced plan.site (take k clear) (get_or clear k []) (All-get_or IsWholePacket clear k [] within whole)
      (All-get_or IsSynced clear k [] within synced))

  -- and so all of them
  sent_synced : (earlier items : List Item) → All (IsOfBroadcast plan clear) items →
      AreSynced (packets_from plan.site earlier items)
  unfolding packets_from
  sent_synced earlier [] each = All-nil IsSynced
  sent_synced earlier (item ∷ items) each =
      All-cons IsSynced (item_packet plan.site earlier item) (packets_from plan.site (earlier ++ item ∷ []) items)
      (one_synced earlier item (said plan clear is all item (All-head (IsOfBroadcast plan clear) item items each)))
      (sent_synced (earlier ++ item ∷ []) items (All-tail (IsOfBroadcast plan clear) item items each))

  pub broadcast_synced : AreSynced (broadcast plan clear)
  unfolding broadcast
  broadcast_synced = sent_synced [] (sent plan clear ++ closing_of plan clear) (all_are_of_broadcast plan clear)

  pub body_synced : AreSynced (body plan clear)
  unfolding body
  body_synced =
      sent_synced [] (sent plan clear)
      (all_first (IsOfBroadcast plan clear) (sent plan clear) (closing_of plan clear) (all_are_of_broadcast plan clear))
