-- The lines of a broadcast are those of what was sent.
use Rattle.std.proofs.Common.{arith, ◌≡◌, ℕ, suc, ◌%◌, ◌==◌, true, false, List, [], ◌∷◌, ◌++◌, Some}
use Rattle.std.proofs.Common.{refl, ap, ◌∙◌}
use Rattle.std.specs.Prelude.{All, count_by, Ok}
use Rattle.std.proofs.lemmas.Bool.Decides.{nat_tests}
use Rattle.std.proofs.lemmas.List.Elements.{All-contains, All-head, All-tail}
use Rattle.sd_packet.specs.Header.{pid_of}
use Rattle.sd_packet.specs.Packing.{section_packet}
use Rattle.sd_packet.proofs.Packets.{packed_pid}
use Rattle.sd_psi.specs.OurCat.{cat_section}
use Rattle.sd_site_cards.specs.SiteFields.{SiteFields}
use Rattle.sd_message.specs.EmmJudged.{emm_read}
use Rattle.sd_message.specs.EmmSpelled.{emm_section}
use Rattle.sd_message.specs.declared.emm.Emm.{Emm}
use Rattle.sd_message.specs.EcmForm.{FitsEcmFields, IsEcm}
use Rattle.sd_message.specs.EcmJudged.{ecm_read}
use Rattle.sd_message.specs.EcmParts.{parts_of}
use Rattle.sd_message.specs.EcmSpelled.{ecm_section}
use Rattle.sd_message.specs.declared.ecm_part.EcmPart.{EcmPart}
use Rattle.sd_message.proofs.EcmDeciding.{packed_reads as part_reads}
use Rattle.sd_message.proofs.EcmSharing.{all_are_ecms}
use Rattle.sd_spec.specs.Plan.{Plan, IsPlan}
use Rattle.sd_spec.specs.Refused.{IsSendable}
use Rattle.sd_spec.specs.Items.{IsOfBroadcast}
use Rattle.sd_spec.specs.Sent.{Item, Cat, Entitles, Controls, Carries, broadcast, closing_of, is_alike}
use Rattle.sd_spec.specs.Sent.{item_packet}
use Rattle.sd_spec.specs.Sent.{packets_from, sent}
use Rattle.sd_spec.proofs.Items.{all_are_of_broadcast}
use Rattle.sd_law_broadcast.specs.Packets.{AreLong}
use Rattle.sd_law_broadcast.proofs.Sections.{IsSaid, carried_pid, said, section_reads}
use Rattle.sd_run_streams.specs.MessageLines.{ecm_data, emm_data, line_with, message_data, message_line, message_lines}
use Rattle.sd_law_plan.specs.Monitored.{sent_line, sent_lines}

-- a packet on neither PID
no_line : (site : SiteFields) (k : ℕ) (packet : List ℕ) → (pid_of packet == site.emm) ≡ false →
    (pid_of packet == site.ecm) ≡ false → message_line site k packet ≡ []
unfolding message_line message_data
no_line site k packet one other = rw (one, other) refl

-- a packet that is read as entitlements, or as a part
emm_line : (site : SiteFields) (k : ℕ) (packet : List ℕ) (emm : Emm) → pid_of packet ≡ site.emm →
    emm_read site.height packet ≡ Ok (Some emm) →
    message_line site k packet ≡ line_with (Some (emm_data k site.emm emm))
unfolding message_line message_data
emm_line site k packet emm pid reads =
    let same : (site.emm == site.emm) ≡ true = grind (arith, nat_tests) in
    rw (pid, same, reads) refl

ecm_line : (site : SiteFields) (k : ℕ) (packet : List ℕ) (part : EcmPart) → pid_of packet ≡ site.ecm →
    (site.ecm == site.emm) ≡ false → ecm_read packet ≡ Ok (Some part) →
    message_line site k packet ≡ line_with (Some (ecm_data k site.ecm part))
unfolding message_line message_data
ecm_line site k packet part pid apart reads =
    let same : (site.ecm == site.ecm) ≡ true = grind (arith, nat_tests) in
    rw (pid, apart, same, reads) refl

module _ (plan : Plan) (clear : List (List ℕ)) (is : IsPlan plan) (all : IsSendable plan.site clear)
    (long : AreLong clear) where
  -- the line of one thing
  one_line : (k : ℕ) (earlier : List Item) (item : Item) → IsSaid plan clear item →
      message_line plan.site k (item_packet plan.site earlier item) ≡ sent_line plan.site k item
  one_line k earlier Cat told =
      let low = is.site.emm.0 in
      let low_too = is.site.ecm.0 in
      let section = cat_section plan.site.ca plan.site.emm plan.site.ecm in
      let pid = packed_pid section 1 (count_by (is_alike Cat) earlier) (omega arith) in
      no_line plan.site k (section_packet section 1 (count_by (is_alike Cat) earlier % 16))
      (grind (arith, nat_tests, pid, low))
      (grind (arith, nat_tests, pid, low_too))
  one_line k earlier (Entitles emm) told =
      let count = count_by (is_alike (Entitles emm)) earlier in
      let high = is.site.emm.1 in
      emm_line plan.site k (section_packet (emm_section emm) plan.site.emm (count % 16)) emm
      (packed_pid (emm_section emm) plan.site.emm count (omega (arith, high)))
      (section_reads plan clear is all emm (count % 16) told (omega arith))
  one_line k earlier (Controls one) (message, fits, here) =
      let count = count_by (is_alike (Controls one)) earlier in
      let high = is.site.ecm.1 in
      let apart = is.site.apart in
      let form = All-contains (λ part. IsEcm part × FitsEcmFields part) (parts_of message) one
      (all_are_ecms message fits)
      here in
      ecm_line plan.site k (section_packet (ecm_section one) plan.site.ecm (count % 16)) one
      (packed_pid (ecm_section one) plan.site.ecm count (omega (arith, high))) (grind (arith, nat_tests, apart))
      (part_reads one plan.site.ecm (count % 16) form.1 form.0 (omega (arith, high)) (omega arith))
  one_line k earlier (Carries n packet) (at, within, same) =
      let free = carried_pid plan clear is all long at packet within same in
      no_line plan.site k packet (grind (arith, nat_tests, free)) (grind (arith, nat_tests, free))

  lines_are : (k : ℕ) (earlier items : List Item) → All (IsOfBroadcast plan clear) items →
      message_lines plan.site k (packets_from plan.site earlier items) ≡ sent_lines plan.site k items
  unfolding packets_from message_lines sent_lines
  lines_are k earlier [] each = refl
  lines_are k earlier (item ∷ items) each =
      ap (λ (line : List ℕ).
      line ∷ message_lines plan.site (suc k) (packets_from plan.site (earlier ++ item ∷ []) items))
      (one_line k earlier item (said plan clear is all item (All-head (IsOfBroadcast plan clear) item items each)))
      ∙ ap (λ (rest : List (List ℕ)). sent_line plan.site k item ∷ rest)
      (lines_are (suc k) (earlier ++ item ∷ []) items (All-tail (IsOfBroadcast plan clear) item items each))

pub broadcast_lines : (plan : Plan) (clear : List (List ℕ)) → IsPlan plan → IsSendable plan.site clear → AreLong clear →
    message_lines plan.site 0 (broadcast plan clear) ≡ sent_lines plan.site 0 (sent plan clear ++ closing_of plan clear)
unfolding broadcast
broadcast_lines plan clear is all long =
    lines_are plan clear is all long 0 [] (sent plan clear ++ closing_of plan clear) (all_are_of_broadcast plan clear)
