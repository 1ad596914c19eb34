-- How the things that are sent are heard.
use Rattle.std.proofs.Common.{◌≡◌, ℕ, ◌%◌, ◌^◌, ◌<◌, ◌≤◌, ◌==◌, true, false, length}
use Rattle.std.proofs.Common.{List, Some, None}
use Rattle.std.proofs.Common.{refl, eq-eqb, ◌∙◌, arith}
use Rattle.std.specs.Prelude.{count_by, Ok}
use Rattle.std.proofs.lemmas.Bool.Decides.{nat_tests}
use Rattle.std.proofs.lemmas.List.Elements.{All-contains, All-weaker}
use Rattle.sd_packet.specs.Header.{pid_of}
use Rattle.sd_packet.specs.Packing.{section_packet}
use Rattle.sd_packet.proofs.Packets.{packed_pid}
use Rattle.sd_psi.specs.OurCat.{cat_section, is_tuning, cat_tuning}
use Rattle.sd_psi.proofs.OurCat.{our_cat_is_read}
use Rattle.sd_site_cards.specs.SiteFields.{SiteFields, AreInRange}
use Rattle.sd_message.specs.EmmSpelled.{emm_section}
use Rattle.sd_message.specs.EmmJudged.{emm_read}
use Rattle.sd_message.specs.declared.emm.Emm.{Emm}
use Rattle.sd_message.specs.EcmSpelled.{ecm_section}
use Rattle.sd_message.specs.EcmForm.{IsEcm, FitsEcmFields}
use Rattle.sd_message.specs.EcmJudged.{ecm_read}
use Rattle.sd_message.specs.EcmParts.{parts_of}
use Rattle.sd_message.specs.declared.ecm_part.EcmPart.{EcmPart}
use Rattle.sd_message.proofs.EcmSharing.{all_are_ecms}
use Rattle.sd_message.proofs.EcmDeciding.{packed_reads}
use Rattle.sd_spec.specs.Plan.{Plan, IsPlan}
use Rattle.sd_spec.specs.Refused.{is_reserved_pid, IsSendable}
use Rattle.sd_spec.specs.Sent.{Item, Cat, Entitles as SendsEmm, Controls as SendsEcm, Carries, is_alike}
use Rattle.sd_spec.specs.Sent.{item_packet}
use Rattle.sd_spec.specs.Items.{IsOfBroadcast}
use Rattle.sd_law_broadcast.specs.Packets.{IsWholePacket, AreWholePackets, AreLong}
use Rattle.sd_law_broadcast.proofs.Sections.{IsSaid, said, section_reads, carried_pid}
use Rattle.sd_spec.specs.Heard.{Dropped, Entitles, Controls, Other, hears}
use Rattle.sd_law_losses.specs.Told.{tuning_to, heard_of}

-- a site's PIDs are good
site_tunes : (site : SiteFields) → AreInRange site → is_tuning (tuning_to site) ≡ true
site_tunes site r =
    let one = r.emm.0 in
    let two = r.emm.1 in
    let three = r.ecm.0 in
    let four = r.ecm.1 in
    let apart = r.apart in
    grind (arith, nat_tests, one, two, three, four, apart)

-- the CAT is taken
tuned_by_cat : (site : SiteFields) (counter : ℕ) → AreInRange site → site.ca < 2 ^ 16 →
    cat_tuning site.ca (section_packet (cat_section site.ca site.emm site.ecm) 1 (counter % 16)) ≡ Some (tuning_to site)
tuned_by_cat site counter r system =
    let emm = r.emm.1 in
    let ecm = r.ecm.1 in
    let read = our_cat_is_read site.ca site.ca (counter % 16) (tuning_to site) system (omega (arith, emm))
    (omega (arith, ecm)) (omega arith) in
    let own : (site.ca == site.ca) ≡ true = eq-eqb site.ca site.ca refl in
    read ∙ rw (own, site_tunes site r) refl

pub cat_taken : (plan : Plan) (earlier : List Item) → IsPlan plan →
    cat_tuning plan.site.ca (item_packet plan.site earlier Cat) ≡ Some (tuning_to plan.site)
cat_taken plan earlier is = tuned_by_cat plan.site (count_by (is_alike Cat) earlier) is.site is.ca

-- a packet on another PID is no CAT
other_pid : (ca : ℕ) (packet : List ℕ) → (pid_of packet == 1) ≡ false → cat_tuning ca packet ≡ None
unfolding cat_tuning
other_pid ca packet other = rw other refl

-- a section isn't packed on the CAT's PID but on its own
apart_from_cat : (section : List ℕ) (pid n : ℕ) → 2 ≤ pid → pid < 8192 →
    (pid_of (section_packet section pid (n % 16)) == 1) ≡ false
apart_from_cat section pid n low high =
    let same = packed_pid section pid n high in grind (arith, nat_tests, same, low)

module _ (plan : Plan) (clear : List (List ℕ)) (is : IsPlan plan) (all : IsSendable plan.site clear)
    (long : AreLong clear) where
  -- no other thing is on the CAT's PID
  not_one : (earlier : List Item) (item : Item) → IsSaid plan clear item → is_alike Cat item ≡ false →
      (pid_of (item_packet plan.site earlier item) == 1) ≡ false
  not_one earlier Cat said other = absurd (cc)
  not_one earlier (SendsEmm emm) said other =
      apart_from_cat (emm_section emm) plan.site.emm (count_by (is_alike (SendsEmm emm)) earlier)
      (omega (arith, is.site.emm.0)) (omega (arith, is.site.emm.1))
  not_one earlier (SendsEcm one) said other =
      apart_from_cat (ecm_section one) plan.site.ecm (count_by (is_alike (SendsEcm one)) earlier)
      (omega (arith, is.site.ecm.0)) (omega (arith, is.site.ecm.1))
  not_one earlier (Carries n packet) (k, within, same) other =
      let taken = carried_pid plan clear is all long k packet within same in
      grind (arith, nat_tests, taken)

  others_untaken : (earlier : List Item) (item : Item) → IsOfBroadcast plan clear item → is_alike Cat item ≡ false →
      cat_tuning plan.site.ca (item_packet plan.site earlier item) ≡ None
  others_untaken earlier item of' other =
      other_pid plan.site.ca (item_packet plan.site earlier item)
      (not_one earlier item (said plan clear is all item of') other)

  -- what a packet is heard as, by its PID
  heard_cat : (n : ℕ) (packet : List ℕ) → (pid_of packet == 1) ≡ true →
      hears plan.site.height (tuning_to plan.site) n packet ≡ Dropped
  unfolding hears
  heard_cat n packet one = rw one refl

  heard_section : (n : ℕ) (packet : List ℕ) (emm : Emm) → (pid_of packet == 1) ≡ false →
      (pid_of packet == plan.site.emm) ≡ true → emm_read plan.site.height packet ≡ Ok (Some emm) →
      hears plan.site.height (tuning_to plan.site) n packet ≡ Entitles emm
  unfolding hears
  heard_section n packet emm one two reads = rw (one, two, reads) refl

  heard_part : (n : ℕ) (packet : List ℕ) (part : EcmPart) → (pid_of packet == 1) ≡ false →
      (pid_of packet == plan.site.emm) ≡ false → (pid_of packet == plan.site.ecm) ≡ true →
      ecm_read packet ≡ Ok (Some part) → hears plan.site.height (tuning_to plan.site) n packet ≡ Controls part
  unfolding hears
  heard_part n packet part one two three reads = rw (one, two, three, reads) refl

  heard_other : (n : ℕ) (packet : List ℕ) → is_reserved_pid plan.site (pid_of packet) ≡ false →
      hears plan.site.height (tuning_to plan.site) n packet ≡ Other n packet
  unfolding hears
  heard_other n packet taken =
      let one : (pid_of packet == 1) ≡ false = grind (arith, nat_tests, taken) in
      let two : (pid_of packet == plan.site.emm) ≡ false = grind (arith, nat_tests, taken) in
      let three : (pid_of packet == plan.site.ecm) ≡ false = grind (arith, nat_tests, taken) in
      rw (one, two, three) refl

  -- each thing is heard as what it is
  heard_as : (earlier : List Item) (n : ℕ) (item : Item) → IsSaid plan clear item →
      hears plan.site.height (tuning_to plan.site) n (item_packet plan.site earlier item) ≡ heard_of n item
  heard_as earlier n Cat said =
      let count : ℕ = count_by (is_alike Cat) earlier in
      let section : List ℕ = cat_section plan.site.ca plan.site.emm plan.site.ecm in
      let pid = packed_pid section 1 count (omega arith) in
      heard_cat n (section_packet section 1 (count % 16)) (grind (arith, nat_tests, pid))
  heard_as earlier n (SendsEmm emm) said =
      let count : ℕ = count_by (is_alike (SendsEmm emm)) earlier in
      let high = is.site.emm.1 in
      let pid = packed_pid (emm_section emm) plan.site.emm count (omega (arith, high)) in
      heard_section n (section_packet (emm_section emm) plan.site.emm (count % 16)) emm (not_one earlier
      (SendsEmm emm) said refl)
      (grind (arith, nat_tests, pid)) (section_reads plan clear is all emm (count % 16) said (omega arith))
  heard_as earlier n (SendsEcm one) (message, fits, m) =
      let count : ℕ = count_by (is_alike (SendsEcm one)) earlier in
      let high = is.site.ecm.1 in
      let apart = is.site.apart in
      let pid = packed_pid (ecm_section one) plan.site.ecm count (omega (arith, high)) in
      let form = All-contains (λ (p : EcmPart). IsEcm p × FitsEcmFields p) (parts_of message) one
      (all_are_ecms message fits) m in
      heard_part n (section_packet (ecm_section one) plan.site.ecm (count % 16)) one
      (not_one earlier (SendsEcm one) (message, fits, m) refl) (grind (arith, nat_tests, pid, apart))
      (grind (arith, nat_tests, pid))
      (packed_reads one plan.site.ecm (count % 16) form.1 form.0 (omega (arith, high)) (omega arith))
  heard_as earlier n (Carries j packet) (k, within, same) =
      heard_other n packet (carried_pid plan clear is all long k packet within same)

-- no packet but the CAT's is taken for one
pub others_not_taken : (plan : Plan) (clear : List (List ℕ)) (earlier : List Item) (item : Item) → IsPlan plan →
    IsSendable plan.site clear → AreLong clear → IsOfBroadcast plan clear item → is_alike Cat item ≡ false →
    cat_tuning plan.site.ca (item_packet plan.site earlier item) ≡ None
others_not_taken plan clear earlier item is all long of' other =
    others_untaken plan clear is all long earlier item of' other

pub things_heard : (plan : Plan) (clear : List (List ℕ)) (earlier : List Item) (n : ℕ) (item : Item) → IsPlan plan →
    IsSendable plan.site clear → AreLong clear → IsOfBroadcast plan clear item →
    hears plan.site.height (tuning_to plan.site) n (item_packet plan.site earlier item) ≡ heard_of n item
things_heard plan clear earlier n item is all long of' =
    heard_as plan clear is all long earlier n item (said plan clear is all item of')

-- whole packets are as long as packets are
all_long : (packets : List (List ℕ)) → AreWholePackets packets → AreLong packets
all_long packets whole =
    All-weaker IsWholePacket (λ (packet : List ℕ). length packet ≡ 188) (λ packet is. is.long) packets whole

-- so this is true of them
pub no_other_taken : (plan : Plan) (clear : List (List ℕ)) (earlier : List Item) (item : Item) → IsPlan plan →
    IsSendable plan.site clear → AreWholePackets clear → IsOfBroadcast plan clear item → is_alike Cat item ≡ false →
    cat_tuning plan.site.ca (item_packet plan.site earlier item) ≡ None
no_other_taken plan clear earlier item is all whole of' other =
    others_not_taken plan clear earlier item is all (all_long clear whole) of' other

pub items_heard : (plan : Plan) (clear : List (List ℕ)) (earlier : List Item) (n : ℕ) (item : Item) → IsPlan plan →
    IsSendable plan.site clear → AreWholePackets clear → IsOfBroadcast plan clear item →
    hears plan.site.height (tuning_to plan.site) n (item_packet plan.site earlier item) ≡ heard_of n item
items_heard plan clear earlier n item is all whole of' =
    things_heard plan clear earlier n item is all (all_long clear whole) of'
