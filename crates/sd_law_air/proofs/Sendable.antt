-- What is sent can be sent, and is a choice of the packets.
use Rattle.std.proofs.Common.{◌≡◌, ℕ, ◌+◌, false, [], ◌∷◌, ◌++◌, length, None, All, refl, ap, subst}
use Rattle.std.proofs.lemmas.List.Elements.{All-nil, All-cons}
use Rattle.sd_base.specs.Types.{Packet, Packets}
use Rattle.sd_site_cards.specs.SiteFields.{SiteFields}
use Rattle.sd_spec.specs.Counting.{is_marked}
use Rattle.sd_spec.specs.Refused.{IsSendable, unsent_from}
use Rattle.sd_spec.specs.Aired.{aired, aired_from}
use Rattle.sd_law_losses.specs.Chosen.{chosen}
use Rattle.sd_law_losses.proofs.Later.{chosen_all_of}
use Rattle.sd_law_broadcast.specs.Packets.{AreWholePackets, IsWholePacket}
use Rattle.sd_law_broadcast.specs.Synced.{AreSynced, IsSynced}
use Rattle.sd_law_air.specs.Sent.{AreUnmarked, sent_flags}
use Rattle.sd_law_air.proofs.Fates.{fate_of, marked, refused, sent, ends}

-- none of the packets that are sent breaks a rule after those before it
sendable_from : (site : SiteFields) (before : Packets) (n : ℕ) (packets : Packets) →
    unsent_from site before (aired_from site before n packets) ≡ None
unfolding aired_from unsent_from
sendable_from site before n [] = refl
sendable_from site before n (packet ∷ packets) = elim (fate_of site before packet) [
  | marked bad is ↦ rw (is n) (sendable_from site before (n + 1) packets)
  | refused good fault why is ↦ rw (is n) (sendable_from site before (n + 1) packets)
  | sent good short none is ↦
      rw (is n, none (length before)) (sendable_from site (before ++ packet ∷ []) (n + 1) packets)
  | ends good long why is ↦ rw (is n) refl
]

pub aired_sendable : (site : SiteFields) (packets : Packets) → IsSendable site (aired site packets)
aired_sendable site packets = sendable_from site [] 0 packets

-- nor is it marked
unmarked_from : (site : SiteFields) (before : Packets) (n : ℕ) (packets : Packets) →
    AreUnmarked (aired_from site before n packets)
unfolding aired_from
unmarked_from site before n [] = All-nil (λ (packet : Packet). is_marked packet ≡ false)
unmarked_from site before n (packet ∷ packets) = elim (fate_of site before packet) [
  | marked bad is ↦ rw (is n) (unmarked_from site before (n + 1) packets)
  | refused good fault why is ↦ rw (is n) (unmarked_from site before (n + 1) packets)
  | sent good short none is ↦ rw (is n) (All-cons (λ (packet : Packet). is_marked packet ≡ false) packet
      (aired_from site (before ++ packet ∷ []) (n + 1) packets) good
      (unmarked_from site (before ++ packet ∷ []) (n + 1) packets))
  | ends good long why is ↦ rw (is n) (All-nil (λ (packet : Packet). is_marked packet ≡ false))
]

pub aired_unmarked : (site : SiteFields) (packets : Packets) → AreUnmarked (aired site packets)
aired_unmarked site packets = unmarked_from site [] 0 packets

-- they are those whose flags say so
pub chosen_from : (site : SiteFields) (before : Packets) (n : ℕ) (packets : Packets) →
    chosen (sent_flags site before n packets) packets ≡ aired_from site before n packets
unfolding aired_from sent_flags chosen
chosen_from site before n [] = refl
chosen_from site before n (packet ∷ packets) = elim (fate_of site before packet) [
  | marked bad is ↦ rw (is n) (chosen_from site before (n + 1) packets)
  | refused good fault why is ↦ rw (is n) (chosen_from site before (n + 1) packets)
  | sent good short none is ↦
      rw (is n) (ap (λ (rest : Packets). packet ∷ rest) (chosen_from site (before ++ packet ∷ []) (n + 1) packets))
  | ends good long why is ↦ rw (is n) refl
]

pub aired_chosen : (site : SiteFields) (packets : Packets) →
    chosen (sent_flags site [] 0 packets) packets ≡ aired site packets
aired_chosen site packets = chosen_from site [] 0 packets

-- so what holds of all packets holds of those that are sent
aired_all : (P : Packet → Type 0) (site : SiteFields) (packets : Packets) → All P packets → All P (aired site packets)
aired_all P site packets all =
    subst (All P) (aired_chosen site packets) (chosen_all_of P (sent_flags site [] 0 packets) packets all)

pub aired_long : (site : SiteFields) (packets : Packets) → AreWholePackets packets →
    AreWholePackets (aired site packets)
aired_long site packets all = aired_all IsWholePacket site packets all

pub aired_synced : (site : SiteFields) (packets : Packets) → AreSynced packets → AreSynced (aired site packets)
aired_synced site packets all = aired_all IsSynced site packets all
