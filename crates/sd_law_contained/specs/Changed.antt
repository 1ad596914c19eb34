-- Public meaning: broadcasts of which packets arrive with some bits changed, and what the head end reads of packets.
use Rattle.std.specs.Prelude.{◌≡◌, ℕ, ◌<◌, ◌⊎◌, ◌||◌, Bool, List, [], ◌∷◌, ◌++◌, length, slice_index, get_or, map}
use Rattle.std.specs.Prelude.{filter, bit_xor}
use Rattle.std.specs.List.{range_with_len}
use Rattle.sd_base.specs.Types.{Bytes, Packet, Packets, LeafNumber}
use Rattle.sd_packet.specs.Header.{pid_of, payload_start_of}
use Rattle.sd_spec.specs.Kinds.{kind_of}
use Rattle.sd_spec.specs.declared.kind.Kind.TheVariants.{Pmt}
use Rattle.sd_spec.specs.Sent.{Item, Cat, Entitles, Controls, Carries, sent, closing_of, broadcast}
use Rattle.sd_law_losses.specs.Chosen.{chosen}
use Rattle.sd_law_losses.specs.Kept.{after_cat}
use Rattle.sd_law_losses.specs.Confirmed.{is_confirmed_at, confirmed}
use Rattle.sd_law_losses.specs.Channel.{Arrival}
use Rattle.sd_law_losses.specs.Many.{kept_of_arrival, has_cat}

-- a packet with those bits changed that are 1 in the mask; what is behind the mask stays
abbrev pub changed_by : Packet → Bytes → Packet
changed_by [] mask = []
changed_by (byte ∷ packet) [] = byte ∷ packet
changed_by (byte ∷ packet) (bits ∷ mask) = bit_xor byte bits ∷ changed_by packet mask

-- packets, each with its mask's bits changed
abbrev pub all_changed : Packets → List Bytes → Packets
all_changed [] masks = []
all_changed (packet ∷ packets) [] = packet ∷ packets
all_changed (packet ∷ packets) (mask ∷ masks) = changed_by packet mask ∷ all_changed packets masks

-- the head end reads all of the packet, after these: it is a PMT's, or on PID 0 [this project, docs/FORMATS.md,
-- Broadcast]
abbrev pub IsTablePacket : Packets → Packet → Type 0
IsTablePacket before packet = (kind_of before packet ≡ Pmt) ⊎ (pid_of packet ≡ 0)

-- the mask changes nothing that the head end reads of the packet, after these: the PID, the fourth byte, which has both
-- controls and the counter, where the payload starts, and nothing of a table
pub record IsHarmless (before : Packets) (packet : Packet) (mask : Bytes) : Type 0 where
  pub bytes : (i : ℕ) → slice_index mask i < 256
  pub pid : pid_of (changed_by packet mask) ≡ pid_of packet
  pub fourth : slice_index mask 3 ≡ 0
  pub start : payload_start_of (changed_by packet mask) ≡ payload_start_of packet
  pub table : IsTablePacket before packet → mask ≡ []

-- there is a mask for each of these packets, after others, and none of the masks does harm
abbrev pub AreHarmless : Packets → Packets → List Bytes → Type 0
AreHarmless before [] [] = Unit {0}
AreHarmless before [] (mask ∷ masks) = ⊥
AreHarmless before (packet ∷ packets) [] = ⊥
AreHarmless before (packet ∷ packets) (mask ∷ masks) =
    IsHarmless before packet mask × AreHarmless (before ++ packet ∷ []) packets masks

-- a broadcast of which packets arrive, and the masks of its clear packets
pub record Damaged : Type 0 where
  pub run : Arrival
  pub masks : List Bytes

-- the masks do no harm to any of the broadcasts
abbrev pub AreAllHarmless : List Damaged → Type 0
AreAllHarmless [] = Unit {0}
AreAllHarmless (one ∷ more) = AreHarmless [] one.run.clear one.masks × AreAllHarmless more

-- the broadcasts as they were sent
abbrev pub runs_sent : List Damaged → List Arrival
runs_sent damaged = map (λ one. one.run) damaged

-- the broadcast of the changed clear stream, of which the same packets arrive
abbrev pub run_changed : Damaged → Arrival
run_changed one =
    record { plan = one.run.plan; clear = all_changed one.run.clear one.masks; flags = one.run.flags }

-- those of all
abbrev pub runs_changed : List Damaged → List Arrival
runs_changed damaged = map run_changed damaged

-- the mask of a thing that is sent: that of its clear packet, and none for the messages
abbrev pub mask_of : List Bytes → Item → Bytes
mask_of masks (Carries j packet) = get_or masks j []
mask_of masks Cat = []
mask_of masks (Entitles emm) = []
mask_of masks (Controls part) = []

-- the masks of the packets of a broadcast that arrive
abbrev pub masks_arriving : Damaged → List Bytes
masks_arriving one =
    chosen one.run.flags
    (map (mask_of one.masks) (sent one.run.plan one.run.clear ++ closing_of one.run.plan one.run.clear))

-- the packets that arrive, with the bits changed of those that carry clear packets. The messages are as they were sent
abbrev pub arriving_changed : List Damaged → Packets
arriving_changed [] = []
arriving_changed (one ∷ more) =
    all_changed (chosen one.run.flags (broadcast one.run.plan one.run.clear)) (masks_arriving one)
    ++ arriving_changed more

-- the masks of the clear packets of a broadcast that are confirmed to leaf u
abbrev pub masks_confirmed : Bool → LeafNumber → Damaged → List Bytes
masks_confirmed tuned u one =
    map (λ j. get_or one.masks j [])
    (filter (is_confirmed_at one.run.plan u one.run.clear (after_cat (kept_of_arrival tuned one.run)))
    (range_with_len 0 (length one.run.clear)))

-- the clear packets that are confirmed to leaf u, with these bits changed
abbrev pub confirmed_changed : Bool → LeafNumber → List Damaged → Packets
confirmed_changed tuned u [] = []
confirmed_changed tuned u (one ∷ more) =
    all_changed (confirmed one.run.plan u one.run.clear (kept_of_arrival tuned one.run)) (masks_confirmed tuned u one)
    ++ confirmed_changed (tuned || has_cat one.run) u more
