-- Public meaning: which clear packets are due, and what is kept of a broadcast where little is lost.
use Rattle.std.specs.Prelude.{◌≡◌, ℕ, ◌+◌, ◌-◌, ◌*◌, ◌<◌, ◌≤◌, ◌==◌, ◌&&◌, Bool, true, false, not, min}
use Rattle.std.specs.Prelude.{List, [], ◌∷◌, ◌++◌, length, filter, take, count_by, get_or, if◌then◌else◌}
use Rattle.std.specs.List.{list_any, range_with_len}
use Rattle.sd_base.specs.Types.{Packets, Arrived, LeafNumber, PacketNumber, MessageNumber}
use Rattle.sd_packet.specs.Header.{pid_of}
use Rattle.sd_spec.specs.Plan.{Plan, period_of}
use Rattle.sd_spec.specs.Kinds.{kind_of, is_scrambled}
use Rattle.sd_spec.specs.Sent.{Item, Cat, Entitles, Controls, Carries, sent, closing_of, is_cat_item}
use Rattle.sd_law_losses.specs.Kept.{is_kept, entitles, after_cat}
use Rattle.sd_law_losses.specs.Confirmed.{packet_at, packets_at, upto, is_confirmed_at, is_revoked_in}
use Rattle.sd_law_losses.specs.Gaps.{has_no_gap}

-- all things of a broadcast, in order [this project, docs/FORMATS.md, Broadcast]
abbrev pub things : Plan → Packets → List Item
things plan clear = sent plan clear ++ closing_of plan clear

-- clear packet j is of a period in which leaf u isn't revoked
abbrev pub is_due : Plan → LeafNumber → PacketNumber → Bool
is_due plan u j = not (is_revoked_in plan u (period_of plan j))

-- the thing is a clear packet
abbrev pub is_clear_item : Item → Bool
is_clear_item (Carries j packet) = true
is_clear_item Cat = false
is_clear_item (Entitles emm) = false
is_clear_item (Controls part) = false

-- the things that aren't clear packets
abbrev pub messages_in : List Item → List Item
messages_in items = filter (λ item. not (is_clear_item item)) items

-- all CATs, all sections and all parts of control messages are kept
abbrev pub AreMessagesKept : Plan → Packets → List Item → Type 0
AreMessagesKept plan clear kept = messages_in kept ≡ messages_in (things plan clear)

-- clear packet j is scrambled
abbrev pub is_scrambled_at : Packets → PacketNumber → Bool
is_scrambled_at clear j = is_scrambled (kind_of (take j clear) (packet_at clear j))

-- between two neighbouring messages no PID of a scrambled packet that is kept has a wide gap: no 16 of its positions in
-- a row are lost
abbrev pub HaveNoGaps : Plan → Packets → List Item → Type 0
HaveNoGaps plan clear kept = (a : MessageNumber) (j : PacketNumber) → a * plan.site.every ≤ j →
    j < upto plan clear (a + 1) → is_kept kept j ≡ true → is_scrambled_at clear j ≡ true →
    has_no_gap plan clear kept a (a + 1) (pid_of (packet_at clear j)) ≡ true

-- the kept clear packets that are due to leaf u
unfoldable pub kept_due : Plan → LeafNumber → Packets → List Item → Packets
kept_due plan u clear kept =
    packets_at clear (filter (λ j. is_kept kept j && is_due plan u j) (range_with_len 0 (length clear)))

-- of these flags all are set from place x on, up to the n-th
abbrev pub AreSetFrom : ℕ → ℕ → Arrived → Type 0
AreSetFrom x n flags = (i : ℕ) → x ≤ i → i < n → get_or flags i false ≡ true

-- all things of the broadcast from place x on are kept
abbrev pub AreKeptFrom : Plan → Packets → ℕ → Arrived → Type 0
AreKeptFrom plan clear x flags = AreSetFrom x (length (things plan clear)) flags

-- all things of the broadcast before place x are kept
abbrev pub AreKeptBefore : Plan → Packets → ℕ → Arrived → Type 0
AreKeptBefore plan clear x flags = AreSetFrom 0 (min x (length (things plan clear))) flags

-- how many clear packets are among the first x things
abbrev pub packets_before : Plan → Packets → ℕ → ℕ
packets_before plan clear x = count_by is_clear_item (take x (things plan clear))

-- the due clear packets from number low on, below number high
unfoldable pub due_in : Plan → LeafNumber → Packets → PacketNumber → PacketNumber → Packets
due_in plan u clear low high = packets_at clear (filter (is_due plan u) (range_with_len low (high - low)))

-- the confirmed clear packets from number low on, below number high
unfoldable pub confirmed_in : Plan → LeafNumber → Packets → List Item → PacketNumber → PacketNumber → Packets
confirmed_in plan u clear kept low high =
    packets_at clear (filter (is_confirmed_at plan u clear (after_cat kept)) (range_with_len low (high - low)))

-- a part of message n
abbrev pub is_part_of : MessageNumber → Item → Bool
is_part_of n (Controls part) = part.number == n
is_part_of n Cat = false
is_part_of n (Entitles emm) = false
is_part_of n (Carries j packet) = false

-- the things before the first part of message n
unfoldable pub before_message : MessageNumber → List Item → List Item
before_message n [] = []
before_message n (item ∷ items) = if is_part_of n item then [] else item ∷ before_message n items

-- before message n a CAT is kept, and behind it, where it is due to leaf u, the key of the message's period: a section
-- of the period with a set that has the leaf
pub record IsKnownBefore (plan : Plan) (u : LeafNumber) (n : MessageNumber) (kept : List Item) : Type 0 where
  pub cat : list_any is_cat_item (before_message n kept) ≡ true
  pub key : is_due plan u (n * plan.site.every) ≡ true →
      list_any (entitles plan.site.height u (period_of plan (n * plan.site.every))) (after_cat (before_message n kept))
      ≡ true
