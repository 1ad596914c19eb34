-- Public meaning: what the loss of one thing of a broadcast costs.
use Rattle.std.specs.Prelude.{◌≡◌, ℕ, ◌+◌, ◌*◌, ◌%◌, ◌^◌, ◌<◌, ◌≤◌, ◌==◌, ◌||◌, ◌⊎◌, true, false, List, ◌∷◌, ◌++◌}
use Rattle.std.specs.Prelude.{length, take, drop, if◌then◌else◌}
use Rattle.std.specs.List.{list_any}
use Rattle.sd_base.specs.Types.{Packets, Pid, LeafNumber, PacketNumber}
use Rattle.sd_packet.specs.Positions.{is_positional, position_of}
use Rattle.sd_site_cards.specs.SiteFields.{SiteFields}
use Rattle.sd_spec.specs.Plan.{Plan, IsPlan, crypto_length, period_of}
use Rattle.sd_spec.specs.Refused.{IsSendable}
use Rattle.sd_spec.specs.Sent.{Item, Cat, Entitles, Controls, Carries, sent, closing_of, is_cat_item}
use Rattle.sd_law_broadcast.specs.Packets.{AreWholePackets}
use Rattle.sd_law_losses.specs.Kept.{after_cat, is_section_item}
use Rattle.sd_law_losses.specs.Confirmed.{is_confirmed_at, is_revoked_in}

-- the number of due clear packets that are not written, at most, if one thing is lost; `before` is what was sent before
-- it. A clear packet costs itself. The first CAT costs a crypto period, and so does a section that was not sent before.
-- A part of message 0 or of the closing message costs the packets between two messages. A part of the first message of
-- a crypto period costs twice as many, and so does a part of any other message of version 1. All else costs nothing
-- [this project, docs/FORMATS.md, Receiver]
unfoldable pub cost : SiteFields → List Item → Item → ℕ
cost site before (Carries j packet) = 1
cost site before Cat = if list_any is_cat_item before then 0 else crypto_length site
cost site before (Entitles emm) =
    if list_any (is_section_item emm.period emm.index) before then 0 else crypto_length site
cost site before (Controls part) =
    if (part.number == 0) || part.closing then site.every
    else (if (part.number % site.cryptos == 0) || (site.messages == 1) then 2 * site.every else 0)

-- no packet raises the position of its PID by more than `most` [this project, docs/FORMATS.md, Positions]
abbrev pub RiseByAtMost : ℕ → Packets → Type 0
RiseByAtMost most clear = (pid : Pid) (k : PacketNumber) → is_positional pid ≡ true →
    position_of pid (take (k + 1) clear) ≤ position_of pid (take k clear) + most

-- no packet raises the position of its PID by more than 15, and no two neighbouring packets of a PID raise it by more
-- than 16 together: if one of them is lost, the others are no wide gap apart [this project, docs/FORMATS.md, Positions]
pub record RiseNarrowly (clear : Packets) : Type 0 where
  pub one : (pid : Pid) (j : PacketNumber) → is_positional pid ≡ true →
      position_of pid (take (j + 1) clear) ≤ position_of pid (take j clear) + 15
  pub two : (pid : Pid) (j k : PacketNumber) → is_positional pid ≡ true → j < k →
      position_of pid (take k clear) ≡ position_of pid (take (j + 1) clear) →
      position_of pid (take (k + 1) clear) ≤ position_of pid (take j clear) + 16

-- what is sent for a clear stream is the things `before`, then `item`, then the things `after`
abbrev pub IsSentBetween : Plan → Packets → List Item → Item → List Item → Type 0
IsSentBetween plan clear before item after = sent plan clear ++ closing_of plan clear ≡ before ++ item ∷ after

-- `item` is lost of a broadcast in which it is sent between `before` and `after`, and u is a leaf of the site
pub record IsLost (plan : Plan) (clear : Packets) (u : LeafNumber) (before : List Item) (item : Item)
    (after : List Item) : Type 0 where
  pub is_plan : IsPlan plan
  pub is_sendable : IsSendable plan.site clear
  pub are_whole : AreWholePackets clear
  pub leaf : u < 2 ^ plan.site.height
  pub place : IsSentBetween plan clear before item after

-- all packets but number n
abbrev pub without : ℕ → Packets → Packets
without n packets = take n packets ++ drop (n + 1) packets

-- if these things are kept, all clear packets that are due to leaf u are confirmed, except some of `count` packets from
-- number `low` on
abbrev pub AreConfirmedOutside : Plan → LeafNumber → Packets → List Item → PacketNumber → ℕ → Type 0
AreConfirmedOutside plan u clear kept low count = (j : PacketNumber) → j < length clear →
    is_revoked_in plan u (period_of plan j) ≡ false → (j < low) ⊎ (low + count ≤ j) →
    is_confirmed_at plan u clear (after_cat kept) j ≡ true

-- all are confirmed except some of `count` consecutive packets
abbrev pub AreConfirmedBut : Plan → LeafNumber → Packets → List Item → ℕ → Type 0
AreConfirmedBut plan u clear kept count = (low : PacketNumber) × AreConfirmedOutside plan u clear kept low count
