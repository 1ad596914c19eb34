-- Public meaning: what the lines of a field say of the clear packets that are confirmed to its receivers [this project,
-- docs/FORMATS.md, Field]. Here events are listed with the oldest first.
use Rattle.std.specs.Prelude.{◌≡◌, ◌^◌, ◌<◌, ◌≤◌, ℕ, zero, suc, true, List, ◌++◌, All, length, reverse}
use Rattle.std.specs.List.{concat}
use Rattle.sd_base.specs.Types.{Bytes, Packets, LeafNumber, PacketNumber}
use Rattle.sd_site_cards.specs.SiteFields.{SiteFields, AreInRange}
use Rattle.sd_book.specs.Commands.{last_period}
use Rattle.sd_spec.specs.Plan.{IsPlan, Plan}
use Rattle.sd_spec.specs.Refused.{IsClear}
use Rattle.sd_spec.specs.Sent.{body}
use Rattle.sd_law_broadcast.specs.Packets.{AreWholePackets}
use Rattle.sd_law_broadcast.specs.Synced.{AreSynced}
use Rattle.sd_law_losses.specs.Confirmed.{packets_at}
use Rattle.sd_spec.specs.declared.event.Event.{Event}
use Rattle.sd_spec.specs.Book.{sends, plan_after}
use Rattle.sd_spec.specs.Events.{is_of}
use Rattle.sd_spec.specs.Watch.{watch, written}
use Rattle.sd_law_field.specs.Times.{plan_card, confirmed_to_leaf, clear_sent_in}
use Rattle.sd_field.specs.Fields.{FieldValue, plan_of_field}
use Rattle.sd_field.specs.Fields as field
use Rattle.sd_run_broadcasts.specs.Field.{digest_of, first_line, field_receiver_line}

-- the clear packets that the events send
abbrev pub sent_for : Packets → List Event → Packets
sent_for clear events = clear_sent_in clear (reverse events)

-- the site with the book of the events
abbrev pub plan_for : SiteFields → Packets → List Event → Plan
plan_for site clear events = plan_after site (length clear) (reverse events)

-- the numbers of the clear packets that are confirmed to leaf u, in all times that its receiver was on
abbrev pub confirmed_places : SiteFields → Packets → List Event → LeafNumber → List PacketNumber
confirmed_places site clear events u = confirmed_to_leaf (plan_for site clear events) u (sent_for clear events)
    (watch (plan_for site clear events) clear u (reverse events))

-- the line of leaf u, if exactly the confirmed clear packets are written
unfoldable pub confirmed_line : SiteFields → Packets → List Event → LeafNumber → Bytes
confirmed_line site clear events u =
    field_receiver_line u (length (confirmed_places site clear events u))
    (digest_of (concat (packets_at (sent_for clear events) (confirmed_places site clear events u))))

-- the first line of a field, and then those of the first n leaves
unfoldable pub confirmed_lines : SiteFields → Packets → List Event → ℕ → Bytes
confirmed_lines site clear events zero =
    first_line (sends (length clear) (reverse events))
    (length (body (plan_for site clear events) (sent_for clear events)))
    (last_period (plan_for site clear events).commands)
confirmed_lines site clear events (suc n) =
    confirmed_lines site clear events n ++ confirmed_line site clear events n

-- a site, whole packets and events of its tree, within the limits of a field; of what is sent no packet is refused
pub record IsGoodField (site : SiteFields) (clear : Packets) (events : List Event) : Type 0 where
  pub range : AreInRange site
  pub system : site.ca < 2 ^ 16
  pub low : site.height ≤ 6
  pub few : length events ≤ 524288
  pub leaves : All (λ event. is_of site.height event ≡ true) (reverse events)
  pub whole : AreWholePackets (sent_for clear events)
  pub synced : AreSynced (sent_for clear events)
  pub sent : IsClear site (sent_for clear events)

-- what leaf u's receivers write, one time after the other, if the head end sends by this plan
abbrev pub wrote_by : Plan → Packets → List Event → LeafNumber → Packets
wrote_by plan clear events u =
    written plan (plan_card plan u) (sent_for clear events) (watch plan clear u (reverse events))

-- the same by the site with the book of the events
abbrev pub wrote_for : SiteFields → Packets → List Event → LeafNumber → Packets
wrote_for site clear events u = wrote_by (plan_for site clear events) clear events u

-- a field over whole packets, as `Field` keeps it: `sends` of a field answers the last two
pub record IsWhole (v : FieldValue) : Type 0 where
  pub low : v.site.height ≤ 6
  pub whole : AreWholePackets v.clear
  pub synced : AreSynced v.clear
  pub plan : IsPlan (plan_of_field v)
  pub sent : IsClear v.site (field.field_clear_packets v)
