-- Public meaning: a stream of which what tells a receiver something and what is of one PID arrives as it was sent.
use Rattle.std.specs.Prelude.{◌≡◌, ◌^◌, ◌<◌, true, List, []}
use Rattle.sd_base.specs.Types.{Packets, Pid, LeafNumber}
use Rattle.sd_site_cards.specs.CardFields.{CardFields}
use Rattle.sd_spec.specs.Counting.{counting}
use Rattle.sd_law_losses.specs.Channel.{Channel, Arrival, AreRunsOf, arriving, channel_card}
use Rattle.sd_law_contained.specs.Alone.{packets_alone, few_held_in}

-- of the packets that count, those of the PID and those that tell the receiver something are together, and in this
-- order, what arrives of these broadcasts
pub record IsContained (channel : Channel) (runs : List Arrival) (u : LeafNumber) (pid : Pid) (packets : Packets)
    : Type 0 where
  pub runs_of : AreRunsOf channel runs
  pub leaf : u < 2 ^ channel.height
  pub few : few_held_in (channel_card channel u) [] (counting (channel_card channel u) [] packets) ≡ true
  pub told : packets_alone (channel_card channel u) pid [] (counting (channel_card channel u) [] packets)
      ≡ arriving runs
