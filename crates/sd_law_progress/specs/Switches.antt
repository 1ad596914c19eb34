-- Public meaning: a broadcast that is cut off, and one that is joined while it runs.
use Rattle.std.specs.Prelude.{ℕ, ◌+◌, ◌-◌, ◌*◌, ◌/◌, true, false, ◌++◌, length, take, replicate}
use Rattle.sd_base.specs.Types.{Packets, PacketNumber}
use Rattle.sd_site_cards.specs.SiteFields.{SiteFields}
use Rattle.sd_spec.specs.Plan.{Plan, crypto_length}
use Rattle.sd_spec.specs.Sent.{sent}
use Rattle.sd_law_losses.specs.Channel.{Arrival}
use Rattle.sd_law_progress.specs.Progress.{things}

-- how many things are sent for the first i clear packets, up to and with the last of these
abbrev pub place_behind : Plan → Packets → ℕ → ℕ
place_behind plan clear i = length (sent plan (take i clear))

-- a broadcast of which all arrives up to and with its first i clear packets, and nothing behind them
abbrev pub cut_off : Plan → Packets → ℕ → Arrival
cut_off plan clear i =
    record { plan = plan; clear = clear; flags = replicate (place_behind plan clear i) true }

-- a broadcast of which nothing arrives up to and with its first j clear packets, and all behind them
abbrev pub joined_behind : Plan → Packets → ℕ → Arrival
joined_behind plan clear j = record {
  plan = plan;
  clear = clear;
  flags = replicate (place_behind plan clear j) false ++ replicate (length (things plan clear)) true;
}

-- the packet before which the last of the messages among the first i clear packets stands
abbrev pub last_message_at : SiteFields → ℕ → PacketNumber
last_message_at site i = (i - 1) / site.every * site.every

-- the first packet of a crypto period that isn't before packet j
abbrev pub next_crypto_at : SiteFields → PacketNumber → PacketNumber
next_crypto_at site j = (j + crypto_length site - 1) / crypto_length site * crypto_length site
