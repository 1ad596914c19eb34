-- Public meaning: what is known of a packet that can be sent.
use Rattle.std.specs.Prelude.{◌≡◌, ◌≢◌, ◌-◌, ◌^◌, ◌≤◌, false, length}
use Rattle.sd_base.specs.Types.{Packet, Packets}
use Rattle.sd_packet.specs.Header.{pid_of, scrambling_of}
use Rattle.sd_site_cards.specs.SiteFields.{SiteFields}
use Rattle.sd_spec.specs.Plan.{word_of}
use Rattle.sd_spec.specs.Kinds.{kind_of}
use Rattle.sd_spec.specs.Refused.{is_reserved_pid, is_full_own, is_one_too_many}

-- no rule on clear packets is broken by one after these, whatever is wrong with it as a PAT [this project,
-- docs/FORMATS.md, Broadcast]
pub record IsAccepted (site : SiteFields) (before : Packets) (packet : Packet) : Type 0 where
  pub clear : scrambling_of packet ≡ 0
  pub untaken : is_reserved_pid site (pid_of packet) ≡ false
  pub own : is_full_own site (kind_of before packet) packet ≡ false
  pub room : is_one_too_many before packet ≡ false
  pub short : length before ≢ 2 ^ 32 - 1
  pub word : word_of site (length before) ≤ site.last_word
