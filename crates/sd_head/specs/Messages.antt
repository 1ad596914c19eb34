-- Inner: what a control message says beside its positions.
use Rattle.std.specs.Prelude.{ℕ, ◌/◌, ◌%◌, ◌==◌, Bool, false, if◌then◌else◌, Option, Some, None}
use Rattle.sd_site_cards.specs.SiteFields.{SiteFields, run_name_of}
use Rattle.sd_message.specs.declared.ecm_message.EcmHead.{EcmHead}
use Rattle.sd_spec.specs.Plan.{since_of}
use Rattle.sd_head.specs.declared.crypto.CryptoPeriod.{CryptoPeriod}

-- the message of this number in a crypto period, after so many clear packets [this project, docs/FORMATS.md, Messages]
unfoldable pub head_of_ecm : SiteFields → CryptoPeriod → ℕ → ℕ → Bool → EcmHead
head_of_ecm site crypto clear number closing = record {
  version = site.messages;
  number = number;
  period = crypto.period;
  word = crypto.number;
  clear = clear;
  since = since_of site.messages site.cryptos number;
  run = run_name_of site;
  closing = closing;
  wrapped = crypto.wrapped;
  check = crypto.check;
}

-- the number of the message that stands before the next packet after so many, if one does [this project,
-- docs/FORMATS.md, Broadcast]
unfoldable pub number_due : SiteFields → ℕ → Option ℕ
number_due site count = if count % site.every == 0 then Some (count / site.every) else None

-- the message that stands before the next packet after so many, if one does [this project, docs/FORMATS.md, Broadcast]
unfoldable pub message_due : SiteFields → CryptoPeriod → ℕ → Option EcmHead
message_due site crypto count =
    if count % site.every == 0 then Some (head_of_ecm site crypto count (count / site.every) false) else None
