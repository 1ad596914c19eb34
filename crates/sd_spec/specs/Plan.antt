-- Public meaning: what a broadcast is made of, and its schedule.
use Rattle.std.specs.Prelude.{ℕ, zero, suc, ◌+◌, ◌-◌, ◌*◌, ◌/◌, ◌^◌, ◌<◌, min, List}
use Rattle.sd_base.specs.Types.{PeriodNumber, CryptoNumber, WordNumber, PacketNumber, MessageNumber}
use Rattle.sd_tree_keys.specs.declared.set.SetName.{SetName}
use Rattle.sd_site_cards.specs.SiteFields.{SiteFields, AreInRange}
use Rattle.sd_book.specs.declared.command.Command.{Command}
use Rattle.sd_book.specs.Commands.{last_period, revoked}
use Rattle.sd_book.specs.Limits.{IsWithinLimits}
use Rattle.sd_cover_tracing.specs.Cover.{cover_of}

-- a site and the commands of a book
pub record Plan : Type 0 where
  pub site : SiteFields
  pub commands : List Command

-- the sets of period q: the cover of the leaves that are revoked in it [Naor, Naor, Lotspiech 2001, 3.2]
unfoldable pub sets_at : Plan → PeriodNumber → List SetName
sets_at plan q = cover_of plan.site.height (revoked plan.site.height plan.commands q)

-- the site is in its ranges, and the book is one of its height within the limits
pub record IsPlan (plan : Plan) : Type 0 where
  pub site : AreInRange plan.site
  pub ca : plan.site.ca < 2 ^ 16
  pub book : IsWithinLimits plan.site.height plan.commands

-- how many clear packets a crypto period has [this project, docs/FORMATS.md, Broadcast]
abbrev pub crypto_length : SiteFields → ℕ
crypto_length site = site.every * site.cryptos

-- the crypto period of packet k, counted from 0 in each broadcast [this project, docs/FORMATS.md, Broadcast]
unfoldable pub crypto_of : SiteFields → PacketNumber → CryptoNumber
crypto_of site k = k / crypto_length site

-- the number of the control word of crypto period n [this project, docs/FORMATS.md, Broadcast]
abbrev pub word_in : SiteFields → CryptoNumber → WordNumber
word_in site n = site.first_word + n

-- the number of the control word of packet k [this project, docs/FORMATS.md, Broadcast]
unfoldable pub word_of : SiteFields → PacketNumber → WordNumber
word_of site k = word_in site (crypto_of site k)

-- the period of crypto period n: the site's first period, then the next with each span, up to the book's last, which
-- goes on to the end; a first period after the book's last goes on to the end [this project, docs/FORMATS.md,
-- Broadcast]
unfoldable pub period_in : Plan → CryptoNumber → PeriodNumber
period_in plan n =
    plan.site.first_period + min (n / plan.site.span) (last_period plan.commands - plan.site.first_period)

-- the period of packet k [this project, docs/FORMATS.md, Broadcast]
unfoldable pub period_of : Plan → PacketNumber → PeriodNumber
period_of plan k = period_in plan (crypto_of plan.site k)

-- the first control message from which on all packets up to message b have one control word, in versions 2 and 3; in
-- version 1 the one before [this project, docs/FORMATS.md, Messages]
abbrev pub since_of : ℕ → ℕ → MessageNumber → MessageNumber
since_of version cryptos zero = 0
since_of (suc (suc v)) cryptos (suc b) = (b / cryptos) * cryptos
since_of version cryptos (suc b) = b

-- the number of the closing message after m packets: as many as there are begun stretches of e packets
-- [this project, docs/FORMATS.md, Broadcast]
abbrev pub closing_number : SiteFields → ℕ → MessageNumber
closing_number site m = (m + site.every - 1) / site.every
