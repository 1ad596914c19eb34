-- Public meaning: the site that follows a site in a chain [this project, docs/FORMATS.md, Chains of sites].
use Rattle.std.specs.Prelude.{ℕ, ◌+◌, Bool, nat_le, max}
use Rattle.sd_site_cards.specs.SiteFields.{SiteFields}

-- the greatest number of a control word
abbrev pub most_word : ℕ
most_word = 4294967295

-- so many control words are left above the site's last one
abbrev pub has_word_room : ℕ → SiteFields → Bool
has_word_room words site = nat_le (site.last_word + words) most_word

-- the site of a broadcast at the same time: so many control words after the site's, the same first period
abbrev pub twin_site : ℕ → SiteFields → SiteFields
twin_site words site = record site {
  messages = 3;
  first_word = site.last_word + 1;
  last_word = site.last_word + words;
}

-- the site of a broadcast after it: so many control words after the site's, and a first period above the site's own
-- and above the last one of its book
abbrev pub next_site : ℕ → ℕ → SiteFields → SiteFields
next_site last words site = record (twin_site words site) { first_period = max site.first_period last + 1 }
