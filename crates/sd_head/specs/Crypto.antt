-- Public meaning: a crypto period, and the sets that have a key.
use Rattle.std.specs.Prelude.{ℕ, ◌≤◌, List}
use Rattle.sd_tree_keys.specs.Node.{IsAbove}
use Rattle.sd_tree_keys.specs.declared.set.SetName.{SetName}
use Rattle.sd_tree_keys.specs.declared.set.SetName.TheVariants.{Whole, Diff}
use Rattle.sd_tree_keys.specs.Keys.{period_key_of, control_word_of, check_value_of}
use Rattle.sd_cipher.specs.Wrapping.{wrapped as under}
use Rattle.sd_head.specs.declared.crypto.CryptoPeriod.{CryptoPeriod}

-- the crypto period of control word t and period q, with the word under the period's key [this project,
-- docs/FORMATS.md, Messages]
unfoldable pub crypto_in : List ℕ → ℕ → ℕ → CryptoPeriod
crypto_in master q t = record {
  number = t;
  period = q;
  word = control_word_of master t;
  wrapped = under (period_key_of master q) t (control_word_of master t);
  check = check_value_of (control_word_of master t);
}

-- the set has a key: it is the whole set, or of a node and one below it [Naor, Naor, Lotspiech 2001, 3.2]
abbrev pub IsKeyed : SetName → Type 0
IsKeyed Whole = Unit {0}
IsKeyed (Diff i j) = (1 ≤ i) × IsAbove i j
