-- Public meaning: names of site files that follow each other [this project, docs/FORMATS.md, Chains of sites].
use Rattle.std.specs.Prelude.{ℕ, ◌+◌, ◌-◌, ◌==◌, ◌&&◌, nat_lt, Bool, false, not, bytes_eq}
use Rattle.std.specs.Prelude.{List, length, take, drop, reverse, take_while, Option, Some, None}
use Rattle.std.specs.Char.{is_ascii_digit}
use Rattle.sd_base.specs.Number.{decimal_value}
use Rattle.sd_site_cards.specs.Chain.{most_word}

-- a name read from its end: what stands after its last digit
abbrev pub after_number : List ℕ → List ℕ
after_number name = reverse (take_while (λ c. not (is_ascii_digit c)) (reverse name))

-- all digits from the last digit back to the last character that is none
abbrev pub digits_in : List ℕ → List ℕ
digits_in name = reverse (take_while is_ascii_digit (drop (length (after_number name)) (reverse name)))

-- and what stands before these digits
abbrev pub before_number : List ℕ → List ℕ
before_number name = take (length name - length (digits_in name) - length (after_number name)) name

-- the second number is one above the first, which is below the greatest
abbrev pub is_one_up : Option ℕ → Option ℕ → Bool
is_one_up (Some n) (Some m) = nat_lt n most_word && (m == n + 1)
is_one_up (Some n) None = false
is_one_up None m = false

-- the second name is the first with its last number one higher [this project, docs/FORMATS.md, Chains of sites]
unfoldable pub follows : List ℕ → List ℕ → Bool
follows name next =
    bytes_eq (before_number name) (before_number next)
    && (bytes_eq (after_number name) (after_number next)
    && is_one_up (decimal_value (digits_in name)) (decimal_value (digits_in next)))
