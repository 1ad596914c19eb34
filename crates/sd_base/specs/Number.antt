-- Public meaning: decimal numbers, and words with a number on a line [this project, docs/FORMATS.md, Text files].
use Rattle.std.specs.Prelude.{ℕ, ◌==◌, ◌&&◌, ◌||◌, ◌^◌, Bool, not, nat_lt, List, take, drop, length, slice_index}
use Rattle.std.specs.Prelude.{bytes_eq, if◌then◌else◌, Option, Some, None, Result, Ok, Err, option_and_then}
use Rattle.std.specs.Str.{all_ascii_digits}
use Rattle.std.specs.Str.Parse.{digits_value}
use Rattle.sd_base.specs.declared.decimals.NumberFault.{NumberFault}
use Rattle.sd_base.specs.declared.decimals.NumberFault.TheVariants.{Malformed, TooLarge}

-- one or more digits, the first of which is no 0 unless it is the only one [this project, docs/FORMATS.md, Text files]
abbrev pub is_decimal : List ℕ → Bool
is_decimal text =
    nat_lt 0 (length text) && (all_ascii_digits text && (not (slice_index text 0 == 48) || length text == 1))

-- the number that a decimal says, however large
unfoldable pub decimal_value : List ℕ → Option ℕ
decimal_value text = if is_decimal text then Some (digits_value 10 text) else None

-- what stands after the word on a line that begins with it
unfoldable pub rest_after : List ℕ → List ℕ → Option (List ℕ)
rest_after word line = if bytes_eq (take (length word) line) word then Some (drop (length word) line) else None

-- the number on a line that is the word and a decimal
abbrev pub decimal_after : List ℕ → List ℕ → Option ℕ
decimal_after word line = option_and_then decimal_value (rest_after word line)

-- that number as a reader of 32 bits gives it
abbrev pub fitting_u32 : Option ℕ → Result ℕ NumberFault
fitting_u32 None = Err Malformed
fitting_u32 (Some n) = if nat_lt n (2 ^ 32) then Ok n else Err TooLarge
