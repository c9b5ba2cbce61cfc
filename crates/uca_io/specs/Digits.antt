-- Numbers in hexadecimal digits.
use Rattle.std.specs.Prelude.{ℕ, ◌+◌, ◌*◌, ◌/◌, ◌%◌, Bool, ◌&&◌, nat_le, nat_lt, List, [], ◌∷◌, length, Option, Some, None, if◌then◌else◌}
use Rattle.std.specs.Char.{digit_value, is_digit}
use Rattle.std.specs.Option.{option_and_then}
use lib.Utf8.{scalar}

-- a number and the hexadecimal digits after it, of either case
abbrev pub number_after : ℕ → List ℕ → Option ℕ
number_after n [] = Some n
number_after n (b ∷ bytes) = if is_digit b 16 then number_after (n * 16 + digit_value b) bytes else None

-- the number that hexadecimal digits say
abbrev pub number : List ℕ → Option ℕ
number digits = number_after 0 digits

abbrev pub is_four_to_six : ℕ → Bool
is_four_to_six n = nat_le 4 n && nat_le n 6

-- a scalar value as it is: at most 10FFFF, and no surrogate
abbrev pub only_scalar : ℕ → Option ℕ
only_scalar c = if scalar c then Some c else None

-- the code point that four to six digits say
unfoldable pub code_point : List ℕ → Option ℕ
code_point digits = if is_four_to_six (length digits) then option_and_then only_scalar (number digits) else None

-- an upper-case hexadecimal digit, `0` to `9` and `A` to `F`
abbrev pub hex_digit : ℕ → ℕ
hex_digit n = if nat_lt n 10 then 48 + n else 55 + n

-- a byte as two digits
abbrev pub hex_pair : ℕ → List ℕ
hex_pair b = hex_digit (b / 16) ∷ hex_digit (b % 16) ∷ []
