-- What a good code and a good member are, as byte strings. Assumes nothing.
use Rattle.std.specs.Prelude.{ℕ, Bool, ◌&&◌, ◌||◌, List, length, ◌==◌, nat_le}
use Rattle.std.specs.List.{list_all}

-- A to Z, or 0 to 9
abbrev pub letter_or_digit : ℕ → Bool
letter_or_digit b = (nat_le 65 b && nat_le b 90) || (nat_le 48 b && nat_le b 57)

-- one of these, or a hyphen
abbrev pub code_byte : ℕ → Bool
code_byte b = letter_or_digit b || b == 45

abbrev pub max_code : ℕ
max_code = 20

abbrev pub member_length : ℕ
member_length = 4

-- 1 to 20 of the code's bytes
abbrev pub is_code : List ℕ → Bool
is_code s = nat_le 1 (length s) && nat_le (length s) max_code && list_all code_byte s

-- four letters or digits
abbrev pub is_member : List ℕ → Bool
is_member s = length s == member_length && list_all letter_or_digit s
