-- Numbers in a line. Assumes nothing.
use Rattle.std.specs.Prelude.{ℕ, zero, suc, ◌+◌, ◌-◌, ◌*◌, Bool, cond, not, ◌&&◌, List, [], ◌∷◌, length, ℤ, pos, negsuc, Some, None, fold, Option, Result, ◌==◌, nat_le, nat_lt, slice_index}
use Rattle.std.specs.Option.{option_map, ok_or}
use Rattle.std.specs.Str.{all_ascii_digits}
use Rattle.lines.specs.declared.fault.LineFault.{LineFault}
use Rattle.lines.specs.declared.fault.LineFault.TheVariants.{NotANumber}

-- the most digits that a number has
abbrev pub max_digits : ℕ
max_digits = 10

-- one to ten digits, the first of them 0 only if it is the only one
abbrev pub is_number : List ℕ → Bool
is_number w = nat_le 1 (length w) && nat_le (length w) max_digits && not (slice_index w 0 == 48 && nat_lt 1 (length w)) && all_ascii_digits w

abbrev pub value : List ℕ → ℕ
value w = fold (λ n b. n * 10 + (b - 48)) 0 w

abbrev pub number : List ℕ → Option ℕ
number w = cond (is_number w) (Some (value w)) None

-- a number of lots: with a minus, any but 0
abbrev pub negated : Option ℕ → Option ℤ
negated None = None
negated (Some zero) = None
negated (Some (suc n)) = Some (negsuc n)

abbrev pub plain : Option ℕ → Option ℤ
plain n = option_map pos n

abbrev pub lots_number : List ℕ → Option ℤ
lots_number [] = plain (number [])
lots_number (b ∷ w) = cond (b == 45) (negated (number w)) (plain (number (b ∷ w)))

abbrev pub number_reply : Option ℤ → Result ℤ LineFault
number_reply lots = ok_or lots NotANumber
