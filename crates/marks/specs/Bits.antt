-- Bits of words of 64. Assumes nothing.
use Rattle.std.specs.Prelude.{ℕ, ◌-◌, ◌/◌, ◌%◌, ◌^◌, Bool, not, List, [], ◌∷◌, ◌==◌, slice_index}
use Rattle.std.specs.Int.{bit_at}

-- whether bit i of a word is set
abbrev pub has : ℕ → ℕ → Bool
has w i = bit_at w i == 1

-- whether b is marked in a row of words: bit b % 64 of word b / 64
abbrev pub marks_of : List ℕ → ℕ → Bool
marks_of words b = has (slice_index words (b / 64)) (b % 64)

-- whether word i is not 0
abbrev pub used : List ℕ → ℕ → Bool
used words i = not (slice_index words i == 0)

-- the words with only the marks below n
abbrev pub clip : ℕ → List ℕ → List ℕ
clip n [] = []
clip n (w ∷ ws) = w % 2 ^ n ∷ clip (n - 64) ws
