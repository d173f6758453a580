-- The tokens that are marked, by their codes: 0 is the end, b + 1 is the byte b. Assumes nothing.
use Rattle.std.specs.Prelude.{ℕ, zero, suc, Bool}
use Rattle.marks.specs.declared.marks.Marks.{Marks}
use Rattle.marks.specs.Bits.{marks_of}

abbrev pub byte_marked : Marks → ℕ → Bool
byte_marked m b = marks_of m.words b

abbrev pub marked : Marks → ℕ → Bool
marked m zero = m.end
marked m (suc b) = byte_marked m b
