-- What holds of lines and numbers, told without the steps that read them. Assumes nothing.
use Rattle.std.specs.Prelude.{◌≡◌, ℕ, ◌^◌, ◌<◌, false, cond, List, [], ◌∷◌, map, length, ℤ, Some, None, Option, ◌==◌, nat_lt, unsigned_abs}
use Rattle.std.specs.Fmt.{signed_decimal}
use Rattle.lines.specs.Words.{split}
use Rattle.lines.specs.Lines.{max_line, Reading, fed, pending}
use Rattle.lines.specs.Decimals.{max_digits, lots_number}

-- ---- the lines of an input: what stands before each newline, and what stands behind the last one, if anything does

abbrev pub trimmed : List (List ℕ) → List (List ℕ)
trimmed [] = []
trimmed (w ∷ []) = cond (length w == 0) [] (w ∷ [])
trimmed (w ∷ v ∷ ws) = w ∷ trimmed (v ∷ ws)

abbrev pub lines : List ℕ → List (List ℕ)
lines input = trimmed (split 10 input)

-- a line of more than 80 bytes is not kept
abbrev pub kept : List ℕ → Option (List ℕ)
kept line = cond (nat_lt max_line (length line)) None (Some line)

-- the lines that are answered as the bytes are fed one by one, and once they are at their end
abbrev pub answered : Reading → List ℕ → List (Option (List ℕ))
answered r [] = cond (pending r) (r.0 ∷ []) []
answered r (b ∷ input) = cond (b == 10) ((fed r b).0 ∷ answered (fed r b) input) (answered (fed r b) input)

pub record Laws : Type 0 where
  -- each line of the input is answered once, in order, and no other
  pub every_line : (input : List ℕ) → answered (Some [], false) input ≡ map kept (lines input)
  -- the words that are read as a number of lots are those that it is written as, with at most ten digits
  pub lots_read : (lots : ℤ) → unsigned_abs lots < 10 ^ max_digits → lots_number (signed_decimal lots) ≡ Some lots
  pub lots_written : (word : List ℕ) (lots : ℤ) → lots_number word ≡ Some lots → (word ≡ signed_decimal lots) × (unsigned_abs lots < 10 ^ max_digits)
