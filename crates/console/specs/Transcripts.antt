-- What is written as the bytes of an input are taken. Assumes nothing.
--     limit is the most positions that the index holds
use Rattle.std.specs.Prelude.{ℕ, suc, ◌-◌, ◌^◌, min, cond, List, [], ◌∷◌, ◌++◌, ℤ, Option, ◌==◌}
use Rattle.ordered.specs.Pairs.{Pairs}
use Rattle.lines.specs.Lines.{Reading, fed, pending, line_reply}
use Rattle.console.specs.Answers.{line_outcome, line_pairs, said}

-- the number of the next line, behind n lines: a 64-bit count
abbrev pub next_line : ℕ → ℕ
next_line n = min (suc n) (2 ^ 64 - 1)

-- the line being read, how many lines were answered, and the positions
pub record Standing : Type 0 where
  pub line : Reading
  pub count : ℕ
  pub pairs : Pairs ℤ

abbrev pub standing : Reading → ℕ → Pairs ℤ → Standing
standing line count pairs = record { line = line; count = count; pairs = pairs }

-- ---- one line, which may be too long to be kept: its answer, on lines of its own, and the positions behind it

abbrev pub answer_to : ℕ → ℕ → Pairs ℤ → Option (List ℕ) → List ℕ
answer_to limit count pairs line = said (next_line count) (line_outcome pairs limit (line_reply line)) ++ (10 ∷ [])

abbrev pub pairs_behind : ℕ → Pairs ℤ → Option (List ℕ) → Pairs ℤ
pairs_behind limit pairs line = line_pairs pairs limit (line_reply line)

-- ---- byte by byte

abbrev pub text_at : ℕ → Standing → ℕ → List ℕ
text_at limit s b = cond (b == 10) (answer_to limit s.count s.pairs (fed s.line b).0) []

abbrev pub step : ℕ → Standing → ℕ → Standing
step limit s b =
    cond (b == 10) (standing (fed s.line b) (next_line s.count) (pairs_behind limit s.pairs (fed s.line b).0))
    (standing (fed s.line b) s.count s.pairs)

abbrev pub transcript : ℕ → Standing → List ℕ → List ℕ
transcript limit s [] = []
transcript limit s (b ∷ input) = text_at limit s b ++ transcript limit (step limit s b) input

abbrev pub after : ℕ → Standing → List ℕ → Standing
after limit s [] = s
after limit s (b ∷ input) = after limit (step limit s b) input

-- at the end of the input a line that was begun ends, as by a newline
abbrev pub ending : ℕ → Standing → List ℕ
ending limit s = cond (pending s.line) (text_at limit s 10) []

abbrev pub ended : ℕ → Standing → Standing
ended limit s = cond (pending s.line) (step limit s 10) s
