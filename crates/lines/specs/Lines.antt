-- Bytes of input as lines. Assumes nothing.
use Rattle.std.specs.Prelude.{ℕ, Bool, true, false, cond, not, ◌&&◌, List, [], ◌∷◌, ◌++◌, length, Some, None, Option, Result, ◌==◌, nat_lt}
use Rattle.std.specs.Option.{ok_or}
use Rattle.lines.specs.declared.fault.LineFault.{LineFault}
use Rattle.lines.specs.declared.fault.LineFault.TheVariants.{TooLong}

-- the most bytes of a line
abbrev pub max_line : ℕ
max_line = 80

-- a line being read: its bytes, unless there are more than 80, and whether its newline came
abbrev pub Reading : Type 0
Reading = Option (List ℕ) × Bool

abbrev pub grown : Option (List ℕ) → ℕ → Option (List ℕ)
grown None b = None
grown (Some s) b = cond (nat_lt (length s) max_line) (Some (s ++ b ∷ [])) None

-- what was read of the line that the next byte belongs to
abbrev pub begun : Reading → Option (List ℕ)
begun r = cond r.1 (Some []) r.0

abbrev pub fed : Reading → ℕ → Reading
fed r b = cond (b == 10) (begun r, true) (grown (begun r) b, false)

abbrev pub any : Option (List ℕ) → Bool
any None = true
any (Some s) = not (length s == 0)

abbrev pub pending : Reading → Bool
pending r = not r.1 && any r.0

abbrev pub line_reply : Option (List ℕ) → Result (List ℕ) LineFault
line_reply line = ok_or line TooLong
