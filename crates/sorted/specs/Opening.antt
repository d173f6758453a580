-- When rows can be opened as a sorted row. Assumes nothing.
use Rattle.std.specs.Prelude.{ℕ, Bool, cond, ◌&&◌, Ok, Err, Result, ◌==◌, nat_le}
use Rattle.sorted.specs.declared.opening.Opening.{Opening}
use Rattle.sorted.specs.declared.opening.check.OpenFault.{OpenFault}
use Rattle.sorted.specs.declared.opening.check.OpenFault.TheVariants.{BadRows}
use Rattle.sorted.specs.Limits.{max_limit}
use Rattle.sorted.specs.Rows.{places}

-- the rows' lengths are equal, at least 1 and at most 4096
abbrev pub openable : ℕ → ℕ → Bool
openable keys values = nat_le 1 keys && nat_le keys max_limit && keys == values

-- the limit that rows of these lengths are opened with
abbrev pub opening : ℕ → ℕ → Result ℕ OpenFault
opening keys values = cond (openable keys values) (Ok keys) (Err BadRows)

abbrev pub limits : {V : Type 0} → Result (Opening V) OpenFault → Result ℕ OpenFault
limits (Ok o) = Ok (places o.rows)
limits (Err f) = Err f
