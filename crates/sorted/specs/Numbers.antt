-- The number of a refused opening. Assumes nothing.
use Rattle.std.specs.Prelude.{ℕ}
use Rattle.sorted.specs.declared.opening.check.OpenFault.{OpenFault}
use Rattle.sorted.specs.declared.opening.check.OpenFault.TheVariants.{BadRows}

abbrev pub open_number : OpenFault → ℕ
open_number BadRows = 1
