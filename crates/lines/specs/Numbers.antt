-- The number of each fault of a line. Assumes nothing.
use Rattle.std.specs.Prelude.{ℕ}
use Rattle.lines.specs.declared.fault.LineFault.{LineFault}
use Rattle.lines.specs.declared.fault.LineFault.TheVariants.{TooLong, Malformed, NotANumber}

abbrev pub line_number : LineFault → ℕ
line_number TooLong = 43
line_number Malformed = 41
line_number NotANumber = 42
