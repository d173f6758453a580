-- The number of each fault of the positions. Assumes nothing.
use Rattle.std.specs.Prelude.{ℕ}
use Rattle.ordered.specs.Numbers.{index_number}
use Rattle.positions.specs.declared.fault.PositionFault.{PositionFault}
use Rattle.positions.specs.declared.fault.PositionFault.TheVariants.{BadMember, BadCode, BadLots, BeyondBounds, NotEmpty, Index}

abbrev pub position_number : PositionFault → ℕ
position_number BadMember = 31
position_number BadCode = 21
position_number BadLots = 32
position_number BeyondBounds = 33
position_number NotEmpty = 24
position_number (Index f) = index_number f
