-- The number of each fault of an ordered index. Assumes nothing.
use Rattle.std.specs.Prelude.{ℕ}
use Rattle.ordered.specs.declared.fault.IndexFault.{IndexFault}
use Rattle.ordered.specs.declared.fault.IndexFault.TheVariants.{KeyTooLong, Full, NotHeld, UnequalRows}

abbrev pub index_number : IndexFault → ℕ
index_number KeyTooLong = 11
index_number Full = 12
index_number NotHeld = 13
index_number UnequalRows = 14
