-- The number of each fault that a line may meet, and the layer that it comes from. Assumes nothing.
use Rattle.std.specs.Prelude.{ℕ}
use Rattle.positions.specs.declared.fault.PositionFault.{PositionFault}
use Rattle.positions.specs.declared.fault.PositionFault.TheVariants.{BadMember, BadCode, BadLots, BeyondBounds, NotEmpty, Index}
use Rattle.positions.specs.Numbers.{position_number}
use Rattle.lines.specs.Numbers.{line_number}
use Rattle.console.specs.declared.fault.Fault.{Fault}
use Rattle.console.specs.declared.fault.Fault.TheVariants.{Line, Positions}
use Rattle.console.specs.declared.fault.Layer.{Layer}
use Rattle.console.specs.declared.fault.Layer.TheVariants as layer

abbrev pub fault_number : Fault → ℕ
fault_number (Line f) = line_number f
fault_number (Positions f) = position_number f

abbrev pub position_layer : PositionFault → Layer
position_layer BadMember = layer.Positions
position_layer BadCode = layer.Positions
position_layer BadLots = layer.Positions
position_layer BeyondBounds = layer.Positions
position_layer NotEmpty = layer.Positions
position_layer (Index f) = layer.Index

abbrev pub layer_of : Fault → Layer
layer_of (Line f) = layer.Line
layer_of (Positions f) = position_layer f
