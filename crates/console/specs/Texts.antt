-- What the console writes. Assumes nothing.
use Rattle.std.specs.Prelude.{ℕ, List, [], ◌∷◌, ◌++◌, length, take, drop, ℤ, codes, decimal}
use Rattle.std.proofs.Math.Utf8.{encodes}
use Rattle.std.specs.Fmt.{signed_decimal}
use Rattle.ordered.specs.Pairs.{Pairs}
use Rattle.codes.specs.Codes.{member_length}
use Rattle.console.specs.declared.fault.Fault.{Fault}
use Rattle.console.specs.declared.fault.Layer.{Layer}
use Rattle.console.specs.declared.fault.Layer.TheVariants.{Line, Positions, Index}
use Rattle.console.specs.Numbers.{layer_of, fault_number}

abbrev pub position_text : List ℕ → List ℕ → ℤ → List ℕ
position_text member code lots = codes "POS " ++ (encodes member ++ (codes " " ++ (encodes code ++ (codes " " ++ signed_decimal lots))))

-- a position by its key, whose first four bytes are the member
abbrev pub pair_text : List ℕ × ℤ → List ℕ
pair_text p = position_text (take member_length p.0) (drop member_length p.0) p.1

abbrev pub positions_text : Pairs ℤ → List ℕ
positions_text [] = []
positions_text (p ∷ ps) = pair_text p ++ (10 ∷ positions_text ps)

-- a line for each, and how many there are
abbrev pub listing_text : Pairs ℤ → List ℕ
listing_text ps = positions_text ps ++ (codes "END " ++ decimal (length ps))

abbrev pub layer_text : Layer → List ℕ
layer_text Line = codes "LINE"
layer_text Positions = codes "POS"
layer_text Index = codes "INDEX"

abbrev pub fault_text : ℕ → Fault → List ℕ
fault_text line fault = codes "FAULT " ++ (decimal line ++ (codes " " ++ (layer_text (layer_of fault) ++ (codes " " ++ decimal (fault_number fault)))))
