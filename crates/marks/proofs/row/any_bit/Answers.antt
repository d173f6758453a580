use Rattle.std.proofs.Common.{rules}
use Rattle.marks.proofs.Rows.{bit_found}
use Rattle.marks.proofs.row.any_bit.Goals as goal

pub returns : goal.returns
returns c = bit_found c.args.row.now c.any.result c.type_inv.row (search rules)
