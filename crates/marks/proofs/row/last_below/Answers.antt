use Rattle.std.proofs.Common.{rules}
use Rattle.marks.proofs.Rows.{found, nothing}
use Rattle.marks.proofs.row.last_below.Goals as goal

pub returns-in_err-at : goal.returns-in_err-at
returns-in_err-at c = rw c.from_residual.ensures (nothing c.args.byte c.args.row.now c.clipped-front.result c.clipped-front.ensures c.in_err-at.ensures)

pub returns : goal.returns
returns c = found c.args.byte c.args.row.now c.clipped-front.result c.in_ok-at.at c.ilog2.result c.clipped-front.ensures c.in_ok-at.ensures (search rules) (search rules) (search rules)
