use Rattle.std.proofs.Common.{arith}
use Rattle.sorted.proofs.Spots.{reads, both_removed}
use Rattle.sorted.proofs.rows.Rows.remove.Goals as goal

pub returns-clause-reply : goal.returns-clause-reply
returns-clause-reply g c = grind (arith, reads)

pub returns-clause-after : goal.returns-clause-after
returns-clause-after g c = both_removed c.args.self.now _ _ c.args.at c.close.ensures c.close-2.ensures
