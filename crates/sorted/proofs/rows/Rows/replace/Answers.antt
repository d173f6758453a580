use Rattle.std.proofs.Common.{arith}
use Rattle.sorted.proofs.Spots.{reads, value_set}
use Rattle.sorted.proofs.rows.Rows.replace.Goals as goal

pub returns-clause-reply : goal.returns-clause-reply
returns-clause-reply g c = grind (arith, reads)

pub returns-clause-after : goal.returns-clause-after
returns-clause-after g c k h = value_set c.args.self.now c.args.at k c.args.value c.requires h
