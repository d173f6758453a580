use Rattle.sorted.proofs.Spots.{both_inserted}
use Rattle.sorted.proofs.rows.Rows.insert.Goals as goal

pub returns-clause-after : goal.returns-clause-after
returns-clause-after g c = both_inserted c.args.self.now _ _ c.args.at c.args.key c.args.value c.open.ensures c.open-2.ensures
