use Rattle.ordered.proofs.Spans.{stopped_some, stopped_none}
use Rattle.sorted.proofs.Spots.{pairs_long}
use Rattle.sorted.proofs.sorted_row.SortedRow.stop.Goals as goal

pub returns-in-Some : goal.returns-in-Some
returns-in-Some g c = rw (c.in-Some.is, ← c.used_keys.ensures) (stopped_some _ _ _ c.place.ensures)

pub returns-in-None : goal.returns-in-None
returns-in-None g c = rw c.in-None.is (stopped_none _ _ (pairs_long c.args.self.now.rows))
