use Rattle.std.proofs.Common.{subst}
use Rattle.ordered.specs.Order.{Parted}
use Rattle.ordered.proofs.Spans.{spanned}
use Rattle.sorted.proofs.sorted_row.SortedRow.span.Goals as goal

pub returns : goal.returns
returns g c = spanned _ _ _ _ _ _ c.max.ensures (subst (λ ks. Parted c.args.first.now ks c.place-from.result) c.used_keys.ensures c.place-from.ensures) c.stop-to.ensures
