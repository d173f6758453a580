use Rattle.std.proofs.Common.{rules}
use Rattle.std.proofs.lemmas.Fn.{always_returns_same}
use Rattle.ordered.specs.Order.{order}
use Rattle.ordered.specs.Keys.{content}
use Rattle.sorted.proofs.Spots.{searched}
use Rattle.sorted.proofs.sorted_row.SortedRow.find.Goals as goal

pub returns : goal.returns
returns g c =
    searched c.args.self.now.rows c.used_keys-keys.result.now c.used_keys-keys.ensures c.args.key.now c.args.self.now.sorted _ c.binary_search_by.ensures.bound
    (c.binary_search_by.ensures.position (λ x. order (content x) c.args.key.now) (always_returns_same _ _ _ (λ a r q h. search rules)))
