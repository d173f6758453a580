use Rattle.std.proofs.Common.{rules}
use Rattle.std.specs.Ordering.{is_lt}
use Rattle.std.proofs.lemmas.List.Sorted.{IsPartitionPoint-from_clause}
use Rattle.ordered.specs.Order.{order}
use Rattle.ordered.specs.Keys.{content}
use Rattle.sorted.proofs.Searches.{parted, counted}
use Rattle.sorted.proofs.place.place.Goals as goal

pub returns : goal.returns
returns c =
    let k = c.args.key.now in
    counted k _ c.requires _ c.partition_point.ensures.bound
    (IsPartitionPoint-from_clause (λ x. is_lt (order (content x) k)) _ _ c.partition_point.ensures.partitioned (parted k _ c.requires) (λ a r q h. search rules))
