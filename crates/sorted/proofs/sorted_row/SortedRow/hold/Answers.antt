use Rattle.std.proofs.Common.{arith}
use Rattle.sorted.proofs.Spots.{pairs_long, still_inserted}
use Rattle.sorted.proofs.sorted_row.SortedRow.hold.Goals as goal

pub replace-requires : goal.replace-requires
replace-requires g c = let h = c.in-Ok.ensures in omega (arith, pairs_long c.args.self.now.rows)

pub insert-requires : goal.insert-requires
insert-requires g c = let h = c.in-Err.ensures in omega (arith, pairs_long c.args.self.now.rows)

pub invariant_of-self : goal.invariant_of-self
invariant_of-self g c =
    let h = c.in-Ok.ensures in
    let after = c.replace.ensures.after c.args.key.now (h.key c.args.key.now) in
    let put = h.put c.args.value in
    grind (arith, still_inserted)

pub invariant_of-self-in-Err : goal.invariant_of-self-in-Err
invariant_of-self-in-Err g c = grind (arith, pairs_long, still_inserted)

pub returns-then-self : goal.returns-then-self
returns-then-self g c = grind (arith, pairs_long)

pub returns-else-self : goal.returns-else-self
returns-else-self g c = grind (arith, pairs_long)
