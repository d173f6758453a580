use Rattle.std.proofs.Common.{map, ap, ◌∙◌, arith}
use Rattle.std.specs.List as lists
use Rattle.ordered.specs.Keys.{content}
use Rattle.ordered.specs.Pairs.{firsts, seconds}
use Rattle.ordered.proofs.Copies.{copied, copied_by, map_between}
use Rattle.sorted.specs.Rows.{pairs_of}
use Rattle.sorted.proofs.Spots.{firsts_are, pairs_long, seconds_are}
use Rattle.sorted.proofs.sorted_row.SortedRow.copy_run.Goals as goal

pub copy-requires : goal.copy-requires
copy-requires g c = let s = c.span-from.ensures in omega (arith, pairs_long c.args.self.now.rows)

pub copy-requires-2 : goal.copy-requires-2
copy-requires-2 g c = let s = c.span-from.ensures in omega (arith, pairs_long c.args.self.now.rows)

pub returns-clause-keys : goal.returns-clause-keys
returns-clause-keys g c =
    let r = c.args.self.now.rows in
    let i = c.span-from.result.0 in
    let j = c.span-from.result.1 in
    let s = c.span-from.ensures in
    let n = pairs_long r in
    let run = ap firsts s.is ∙ map_between (λ p. p.0) (pairs_of r) i j ∙ ap (lists.between i j) (firsts_are r) in
    ap (map content) c.copy.ensures ∙ copied_by content r.keys.now c.args.keys.now _ i j r.len c.min-taken.result s.order (omega arith) (omega arith) c.min-taken.ensures run

pub returns-clause-values : goal.returns-clause-values
returns-clause-values g c =
    let r = c.args.self.now.rows in
    let i = c.span-from.result.0 in
    let j = c.span-from.result.1 in
    let s = c.span-from.ensures in
    let n = pairs_long r in
    let run = ap seconds s.is ∙ map_between (λ p. p.1) (pairs_of r) i j ∙ ap (lists.between i j) (seconds_are r) in
    c.copy-2.ensures ∙ copied r.values.now c.args.values.now _ i j r.len c.min-taken.result s.order (omega arith) (omega arith) (omega arith) run
