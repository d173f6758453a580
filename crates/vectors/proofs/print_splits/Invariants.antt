use Rattle.std.proofs.Common.{◌≡◌, ◌*◌, ◌≤◌}
use Rattle.vectors.proofs.print_splits.Given as goal

abbrev pub invariant-loop-len : goal.invariant-loop-len
invariant-loop-len g l = (l.agree ≡ l.tried) × (l.tried ≤ 301 * l.len)
