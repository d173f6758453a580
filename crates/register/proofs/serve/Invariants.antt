use Rattle.std.proofs.Common.{◌≡◌, length}
use Rattle.register.proofs.serve.Given as goal

-- the buffer keeps its length
abbrev pub invariant-loop : goal.invariant-loop
invariant-loop g l = length l.chunk ≡ 4096
