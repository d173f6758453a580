use Rattle.std.proofs.Common.{arith, ltb-false}
use Rattle.hashing.specs.Tails.{tail_is}
use Rattle.hashing.proofs.end.Tail.followed.Goals as goal

pub returns-in-len1-up : goal.returns-in-len1-up
returns-in-len1-up c = tail_is c.args.self c.args.bytes.now (omega (arith, ltb-false))
