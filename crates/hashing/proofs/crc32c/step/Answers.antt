use Rattle.hashing.proofs.Registers.{by_table}
use Rattle.hashing.proofs.crc32c.step.Goals as goal

pub returns : goal.returns
returns c = cc (by_table c.args.state c.args.byte)
