-- antt computes the rule at each of the 256 places, and compares the list with the table.
use Rattle.std.proofs.Common.{zero-add, arith}
use Rattle.std.proofs.lemmas.List.FromFn.{get_or-map-range_with_len}
use Rattle.hashing.specs.Crc.{crc_bits}
use Rattle.hashing.proofs.crc32c.entry.Goals as goal

pub returns : goal.returns
unfolding crc_bits
returns c = get_or-map-range_with_len (crc_bits 8) 0 256 c.args.byte c.args.byte 0 (omega arith) (zero-add c.args.byte)
