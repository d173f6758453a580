-- The laws of the hashes. Assumes nothing.
use Rattle.hashing.specs.Laws.{Laws}
use Rattle.hashing.proofs.Registers.{crc_fits, crc_checks}
use Rattle.hashing.proofs.Products.{fnv_fits, fnv_apart}
use Rattle.hashing.specs.Tails.{end_fits}

pub laws : Laws
laws = record { fnv_fits = fnv_fits; crc_fits = crc_fits; end_fits = end_fits; fnv_apart = fnv_apart; crc_checks = crc_checks }
