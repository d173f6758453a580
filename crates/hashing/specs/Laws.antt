-- What holds of the hashes of every string, told without their steps. Assumes nothing.
use Rattle.std.specs.Prelude.{◌≡◌, ℕ, zero, suc, ◌/◌, ◌%◌, ◌^◌, ◌<◌, List, [], ◌∷◌, ◌++◌}
use Rattle.std.specs.Int.Digits.{AllBelowBase}
use Rattle.hashing.specs.Fnv.{fnv_1a}
use Rattle.hashing.specs.Crc.{crc_32c}
use Rattle.hashing.specs.Ends.{end_hash}

-- the k lowest bytes of a number, lowest first
abbrev pub low_bytes : ℕ → ℕ → List ℕ
low_bytes zero n = []
low_bytes (suc k) n = n % 256 ∷ low_bytes k (n / 256)

pub record Laws : Type 0 where
  -- each number has 32 bits
  pub fnv_fits : (bytes : List ℕ) → fnv_1a bytes < 2 ^ 32
  pub crc_fits : (bytes : List ℕ) → AllBelowBase 256 bytes → crc_32c bytes < 2 ^ 32
  pub end_fits : (bytes : List ℕ) → AllBelowBase 256 bytes → end_hash bytes < 2 ^ 16
  -- FNV-1a: where one byte follows two strings, their numbers differ behind it if they differ before it
  pub fnv_apart : (a b : List ℕ) (x : ℕ) → x < 256 → fnv_1a (a ++ x ∷ []) ≡ fnv_1a (b ++ x ∷ []) → fnv_1a a ≡ fnv_1a b
  -- CRC-32C: a string with its own number behind it, lowest byte first, has the same number whatever the string
  pub crc_checks : (bytes : List ℕ) → AllBelowBase 256 bytes → crc_32c (bytes ++ low_bytes 4 (crc_32c bytes)) ≡ 0x48674BC7
