-- CRC-32C as RFC 3720 has it, bit by bit and reflected. Assumes nothing.
use Rattle.std.specs.Prelude.{ℕ, zero, suc, ◌*◌, ◌/◌, ◌%◌, List, fold, bit_xor}

-- the start, and what the last state is combined with
abbrev pub crc_start : ℕ
crc_start = 0xFFFFFFFF

-- one bit is shifted out; where it was set, the polynomial is subtracted
abbrev pub crc_bit : ℕ → ℕ
crc_bit s = bit_xor (s / 2) (s % 2 * 0x82F63B78)

-- k bits are shifted out
unfoldable pub crc_bits : ℕ → ℕ → ℕ
crc_bits zero s = s
crc_bits (suc k) s = crc_bits k (crc_bit s)

abbrev pub crc_step : ℕ → ℕ → ℕ
crc_step s b = crc_bits 8 (bit_xor s b)

abbrev pub crc_number : ℕ → ℕ
crc_number s = bit_xor s crc_start

abbrev pub crc_32c : List ℕ → ℕ
crc_32c bytes = crc_number (fold crc_step crc_start bytes)
