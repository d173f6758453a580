-- FNV-1a at 32 bits, as it is published: for each byte exclusive-or, then times the prime modulo 2^32. Assumes nothing.
use Rattle.std.specs.Prelude.{ℕ, ◌*◌, ◌%◌, ◌^◌, List, fold, bit_xor}

abbrev pub fnv_start : ℕ
fnv_start = 2166136261

abbrev pub fnv_step : ℕ → ℕ → ℕ
fnv_step h b = (bit_xor h b * 16777619) % 2 ^ 32

abbrev pub fnv_1a : List ℕ → ℕ
fnv_1a bytes = fold fnv_step fnv_start bytes
