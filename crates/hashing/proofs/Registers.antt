-- CRC-32C: the steps of eight bits are one look-up, and what bytes feed is a number's bits. Assumes nothing.
use Rattle.std.proofs.Common.{◌≡◌, ℕ, zero, suc, ◌+◌, ◌*◌, ◌/◌, ◌%◌, ◌^◌, ◌<◌, List, [], ◌∷◌, ◌++◌, fold, sym, refl, ap, ◌∙◌, subst, mul-one, arith}
use lib.Bits.{bit_and, bit_xor, xor_assoc, xor_comm, xor_lt, xor_self, xor_shr, xor_mod, xor_zero_l, xor_zero_r, shifted_half, shifted_even, xor_shifted, and_mask}
use lib.Pow.{split}
use Rattle.std.specs.Int.Digits.{AllBelowBase}
use Rattle.std.proofs.lemmas.Nat.{shr_below}
use Rattle.std.proofs.lemmas.List.Sums.{fold-append}
use Rattle.hashing.specs.Crc.{crc_start, crc_bit, crc_bits, crc_step, crc_number, crc_32c}
use Rattle.hashing.specs.Laws.{low_bytes}

-- what stands above the bits that are shifted out is only shifted down
down : (h k x : ℕ) → crc_bit (bit_xor (h * 2 ^ suc k) x) ≡ bit_xor (h * 2 ^ k) (crc_bit x)
down h k x =
    let half : bit_xor (h * 2 ^ suc k) x / 2 ≡ bit_xor (h * 2 ^ k) (x / 2) = xor_shr (h * 2 ^ suc k) x 1 ∙ ap (λ y. bit_xor y (x / 2)) (shifted_half h k) in
    let odd : bit_xor (h * 2 ^ suc k) x % 2 ≡ x % 2 = xor_mod (h * 2 ^ suc k) x 1 ∙ ap (λ y. bit_xor y (x % 2)) (shifted_even h k) in
    rw (half, odd) (xor_assoc (h * 2 ^ k) (x / 2) (x % 2 * 0x82F63B78))

bits_down : (k h x : ℕ) → crc_bits k (bit_xor (h * 2 ^ k) x) ≡ bit_xor h (crc_bits k x)
unfolding crc_bits
bits_down zero h x = ap (λ y. bit_xor y x) (mul-one h)
bits_down (suc k) h x = ap (crc_bits k) (down h k x) ∙ bits_down k h (crc_bit x)

-- a number is its low byte beside the rest
parts : (n : ℕ) → bit_xor (n / 256 * 2 ^ 8) (n % 256) ≡ n
parts n = xor_shifted (n / 256) 8 (n % 256) (omega arith) ∙ split n 8

-- the low byte of n is shifted out, and the rest of n comes down
low_byte : (s n : ℕ) → crc_bits 8 (bit_xor s n) ≡ bit_xor (n / 256) (crc_step s (n % 256))
low_byte s n =
    let h = n / 256 * 2 ^ 8 in
    let moved : bit_xor s n ≡ bit_xor h (bit_xor s (n % 256)) = ap (bit_xor s) (sym (parts n)) ∙ sym (xor_assoc s h (n % 256)) ∙ ap (λ y. bit_xor y (n % 256)) (xor_comm s h) ∙ xor_assoc h s (n % 256) in
    ap (crc_bits 8) moved ∙ bits_down 8 (n / 256) (bit_xor s (n % 256))

pub by_table : (s b : ℕ) → bit_xor (s / 256) (crc_bits 8 (bit_xor (bit_and s 255) b)) ≡ crc_bits 8 (bit_xor s b)
by_table s b =
    let low : bit_xor (bit_and s 255) b ≡ bit_xor b (s % 256) = ap (λ y. bit_xor y b) (and_mask s 8) ∙ xor_comm (s % 256) b in
    ap (λ y. bit_xor (s / 256) (crc_bits 8 y)) low ∙ sym (ap (crc_bits 8) (xor_comm s b) ∙ low_byte b s)

-- ---- the state fits 32 bits

bit_fits : (s : ℕ) → s < 2 ^ 32 → crc_bit s < 2 ^ 32
bit_fits s h = xor_lt 32 (s / 2) (s % 2 * 0x82F63B78) (omega arith) (omega arith)

bits_fit : (k s : ℕ) → s < 2 ^ 32 → crc_bits k s < 2 ^ 32
unfolding crc_bits
bits_fit zero s h = h
bits_fit (suc k) s h = bits_fit k (crc_bit s) (bit_fits s h)

state_fits : (s : ℕ) (bytes : List ℕ) → s < 2 ^ 32 → AllBelowBase 256 bytes → fold crc_step s bytes < 2 ^ 32
state_fits s [] h small = h
state_fits s (b ∷ bytes) h small = state_fits (crc_step s b) bytes (bits_fit 8 (bit_xor s b) (xor_lt 32 s b h (omega arith))) small.1

pub crc_fits : (bytes : List ℕ) → AllBelowBase 256 bytes → crc_32c bytes < 2 ^ 32
crc_fits bytes small = xor_lt 32 (fold crc_step crc_start bytes) crc_start (state_fits crc_start bytes (omega arith) small) (omega arith)

-- ---- a string with its own number behind it

bits_add : (j k s : ℕ) → crc_bits (j + k) s ≡ crc_bits k (crc_bits j s)
unfolding crc_bits
bits_add zero k s = let e : zero + k ≡ k = omega arith in ap (λ n. crc_bits n s) e
bits_add (suc j) k s = let e : suc j + k ≡ suc (j + k) = omega arith in ap (λ n. crc_bits n s) e ∙ bits_add j k (crc_bit s)

fed_number : (k s n : ℕ) → n < 2 ^ (8 * k) → fold crc_step s (low_bytes k n) ≡ crc_bits (8 * k) (bit_xor s n)
unfolding crc_bits
fed_number zero s n h = let z : n ≡ 0 = omega arith in sym (ap (bit_xor s) z ∙ xor_zero_r s)
fed_number (suc k) s n h =
    let e : 8 * suc k ≡ 8 + 8 * k = omega arith in
    let f : 8 * suc k ≡ 8 * k + 8 = omega arith in
    let l : n / 256 < 2 ^ (8 * k) = shr_below n (8 * k) 8 (subst (λ m. n < 2 ^ m) f h) in
    fed_number k (crc_step s (n % 256)) (n / 256) l ∙ sym (ap (λ m. crc_bits m (bit_xor s n)) e ∙ bits_add 8 (8 * k) (bit_xor s n) ∙ ap (crc_bits (8 * k)) (low_byte s n ∙ xor_comm (n / 256) (crc_step s (n % 256))))

all_ones : crc_number (crc_bits 32 crc_start) ≡ 0x48674BC7
unfolding crc_bits
all_ones = refl

pub crc_checks : (bytes : List ℕ) → AllBelowBase 256 bytes → crc_32c (bytes ++ low_bytes 4 (crc_32c bytes)) ≡ 0x48674BC7
crc_checks bytes small =
    let s = fold crc_step crc_start bytes in
    let gone : bit_xor s (bit_xor s crc_start) ≡ crc_start = sym (xor_assoc s s crc_start) ∙ ap (λ y. bit_xor y crc_start) (xor_self s) ∙ xor_zero_l crc_start in
    ap crc_number
    (fold-append crc_step crc_start bytes (low_bytes 4 (crc_32c bytes))
    ∙ fed_number 4 s (crc_32c bytes) (crc_fits bytes small) ∙ ap (crc_bits 32) gone) ∙ all_ones
