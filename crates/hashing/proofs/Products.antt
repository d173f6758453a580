-- FNV-1a: its number fits 32 bits, and a step can be undone. Assumes nothing.
use Rattle.std.proofs.Common.{◌≡◌, ℕ, ◌+◌, ◌-◌, ◌*◌, ◌/◌, ◌%◌, ◌^◌, ◌<◌, ◌≤◌, List, [], ◌∷◌, ◌++◌, fold, sym, ap, ◌∙◌, arith}
use lib.Bits.{bit_xor, xor_assoc, xor_lt, xor_self, xor_zero_r}
use lib.Arith.{digits_mod}
use Rattle.std.proofs.lemmas.List.Sums.{fold_push}
use Rattle.hashing.specs.Fnv.{fnv_start, fnv_step, fnv_1a}

steps_fit : (s : ℕ) (bytes : List ℕ) → s < 2 ^ 32 → fold fnv_step s bytes < 2 ^ 32
steps_fit s [] h = h
steps_fit s (b ∷ bytes) h = steps_fit (fnv_step s b) bytes (omega arith)

pub fnv_fits : (bytes : List ℕ) → fnv_1a bytes < 2 ^ 32
fnv_fits bytes = steps_fit fnv_start bytes (omega arith)

-- the prime times 899433627 is 1 modulo 2^32
undone : (x : ℕ) → x < 2 ^ 32 → ((x * 16777619) % 2 ^ 32 * 899433627) % 2 ^ 32 ≡ x
undone x h =
    let q = x * 16777619 / 2 ^ 32 in
    let r = x * 16777619 % 2 ^ 32 in
    let t = 3513497 * x - 899433627 * q in
    let down : 899433627 * q ≤ 3513497 * x = omega arith in
    let e : r * 899433627 ≡ t * 2 ^ 32 + x = omega arith in
    ap (λ n. n % 2 ^ 32) e ∙ digits_mod t h

xor_twice : (h b : ℕ) → bit_xor (bit_xor h b) b ≡ h
xor_twice h b = simp (xor_assoc, xor_self, xor_zero_r)

before : (h b : ℕ) → h < 2 ^ 32 → b < 256 → bit_xor ((fnv_step h b * 899433627) % 2 ^ 32) b ≡ h
before h b l k = ap (λ x. bit_xor x b) (undone (bit_xor h b) (xor_lt 32 h b l (omega arith))) ∙ xor_twice h b

pub fnv_apart : (a b : List ℕ) (x : ℕ) → x < 256 → fnv_1a (a ++ x ∷ []) ≡ fnv_1a (b ++ x ∷ []) → fnv_1a a ≡ fnv_1a b
fnv_apart a b x l e =
    let stepped : fnv_step (fnv_1a a) x ≡ fnv_step (fnv_1a b) x = sym (fold_push fnv_step fnv_start a x) ∙ e ∙ fold_push fnv_step fnv_start b x in
    sym (before (fnv_1a a) x (fnv_fits a) l) ∙ ap (λ n. bit_xor ((n * 899433627) % 2 ^ 32) x) stepped ∙ before (fnv_1a b) x (fnv_fits b) l
