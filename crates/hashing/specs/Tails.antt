-- The end hash over two strings, one behind the other, and its number. Assumes nothing.
use Rattle.std.specs.Prelude.{◌≡◌, ℕ, ◌+◌, ◌-◌, ◌%◌, ◌^◌, ◌<◌, List, [], ◌∷◌, ◌++◌, length, slice_index, slice_index_or, refl}
use Rattle.std.proofs.Common.{sym, ap, ◌∙◌, append-nil, arith, length-append}
use Rattle.std.specs.Int.Digits.{AllBelowBase}
use Rattle.hashing.specs.Ends.{last_or, nothing_fed, tail_of, tail_number, end_hash}
use Rattle.hashing.specs.declared.end.Tail.{Tail}

last_append : (x : ℕ) (xs : List ℕ) (y : ℕ) (ys : List ℕ) → last_or x (xs ++ (y ∷ ys)) ≡ last_or y ys
last_append x [] y ys = refl
last_append x (z ∷ xs) y ys = last_append z xs y ys

pub tail_append : (t : Tail) (a b : List ℕ) → tail_of (tail_of t a) b ≡ tail_of t (a ++ b)
tail_append t [] b = refl
tail_append t (x ∷ a) [] = ap (tail_of t) (sym (append-nil (x ∷ a)))
tail_append t (x ∷ a) (y ∷ b) =
    let n : ((t.count + length (x ∷ a)) % 256 + length (y ∷ b)) % 256 ≡ (t.count + length (x ∷ (a ++ (y ∷ b)))) % 256 = omega (arith, length-append a (y ∷ b)) in
    let l : last_or y b ≡ last_or x (a ++ (y ∷ b)) = rw last_append refl in
    cc

last_at : (x : ℕ) (xs : List ℕ) → slice_index (x ∷ xs) (length xs) ≡ last_or x xs
last_at x [] = refl
last_at x (y ∷ ys) = last_at y ys

-- What `feed` computes of a part that is not empty.
pub tail_is : (t : Tail) (bs : List ℕ) → 0 < length bs → ◌≡◌ {A = Tail} record { count = (t.count + length bs % 256) % 256; last = slice_index bs (length bs - 1) } (tail_of t bs)
tail_is t [] h = absurd (omega arith)
tail_is t (b ∷ bs) h =
    let n : (t.count + length (b ∷ bs) % 256) % 256 ≡ (t.count + length (b ∷ bs)) % 256 = omega arith in
    let i : length (b ∷ bs) - 1 ≡ length bs = omega arith in
    let l : slice_index_or (b ∷ bs) (length (b ∷ bs) - 1) 0 ≡ last_or b bs = ap (λ k. slice_index (b ∷ bs) k) i ∙ last_at b bs in
    cc

-- The number of the whole string.
pub whole_tail : (bs : List ℕ) → tail_number (tail_of nothing_fed bs) ≡ end_hash bs
whole_tail [] = refl
whole_tail (b ∷ bs) = omega arith

last_small : (x : ℕ) (xs : List ℕ) → x < 256 → AllBelowBase 256 xs → last_or x xs < 256
last_small x [] h small = h
last_small x (y ∷ ys) h small = last_small y ys small.0 small.1

pub end_fits : (bytes : List ℕ) → AllBelowBase 256 bytes → end_hash bytes < 2 ^ 16
end_fits bytes small = let l = last_small 0 bytes (omega arith) small in omega arith
