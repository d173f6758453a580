-- A run of pairs, copied over the front of two rows. Assumes nothing.
use Rattle.std.proofs.Common.{◌≡◌, ℕ, ◌-◌, ◌≤◌, min, List, ◌++◌, map, length, take, drop, ap, ◌∙◌, arith}
use lib.ListN.{length-map}
use Rattle.std.specs.List as lists
use Rattle.std.proofs.lemmas.List.Edits.{length-between}
use Rattle.std.proofs.lemmas.List.{take-map, drop-map, take-take, take_min, drop_min, map-append, length-take-le}
use Rattle.std.proofs.lemmas.Slice.{between_is}
use Rattle.ordered.specs.Pairs.{written}

-- xs is a run among the first len of source, and n of it are as many as row takes
pub copied : {X : Type 0} (source row xs : List X) (i j len n : ℕ) → i ≤ j → j ≤ len → len ≤ length source → n ≡ min (j - i) (length row) → xs ≡ lists.between i j (take len source) → take n (drop i source) ++ drop n row ≡ written row xs
copied source row xs i j len n p q r e is =
    let size : length xs ≡ j - i = ap length is ∙ length-between (take len source) i j (simp (length-take-le len source r) q) in
    let fits : n ≡ min (length row) (length xs) = omega arith in
    let over : n ≡ min (length xs) (length row) = omega arith in
    let front : take n xs ≡ take n (drop i source) = rw (is, take-take n (j - i) (drop i (take len source)) (omega arith), ← between_is source i len, take-take n (len - i) (drop i source) (omega arith)) in
    rw (← take_min (length row) xs, ← drop_min (length xs) row, ← fits, ← over, front)

pub copied_by : {X B : Type 0} (f : X → B) (source row : List X) (xs : List B) (i j len n : ℕ) → i ≤ j → j ≤ len → len ≤ length source → n ≡ min (j - i) (length row) → xs ≡ lists.between i j (map f (take len source)) → map f (take n (drop i source) ++ drop n row) ≡ written (map f row) xs
copied_by f source row xs i j len n p q r e is =
    simp (map-append, ← take-map, ← drop-map) (copied (map f source) (map f row) xs i j len n p q (simp length-map r) (simp length-map e) (is ∙ simp take-map))

pub map_between : {X B : Type 0} (f : X → B) (xs : List X) (i j : ℕ) → map f (lists.between i j xs) ≡ lists.between i j (map f xs)
map_between f xs i j = simp (take-map, drop-map)
