-- Rows of words. Assumes nothing.
use Rattle.std.proofs.Common.{◌≡◌, ℕ, zero, suc, ◌+◌, ◌-◌, ◌*◌, ◌/◌, ◌%◌, ◌^◌, ◌<◌, ◌≤◌, Bool, true, false, ◌&&◌, ltb, List, [], ◌∷◌, length, get_or, sym, ap, ◌∙◌, inl, inr, Fits, w64, MatchBool, arith}
use lib.Count.{leading_top}
use Rattle.std.proofs.lemmas.List.{get_or_past}
use Rattle.std.proofs.lemmas.Bool.Decides.{nat_tests}
use Rattle.std.proofs.lemmas.Bool.{cases_eq, ltb-true, and_parts}
use Rattle.marks.specs.Bits.{has, marks_of, used, clip}
use Rattle.marks.specs.Search.{Greatest, NoneBelow}
use Rattle.marks.proofs.Words.{has_above, has_top, has_mod}

no_word : (row : List ℕ) (k : ℕ) → get_or row (k / 64) 0 ≡ 0 → marks_of row k ≡ false
no_word row k z = ap (λ w. has w (k % 64)) z ∙ has_above 0 0 (k % 64) (omega arith) (omega arith)

-- The greatest mark of a row: the top bit of the highest word that is not 0.
top_marked : (row : List ℕ) (i j : ℕ) → j < 64 → 2 ^ j ≤ get_or row i 0 → get_or row i 0 < 2 * 2 ^ j → marks_of row (64 * i + j) ≡ true
top_marked row i j l a b =
    let word : (64 * i + j) / 64 ≡ i = omega arith in
    let bit : (64 * i + j) % 64 ≡ j = omega arith in
    rw (word, bit) (has_top (get_or row i 0) j a b)

top_last : (row : List ℕ) (i j : ℕ) → get_or row i 0 < 2 * 2 ^ j → ((m : ℕ) → i < m → get_or row m 0 ≡ 0) → (k : ℕ) → 64 * i + j < k → marks_of row k ≡ false
top_last row i j b z k h =
    elim (cases_eq (k / 64) i) [
      | inl e ↦ rw e (has_above (get_or row i 0) (suc j) (k % 64) (omega arith) (omega arith))
      | inr n ↦ no_word row k (z (k / 64) (omega arith))
    ]

get_or_clip : (n : ℕ) (ws : List ℕ) (i : ℕ) → get_or (clip n ws) i 0 ≡ get_or ws i 0 % 2 ^ (n - 64 * i)
get_or_clip n [] i = grind arith
get_or_clip n (w ∷ ws) zero = grind arith
get_or_clip n (w ∷ ws) (suc i) = let rest = get_or_clip (n - 64) ws i in grind arith

marks_clip : (n : ℕ) (ws : List ℕ) (k : ℕ) → marks_of (clip n ws) k ≡ (ltb k n && marks_of ws k)
marks_clip n ws k = grind (arith, nat_tests, get_or_clip, has_mod)

unclipped : (n : ℕ) (ws : List ℕ) (k : ℕ) → k < n → marks_of ws k ≡ marks_of (clip n ws) k
unclipped n ws k h = grind (arith, nat_tests, marks_clip)

-- The words where no search found one that is not 0.
zero_words : (row : List ℕ) (i : ℕ) → ((k : ℕ) → i ≤ k → k < length row → used row k ≡ false) → (k : ℕ) → i ≤ k → get_or row k 0 ≡ 0
zero_words row i none k h = grind (arith, nat_tests, get_or_past, none k)

-- What a search of the clipped words finds.
pub found : (n : ℕ) (ws row : List ℕ) (i j : ℕ) → row ≡ clip n ws → Greatest (used row) (length row) i → j < 64 → 2 ^ j ≤ get_or row i 0 → get_or row i 0 < 2 * 2 ^ j → Greatest (marks_of ws) n (64 * i + j)
found n ws row i j is last l a top =
    let c = 64 * i + j in
    let both = and_parts (ltb c n) (marks_of ws c) (sym (marks_clip n ws c) ∙ ap (λ r. marks_of r c) (sym is) ∙ top_marked row i j l a top) in
    record {
      lower = ltb-true c n both.0;
      marked = both.1;
      last = λ k h s. unclipped n ws k s ∙ ap (λ r. marks_of r k) (sym is) ∙ top_last row i j top (λ m g. zero_words row (suc i) last.last m g) k h;
    }

pub nothing : (n : ℕ) (ws row : List ℕ) → row ≡ clip n ws → NoneBelow (used row) (length row) → NoneBelow (marks_of ws) n
nothing n ws row is none k h = unclipped n ws k h ∙ ap (λ r. marks_of r k) (sym is) ∙ no_word row k (zero_words row 0 (λ m g. none m) (k / 64) (omega arith))

-- a word that is not 0 has a mark
some_bit : (row : List ℕ) (i : ℕ) → get_or row i 0 < 2 ^ 64 → (get_or row i 0 ≡ 0 → ⊥) → (b : ℕ) × (marks_of row b ≡ true)
some_bit row i h n =
    let top = leading_top 64 (get_or row i 0) (omega arith) h in
    (64 * i + top.0, top_marked row i top.0 (omega arith) top.2 (omega (arith, top.3)))

pub bit_found : (row : List ℕ) (r : Bool) → ((i : ℕ) → Fits w64 (get_or row i 0)) → MatchBool r ((i : ℕ) × (used row i ≡ true)) ((i : ℕ) → i < length row → used row i ≡ false)
    → MatchBool r ((b : ℕ) × (marks_of row b ≡ true)) ((b : ℕ) → marks_of row b ≡ false)
bit_found row true fits some = some_bit row some.0 (omega (arith, fits some.0)) (λ z. absurd (grind (arith, nat_tests, some.1)))
bit_found row false fits none = λ b. no_word row b (zero_words row 0 (λ m g. none m) (b / 64) (omega arith))
