-- Byte strings in order: byte by byte, and a string before its own extensions. Assumes nothing.
use Rattle.std.specs.Prelude.{◌≡◌, ℕ, ◌-◌, ◌≤◌, Bool, true, false, cond, ◌&&◌, List, [], ◌∷◌, length, take, drop, replicate, ◌==◌, nat_lt}
use Rattle.std.specs.declared.cmp.Ordering.TheVariants.{Less, Equal, Greater}
use Rattle.std.specs.declared.cmp.Ordering.{Ordering}
use Rattle.std.specs.Ordering.{is_lt}
use Rattle.std.specs.List.{list_all, AllByRecursion}

-- the most bytes that a key has
abbrev pub max_key : ℕ
max_key = 24

abbrev pub order : List ℕ → List ℕ → Ordering
order [] [] = Equal
order [] (y ∷ ys) = Less
order (x ∷ xs) [] = Greater
order (x ∷ xs) (y ∷ ys) = cond (nat_lt x y) Less (cond (x == y) (order xs ys) Greater)

-- the first bytes of k are those of s
abbrev pub begins : List ℕ → List ℕ → Bool
begins [] k = true
begins (x ∷ s) [] = false
begins (x ∷ s) (y ∷ k) = x == y && begins s k

-- one of three, by an order
abbrev pub by : {A : Type 0} → Ordering → A → A → A → A
by Less a b c = a
by Equal a b c = b
by Greater a b c = c

-- each string is before all that follow it
abbrev pub ascends : List (List ℕ) → Bool
ascends [] = true
ascends (k ∷ ks) = list_all (λ j. is_lt (order k j)) ks && ascends ks

-- j is before k, and is not
abbrev pub Below : List ℕ → List ℕ → Type 0
Below k j = order j k ≡ Less

abbrev pub From : List ℕ → List ℕ → Type 0
From k j = is_lt (order j k) ≡ false

-- the first p strings are before k, and no other is
pub record Parted (k : List ℕ) (ks : List (List ℕ)) (p : ℕ) : Type 0 where
  pub inside : p ≤ length ks
  pub low : AllByRecursion (Below k) (take p ks)
  pub high : AllByRecursion (From k) (drop p ks)

-- the bytes behind len are 0
abbrev pub Padded : List ℕ → ℕ → Type 0
Padded bytes len = drop len bytes ≡ replicate (max_key - len) 0
