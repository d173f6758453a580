-- The greatest number below n that passes a test. Assumes nothing.
use Rattle.std.specs.Prelude.{◌≡◌, ℕ, ◌<◌, Bool, true, false, Some, None, Option}

abbrev pub NoneBelow : (ℕ → Bool) → ℕ → Type 0
NoneBelow passes n = (k : ℕ) → k < n → passes k ≡ false

-- c passes, is lower, and nothing that passes lies between
pub record Greatest (passes : ℕ → Bool) (n c : ℕ) : Type 0 where
  pub marked : passes c ≡ true
  pub lower : c < n
  pub last : (k : ℕ) → c < k → k < n → passes k ≡ false

abbrev pub Found : (ℕ → Bool) → ℕ → Option ℕ → Type 0
Found passes n (Some c) = Greatest passes n c
Found passes n None = NoneBelow passes n

pub record Laws : Type 0 where
  -- there is one answer at most, so none is found exactly if none is lower
  pub one_answer : (passes : ℕ → Bool) (n : ℕ) (r s : Option ℕ) → Found passes n r → Found passes n s → r ≡ s
