-- What an ordered index holds, a list of pairs in ascending order of their keys, and what its calls make of it. Assumes nothing.
--     lookup ps k, inserted ps k v, erased ps k      the value at k; the list with v at k; the list without k
--     between ps first end      the pairs from first on, and before end if there is one
--     under s ps      the pairs whose keys begin with s
--     written row xs      xs over the front of row, as many as it takes
use Rattle.std.specs.Prelude.{◌≡◌, ℕ, ◌<◌, ◌≤◌, Bool, true, false, not, ◌&&◌, List, [], ◌∷◌, ◌++◌, map, length, take, drop, Some, None, Ok, Err, filter, Option, Result, slice_index_or, slice_set}
use Rattle.std.specs.Ordering.{is_lt}
use Rattle.std.specs.List.{remove, AllByRecursion}
use Rattle.std.specs.List as lists
use Rattle.ordered.specs.Order.{order, by, begins}

abbrev pub Pairs : Type 0 → Type 0
Pairs V = List (List ℕ × V)

module _ {V : Type 0} where
  abbrev pub firsts : Pairs V → List (List ℕ)
  firsts ps = map (λ p. p.0) ps

  abbrev pub seconds : Pairs V → List V
  seconds ps = map (λ p. p.1) ps

  abbrev pub lookup : Pairs V → List ℕ → Option V
  lookup [] k = None
  lookup (p ∷ ps) k = by (order p.0 k) (lookup ps k) (Some p.1) (lookup ps k)

  abbrev pub inserted : Pairs V → List ℕ → V → Pairs V
  inserted [] k v = (k, v) ∷ []
  inserted (p ∷ ps) k v = by (order p.0 k) (p ∷ inserted ps k v) ((k, v) ∷ ps) ((k, v) ∷ p ∷ ps)

  abbrev pub erased : Pairs V → List ℕ → Pairs V
  erased [] k = []
  erased (p ∷ ps) k = by (order p.0 k) (p ∷ erased ps k) ps (p ∷ erased ps k)

abbrev pub ahead : Option (List ℕ) → List ℕ → Bool
ahead None k = true
ahead (Some end) k = is_lt (order k end)

abbrev pub between : {V : Type 0} → Pairs V → List ℕ → Option (List ℕ) → Pairs V
between ps first end = filter (λ p. not (is_lt (order p.0 first)) && ahead end p.0) ps

-- the pairs whose keys begin with s
abbrev pub under : {V : Type 0} → List ℕ → Pairs V → Pairs V
under s ps = filter (λ p. begins s p.0) ps

abbrev pub written : {A : Type 0} → List A → List A → List A
written row xs = take (length row) xs ++ drop (length xs) row

-- k is held at the place i, or is not held and belongs there
pub record Held {V : Type 0} (ps : Pairs V) (k : List ℕ) (i : ℕ) : Type 0 where
  pub inside : i < length ps
  pub key : (d : List ℕ) → slice_index_or (firsts ps) i d ≡ k
  pub found : (d : V) → lookup ps k ≡ Some (slice_index_or (seconds ps) i d)
  pub put : (v : V) → inserted ps k v ≡ slice_set ps i (k, v)
  pub cut : erased ps k ≡ remove ps i

pub record Missing {V : Type 0} (ps : Pairs V) (k : List ℕ) (i : ℕ) : Type 0 where
  pub inside : i ≤ length ps
  pub found : lookup ps k ≡ None
  pub put : (v : V) → inserted ps k v ≡ lists.insert ps i (k, v)

abbrev pub Spot : {V : Type 0} → Pairs V → List ℕ → Result ℕ ℕ → Type 0
Spot ps k (Ok i) = Held ps k i
Spot ps k (Err i) = Missing ps k i

-- the first j keys are before the end, and no other is
pub record Stopped (end : Option (List ℕ)) (ks : List (List ℕ)) (j : ℕ) : Type 0 where
  pub inside : j ≤ length ks
  pub low : AllByRecursion (λ k. ahead end k ≡ true) (take j ks)
  pub high : AllByRecursion (λ k. ahead end k ≡ false) (drop j ks)

-- the pairs within the bounds are those from the place i on and before j
pub record Spanned {V : Type 0} (ps : Pairs V) (first : List ℕ) (end : Option (List ℕ)) (i j : ℕ) : Type 0 where
  pub order : i ≤ j
  pub inside : j ≤ length ps
  pub is : between ps first end ≡ lists.between i j ps
