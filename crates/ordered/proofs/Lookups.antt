-- Lookups, and how many pairs there are, after an insertion and after an erasure. Assumes nothing.
use Rattle.std.proofs.Common.{◌≡◌, ℕ, suc, ◌+◌, true, false, cond, List, [], ◌∷◌, length, is_some, Some, None, Equal, refl, arith}
use Rattle.std.specs.Ordering.{is_lt}
use Rattle.ordered.specs.Order.{order, ascends}
use Rattle.ordered.specs.Pairs.{Pairs, firsts, lookup, inserted, erased}
use Rattle.ordered.proofs.Orders.{order_exact, order_same, order_total}
use Rattle.ordered.proofs.Ascents.{ahead_of}

module _ {V : Type 0} (k : List ℕ) where
  -- k is not among those behind a key that is not before it
  absent : (j : List ℕ) (ps : Pairs V) → ahead_of j (firsts ps) → is_lt (order j k) ≡ false → lookup ps k ≡ None
  absent j [] a h = refl
  absent j (p ∷ ps) a h = grind (arith, absent j ps, order_total.trans j p.0 k, order_exact p.0 k)

  pub put_same : (ps : Pairs V) (v : V) → lookup (inserted ps k v) k ≡ Some v
  put_same [] v = grind (arith, order_same)
  put_same (p ∷ ps) v = grind (arith, order_same, put_same ps v)

  pub drop_same : (ps : Pairs V) → ascends (firsts ps) ≡ true → lookup (erased ps k) k ≡ None
  drop_same [] up = refl
  drop_same (p ∷ ps) up = grind (arith, drop_same ps, absent p.0 ps)

  pub put_count : (ps : Pairs V) (v : V) → ascends (firsts ps) ≡ true → length (inserted ps k v) ≡ cond (is_some (lookup ps k)) (length ps) (suc (length ps))
  put_count [] v up = refl
  put_count (p ∷ ps) v up = grind (arith, put_count ps v, absent p.0 ps)

  pub drop_count : (ps : Pairs V) → length (erased ps k) + cond (is_some (lookup ps k)) 1 0 ≡ length ps
  drop_count [] = refl
  drop_count (p ∷ ps) = grind (arith, drop_count ps)

  module _ (j : List ℕ) (unlike : order k j ≡ Equal → ⊥) where
    pub put_other : (ps : Pairs V) (v : V) → lookup (inserted ps k v) j ≡ lookup ps j
    put_other [] v = grind arith
    put_other (p ∷ ps) v = grind (arith, put_other ps v, order_exact p.0 k)

    pub drop_other : (ps : Pairs V) → lookup (erased ps k) j ≡ lookup ps j
    drop_other [] = refl
    drop_other (p ∷ ps) = grind (arith, drop_other ps, order_exact p.0 k)
