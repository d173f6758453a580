-- What holds of the list of pairs and of what the calls make of it, in the words of keys and values. Assumes nothing.
use Rattle.std.specs.Prelude.{◌≡◌, ℕ, suc, ◌+◌, ◌<◌, true, cond, List, [], ◌∷◌, ◌++◌, length, is_some, Some, None, ◌≢◌, slice_index_or}
use Rattle.std.specs.declared.cmp.Ordering.TheVariants.{Less, Equal}
use Rattle.ordered.specs.Order.{order, ascends}
use Rattle.ordered.specs.Pairs.{Pairs, firsts, lookup, inserted, erased, between, under}

-- byte by byte, a string before its own extensions: a strict order of all strings
pub record OrderLaws : Type 0 where
  pub same : (a : List ℕ) → order a a ≡ Equal
  pub exact : (a b : List ℕ) → order a b ≡ Equal → a ≡ b
  pub before : (a b c : List ℕ) → order a b ≡ Less → order b c ≡ Less → order a c ≡ Less
  pub extended : (a b : List ℕ) (x : ℕ) → order a (a ++ x ∷ b) ≡ Less

pub record Laws (V : Type 0) : Type 0 where
  -- the list stays strictly ascending, so that it has each key once
  pub put_ascends : (ps : Pairs V) (k : List ℕ) (v : V) → ascends (firsts ps) ≡ true → ascends (firsts (inserted ps k v)) ≡ true
  pub drop_ascends : (ps : Pairs V) (k : List ℕ) → ascends (firsts ps) ≡ true → ascends (firsts (erased ps k)) ≡ true
  pub once : (ps : Pairs V) (i j : ℕ) → ascends (firsts ps) ≡ true → i < j → j < length ps → slice_index_or (firsts ps) i [] ≢ slice_index_or (firsts ps) j []
  -- get after a put and after a drop, of the same key and of another
  pub put_same : (ps : Pairs V) (k : List ℕ) (v : V) → lookup (inserted ps k v) k ≡ Some v
  pub put_other : (ps : Pairs V) (k j : List ℕ) (v : V) → (j ≢ k) → lookup (inserted ps k v) j ≡ lookup ps j
  pub drop_same : (ps : Pairs V) (k : List ℕ) → ascends (firsts ps) ≡ true → lookup (erased ps k) k ≡ None
  pub drop_other : (ps : Pairs V) (k j : List ℕ) → (j ≢ k) → lookup (erased ps k) j ≡ lookup ps j
  -- the count: a put of a new key is one more, a drop of a held one is one less
  pub put_count : (ps : Pairs V) (k : List ℕ) (v : V) → ascends (firsts ps) ≡ true → length (inserted ps k v) ≡ cond (is_some (lookup ps k)) (length ps) (suc (length ps))
  pub drop_count : (ps : Pairs V) (k : List ℕ) → length (erased ps k) + cond (is_some (lookup ps k)) 1 0 ≡ length ps
  -- a run from one string to that string with its last byte raised by one has the keys that begin with the string
  pub begun : (ps : Pairs V) (s : List ℕ) (b : ℕ) → between ps (s ++ b ∷ []) (Some (s ++ suc b ∷ [])) ≡ under (s ++ b ∷ []) ps
