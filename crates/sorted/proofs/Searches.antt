-- A search among keys in order, by the order of each and a string. Assumes nothing.
use Rattle.std.proofs.Common.{◌≡◌, ℕ, zero, suc, ◌+◌, ◌<◌, ◌≤◌, true, false, List, [], ◌∷◌, map, length, get_or, take, drop, Less, Equal, arith, length-drop, length-take}
use lib.ListN.{length-map}
use Rattle.std.specs.Ordering.{is_lt, ordering_index}
use Rattle.std.specs.List.{AllByRecursion, AllWithin, HoldsAt}
use Rattle.std.specs.List.Sorted.{IsNonDecreasingBy, IsPartitionedBy, IsPartitionPoint}
use Rattle.std.proofs.lemmas.List.{drop-map, get_or-drop, get_or-map, get_or-take, take-map}
use Rattle.std.proofs.lemmas.List.Elements.{All-map, recursion_from_All}
use Rattle.std.proofs.lemmas.List.Sorted.{searchable_from_sorted}
use Rattle.ordered.specs.declared.key.Key.{Key}
use Rattle.ordered.specs.Order.{order, ascends, Below, From, Parted}
use Rattle.ordered.specs.Keys.{content}
use Rattle.ordered.proofs.Orders.{order_exact, order_total}
use Rattle.ordered.proofs.Ascents.{ascending_at}

-- ---- what holds of the items before a place, from it on, and at it

module _ {X Y : Type 0} (f : X → Y) (P : Y → Type 0) where
  pub all_low : (xs : List X) (n : ℕ) → AllWithin (λ x. P (f x)) xs 0 n → AllByRecursion P (take n (map f xs))
  all_low xs n all = recursion_from_All P _ (rw take-map (All-map P f (take n xs) (λ i d l. let b : i < n = omega (arith, length-take n xs) in rw get_or-take (all i d (omega arith) b))))

  pub all_high : (xs : List X) (n : ℕ) → AllWithin (λ x. P (f x)) xs n (length xs) → AllByRecursion P (drop n (map f xs))
  all_high xs n all = recursion_from_All P _ (rw drop-map (All-map P f (drop n xs) (λ i d l. rw get_or-drop (all (n + i) d (omega arith) (omega (arith, length-drop n xs))))))

  pub read_there : (xs : List X) (i : ℕ) → i < length xs → HoldsAt (λ x. P (f x)) xs i → HoldsAt P (map f xs) i
  read_there [] i l at e = absurd (omega arith)
  read_there (x ∷ xs) zero l at e = at x
  read_there (x ∷ xs) (suc i) l at e = read_there xs i (omega arith) at e

module _ (k : List ℕ) (ks : List Key) (up : ascends (map content ks) ≡ true) where
  apart : (i j : ℕ) (d : Key) → i < j → j < length ks → order (content (get_or ks i d)) (content (get_or ks j d)) ≡ Less
  apart i j d l h = cc (get_or-map content ks i d (content d) (omega arith), get_or-map content ks j d (content d) h, ascending_at (map content ks) i j (content d) up l (simp length-map h))

  pub rises : IsNonDecreasingBy (λ x. ordering_index (order (content x) k)) ks
  rises = searchable_from_sorted order_total content ks k
      (λ i d _ l. grind (arith, apart i (i + 1) d (omega arith) l, order_total.antisymm (content (get_or ks (i + 1) d)) (content (get_or ks i d))))

  -- a key before one that is before k is before k
  pub parted : IsPartitionedBy (λ x. is_lt (order (content x) k)) ks
  parted i j d l h e = grind (arith, rises i j d l h)

  -- how many are before k
  pub counted : (p : ℕ) → p ≤ length ks → IsPartitionPoint (λ x. is_lt (order (content x) k) ≡ true) (λ x. is_lt (order (content x) k) ≡ false) ks p → Parted k (map content ks) p
  counted p h point = record {
    inside = simp length-map h;
    low = all_low content (Below k) ks p (λ i d l u. grind (arith, point.0 i d l u));
    high = all_high content (From k) ks p point.1;
  }

  -- those before the i-th, which is k, are before k
  pub met : (i : ℕ) → i < length ks → HoldsAt (λ x. order (content x) k ≡ Equal) ks i → AllByRecursion (Below k) (take i (map content ks))
  met i l e = all_low content (Below k) ks i (λ j d a b. cc (order_exact _ k (e d), apart j i d b l))
