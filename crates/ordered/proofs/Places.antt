-- What the place of a key tells of the calls on a list of pairs. Assumes nothing.
use Rattle.std.proofs.Common.{◌≡◌, ℕ, zero, suc, ◌<◌, ◌≤◌, List, [], ◌∷◌, length, get_or, take, drop, Equal, Greater, refl, ap, arith}
use Rattle.std.specs.List.{AllByRecursion}
use Rattle.ordered.specs.Order.{order, Below}
use Rattle.ordered.specs.Pairs.{Pairs, firsts, Held, Missing}
use Rattle.ordered.proofs.Orders.{order_exact}

module _ {V : Type 0} (k : List ℕ) where
  pub held : (ps : Pairs V) (i : ℕ) → i < length ps → AllByRecursion (Below k) (take i (firsts ps)) → ((d : List ℕ) → order (get_or (firsts ps) i d) k ≡ Equal) → Held ps k i
  held [] i l low h = absurd (omega arith)
  held (p ∷ ps) zero l low h = record { inside = l; key = λ d. order_exact p.0 k (h d); found = λ d. rw (h []); put = λ v. rw (h []); cut = rw (h []) }
  held (p ∷ ps) (suc i) l low h =
      let rest = held ps i (omega arith) low.1 h in
      record { inside = l; key = rest.key; found = λ d. rw low.0 (rest.found d); put = λ v. rw low.0 (ap (λ qs. p ∷ qs) (rest.put v)); cut = rw low.0 (ap (λ qs. p ∷ qs) rest.cut) }

  pub missing : (ps : Pairs V) (i : ℕ) → i ≤ length ps → AllByRecursion (Below k) (take i (firsts ps)) → AllByRecursion (λ j. order j k ≡ Greater) (drop i (firsts ps)) → Missing ps k i
  missing [] zero l low high = record { inside = l; found = refl; put = λ v. refl }
  missing [] (suc i) l low high = absurd (omega arith)
  missing (p ∷ ps) zero l low high = record { inside = l; found = rw high.0 (missing ps 0 (omega arith) tt high.1).found; put = λ v. rw high.0 }
  missing (p ∷ ps) (suc i) l low high =
      let rest = missing ps i (omega arith) low.1 high in
      record { inside = l; found = rw low.0 rest.found; put = λ v. rw low.0 (ap (λ qs. p ∷ qs) (rest.put v)) }
