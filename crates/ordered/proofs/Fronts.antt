-- The keys that begin with a string are those from it on and before that string with its last byte raised. Assumes nothing.
use Rattle.std.proofs.Common.{◌≡◌, ℕ, suc, not, ◌&&◌, List, [], ◌∷◌, ◌++◌, Some, filter, Less, refl, arith}
use Rattle.std.specs.Ordering.{is_lt}
use Rattle.std.proofs.lemmas.Bool.Decides.{nat_tests}
use Rattle.ordered.specs.Order.{order, begins}
use Rattle.ordered.specs.Pairs.{Pairs, between, under}

begun_by : (s k : List ℕ) (b : ℕ) → (not (is_lt (order k (s ++ b ∷ []))) && is_lt (order k (s ++ suc b ∷ []))) ≡ begins (s ++ b ∷ []) k
begun_by [] [] b = refl
begun_by [] (y ∷ []) b = grind (arith, nat_tests)
begun_by [] (y ∷ z ∷ k) b = grind (arith, nat_tests)
begun_by (x ∷ s) [] b = refl
begun_by (x ∷ s) (y ∷ k) b = grind (arith, nat_tests, begun_by s k b)

pub begun : {V : Type 0} (ps : Pairs V) (s : List ℕ) (b : ℕ) → between ps (s ++ b ∷ []) (Some (s ++ suc b ∷ [])) ≡ under (s ++ b ∷ []) ps
begun ps s b = λ i. filter (λ p. begun_by s p.0 b i) ps

pub extended : (a b : List ℕ) (x : ℕ) → order a (a ++ x ∷ b) ≡ Less
extended [] b x = refl
extended (y ∷ a) b x = grind (arith, nat_tests, extended a b x)
