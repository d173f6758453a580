-- How many numbers of a range a filter keeps that each of them passes: all of them. Assumes nothing.
use Rattle.std.proofs.Common.{◌≡◌, ℕ, suc, true, List, [], ◌∷◌, length, filter, refl, ap}
use Rattle.std.proofs.iter.runs.Sources.{ranges}

pub all_pass : (xs : List ℕ) → length xs ≡ length (filter (λ _. true) xs)
all_pass [] = refl
all_pass (x ∷ xs) = ap suc (all_pass xs)

pub ruleset all_kept = (ranges, all_pass)
