-- A member's positions as a run of the index. Assumes nothing.
use Rattle.std.proofs.Common.{◌≡◌, ℕ, suc, Bool, true, List, [], ◌∷◌, ◌++◌, length, get_or, take, ℤ, Some, Ok, arith, length-append, length-take}
use Rattle.std.proofs.lemmas.Bool.Decides.{nat_tests}
use Rattle.std.proofs.lemmas.Grind.{common_steps}
use Rattle.ordered.specs.Pairs.{Pairs, between, under}
use Rattle.ordered.specs.Replies.{run_reply}
use Rattle.ordered.proofs.Fronts.{begun}
use Rattle.codes.specs.Codes.{is_member}
use Rattle.positions.specs.Listing.{list_reply}

module _ (ps : Pairs ℤ) (m : List ℕ) (good : is_member m ≡ true) where
  abbrev end : List ℕ
  end = take 3 m ++ suc (get_or m 3 0) ∷ []

  four : length m ≡ 4
  four = grind (arith, nat_tests)

  whole : take 3 m ++ get_or m 3 0 ∷ [] ≡ m
  whole = let l = four in grind (arith, common_steps)

  pub own : between ps m (Some end) ≡ under m ps
  own = rw whole at (begun ps (take 3 m) (get_or m 3 0))

  pub listed : (i n : ℕ) (x : ℕ × Bool) → Ok x ≡ run_reply ps m (Some end) i n → Ok x ≡ list_reply ps m i n
  listed i n x e =
      let l = four in
      let told = rw own at e in
      grind (arith, nat_tests, length-append (take 3 m) (suc (get_or m 3 0) ∷ []), length-take 3 m)
