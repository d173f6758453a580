-- What a posting makes of what the index replies. Assumes nothing.
use Rattle.std.proofs.Common.{◌≡◌, ℕ, ◌≤◌, true, false, cond, ◌||◌, List, ◌++◌, length, ℤ, Some, None, Ok, Option, Result, ap, ◌∙◌, arith}
use Rattle.std.proofs.lemmas.Bool.Decides.{nat_tests}
use Rattle.ordered.specs.Pairs.{Pairs, lookup}
use Rattle.ordered.specs.Replies.{get_reply, changed}
use Rattle.codes.specs.Codes.{is_member, is_code}
use Rattle.positions.specs.declared.fault.PositionFault.{PositionFault}
use Rattle.positions.specs.Posting.{flat, beyond, total, settled, settle_reply, post_reply, posted, max_position, max_posting}

-- a sum that is told is within the bounds
pub sum_told : (sum is : ℤ) → Some sum ≡ cond (beyond max_position is) None (Some is) → (beyond max_position is ≡ false) × (sum ≡ is)
sum_told sum is e = grind arith

-- ---- at the key of a good member and a good code, for lots that a posting may have

module _ (ps : Pairs ℤ) (member code : List ℕ) (short : length (member ++ code) ≤ 24) where
  abbrev key : List ℕ
  key = member ++ code

  pub found : (o : Option ℤ) → Ok o ≡ get_reply ps key → o ≡ lookup ps key
  found o e = grind (arith, nat_tests)

  -- the reply and what is left, by what settling the sum replied and left
  pub replied : (lots : ℤ) (limit : ℕ) (r : Result ℤ PositionFault) (qs : Pairs ℤ) → is_member member ≡ true → is_code code ≡ true → (flat lots || beyond max_posting lots) ≡ false → beyond max_position (total ps member code lots) ≡ false
      → r ≡ settle_reply ps limit key (total ps member code lots) → qs ≡ changed r ps (settled ps key (total ps member code lots)) → (r ≡ post_reply ps limit member code lots) × (qs ≡ posted ps limit member code lots)
  replied lots limit r qs good_member good_code good_lots bounded e q =
      let is : r ≡ post_reply ps limit member code lots = grind (arith, nat_tests) in
      (is, q ∙ ap (λ x. changed x ps (settled ps key (total ps member code lots))) is)
