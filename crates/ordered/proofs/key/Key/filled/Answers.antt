use Rattle.std.proofs.Common.{◌≡◌, ℕ, ◌+◌, ◌-◌, ◌≤◌, List, ◌++◌, length, drop, replicate, refl, ap, ◌∙◌, arith, length-append, length-drop, length-take}
use borrow.Rule.Slice.PartMut.{put_mid}
use Rattle.std.proofs.lemmas.List.{drop-replicate}
use Rattle.std.proofs.lemmas.Slice.{drop-put_mid, drop-append-drop}
use Rattle.ordered.specs.Order.{Padded}
use Rattle.ordered.proofs.key.Key.filled.Goals as goal

-- zeros zs, of which the first n are written over by front, and those behind them up to k by back
module _ (front back zs : List ℕ) (n k : ℕ) (a : length front ≡ n) (b : n + length back ≡ k) (h : k ≤ 24) (z : zs ≡ replicate 24 0) where
  full : length (put_mid n (k - n) (front ++ drop n zs) back) ≡ 24
  full = let w = ap length z in simp (length-append, length-take, length-drop) (omega arith)

  padded : Padded (put_mid n (k - n) (front ++ drop n zs) back) k
  padded =
      let long = length-append front (drop n zs) in
      drop-put_mid n (k - n) (front ++ drop n zs) back k (omega arith) (omega arith) (omega arith)
      ∙ drop-append-drop n zs front k (omega arith) (omega arith) ∙ ap (drop k) z ∙ drop-replicate k 24 0

pub invariant_of-result : goal.invariant_of-result
invariant_of-result c =
    let a = ap length c.copy_from_slice.ensures.after in
    let b = ap length c.copy_from_slice-2.ensures.after in
    record { short = c.requires; full = full _ _ _ _ _ a (omega arith) c.requires refl; padded = padded _ _ _ _ _ a (omega arith) c.requires refl }
