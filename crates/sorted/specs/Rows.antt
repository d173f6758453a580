-- What lent rows hold, and what always holds of them. Assumes nothing.
use Rattle.std.specs.Prelude.{ℕ, ◌≤◌, List, map, length, take}
use Rattle.std.proofs.Common.{arith, length-take}
use Rattle.std.proofs.lemmas.List.{length-map}
use Rattle.std.specs.List.{zip}
use Rattle.std.proofs.lemmas.Slice.Zip.{length-zip}
use Rattle.sorted.specs.declared.rows.Rows.{Rows}
use Rattle.ordered.specs.declared.key.Key.{Key}
use Rattle.ordered.specs.Keys.{content}
use Rattle.ordered.specs.Pairs.{Pairs}

module _ {V : Type 0} where
  abbrev pub places : Rows V → ℕ
  places r = length r.keys.now

  abbrev pub pairs_of : Rows V → Pairs V
  pairs_of r = zip (map content (take r.len r.keys.now)) (take r.len r.values.now)

  -- of any two rows and any count, such as no `Rows` holds too
  pub parts_fit : (n : ℕ) (ks : List Key) (vs : List V) → length (zip (map content (take n ks)) (take n vs)) ≤ length ks
  parts_fit n ks vs = simp (length-zip, length-map, length-take) (omega arith)

  pub rows_fit : (r : Rows V) → length (pairs_of r) ≤ places r
  rows_fit r = parts_fit r.len r.keys.now r.values.now
