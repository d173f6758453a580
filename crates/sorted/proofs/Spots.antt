-- The pairs that sound rows hold, what an edit of the rows makes of them, and a search among them. Assumes nothing.
use Rattle.std.proofs.Common.{◌≡◌, ℕ, ◌<◌, true, List, [], ◌∷◌, map, length, get_or, set, take, Equal, Greater, Ok, Err, Result, sym, refl, ap, ◌∙◌, arith, length-take}
use lib.ListN.{length-map}
use lib.Seq.{take-set-lt}
use Rattle.std.specs.List.{zip, insert, remove}
use Rattle.std.specs.List.Sorted.{IsBinarySearchResult, IsSearchInRange}
use Rattle.std.proofs.lemmas.List.{drop-map, get_or-take, get_or_default, map-append, map-set, set-get_or, take-map}
use Rattle.std.proofs.lemmas.Slice.Zip.{firsts-zip, length-zip, seconds-zip}
use Rattle.ordered.specs.declared.key.Key.{Key}
use Rattle.sorted.specs.declared.rows.Rows.{Rows}
use Rattle.ordered.specs.Order.{order, ascends, Below}
use Rattle.ordered.specs.Keys.{content}
use Rattle.ordered.specs.Pairs.{Pairs, firsts, seconds, inserted, erased, Spot}
use Rattle.sorted.specs.Rows.{pairs_of}
use Rattle.ordered.proofs.Ascents.{inserted_ascends, erased_ascends}
use Rattle.ordered.proofs.Places.{held, missing}
use Rattle.sorted.proofs.Searches.{all_low, all_high, read_there, met, rises}

module _ {A B : Type 0} (f : A → B) (xs : List A) (i : ℕ) where
  map_inserted : (x : A) → map f (insert xs i x) ≡ insert (map f xs) i (f x)
  map_inserted x = simp (map-append, take-map, drop-map)

  map_removed : map f (remove xs i) ≡ remove (map f xs) i
  map_removed = simp (map-append, take-map, drop-map)

unzipped : {V : Type 0} (ps : Pairs V) → zip (firsts ps) (seconds ps) ≡ ps
unzipped [] = refl
unzipped (p ∷ ps) = ap (λ qs. p ∷ qs) (unzipped ps)

-- two rows are the pairs ps
paired : {V : Type 0} (ks : List (List ℕ)) (vs : List V) (ps : Pairs V) → ks ≡ firsts ps → vs ≡ seconds ps → zip ks vs ≡ ps
paired ks vs ps p q = (λ i. zip (p i) (q i)) ∙ unzipped ps

module _ {V : Type 0} (r : Rows V) where
  pub firsts_are : firsts (pairs_of r) ≡ map content (take r.len r.keys.now)
  firsts_are = firsts-zip _ (take r.len r.values.now) (simp (length-map, length-take) (omega arith))

  pub seconds_are : seconds (pairs_of r) ≡ take r.len r.values.now
  seconds_are = seconds-zip (map content (take r.len r.keys.now)) _ (simp (length-map, length-take) (omega arith))

  pub pairs_long : length (pairs_of r) ≡ r.len
  pairs_long = simp (length-zip, length-map, length-take) (omega arith)

  pub both_inserted : (ks : List Key) (vs : List V) (i : ℕ) (k : Key) (v : V) → ks ≡ insert (take r.len r.keys.now) i k → vs ≡ insert (take r.len r.values.now) i v → zip (map content ks) vs ≡ insert (pairs_of r) i (content k, v)
  both_inserted ks vs i k v p q =
      paired (map content ks) vs (insert (pairs_of r) i (content k, v))
      (ap (map content) p ∙ map_inserted content (take r.len r.keys.now) i k ∙ sym (map_inserted (λ p. p.0) (pairs_of r) i (content k, v) ∙ ap (λ js. insert js i (content k)) firsts_are))
      (q ∙ sym (map_inserted (λ p. p.1) (pairs_of r) i (content k, v) ∙ ap (λ ws. insert ws i v) seconds_are))

  pub both_removed : (ks : List Key) (vs : List V) (i : ℕ) → ks ≡ remove (take r.len r.keys.now) i → vs ≡ remove (take r.len r.values.now) i → zip (map content ks) vs ≡ remove (pairs_of r) i
  both_removed ks vs i p q =
      paired (map content ks) vs (remove (pairs_of r) i)
      (ap (map content) p ∙ map_removed content (take r.len r.keys.now) i ∙ sym (map_removed (λ p. p.0) (pairs_of r) i ∙ ap (λ js. remove js i) firsts_are))
      (q ∙ sym (map_removed (λ p. p.1) (pairs_of r) i ∙ ap (λ ws. remove ws i) seconds_are))

  pub value_set : (i : ℕ) (k : List ℕ) (v : V) → i < r.len → get_or (firsts (pairs_of r)) i k ≡ k → zip (map content (take r.len r.keys.now)) (take r.len (set r.values.now i v)) ≡ set (pairs_of r) i (k, v)
  value_set i k v l h =
      paired _ _ (set (pairs_of r) i (k, v))
      (sym (map-set (λ p. p.0) (pairs_of r) i (k, v) ∙ ap (set (firsts (pairs_of r)) i) (sym h) ∙ set-get_or (firsts (pairs_of r)) i k ∙ firsts_are))
      (take-set-lt r.len r.values.now i v l ∙ sym (map-set (λ p. p.1) (pairs_of r) i (k, v) ∙ ap (λ ws. set ws i v) seconds_are))

  -- a search among the keys ks, which are those of the pairs
  pub searched : (ks : List Key) → map content ks ≡ firsts (pairs_of r) → (k : List ℕ) → ascends (firsts (pairs_of r)) ≡ true → (at : Result ℕ ℕ) → IsSearchInRange at (length ks) → IsBinarySearchResult (λ x. order (content x) k) ks at → Spot (pairs_of r) k at
  searched ks own k up at l e = by_case at l e
    where
      ascend : ascends (map content ks) ≡ true
      ascend = ap ascends own ∙ up

      long : length ks ≡ length (pairs_of r)
      long = sym (length-map ks content) ∙ ap length own ∙ length-map (pairs_of r) (λ p. p.0)

      by_case : (at : Result ℕ ℕ) → IsSearchInRange at (length ks) → IsBinarySearchResult (λ x. order (content x) k) ks at → Spot (pairs_of r) k at
      by_case (Ok i) l e = held k (pairs_of r) i (omega (arith, long)) (rw (sym own) (met k ks ascend i l e)) (rw (sym own) (read_there content (λ j. order j k ≡ Equal) ks i l e))
      by_case (Err i) l e =
          let point = e (rises k ks ascend) in
          missing k (pairs_of r) i (omega (arith, long)) (rw (sym own) (all_low content (Below k) ks i point.0)) (rw (sym own) (all_high content (λ j. order j k ≡ Greater) ks i point.1))

-- a value that is read of the rows is read of the pairs
pub ruleset reads = (seconds_are, get_or-take, get_or_default)

-- an edit leaves the keys in order; the first part shows the call that is made
pub still_inserted : {V : Type 0} (k : List ℕ) (ps : Pairs V) (v : V) → ascends (firsts ps) ≡ true → (inserted ps k v ≡ inserted ps k v) × (ascends (firsts (inserted ps k v)) ≡ true)
still_inserted k ps v up = (refl, inserted_ascends k ps v up)

pub still_erased : {V : Type 0} (k : List ℕ) (ps : Pairs V) → ascends (firsts ps) ≡ true → (erased ps k ≡ erased ps k) × (ascends (firsts (erased ps k)) ≡ true)
still_erased k ps up = (refl, erased_ascends k ps up)
