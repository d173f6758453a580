-- The positions that rows of sixteen places take. Assumes nothing.
use Rattle.std.proofs.Common.{◌≡◌, ℕ, ◌≤◌, min, Bool, true, List, [], ◌∷◌, map, length, take, ℤ, pos, replicate, Ok, refl, ap, arith, length-take}
use lib.ListN.{length-map}
use Rattle.std.specs.List.{zip}
use Rattle.std.proofs.lemmas.List.Sums.{length-filter, count_by-le-length}
use Rattle.std.proofs.lemmas.List.{take_all, take-map, take_min, take-take, take-append-le}
use Rattle.ordered.specs.Order.{begins}
use Rattle.ordered.specs.declared.key.Key.{Key}
use Rattle.ordered.specs.Keys.{content}
use Rattle.ordered.specs.Pairs.{Pairs, firsts, seconds, under, written}
use Rattle.codes.specs.Codes.{is_member}
use Rattle.positions.specs.Listing.{list_reply}
use Rattle.console.specs.Answers.{listing_reply, max_listed}

-- what was written lies in front
front : {A B : Type 0} (f : A → B) (row : List B) (xs : List A) (n : ℕ) → length row ≡ max_listed → n ≡ min max_listed (length xs) → take n (written row (map f xs)) ≡ map f (take max_listed xs)
front f row xs n wide e = grind (arith, take_min, take-take, take-append-le, take-map, length-take, length-map)

together : (ps : Pairs ℤ) → zip (firsts ps) (seconds ps) ≡ ps
together [] = refl
together (p ∷ ps) = ap (λ qs. p ∷ qs) (together ps)

-- n and more were replied, and the rows ks and vs written
module _ (ps : Pairs ℤ) (member : List ℕ) (ks : List Key) (empty : Key) (vs : List ℤ) (n : ℕ) (more : Bool) where
  abbrev own : Pairs ℤ
  own = under member ps

  pub gathered : Ok (n, more) ≡ list_reply ps member max_listed max_listed → map content ks ≡ written (map content (replicate max_listed empty)) (firsts own) → vs ≡ written (replicate max_listed (pos 0)) (seconds own) → Ok (zip (map content (take n ks)) (take n vs)) ≡ listing_reply ps member
  gathered reply keys lots =
      let t : (is_member member ≡ true) × (n ≡ min max_listed (length own)) = grind arith in
      let a : map content (take n ks) ≡ firsts (take max_listed own) = rw (← take-map content n ks, keys) (front (λ p. p.0) (map content (replicate max_listed empty)) own n refl t.1) in
      let b : take n vs ≡ seconds (take max_listed own) = rw lots (front (λ p. p.1) (replicate max_listed (pos 0)) own n refl t.1) in
      rw (a, b, together (take max_listed own), t.0) refl

-- ---- where there are no more positions than are listed

pub listed_whole : (ps : Pairs ℤ) (member : List ℕ) → length ps ≤ max_listed → is_member member ≡ true → listing_reply ps member ≡ Ok (under member ps)
listed_whole ps member few good =
    let p = λ (p : List ℕ × ℤ). begins member p.0 in
    rw good (ap Ok (take_all max_listed (under member ps) (omega (arith, length-filter p ps, count_by-le-length p ps))))
