-- The lines of a listing. Assumes nothing.
use Rattle.std.proofs.Common.{◌≡◌, ℕ, List, [], ◌∷◌, ◌++◌, map, length, ℤ, ◌⊎◌, append_assoc, append-nil, arith, length-take}
use lib.ListN.{length-map}
use Rattle.std.specs.List.{zip}
use Rattle.std.proofs.lemmas.List.{nil_from_length}
use Rattle.std.proofs.lemmas.Slice.Zip.{length-zip}
use Rattle.ordered.specs.declared.key.Key.{Key}
use Rattle.ordered.specs.Keys.{content}
use Rattle.ordered.specs.Pairs.{Pairs}
use Rattle.console.specs.declared.listing.Listing.{Listing}
use Rattle.console.specs.Listings.{listing_pairs}
use Rattle.console.specs.Texts.{pair_text, positions_text}

pub held : (l : Listing) → length (listing_pairs l) ≡ l.count
held l = simp (length-zip, length-map, length-take) (omega (arith, l.wide, l.even, l.short))

-- the line of one pair more of those that are left
pub more : (text line all : List ℕ) (p : List ℕ × ℤ) (rest : Pairs ℤ) → line ≡ pair_text p → text ++ positions_text (p ∷ rest) ≡ all → (text ++ (line ++ (10 ∷ []))) ++ positions_text rest ≡ all
more text line all p rest e h = rw e (simp append_assoc (simp append_assoc at h))

-- none of one row is left
pub ended : (text all : List ℕ) (keys : List Key) (lots : List ℤ) → (length keys ≡ 0) ⊎ (length lots ≡ 0) → text ++ positions_text (zip (map content keys) lots) ≡ all → text ≡ all
ended text all keys lots e h =
    let none : zip (map content keys) lots ≡ [] = nil_from_length _ (grind (arith, length-zip, length-map)) in
    rw (none, append-nil) at h
