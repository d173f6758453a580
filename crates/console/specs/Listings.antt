-- What a listing holds. Assumes nothing.
use Rattle.std.specs.Prelude.{map, take, ℤ, Ok, Err, Result}
use Rattle.std.specs.List.{zip}
use Rattle.ordered.specs.Keys.{content}
use Rattle.ordered.specs.Pairs.{Pairs}
use Rattle.positions.specs.declared.fault.PositionFault.{PositionFault}
use Rattle.console.specs.declared.listing.Listing.{Listing}

abbrev pub listing_pairs : Listing → Pairs ℤ
listing_pairs l = zip (map content (take l.count l.keys)) (take l.count l.lots)

abbrev pub listings : Result Listing PositionFault → Result (Pairs ℤ) PositionFault
listings (Ok l) = Ok (listing_pairs l)
listings (Err f) = Err f
