use Rattle.std.proofs.Common.{◌≡◌, ℕ, List, ◌++◌, map}
use Rattle.std.specs.Fmt.{IsPlainFormatter, HasWritten}
use Rattle.std.specs.List.{zip}
use Rattle.ordered.specs.Keys.{content}
use Rattle.console.specs.Texts.{positions_text}
use Rattle.console.specs.Listings.{listing_pairs}
use Rattle.console.proofs.listing.listed.ListingDisplay.fmt.Given as goal

-- the text that was written, and that of the pairs that are left
abbrev pub invariant-loop-key : goal.invariant-loop-key
invariant-loop-key g l =
    IsPlainFormatter l.initial.f
    → (text : List ℕ) × HasWritten g.W.Write.write_str_gives l.initial.f text l.f × (text ++ positions_text (zip (map content l.key-iterator.a.rest.now) l.key-iterator.b.rest.now) ≡ positions_text (listing_pairs l.self))
