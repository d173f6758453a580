-- What the making of a key tells of its bytes. Assumes nothing.
use Rattle.std.proofs.Common.{◌≡◌, ℕ, ◌≤◌, List, length, Ok, arith}
use Rattle.std.proofs.lemmas.Bool.Decides.{nat_tests}
use Rattle.ordered.specs.Replies.{key_reply}

pub key_made : (k s : List ℕ) → Ok s ≡ key_reply k → (s ≡ k) × (length k ≤ 24)
key_made k s e = grind (arith, nat_tests)
