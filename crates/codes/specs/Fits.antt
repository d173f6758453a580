-- Codes and members are short enough for a key. Assumes nothing.
use Rattle.std.specs.Prelude.{◌≡◌, ℕ, ◌≤◌, true, List, length}
use Rattle.std.proofs.Common.{arith}
use Rattle.std.proofs.lemmas.Bool.Decides.{nat_tests}
use Rattle.ordered.specs.Order.{max_key}
use Rattle.codes.specs.Codes.{is_code, is_member}

pub code_fits : (s : List ℕ) → is_code s ≡ true → length s ≤ max_key
code_fits s good = grind (arith, nat_tests)

pub member_fits : (s : List ℕ) → is_member s ≡ true → length s ≤ max_key
member_fits s good = grind (arith, nat_tests)
