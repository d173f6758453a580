-- Members and codes have bytes below 128 alone, which are written as they are. Assumes nothing.
use Rattle.std.proofs.Common.{◌≡◌, ℕ, ◌<◌, Bool, true, List, arith}
use lib.Utf8.{encodes}
use Rattle.std.specs.List.{list_all}
use Rattle.std.proofs.lemmas.List.Elements.{All-weaker}
use Rattle.std.proofs.lemmas.List.Sums.{AllPass-from_list_all}
use Rattle.std.proofs.lemmas.Str.Ascii.{IsAscii-from_all, encodes-IsAscii}
use Rattle.std.proofs.lemmas.Bool.Decides.{nat_tests}
use Rattle.codes.specs.Codes.{letter_or_digit, code_byte, is_member, is_code}

plain : (p : ℕ → Bool) → ((b : ℕ) → p b ≡ true → b < 128) → (s : List ℕ) → list_all p s ≡ true → encodes s ≡ s
plain p low s all = encodes-IsAscii s (IsAscii-from_all s (All-weaker _ _ low s (AllPass-from_list_all p s all)))

pub member_plain : (s : List ℕ) → is_member s ≡ true → encodes s ≡ s
member_plain s good = plain letter_or_digit (λ b h. grind (arith, nat_tests)) s (grind arith)

pub code_plain : (s : List ℕ) → is_code s ≡ true → encodes s ≡ s
code_plain s good = plain code_byte (λ b h. grind (arith, nat_tests)) s (grind arith)
