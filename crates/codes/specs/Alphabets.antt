-- The bytes of each alphabet. Assumes nothing.
use Rattle.std.specs.Prelude.{ℕ, Bool, List}
use Rattle.std.specs.List.{list_all}
use Rattle.codes.specs.declared.text.Alphabet.{Alphabet}
use Rattle.codes.specs.declared.text.Alphabet.TheVariants.{LettersAndDigits, CodeBytes}
use Rattle.codes.specs.Codes.{letter_or_digit, code_byte}

abbrev pub allowed : Alphabet → ℕ → Bool
allowed LettersAndDigits b = letter_or_digit b
allowed CodeBytes b = code_byte b

abbrev pub all_allowed : Alphabet → List ℕ → Bool
all_allowed a s = list_all (allowed a) s
