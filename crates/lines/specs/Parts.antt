-- What the parts of a line hold. Assumes nothing.
use Rattle.std.specs.Prelude.{ℕ, List, [], Some, None, Option, Result}
use Rattle.std.specs.Result.{result_map_both}
use Rattle.std.specs.Borrow.{Bor}
use Rattle.lines.specs.declared.fault.LineFault.{LineFault}
use Rattle.lines.specs.declared.words.Words.{Words}
use Rattle.lines.specs.Words.{split}

-- the words of a part that may be none
abbrev pub part_words : Option (Bor (List ℕ)) → List (List ℕ)
part_words None = []
part_words (Some r) = split 32 r.now

abbrev pub rest_words : Words → List (List ℕ)
rest_words w = part_words w.rest

abbrev pub told : Result (Bor (List ℕ)) LineFault → Result (List ℕ) LineFault
told r = result_map_both (λ w. w.now) (λ f. f) r
