-- The bytes of a word. Assumes nothing.
use Rattle.std.specs.Prelude.{ℕ, Bool, cond, List, Some, None, Option}
use Rattle.std.specs.Option.{option_map}
use Rattle.ordered.specs.Keys.{content}
use Rattle.codes.specs.declared.word.Word.{Word}

abbrev pub text : {K : _} {k : _} → Word K k → List ℕ
text w = content w.text

abbrev pub texts : {K : _} {k : _} → Option (Word K k) → Option (List ℕ)
texts o = option_map text o

-- the bytes s, if they are good ones
abbrev pub good_text : (List ℕ → Bool) → List ℕ → Option (List ℕ)
good_text good s = cond (good s) (Some s) None
