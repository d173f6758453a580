-- A session over a whole input, byte by byte. Assumes nothing.
use Rattle.std.proofs.Common.{◌≡◌, ℕ, List, [], ◌∷◌, ◌++◌, map, refl, ap, ◌∙◌, append_assoc, arith}
use Rattle.std.proofs.lemmas.List.{append-nil}
use Rattle.lines.specs.Laws.{lines, kept, answered}
use Rattle.console.specs.Laws.{lines_text, fresh}
use Rattle.console.specs.Transcripts.{Standing, step, transcript, after, ending}
use Rattle.lines.proofs.Feeds.{every_line}

-- ---- an input in parts

pub parts : (limit : ℕ) (s : Standing) (a b : List ℕ) → transcript limit s (a ++ b) ≡ transcript limit s a ++ transcript limit (after limit s a) b
parts limit s [] b = refl
parts limit s (x ∷ a) b = simp (append_assoc, parts limit (step limit s x) a b)

pub parts_after : (limit : ℕ) (s : Standing) (a b : List ℕ) → after limit s (a ++ b) ≡ after limit (after limit s a) b
parts_after limit s [] b = refl
parts_after limit s (x ∷ a) b = parts_after limit (step limit s x) a b

-- ---- an input as its lines

whole : (limit : ℕ) (s : Standing) (input : List ℕ) → transcript limit s input ++ ending limit (after limit s input) ≡ lines_text limit s.count s.pairs (answered s.line input)
whole limit s [] = grind (arith, append-nil)
whole limit s (b ∷ input) = grind (arith, append_assoc, whole limit (step limit s b) input)

pub written : (limit : ℕ) (input : List ℕ) → transcript limit fresh input ++ ending limit (after limit fresh input) ≡ lines_text limit 0 [] (map kept (lines input))
written limit input = whole limit fresh input ∙ ap (lines_text limit 0 []) (every_line input)
