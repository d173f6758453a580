-- The lines of an input, as its bytes are fed one by one. Assumes nothing.
use Rattle.std.proofs.Common.{◌≡◌, ℕ, ◌<◌, Bool, true, false, eqb, List, [], ◌∷◌, ◌++◌, map, length, Some, Option, refl, ap, ◌∙◌, ⊎_elim, arith, length-append, append_assoc}
use Rattle.std.specs.List.{All}
use Rattle.std.proofs.lemmas.Bool.{cases_Bool}
use Rattle.std.proofs.lemmas.Bool.Decides.{nat_tests}
use Rattle.std.proofs.lemmas.List.{append-nil}
use Rattle.std.proofs.lemmas.List.Elements.{All-nil, All-push}
use Rattle.std.proofs.lemmas.List.Splits.{length-slice_split, slice_split_at, slice_split_none}
use Rattle.lines.specs.Words.{split}
use Rattle.lines.specs.Lines.{grown}
use Rattle.lines.specs.Laws.{trimmed, lines, kept, answered}

-- a part in front of others is none that is trimmed
trimmed_more : (w : List ℕ) (ws : List (List ℕ)) → 0 < length ws → trimmed (w ∷ ws) ≡ w ∷ trimmed ws
trimmed_more w [] some = absurd (omega arith)
trimmed_more w (v ∷ ws) some = refl

-- one byte more
kept_grown : (p : List ℕ) (b : ℕ) → grown (kept p) b ≡ kept (p ++ b ∷ [])
kept_grown p b = grind (arith, nat_tests, length-append p (b ∷ []))

-- behind a newline a line begins
afresh : (x : Option (List ℕ)) (input : List ℕ) → answered (x, true) input ≡ answered (Some [], false) input
afresh x [] = refl
afresh x (b ∷ input) = refl

abbrev newline : ℕ → Bool
newline b = eqb b 10

abbrev other : ℕ → Type 0
other b = newline b ≡ false

-- behind the bytes p of a line that has not ended
answered_from : (p input : List ℕ) → All other p → answered (kept p, false) input ≡ map kept (trimmed (split 10 (p ++ input)))
answered_from p [] none = rw (append-nil, slice_split_none newline p none) (grind (arith, nat_tests))
answered_from p (b ∷ input) none = ⊎_elim
    (λ (h : newline b ≡ true).
    let some : 0 < length (split 10 input) = omega (arith, length-slice_split newline input) in
    rw (slice_split_at newline p b input none h, trimmed_more, h) (ap (λ r. kept p ∷ r) (afresh (kept p) input ∙ answered_from [] input (All-nil other))))
    (λ (h : newline b ≡ false). rw (h, kept_grown) (rw append_assoc at (answered_from (p ++ b ∷ []) input (All-push other p b none h))))
    (cases_Bool (newline b))

pub every_line : (input : List ℕ) → answered (Some [], false) input ≡ map kept (lines input)
every_line input = answered_from [] input (All-nil other)
