-- Marks of tokens, from the marks in the words. Assumes nothing.
use Rattle.std.proofs.Common.{◌≡◌, ℕ, zero, suc, Bool, true, false, MatchBool}
use Rattle.marks.specs.declared.marks.Marks.{Marks}
use Rattle.marks.specs.Bits.{marks_of}
use Rattle.marks.specs.Marked.{marked}

pub any_marked : (m : Marks) (r : Bool) → m.end ≡ false → MatchBool r ((b : ℕ) × (marks_of m.words b ≡ true)) ((b : ℕ) → marks_of m.words b ≡ false)
    → MatchBool r ((t : ℕ) × (marked m t ≡ true)) ((t : ℕ) → marked m t ≡ false)
any_marked m true end some = (suc some.0, some.1)
any_marked m false end none = λ t. elim t as (λ t. marked m t ≡ false) [ zero ↦ end | suc b ↦ none b ]
