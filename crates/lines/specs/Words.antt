-- A line as words: what stands between its spaces. Assumes nothing.
use Rattle.std.specs.Prelude.{ℕ, List, [], ◌∷◌, Ok, Err, Result, ◌==◌}
use Rattle.std.specs.List.{slice_split}
use Rattle.lines.specs.declared.fault.LineFault.{LineFault}
use Rattle.lines.specs.declared.fault.LineFault.TheVariants.{Malformed}

-- the parts of s between its separators, empty ones too
abbrev pub split : ℕ → List ℕ → List (List ℕ)
split separator s = slice_split (λ b. b == separator) s

-- ---- taking one word of those that are left

abbrev pub word_reply : List (List ℕ) → Result (List ℕ) LineFault
word_reply [] = Err Malformed
word_reply ([] ∷ ws) = Err Malformed
word_reply ((b ∷ w) ∷ ws) = Ok (b ∷ w)

abbrev pub later : List (List ℕ) → List (List ℕ)
later [] = []
later (w ∷ ws) = ws

abbrev pub end_reply : List (List ℕ) → Result (Unit {0}) LineFault
end_reply [] = Ok tt
end_reply (w ∷ ws) = Err Malformed
