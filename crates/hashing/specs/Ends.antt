-- The end hash: 256 times the length modulo 256, plus the last byte; 0 for the empty string. Assumes nothing.
use Rattle.std.specs.Prelude.{ℕ, ◌+◌, ◌*◌, ◌%◌, List, [], ◌∷◌, length}
use Rattle.hashing.specs.declared.end.Tail.{Tail}

-- the last of a list, or x where it has none
abbrev pub last_or : ℕ → List ℕ → ℕ
last_or x [] = x
last_or x (y ∷ ys) = last_or y ys

abbrev pub end_hash : List ℕ → ℕ
end_hash bytes = 256 * (length bytes % 256) + last_or 0 bytes

-- ---- its state

abbrev pub nothing_fed : Tail
nothing_fed = record { count = 0; last = 0 }

abbrev pub tail_of : Tail → List ℕ → Tail
tail_of t [] = t
tail_of t (b ∷ bs) = record { count = (t.count + length (b ∷ bs)) % 256; last = last_or b bs }

abbrev pub tail_number : Tail → ℕ
tail_number t = 256 * t.count + t.last
