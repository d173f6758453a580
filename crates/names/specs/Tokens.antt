-- Strings of tokens as lists of numbers: 0 is the end, the lowest token, and b + 1 is the byte b. Assumes nothing.
--     tokens bytes, spelled bytes ended      the tokens of a byte string; and those with the end behind them or not
--     bytes_of x, closed x      the bytes before the end; whether the end is in x
--     nameable x      the end is nowhere but behind all bytes, and the bytes are few enough for a key
use Rattle.std.specs.Prelude.{ℕ, zero, suc, Bool, true, false, cond, not, ◌&&◌, List, [], ◌∷◌, ◌++◌, map, Some, None, Option}
use Rattle.ordered.specs.Replies.{long}

abbrev pub tokens : List ℕ → List ℕ
tokens bytes = map suc bytes

abbrev pub tail : Bool → List ℕ
tail true = 0 ∷ []
tail false = []

abbrev pub spelled : List ℕ → Bool → List ℕ
spelled bytes ended = tokens bytes ++ tail ended

abbrev pub bytes_of : List ℕ → List ℕ
bytes_of [] = []
bytes_of (zero ∷ x) = []
bytes_of (suc b ∷ x) = b ∷ bytes_of x

abbrev pub closed : List ℕ → Bool
closed [] = false
closed (zero ∷ x) = true
closed (suc b ∷ x) = closed x

abbrev pub end_last : List ℕ → Bool
end_last [] = true
end_last (zero ∷ []) = true
end_last (zero ∷ (t ∷ x)) = false
end_last (suc b ∷ x) = end_last x

abbrev pub nameable : List ℕ → Bool
nameable x = end_last x && not (long (bytes_of x))

abbrev pub good_name : List ℕ → Option (List ℕ)
good_name x = cond (nameable x) (Some x) None
