-- What is written of a text, byte by byte. Assumes nothing.
use Rattle.std.proofs.Common.{◌≡◌, ℕ, ◌+◌, ◌<◌, List, ◌++◌, length, get_or, take}
use lib.Utf8.{encode, encodes}
use Rattle.std.proofs.lemmas.List.{take_more, append-nil}
use Rattle.std.proofs.lemmas.Str.{encodes-append}

pub encodes_more : (s : List ℕ) (i : ℕ) → i < length s → encodes (take i s) ++ encode (get_or s i 0) ≡ encodes (take (i + 1) s)
encodes_more s i l = rw (take_more s i 0, encodes-append, append-nil)
