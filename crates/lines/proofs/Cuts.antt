-- A line, cut at its first space, and its words. Assumes nothing.
use Rattle.std.proofs.Common.{◌≡◌, ◌≢◌, ℕ, ◌+◌, ◌-◌, ◌<◌, Bool, false, List, ◌∷◌, [], length, eqb, get_or, take, drop, Err, refl, sym, arith}
use Rattle.std.specs.List.{position_or_len}
use Rattle.std.proofs.lemmas.Bool.{ne_eqb, eq-eqb}
use Rattle.std.proofs.lemmas.List.{take_rest}
use Rattle.std.proofs.lemmas.List.Sums.{position_or_len_is}
use Rattle.std.proofs.lemmas.List.Splits.{slice_split_none, slice_split_first, length-slice_split}
use Rattle.std.proofs.lemmas.List.Elements.{All-from_get_or}
use Rattle.lines.specs.declared.fault.LineFault.TheVariants.{Malformed}
use Rattle.lines.specs.Words.{split, end_reply}

abbrev space : ℕ → Bool
space b = eqb b 32

pub cut_at : (s : List ℕ) (i : ℕ) → i < length s → get_or s i 0 ≡ 32 → ((k : ℕ) → k < i → get_or s k 0 ≢ 32) → take i s ∷ split 32 (take (length s - (i + 1)) (drop (i + 1) s)) ≡ split 32 s
cut_at s i inside here none =
    let place : position_or_len space s ≡ i = position_or_len_is space s i 0 (omega arith) (λ k l. ne_eqb _ _ (none k l)) (λ _. eq-eqb _ _ here) in
    sym (rw take_rest (rw place at (slice_split_first space s 0 (rw place inside))))

pub cut_nowhere : (s : List ℕ) → ((k : ℕ) → k < length s → get_or s k 0 ≢ 32) → s ∷ [] ≡ split 32 s
cut_nowhere s none = sym (slice_split_none space s (All-from_get_or (λ b. space b ≡ false) s 0 (λ k l. ne_eqb _ _ (none k l))))

-- a part that is there has a word at least
pub some_words : (s : List ℕ) → end_reply (split 32 s) ≡ Err Malformed
some_words s = at (split 32 s) (omega (arith, length-slice_split space s))
  where
    at : (ws : List (List ℕ)) → 0 < length ws → end_reply ws ≡ Err Malformed
    at [] some = absurd (omega arith)
    at (w ∷ ws) some = refl
