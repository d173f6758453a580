-- What holds of what is written, told without the steps that write it. Assumes nothing.
use Rattle.std.specs.Prelude.{◌≡◌, ℕ, ◌≤◌, true, false, List, [], ◌∷◌, ◌++◌, map, length, ℤ, Some, Ok, Option}
use Rattle.std.proofs.Math.Utf8.{encodes}
use Rattle.codes.specs.Codes.{is_member, is_code}
use Rattle.ordered.specs.Pairs.{Pairs, under}
use Rattle.lines.specs.Laws.{lines, kept}
use Rattle.console.specs.Answers.{max_listed, listing_reply}
use Rattle.console.specs.Transcripts.{Standing, standing, next_line, answer_to, pairs_behind, transcript, after, ending}

-- ---- lines answered one after another: limit is the most positions that are held, count how many lines came before

abbrev pub lines_text : ℕ → ℕ → Pairs ℤ → List (Option (List ℕ)) → List ℕ
lines_text limit count pairs [] = []
lines_text limit count pairs (l ∷ ls) = answer_to limit count pairs l ++ lines_text limit (next_line count) (pairs_behind limit pairs l) ls

-- before the first byte of input, with no positions
abbrev pub fresh : Standing
fresh = standing (Some [], false) 0 []

pub record Laws : Type 0 where
  -- what is written of an input are the answers to its lines, in order
  pub written : (limit : ℕ) (input : List ℕ) → transcript limit fresh input ++ ending limit (after limit fresh input) ≡ lines_text limit 0 [] (map kept (lines input))
  -- and it is the same in whatever parts the input comes
  pub parts : (limit : ℕ) (s : Standing) (a b : List ℕ) → transcript limit s (a ++ b) ≡ transcript limit s a ++ transcript limit (after limit s a) b
  pub parts_after : (limit : ℕ) (s : Standing) (a b : List ℕ) → after limit s (a ++ b) ≡ after limit (after limit s a) b
  -- an index that holds at most as many positions as are listed is listed whole
  pub listed_whole : (ps : Pairs ℤ) (member : List ℕ) → length ps ≤ max_listed → is_member member ≡ true → listing_reply ps member ≡ Ok (under member ps)
  -- members and codes are written as they are
  pub member_plain : (s : List ℕ) → is_member s ≡ true → encodes s ≡ s
  pub code_plain : (s : List ℕ) → is_code s ≡ true → encodes s ≡ s
