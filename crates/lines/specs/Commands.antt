-- The commands that lines are read as. Assumes nothing.
use Rattle.std.specs.Prelude.{ℕ, zero, suc, Bool, true, false, cond, not, ◌&&◌, List, [], ◌∷◌, length, Ok, Err, Result, ◌==◌, slice_index, slice_index_or}
use Rattle.std.specs.Result.{result_map_both}
use Rattle.lines.specs.declared.fault.LineFault.{LineFault}
use Rattle.lines.specs.declared.fault.LineFault.TheVariants.{Malformed}
use Rattle.lines.specs.declared.command.Command.{Command}
use Rattle.lines.specs.declared.command.Command.TheVariants as command
use Rattle.lines.specs.Words.{split}

-- a command, by the bytes of its words
pub data Asked : Type 0 where
  post : List ℕ → List ℕ → List ℕ → Asked
  list : List ℕ → Asked

abbrev pub asked_by : Command → Asked
asked_by (command.Post member code lots) = post member.now code.now lots.now
asked_by (command.List member) = list member.now

abbrev pub asked : Result Command LineFault → Result Asked LineFault
asked r = result_map_both asked_by (λ f. f) r

-- ---- a line, by its words

-- there are n words, none of them empty
abbrev pub words : ℕ → List (List ℕ) → Bool
words zero [] = true
words zero (w ∷ ws) = false
words (suc n) [] = false
words (suc n) (w ∷ ws) = not (length w == 0) && words n ws

abbrev pub only : Bool → Asked → Result Asked LineFault
only b a = cond b (Ok a) (Err Malformed)

-- `P member code lots`, and `L member`, behind their first letter (bytes 80 and 76)
abbrev pub post_command : List (List ℕ) → Result Asked LineFault
post_command ws = only (words 3 ws) (post (slice_index_or ws 0 []) (slice_index_or ws 1 []) (slice_index_or ws 2 []))

abbrev pub list_command : List (List ℕ) → Result Asked LineFault
list_command ws = only (words 1 ws) (list (slice_index_or ws 0 []))

-- the word is that one letter
abbrev pub is : ℕ → List ℕ → Bool
is letter w = length w == 1 && slice_index w 0 == letter

abbrev pub command_of : List (List ℕ) → Result Asked LineFault
command_of [] = Err Malformed
command_of (name ∷ ws) = cond (is 80 name) (post_command ws) (cond (is 76 name) (list_command ws) (Err Malformed))

-- one space between words: any other spacing makes an empty word
abbrev pub line_command : List ℕ → Result Asked LineFault
line_command line = command_of (split 32 line)
