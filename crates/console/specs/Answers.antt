-- What the console answers to a line, and what the line makes of the positions. Assumes nothing.
use Rattle.std.specs.Prelude.{ℕ, cond, List, take, ℤ, Ok, Err, Result}
use Rattle.ordered.specs.Pairs.{Pairs, under}
use Rattle.codes.specs.Codes.{is_member}
use Rattle.positions.specs.declared.fault.PositionFault.{PositionFault}
use Rattle.positions.specs.declared.fault.PositionFault.TheVariants.{BadMember}
use Rattle.positions.specs.Posting.{post_reply, posted}
use Rattle.lines.specs.declared.fault.LineFault.{LineFault}
use Rattle.console.specs.declared.fault.Fault.{Fault}
use Rattle.console.specs.declared.fault.Fault.TheVariants.{Line, Positions}
use Rattle.lines.specs.Decimals.{lots_number, number_reply}
use Rattle.lines.specs.Commands.{Asked, post, list, line_command}
use Rattle.console.specs.Texts.{position_text, listing_text, fault_text}

-- the most positions that are listed
abbrev pub max_listed : ℕ
max_listed = 16

-- a member's positions, as many as are listed
abbrev pub listing_reply : Pairs ℤ → List ℕ → Result (Pairs ℤ) PositionFault
listing_reply ps member = cond (is_member member) (Ok (take max_listed (under member ps))) (Err BadMember)

-- ---- what a command comes to: the text that answers it, or why it is refused

abbrev pub posted_text : List ℕ → List ℕ → Result ℤ PositionFault → Result (List ℕ) Fault
posted_text member code (Ok sum) = Ok (position_text member code sum)
posted_text member code (Err f) = Err (Positions f)

abbrev pub listed_text : Result (Pairs ℤ) PositionFault → Result (List ℕ) Fault
listed_text (Ok qs) = Ok (listing_text qs)
listed_text (Err f) = Err (Positions f)

abbrev pub post_outcome : Pairs ℤ → ℕ → List ℕ → List ℕ → Result ℤ LineFault → Result (List ℕ) Fault
post_outcome ps limit member code (Ok lots) = posted_text member code (post_reply ps limit member code lots)
post_outcome ps limit member code (Err f) = Err (Line f)

abbrev pub command_outcome : Pairs ℤ → ℕ → Asked → Result (List ℕ) Fault
command_outcome ps limit (post member code lots) = post_outcome ps limit member code (number_reply (lots_number lots))
command_outcome ps limit (list member) = listed_text (listing_reply ps member)

-- ---- and what it makes of the positions

abbrev pub post_pairs : Pairs ℤ → ℕ → List ℕ → List ℕ → Result ℤ LineFault → Pairs ℤ
post_pairs ps limit member code (Ok lots) = posted ps limit member code lots
post_pairs ps limit member code (Err f) = ps

abbrev pub command_pairs : Pairs ℤ → ℕ → Asked → Pairs ℤ
command_pairs ps limit (post member code lots) = post_pairs ps limit member code (number_reply (lots_number lots))
command_pairs ps limit (list member) = ps

-- ---- a line, which may be refused as it is read

abbrev pub read_line : Result (List ℕ) LineFault → Result Asked LineFault
read_line (Ok line) = line_command line
read_line (Err f) = Err f

abbrev pub asked_outcome : Pairs ℤ → ℕ → Result Asked LineFault → Result (List ℕ) Fault
asked_outcome ps limit (Ok a) = command_outcome ps limit a
asked_outcome ps limit (Err f) = Err (Line f)

abbrev pub asked_pairs : Pairs ℤ → ℕ → Result Asked LineFault → Pairs ℤ
asked_pairs ps limit (Ok a) = command_pairs ps limit a
asked_pairs ps limit (Err f) = ps

abbrev pub line_outcome : Pairs ℤ → ℕ → Result (List ℕ) LineFault → Result (List ℕ) Fault
line_outcome ps limit line = asked_outcome ps limit (read_line line)

abbrev pub line_pairs : Pairs ℤ → ℕ → Result (List ℕ) LineFault → Pairs ℤ
line_pairs ps limit line = asked_pairs ps limit (read_line line)

-- the answer to line n
abbrev pub said : ℕ → Result (List ℕ) Fault → List ℕ
said n (Ok text) = text
said n (Err f) = fault_text n f
