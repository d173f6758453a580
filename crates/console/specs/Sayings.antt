-- The text of an answer. Assumes nothing.
use Rattle.std.specs.Prelude.{ℕ, List, Ok, Err, Result}
use Rattle.console.specs.declared.answer.Answer.{Answer}
use Rattle.console.specs.declared.answer.Answer.TheVariants.{Posted, Listed, Refused}
use Rattle.console.specs.declared.fault.Fault.{Fault}
use Rattle.console.specs.Positions.{line_text}
use Rattle.console.specs.Texts.{listing_text, fault_text}
use Rattle.console.specs.Listings.{listing_pairs}

abbrev pub answer_text : Answer → List ℕ
answer_text (Posted p) = line_text p
answer_text (Listed l) = listing_text (listing_pairs l)
answer_text (Refused n f) = fault_text n f

abbrev pub answers_text : Result Answer Fault → Result (List ℕ) Fault
answers_text (Ok a) = Ok (answer_text a)
answers_text (Err f) = Err f
