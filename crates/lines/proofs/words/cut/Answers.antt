use Rattle.std.proofs.Common.{rules}
use Rattle.lines.proofs.Cuts.{cut_at, cut_nowhere}
use Rattle.lines.proofs.words.cut.Goals as goal

pub returns-in-Some : goal.returns-in-Some
returns-in-Some c = cut_at c.args.text.now c.in-Some.at (search rules) (search rules) (search rules)

pub returns-in-None : goal.returns-in-None
returns-in-None c = cut_nowhere c.args.text.now (search rules)
