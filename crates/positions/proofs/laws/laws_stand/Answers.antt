use Rattle.positions.proofs.Lawful.{posting_laws}
use Rattle.positions.proofs.laws.laws_stand.Goals as goal

pub returns : goal.returns
returns c = posting_laws
