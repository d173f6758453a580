use Rattle.hashing.proofs.Lawful.{laws}
use Rattle.hashing.proofs.laws.laws_stand.Goals as goal

pub returns : goal.returns
returns c = laws
