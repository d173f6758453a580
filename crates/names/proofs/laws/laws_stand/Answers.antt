use Rattle.names.proofs.Lawful.{laws}
use Rattle.names.proofs.laws.laws_stand.Goals as goal

pub returns : goal.returns
returns c = laws
