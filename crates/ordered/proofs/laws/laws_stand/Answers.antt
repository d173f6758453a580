use Rattle.ordered.proofs.Contents.{faithful}
use Rattle.ordered.proofs.Lawful.{order_laws, list_laws}
use Rattle.ordered.proofs.laws.laws_stand.Goals as goal

pub returns : goal.returns
returns g c = record { keys = faithful; order = order_laws; pairs = list_laws _ }
