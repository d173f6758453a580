use Rattle.console.proofs.Gathers.{gathered}
use Rattle.console.proofs.listing.Listing.of.Goals as goal

pub returns : goal.returns
returns g c =
    let r = c.in_ok-count.ensures in
    gathered (g.I.OrderedIndex.pairs c.args.positions.now) c.args.member.now _ c.empty-keys.result _ c.in_ok-count.count _ r.reply r.keys r.lots
