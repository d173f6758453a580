use Rattle.codes.specs.Texts.{text}
use Rattle.positions.proofs.Runs.{own, listed}
use Rattle.positions.proofs.ledger.run.Goals as goal

pub returns : goal.returns
returns g c =
    let ps = g.I.OrderedIndex.pairs c.args.index.now in
    let m = text c.args.member in
    let good = c.args.member.good in
    let is = c.as_bytes.ensures.bytes in
    let to = c.end_of-end.ensures in
    let r = c.in_ok-run.ensures in
    record {
      reply = listed ps m good _ _ _ (rw (is, to) at r.reply);
      keys = rw (is, to, own ps m good) at r.keys;
      lots = rw (is, to, own ps m good) at r.values;
    }
