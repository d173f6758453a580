use Rattle.std.proofs.Common.{sym, ap, ◌∙◌, w64}
use Rattle.std.proofs.lemmas.Int.{to_z-of_z}
use Rattle.std.proofs.lemmas.Option.{cond_some}
use Rattle.codes.specs.Texts.{texts}
use Rattle.positions.proofs.ledger.post.Goals as goal

pub returns : goal.returns
returns g c =
    let m = (cond_some _ _ _ (sym c.new.ensures ∙ ap texts c.in_ok-member.ensures.ok_part)).1 in
    let d = (cond_some _ _ _ (sym c.new-2.ensures ∙ ap texts c.in_ok-code.ensures.ok_part)).1 in
    let same = to_z-of_z w64 c.args.lots c.ranges.lots in
    record { reply = rw (m, d, ← same) c.add.ensures.reply; after = rw (m, d, ← same) c.add.ensures.after; limit = c.add.ensures.limit }
