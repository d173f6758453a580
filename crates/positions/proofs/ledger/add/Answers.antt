use Rattle.std.proofs.Common.{◌≡◌, ◌++◌, sym, ◌∙◌, w64, to_z, of_z, rules}
use Rattle.std.proofs.lemmas.Int.{to_z-of_z}
use Rattle.ordered.proofs.Outcomes.{key_made}
use Rattle.codes.specs.Texts.{text}
use Rattle.positions.specs.Posting.{total, lots_of}
use Rattle.positions.proofs.Exits.{sum_told, found, replied}
use Rattle.positions.proofs.ledger.add.Goals as goal

pub returns : goal.returns
returns g c =
    let ps = g.I.OrderedIndex.pairs c.args.index.now in
    let m = text c.args.member in
    let d = text c.args.code in
    let lots = c.args.lots in
    let sum = c.in_ok-sum.sum in
    let held = c.unwrap_or-held.result in
    let made = key_made _ _ c.in_ok-key.ensures in
    let parts : c.as_bytes.result.now ++ c.as_bytes-2.result.now ≡ m ++ d = cc in
    let short = rw parts at made.1 in
    let got : c.as_bytes-3.result.now ≡ m ++ d = cc in
    let key : c.as_bytes-4.result.now ≡ m ++ d = cc in
    let o = found ps m d short _ (rw got at c.in_ok-get.ensures) in
    let was : to_z w64 (of_z w64 held) ≡ lots_of ps m d = to_z-of_z w64 held (search rules) ∙ rw o at c.unwrap_or-held.ensures in
    let same = to_z-of_z w64 lots c.ranges.lots in
    let told = sum_told sum (total ps m d lots) (rw (was, same) at (sym c.in_ok-sum.ensures.ok_part ∙ c.sum_of.ensures)) in
    let passed : to_z w64 (of_z w64 sum) ≡ total ps m d lots = to_z-of_z w64 sum (search rules) ∙ told.1 in
    let both = replied ps m d short lots _ _ _ c.args.member.good c.args.code.good c.requires told.0 (rw (key, passed) at c.settle.ensures.reply) (rw (key, passed) at c.settle.ensures.after) in
    record { reply = both.0; after = both.1; limit = c.settle.ensures.limit }
