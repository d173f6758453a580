use Rattle.std.proofs.Common.{◌≡◌, ◌∙◌, ap, rules, tests}
use mir.Syntax.{w64}
use Rattle.std.specs.Int.{cast_signed}
use Rattle.std.specs.Option.{option_map}
use Rattle.std.proofs.lemmas.Iterator.{YieldsList-from_slice}
use Rattle.std.proofs.lemmas.Iterator.Consumers.{YieldsList-from_copied, YieldsList-at}
use Rattle.lines.proofs.Digits.{word_tried, word_read}
use Rattle.lines.proofs.number.positive.Goals as goal

pub returns-in-49-to-57 : goal.returns-in-49-to-57
returns-in-49-to-57 c =
    let w = c.args.word.now in
    let bytes = YieldsList-from_copied (YieldsList-at c.copied.ensures.source (YieldsList-from_slice w (cc))) in
    let tried = word_tried _ _ _ _ c.try_fold.result (λ n b o q k. search (rules, tests)) w _ c.try_fold.ensures.ran bytes in
    let signed : c.map.result ≡ option_map (cast_signed w64) c.try_fold.result = search rules in
    signed ∙ ap (option_map (cast_signed w64)) tried ∙ word_read w (search rules) (search rules) (search rules)
