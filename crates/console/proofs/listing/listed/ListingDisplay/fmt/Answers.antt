use Rattle.std.proofs.Common.{[], ◌++◌, codes, decimal, refl, ap, sym, ◌∙◌, ⊎_elim, inl, inr, w64, SFits, rules}
use Rattle.std.proofs.lemmas.Int.{to_z-of_z}
use Rattle.std.proofs.Output.{has_written_append, has_written_of_eq, writes_in_calls_nil}
use Rattle.ordered.specs.Keys.{content}
use Rattle.console.specs.Texts.{pair_text}
use Rattle.console.proofs.Listed.{held, more, ended}
use Rattle.console.proofs.listing.listed.ListingDisplay.fmt.Goals as goal

pub loop-key-init : goal.loop-key-init
loop-key-init g c = λ plain. ([], record { wrote = writes_in_calls_nil _ _; plain = plain }, search rules)

pub loop-key-preserved : goal.loop-key-preserved
loop-key-preserved g c = λ plain.
    let inv = c.loop-key.invariant plain in
    let one = c.in_ok-writeln.ensures.writes inv.1.plain refl in
    let fits : SFits w64 c.in-Some.lots.now = search rules in
    let line = c.of-line.ensures ∙ ap (λ z. pair_text (content c.in-Some.key.now, z)) (to_z-of_z w64 c.in-Some.lots.now fits) in
    let s = c.in-Some.ensures.steps in
    (_, has_written_append _ _ _ _ _ _ inv.1 one, more inv.0 _ _ _ _ line (rw (s.0, s.1) at inv.2))

pub returns-clause-writes : goal.returns-clause-writes
returns-clause-writes g c = λ plain ok.
    let inv = c.loop-key.invariant plain in
    let last = c.write.ensures.writes inv.1.plain ok in
    let all = ended inv.0 _ _ _ (⊎_elim (λ e. inl e.1.0) (λ e. inr e.1.0) c.in-None.ensures.steps) inv.2 in
    has_written_of_eq _ _ _ _ _ (λ t. all t ++ (codes "END " ++ decimal (sym (held c.args.self.now) t))) (has_written_append _ _ _ _ _ _ inv.1 last)
