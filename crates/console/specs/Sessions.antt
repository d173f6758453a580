-- Where a session stands. Assumes nothing.
use Rattle.std.specs.Prelude.{ℤ}
use Rattle.ordered.specs.Pairs.{Pairs}
use Rattle.lines.specs.Buffers.{reading}
use Rattle.console.specs.Transcripts.{Standing, standing}
use Rattle.console.specs.declared.session.Session.{Session}

-- by the pairs that its positions are
abbrev pub here : {I : Type 0} → (I → Pairs ℤ) → Session I → Standing
here pairs s = standing (reading s.line) s.console.lines (pairs s.console.positions)
