use Rattle.std.proofs.Common.{◌≡◌, ◌++◌, drop, string_bytes}
use Rattle.console.specs.Sessions.{here}
use Rattle.console.specs.Transcripts.{transcript, after}
use Rattle.console.proofs.session.Session.take_bytes.Given as goal

-- what was written and what is to be written are the whole; and so for what the session comes to
abbrev pub invariant-loop-byte : goal.invariant-loop-byte
invariant-loop-byte g l =
    let m = g.I.OrderedIndex in
    let limit = m.limit l.initial.self.console.positions in
    let start = here m.pairs l.initial.self in
    let now = here m.pairs l.self in
    (string_bytes l.out ++ transcript limit now (drop l.byte-index l.input) ≡ string_bytes l.initial.out ++ transcript limit start l.input)
    × (after limit now (drop l.byte-index l.input) ≡ after limit start l.input)
    × (m.limit l.self.console.positions ≡ limit)
