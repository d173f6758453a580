-- What a line buffer holds. Assumes nothing.
use Rattle.std.specs.Prelude.{ℕ, List, take}
use Rattle.std.specs.Option.{option_map}
use Rattle.lines.specs.declared.held.Held.{Held}
use Rattle.lines.specs.declared.line.LineBuffer.{LineBuffer}
use Rattle.lines.specs.Lines.{Reading}

-- the bytes that are kept
abbrev pub held : Held → List ℕ
held h = take h.len h.bytes

abbrev pub reading : LineBuffer → Reading
reading b = (option_map held b.line, b.ended)
