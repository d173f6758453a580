-- The text of a position's line. Assumes nothing.
use Rattle.std.specs.Prelude.{ℕ, List}
use Rattle.console.specs.declared.position_line.PositionLine.{PositionLine}
use Rattle.console.specs.Texts.{position_text}

abbrev pub line_text : PositionLine → List ℕ
line_text p = position_text p.member.now p.code.now p.lots
