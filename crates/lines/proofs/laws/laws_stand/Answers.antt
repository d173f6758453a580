use Rattle.lines.proofs.Feeds.{every_line}
use Rattle.lines.proofs.Numerals.{lots_read, lots_written}
use Rattle.lines.proofs.laws.laws_stand.Goals as goal

pub returns : goal.returns
returns c = record { every_line = every_line; lots_read = lots_read; lots_written = lots_written }
