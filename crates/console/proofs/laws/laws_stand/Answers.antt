use Rattle.console.proofs.Gathers.{listed_whole}
use Rattle.console.proofs.Plains.{member_plain, code_plain}
use Rattle.console.proofs.Sessions.{written, parts, parts_after}
use Rattle.console.proofs.laws.laws_stand.Goals as goal

pub returns : goal.returns
returns c = record { written = written; parts = parts; parts_after = parts_after; listed_whole = listed_whole; member_plain = member_plain; code_plain = code_plain }
