-- The tokens that a name stands for. Assumes nothing.
use Rattle.std.specs.Prelude.{ℕ, suc, Bool, List, Option, nat_eq}
use Rattle.std.specs.Ordering.{on}
use Rattle.std.specs.Cmp.Lexicographic.{pointwise}
use Rattle.std.specs.Option.{option_map}
use Rattle.ordered.specs.Keys.{content}
use Rattle.names.specs.declared.name.Name.{Name}
use Rattle.names.specs.declared.spelling.Spelling.{Spelling}
use Rattle.names.specs.declared.token.Token.{Token}
use Rattle.names.specs.declared.token.Token.TheVariants.{End, Byte}
use Rattle.names.specs.Tokens.{spelled}

abbrev pub start_of : Name → List ℕ
start_of n = content n.start

abbrev pub spelt : Spelling → List ℕ
spelt s = spelled s.bytes.now s.ended

abbrev pub tokens_of : Name → List ℕ
tokens_of n = spelled (start_of n) n.ended

-- whether two names stand for the same tokens
abbrev pub same_tokens : Name → Name → Bool
same_tokens = on tokens_of (pointwise nat_eq)

abbrev pub named : Option Name → Option (List ℕ)
named o = option_map tokens_of o

abbrev pub code : Token → ℕ
code End = 0
code (Byte b) = suc b

abbrev pub coded : Option Token → Option ℕ
coded o = option_map code o
