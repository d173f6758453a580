-- How long lent rows may be. Assumes nothing.
use Rattle.std.specs.Prelude.{ℕ}

-- the most places that rows have
abbrev pub max_limit : ℕ
max_limit = 4096
