-- What holds of tokens and of names. Assumes nothing.
use Rattle.std.specs.Prelude.{◌≡◌, ℕ, suc, true, List, ◌∷◌, ◌++◌, length, take, Decides}
use Rattle.std.specs.declared.cmp.Ordering.TheVariants.{Less}
use Rattle.ordered.specs.Order.{order, begins}
use Rattle.names.specs.declared.name.Name.{Name}
use Rattle.names.specs.Tokens.{tokens, spelled, bytes_of, closed, nameable}
use Rattle.names.specs.Names.{start_of, tokens_of, same_tokens}

pub record Laws : Type 0 where
  -- tokens are ordered as keys are, and the end comes before every byte
  pub order_kept : (a b : List ℕ) → order (tokens a) (tokens b) ≡ order a b
  pub end_lowest : (x y z : List ℕ) (b : ℕ) → order (x ++ 0 ∷ y) (x ++ suc b ∷ z) ≡ Less
  -- a prefix is what the first tokens are
  pub prefix_first : (x y : List ℕ) → Decides (begins x y) (take (length x) y ≡ x)
  -- the tokens of a name say its bytes and whether the end follows
  pub name_bytes : (n : Name) → bytes_of (tokens_of n) ≡ start_of n
  pub name_end : (n : Name) → closed (tokens_of n) ≡ n.ended
  -- every name stands for tokens of the form of a name, and tokens of that form are their bytes and their end
  pub name_formed : (n : Name) → nameable (tokens_of n) ≡ true
  pub form_spelled : (x : List ℕ) → nameable x ≡ true → spelled (bytes_of x) (closed x) ≡ x
  -- names are equal exactly if they stand for the same tokens, and then they do not differ
  pub equal_tokens : (m n : Name) → Decides (same_tokens m n) (tokens_of m ≡ tokens_of n)
  pub faithful : (m n : Name) → tokens_of m ≡ tokens_of n → (m.start.len ≡ n.start.len) × (m.start.bytes ≡ n.start.bytes) × (m.ended ≡ n.ended)
