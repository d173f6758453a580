-- The laws of tokens and of names. Assumes nothing.
use Rattle.std.proofs.Common.{not, arith}
use Rattle.std.proofs.lemmas.Slice.Eq.{bytes_eq-Decides}
use Rattle.std.proofs.lemmas.Bool.{and_parts}
use Rattle.ordered.specs.Replies.{long}
use Rattle.ordered.proofs.Contents as keys
use Rattle.names.specs.Tokens.{end_last, bytes_of}
use Rattle.names.specs.Names.{start_of, tokens_of}
use Rattle.names.specs.Laws.{Laws}
use Rattle.names.proofs.Spellings.{bytes_spelled, closed_spelled, same_spelled, begins_first, order_kept, end_lowest, nameable_spelled, form_spelled}

pub laws : Laws
laws = record {
  order_kept = order_kept;
  end_lowest = end_lowest;
  prefix_first = begins_first;
  name_bytes = λ n. bytes_spelled (start_of n) n.ended;
  name_end = λ n. closed_spelled (start_of n) n.ended;
  name_formed = λ n. nameable_spelled (start_of n) n.ended (omega (arith, keys.content_long n.start, n.start.short));
  form_spelled = λ x h. form_spelled x (and_parts (end_last x) (not (long (bytes_of x))) h).0;
  equal_tokens = λ m n. bytes_eq-Decides (tokens_of m) (tokens_of n);
  faithful = λ m n e.
      let parts = same_spelled (start_of m) (start_of n) m.ended n.ended e in
      let same = keys.faithful m.start n.start parts.0 in
      (same.0, same.1, parts.1);
}
