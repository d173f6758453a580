-- The laws of the order, and of the list of pairs. Assumes nothing.
use Rattle.std.proofs.Common.{sym}
use lib.ListN.{length-map}
use Rattle.ordered.specs.Pairs.{firsts}
use Rattle.ordered.specs.Laws.{Laws, OrderLaws}
use Rattle.ordered.proofs.Orders.{order_same, order_exact, order_total}
use Rattle.ordered.proofs.Ascents.{once, inserted_ascends, erased_ascends}
use Rattle.ordered.proofs.Lookups.{put_same, put_other, drop_same, drop_other, put_count, drop_count}
use Rattle.ordered.proofs.Fronts.{begun, extended}

pub order_laws : OrderLaws
order_laws = record { same = order_same; exact = order_exact; before = order_total.trans; extended = extended }

pub list_laws : (V : Type 0) → Laws V
list_laws V = record {
  put_ascends = λ ps k. inserted_ascends k ps;
  drop_ascends = λ ps k. erased_ascends k ps;
  once = λ ps i j up l h. once (firsts ps) i j up l (simp length-map h);
  put_same = λ ps k. put_same k ps;
  put_other = λ ps k j v n. put_other k j (λ e. n (sym (order_exact k j e))) ps v;
  drop_same = λ ps k. drop_same k ps;
  drop_other = λ ps k j n. drop_other k j (λ e. n (sym (order_exact k j e))) ps;
  put_count = λ ps k. put_count k ps;
  drop_count = λ ps k. drop_count k ps;
  begun = begun;
}
