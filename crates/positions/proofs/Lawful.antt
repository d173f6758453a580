-- The laws of postings. Assumes nothing.
use Rattle.std.proofs.Common.{◌≡◌, ℕ, true, false, List, [], ◌∷◌, ◌++◌, ℤ, pos, is_ok, ◌+ℤ◌, Some, Ok, Result, unwrap_or, sym, refl, ◌∙◌, ◌⊎◌, ⊎_elim, arith}
use Rattle.std.specs.Ordering.{is_eq}
use Rattle.std.proofs.lemmas.Bool.{and_right}
use Rattle.std.proofs.lemmas.Bool.Decides.{nat_tests}
use Rattle.std.proofs.lemmas.Int.{ints}
use Rattle.ordered.specs.Order.{order, ascends}
use Rattle.ordered.specs.Pairs.{Pairs, firsts, lookup}
use Rattle.ordered.proofs.Orders.{order_exact, order_same}
use Rattle.ordered.proofs.Lawful.{list_laws}
use Rattle.codes.specs.Codes.{is_member, is_code}
use Rattle.positions.specs.declared.fault.PositionFault.{PositionFault}
use Rattle.positions.specs.Posting.{flat, beyond, lots_of, total, settled, post_reply, posted, max_position}
use Rattle.positions.specs.Laws.{Open, Ticket, after_all, credit, credited, Laws}

-- a key is another, or it is not
same_or_not : (k key : List ℕ) → ((is_eq (order k key) ≡ true) × (k ≡ key)) ⊎ ((is_eq (order k key) ≡ false) × (k ≡ key → ⊥))
same_or_not k key = let s = order_same key in let x = order_exact k key in grind arith

-- ---- the position that the sum is settled under: it is held only with the sum, and the sum is not 0

module _ (ps : Pairs ℤ) (key : List ℕ) (sum : ℤ) where
  settled_same : ascends (firsts ps) ≡ true → unwrap_or (lookup (settled ps key sum) key) (pos 0) ≡ sum
  settled_same up = grind (arith, nat_tests, (list_laws ℤ).drop_same ps key up, (list_laws ℤ).put_same ps key sum)

  settled_held : ascends (firsts ps) ≡ true → (lots : ℤ) → lookup (settled ps key sum) key ≡ Some lots → (lots ≡ sum) × (flat sum ≡ false)
  settled_held up lots h = grind (arith, (list_laws ℤ).drop_same ps key up, (list_laws ℤ).put_same ps key sum)

  settled_other : (k : List ℕ) → (k ≡ key → ⊥) → lookup (settled ps key sum) k ≡ lookup ps k
  settled_other k n = grind (arith, (list_laws ℤ).drop_other ps key k n, (list_laws ℤ).put_other ps key k sum n)

  settled_ascends : ascends (firsts ps) ≡ true → ascends (firsts (settled ps key sum)) ≡ true
  settled_ascends up = grind (arith, (list_laws ℤ).drop_ascends ps key up, (list_laws ℤ).put_ascends ps key sum up)

-- ---- a posting

module _ (ps : Pairs ℤ) (limit : ℕ) (member code : List ℕ) (lots : ℤ) where
  abbrev key : List ℕ
  key = member ++ code

  abbrev sum : ℤ
  sum = total ps member code lots

  abbrev reply : Result ℤ PositionFault
  reply = post_reply ps limit member code lots

  abbrev left : Pairs ℤ
  left = posted ps limit member code lots

  -- what an accepted posting tells of what was posted
  pub accepted : (s : ℤ) → reply ≡ Ok s → (s ≡ sum) × (beyond max_position sum ≡ false) × (is_member member ≡ true) × (is_code code ≡ true)
  accepted s h = grind arith

  adds : (s : ℤ) → ascends (firsts ps) ≡ true → reply ≡ Ok s → (s ≡ sum) × (lots_of left member code ≡ s)
  adds s up h = grind (arith, settled_same ps key sum up)

  others : (k : List ℕ) → (k ≡ key → ⊥) → lookup left k ≡ lookup ps k
  others k n = grind (arith, settled_other ps key sum k n)

  -- it is refused, or the sum is settled
  outcome : ((is_ok reply ≡ false) × (left ≡ ps)) ⊎ ((is_ok reply ≡ true) × (beyond max_position sum ≡ false) × (left ≡ settled ps key sum))
  outcome = grind arith

  open_same : ascends (firsts ps) ≡ true → Open ps → (v : ℤ) → lookup left key ≡ Some v → (flat v ≡ false) × (beyond max_position v ≡ false)
  open_same up ok v g = ⊎_elim (λ h. ok key v (rw h.1 at g)) (λ h. let s = settled_held ps key sum up v (rw h.2 at g) in rw s.0 (s.1, h.1)) outcome

  held_open : ascends (firsts ps) ≡ true → Open ps → Open left
  held_open up ok k v g = ⊎_elim (λ h. open_same up ok v (rw h.1 at g)) (λ h. ok k v (sym (others k h.1) ∙ g)) (same_or_not k key)

  ascending : ascends (firsts ps) ≡ true → ascends (firsts left) ≡ true
  ascending up = grind (arith, settled_ascends ps key sum up)

  -- what the position of a key comes to
  one : ascends (firsts ps) ≡ true → (k : List ℕ) → unwrap_or (lookup left k) (pos 0) ≡ credit limit ps (record { member = member; code = code; lots = lots }) k +ℤ unwrap_or (lookup ps k) (pos 0)
  one up k = ⊎_elim
      (λ h. rw (h.0, h.1) (⊎_elim (λ r. rw (r.0, r.1) (omega (arith, ints))) (λ a. rw (a.0, a.2, settled_same ps key sum up) (omega (arith, ints))) outcome))
      (λ h. rw (and_right (is_ok reply) (is_eq (order k key)) h.0, others k h.1) (omega (arith, ints)))
      (same_or_not k key)

sums_from : (limit : ℕ) (ps : Pairs ℤ) (ts : List Ticket) (k : List ℕ) → ascends (firsts ps) ≡ true → unwrap_or (lookup (after_all limit ps ts) k) (pos 0) ≡ credited limit ps ts k +ℤ unwrap_or (lookup ps k) (pos 0)
sums_from limit ps [] k up = omega (arith, ints)
sums_from limit ps (t ∷ ts) k up =
    let first = one ps limit t.member t.code t.lots up k in
    let rest = sums_from limit (posted ps limit t.member t.code t.lots) ts k (ascending ps limit t.member t.code t.lots up) in
    omega (arith, ints)

pub posting_laws : Laws
posting_laws = record {
  adds = adds;
  others = others;
  held_open = held_open;
  sums = λ limit ts member code. let s = sums_from limit [] ts (member ++ code) refl in omega (arith, ints);
}
