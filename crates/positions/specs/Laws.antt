-- What holds of every posting, in the words of positions and lots. Assumes nothing.
use Rattle.std.specs.Prelude.{◌≡◌, ℕ, true, false, cond, ◌&&◌, List, [], ◌∷◌, ◌++◌, ℤ, pos, ◌+ℤ◌, is_ok, Some, Ok, ◌≢◌}
use Rattle.std.specs.Ordering.{is_eq}
use Rattle.ordered.specs.Order.{order, ascends}
use Rattle.ordered.specs.Pairs.{Pairs, firsts, lookup}
use Rattle.positions.specs.Posting.{flat, beyond, max_position, lots_of, post_reply, posted}

-- every position held has lots, and at most 10^12 of them either way
abbrev pub Open : Pairs ℤ → Type 0
Open ps = (key : List ℕ) (lots : ℤ) → lookup ps key ≡ Some lots → (flat lots ≡ false) × (beyond max_position lots ≡ false)

-- ---- lists of postings

pub record Ticket : Type 0 where
  pub member : List ℕ
  pub code : List ℕ
  pub lots : ℤ

abbrev pub after : ℕ → Pairs ℤ → Ticket → Pairs ℤ
after limit ps t = posted ps limit t.member t.code t.lots

abbrev pub after_all : ℕ → Pairs ℤ → List Ticket → Pairs ℤ
after_all limit ps [] = ps
after_all limit ps (t ∷ ts) = after_all limit (after limit ps t) ts

-- the lots that a ticket adds to the position of a key: its own, if it is accepted and for that position
abbrev pub credit : ℕ → Pairs ℤ → Ticket → List ℕ → ℤ
credit limit ps t key = cond (is_ok (post_reply ps limit t.member t.code t.lots) && is_eq (order key (t.member ++ t.code))) t.lots (pos 0)

abbrev pub credited : ℕ → Pairs ℤ → List Ticket → List ℕ → ℤ
credited limit ps [] key = pos 0
credited limit ps (t ∷ ts) key = credit limit ps t key +ℤ credited limit (after limit ps t) ts key

pub record Laws : Type 0 where
  -- an accepted posting adds its lots to the position, and replies with the sum
  pub adds : (ps : Pairs ℤ) (limit : ℕ) (member code : List ℕ) (lots sum : ℤ) → ascends (firsts ps) ≡ true → post_reply ps limit member code lots ≡ Ok sum
      → (sum ≡ lots_of ps member code +ℤ lots) × (lots_of (posted ps limit member code lots) member code ≡ sum)
  -- no posting changes another position
  pub others : (ps : Pairs ℤ) (limit : ℕ) (member code : List ℕ) (lots : ℤ) (key : List ℕ) → (key ≢ member ++ code) → lookup (posted ps limit member code lots) key ≡ lookup ps key
  -- only positions that have lots are held
  pub held_open : (ps : Pairs ℤ) (limit : ℕ) (member code : List ℕ) (lots : ℤ) → ascends (firsts ps) ≡ true → Open ps → Open (posted ps limit member code lots)
  -- after any list of postings a position has the lots that were accepted for it
  pub sums : (limit : ℕ) (ts : List Ticket) (member code : List ℕ) → lots_of (after_all limit [] ts) member code ≡ credited limit [] ts (member ++ code)
