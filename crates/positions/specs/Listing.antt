-- What a listing replies and writes, for every input. Assumes nothing.
--     ps is the index's list of pairs; a member's positions are those whose keys begin with the member
use Rattle.std.specs.Prelude.{ℕ, min, Bool, cond, List, length, ℤ, Ok, Err, Result, ◌==◌, nat_lt}
use Rattle.ordered.specs.declared.fault.IndexFault.TheVariants.{UnequalRows}
use Rattle.ordered.specs.Pairs.{Pairs, firsts, seconds, under, written}
use Rattle.ordered.specs.Replies.{changed}
use Rattle.codes.specs.Codes.{is_member}
use Rattle.positions.specs.declared.fault.PositionFault.{PositionFault}
use Rattle.positions.specs.declared.fault.PositionFault.TheVariants.{BadMember, Index}

-- rows of m and of n places: how many positions they take, and whether more remain
abbrev pub list_reply : Pairs ℤ → List ℕ → ℕ → ℕ → Result (ℕ × Bool) PositionFault
list_reply ps member m n =
    cond (is_member member)
    (cond (m == n) (Ok (min m (length (under member ps)), nat_lt m (length (under member ps)))) (Err (Index UnequalRows)))
    (Err BadMember)

-- the bytes of the caller's keys afterwards, and the caller's lots
abbrev pub list_keys : {R : Type 0} → Result R PositionFault → Pairs ℤ → List ℕ → List (List ℕ) → List (List ℕ)
list_keys r ps member row = changed r row (written row (firsts (under member ps)))

abbrev pub list_lots : {R : Type 0} → Result R PositionFault → Pairs ℤ → List ℕ → List ℤ → List ℤ
list_lots r ps member row = changed r row (written row (seconds (under member ps)))
