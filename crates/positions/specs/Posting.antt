-- What a posting replies, and what it makes of the positions, for every input. Assumes nothing.
--     ps is the index's list of pairs, limit the most that it may hold; a position's key is its member and then its code
use Rattle.std.specs.Prelude.{ℕ, Bool, cond, ◌||◌, List, ◌++◌, ℤ, pos, ◌+ℤ◌, Ok, Err, Result, ◌==◌, nat_lt, unsigned_abs}
use Rattle.std.specs.Option.{unwrap_or}
use Rattle.ordered.specs.declared.fault.IndexFault.{IndexFault}
use Rattle.ordered.specs.Pairs.{Pairs, lookup, inserted, erased}
use Rattle.ordered.specs.Replies.{put_reply, drop_reply, changed}
use Rattle.codes.specs.Codes.{is_member, is_code}
use Rattle.positions.specs.declared.fault.PositionFault.{PositionFault}
use Rattle.positions.specs.declared.fault.PositionFault.TheVariants.{BadMember, BadCode, BadLots, BeyondBounds, Index}

-- no lots at all
abbrev pub flat : ℤ → Bool
flat lots = unsigned_abs lots == 0

-- more than so many lots, long or short
abbrev pub beyond : ℕ → ℤ → Bool
beyond most lots = nat_lt most (unsigned_abs lots)

-- the most lots of a posting, and of a position
abbrev pub max_posting : ℕ
max_posting = 1000000000

abbrev pub max_position : ℕ
max_position = 1000000000000

-- the lots of a position: 0 where none is held
abbrev pub lots_of : Pairs ℤ → List ℕ → List ℕ → ℤ
lots_of ps member code = unwrap_or (lookup ps (member ++ code)) (pos 0)

-- what a position comes to by a posting
abbrev pub total : Pairs ℤ → List ℕ → List ℕ → ℤ → ℤ
total ps member code lots = lots_of ps member code +ℤ lots

-- the positions, where that of the key comes to sum: one of 0 lots is not kept
abbrev pub settled : Pairs ℤ → List ℕ → ℤ → Pairs ℤ
settled ps key sum = cond (flat sum) (erased ps key) (inserted ps key sum)

-- the reply sum, unless the index refuses
abbrev pub unless_refused : {A : Type 0} → ℤ → Result A IndexFault → Result ℤ PositionFault
unless_refused sum (Ok old) = Ok sum
unless_refused sum (Err f) = Err (Index f)

-- what the index replies to that
abbrev pub settle_reply : Pairs ℤ → ℕ → List ℕ → ℤ → Result ℤ PositionFault
settle_reply ps limit key sum = cond (flat sum) (unless_refused sum (drop_reply ps key)) (unless_refused sum (put_reply ps limit key))

abbrev pub post_reply : Pairs ℤ → ℕ → List ℕ → List ℕ → ℤ → Result ℤ PositionFault
post_reply ps limit member code lots =
    cond (is_member member)
    (cond (is_code code)
    (cond (flat lots || beyond max_posting lots) (Err BadLots)
    (cond (beyond max_position (total ps member code lots)) (Err BeyondBounds)
    (cond (flat (total ps member code lots)) (Ok (total ps member code lots))
    (unless_refused (total ps member code lots) (put_reply ps limit (member ++ code))))))
    (Err BadCode))
    (Err BadMember)

abbrev pub posted : Pairs ℤ → ℕ → List ℕ → List ℕ → ℤ → Pairs ℤ
posted ps limit member code lots = changed (post_reply ps limit member code lots) ps (settled ps (member ++ code) (total ps member code lots))
