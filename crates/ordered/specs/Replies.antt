-- What each call of an ordered index replies and leaves, for every input. Assumes nothing.
--     ps is the list of pairs that the index holds, limit the most that it may hold
use Rattle.std.specs.Prelude.{ℕ, min, Bool, true, false, cond, ◌||◌, List, length, Some, None, Ok, Err, Option, Result, ◌==◌, nat_lt}
use Rattle.std.specs.Borrow.{Bor}
use Rattle.ordered.specs.declared.fault.IndexFault.{IndexFault}
use Rattle.ordered.specs.declared.fault.IndexFault.TheVariants.{KeyTooLong, Full, NotHeld, UnequalRows}
use Rattle.ordered.specs.declared.key.Key.{Key}
use Rattle.ordered.specs.Order.{max_key}
use Rattle.ordered.specs.Keys.{content}
use Rattle.ordered.specs.Pairs.{Pairs, lookup, firsts, seconds, between, written}

-- more bytes than a key has
abbrev pub long : List ℕ → Bool
long k = nat_lt max_key (length k)

-- ---- the making of a key

abbrev pub key_reply : List ℕ → Result (List ℕ) IndexFault
key_reply k = cond (long k) (Err KeyTooLong) (Ok k)

abbrev pub contents : Result Key IndexFault → Result (List ℕ) IndexFault
contents (Ok k) = Ok (content k)
contents (Err f) = Err f

-- ---- the end of a run, and its length

abbrev pub bound : Option (Bor (List ℕ)) → Option (List ℕ)
bound None = None
bound (Some r) = Some r.now

abbrev pub long_end : Option (List ℕ) → Bool
long_end None = false
long_end (Some k) = long k

-- ---- the replies

abbrev pub held : {V : Type 0} → Option V → Result V IndexFault
held None = Err NotHeld
held (Some v) = Ok v

abbrev pub room : {V : Type 0} → Option V → ℕ → ℕ → Bool
room None count limit = nat_lt count limit
room (Some v) count limit = true

module _ {V : Type 0} where
  abbrev pub get_reply : Pairs V → List ℕ → Result (Option V) IndexFault
  get_reply ps k = cond (long k) (Err KeyTooLong) (Ok (lookup ps k))

  abbrev pub put_reply : Pairs V → ℕ → List ℕ → Result (Option V) IndexFault
  put_reply ps limit k = cond (long k) (Err KeyTooLong) (cond (room (lookup ps k) (length ps) limit) (Ok (lookup ps k)) (Err Full))

  abbrev pub drop_reply : Pairs V → List ℕ → Result V IndexFault
  drop_reply ps k = cond (long k) (Err KeyTooLong) (held (lookup ps k))

  -- rows of m and of n places: how many of the pairs within the bounds they take, and whether more remain
  abbrev pub run_reply : Pairs V → List ℕ → Option (List ℕ) → ℕ → ℕ → Result (ℕ × Bool) IndexFault
  run_reply ps first end m n =
      cond (long first || long_end end) (Err KeyTooLong)
      (cond (m == n) (Ok (min m (length (between ps first end)), nat_lt m (length (between ps first end)))) (Err UnequalRows))

-- ---- what is there afterwards: a refusal keeps what was there

abbrev pub changed : {A B E : Type 0} → Result A E → B → B → B
changed (Ok r) old new = new
changed (Err e) old new = old

module _ {V R E : Type 0} where
  -- the bytes of the caller's keys after a run, and the caller's values
  abbrev pub run_keys : Result R E → Pairs V → List ℕ → Option (List ℕ) → List (List ℕ) → List (List ℕ)
  run_keys r ps first end row = changed r row (written row (firsts (between ps first end)))

  abbrev pub run_values : Result R E → Pairs V → List ℕ → Option (List ℕ) → List V → List V
  run_values r ps first end row = changed r row (written row (seconds (between ps first end)))
