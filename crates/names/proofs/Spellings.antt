-- Bytes with the end or without it, as tokens. Assumes nothing.
use Rattle.std.proofs.Common.{◌≡◌, ℕ, zero, suc, ◌<◌, ◌≤◌, Bool, true, false, cond, not, ◌&&◌, eqb, List, [], ◌∷◌, ◌++◌, length, take, Some, None, Decides, Less, sym, refl, ap, ◌∙◌, arith}
use Rattle.std.proofs.lemmas.List.{append-nil, take-map, map_push}
use Rattle.std.proofs.lemmas.Bool.{false≢true, le-ltb}
use Rattle.std.proofs.lemmas.Grind.{common_steps}
use Rattle.std.proofs.lemmas.Bool.Decides.{nat_tests, same_from_decides, Decides-and, Decides-like}
use Rattle.std.proofs.lemmas.Slice.Eq.{bytes_eq-Decides}
use Rattle.std.specs.Cmp.Lexicographic.{pointwise}
use mathlib.Core.Bool.{beq}
use Rattle.std.specs.Cmp.{booleans_Decides}
use Rattle.ordered.specs.Order.{max_key, order, begins}
use Rattle.ordered.specs.Keys.{content}
use Rattle.ordered.specs.Replies.{long}
use Rattle.ordered.specs.declared.key.Key.{Key}
use Rattle.ordered.proofs.Contents.{content_long}
use Rattle.names.specs.Tokens.{tokens, spelled, bytes_of, closed, end_last, nameable, good_name}

pub bytes_spelled : (a : List ℕ) (t : Bool) → bytes_of (spelled a t) ≡ a
bytes_spelled [] true = refl
bytes_spelled [] false = refl
bytes_spelled (x ∷ a) t = ap (λ b. x ∷ b) (bytes_spelled a t)

pub closed_spelled : (a : List ℕ) (t : Bool) → closed (spelled a t) ≡ t
closed_spelled [] true = refl
closed_spelled [] false = refl
closed_spelled (x ∷ a) t = closed_spelled a t

pub same_spelled : (a b : List ℕ) (t u : Bool) → spelled a t ≡ spelled b u → (a ≡ b) × (t ≡ u)
same_spelled a b t u e = (
  sym (bytes_spelled a t) ∙ ap bytes_of e ∙ bytes_spelled b u,
  sym (closed_spelled a t) ∙ ap closed e ∙ closed_spelled b u,
)

-- equality by the bytes and the end
pub spelling_is : (a b : List ℕ) (t u : Bool) → Decides (pointwise eqb a b && beq t u) (spelled a t ≡ spelled b u)
spelling_is a b t u =
    let parts = Decides-and (pointwise eqb a b) (beq t u) (bytes_eq-Decides a b) (booleans_Decides t u) in
    Decides-like _ (λ e. cc) (same_spelled a b t u) parts

pub same_parts : (a b : List ℕ) (t u : Bool) → pointwise eqb (spelled a t) (spelled b u) ≡ (pointwise eqb a b && beq t u)
same_parts a b t u = same_from_decides _ _ (bytes_eq-Decides (spelled a t) (spelled b u)) (spelling_is a b t u)

-- ---- first tokens

pub take_spelled : (a : List ℕ) (t : Bool) (n : ℕ) → n ≤ length a → take n (spelled a t) ≡ spelled (take n a) false
take_spelled a t n h = grind (arith, common_steps, take-map)

pub take_whole : (a : List ℕ) (t : Bool) (n : ℕ) → length a < n → take n (spelled a t) ≡ spelled a t
take_whole a true n h = grind (arith, common_steps)
take_whole a false n h = grind (arith, common_steps)

pub ruleset first_tokens = (take_whole, take_spelled)

-- ---- prefixes

pub begins_spelled : (a b : List ℕ) (t u : Bool) → begins (spelled a t) (spelled b u) ≡ cond t (pointwise eqb a b && beq t u) (pointwise eqb a (take (length a) b))
begins_spelled [] b false u = refl
begins_spelled [] [] true true = refl
begins_spelled [] [] true false = refl
begins_spelled [] (y ∷ b) true u = grind (arith, nat_tests)
begins_spelled (x ∷ a) [] t u = grind (arith, nat_tests, common_steps)
begins_spelled (x ∷ a) (y ∷ b) true u = let rest = begins_spelled a b true u in grind (arith, nat_tests)
begins_spelled (x ∷ a) (y ∷ b) false u = let rest = begins_spelled a b false u in grind (arith, nat_tests)

pub begins_first : (x y : List ℕ) → Decides (begins x y) (take (length x) y ≡ x)
begins_first [] y = (λ _. refl, λ _. refl)
begins_first (s ∷ x) [] = (λ h. absurd (false≢true h), λ e. grind arith)
begins_first (s ∷ x) (t ∷ y) = let rest = begins_first x y in grind (arith, nat_tests)

-- ---- order

pub order_kept : (a b : List ℕ) → order (tokens a) (tokens b) ≡ order a b
order_kept [] [] = refl
order_kept [] (y ∷ b) = refl
order_kept (x ∷ a) [] = refl
order_kept (x ∷ a) (y ∷ b) = let rest = order_kept a b in grind (arith, nat_tests)

pub end_lowest : (x y z : List ℕ) (b : ℕ) → order (x ++ 0 ∷ y) (x ++ suc b ∷ z) ≡ Less
end_lowest [] y z b = grind (arith, nat_tests)
end_lowest (t ∷ x) y z b = let rest = end_lowest x y z b in grind (arith, nat_tests)

-- ---- the form of a name

end_last_spelled : (a : List ℕ) (t : Bool) → end_last (spelled a t) ≡ true
end_last_spelled [] true = refl
end_last_spelled [] false = refl
end_last_spelled (x ∷ a) t = end_last_spelled a t

good_spelled : (a : List ℕ) (t : Bool) → good_name (spelled a t) ≡ cond (not (long a)) (Some (spelled a t)) None
good_spelled a t = rw (end_last_spelled a t, bytes_spelled a t)

pub nameable_spelled : (a : List ℕ) (t : Bool) → length a ≤ max_key → nameable (spelled a t) ≡ true
nameable_spelled a t h = grind (arith, nat_tests, end_last_spelled, bytes_spelled)

pub form_spelled : (x : List ℕ) → end_last x ≡ true → spelled (bytes_of x) (closed x) ≡ x
form_spelled [] h = refl
form_spelled (zero ∷ []) h = refl
form_spelled (zero ∷ (t ∷ x)) h = absurd (false≢true h)
form_spelled (suc b ∷ x) h = ap (λ y. suc b ∷ y) (form_spelled x h)

-- ---- one token more

unended : (a : List ℕ) (t : ℕ) → end_last (spelled a true ++ t ∷ []) ≡ false
unended [] t = refl
unended (x ∷ a) t = unended a t

pub push_behind : (a : List ℕ) (t : ℕ) → good_name (spelled a true ++ t ∷ []) ≡ None
push_behind a t = rw (unended a t)

pub push_end : (k : Key) → good_name (spelled (content k) false ++ 0 ∷ []) ≡ Some (spelled (content k) true)
push_end k = simp append-nil (good_spelled (content k) true ∙ rw (le-ltb max_key (length (content k)) (omega (arith, content_long k, k.short))))

pub push_byte : (a : List ℕ) (b : ℕ) → good_name (spelled a false ++ suc b ∷ []) ≡ cond (not (long (a ++ b ∷ []))) (Some (spelled (a ++ b ∷ []) false)) None
push_byte a b =
    let e : spelled a false ++ suc b ∷ [] ≡ spelled (a ++ b ∷ []) false = simp (append-nil, map_push) in
    ap good_name e ∙ good_spelled (a ++ b ∷ []) false

pub ruleset one_more = (push_behind, push_end, push_byte)
