-- What is read of a word, one digit after the other. Assumes nothing.
use Rattle.std.proofs.Common.{◌≡◌, ℕ, ◌+◌, ◌-◌, ◌*◌, ◌%◌, ◌^◌, ◌<◌, ◌≤◌, true, cond, List, [], ◌∷◌, length, get_or, fold, pos, Some, None, Option, sym, refl, ap, ◌∙◌, subst, ⊎_elim, arith}
use mir.Syntax.{w64}
use denote.Param.Members.{Mut}
use Rattle.std.specs.Char.{is_ascii_digit}
use Rattle.std.specs.Fn.{Called}
use Rattle.std.specs.Int.{cast_signed}
use Rattle.std.specs.Iterator.{AlwaysYields, Yields, YieldsThen}
use Rattle.std.specs.List.{FoldsTo}
use Rattle.std.specs.Option.{option_map, MatchOption}
use Rattle.std.specs.Str.{all_ascii_digits}
use Rattle.std.proofs.lemmas.Bool.{cases_Bool}
use Rattle.std.proofs.lemmas.Bool.Decides.{nat_tests}
use Rattle.std.proofs.lemmas.Iterator.{YieldsList}
use Rattle.std.proofs.lemmas.Str.Parse.{digits_value_short}
use Rattle.lines.specs.Decimals.{value, number, plain}
use Rattle.lines.proofs.Numerals.{on, own}

-- the number n with one byte behind it, and with all bytes of a word, modulo 2^64
abbrev with_byte : ℕ → ℕ → Option ℕ
with_byte n b = cond (is_ascii_digit b) (Some ((n * 10 + (b - 48)) % 2 ^ 64)) None

abbrev wrapping : ℕ → List ℕ → ℕ
wrapping n w = fold (λ m b. (m * 10 + (b - 48)) % 2 ^ 64) n w

abbrev with_word : ℕ → List ℕ → Option ℕ
with_word n w = cond (all_ascii_digits w) (Some (wrapping n w)) None

word_more : (n b m : ℕ) (w : List ℕ) → with_byte n b ≡ Some m → with_word m w ≡ with_word n (b ∷ w)
word_more n b m w e = ⊎_elim (λ d. grind (arith, d)) (λ d. grind (arith, d)) (cases_Bool (is_ascii_digit b))

word_broken : (n b : ℕ) (w : List ℕ) → with_byte n b ≡ None → None ≡ with_word n (b ∷ w)
word_broken n b w e = ⊎_elim (λ d. grind (arith, d)) (λ d. grind (arith, d)) (cases_Bool (is_ascii_digit b))

-- ---- the calls of `try_fold`

abbrev Turn : {F : Type 0} → Mut F (ℕ × (ℕ × Unit {0})) (Option ℕ) → F × ℕ → ℕ → F × ℕ → Type 0
Turn g p b q = (o : Option ℕ) × Called g p.0 (p.1, (b, tt)) o q.0 × (o ≡ Some q.1)

abbrev Ends : {F : Type 0} → Mut F (ℕ × (ℕ × Unit {0})) (Option ℕ) → Type 0 → Option ℕ → F → ℕ → Option ℕ → Type 0
Ends {F} g E r j n o = MatchOption o (r ≡ Some n) (λ b. (v : Option ℕ) × (h : F) × E × Called g j (n, (b, tt)) v h × (v ≡ None) × (r ≡ None))

module _ {S F : Type 0} (E : Type 0) (steps : S → Option ℕ → S → Type 0) {g : Mut F (ℕ × (ℕ × Unit {0})) (Option ℕ)} (u : S) (f : F) (r : Option ℕ)
    (gives : (n b : ℕ) (o : Option ℕ) (q : F) → Called g f (n, (b, tt)) o q → (q ≡ f) × (o ≡ with_byte n b)) where
  tried : (xs w : List ℕ) (s t : S) (n m : ℕ) (j : F) (o : Option ℕ) → AlwaysYields steps (λ b. b) s w → Yields steps s xs t → FoldsTo (Turn g) (f, n) xs (j, m) → steps t o u → Ends g E r j m o → r ≡ with_word n w
  tried [] [] s t n m j None y i k p h = h ∙ ap Some (sym (ap (λ z. z.1) k))
  tried [] [] s t n m j (Some b) y i k p h = absurd (y b u (subst (λ z. steps z (Some b) u) (sym i) p))
  tried [] (c ∷ w) s t n m j None y i k p h = absurd (y.0 u (subst (λ z. steps z None u) (sym i) p))
  tried [] (c ∷ w) s t n m j (Some b) y i k p h =
      let is : b ≡ c = (y.1 b u (subst (λ z. steps z (Some b) u) (sym i) p)).0 in
      let call : Called g f (n, (b, tt)) h.0 h.1 = subst (λ (z : F × ℕ). Called g z.0 (z.1, (b, tt)) h.0 h.1) (sym k) h.3 in
      h.5 ∙ word_broken n c w (ap (with_byte n) (sym is) ∙ sym (gives n b h.0 h.1 call).1 ∙ h.4)
  tried (x ∷ xs) [] s t n m j o y i k p h = absurd (y x i.0 i.1)
  tried (x ∷ xs) (c ∷ w) s t n m j o y i k p h =
      let is = y.1 x i.0 i.1 in
      let turn = gives n x k.1.0 k.0.0 k.1.1 in
      let rest = subst (λ z. FoldsTo (Turn g) (z, k.0.1) xs (j, m)) turn.0 k.2 in
      tried xs w i.0 t k.0.1 m j o is.1 i.2 rest p h ∙ word_more n c k.0.1 w (ap (with_byte n) (sym is.0) ∙ sym turn.1 ∙ k.1.2)

  pub word_tried : (w : List ℕ) (s : S) → (xs : List ℕ) × (o : Option ℕ) × (j : F) × (m : ℕ) × YieldsThen steps s xs o u × FoldsTo (Turn g) (f, 0) xs (j, m) × Ends g E r j m o → YieldsList steps (λ b. b) s w → r ≡ with_word 0 w
  word_tried w s d y = tried d.0 w s d.4.0 0 d.3 d.2 d.1 y.runs d.4.1 d.5 d.4.2 d.6

-- ---- ten digits do not wrap

grown : (n : ℕ) (w : List ℕ) → n ≤ on n w
grown n [] = omega arith
grown n (b ∷ w) = omega (arith, grown (n * 10 + (b - 48)) w)

unwrapped : (n : ℕ) (w : List ℕ) → on n w < 2 ^ 64 → wrapping n w ≡ on n w
unwrapped n [] small = refl
unwrapped n (b ∷ w) small =
    let next : (n * 10 + (b - 48)) % 2 ^ 64 ≡ n * 10 + (b - 48) = omega (arith, grown (n * 10 + (b - 48)) w) in
    rw next (unwrapped (n * 10 + (b - 48)) w small)

pub word_read : (w : List ℕ) → 48 < get_or w 0 0 → 1 ≤ length w → length w ≤ 10 → option_map (cast_signed w64) (with_word 0 w) ≡ plain (number w)
word_read w high some short = ⊎_elim whole (λ broken. grind (arith, nat_tests)) (cases_Bool (all_ascii_digits w))
  where
    whole : all_ascii_digits w ≡ true → option_map (cast_signed w64) (with_word 0 w) ≡ plain (number w)
    whole all =
        let small : value w < 10 ^ 10 = digits_value_short own w 10 all short in
        let is : wrapping 0 w ≡ value w = unwrapped 0 w (omega arith) in
        let same : cast_signed w64 (value w) ≡ pos (value w) = grind arith in
        grind (arith, nat_tests)
