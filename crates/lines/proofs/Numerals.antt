-- The words that are read as numbers are those that numbers are written as. Assumes nothing.
use Rattle.std.proofs.Common.{◌≡◌, ℕ, zero, suc, ◌+◌, ◌-◌, ◌*◌, ◌^◌, ◌<◌, ◌≤◌, true, eqb, List, [], ◌∷◌, length, get_or, ℤ, pos, negsuc, nat_abs, Some, None, decimal, fold, Option, sym, refl, ap, ◌∙◌, ⊎_elim, arith, lit<, rules}
use Rattle.std.specs.Fmt.{signed_decimal}
use Rattle.std.proofs.lemmas.Fmt.{digits_decimal, digits_value-decimal, decimal-digits_value, decimal_nonempty, length-decimal-le, first_decimal, decimal_digit}
use Rattle.std.proofs.lemmas.Str.Parse.{IsNumeralModel, numerals_by_fold, digits_value_short, not_in_digits}
use Rattle.std.proofs.lemmas.Option.{cond_some}
use Rattle.std.proofs.lemmas.Bool.{cases_Bool, eqb-true, ne_eqb}
use Rattle.std.proofs.lemmas.Bool.Decides.{nat_tests}
use Rattle.std.specs.Str.{all_ascii_digits}
use Rattle.lines.specs.Decimals.{is_number, value, number, negated, plain, lots_number}

abbrev pub on : ℕ → List ℕ → ℕ
on n w = fold (λ m b. m * 10 + (b - 48)) n w

pub own : IsNumeralModel (λ w. all_ascii_digits w ≡ true) value
own = numerals_by_fold _ (search rules) on (search rules)

number_written : (w : List ℕ) (n : ℕ) → number w ≡ Some n → (w ≡ decimal n) × (n < 10 ^ 10)
number_written w n e =
    let t = cond_some (is_number w) (value w) n e in
    let p : (all_ascii_digits w ≡ true) × (0 < length w) × (length w ≤ 10) = grind (arith, nat_tests, t.0) in
    let first : get_or w 0 0 ≡ 48 → length w ≡ 1 = λ h. grind (arith, nat_tests, t.0) in
    let small : value w < 10 ^ 10 = digits_value_short own w 10 p.0 p.2 in
    let is : decimal (value w) ≡ w = decimal-digits_value own w p.0 p.1 first (omega arith) in
    rw (← t.1) (sym is, small)

number_read : (n : ℕ) → n < 10 ^ 10 → number (decimal n) ≡ Some n
number_read n small =
    let fits : n < 2 ^ 64 = omega arith in
    let some = decimal_nonempty n fits in
    let short = length-decimal-le 10 n (lit< tt) small fits in
    let all = digits_decimal own n fits in
    let front = first n fits in
    let is : is_number (decimal n) ≡ true = grind (arith, nat_tests) in
    rw is (ap Some (digits_value-decimal own n fits))
  where
    first : (n : ℕ) → n < 2 ^ 64 → get_or (decimal n) 0 0 ≡ 48 → length (decimal n) ≡ 1
    first zero fits h = rw (decimal_digit 0 (lit< tt)) refl
    first (suc n) fits h = let high = first_decimal (suc n) (omega arith) fits in absurd (omega arith)

-- ---- lots

unsigned_lots : (w : List ℕ) → (get_or w 0 0 ≡ 45 → ⊥) → lots_number w ≡ plain (number w)
unsigned_lots [] n = refl
unsigned_lots (b ∷ w) n = rw (ne_eqb b 45 n) refl

pub lots_read : (lots : ℤ) → nat_abs lots < 10 ^ 10 → lots_number (signed_decimal lots) ≡ Some lots
lots_read (pos n) small =
    let fits : n < 2 ^ 64 = omega arith in
    unsigned_lots (decimal n) (not_in_digits own (decimal n) 45 (digits_decimal own n fits) (λ r. omega arith) 0 (decimal_nonempty n fits)) ∙ ap plain (number_read n small)
lots_read (negsuc n) small = ap negated (number_read (suc n) small)

plain_told : (w : List ℕ) (lots : ℤ) (o : Option ℕ) → number w ≡ o → plain o ≡ Some lots → (w ≡ signed_decimal lots) × (nat_abs lots < 10 ^ 10)
plain_told w lots None e h = absurd (cc)
plain_told w lots (Some n) e h = let is : pos n ≡ lots = cc in rw (← is) (number_written w n e)

negated_told : (w : List ℕ) (lots : ℤ) (o : Option ℕ) → number w ≡ o → negated o ≡ Some lots → (45 ∷ w ≡ signed_decimal lots) × (nat_abs lots < 10 ^ 10)
negated_told w lots None e h = absurd (cc)
negated_told w lots (Some zero) e h = absurd (cc)
negated_told w lots (Some (suc n)) e h = let t = number_written w (suc n) e in grind arith

pub lots_written : (w : List ℕ) (lots : ℤ) → lots_number w ≡ Some lots → (w ≡ signed_decimal lots) × (nat_abs lots < 10 ^ 10)
lots_written [] lots h = absurd (cc)
lots_written (b ∷ w) lots h = ⊎_elim
    (λ e. rw (eqb-true b 45 e) (negated_told w lots (number w) refl (rw e at h)))
    (λ e. plain_told (b ∷ w) lots (number (b ∷ w)) refl (rw e at h))
    (cases_Bool (eqb b 45))
