-- The gap of a row: digits in base ten.
use Rattle.std.proofs.Common.{◌≡◌, ℕ, ◌+◌, ◌-◌, ◌*◌, ◌^◌, ◌<◌, ◌≤◌, List, [], ◌∷◌, ◌++◌, length, get_or, take, decimal, sym, refl, ap, ◌∙◌, subst, ⊎_elim, arith, append-nil, length-append}
use Rattle.std.specs.Str.Parse.{digits_value}
use Rattle.std.specs.Int.{IsInRange}
use Rattle.std.specs.Char.{digit_value as digitValue}
use Rattle.std.proofs.lemmas.Fmt.{decimal_nonempty, decimal_digit, first_decimal, digits_decimal, digits_value-decimal, decimal-digits_value}
use Rattle.std.proofs.lemmas.Int.Digits.{digits_value_more}
use Rattle.std.proofs.lemmas.List.{take_all, take_at, take-take, take_more, get_or-take, get_or_append_left, length-take-le}
use Rattle.std.proofs.lemmas.Str.Parse.{IsNumeralModel, numerals_by_value, tells_by_index, digits_value-take-le}
use Rattle.std.proofs.lemmas.Bool.{cases_lt}
use Rattle.std.proofs.lemmas.Bool.Decides.{nat_tests}
use Rattle.rows.specs.Rows.{Begins, NoneReads, Below}
use Rattle.rows.proofs.Slips.{stopped, ended}

abbrev pub AllDigits : List ℕ → Type 0
AllDigits ds = (i : ℕ) → i < length ds → IsInRange 48 57 (get_or ds i 0)

own : IsNumeralModel AllDigits (digits_value 10)
own = numerals_by_value AllDigits tells_by_index

pub digits_of : (g : ℕ) → g < 2 ^ 32 → AllDigits (decimal g)
digits_of g small = digits_decimal own g (omega arith)

module _ (g : ℕ) (small : g < 2 ^ 32) where
  zero_alone : get_or (decimal g) 0 0 ≡ 48 → length (decimal g) ≤ 1
  zero_alone z = ⊎_elim
      (λ some. omega (arith, first_decimal g some (omega arith)))
      (λ none. let is : g ≡ 0 = omega arith in omega (arith, ap (λ (k : ℕ). length (decimal k)) is, ap length (decimal_digit 0 (omega arith))))
      (cases_lt 0 g)

  not_long : (i : ℕ) → digits_value 10 (take i (decimal g)) < 2 ^ 32
  not_long i = omega (arith, digits_value-take-le 10 (decimal g) i (omega arith), digits_value-decimal own g (omega arith))

-- a word that is one
pub is_gap : (w : List ℕ) (i n : ℕ) → length w ≤ i → 0 < length w → (get_or w 0 0 ≡ 48 → length w ≤ 1)
    → n ≡ digits_value 10 (take i w) → ((k : ℕ) → k < i → IsInRange 48 57 (get_or w k 0)) → n < 2 ^ 32 → w ≡ decimal n
is_gap w i n end some first is digits small =
    let whole : digits_value 10 w ≡ n = sym (is ∙ ap (digits_value 10) (take_all i w end)) in
    sym (decimal-digits_value own w (λ k h. digits k (omega arith)) some (λ z. omega (arith, first z)) (omega arith)) ∙ ap decimal whole

abbrev pub Gap : Type 0
Gap = Below (2 ^ 32)

abbrev pub gap_text : Gap → List ℕ
gap_text g = decimal g.0

-- the digits so far begin one
begun : (w : List ℕ) (i n : ℕ) → i ≤ length w → (get_or w 0 0 ≡ 48 → length w ≤ 1) → n ≡ digits_value 10 (take i w) → ((k : ℕ) → k < i → IsInRange 48 57 (get_or w k 0)) → n < 2 ^ 32
    → Begins gap_text (take i w)
begun w i n within first is digits small = ⊎_elim
    (λ some.
    let long = length-take-le i w within in
    let at : (k : ℕ) → k < i → get_or (take i w) k 0 ≡ get_or w k 0 = (λ k h. get_or-take i w k 0 h) in
    record {
      value = (n, small);
      rest = [];
      is = sym (is_gap (take i w) i n (omega arith) (omega arith) (λ z. omega (arith, first (sym (at 0 some) ∙ z))) (is ∙ ap (digits_value 10) (sym (take-take i i w (omega arith))))
          (λ k h. let d = digits k h in (omega (arith, at k h, d.0), omega (arith, at k h, d.1))) small) ∙ sym (append-nil (take i w));
    })
    (λ none. record { value = (0, omega arith); rest = decimal 0; is = let z : 0 ≡ i = omega arith in ap (λ (k : ℕ). take k w ++ decimal 0) z })
    (cases_lt 0 i)

-- if they do with one byte more
module _ (w : List ℕ) (c : ℕ) (h : c < length w) (b : Begins gap_text (take (c + 1) w)) where
  at : (k : ℕ) → k ≤ c → get_or (decimal b.value.0) k 0 ≡ get_or w k 0
  at k l =
      ap (λ (t : List ℕ). get_or t k 0) b.is
      ∙ get_or_append_left (take (c + 1) w) b.rest 0 k (omega (arith, length-take-le (c + 1) w (omega arith)))
      ∙ get_or-take (c + 1) w k 0 (omega arith)

  long : c < length (decimal b.value.0)
  long = omega (arith, ap length b.is, length-append (take (c + 1) w) b.rest, length-take-le (c + 1) w (omega arith))

  has_digit : IsInRange 48 57 (get_or w c 0)
  has_digit = let d = digits_of b.value.0 b.value.1 c long in (omega (arith, at c (omega arith), d.0), omega (arith, at c (omega arith), d.1))

  has_zero : get_or w 0 0 ≡ 48 → c ≡ 0
  has_zero z = omega (arith, long, zero_alone b.value.0 b.value.1 (at 0 (omega arith) ∙ z))

  has_value : digits_value 10 (take (c + 1) w) < 2 ^ 32
  has_value = subst (λ (l : List ℕ). digits_value 10 l < 2 ^ 32) (ap (take (c + 1)) b.is ∙ take_at (take (c + 1) w) b.rest (c + 1) (length-take-le (c + 1) w (omega arith)))
      (not_long b.value.0 b.value.1 (c + 1))

-- where a word is none
pub no_digits : (w : List ℕ) → length w ≡ 0 → NoneReads gap_text w 0
no_digits w none = ended gap_text w 0 (omega arith) (record { value = (0, omega arith); rest = decimal 0; is = refl }) (λ g e. omega (arith, decimal_nonempty g.0 (omega (arith, g.1)), ap length e))

pub zero_first : (w : List ℕ) → get_or w 0 0 ≡ 48 → 1 < length w → NoneReads gap_text w 1
zero_first w z more = stopped gap_text w 1 more
    (record { value = (0, omega arith); rest = []; is = decimal_digit 0 (omega arith) ∙ ap (λ (b : ℕ). b ∷ []) (sym z) ∙ sym (take_more w 0 0 (omega arith)) ∙ sym (append-nil (take 1 w)) })
    (λ b. omega (arith, has_zero w 1 more b z))

module _ (w : List ℕ) (i n : ℕ) (h : i < length w) (first : get_or w 0 0 ≡ 48 → length w ≤ 1) (is : n ≡ digits_value 10 (take i w)) (digits : (k : ℕ) → k < i → IsInRange 48 57 (get_or w k 0)) (small : n < 2 ^ 32) where
  pub other_byte : (IsInRange 48 57 (get_or w i 0) → ⊥) → NoneReads gap_text w i
  other_byte other = stopped gap_text w i h (begun w i n (omega arith) first is digits small) (λ b. other (has_digit w i h b))

  pub too_long : 2 ^ 32 ≤ digits_value 10 (take (i + 1) w) → NoneReads gap_text w i
  too_long long = stopped gap_text w i h (begun w i n (omega arith) first is digits small) (λ b. omega (arith, long, has_value w i h b))

-- one digit more
digit_value : (c : ℕ) → 48 ≤ c → c ≤ 57 → digitValue c ≡ c - 48
digit_value c l h = grind (arith, nat_tests)

pub value_turn : (w : List ℕ) (i n : ℕ) → i < length w → 48 ≤ get_or w i 0 → get_or w i 0 ≤ 57 → n ≡ digits_value 10 (take i w) → n * 10 + (get_or w i 0 - 48) ≡ digits_value 10 (take (i + 1) w)
value_turn w i n h l u before = omega (arith, digits_value_more 10 w i h, digit_value (get_or w i 0) l u)

-- what the reading of a gap needs
pub ruleset gap_reading = (zero_first, is_gap, value_turn)
