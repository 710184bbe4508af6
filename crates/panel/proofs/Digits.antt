-- The binary digits of a number, from digit 0.
use Rattle.std.proofs.Common.{◌≡◌, ℕ, zero, suc, ◌+◌, ◌-◌, ◌/◌, ◌%◌, ◌^◌, ◌<◌, Bool, false, cond, not, ◌&&◌, ◌||◌, eqb, sym, refl, ap, ◌∙◌, inl, inr, one-mul, pow-suc, arith}
use native.Mathlib.Nat.{div-eq_of_lt, zero-div}
use lib.Bits.{bit_and, bit_or, and_shr, and_mod, or_shr, or_mod, shifted_even}
use lib.Count.{ones, ones_in, ones_cat}
use Rattle.std.proofs.lemmas.Nat.{mod_below, mod-pow-add, pow_pos, pow_below, pow-add, shl-shr, shr-shr}
use Rattle.std.proofs.lemmas.Bool.{true≢false, false≢true, cases_order, eq-eqb, ne_eqb}

-- whether digit j of a is 1
abbrev pub digit : ℕ → ℕ → Bool
digit a j = eqb (a / 2 ^ j % 2) 1

pub digit_zero : (j : ℕ) → digit 0 j ≡ false
digit_zero j = ap (λ (n : ℕ). eqb (n % 2) 1) (zero-div (2 ^ j))

-- what holds of 0 and 1 holds of all digits
each_digit : (P : ℕ → Type 0) → P 0 → P 1 → (x : ℕ) → x < 2 → P x
each_digit P a b zero h = a
each_digit P a b (suc zero) h = b
each_digit P a b (suc (suc x)) h = absurd (omega arith)

two_digits : (P : ℕ → ℕ → Type 0) → P 0 0 → P 0 1 → P 1 0 → P 1 1 → (x y : ℕ) → P (x % 2) (y % 2)
two_digits P a b c d x y =
    let below : (n : ℕ) → n % 2 < 2 = λ n. mod_below n 2 (omega arith) in
    each_digit (λ m. P m (y % 2)) (each_digit (P 0) a b (y % 2) (below y)) (each_digit (P 1) c d (y % 2) (below y)) (x % 2) (below x)

pub digit_or : (a b j : ℕ) → digit (bit_or a b) j ≡ (digit a j || digit b j)
digit_or a b j =
    ap (λ (n : ℕ). eqb (n % 2) 1) (or_shr a b j)
    ∙ ap (λ (n : ℕ). eqb n 1) (or_mod (a / 2 ^ j) (b / 2 ^ j) 1)
    ∙ two_digits (λ x y. eqb (bit_or x y) 1 ≡ (eqb x 1 || eqb y 1)) refl refl refl refl (a / 2 ^ j) (b / 2 ^ j)

digit_and : (a b j : ℕ) → digit (bit_and a b) j ≡ (digit a j && digit b j)
digit_and a b j =
    ap (λ (n : ℕ). eqb (n % 2) 1) (and_shr a b j)
    ∙ ap (λ (n : ℕ). eqb n 1) (and_mod (a / 2 ^ j) (b / 2 ^ j) 1)
    ∙ two_digits (λ x y. eqb (bit_and x y) 1 ≡ (eqb x 1 && eqb y 1)) refl refl refl refl (a / 2 ^ j) (b / 2 ^ j)

-- a power of two has one digit
pub digit_pow : (j k : ℕ) → digit (2 ^ j) k ≡ eqb j k
digit_pow j k = elim (cases_order j k) [
  | inl e ↦
      ap (λ (n : ℕ). digit (2 ^ n) k) e ∙ ap (λ (n : ℕ). eqb (n / 2 ^ k % 2) 1) (sym (one-mul (2 ^ k)))
      ∙ ap (λ (n : ℕ). eqb (n % 2) 1) (shl-shr 1 k) ∙ sym (eq-eqb j k e)
  | inr apart ↦ elim apart [
    | inl l ↦ ap (λ (n : ℕ). eqb (n % 2) 1) (div-eq_of_lt (pow_below j k l)) ∙ sym (ne_eqb j k (λ e. omega arith))
    | inr l ↦
        let d : ℕ = j - suc k in
        let e : j ≡ suc d + k = omega arith in
        ap (λ (n : ℕ). digit (2 ^ n) k) e ∙ ap (λ (n : ℕ). digit n k) (pow-add 2 (suc d) k)
        ∙ ap (λ (n : ℕ). eqb (n % 2) 1) (shl-shr (2 ^ suc d) k ∙ sym (one-mul (2 ^ suc d)))
        ∙ ap (λ (n : ℕ). eqb n 1) (shifted_even 1 d) ∙ sym (ne_eqb j k (λ e. omega arith))
  ]
]

-- digit j + 1 of a number is digit j of its half
digit_half : (a j : ℕ) → digit a (suc j) ≡ digit (a / 2) j
digit_half a j =
    let e : suc j ≡ 1 + j = omega arith in
    ap (digit a) e ∙ ap (λ (n : ℕ). eqb (n % 2) 1) (sym (shr-shr a 1 j))

-- the complement of a number of w digits
digit_not : (w a j : ℕ) → a < 2 ^ w → j < w → digit ((2 ^ w - 1) - a) j ≡ not (digit a j)
digit_not zero a j h l = absurd (omega arith)
digit_not (suc w) a zero h l =
    let e : ((2 ^ suc w - 1) - a) / 1 % 2 ≡ 1 - a / 1 % 2 = omega (arith, pow-suc 2 w) in
    ap (λ (n : ℕ). eqb n 1) e ∙ each_digit (λ x. eqb (1 - x) 1 ≡ not (eqb x 1)) refl refl (a / 1 % 2) (mod_below (a / 1) 2 (omega arith))
digit_not (suc w) a (suc j) h l =
    let e : ((2 ^ suc w - 1) - a) / 2 ≡ (2 ^ w - 1) - a / 2 = omega (arith, pow-suc 2 w) in
    digit_half ((2 ^ suc w - 1) - a) j ∙ ap (λ (n : ℕ). digit n j) e
    ∙ digit_not w (a / 2) j (omega (arith, pow-suc 2 w)) (omega arith) ∙ ap not (sym (digit_half a j))

pub digit_without : (w a b j : ℕ) → b < 2 ^ w → j < w → digit (bit_and a ((2 ^ w - 1) - b)) j ≡ (digit a j && not (digit b j))
digit_without w a b j h l = digit_and a ((2 ^ w - 1) - b) j ∙ ap (λ (t : Bool). digit a j && t) (digit_not w b j h l)

same_last : (x y : ℕ) → eqb (x % 2) 1 ≡ eqb (y % 2) 1 → x % 2 ≡ y % 2
same_last = two_digits (λ x y. eqb x 1 ≡ eqb y 1 → x ≡ y) (λ e. refl) (λ e. absurd (false≢true e)) (λ e. absurd (true≢false e)) (λ e. refl)

from_halves : (a b : ℕ) → digit a 0 ≡ digit b 0 → a / 2 ≡ b / 2 → a ≡ b
from_halves a b e halves = omega (arith, same_last (a / 1) (b / 1) e)

-- a number of w digits is made of them
pub same_digits : (w a b : ℕ) → a < 2 ^ w → b < 2 ^ w → ((j : ℕ) → j < w → digit a j ≡ digit b j) → a ≡ b
same_digits zero a b h k e = omega arith
same_digits (suc w) a b h k e =
    from_halves a b (e 0 (omega arith))
    (same_digits w (a / 2) (b / 2) (omega (arith, pow-suc 2 w)) (omega (arith, pow-suc 2 w))
    (λ j l. sym (digit_half a j) ∙ e (suc j) (omega arith) ∙ digit_half b j))

-- how many of the digits below w are 1
pub ones_none : (a : ℕ) → ones (a % 2 ^ 0) ≡ 0
unfolding ones
ones_none a = let e : a % 1 ≡ 0 = omega arith in ap ones e

ones_digit : (x : ℕ) → ones (x % 2) ≡ cond (eqb (x % 2) 1) 1 0
unfolding ones ones_in
ones_digit x = each_digit (λ n. ones n ≡ cond (eqb n 1) 1 0) refl refl (x % 2) (mod_below x 2 (omega arith))

pub ones_more : (a w : ℕ) → ones (a % 2 ^ suc w) ≡ cond (digit a w) 1 0 + ones (a % 2 ^ w)
ones_more a w =
    let e : suc w ≡ 1 + w = omega arith in
    ap (λ (n : ℕ). ones (a % 2 ^ n)) e ∙ ap ones (mod-pow-add a 1 w)
    ∙ ones_cat w (a / 2 ^ w % 2) (a % 2 ^ w) (mod_below a (2 ^ w) (pow_pos w))
    ∙ ap (λ (n : ℕ). n + ones (a % 2 ^ w)) (ones_digit (a / 2 ^ w))
