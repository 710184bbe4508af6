-- What the operations on sets do to each seat.
use Rattle.std.proofs.Common.{◌≡◌, ℕ, zero, suc, ◌-◌, ◌*◌, ◌%◌, ◌^◌, ◌<◌, ◌≤◌, Bool, true, false, cond, not, ◌&&◌, ◌||◌, eqb, Decides, sym, refl, ap, ◌∙◌, inl, inr, mod-eq_of_lt, arith, lit<}
use lib.Bits.{bit_and, bit_or}
use lib.Count.{ones}
use Rattle.std.proofs.lemmas.Nat.{one_shl}
use Rattle.std.proofs.lemmas.Bool.{and_left, and_right, cases_lt, eqb-true, eq-eqb}
use Rattle.std.proofs.lemmas.Bool.Decides.{nat_tests}
use Rattle.panel.specs.declared.seats.Seats.{Seats}
use Rattle.panel.specs.Seating.{is_seat, has_seat, tally}
use Rattle.panel.proofs.Digits.{digit, ones_none, ones_more, digit_zero, digit_or, digit_without, digit_pow, same_digits}

-- the set of these bits
abbrev pub set_of : ℕ → Seats
set_of n = record { bits = n }

pub no_seats : (k : ℕ) → has_seat (set_of 0) k ≡ false
unfolding has_seat
no_seats k = and_right (is_seat k) (digit 0 (k - 1)) (digit_zero (k - 1))

pub one_seat : (s : ℕ) → 1 ≤ s → s ≤ 64 → (k : ℕ) → has_seat (set_of ((1 * 2 ^ (s - 1)) % 2 ^ 64)) k ≡ (eqb s k && is_seat k)
unfolding has_seat
one_seat s l h k =
    ap (λ (n : ℕ). is_seat k && digit n (k - 1)) (one_shl (s - 1) 64 (omega arith))
    ∙ ap (λ (b : Bool). is_seat k && b) (digit_pow (s - 1) (k - 1))
    ∙ grind (arith, nat_tests)

and_true : (p t : Bool) → p ≡ true → (p && t) ≡ t
and_true p t e = ap (λ (b : Bool). b && t) e

both_or : (p a b : Bool) → (p && (a || b)) ≡ ((p && a) || (p && b))
both_or true a b = refl
both_or false a b = refl

pub or_seats : (s t : Seats) (k : ℕ) → has_seat (set_of (bit_or s.bits t.bits)) k ≡ (has_seat s k || has_seat t k)
unfolding has_seat
or_seats s t k =
    ap (λ (d : Bool). is_seat k && d) (digit_or s.bits t.bits (k - 1))
    ∙ both_or (is_seat k) (digit s.bits (k - 1)) (digit t.bits (k - 1))

-- tests that agree on the digits of seats agree on seats
on_seats : (k : ℕ) (x y : Bool) → (k - 1 < 64 → x ≡ y) → (is_seat k && x) ≡ (is_seat k && y)
on_seats k x y e = elim (cases_lt (k - 1) 64) [
  | inl low ↦ ap (λ (t : Bool). is_seat k && t) (e low)
  | inr high ↦ (let none : is_seat k ≡ false = grind (arith, nat_tests) in and_left (is_seat k) x none ∙ sym (and_left (is_seat k) y none))
]

both_not : (p a b : Bool) → (p && (a && not b)) ≡ ((p && a) && not (p && b))
both_not true a b = refl
both_not false a b = refl

pub without_seats : (s t : Seats) (k : ℕ) → t.bits < 2 ^ 64 → has_seat (set_of (bit_and s.bits ((2 ^ 64 - 1) - t.bits))) k ≡ (has_seat s k && not (has_seat t k))
unfolding has_seat
without_seats s t k h =
    on_seats k _ _ (digit_without 64 s.bits t.bits (k - 1) h)
    ∙ both_not (is_seat k) (digit s.bits (k - 1)) (digit t.bits (k - 1))

seat_digit : (s : Seats) (j : ℕ) → j < 64 → has_seat s (suc j) ≡ digit s.bits j
unfolding has_seat
seat_digit s j h =
    let e : suc j - 1 ≡ j = omega arith in
    and_true (is_seat (suc j)) (digit s.bits (suc j - 1)) (grind (arith, nat_tests)) ∙ ap (digit s.bits) e

-- sets with the same seats are equal
pub same_seats : (s t : Seats) → s.bits < 2 ^ 64 → t.bits < 2 ^ 64 → ((k : ℕ) → has_seat s k ≡ has_seat t k) → s ≡ t
same_seats s t h l e =
    ap set_of (same_digits 64 s.bits t.bits h l (λ j b. sym (seat_digit s j b) ∙ e (suc j) ∙ seat_digit t j b))

pub empty_seats : (s : Seats) → s.bits < 2 ^ 64 → Decides (eqb s.bits 0) ((k : ℕ) → has_seat s k ≡ false)
empty_seats s h = (
  (λ e k. ap (λ (n : ℕ). has_seat (set_of n) k) (eqb-true s.bits 0 e) ∙ no_seats k),
  λ none. eq-eqb s.bits 0 (ap (λ (z : Seats). z.bits) (same_seats s (set_of 0) h (lit< tt) (λ k. none k ∙ sym (no_seats k)))),
)

-- a test that tells the digits of a below w counts those that are 1
ones_tally : (a : ℕ) (p : ℕ → Bool) (w : ℕ) → ((j : ℕ) → j < w → p (suc j) ≡ digit a j) → ones (a % 2 ^ w) ≡ tally p w
unfolding tally
ones_tally a p zero e = ones_none a
ones_tally a p (suc w) e =
    omega (arith, ones_more a w, ones_tally a p w (λ j l. e j (omega arith)), ap {B = ℕ} (λ t. cond t 1 0) (e w (omega arith)))

pub count_seats : (s : Seats) → s.bits < 2 ^ 64 → ones s.bits ≡ tally (has_seat s) 64
count_seats s h = ap ones (sym (mod-eq_of_lt h)) ∙ ones_tally s.bits (has_seat s) 64 (seat_digit s)
