-- The numbers of seats in a ledger, one seat after another.
use Rattle.std.proofs.Common.{◌≡◌, ℕ, zero, suc, ◌-◌, ◌<◌, ◌≤◌, Bool, true, false, cond, not, ◌&&◌, ◌||◌, eqb, leb, List, length, get_or, replicate, Some, None, sym, refl, ◌∙◌, ⊎_elim, arith}
use mathlib.Core.Bool.{and-false}
use Rattle.std.proofs.lemmas.Bool.{and_parts, leb-true, cases_lt, cond-false, eqb-true, le-leb}
use Rattle.panel.specs.declared.seats.Seats.{Seats}
use Rattle.panel.specs.Seating.{is_seat, has_seat}
use Rattle.watch.specs.declared.ledger.Ledger.{Ledger}
use Rattle.watch.specs.Ledgers.{number_of}
use Rattle.watch.specs.Losses.{kept_or}

-- a seat of a set is one of 1 to 64
pub seat_bounds : (s : Seats) (k : ℕ) → has_seat s k ≡ true → (1 ≤ k) × (k ≤ 64)
unfolding has_seat
seat_bounds s k e = let p = and_parts (leb 1 k) (leb k 64) (and_parts (is_seat k) _ e).0 in (leb-true 1 k p.0, leb-true k 64 p.1)

not_then : (b : Bool) → (b ≡ true → ⊥) → b ≡ false
not_then true n = absurd (n refl)
not_then false n = refl

pub seat_beyond : (s : Seats) (k : ℕ) → 64 < k → has_seat s k ≡ false
seat_beyond s k h = not_then (has_seat s k) (λ e. omega (arith, seat_bounds s k e))

pub get_d_zeros : (n i : ℕ) → ◌≡◌ {A = ℕ} (get_or (replicate n 0) i 0) 0
get_d_zeros zero i = refl
get_d_zeros (suc n) zero = refl
get_d_zeros (suc n) (suc i) = get_d_zeros n i

-- the seats below s have been given the number, and the others have what they had
module _ (seats : Seats) (number : ℕ) (old : List ℕ) where
  pub record Given (s : ℕ) (now : List ℕ) : Type 0 where
    pub long : length now ≡ 64
    pub below : (k : ℕ) → 1 ≤ k → k < s → get_or now (k - 1) 0 ≡ cond (has_seat seats k) number (get_or old (k - 1) 0)
    pub above : (k : ℕ) → s ≤ k → get_or now (k - 1) 0 ≡ get_or old (k - 1) 0

  pub given_all : (now : List ℕ) (k : ℕ) → Given 65 now → 1 ≤ k → get_or now (k - 1) 0 ≡ cond (has_seat seats k) number (get_or old (k - 1) 0)
  given_all now k g lo =
      ⊎_elim (g.below k lo) (λ hi. g.above k hi ∙ sym (cond-false _ _ _ (seat_beyond seats k (omega arith)))) (cases_lt k 65)

-- the seats now lost, of which those that were not before have the number
pub entered : (g : Ledger) (lost newly all : Seats) (number : ℕ) (numbers : List ℕ)
    → ((k : ℕ) → has_seat newly k ≡ (has_seat lost k && not (has_seat g.lost k)))
    → ((k : ℕ) → has_seat all k ≡ (has_seat g.lost k || has_seat newly k))
    → ((k : ℕ) → 1 ≤ k → get_or numbers (k - 1) 0 ≡ cond (has_seat newly k) number (get_or g.numbers (k - 1) 0))
    → (k : ℕ) → cond (has_seat all k) (Some (get_or numbers (k - 1) 0)) None ≡ kept_or (number_of g k) (cond (has_seat lost k) (Some number) None)
entered g lost newly all number numbers n a f k = go (has_seat g.lost k) (has_seat lost k) refl refl
  where
    go : (b c : Bool) → has_seat g.lost k ≡ b → has_seat lost k ≡ c
        → cond (has_seat all k) (Some (get_or numbers (k - 1) 0)) None ≡ kept_or (cond b (Some (get_or g.numbers (k - 1) 0)) None) (cond c (Some number) None)
    go true c p q =
        let old : has_seat newly k ≡ false = n k ∙ rw p (and-false (has_seat lost k)) in
        rw (a k, p, f k (seat_bounds g.lost k p).0, old)
    go false true p q =
        let new : has_seat newly k ≡ true = n k ∙ rw (p, q) in
        rw (a k, p, new, f k (seat_bounds lost k q).0, new)
    go false false p q =
        let none : has_seat newly k ≡ false = n k ∙ rw (p, q) in
        rw (a k, p, none)

-- a set of one seat has no other
pub only_seat : (s k : ℕ) → 1 ≤ s → s ≤ 64 → (eqb s k && is_seat k) ≡ eqb s k
only_seat s k lo hi = go (eqb s k) refl
  where
    go : (b : Bool) → eqb s k ≡ b → (b && is_seat k) ≡ b
    go true e = let same : s ≡ k = eqb-true s k e in rw (le-leb 1 k (omega arith), le-leb k 64 (omega arith))
    go false e = refl
