-- Where a predicate holds of the lists on which a seat is lost, a loss by the one is a loss by the other.
use Rattle.std.proofs.Common.{◌≡◌, ℕ, Bool, true, List}
use Rattle.stream.specs.declared.sample.Sample.{Sample}
use Rattle.stream.specs.declared.numbered.Numbered.{Numbered}
use Rattle.watch.specs.declared.notice.Notice.{Notice}
use Rattle.watch.specs.Falls.{FallsFrom, FallsBy}
use Rattle.watch.specs.Notices.{Notices, NoticesBy}

-- P says of a list what F says of seat k
abbrev pub Says : (List Sample → ℕ → Bool) → ℕ → (List Sample → Type 0) → Type 0
Says F k P = (l : List Sample) → (F l k ≡ true → P l) × (P l → F l k ≡ true)

-- two predicates that say the same of every list
abbrev Same : (List Sample → Type 0) → (List Sample → Type 0) → Type 0
Same P Q = (l : List Sample) → (P l → Q l) × (Q l → P l)

falls_same : (P Q : List Sample → Type 0) → Same P Q → (m : ℕ) (T : List Numbered) (n : ℕ) → FallsBy m P T n → FallsBy m Q T n
falls_same P Q same m T n f = record {
  front = f.front;
  rest = f.rest;
  splits = f.splits;
  fails = (same _).0 f.fails;
  shortest = λ X Y e q. f.shortest X Y e ((same _).1 q);
  number = f.number;
}

module _ (F : List Sample → ℕ → Bool) (k : ℕ) (P : List Sample → Type 0) (same : Says F k P) where
  pub falls_said : (m : ℕ) (T : List Numbered) (n : ℕ) → FallsFrom m F T k n → FallsBy m P T n
  falls_said = falls_same (λ l. F l k ≡ true) P same

  pub said_falls : (m : ℕ) (T : List Numbered) (n : ℕ) → FallsBy m P T n → FallsFrom m F T k n
  said_falls = falls_same P (λ l. F l k ≡ true) (λ l. ((same l).1, (same l).0))

pub notices_said : (F : List Sample → ℕ → Bool) (P : ℕ → List Sample → Type 0) → ((k : ℕ) → Says F k (P k)) → (T : List Numbered) (ns : List Notice)
    → Notices F T ns → NoticesBy P T ns
notices_said F P same T ns p = record {
  sorted = p.sorted;
  each = λ n i. falls_said F n.seat (P n.seat) (same n.seat) 0 T n.number (p.each n i);
  all = λ n f. p.all n (said_falls F n.seat (P n.seat) (same n.seat) 0 T n.number f);
}
