-- What a panel means.
use Rattle.std.specs.Prelude.{◌≡◌, ℕ, ◌≤◌, Bool, true, List, ◌++◌}
use Rattle.stream.specs.declared.sample.Sample.{Sample}

-- how many seats a panel has, and of every list of samples that may still come, which of them are lost on it
pub record Meaning : Type 0 where
  pub count : ℕ
  pub lost : List Sample → ℕ → Bool

-- two panels mean the same
pub record SamePanel (m n : Meaning) : Type 0 where
  pub count : n.count ≡ m.count
  pub lost : (l : List Sample) (k : ℕ) → n.lost l k ≡ m.lost l k

-- a meaning once these samples were judged: a list to come now follows them, and all else is as before
abbrev pub meaning_after : Meaning → List Sample → Meaning
meaning_after m xs = record m { lost = λ l. m.lost (xs ++ l) }

-- a panel that meant m now means n, and judged these samples in between
abbrev pub PanelAfter : Meaning → List Sample → Meaning → Type 0
PanelAfter m xs n = SamePanel (meaning_after m xs) n

-- a panel has 1 to 64 seats; only a seat within the count is ever lost, and one that is lost on a list is lost on each that begins with it
pub record Lawful (m : Meaning) : Type 0 where
  pub size : (1 ≤ m.count) × (m.count ≤ 64)
  pub within : (l : List Sample) (k : ℕ) → m.lost l k ≡ true → (1 ≤ k) × (k ≤ m.count)
  pub lasting : (l h : List Sample) (k : ℕ) → m.lost l k ≡ true → m.lost (l ++ h) k ≡ true
