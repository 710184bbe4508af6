-- When a layer fails on a list of samples. P and Q say of a list that what is below fails on it.
use Rattle.std.specs.Prelude.{◌≡◌, ℕ, zero, suc, ◌<◌, ◌≤◌, Bool, true, List, length, take, drop}
use Rattle.stream.specs.declared.sample.Sample.{Sample}
use Rattle.stream.specs.declared.signal.Signal.{Signal}
use Rattle.monitor.specs.Sentences.{has}

-- a monitor whose NOW or NEW is F fails on the list
abbrev pub Fails : (List Sample → Bool) → List Sample → Type 0
Fails F l = F l ≡ true

-- after q: q holds somewhere, first at sample n + 1, and the part from that sample on fails
abbrev pub FirstPart : Signal → (List Sample → Type 0) → List Sample → Type 0
FirstPart q P l =
    (n : ℕ) × (n < length l) × has q l (suc n) × ((k : ℕ) → 1 ≤ k → k ≤ n → has q l k → ⊥) × P (drop n l)

-- either: both fail
abbrev pub Both : (List Sample → Type 0) → (List Sample → Type 0) → List Sample → Type 0
Both P Q l = P l × Q l

-- the first n samples are the shortest opening that fails
abbrev pub Shortest : (List Sample → Type 0) → List Sample → ℕ → Type 0
Shortest P l n = (n ≤ length l) × P (take n l) × ((m : ℕ) → m < n → P (take m l) → ⊥)

-- k failures are found: the shortest opening that fails is cut off, and then the shortest one of the remainder, k times;
-- allow N fails where N + 1 are found
abbrev pub Breaks : (List Sample → Type 0) → ℕ → List Sample → Type 0
Breaks P zero l = Unit {0}
Breaks P (suc k) l = (n : ℕ) × Shortest P l n × Breaks P k (drop n l)
