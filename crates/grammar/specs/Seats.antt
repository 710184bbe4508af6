-- The line of a seat, as a part of its text.
use Rattle.std.specs.Prelude.{◌≡◌, ℕ, ◌+◌, ◌-◌, ◌<◌, ◌⊎◌, List, length, take, drop, slice_index, slice_index_or}
use Rattle.grammar.specs.Words.{line_ends}

-- the line of a seat: it begins the text or follows a 0x0A, with one end fewer before it than its seat says; it has none itself, and one follows it
pub record LineAt (text : List ℕ) (seat : ℕ) (line : List ℕ) : Type 0 where
  pub start : ℕ
  pub inside : start + length line < length text
  pub part : line ≡ take (length line) (drop start text)
  pub begins : (start ≡ 0) ⊎ (slice_index text (start - 1) ≡ 10)
  pub before : line_ends (take start text) + 1 ≡ seat
  pub none : line_ends line ≡ 0
  pub ended : slice_index_or text (start + length line) 0 ≡ 10
