-- Blanks, which stand in a list where no notice was written.
use Rattle.std.specs.Prelude.{◌≡◌, ℕ, ◌-◌, ◌≤◌, min, List, ◌++◌, length, take, replicate}
use Rattle.watch.specs.declared.notice.Notice.{Notice}
use Rattle.watch.specs.Listing.{Shows}

-- a notice of nothing
abbrev pub blank : Notice
blank = record { number = 0; seat = 0 }

-- the list that a played story lends where a call says so much room: blanks, and no more than 64, since more notices never wait
abbrev pub blanks : ℕ → List Notice
blanks room = replicate (min room 64) blank

-- a list as it stands in an answer: up to 64, with blanks behind it
abbrev pub padded : List Notice → List Notice
padded ns = ns ++ replicate (64 - length ns) blank

-- so an answer to a call with so much room has as many of the notices that wait as there is room for, and blanks behind them
abbrev pub PlaysShow : Type 0
PlaysShow = (room : ℕ) (ns after : List Notice) (written waiting : ℕ) → Shows ns (blanks room) after written waiting → waiting ≤ 64
    → (written ≡ min waiting room) × (padded after ≡ take written ns ++ replicate (64 - written) blank)
