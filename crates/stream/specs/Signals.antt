-- Where a signal holds.
use Rattle.std.specs.Prelude.{ℕ, ◌/◌, ◌%◌, ◌^◌, ◌<◌, Bool, true, false, cond, not, Some, None, Option, ◌==◌}
use Rattle.stream.specs.declared.sample.Sample.{Sample}
use Rattle.stream.specs.declared.signal.Signal.{Signal}
use Rattle.stream.specs.declared.letter.Letter.{Letter}

-- a signal without `!`: `*`, or a letter by its bit; and a signal with `!` before it
abbrev pub bare_signal : Option Letter → Signal
bare_signal l = record { letter = l; negated = false }

abbrev pub every_signal : Signal
every_signal = bare_signal None

abbrev pub letter_signal : (bit : ℕ) → bit < 24 → Signal
letter_signal bit low = bare_signal (Some (record { bit = bit; low = low }))

abbrev pub negated_signal : Signal → Signal
negated_signal p = record { letter = p.letter; negated = not p.negated }

-- whether the letter of a bit is among a sample's letters
abbrev pub has_letter : ℕ → Sample → Bool
has_letter bit x = x.letters / 2 ^ bit % 2 == 1

abbrev pub holds_bare : Option Letter → Sample → Bool
holds_bare None x = true
holds_bare (Some l) x = has_letter l.bit x

abbrev pub holds_at : Signal → Sample → Bool
holds_at p x = cond p.negated (not (holds_bare p.letter x)) (holds_bare p.letter x)
