-- What a reading call promises.
use Rattle.std.specs.Prelude.{◌≡◌, ℕ, ◌+◌, ◌<◌, ◌≤◌, Bool, cond, List, ◌∷◌, length, Ok, Err, Result}
use Rattle.grammar.specs.declared.fault.Fault.{Fault}
use Rattle.grammar.specs.declared.fault.Fault.TheVariants.{AtWord}
use Rattle.grammar.specs.declared.fault.Place.{Place}
use Rattle.grammar.specs.declared.snag.Snag.{Snag}
use Rattle.grammar.specs.declared.tree.Line.{Line}
use Rattle.grammar.specs.declared.token.Keyword.{Keyword}
use Rattle.grammar.specs.declared.reader.Reader.{Reader}
use Rattle.grammar.specs.Words.{left}
use Rattle.grammar.specs.Grammar.{Allowed, spell}
use Rattle.grammar.specs.Books.{further, LineFault}
use Rattle.grammar.specs.Reading.{Ws, Read, outcome, rest_of, starts_by}

-- the words from the reader's place on
abbrev pub left_of : Reader → Ws
left_of r = left r.line.now r.at

-- the length of the reader's line
abbrev pub len_of : Reader → ℕ
len_of r = length r.line.now

-- w is the word that comes next, and ends within the line
abbrev pub NextIs : Reader → List ℕ → Type 0
NextIs r w = (left_of r ≡ w ∷ left r.line.now (r.at + length w + 1)) × (r.at + length w ≤ len_of r)

-- the place of a snag is in the line, or at its end
abbrev pub Within : {X : Type 0} → ℕ → Result X Snag → Type 0
Within len (Ok x) = Unit {0}
Within len (Err f) = f.place ≤ len

-- the call answers as reading does, and leaves the words that reading leaves
pub record Reads {X : Type 0} (before after : Reader) (r : Result X Snag) (s : Read X) : Type 0 where
  pub answer : s ≡ outcome (len_of before) (left_of after) r
  pub kept : after.line ≡ before.line
  pub place : Within (len_of before) r

-- a word is taken just if it is the keyword asked for
pub record Takes (before after : Reader) (r : Bool) (owed : Keyword) : Type 0 where
  pub answer : r ≡ starts_by owed (left_of before)
  pub rest : left_of after ≡ cond r (rest_of (left_of before)) (left_of before)
  pub kept : after.line ≡ before.line

-- the fault of a snag in a line that begins at `start`
abbrev pub fault_of : Place → Snag → Fault
fault_of start s = AtWord s.cause (further start s.place)

-- a line is read as what it spells, if its number is above k, or has its first fault
abbrev pub ReadsLine : ℕ → List ℕ → Place → Result Line Fault → Type 0
ReadsLine k line start (Ok l) = (line ≡ spell l) × (Allowed l.allow × (k < l.number.value))
ReadsLine k line start (Err f) = LineFault k line start f
