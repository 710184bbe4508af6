-- How a line is read. That this reads exactly the lines that are spelled so is promised where a text is read.
use Rattle.std.specs.Prelude.{ℕ, [], ◌∷◌, length, Some, None, Option}
use Rattle.stream.specs.declared.signal.Signal.{Signal}
use Rattle.monitor.specs.declared.pattern.Pattern.{Pattern}
use Rattle.grammar.specs.declared.clause.ClauseNumber.{ClauseNumber}
use Rattle.grammar.specs.declared.tree.Term.{Term}
use Rattle.grammar.specs.declared.tree.Line.{Line}
use Rattle.grammar.specs.declared.fault.Cause.TheVariants.{WordNotAllowed}
use Rattle.grammar.specs.declared.token.Keyword.TheVariants as K
use Rattle.grammar.specs.Words.{unwords}
use Rattle.grammar.specs.Reading.{Ws, Read, got, bad, and_then, gives, made, read_number, read_signal, if_next}
use Rattle.grammar.specs.Bodies.{read_body}

-- a rule of its two parts
abbrev pub term_of : Option Signal → Pattern → Term
term_of a p = record { after = a; pattern = p }

-- the body of a rule that waits for s
abbrev pub after_tail : Signal → Ws → Read Term
after_tail s ws = and_then (read_body ws) (made (term_of (Some s)))

-- what follows `after`
abbrev pub read_after : Ws → Read Term
read_after ws = and_then (read_signal ws) after_tail

-- a rule that waits for nothing
abbrev pub read_plain : Ws → Read Term
read_plain ws = and_then (read_body ws) (made (term_of None))

-- a rule
abbrev pub read_term : Ws → Read Term
read_term = if_next K.After read_after read_plain

-- what follows `or`
abbrev pub further_term : Ws → Read (Option Term)
further_term ws = and_then (read_term ws) (made Some)

-- the further rule, if it comes
abbrev pub read_second : Ws → Read (Option Term)
read_second = if_next K.Or further_term (gives None)

-- what follows `allow`
abbrev pub allowance : Ws → Read (Option ℕ)
allowance ws = and_then (read_number 0 255 ws) (made Some)

-- the allowance, if it comes
abbrev pub read_allow : Ws → Read (Option ℕ)
read_allow = if_next K.Allow allowance (gives None)

-- the line, if no word is left
abbrev pub line_end : Line → Ws → Read Line
line_end l [] = got l []
line_end l (w ∷ ws) = bad WordNotAllowed (length (unwords (w ∷ ws)))

-- a line of its four parts
abbrev pub whole_line : ClauseNumber → Term → Option Term → Option ℕ → Line
whole_line n f s a = record { number = n; first = f; second = s; allow = a }

-- what follows the allowance: the end
abbrev pub after_allow : ClauseNumber → Term → Option Term → Option ℕ → Ws → Read Line
after_allow n f s a ws = line_end (whole_line n f s a) ws

-- what follows the rules
abbrev pub after_second : ClauseNumber → Term → Option Term → Ws → Read Line
after_second n f s ws = and_then (read_allow ws) (after_allow n f s)

-- what follows the first rule
abbrev pub after_first : ClauseNumber → Term → Ws → Read Line
after_first n f ws = and_then (read_second ws) (after_second n f)

-- what follows the clause number
abbrev pub after_number : ClauseNumber → Ws → Read Line
after_number n ws = and_then (read_term ws) (after_first n)
