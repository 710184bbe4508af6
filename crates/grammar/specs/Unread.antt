-- The line of a book that was never read.
use Rattle.std.specs.Prelude.{None}
use Rattle.std.proofs.Common.{lit≤}
use Rattle.stream.specs.Signals.{every_signal, negated_signal}
use Rattle.monitor.specs.declared.pattern.Pattern.TheVariants.{Never}
use Rattle.grammar.specs.declared.tree.Line.{Line}

-- the line `1 never !*`
abbrev pub unread_line : Line
unread_line = record
    { number = record { value = 1; from = lit≤ tt; upto = lit≤ tt }; first = record { after = None; pattern = Never (negated_signal every_signal) }; second = None; allow = None }
