-- When what a line of a book says fails on a list of samples.
use Rattle.std.specs.Prelude.{suc, List, Some, None, Option}
use Rattle.std.specs.Option.{unwrap_or}
use Rattle.stream.specs.declared.sample.Sample.{Sample}
use Rattle.stream.specs.declared.signal.Signal.{Signal}
use Rattle.monitor.specs.Sentences.{Sentence}
use Rattle.layers.specs.Parts.{FirstPart, Both, Breaks}
use Rattle.grammar.specs.declared.tree.Term.{Term}
use Rattle.grammar.specs.declared.tree.Line.{Line}

-- under after q the part from the first q on fails; an unsaid after is no layer
abbrev pub AfterFails : Option Signal → (List Sample → Type 0) → List Sample → Type 0
AfterFails None P l = P l
AfterFails (Some q) P l = FirstPart q P l

-- a rule, under its own after
abbrev pub TermFails : Term → List Sample → Type 0
TermFails t l = AfterFails t.after (Sentence t.pattern) l

-- of two rules both fail; a single rule stands without either
abbrev pub RulesFail : Term → Option Term → List Sample → Type 0
RulesFail t None l = TermFails t l
RulesFail t (Some u) l = Both (TermFails t) (TermFails u) l

-- a line: its rules fail more often than it allows, where an unsaid allow is allow 0
abbrev pub ClauseFails : Line → List Sample → Type 0
ClauseFails c l = Breaks (RulesFail c.first c.second) (suc (unwrap_or c.allow 0)) l
