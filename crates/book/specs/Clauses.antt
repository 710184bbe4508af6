-- What a clause answers, from what its parts do, and which clause is that of a line: that as new it answers its sentence is promised where a clause is made.
use Rattle.std.specs.Prelude.{◌≡◌, Bool, List, Decides}
use Rattle.stream.specs.declared.sample.Sample.{Sample}
use Rattle.monitor.specs.declared.rule.Rule.{Rule}
use Rattle.monitor.specs.Turns.{fails_rule, fresh_rule}
use Rattle.layers.specs.declared.after.After.{After}
use Rattle.layers.specs.declared.either.Either.{Either}
use Rattle.layers.specs.declared.choice.Choice.{Choice}
use Rattle.layers.specs.Layers.{after_now, after_new, allow_now, allow_new, either_fails, choice_fails}
use Rattle.grammar.specs.declared.tree.Line.{Line}
use Rattle.book.specs.declared.clause.Clause.{Clause}
use Rattle.book.specs.Meaning.{ClauseFails}

-- a rule, or the same under after; a single one of these, or either of two
abbrev pub Guarded : Type 0
Guarded = Choice Rule (After Rule)

abbrev pub Body : Type 0
Body = Choice Guarded (Either Guarded Guarded)

-- each as it stands, and as new
abbrev pub fails_guarded : Guarded → List Sample → Bool
fails_guarded = choice_fails fails_rule (after_now fails_rule)

abbrev pub fresh_guarded : Guarded → List Sample → Bool
fresh_guarded = choice_fails fresh_rule (after_new fresh_rule)

abbrev pub fails_body : Body → List Sample → Bool
fails_body = choice_fails fails_guarded (either_fails fails_guarded fails_guarded)

abbrev pub fresh_body : Body → List Sample → Bool
fresh_body = choice_fails fresh_guarded (either_fails fresh_guarded fresh_guarded)

abbrev pub fails_clause : Clause → List Sample → Bool
fails_clause c = allow_now fails_body fresh_body c.body

abbrev pub fresh_clause : Clause → List Sample → Bool
fresh_clause c = allow_new fresh_body c.body

-- a clause is that of a line, before any sample
pub record Says (line : Line) (c : Clause) : Type 0 where
  pub numbered : c.number ≡ line.number
  pub meaning : (l : List Sample) → Decides (fresh_clause c l) (ClauseFails line l)
  pub made : (l : List Sample) → fails_clause c l ≡ fresh_clause c l
