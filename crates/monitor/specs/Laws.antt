-- That a rule that fails keeps failing, for the laws of a monitor.
use Rattle.std.specs.Prelude.{◌≡◌, true, List, [], ◌∷◌, ◌++◌}
use Rattle.std.proofs.lemmas.Bool.{or_left}
use Rattle.stream.specs.declared.sample.Sample.{Sample}
use Rattle.monitor.specs.declared.rule.Rule.{Rule}
use Rattle.monitor.specs.Turns.{step_rule, fails_rule}

-- a lost rule stays lost
pub stays : (l : List Sample) (r : Rule) → r.lost ≡ true → fails_rule r l ≡ true
stays [] r h = h
stays (x ∷ l) r h = stays l (step_rule r x) (or_left _ _ h)

pub stays_on : (l k : List Sample) (r : Rule) → fails_rule r l ≡ true → fails_rule r (l ++ k) ≡ true
stays_on [] k r h = stays k r h
stays_on (x ∷ l) k r h = stays_on l k (step_rule r x) h
