-- What a sample does to each rule, step by step. That these steps fail exactly by the sentences is promised where a rule is made.
use Rattle.std.specs.Prelude.{ℕ, Bool, false, cond, not, ◌&&◌, ◌||◌, List, [], ◌∷◌, Some, None}
use Rattle.stream.specs.declared.sample.Sample.{Sample}
use Rattle.stream.specs.Signals.{holds_at}
use Rattle.monitor.specs.declared.pattern.Pattern.{Pattern}
use Rattle.monitor.specs.declared.pattern.Pattern.TheVariants.{Never, NeverFrom, HoldLeast, HoldUnder, Repeat, Answer, Keep}
use Rattle.monitor.specs.declared.rule.Turn.{Turn}
use Rattle.monitor.specs.declared.rule.Rule.{Rule}
use Rattle.monitor.specs.Clocks.{Clock, advanced, begun, reached, passed, short_of}

abbrev pub turn : Clock → Bool → Turn
turn c f = record { clock = c; fault = f }

abbrev pub never_turn : Bool → Turn
never_turn p = turn None p

-- never p from t: the clock runs since sample 1
abbrev pub never_from_turn : Clock → ℕ → Bool → Turn
never_from_turn c t p = turn (begun c) (p && reached (begun c) t)

-- hold p: the clock runs since p began to hold
abbrev pub while : Clock → Bool → Clock
while c p = cond p (begun c) None

abbrev pub hold_least_turn : Clock → ℕ → Bool → Turn
hold_least_turn c t p = turn (while c p) (not p && short_of c t)

abbrev pub hold_under_turn : Clock → ℕ → Bool → Turn
hold_under_turn c t p = turn (while c p) (reached (while c p) t)

-- repeat p: the clock runs since the last p, or since sample 1
abbrev pub repeat_turn : Clock → ℕ → Bool → Turn
repeat_turn c t p = turn (cond p (Some 0) (begun c)) (passed c t)

-- answer p by s: the clock runs since the first p after which no s came
abbrev pub answer_turn : Clock → ℕ → Bool → Bool → Turn
answer_turn c t p s = turn (cond s None (cond p (begun c) c)) (passed c t)

-- keep s since p: the clock runs since the last p
abbrev pub keep_turn : Clock → ℕ → Bool → Bool → Turn
keep_turn c t p s = turn (cond p (Some 0) c) (not s && short_of (cond p (Some 0) c) t)

abbrev pub turn_of : Pattern → Clock → Sample → Turn
turn_of (Never p) c x = never_turn (holds_at p x)
turn_of (NeverFrom p t) c x = never_from_turn (advanced c x.gap) t.value (holds_at p x)
turn_of (HoldLeast p t) c x = hold_least_turn (advanced c x.gap) t.value (holds_at p x)
turn_of (HoldUnder p t) c x = hold_under_turn (advanced c x.gap) t.value (holds_at p x)
turn_of (Repeat p t) c x = repeat_turn (advanced c x.gap) t.value (holds_at p x)
turn_of (Answer p s t) c x = answer_turn (advanced c x.gap) t.value (holds_at p x) (holds_at s x)
turn_of (Keep s t p) c x = keep_turn (advanced c x.gap) t.value (holds_at p x) (holds_at s x)

abbrev pub step_rule : Rule → Sample → Rule
step_rule r x = record
    { pattern = r.pattern; clock = (turn_of r.pattern r.clock x).clock; lost = r.lost || (turn_of r.pattern r.clock x).fault }

-- a rule that has judged nothing
abbrev pub unjudged : Pattern → Rule
unjudged p = record { pattern = p; clock = None; lost = false }

-- whether a rule is lost after the samples, as it stands and as new
abbrev pub fails_rule : Rule → List Sample → Bool
fails_rule r [] = r.lost
fails_rule r (x ∷ l) = fails_rule (step_rule r x) l

abbrev pub fresh_rule : Rule → List Sample → Bool
fresh_rule r l = fails_rule (unjudged r.pattern) l
