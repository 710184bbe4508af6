-- How the body of a rule is read. That this reads exactly the bodies that are spelled so is promised where a text is read.
use Rattle.stream.specs.declared.signal.Signal.{Signal}
use Rattle.monitor.specs.declared.limit.Ticks.{Ticks}
use Rattle.monitor.specs.declared.pattern.Pattern.{Pattern}
use Rattle.monitor.specs.declared.pattern.Pattern.TheVariants.{Never, NeverFrom, HoldLeast, HoldUnder, Repeat, Answer, Keep}
use Rattle.grammar.specs.declared.token.Keyword.TheVariants as K
use Rattle.grammar.specs.Reading.{Ws, Read, and_then, gives, made, refuse, read_ticks, read_signal, if_next, read_key}

-- a body that ends with its limit
abbrev pub timed : (Ticks → Pattern) → Ws → Read Pattern
timed f ws = and_then (read_ticks ws) (made f)

-- the same, after a keyword
abbrev pub then_timed : (Ticks → Pattern) → Unit {0} → Ws → Read Pattern
then_timed f u ws = timed f ws

-- never p, and from T if it comes
abbrev pub never_tail : Signal → Ws → Read Pattern
never_tail p = if_next K.From (timed (NeverFrom p)) (gives (Never p))

-- what follows `never`
abbrev pub read_never : Ws → Read Pattern
read_never ws = and_then (read_signal ws) never_tail

-- hold p, and least T or under T
abbrev pub hold_tail : Signal → Ws → Read Pattern
hold_tail p = if_next K.Least (timed (HoldLeast p)) (if_next K.Under (timed (HoldUnder p)) refuse)

-- what follows `hold`
abbrev pub read_hold : Ws → Read Pattern
read_hold ws = and_then (read_signal ws) hold_tail

-- repeat p, and within T
abbrev pub repeat_tail : Signal → Ws → Read Pattern
repeat_tail p ws = and_then (read_key K.Within ws) (then_timed (Repeat p))

-- what follows `repeat`
abbrev pub read_repeat : Ws → Read Pattern
read_repeat ws = and_then (read_signal ws) repeat_tail

-- answer p by s, and within T
abbrev pub answer_within : Signal → Signal → Ws → Read Pattern
answer_within p s ws = and_then (read_key K.Within ws) (then_timed (Answer p s))

-- answer p by, and s
abbrev pub answer_by : Signal → Unit {0} → Ws → Read Pattern
answer_by p u ws = and_then (read_signal ws) (answer_within p)

-- answer p, and by
abbrev pub answer_tail : Signal → Ws → Read Pattern
answer_tail p ws = and_then (read_key K.By ws) (answer_by p)

-- what follows `answer`
abbrev pub read_answer : Ws → Read Pattern
read_answer ws = and_then (read_signal ws) answer_tail

-- keep s for T since, and p
abbrev pub keep_at : Signal → Ticks → Unit {0} → Ws → Read Pattern
keep_at s t u ws = and_then (read_signal ws) (made (Keep s t))

-- keep s for T, and since
abbrev pub keep_since : Signal → Ticks → Ws → Read Pattern
keep_since s t ws = and_then (read_key K.Since ws) (keep_at s t)

-- keep s for, and T
abbrev pub keep_for : Signal → Unit {0} → Ws → Read Pattern
keep_for s u ws = and_then (read_ticks ws) (keep_since s)

-- keep s, and for
abbrev pub keep_tail : Signal → Ws → Read Pattern
keep_tail s ws = and_then (read_key K.For ws) (keep_for s)

-- what follows `keep`
abbrev pub read_keep : Ws → Read Pattern
read_keep ws = and_then (read_signal ws) keep_tail

-- a body, by its first word
abbrev pub read_body : Ws → Read Pattern
read_body =
    if_next K.Never read_never (if_next K.Hold read_hold (if_next K.Repeat read_repeat (if_next K.Answer read_answer (if_next K.Keep read_keep refuse))))
