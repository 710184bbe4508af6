use Rattle.std.proofs.Common.{arith, rules}
use Rattle.grammar.specs.declared.token.Keyword.TheVariants as K
use Rattle.grammar.proofs.Spelled.{key_found}
use Rattle.grammar.proofs.token.read_keyword.Goals as goal

pub returns-in-after : goal.returns-in-after
returns-in-after c = key_found c.args.word.now K.After (omega arith) (search rules)

pub returns-in-never : goal.returns-in-never
returns-in-never c = key_found c.args.word.now K.Never (omega arith) (search rules)

pub returns-in-from : goal.returns-in-from
returns-in-from c = key_found c.args.word.now K.From (omega arith) (search rules)

pub returns-in-hold : goal.returns-in-hold
returns-in-hold c = key_found c.args.word.now K.Hold (omega arith) (search rules)

pub returns-in-least : goal.returns-in-least
returns-in-least c = key_found c.args.word.now K.Least (omega arith) (search rules)

pub returns-in-under : goal.returns-in-under
returns-in-under c = key_found c.args.word.now K.Under (omega arith) (search rules)

pub returns-in-repeat : goal.returns-in-repeat
returns-in-repeat c = key_found c.args.word.now K.Repeat (omega arith) (search rules)

pub returns-in-within : goal.returns-in-within
returns-in-within c = key_found c.args.word.now K.Within (omega arith) (search rules)

pub returns-in-answer : goal.returns-in-answer
returns-in-answer c = key_found c.args.word.now K.Answer (omega arith) (search rules)

pub returns-in-keep : goal.returns-in-keep
returns-in-keep c = key_found c.args.word.now K.Keep (omega arith) (search rules)

pub returns-in-since : goal.returns-in-since
returns-in-since c = key_found c.args.word.now K.Since (omega arith) (search rules)

pub returns-in-allow : goal.returns-in-allow
returns-in-allow c = key_found c.args.word.now K.Allow (omega arith) (search rules)
