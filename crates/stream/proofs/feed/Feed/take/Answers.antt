use Rattle.std.proofs.Common.{sym, ◌∙◌, arith}
use Rattle.stream.specs.Words.{state_of}
use Rattle.stream.proofs.Checks.{is_ended, is_long, is_high, is_spent, is_unused, is_loaded, is_open, refuses, takes_gap, takes_sample, takes_end}
use Rattle.stream.proofs.feed.Feed.take.Goals as goal

pub returns-then-is_ended : goal.returns-then-is_ended
returns-then-is_ended c = refuses _ _ _ (is_ended (state_of c.args.self.now) c.args.word (sym c.is_ended.ensures ∙ c.if-is_ended.true))

pub returns-in-0 : goal.returns-in-0
returns-in-0 c = refuses _ _ _ (is_long (state_of c.args.self.now) c.args.word (sym c.is_ended.ensures ∙ c.if-is_ended.false) c.in-0.is (omega arith))

pub returns-in-0-2 : goal.returns-in-0-2
returns-in-0-2 c = takes_gap (state_of c.args.self.now) c.args.word _ (sym c.is_ended.ensures ∙ c.if-is_ended.false) c.in-0.is (omega arith) c.lengthen.ensures

pub returns-in-1 : goal.returns-in-1
returns-in-1 c = refuses _ _ _ (is_high (state_of c.args.self.now) c.args.word (sym c.is_ended.ensures ∙ c.if-is_ended.false) c.in-1.is (omega arith))

pub returns-in-1-2 : goal.returns-in-1-2
returns-in-1-2 c = refuses _ _ _ (is_spent (state_of c.args.self.now) c.args.word (sym c.is_ended.ensures ∙ c.if-is_ended.false) c.in-1.is (omega arith) (omega arith))

pub returns-in-1-3 : goal.returns-in-1-3
returns-in-1-3 c =
    let x = c.complete.ensures in
    takes_sample (state_of c.args.self.now) c.args.word _ _ (sym c.is_ended.ensures ∙ c.if-is_ended.false) c.in-1.is (omega arith) (omega arith) x.number x.sample.0 x.sample.1 x.state

pub returns-in-2 : goal.returns-in-2
returns-in-2 c = refuses _ _ _ (is_unused (state_of c.args.self.now) c.args.word (sym c.is_ended.ensures ∙ c.if-is_ended.false) c.in-2.is)

pub returns-in_default-2 : goal.returns-in_default-2
returns-in_default-2 c = refuses _ _ _ (is_loaded (state_of c.args.self.now) c.args.word (sym c.is_ended.ensures ∙ c.if-is_ended.false) (omega arith) (omega arith))

pub returns-in_default-3 : goal.returns-in_default-3
returns-in_default-3 c = refuses _ _ _ (is_open (state_of c.args.self.now) c.args.word (sym c.is_ended.ensures ∙ c.if-is_ended.false) (omega arith) (omega arith) (omega arith))

pub returns-in_default-4 : goal.returns-in_default-4
returns-in_default-4 c = takes_end (state_of c.args.self.now) c.args.word _ (sym c.is_ended.ensures ∙ c.if-is_ended.false) (omega arith) (omega arith) (omega arith) c.close.ensures
