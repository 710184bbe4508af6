use Rattle.std.proofs.Common.{sym}
use Rattle.grammar.proofs.Numbers.{digits_turn, value_turn}
use Rattle.grammar.proofs.number.read_numeral.Goals as goal

pub loop-b-preserved : goal.loop-b-preserved
loop-b-preserved c =
    let digit = c.if-not-is_ascii_digit.ensures in
    (value_turn c.args.word.now c.loop-b.b-index _ c.loop-b.n c.min-n.result c.loop-b-test.true digit.cases.0 digit.cases.1 c.loop-b.invariant.0 c.min-n.ensures, digits_turn c.args.word.now c.loop-b.b-index c.loop-b-test.true (sym digit.value) c.loop-b.invariant.1)
