use Rattle.std.proofs.Common.{rules}
use Rattle.grammar.proofs.Cuts.{place_left}
use Rattle.grammar.proofs.reader.Reader.snag.Goals as goal

pub returns : goal.returns
returns c = search (rules, place_left c.args.self.now.line.now c.args.self.now.at)
