use Rattle.monitor.proofs.Meanings.{fails_by_sentence, now_is_new}
use Rattle.monitor.proofs.rule.Rule.new.Goals as goal

pub returns : goal.returns
returns c = record {
  meaning = fails_by_sentence _ c.args.pattern c.unjudged.ensures;
  made = now_is_new _ c.args.pattern c.unjudged.ensures;
}
