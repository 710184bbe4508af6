-- Each rule that has judged nothing is lost exactly where its sentence holds.
use Rattle.std.proofs.Common.{◌≡◌, List, Decides, sym, ap, ◌∙◌, subst}
use Rattle.stream.specs.declared.sample.Sample.{Sample}
use Rattle.monitor.specs.declared.rule.Rule.{Rule}
use Rattle.monitor.specs.declared.pattern.Pattern.{Pattern}
use Rattle.monitor.specs.declared.pattern.Pattern.TheVariants.{Never, NeverFrom, HoldLeast, HoldUnder, Repeat, Answer, Keep}
use Rattle.monitor.specs.Turns.{unjudged, fails_rule, fresh_rule}
use Rattle.monitor.specs.Sentences.{Sentence}
use Rattle.monitor.proofs.Runs.{decided}
use Rattle.monitor.proofs.NeverRules.{never_sound, never_complete, from_sound, from_complete}
use Rattle.monitor.proofs.HoldRules.{least_sound, least_complete, under_sound, under_complete}
use Rattle.monitor.proofs.RepeatRule.{repeat_sound, repeat_complete}
use Rattle.monitor.proofs.AnswerRule.{answer_sound, answer_complete}
use Rattle.monitor.proofs.KeepRule.{keep_sound, keep_complete}

meaning : (p : Pattern) (l : List Sample) → Decides (fails_rule (unjudged p) l) (Sentence p l)
meaning (Never p) l = decided (Never p) l _ (never_sound p l) (never_complete p l)
meaning (NeverFrom p t) l = decided (NeverFrom p t) l _ (from_sound p t l) (from_complete p t l)
meaning (HoldLeast p t) l = decided (HoldLeast p t) l _ (least_sound p t l) (least_complete p t l)
meaning (HoldUnder p t) l = decided (HoldUnder p t) l _ (under_sound p t l) (under_complete p t l)
meaning (Repeat p t) l = decided (Repeat p t) l _ (repeat_sound p t l) (repeat_complete p t l)
meaning (Answer p s t) l = decided (Answer p s t) l _ (answer_sound p s t l) (answer_complete p s t l)
meaning (Keep s t p) l = decided (Keep s t p) l _ (keep_sound s t p l) (keep_complete s t p l)

pub fails_by_sentence : (r : Rule) (p : Pattern) → r ≡ unjudged p → (l : List Sample) → Decides (fresh_rule r l) (Sentence p l)
fails_by_sentence r p e l = subst (λ (x : Rule). Decides (fresh_rule x l) (Sentence p l)) (sym e) (meaning p l)

pub now_is_new : (r : Rule) (p : Pattern) → r ≡ unjudged p → (l : List Sample) → fails_rule r l ≡ fresh_rule r l
now_is_new r p e l = ap (λ (x : Rule). fails_rule x l) e ∙ sym (ap (λ (x : Rule). fresh_rule x l) e)
