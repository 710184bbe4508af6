use Rattle.std.proofs.Common.{◌≡◌, [], ◌∷◌, Some, None, Ok, Err, Option, Result, refl, ap, ◌∙◌}
use Rattle.std.specs.Option.{option_or}
use Rattle.std.specs.Result.{result_err}
use Rattle.stream.specs.declared.refusal.Refusal.{Refusal}
use Rattle.stream.specs.Bytes.{finish_by}
use Rattle.stream.specs.Refusals.{first_of}
use Rattle.stream.specs.Traces.{words_in, left_in, fed_by}
use Rattle.stream.specs.Words.{State, feeding}
use Rattle.watch.specs.Words.{refusal_in}
use Rattle.report.proofs.run.Run.stop.Goals as goal
use Rattle.report.proofs.run.Run.stop.Goals.{in-Complete, in-Unreadable}

same : (r : Result (Unit {0}) Refusal) → result_err r ≡ refusal_in r
same (Ok done) = refl
same (Err e) = refl

only : (o : Option Refusal) → o ≡ first_of (o ∷ [])
only (Some r) = refl
only None = refl

-- what ends the reading counts where no word was refused
ended : (taken o p q : Option Refusal) → o ≡ taken → (o ≡ None → p ≡ q) → option_or o p ≡ first_of (taken ∷ q ∷ [])
ended taken (Some r) p q e ends = ap (λ (t : Option Refusal). first_of (t ∷ q ∷ [])) e
ended taken None p q e ends = ends refl ∙ only q ∙ ap (λ (t : Option Refusal). first_of (t ∷ q ∷ [])) e

pub returns : goal.returns
returns c text bytes f =
    let taken : c.args.self.now.refused ≡ (fed_by bytes).refused = f.delivered.refused ∙ ap (λ (s : State). (feeding s (words_in bytes)).refused) f.opens.made.feed in
    elim c.match-end.branch [
      | in-Complete w ↦
          let left = λ (none : c.args.self.now.refused ≡ None). w.at_end-is ∙ w.err-at_end.ensures.value
          ∙ ap result_err (w.finish.ensures ∙ ap finish_by (f.held none)) ∙ same (finish_by (left_in bytes)) in
          rw w.in-Complete.is (c.or.ensures ∙ ended _ _ _ _ taken left)
      | in-Unreadable w ↦ rw w.in-Unreadable.is (c.or.ensures ∙ ended _ _ _ _ taken (λ none. w.at_end-is))
    ]
