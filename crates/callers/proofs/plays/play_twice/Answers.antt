use Rattle.std.proofs.Common.{ℕ, map, take, sym, ap, ◌∙◌}
use Rattle.watch.specs.Plays.{call_of, held_as}
use Rattle.callers.proofs.plays.play_twice.Goals as goal

pub returns-clause-answers : goal.returns-clause-answers
returns-clause-answers g c panels long =
    let x = c.play_into-a.ensures.played in
    let y = c.play_into-b.ensures.played in
    let calls = x.calls_are ∙ ap (λ (n : ℕ). map call_of (take n c.args.calls.now)) long ∙ sym y.calls_are in
    x.answers_are ∙ ap (map held_as) (c.answers_tell.ensures.same _ _ panels _ _ _ _ _ _ x.made x.chain y.made y.chain calls).0 ∙ sym y.answers_are

pub returns-clause-alike : goal.returns-clause-alike
returns-clause-alike g c panels long =
    let x = c.play_into-a.ensures.played in
    let y = c.play_into-b.ensures.played in
    let calls = x.calls_are ∙ ap (λ (n : ℕ). map call_of (take n c.args.calls.now)) long ∙ sym y.calls_are in
    (c.answers_tell.ensures.same _ _ panels _ _ _ _ _ _ x.made x.chain y.made y.chain calls).1
