use Rattle.std.proofs.Common.{Some, Ok, Option, sym, subst}
use Rattle.std.proofs.lemmas.Result.{err_from_is_err_and}
use Rattle.stream.specs.declared.feed.Feed.{Feed}
use Rattle.stream.specs.declared.numbered.Numbered.{Numbered}
use Rattle.stream.specs.Words.{state_of, Took}
use Rattle.watch.proofs.Parts.{panel_refl, seats_refl}
use Rattle.watch.proofs.Deliveries.{word_refused, word_plain, word_sample}
use Rattle.watch.proofs.watch.Watch.take.Goals as goal

pub returns-in_err-numbered : goal.returns-in_err-numbered
returns-in_err-numbered g c =
    let p = err_from_is_err_and c.from_residual.result c.from_residual.ensures.1 in
    rw (p.1, p.2) (word_refused _ _ c.args.word _ c.in_err-numbered.ensures (panel_refl _) (seats_refl _))

pub returns-in_default : goal.returns-in_default
returns-in_default g c =
    word_plain _ _ c.args.word (subst (λ (o : Option Numbered). Took (state_of c.args.self.now.feed) c.args.word (Ok o) (state_of c.take.new.self)) c.in_default.is c.in_ok-numbered.ensures)
    (panel_refl _) (seats_refl _)

pub returns-in-Some : goal.returns-in-Some
returns-in-Some g c =
    let judged = c.judge.ensures in
    word_sample _ _ c.args.word c.in-Some.numbered
    (subst (λ (f : Feed). Took (state_of c.args.self.now.feed) c.args.word (Ok (Some c.in-Some.numbered)) (state_of f)) (sym judged.feed)
    (subst (λ (o : Option Numbered). Took (state_of c.args.self.now.feed) c.args.word (Ok o) (state_of c.take.new.self)) c.in-Some.is c.in_ok-numbered.ensures))
    judged.panel judged.seats
