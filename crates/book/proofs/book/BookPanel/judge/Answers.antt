use Rattle.std.proofs.Common.{rules, ◌≡◌, ◌+◌, ◌<◌, [], length, get_or, take, drop, sym, ap, ◌∙◌, arith, subst, take_all}
use Rattle.std.proofs.Math.Seq.{drop-cons}
use Rattle.std.proofs.Math.Numerals.{add-one}
use Rattle.std.proofs.lemmas.List.{take_more, take_more_set, drop-set-lt}
use Rattle.std.proofs.lemmas.List.Elements.{AllZip-push}
use Rattle.std.specs.List.{AllZip}
use Rattle.arrayvec.proofs.ArrayVecLemmas.{items-with_items}
use Rattle.book.specs.Seating.{at_seat, fails_at}
use Rattle.book.proofs.Seats.{Judged, Found, found_lost, found_standing, judged_seats}
use Rattle.book.proofs.book.BookPanel.judge.Goals as goal
use Rattle.book.proofs.book.BookPanel.judge.Goals.{then-judge, else-judge}

pub loop-i-preserved : goal.loop-i-preserved
loop-i-preserved c =
    let (judged, left, found) = c.loop-i.invariant in
    let cs = c.deref_mut-clause-items.result.now in
    let ds = c.loop-i.clause-items in
    let i = c.loop-i.i in
    let y = c.judge.new.self in
    let z = c.clause-item.result in
    let h : i < length ds = search rules in
    let g : i < length cs = search rules in
    let low : i < 64 = search rules in
    let long : length (take i ds) ≡ i = search rules in
    let e = drop-cons ds i z h in
    let f = drop-cons cs i z g in
    let same : get_or ds i z ≡ get_or cs i z = cc in
    let rest : drop (i + 1) ds ≡ drop (i + 1) cs = rw add-one (cc) in (
      rw (take_more cs i z g, take_more_set ds i y h)
          (AllZip-push (Judged c.args.sample) _ _ (get_or cs i z) y judged (subst (λ x. Judged c.args.sample x y) same (c.judge.ensures.after, c.judge.ensures.numbered))),
      drop-set-lt (i + 1) ds i y (omega arith) ∙ rest,
      rw (take_more_set ds i y h)
          (elim c.if-judge.branch [
            | then-judge w ↦ subst (Found _) (sym w.lost-is) (found_lost _ i y _ found _ _ long low (sym c.judge.ensures.answer ∙ w.if-judge.true) w.only.ensures w.union-lost.ensures)
            | else-judge w ↦ subst (Found _) (sym w.lost-is) (found_standing _ i y _ found (sym c.judge.ensures.answer ∙ w.if-judge.false))
          ]),
    )

pub returns : goal.returns
returns c =
    let v = c.args.self.now.clauses in
    let cs = c.deref_mut-clause-items.result.now in
    let ds = c.loop-i.clause-items in
    let i = c.loop-i.i in
    let is = items-with_items v ds (search rules) in
    let all : AllZip (Judged c.args.sample) v.items ds =
    rw (← c.deref_mut-clause-items.ensures.value) (subst (AllZip (Judged c.args.sample) cs) (take_all i ds (omega arith)) (subst (λ xs. AllZip (Judged c.args.sample) xs (take i ds)) (take_all i cs (omega arith)) c.loop-i.invariant.0)) in
    let seats = judged_seats c.args.sample v.items ds all in
    record {
      after = record { count = search rules; lost = λ l k. rw is ((seats k).0 l) };
      answer = λ k. rw is (c.loop-i.invariant.2 k ∙ ap (λ xs. fails_at (at_seat xs k) []) (take_all i ds (omega arith)));
      numbered = λ k. rw is (seats k).1;
    }
