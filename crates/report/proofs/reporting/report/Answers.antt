use Rattle.std.proofs.Common.{◌≡◌, ℕ, ◌+◌, List, [], ◌++◌, get_or, drop, sym, ap, ◌∙◌, subst, Bor}
use Rattle.std.proofs.lemmas.List.{append_assoc, append-nil, drop_all, drop_more}
use Rattle.watch.specs.Pieces.{words}
use Rattle.report.specs.Reports.{stop_page, faulty, Reported}
use Rattle.report.specs.Runs.{bytes_on}
use Rattle.report.proofs.reporting.report.Goals as goal

pub returns-in-Err : goal.returns-in-Err
returns-in-Err c =
    faulty c.in-Err.fault c.in-Err.ensures (c.stopped.ensures ∙ ap stop_page c.refusal.ensures)

pub loop-piece-preserved : goal.loop-piece-preserved
loop-piece-preserved c =
    let ps = c.args.pieces.now in
    let i = c.loop-piece.piece-index in
    let before = c.loop-piece.invariant.0 in
    let piece = get_or ps i (record { ref_ptr = (0, 0); now = [] }) in (
      before ++ piece.now,
      c.read.ensures _ before c.loop-piece.invariant.1,
      append_assoc before piece.now (words (drop (i + 1) ps))
          ∙ ap (λ (qs : List (Bor (List ℕ))). before ++ words qs) (sym (drop_more ps i (record { ref_ptr = (0, 0); now = [] }) c.loop-piece-test.true))
          ∙ c.loop-piece.invariant.2,
    )

pub returns-after-loop-piece : goal.returns-after-loop-piece
returns-after-loop-piece c =
    let before = c.loop-piece.invariant.0 in
    let all : before ≡ words c.args.pieces.now =
    sym (append-nil before)
    ∙ ap (λ (qs : List (Bor (List ℕ))). before ++ words qs) (sym (drop_all c.loop-piece.piece-index c.args.pieces.now c.loop-piece-test.false))
    ∙ c.loop-piece.invariant.2 in
    subst (λ (l : List ℕ). Reported c.args.text.now l c.args.end (bytes_on c.page.result)) all (c.page.ensures _ before c.loop-piece.invariant.1)
