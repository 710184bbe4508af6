-- There is only one report.
use Rattle.std.proofs.Common.{◌≡◌, List, length, sym, ap, ◌∙◌, subst}
use Rattle.stream.specs.declared.numbered.Numbered.{Numbered}
use Rattle.grammar.specs.declared.tree.Line.{Line}
use Rattle.grammar.specs.declared.fault.Fault.{Fault}
use Rattle.grammar.specs.Faults.{refusal_of}
use Rattle.grammar.proofs.OneFaults.{one_book, one_fault}
use Rattle.book.specs.Books.{SeatFails}
use Rattle.watch.specs.declared.notice.Notice.{Notice}
use Rattle.watch.specs.Notices.{NoticesBy}
use Rattle.watch.proofs.Only.{same}
use Rattle.stream.specs.Traces.{fed_by}
use Rattle.terms_watch.specs.Stories.{term_of}
use Rattle.report.specs.Reports.{stop_by, last_line, notice_lines, page_of, stop_page, judged, faulty, OneReport}

one_list : (ls : List Line) (T : List Numbered) (xs ys : List Notice) → NoticesBy (SeatFails ls) T xs → NoticesBy (SeatFails ls) T ys → xs ≡ ys
one_list ls T xs ys p q = same xs ys p.sorted q.sorted (λ n i. q.all n (p.each n i)) (λ n i. p.all n (q.each n i))

pub one_report : OneReport
one_report text bytes end x y (judged ls ns book notices is) (judged ms ks book' notices' is') =
    let lines = one_book text ls ms book book' in
    let T = (fed_by bytes).samples in
    let last = last_line (stop_by bytes end) (length T) in
    let list = one_list ms T ns ks (subst (λ (l : List Line). NoticesBy (SeatFails l) T ns) lines notices) notices' in
    is ∙ ap (λ (l : List Line). page_of (notice_lines (term_of l) ns) last) lines ∙ ap (λ (k : List Notice). page_of (notice_lines (term_of ms) k) last) list ∙ sym is'
one_report text bytes end x y (judged ls ns book notices is) (faulty f fault is') = absurd ((one_fault text f fault).none ls book)
one_report text bytes end x y (faulty f fault is) (judged ls ns book notices is') = absurd ((one_fault text f fault).none ls book)
one_report text bytes end x y (faulty f fault is) (faulty g fault' is') =
    is ∙ ap (λ (h : Fault). stop_page (refusal_of h)) ((one_fault text g fault').other f fault) ∙ sym is'
