-- What a run prints.
use Rattle.std.proofs.Common.{◌≡◌, ℕ, ◌≤◌, ◌+◌, Bool, List, [], ◌∷◌, ◌++◌, length, take, drop, Option, sym, refl, ap, ◌∙◌, arith}
use Rattle.std.proofs.lemmas.List.{append_assoc, take_all, take_at}
use Rattle.stream.specs.Words.{State, unread, feeding}
use Rattle.watch.specs.declared.notice.Notice.{Notice}
use Rattle.printout.specs.Lines.{header_line, notice_line}
use Rattle.watch.specs.Order.{Waits}
use Rattle.watch.specs.Listing.{Listing}
use Rattle.watch.proofs.Carried.{notices_said}
use Rattle.watch.proofs.Held.{kept_start, kept_deliver}
use Rattle.watch.proofs.Stories.{left}
use Rattle.book.specs.Books.{SeatFails}
use Rattle.book.specs.Laws.{book_lawful}
use Rattle.book.specs.Seating.{book_meaning}
use Rattle.report.specs.declared.run.Run.{Run}
use Rattle.report.specs.declared.run.Ending.{Ending}
use Rattle.stream.specs.Traces.{words_in, fed_by}
use Rattle.terms_watch.specs.Stories.{term_at, term_of}
use Rattle.report.specs.Reports.{printed, notice_lines, page_of, last_line, stop_by, Reported, judged}
use Rattle.report.specs.Runs.{Follows}
use Rattle.report.proofs.Counts.{next_counts}
use Rattle.terms_watch.proofs.Openings.{by_lines}
use Rattle.report.proofs.Followed.{watched}

-- lines behind lines
printed-++ : (xs ys : List (List ℕ)) → printed (xs ++ ys) ≡ printed xs ++ printed ys
printed-++ [] ys = refl
printed-++ (x ∷ xs) ys = ap (λ (l : List ℕ). x ++ (10 ∷ l)) (printed-++ xs ys) ∙ sym (append_assoc x (10 ∷ printed xs) (printed ys))

same_terms : (t u : ℕ → ℕ) → ((k : ℕ) → t k ≡ u k) → (ns : List Notice) → notice_lines t ns ≡ notice_lines u ns
same_terms t u e [] = refl
same_terms t u e (n ∷ ns) = λ i. notice_line (e n.seat i) n.number ∷ same_terms t u e ns i

-- the header, the lines of the notices, and the last line behind them
pub lines_page : (term : ℕ → ℕ) (ns : List Notice) (last a b c : List ℕ) → a ≡ printed (header_line ∷ []) → b ≡ a ++ printed (notice_lines term ns)
    → c ≡ b ++ (last ++ (10 ∷ [])) → c ≡ page_of (notice_lines term ns) last
lines_page term ns last a b c first second third =
    let lines = notice_lines term ns in
    let head = printed (header_line ∷ []) in
    third
    ∙ ap (λ (l : List ℕ). l ++ printed (last ∷ [])) (second ∙ ap (λ (l : List ℕ). l ++ printed lines) first)
    ∙ append_assoc head (printed lines) (printed (last ∷ []))
    ∙ ap (λ (l : List ℕ). head ++ l) (sym (printed-++ lines (last ∷ [])))
    ∙ sym (printed-++ (header_line ∷ []) (lines ++ (last ∷ [])))

-- a list with room for every seat has all the notices that wait
pub all_listed : (number : ℕ → Option ℕ) (collected : ℕ → Bool) (before after : List Notice) (written waiting : ℕ) (l : Listing number collected before after written waiting)
    → length before ≡ 64 → waiting ≤ 64 → take written after ≡ l.notices
all_listed number collected before after written waiting l room few =
    let all : written ≡ length l.notices = omega (arith, l.shows.all, l.shows.room) in
    let whole = take_all written l.notices (omega arith) in
    ap (take written) (l.shows.list ∙ ap (λ (ns : List Notice). ns ++ drop written before) whole) ∙ take_at l.notices (drop written before) written (sym all)

-- the next number is one past the count of the samples taken
pub next_taken : (text bytes : List ℕ) (run : Run) → Follows text bytes run → (watched run).feed.next ≡ 1 + length (fed_by bytes).samples
next_taken text bytes run f =
    ap (λ (s : State). s.next) f.delivered.feed ∙ ap (λ (s : State). (feeding s (words_in bytes)).state.next) f.opens.made.feed ∙ next_counts unread (words_in bytes)

-- the notices that wait, where none was collected, are those of the lost seats
pub told : (text bytes : List ℕ) (run : Run) (end : Ending) (out : List ℕ) (ns : List Notice) → Follows text bytes run → Waits (watched run).ledger.number (watched run).ledger.collected ns
    → out ≡ page_of (notice_lines (term_at run.terms) ns) (last_line (stop_by bytes end) (length (fed_by bytes).samples)) → Reported text bytes end out
told text bytes run end out ns f waits is =
    let o = f.opens in
    let m = book_meaning o.panel in
    let kept = kept_deliver m _ _ _ f.start (watched run) (words_in bytes) f.count run.refused (kept_start m f.start o.made) f.delivered in
    let lost = left m (book_lawful o.panel) kept ns waits in
    judged o.lines ns o.book (notices_said m.lost (SeatFails o.lines) (by_lines o.panel o.lines o.holds) (fed_by bytes).samples ns lost)
    (is ∙ ap (λ (ls : List (List ℕ)). page_of ls (last_line (stop_by bytes end) (length (fed_by bytes).samples))) (same_terms (term_at run.terms) (term_of o.lines) o.terms ns))
