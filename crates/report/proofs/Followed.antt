-- A run goes on.
use Rattle.std.proofs.Common.{◌≡◌, ℕ, ◌+◌, List, [], ◌∷◌, ◌++◌, Some, None, sym, ap, ◌∙◌, subst, arith}
use Rattle.stream.specs.declared.refusal.Refusal.{Refusal}
use Rattle.stream.specs.Bytes.{held_by, bytes_of}
use Rattle.book.specs.Seating.{book_meaning}
use Rattle.watch.specs.Account.{Account, account, Delivered}
use Rattle.watch.proofs.Deliveries.{nothing, then, stopped}
use Rattle.report.specs.declared.run.Run.{Run}
use Rattle.stream.specs.Traces.{words_in, left_in}
use Rattle.terms_watch.specs.Stories.{Opens}
use Rattle.report.specs.Runs.{Follows}
use Rattle.report.proofs.Traces.{words_on, left_on, held_words, held_left, word_whole}

abbrev pub watched : Run → Account
watched run = account book_meaning run.watch

-- before any byte
pub fresh : (text : List ℕ) (run : Run) → Opens text (watched run) run.terms → run.refused ≡ None → held_by run.held ≡ [] → Follows text [] run
fresh text run opens none empty = record {
  start = watched run;
  opens = opens;
  count = 0;
  delivered = subst (Delivered (watched run) [] (watched run) 0) (sym none) (nothing (watched run));
  held = λ e. empty;
}

-- after a refusal the bytes are passed over
pub passed_over : (text before ys : List ℕ) (run : Run) (r : Refusal) → run.refused ≡ Some r → Follows text before run → Follows text (before ++ ys) run
passed_over text before ys run r e f = record {
  start = f.start;
  opens = f.opens;
  count = f.count;
  delivered =
      let d = stopped f.start (watched run) (words_in before) (words_in (left_in before ++ ys)) f.count r (subst (Delivered f.start (words_in before) (watched run) f.count) e f.delivered) in
      subst (λ (ws : List ℕ). Delivered f.start ws (watched run) f.count run.refused) (sym (words_on before ys))
      (subst (Delivered f.start (words_in before ++ words_in (left_in before ++ ys)) (watched run) f.count) (sym e) d);
  held = λ none. absurd (let z : ◌≡◌ {A = ℕ} 0 1 = cc in omega arith);
}

-- the words that the next bytes complete are delivered
goes_on : (text before ys : List ℕ) (run next : Run) (n : ℕ) → run.refused ≡ None → next.terms ≡ run.terms
    → Delivered (watched run) (words_in (left_in before ++ ys)) (watched next) n next.refused
    → (next.refused ≡ None → held_by next.held ≡ left_in (left_in before ++ ys)) → Follows text before run → Follows text (before ++ ys) next
goes_on text before ys run next n none same d held f = record {
  start = f.start;
  opens = subst (Opens text f.start) (sym same) f.opens;
  count = f.count + n;
  delivered = subst (λ (ws : List ℕ). Delivered f.start ws (watched next) (f.count + n) next.refused) (sym (words_on before ys))
      (then f.start (watched run) (watched next) (words_in before) (words_in (left_in before ++ ys)) f.count n next.refused
      (subst (Delivered f.start (words_in before) (watched run) f.count) none f.delivered) d);
  held = λ e. held e ∙ sym (left_on before ys);
}

-- bytes that complete no word are held
pub byte_held : (text before ys : List ℕ) (run next : Run) → run.refused ≡ None → next.refused ≡ None → next.terms ≡ run.terms → watched next ≡ watched run
    → held_by next.held ≡ held_by run.held ++ ys → Follows text before run → Follows text (before ++ ys) next
byte_held text before ys run next none still same quiet longer f =
    let all : left_in before ++ ys ≡ held_by next.held = ap (λ (l : List ℕ). l ++ ys) (sym (f.held none)) ∙ sym longer in
    let no_word : words_in (left_in before ++ ys) ≡ [] = ap words_in all ∙ held_words next.held in
    goes_on text before ys run next 0 none same
    (subst (λ (ws : List ℕ). Delivered (watched run) ws (watched next) 0 next.refused) (sym no_word)
    (subst (Delivered (watched run) [] (watched next) 0) (sym still) (subst (λ (a : Account). Delivered (watched run) [] a 0 None) (sym quiet) (nothing (watched run)))))
    (λ e. sym (ap left_in all ∙ held_left next.held)) f

-- bytes that complete a word have it delivered
pub word_whole_on : (text before ys : List ℕ) (run next : Run) (w n : ℕ) → run.refused ≡ None → next.terms ≡ run.terms
    → Delivered (watched run) (w ∷ []) (watched next) n next.refused → bytes_of (Some w) ++ held_by next.held ≡ held_by run.held ++ ys
    → Follows text before run → Follows text (before ++ ys) next
word_whole_on text before ys run next w n none same d split f =
    let all : left_in before ++ ys ≡ bytes_of (Some w) ++ held_by next.held = ap (λ (l : List ℕ). l ++ ys) (sym (f.held none)) ∙ sym split in
    let one : words_in (left_in before ++ ys) ≡ w ∷ [] = ap words_in all ∙ word_whole w next.held in
    goes_on text before ys run next n none same (subst (λ (ws : List ℕ). Delivered (watched run) ws (watched next) n next.refused) (sym one) d)
    (λ e. sym (ap left_in all ∙ held_left next.held)) f
