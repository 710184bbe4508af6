-- A watch on a newly read book, in the words of its lines.
use Rattle.std.proofs.Common.{◌≡◌, ℕ, false, List, Option, unwrap_or, ap, ◌∙◌, inl, inr}
use Rattle.std.proofs.lemmas.Bool.{cases_Bool, both_ways}
use Rattle.stream.specs.declared.sample.Sample.{Sample}
use Rattle.grammar.specs.declared.tree.Line.{Line}
use Rattle.grammar.specs.Books.{IsBook}
use Rattle.book.specs.declared.book.Book.{Book}
use Rattle.book.specs.Books.{SeatFails, Holds}
use Rattle.book.specs.Seating.{book_meaning, number_at}
use Rattle.book.specs.Laws.{book_lawful}
use Rattle.watch.specs.Losses.{bare}
use Rattle.watch.specs.Account.{Account, Made}
use Rattle.watch.specs.Exchanges.{Exchange, taken}
use Rattle.watch.specs.Story.{Story}
use Rattle.watch.proofs.Carried.{Says, falls_said, said_falls, notices_said}
use Rattle.watch.proofs.Stories.{chains_tell}
use Rattle.terms_watch.specs.declared.opening.ClauseNumbers.{ClauseNumbers}
use Rattle.terms_watch.specs.Stories.{BookStory, term_at, Opens}

module _ (b : Book) (ls : List Line) (holds : Holds b ls) where
  -- what the book fails is what its lines say
  pub by_lines : (k : ℕ) → Says (book_meaning b).lost k (SeatFails ls k)
  by_lines k l = ((holds.meaning l k).0, (holds.meaning l k).1)

  not_failing : (k : ℕ) (l : List Sample) → (SeatFails ls k l → ⊥) → (book_meaning b).lost l k ≡ false
  not_failing k l stands = elim (cases_Bool ((book_meaning b).lost l k)) [ inl t ↦ absurd (stands ((by_lines k l).0 t)) | inr f ↦ f ]

  story_by_lines : (es : List Exchange) (w : Account) → Story (book_meaning b) es w → BookStory ls es w
  story_by_lines es w s = record {
    lost = λ k n e. falls_said (book_meaning b).lost k (SeatFails ls k) (by_lines k) 0 (taken es) n (s.lost k n e);
    falls = λ k n f. s.falls k n (said_falls (book_meaning b).lost k (SeatFails ls k) (by_lines k) 0 (taken es) n f);
    stands = λ k e f. both_ways ((book_meaning b).lost (bare (taken es)) k) (s.stands k e) ((by_lines k (bare (taken es))).1 f);
    safe = λ k f. s.safe k (not_failing k (bare (taken es)) f);
    waiting = s.waiting;
    waits = s.waits;
    notices = notices_said (book_meaning b).lost (SeatFails ls) by_lines (taken es) _ s.notices;
  }

  pub opened : (text : List ℕ) (a : Account) (t : ClauseNumbers) → IsBook text ls → Made (book_meaning b) a
      → ((k : ℕ) → term_at t k ≡ unwrap_or (number_at b k) 0) → Opens text a t
  opened text a t is made terms = record {
    lines = ls;
    book = is;
    terms = λ k. terms k ∙ ap (λ (n : Option ℕ). unwrap_or n 0) (holds.numbers k);
    panel = b;
    holds = holds;
    made = made;
    tells = λ es w chain. let s = chains_tell.tell (book_meaning b) (book_lawful b) a w es made chain in (s, story_by_lines es w s);
  }
