-- How far a run has come.
use Rattle.std.specs.Prelude.{◌≡◌, ℕ, List, ◌++◌, take, None}
use Rattle.stream.specs.Bytes.{held_by}
use Rattle.book.specs.Seating.{book_meaning}
use Rattle.watch.specs.Account.{Account, account, Delivered}
use Rattle.report.specs.declared.page.Page.{Page}
use Rattle.report.specs.declared.run.Run.{Run}
use Rattle.stream.specs.Traces.{words_in, left_in}
use Rattle.terms_watch.specs.Stories.{Opens}

-- the run was opened on this text, and then read these bytes: the whole words were delivered, up to the first that is refused, and where
-- none was, the bytes left over are held
pub record Follows (text bytes : List ℕ) (run : Run) : Type 0 where
  pub start : Account
  pub opens : Opens text start run.terms
  pub count : ℕ
  pub delivered : Delivered start (words_in bytes) (account book_meaning run.watch) count run.refused
  pub held : run.refused ≡ None → held_by run.held ≡ left_in bytes

-- what holds of every text and bytes that the run follows; it keeps neither, so that no ghost field and no model of it could name them
abbrev pub WhereFollows : Run → (List ℕ → List ℕ → Type 0) → Type 0
WhereFollows run P = (text bytes : List ℕ) → Follows text bytes run → P text bytes

-- the run went on by these bytes
abbrev pub GoesOn : Run → List ℕ → Run → Type 0
GoesOn before more after = WhereFollows before (λ text bytes. Follows text (bytes ++ more) after)

-- the bytes on a page
abbrev pub bytes_on : Page → List ℕ
bytes_on p = take p.len p.bytes
