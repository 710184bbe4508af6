-- The notices of the seats that are lost on some samples.
use Rattle.std.specs.Prelude.{◌≡◌, ℕ, Bool, true, List}
use Rattle.stream.specs.declared.sample.Sample.{Sample}
use Rattle.stream.specs.declared.numbered.Numbered.{Numbered}
use Rattle.watch.specs.declared.notice.Notice.{Notice}
use Rattle.watch.specs.Falls.{FallsBy}
use Rattle.watch.specs.Order.{In, Sorted}

-- where P says of each seat on which lists it is lost, ns are the notices of the seats that are lost on the samples T, each once, by
-- number and then seat
pub record NoticesBy (P : ℕ → List Sample → Type 0) (T : List Numbered) (ns : List Notice) : Type 0 where
  pub sorted : Sorted ns
  pub each : (n : Notice) → In n ns → FallsBy 0 (P n.seat) T n.number
  pub all : (n : Notice) → FallsBy 0 (P n.seat) T n.number → In n ns

-- the same where F says which seats are lost on a list
abbrev pub Notices : (List Sample → ℕ → Bool) → List Numbered → List Notice → Type 0
Notices F T ns = NoticesBy (λ k l. F l k ≡ true) T ns

-- there is only one such list
abbrev pub OneList : Type 0
OneList = (F : List Sample → ℕ → Bool) (T : List Numbered) (xs ys : List Notice) → Notices F T xs → Notices F T ys → xs ≡ ys
