-- Pieces delivered one after another, and that their cut does not show.
use Rattle.std.specs.Prelude.{◌≡◌, ℕ, ◌+◌, List, [], ◌∷◌, Some, None, Option, Result}
use Rattle.stream.specs.declared.refusal.Refusal.{Refusal}
use Rattle.watch.specs.declared.notice.Notice.{Notice}
use Rattle.watch.specs.Account.{Account, Opened, Delivered, Listed, Collected, Alike}
use Rattle.watch.specs.Pieces.{joined}

-- each piece in turn was delivered by itself, until a refusal: n words were taken in all, up to the refusal r if there is one
pub data InTurn : Account → List (List ℕ) → Account → ℕ → Option Refusal → Type 0 where
  no_piece : {a : Account} → InTurn a [] a 0 None
  piece_taken : {p : List ℕ} {ps : List (List ℕ)} {a b c : Account} {n m : ℕ} {r : Option Refusal} → Delivered a p b n None → InTurn b ps c m r
      → InTurn a (p ∷ ps) c (n + m) r
  piece_refused : {p : List ℕ} {ps : List (List ℕ)} {a b : Account} {n : ℕ} {r : Refusal} → Delivered a p b n (Some r) → InTurn a (p ∷ ps) b n (Some r)

-- pieces in turn come to what their words come to in one piece
abbrev pub PiecesTell : Type 0
PiecesTell = (a b : Account) (ps : List (List ℕ)) (n : ℕ) (r : Option Refusal) → InTurn a ps b n r → Delivered a (joined ps) b n r

-- watches that are alike answer alike, and go on alike: also where the pieces are others, if their words are the same
pub record AlikeOn : Type 0 where
  pub begin : (a b c d : Account) (n : ℕ) (r s : Result (Unit {0}) Refusal) → Alike a b → Opened a n c r → Opened b n d s → (r ≡ s) × Alike c d
  pub pieces : (a b c d : Account) (ps qs : List (List ℕ)) (n m : ℕ) (r s : Option Refusal) → Alike a b → joined ps ≡ joined qs
      → InTurn a ps c n r → InTurn b qs d m s → (n ≡ m) × (r ≡ s) × Alike c d
  pub list : (a b : Account) (before after later : List Notice) (w v n m : ℕ) → Alike a b → Listed a before after w n → Listed b before later v m
      → (w ≡ v) × (n ≡ m) × (after ≡ later)
  pub collect : (a b c d : Account) (r s : Result Notice Refusal) → Alike a b → Collected a c r → Collected b d s → (r ≡ s) × Alike c d
