-- Words cut in two.
use Rattle.std.proofs.Common.{◌≡◌, ℕ, ◌+◌, min, List, [], ◌∷◌, ◌++◌, length, take, drop, Some, None, Option, sym, ap, ◌∙◌, subst, ⊎_elim, arith}
use Rattle.std.proofs.lemmas.List.{take_all, drop_all, take-append-drop, append-nil}
use Rattle.std.proofs.lemmas.Bool.{cases_lt}
use Rattle.stream.specs.declared.refusal.Refusal.{Refusal}
use Rattle.watch.specs.Account.{Account, Delivered}
use Rattle.watch.specs.InTurn.{InTurn, no_piece, piece_taken, piece_refused}

-- a place past the end is the end
pub as_far : (ws : List ℕ) (at i : ℕ) → i ≡ min at (length ws) → (take i ws ≡ take at ws) × (drop i ws ≡ drop at ws)
as_far ws at i e = ⊎_elim
    (λ lt. let same : i ≡ at = omega arith in (ap (λ (j : ℕ). take j ws) same, ap (λ (j : ℕ). drop j ws) same))
    (λ ge. (
      take_all i ws (omega arith) ∙ sym (take_all at ws (omega arith)),
      drop_all i ws (omega arith) ∙ sym (drop_all at ws (omega arith)),
    ))
    (cases_lt at (length ws))

-- the last piece, whatever it met
last_piece : (a b : Account) (p : List ℕ) (n : ℕ) (r : Option Refusal) → Delivered a p b n r → InTurn a (p ∷ []) b n r
last_piece a b p n (Some r) d = piece_refused d
last_piece a b p n None d = let z : n + 0 ≡ n = omega arith in subst (λ (t : ℕ). InTurn a (p ∷ []) b t None) z (piece_taken d no_piece)

-- a front that is refused ends it, and else the rest follows
module _ (a b : Account) (p q : List ℕ) (n : ℕ) (o : Option Refusal) (same : p ≡ q) (d : Delivered a p b n o) where
  pub front_refused : (ps : List (List ℕ)) (r : Refusal) → o ≡ Some r → InTurn a (q ∷ ps) b n (Some r)
  front_refused ps r e = piece_refused (subst (λ (l : List ℕ). Delivered a l b n (Some r)) same (subst (Delivered a p b n) e d))

  pub rest_follows : (c : Account) (v w : List ℕ) (m : ℕ) (r : Option Refusal) → o ≡ None → v ≡ w → Delivered b v c m r → InTurn a (q ∷ w ∷ []) c (n + m) r
  rest_follows c v w m r e also f =
      piece_taken (subst (λ (l : List ℕ). Delivered a l b n None) same (subst (Delivered a p b n) e d))
      (last_piece b c w m r (subst (λ (l : List ℕ). Delivered b l c m r) also f))

-- the two halves are the words
pub halves : (ws : List ℕ) (at : ℕ) → take at ws ++ (drop at ws ++ []) ≡ ws
halves ws at = ap (λ (l : List ℕ). take at ws ++ l) (append-nil (drop at ws)) ∙ take-append-drop at ws
