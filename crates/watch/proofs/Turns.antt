-- Pieces one after another, and what a loop over them keeps.
use Rattle.std.proofs.Common.{◌≡◌, ℕ, ◌+◌, ◌<◌, ◌≤◌, List, ◌∷◌, length, get_or, drop, Some, None, Option, subst, arith, Bor}
use Rattle.std.proofs.lemmas.List.{drop_more, drop_all}
use Rattle.stream.specs.declared.refusal.Refusal.{Refusal}
use Rattle.watch.specs.Account.{Account, Delivered}
use Rattle.watch.specs.Pieces.{contents, joined}
use Rattle.watch.specs.InTurn.{InTurn, no_piece, piece_taken, piece_refused, PiecesTell}
use Rattle.watch.proofs.Deliveries.{nothing, then, stopped}

pub pieces_tell : PiecesTell
pieces_tell a b ps n r no_piece = nothing a
pieces_tell a c ps n r (piece_taken {p = p} {ps = qs} {b = b} {n = k} {m = m} d t) = then a b c p (joined qs) k m r d (pieces_tell b c qs m r t)
pieces_tell a b ps n r (piece_refused {p = p} {ps = qs} {r = e} d) = stopped a b p (joined qs) n e d

-- with n words taken and the pieces ps to come, whatever the rest does the whole does
abbrev pub Turn : Account → List (List ℕ) → Account → ℕ → List (List ℕ) → Type 0
Turn a whole b n ps = (c : Account) (m : ℕ) (r : Option Refusal) → InTurn b ps c m r → InTurn a whole c (n + m) r

module _ (a : Account) (whole : List (List ℕ)) (b c : Account) (n t i : ℕ) (ps : List (Bor (List ℕ))) (p : Bor (List ℕ)) (o : Option Refusal) where
  at_place : i < length ps → Turn a whole b n (contents (drop i ps)) → Turn a whole b n ((get_or ps i p).now ∷ contents (drop (i + 1) ps))
  at_place lt h = subst (λ (qs : List (Bor (List ℕ))). Turn a whole b n (contents qs)) (drop_more ps i p lt) h

  pub turn_more : i < length ps → Turn a whole b n (contents (drop i ps)) → Delivered b (get_or ps i p).now c t o → o ≡ None
      → Turn a whole c (n + t) (contents (drop (i + 1) ps))
  turn_more lt h d e z m r q =
      let sums : n + (t + m) ≡ n + t + m = omega arith in
      subst (λ (j : ℕ). InTurn a whole z j r) sums (at_place lt h z (t + m) r (piece_taken (subst (Delivered b (get_or ps i p).now c t) e d) q))

  pub turn_stop : (r : Refusal) → i < length ps → Turn a whole b n (contents (drop i ps)) → Delivered b (get_or ps i p).now c t o → o ≡ Some r
      → InTurn a whole c (n + t) (Some r)
  turn_stop r lt h d e = at_place lt h c t (Some r) (piece_refused (subst (Delivered b (get_or ps i p).now c t) e d))

pub turn_end : (a : Account) (whole : List (List ℕ)) (b : Account) (n i : ℕ) (ps : List (Bor (List ℕ))) → length ps ≤ i → Turn a whole b n (contents (drop i ps))
    → InTurn a whole b n None
turn_end a whole b n i ps ge h =
    let z : n + 0 ≡ n = omega arith in
    subst (λ (t : ℕ). InTurn a whole b t None) z (subst (λ (qs : List (Bor (List ℕ))). Turn a whole b n (contents qs)) (drop_all i ps ge) h b 0 None no_piece)
