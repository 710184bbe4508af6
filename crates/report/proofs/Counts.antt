-- Each sample taken raises the next number by one.
use Rattle.std.proofs.Common.{◌≡◌, ℕ, ◌+◌, Bool, true, false, cond, eqb, List, [], ◌∷◌, length, Some, None, Option, arith}
use Rattle.stream.specs.declared.refusal.Refusal.{Refusal}
use Rattle.stream.specs.Words.{State, Fed, kind, sample_in, refusal, after, onward, feeding}

pub next_counts : (s : State) (ws : List ℕ) → (feeding s ws).state.next ≡ s.next + length (feeding s ws).samples
unfolding feeding
next_counts s [] = omega arith
next_counts s (w ∷ ws) = go (refusal s w) (eqb (kind w) 1) (next_counts (after s w) ws)
  where
    rest : Fed
    rest = feeding (after s w) ws

    go : (o : Option Refusal) (b : Bool) → rest.state.next ≡ cond b (s.next + 1) s.next + length rest.samples
        → (onward o s (cond b (Some (record { number = s.next; sample = sample_in s.pending w })) None) rest).state.next
        ≡ s.next + length (onward o s (cond b (Some (record { number = s.next; sample = sample_in s.pending w })) None) rest).samples
    go (Some r) b more = omega arith
    go None true more = omega arith
    go None false more = more
