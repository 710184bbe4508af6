-- The numbers of the samples that words take lie between the next numbers before and after.
use Rattle.std.proofs.Common.{◌≡◌, ℕ, ◌+◌, ◌<◌, ◌≤◌, Bool, true, false, cond, eqb, List, [], ◌∷◌, ◌++◌, Some, None, Option, sym, refl, ap, ◌∙◌, inl, inr, arith}
use Rattle.std.proofs.lemmas.Bool.{cases_Bool}
use Rattle.std.specs.Option.{option_to_list}
use Rattle.stream.specs.declared.refusal.Refusal.{Refusal}
use Rattle.stream.specs.declared.sample.Sample.{Sample}
use Rattle.stream.specs.declared.numbered.Numbered.{Numbered}
use Rattle.stream.specs.Words.{State, kind, refusal, made, after, onward, feeding, sample_in}
use Rattle.watch.specs.Losses.{number_by}

abbrev pub Between : ℕ → ℕ → List Numbered → Type 0
Between lo hi [] = Unit {0}
Between lo hi (x ∷ xs) = (lo ≤ x.number) × (x.number < hi) × Between lo hi xs

wider : (lo hi up : ℕ) (xs : List Numbered) → hi ≤ up → Between lo hi xs → Between lo up xs
wider lo hi up [] h b = tt
wider lo hi up (x ∷ xs) h b = (b.0, omega (arith, b.1), wider lo hi up xs h b.2)

lower : (low lo hi : ℕ) (xs : List Numbered) → low ≤ lo → Between lo hi xs → Between low hi xs
lower low lo hi [] h b = tt
lower low lo hi (x ∷ xs) h b = (omega (arith, b.0), b.1, lower low lo hi xs h b.2)

joins : (lo hi : ℕ) (xs ys : List Numbered) → Between lo hi xs → Between lo hi ys → Between lo hi (xs ++ ys)
joins lo hi [] ys p q = q
joins lo hi (x ∷ xs) ys p q = (p.0, p.1, joins lo hi xs ys p.2 q)

-- from s to t the samples xs were taken
pub record Counts (s t : State) (xs : List Numbered) : Type 0 where
  pub up : s.next ≤ t.next
  pub between : Between s.next t.next xs
  pub begun : t.begun ≡ false → (xs ≡ []) × (s.begun ≡ false)

one_word : (s : State) (w : ℕ) → Counts s (after s w) (option_to_list (made s w))
one_word s w = go (eqb (kind w) 1)
  where
    go : (b : Bool) → Counts s (record { next = cond b (s.next + 1) s.next; pending = (after s w).pending; begun = true; ended = (after s w).ended })
        (option_to_list (cond b (Some (record { number = s.next; sample = sample_in s.pending w })) None))
    go true = record { up = omega arith; between = (omega arith, omega arith, tt); begun = λ e. absurd (let z : ◌≡◌ {A = ℕ} 0 1 = cc in omega arith) }
    go false = record { up = omega arith; between = tt; begun = λ e. absurd (let z : ◌≡◌ {A = ℕ} 0 1 = cc in omega arith) }

pub words_count : (ws : List ℕ) (s : State) → Counts s (feeding s ws).state (feeding s ws).samples
unfolding feeding
words_count [] s = record { up = omega arith; between = tt; begun = λ e. (refl, e) }
words_count (w ∷ ws) s = go (refusal s w) (one_word s w) (words_count ws (after s w))
  where
    go : (o : Option Refusal) → Counts s (after s w) (option_to_list (made s w)) → Counts (after s w) (feeding (after s w) ws).state (feeding (after s w) ws).samples
        → Counts s (onward o s (made s w) (feeding (after s w) ws)).state (onward o s (made s w) (feeding (after s w) ws)).samples
    go (Some r) p q = record { up = omega arith; between = tt; begun = λ e. (refl, e) }
    go None p q =
        let hi = (feeding (after s w) ws).state.next in
        record {
          up = omega (arith, p.up, q.up);
          between = joins s.next hi (option_to_list (made s w)) (feeding (after s w) ws).samples
              (wider s.next (after s w).next hi (option_to_list (made s w)) q.up p.between)
              (lower s.next (after s w).next hi (feeding (after s w) ws).samples p.up q.between);
          begun = λ e. let v = p.begun (q.begun e).1 in (ap (λ (z : List Numbered). z ++ (feeding (after s w) ws).samples) v.0 ∙ (q.begun e).0, v.1);
        }

-- a number that is given stays, and one that is new is among the samples'
pub number_stays : (F : List Sample → ℕ → Bool) (k n : ℕ) (xs : List Numbered) → number_by F k (Some n) xs ≡ Some n
unfolding number_by
number_stays F k n [] = refl
number_stays F k n (x ∷ xs) = number_stays (λ l. F (x.sample ∷ l)) k n xs

pub number_new : (F : List Sample → ℕ → Bool) (k n lo hi : ℕ) (xs : List Numbered) → Between lo hi xs → number_by F k None xs ≡ Some n → (lo ≤ n) × (n < hi)
unfolding number_by
number_new F k n lo hi [] b e = absurd (let z : ◌≡◌ {A = ℕ} 0 1 = cc in omega arith)
number_new F k n lo hi (x ∷ xs) b e = elim (cases_Bool (F (x.sample ∷ []) k)) [
  | inl t ↦ let same : x.number ≡ n = let two = sym (number_stays (λ l. F (x.sample ∷ l)) k x.number xs) ∙ sym (ap (λ (c : Bool). number_by (λ l. F (x.sample ∷ l)) k (cond c (Some x.number) None) xs) t) ∙ e in cc in
      (omega (arith, b.0), omega (arith, b.1))
  | inr f ↦ number_new (λ l. F (x.sample ∷ l)) k n lo hi xs b.2 (sym (ap (λ (c : Bool). number_by (λ l. F (x.sample ∷ l)) k (cond c (Some x.number) None) xs) f) ∙ e)
]
