-- A list cut at the first of a byte.
use Rattle.std.proofs.Common.{◌≡◌, ℕ, ◌+◌, ◌<◌, List, [], ◌∷◌, ◌++◌, length, get_or, take, drop, sym, refl, ap, ◌∙◌, ⊎_elim, arith, length-append}
use Rattle.std.proofs.lemmas.List.{get_or_append_left, get_or_at, take_at, drop_at, append_assoc, length_push}
use Rattle.std.proofs.lemmas.Bool.{cases_order}

abbrev pub Lacks : ℕ → List ℕ → Type 0
Lacks sep xs = (k : ℕ) → k < length xs → get_or xs k 0 ≡ sep → ⊥

-- the first sep of a list stands at r, or none does and r is its length
pub record FirstAt (sep r : ℕ) (xs : List ℕ) : Type 0 where
  pub before : (k : ℕ) → k < r → get_or xs k 0 ≡ sep → ⊥
  pub here : r < length xs → get_or xs r 0 ≡ sep

module _ (sep r : ℕ) (xs front rest : List ℕ) (first : FirstAt sep r xs) (none : Lacks sep front) (e : xs ≡ front ++ (sep ∷ rest)) where
  pub cut_at : r ≡ length front
  cut_at = ⊎_elim (λ is. is)
      (⊎_elim
      (λ low. absurd (none r low (sym (ap (λ (l : List ℕ). get_or l r 0) e ∙ get_or_append_left front (sep ∷ rest) 0 r low) ∙ first.here (omega (arith, ap length e, length-append front (sep ∷ rest))))))
      (λ high. absurd (first.before (length front) high (ap (λ (l : List ℕ). get_or l (length front) 0) e ∙ get_or_at front sep rest 0 (length front) refl))))
      (cases_order r (length front))

  pub cut_within : r < length xs
  cut_within = omega (arith, cut_at, ap length e, length-append front (sep ∷ rest))

  pub cut_front : take r xs ≡ front
  cut_front = ap (take r) e ∙ take_at front (sep ∷ rest) r (sym cut_at)

  pub cut_rest : drop (r + 1) xs ≡ rest
  cut_rest = ap (drop (r + 1)) (e ∙ sym (append_assoc front (sep ∷ []) rest)) ∙ drop_at (front ++ (sep ∷ [])) rest (r + 1) (length_push front sep ∙ omega (arith, cut_at))

-- the two sides of the first sep are determined
module _ (sep : ℕ) (front rest front' rest' : List ℕ) (none : Lacks sep front) (none' : Lacks sep front') (e : front ++ (sep ∷ rest) ≡ front' ++ (sep ∷ rest')) where
  first : FirstAt sep (length front) (front ++ (sep ∷ rest))
  first = record {
    before = λ k h s. none k h (sym (get_or_append_left front (sep ∷ rest) 0 k h) ∙ s);
    here = λ h. get_or_at front sep rest 0 (length front) refl;
  }

  pub same_front : front ≡ front'
  same_front = sym (take_at front (sep ∷ rest) (length front) refl) ∙ cut_front sep (length front) _ front' rest' first none' e

  pub same_rest : rest ≡ rest'
  same_rest =
      sym (cut_rest sep (length front) (front ++ (sep ∷ rest)) front rest first none refl)
      ∙ cut_rest sep (length front) (front ++ (sep ∷ rest)) front' rest' first none' e
