-- A seat has a number exactly where it falls.
use Rattle.std.proofs.Common.{◌≡◌, ℕ, Bool, true, false, cond, List, [], ◌∷◌, ◌++◌, Some, None, Option, sym, refl, ap, ◌∙◌, subst, inl, inr, arith}
use Rattle.std.proofs.lemmas.Bool.{cases_Bool, both_ways}
use Rattle.stream.specs.declared.sample.Sample.{Sample}
use Rattle.stream.specs.declared.numbered.Numbered.{Numbered}
use Rattle.watch.specs.Losses.{bare, number_by}
use Rattle.watch.specs.Falls.{last_or, FallsFrom, Lasting, number_on, NumbersRight}

abbrev on : (List Sample → ℕ → Bool) → Numbered → List Sample → ℕ → Bool
on F x l = F (x.sample ∷ l)

-- the shortest opening is empty, or has the first sample
no_more : (X Y : List Numbered) → [] ≡ X ++ Y → Y ≡ []
no_more [] Y e = sym e
no_more (x ∷ X) Y e = absurd (let z : ◌≡◌ {A = ℕ} 0 1 = cc in omega arith)

at_once : (F : List Sample → ℕ → Bool) (m : ℕ) (T : List Numbered) (k n : ℕ) → F [] k ≡ true → n ≡ m → FallsFrom m F T k n
at_once F m T k n e f = record { front = []; rest = T; splits = refl; fails = e; shortest = λ X Y q h. no_more X Y q; number = f }

later : (F : List Sample → ℕ → Bool) (m : ℕ) (x : Numbered) (xs : List Numbered) (k n : ℕ) → F [] k ≡ false → FallsFrom x.number (on F x) xs k n → FallsFrom m F (x ∷ xs) k n
later F m x xs k n f r = record {
  front = x ∷ r.front;
  rest = r.rest;
  splits = ap (λ (z : List Numbered). x ∷ z) r.splits;
  fails = r.fails;
  shortest = go;
  number = r.number;
}
  where
    go : (X Y : List Numbered) → x ∷ r.front ≡ X ++ Y → F (bare X) k ≡ true → Y ≡ []
    go [] Y e h = absurd (both_ways (F [] k) f h)
    go (y ∷ X) Y e h =
        let p : x ≡ y = cc in
        let q : r.front ≡ X ++ Y = cc in
        r.shortest X Y q (subst (λ (z : Numbered). F (z.sample ∷ bare X) k ≡ true) (sym p) h)

sooner : (F : List Sample → ℕ → Bool) (m : ℕ) (x : Numbered) (xs : List Numbered) (k n : ℕ) → F [] k ≡ false → FallsFrom m F (x ∷ xs) k n → FallsFrom x.number (on F x) xs k n
sooner F m x xs k n f r = go r.front r.splits r.fails r.shortest r.number
  where
    go : (front : List Numbered) → x ∷ xs ≡ front ++ r.rest → F (bare front) k ≡ true
        → ((X Y : List Numbered) → front ≡ X ++ Y → F (bare X) k ≡ true → Y ≡ []) → n ≡ last_or m front → FallsFrom x.number (on F x) xs k n
    go [] e h s q = absurd (both_ways (F [] k) f h)
    go (y ∷ front) e h s q =
        let p : x ≡ y = cc in
        let t : xs ≡ front ++ r.rest = cc in
        record {
          front = front;
          rest = r.rest;
          splits = t;
          fails = subst (λ (z : Numbered). F (z.sample ∷ bare front) k ≡ true) (sym p) h;
          shortest = λ X Y i j. s (y ∷ X) Y (ap (λ (z : List Numbered). y ∷ z) i) (subst (λ (z : Numbered). F (z.sample ∷ bare X) k ≡ true) p j);
          number = q ∙ ap (λ (z : Numbered). last_or z.number front) (sym p);
        }

none_falls : (F : List Sample → ℕ → Bool) (m k n : ℕ) → F [] k ≡ false → FallsFrom m F [] k n → ⊥
none_falls F m k n f r = both_ways (F [] k) f (subst (λ (z : List Numbered). F (bare z) k ≡ true) (empty r.front r.splits) r.fails)
  where
    empty : (X : List Numbered) → [] ≡ X ++ r.rest → X ≡ []
    empty [] e = refl
    empty (x ∷ X) e = absurd (let z : ◌≡◌ {A = ℕ} 0 1 = cc in omega arith)

-- the number, sample by sample
stays : (F : List Sample → ℕ → Bool) (k n : ℕ) (T : List Numbered) → number_by F k (Some n) T ≡ Some n
unfolding number_by
stays F k n [] = refl
stays F k n (x ∷ xs) = stays (on F x) k n xs

by_true : (F : List Sample → ℕ → Bool) (m k : ℕ) (T : List Numbered) → F [] k ≡ true → number_on m F T k ≡ Some m
by_true F m k T t = ap (λ (b : Bool). number_by F k (cond b (Some m) None) T) t ∙ stays F k m T

by_false : (F : List Sample → ℕ → Bool) (m k : ℕ) (x : Numbered) (xs : List Numbered) → F [] k ≡ false → number_on m F (x ∷ xs) k ≡ number_on x.number (on F x) xs k
unfolding number_by
by_false F m k x xs f = ap (λ (b : Bool). number_by F k (cond b (Some m) None) (x ∷ xs)) f

by_none : (F : List Sample → ℕ → Bool) (m k : ℕ) → F [] k ≡ false → number_on m F [] k ≡ None
unfolding number_by
by_none F m k f = ap (λ (b : Bool). cond b (Some m) None) f

same_number : (o : Option ℕ) (m n : ℕ) → o ≡ Some m → o ≡ Some n → n ≡ m
same_number o m n p q = cc

not_both : (o : Option ℕ) (n : ℕ) → o ≡ Some n → o ≡ None → ⊥
not_both o n p q = let z : ◌≡◌ {A = ℕ} 0 1 = cc in omega arith

number_falls : (F : List Sample → ℕ → Bool) (m : ℕ) (T : List Numbered) (k n : ℕ) → number_on m F T k ≡ Some n → FallsFrom m F T k n
number_falls F m [] k n e = elim (cases_Bool (F [] k)) [
  | inl t ↦ at_once F m [] k n t (same_number _ m n (by_true F m k [] t) e)
  | inr f ↦ absurd (not_both _ n e (by_none F m k f))
]
number_falls F m (x ∷ xs) k n e = elim (cases_Bool (F [] k)) [
  | inl t ↦ at_once F m (x ∷ xs) k n t (same_number _ m n (by_true F m k (x ∷ xs) t) e)
  | inr f ↦ later F m x xs k n f (number_falls (on F x) x.number xs k n (sym (by_false F m k x xs f) ∙ e))
]

-- a seat lost from the start falls at m, by whatever front
first_number : (F : List Sample → ℕ → Bool) (m : ℕ) (T : List Numbered) (k n : ℕ) → F [] k ≡ true → FallsFrom m F T k n → number_on m F T k ≡ Some n
first_number F m T k n t r = by_true F m k T t ∙ ap Some (sym (r.number ∙ ap (last_or m) (r.shortest [] r.front refl t)))

falls_number : (F : List Sample → ℕ → Bool) (m : ℕ) (T : List Numbered) (k n : ℕ) → FallsFrom m F T k n → number_on m F T k ≡ Some n
falls_number F m [] k n r = elim (cases_Bool (F [] k)) [ inl t ↦ first_number F m [] k n t r | inr f ↦ absurd (none_falls F m k n f r) ]
falls_number F m (x ∷ xs) k n r = elim (cases_Bool (F [] k)) [
  | inl t ↦ first_number F m (x ∷ xs) k n t r
  | inr f ↦ by_false F m k x xs f ∙ falls_number (on F x) x.number xs k n (sooner F m x xs k n f r)
]

none_stands : (F : List Sample → ℕ → Bool) (m : ℕ) (T : List Numbered) (k : ℕ) → number_on m F T k ≡ None → F (bare T) k ≡ false
none_stands F m [] k e = elim (cases_Bool (F [] k)) [ inl t ↦ absurd (not_both _ m (by_true F m k [] t) e) | inr f ↦ f ]
none_stands F m (x ∷ xs) k e = elim (cases_Bool (F [] k)) [
  | inl t ↦ absurd (not_both _ m (by_true F m k (x ∷ xs) t) e)
  | inr f ↦ none_stands (on F x) x.number xs k (sym (by_false F m k x xs f) ∙ e)
]

stands_none : (F : List Sample → ℕ → Bool) → Lasting F → (m : ℕ) (T : List Numbered) (k : ℕ) → F (bare T) k ≡ false → number_on m F T k ≡ None
stands_none F L m [] k e = by_none F m k e
stands_none F L m (x ∷ xs) k e = elim (cases_Bool (F [] k)) [
  | inl t ↦ absurd (both_ways (F (bare (x ∷ xs)) k) e (L [] (bare (x ∷ xs)) k t))
  | inr f ↦ by_false F m k x xs f ∙ stands_none (on F x) (λ l h j. L (x.sample ∷ l) h j) x.number xs k e
]

pub numbers_right : NumbersRight
numbers_right F L T k = record {
  falls = number_falls F 0 T k;
  number = falls_number F 0 T k;
  stands = none_stands F 0 T k;
  safe = stands_none F L 0 T k;
}
