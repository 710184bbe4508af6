-- What a turn of `line_of` keeps.
use Rattle.std.proofs.Common.{◌≡◌, ℕ, ◌+◌, ◌-◌, ◌<◌, ◌≤◌, true, false, cond, eqb, ◌⊎◌, List, [], ◌∷◌, ◌++◌, length, get_or, take, drop, sym, refl, ap, ◌∙◌, inl, inr, ⊎_elim, append_assoc, arith, length-append}
use Rattle.std.proofs.Math.Seq.{take-append_seam, drop-append_seam}
use Rattle.std.proofs.lemmas.List.{get_or_push, get_or-append-add, get_or_append_left, get_or_at}
use Rattle.std.proofs.lemmas.List.Sums.{sum_by-append}
use Rattle.std.proofs.lemmas.Bool.{cond-true, cond-false, cases_Bool, cases_lt, eqb-false}
use Rattle.std.proofs.lemmas.Bool.Decides.{nat_tests}
use Rattle.grammar.specs.Words.{up_to, line_ends}
use Rattle.grammar.specs.Seats.{LineAt}
use Rattle.grammar.proofs.Cuts.{up_to_idem}

ends_append : (xs ys : List ℕ) → line_ends (xs ++ ys) ≡ line_ends xs + line_ends ys
ends_append xs ys = sum_by-append (λ b. cond (eqb b 10) 1 0) xs ys

no_end : (b : ℕ) → (b ≡ 10 → ⊥) → line_ends (b ∷ []) ≡ 0
no_end b e = grind (arith, nat_tests)

-- where the cut is all, no line ends
no_ends : (xs : List ℕ) → up_to 10 xs ≡ xs → line_ends xs ≡ 0
no_ends [] e = refl
no_ends (x ∷ xs) e =
    ⊎_elim
    (λ (t : eqb x 10 ≡ true). let s : ◌≡◌ {A = List ℕ} [] (x ∷ xs) = sym (cond-true _ _ _ t) ∙ e in let z : ◌≡◌ {A = ℕ} 0 1 = cc in absurd (omega arith))
    (λ (t : eqb x 10 ≡ false).
    let s : ◌≡◌ {A = List ℕ} (x ∷ up_to 10 xs) (x ∷ xs) = sym (cond-false _ _ _ t) ∙ e in
    let r : up_to 10 xs ≡ xs = cc in
    omega (arith, ends_append (x ∷ []) xs, no_end x (eqb-false x 10 t), no_ends xs r))
    (cases_Bool (eqb x 10))

-- what is left of a text begins with the line of a seat, if that is ended
pub record Walk (text rest : List ℕ) (seat : ℕ) : Type 0 where
  pub front : List ℕ
  pub split : text ≡ front ++ rest
  pub before : line_ends front + 1 ≡ seat
  pub begins : (length front ≡ 0) ⊎ (get_or front (length front - 1) 0 ≡ 10)

pub walk_end : (text rest : List ℕ) (k seat : ℕ) → Walk text rest k → k ≤ seat → up_to 10 rest ≡ rest → line_ends text < seat
walk_end text rest k seat w h whole = let b = w.before in omega (arith, ap line_ends w.split ∙ ends_append w.front rest, no_ends rest whole)

module _ (text rest : List ℕ) (seat : ℕ) (w : Walk text rest seat) (line after : List ℕ) (cut : line ≡ up_to 10 rest) (rest_is : rest ≡ line ++ (10 ∷ after)) where
  none : line_ends line ≡ 0
  none = no_ends line (ap (up_to 10) cut ∙ up_to_idem 10 rest ∙ sym cut)

  whole : text ≡ w.front ++ (line ++ (10 ∷ after))
  whole = w.split ∙ ap (λ r. w.front ++ r) rest_is

  pub walk_next : Walk text after (seat + 1)
  walk_next =
      let b = w.before in
      let n = none in
      let long = length-append (w.front ++ line) (10 ∷ []) in
      record {
        front = (w.front ++ line) ++ (10 ∷ []);
        split = whole ∙ sym (append_assoc w.front line (10 ∷ after)) ∙ sym (append_assoc (w.front ++ line) (10 ∷ []) after);
        before = (let e : line_ends (10 ∷ []) ≡ 1 = refl in omega (arith, ends_append (w.front ++ line) (10 ∷ []), ends_append w.front line));
        begins = inr (get_or_push (w.front ++ line) 10 0 _ (omega arith));
      }

  pub walk_line : LineAt text seat line
  walk_line =
      let long = ap length whole ∙ length-append w.front (line ++ (10 ∷ after)) in
      let part = length-append line (10 ∷ after) in
      record {
        start = length w.front;
        inside = omega arith;
        part = sym (ap (λ t. take (length line) (drop (length w.front) t)) whole ∙ ap (take (length line)) (drop-append_seam w.front (line ++ (10 ∷ after))) ∙ take-append_seam line (10 ∷ after));
        begins = ⊎_elim (λ z. inl z) (λ e. ⊎_elim (λ (h : 0 < length w.front). inr (ap (λ t. get_or t (length w.front - 1) 0) whole ∙ get_or_append_left w.front (line ++ (10 ∷ after)) 0 (length w.front - 1) (omega arith) ∙ e)) (λ (h : length w.front ≤ 0). inl (omega arith)) (cases_lt 0 (length w.front))) w.begins;
        before = ap (λ t. line_ends t + 1) (ap (take (length w.front)) whole ∙ take-append_seam w.front (line ++ (10 ∷ after))) ∙ w.before;
        none = none;
        ended = ap (λ t. get_or t (length w.front + length line) 0) whole ∙ get_or-append-add w.front (line ++ (10 ∷ after)) (length line) 0 ∙ get_or_at line 10 after 0 (length line) refl;
      }
