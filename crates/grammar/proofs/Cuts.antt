-- Where a line is cut into words, no byte is lost.
use Rattle.std.proofs.Common.{◌≡◌, ℕ, suc, ◌+◌, ◌-◌, ◌<◌, ◌≤◌, min, true, false, cond, eqb, List, [], ◌∷◌, ◌++◌, length, take, drop, sym, refl, ap, ◌∙◌, ⊎_elim, arith, length-drop, take_all}
use Rattle.std.specs.List.{position, position_or_len, onto_first}
use Rattle.std.specs.Option.{unwrap_or}
use Rattle.std.proofs.lemmas.List.{take_rest, drop-drop}
use Rattle.std.proofs.lemmas.List.Splits.{join_with_byte-slice_split}
use Rattle.std.proofs.lemmas.List.Recursion.{is_position_or_len}
use Rattle.std.proofs.lemmas.Bool.{cond-true, cond-false, le-leb, lt-leb, lt-ltb, le-ltb, cases_lt, cases_Bool, eqb-true}
use Rattle.grammar.specs.Words.{up_to, words_of, unwords, left}

-- the cut at the first c is a front of the list
pub take_up_to : (c : ℕ) (xs : List ℕ) → take (length (up_to c xs)) xs ≡ up_to c xs
take_up_to c [] = refl
take_up_to c (x ∷ xs) = elim (eqb x c) as (λ b. take (length (cond b [] (x ∷ up_to c xs))) (x ∷ xs) ≡ cond b [] (x ∷ up_to c xs)) [ true ↦ refl | false ↦ ap (λ l. x ∷ l) (take_up_to c xs) ]

pub up_to_le : (c : ℕ) (xs : List ℕ) → length (up_to c xs) ≤ length xs
up_to_le c [] = omega arith
up_to_le c (x ∷ xs) = let h = up_to_le c xs in elim (eqb x c) as (λ b. length (cond b [] (x ∷ up_to c xs)) ≤ suc (length xs)) [ true ↦ omega arith | false ↦ omega arith ]

-- the cut is the same when made again, and a byte 0x0A follows it where it is not the end
pub up_to_idem : (c : ℕ) (xs : List ℕ) → up_to c (up_to c xs) ≡ up_to c xs
up_to_idem c [] = refl
up_to_idem c (x ∷ xs) =
    ⊎_elim
    (λ (t : eqb x c ≡ true). ap (up_to c) (cond-true _ _ _ t) ∙ sym (cond-true _ _ _ t))
    (λ (t : eqb x c ≡ false). ap (up_to c) (cond-false _ _ _ t) ∙ cond-false _ _ _ t ∙ ap (λ l. x ∷ l) (up_to_idem c xs) ∙ sym (cond-false _ _ _ t))
    (cases_Bool (eqb x c))

pub up_to_split : (c : ℕ) (xs : List ℕ) → length (up_to c xs) < length xs → xs ≡ up_to c xs ++ (c ∷ drop (length (up_to c xs) + 1) xs)
up_to_split c [] h = absurd (omega arith)
up_to_split c (x ∷ xs) h =
    ⊎_elim
    (λ (t : eqb x c ≡ true). (λ i. eqb-true x c t i ∷ xs) ∙ ap (λ l. l ++ (c ∷ drop (length l + 1) (x ∷ xs))) (sym (cond-true _ _ _ t)))
    (λ (t : eqb x c ≡ false).
    let same : up_to c (x ∷ xs) ≡ x ∷ up_to c xs = cond-false _ _ _ t in
    let n : suc (length (up_to c xs)) + 1 ≡ suc (length (up_to c xs) + 1) = omega arith in
    ap (λ l. x ∷ l) (up_to_split c xs (omega (arith, ap length same))) ∙ ap (λ k. x ∷ (up_to c xs ++ (c ∷ drop k (x ∷ xs)))) (sym n) ∙ ap (λ l. l ++ (c ∷ drop (length l + 1) (x ∷ xs))) (sym same))
    (cases_Bool (eqb x c))

pub cut_whole : (c : ℕ) (xs : List ℕ) → length xs ≤ length (up_to c xs) → up_to c xs ≡ xs
cut_whole c xs h = sym (take_up_to c xs) ∙ take_all (length (up_to c xs)) xs h

-- a list is cut at the first c where that is none of its end
pub cut_at : (c : ℕ) (xs rest : List ℕ) (len : ℕ) → len ≡ length (up_to c xs) → len + 1 ≤ length xs → rest ≡ take (length xs - (len + 1)) (drop (len + 1) xs) → (take len xs ≡ up_to c xs) × (xs ≡ take len xs ++ (c ∷ rest))
cut_at c xs rest len long inside is =
    let front : take len xs ≡ up_to c xs = ap (λ k. take k xs) long ∙ take_up_to c xs in
    let back : drop (length (up_to c xs) + 1) xs ≡ rest = ap (λ k. drop (k + 1) xs) (sym long) ∙ sym (take_rest xs (len + 1)) ∙ sym is in
    (front, up_to_split c xs (omega arith) ∙ (λ i. sym front i ++ (c ∷ back i)))

-- the cut at the first c ends at its place, or is all
place_is : (c : ℕ) (xs : List ℕ) → length (up_to c xs) ≡ position_or_len (λ b. eqb b c) xs
place_is c xs = is_position_or_len (λ l. length (up_to c l)) (λ b. eqb b c) refl (λ b l. elim (eqb b c) as (λ t. length (cond t [] (b ∷ up_to c l)) ≡ cond t 0 (1 + length (up_to c l))) [ true ↦ refl | false ↦ omega arith ]) xs

pub length-up_to : (c : ℕ) (xs : List ℕ) → unwrap_or (position (λ b. eqb b c) xs) (length xs) ≡ length (up_to c xs)
length-up_to c xs =
    let place = place_is c xs in
    let short = up_to_le c xs in
    ⊎_elim
    (λ (h : position_or_len (λ b. eqb b c) xs < length xs). ap (λ o. unwrap_or o (length xs)) (cond-true _ _ _ (lt-ltb _ _ h)) ∙ sym place)
    (λ (h : length xs ≤ position_or_len (λ b. eqb b c) xs). ap (λ o. unwrap_or o (length xs)) (cond-false _ _ _ (le-ltb _ _ h)) ∙ (omega arith))
    (cases_lt (position_or_len (λ b. eqb b c) xs) (length xs))

pub left_in : (xs : List ℕ) (n : ℕ) → n ≤ length xs → left xs n ≡ words_of (drop n xs)
left_in xs n h = cond-true _ _ _ (le-leb n (length xs) h)

left_out : (xs : List ℕ) (n : ℕ) → length xs < n → left xs n ≡ []
left_out xs n h = cond-false _ _ _ (lt-leb n (length xs) h)

left_cons : (x : ℕ) (xs : List ℕ) (n : ℕ) → left (x ∷ xs) (suc n) ≡ left xs n
left_cons x xs n =
    ⊎_elim
    (λ h. left_out (x ∷ xs) (suc n) (omega arith) ∙ sym (left_out xs n h))
    (λ h. left_in (x ∷ xs) (suc n) (omega arith) ∙ sym (left_in xs n h))
    (cases_lt (length xs) n)

left_drop : (xs : List ℕ) (at n : ℕ) → at ≤ length xs → left (drop at xs) n ≡ left xs (at + n)
left_drop xs at n h =
    let less = length-drop at xs in
    ⊎_elim
    (λ (l : length xs < at + n). left_out (drop at xs) n (omega arith) ∙ sym (left_out xs (at + n) (omega arith)))
    (λ (l : at + n ≤ length xs). left_in (drop at xs) n (omega arith) ∙ ap words_of (drop-drop n at xs) ∙ sym (left_in xs (at + n) (omega arith)))
    (cases_lt (length xs) (at + n))

-- the first word, and what follows
words_step : (xs : List ℕ) → words_of xs ≡ up_to 32 xs ∷ left xs (length (up_to 32 xs) + 1)
words_step [] = refl
words_step (x ∷ xs) =
    let k = length (up_to 32 xs) + 1 in
    let e : suc (length (up_to 32 xs)) + 1 ≡ suc k = omega arith in
    elim (eqb x 32) as (λ b. cond b ([] ∷ words_of xs) (onto_first x (words_of xs)) ≡ cond b [] (x ∷ up_to 32 xs) ∷ left (x ∷ xs) (length (cond b [] (x ∷ up_to 32 xs)) + 1)) [
      | true ↦ ap (λ l. [] ∷ l) (sym (left_cons x xs 0 ∙ left_in xs 0 (omega arith)))
      | false ↦ ap (onto_first x) (words_step xs) ∙ ap (λ l. (x ∷ up_to 32 xs) ∷ l) (sym (ap (left (x ∷ xs)) e ∙ left_cons x xs k))
    ]

pub peek_word : (line rest : List ℕ) (at n : ℕ) → at ≤ length line → rest ≡ take (length line - at) (drop at line) → n ≡ length (up_to 32 rest) → (left line at ≡ take n rest ∷ left line (at + length (take n rest) + 1)) × (at + length (take n rest) ≤ length line)
peek_word line rest at n h is e =
    let same : take n rest ≡ up_to 32 (drop at line) = ap (λ k. take k rest) e ∙ take_up_to 32 rest ∙ ap (up_to 32) (is ∙ take_rest line at) in
    let short = up_to_le 32 (drop at line) in
    let less = length-drop at line in
    let w = take n rest in
    let sum : at + (length w + 1) ≡ at + length w + 1 = omega arith in
    (left_in line at h ∙ words_step (drop at line) ∙ ap (λ u. u ∷ left (drop at line) (length u + 1)) (sym same) ∙ ap (λ l. w ∷ l) (left_drop line at (length w + 1) h ∙ ap (left line) sum), omega (arith, ap length same))

-- how many bytes are left from a place on
pub place_left : (line : List ℕ) (at : ℕ) → length (unwords (left line at)) ≡ length line - min at (length line)
place_left line at =
    let less = length-drop at line in
    ⊎_elim
    (λ (l : length line < at). ap (λ ws. length (unwords ws)) (left_out line at l) ∙ omega arith)
    (λ (l : at ≤ length line). ap (λ ws. length (unwords ws)) (left_in line at l) ∙ ap length (join_with_byte-slice_split 32 (drop at line)) ∙ omega arith)
    (cases_lt (length line) at)
