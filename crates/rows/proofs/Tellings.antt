-- A row tells its sample, and a text its list of samples.
use Rattle.std.proofs.Common.{◌≡◌, ℕ, zero, suc, ◌+◌, ◌-◌, ◌/◌, ◌^◌, ◌<◌, List, [], ◌∷◌, ◌++◌, length, decimal, sym, refl, ap, ◌∙◌, ⊎_elim, arith, length-append}
use Rattle.std.proofs.lemmas.Fmt.{decimal_injective}
use Rattle.std.proofs.lemmas.List.{append_assoc, get_or_append_left, get_or-append_right}
use Rattle.std.proofs.lemmas.Bool.{cases_eq, cases_lt}
use Rattle.stream.specs.declared.sample.Sample.{Sample}
use Rattle.stream.proofs.Same.{same_sample}
use Rattle.rows.specs.Rows.{letters_in, letters_text, row_text, text_of}
use Rattle.rows.specs.Traces.{TextsTell}
use Rattle.rows.proofs.Cuts.{Lacks, same_front, same_rest}
use Rattle.rows.proofs.Gaps.{digits_of}
use Rattle.rows.proofs.Letters.{odd_or_even, letter_set, letter_clear, no_letters, first_letter, letters_tell}
use Rattle.rows.proofs.Readings.{text_none, text_some, space_lacking}

no_dash : (b : ℕ) → (b ≡ 0 → ⊥) → 45 ∷ [] ≡ letters_text b → ⊥
no_dash b some e = omega (arith, (first_letter 24 97 b 45 [] (sym (e ∙ text_some b some))).0)

pub texts_tell : (a b : ℕ) → a < 2 ^ 24 → b < 2 ^ 24 → letters_text a ≡ letters_text b → a ≡ b
texts_tell a b la lb e =
    ⊎_elim
    (λ z. ⊎_elim (λ z'. z ∙ sym z') (λ some'. absurd (no_dash b some' (sym (text_none a z) ∙ e))) (cases_eq b 0))
    (λ some. ⊎_elim (λ z'. absurd (no_dash a some (sym (text_none b z') ∙ sym e))) (λ some'. letters_tell 24 97 a b la lb (sym (text_some a some) ∙ e ∙ text_some b some')) (cases_eq b 0))
    (cases_eq a 0)

pub row_tells : (s t : Sample) → row_text s ≡ row_text t → s ≡ t
row_tells s t e =
    let lack = space_lacking s.gap s.short in
    let lack' = space_lacking t.gap t.short in
    let gaps = same_front 32 (decimal s.gap) (letters_text s.letters) (decimal t.gap) (letters_text t.letters) lack lack' e in
    let letters = same_rest 32 (decimal s.gap) (letters_text s.letters) (decimal t.gap) (letters_text t.letters) lack lack' e in
    same_sample s t (decimal_injective s.gap t.gap (omega (arith, s.short)) (omega (arith, t.short)) gaps) (texts_tell s.letters t.letters s.low t.low letters)

-- no row has a line end in it
lacks_append : (sep : ℕ) (xs ys : List ℕ) → Lacks sep xs → Lacks sep ys → Lacks sep (xs ++ ys)
lacks_append sep xs ys lx ly k h e =
    ⊎_elim
    (λ low. lx k low (sym (get_or_append_left xs ys 0 k low) ∙ e))
    (λ high. ly (k - length xs) (omega (arith, length-append xs ys)) (sym (get_or-append_right xs ys (length xs) k 0 refl high) ∙ e))
    (cases_lt k (length xs))

lacks_one : (sep x : ℕ) → (x ≡ sep → ⊥) → Lacks sep (x ∷ [])
lacks_one sep x ne zero h e = ne e
lacks_one sep x ne (suc k) h e = omega arith

letters_lack : (n letter bits : ℕ) → 10 < letter → Lacks 10 (letters_in n letter bits)
letters_lack zero letter bits h = rw (no_letters letter bits) (λ k l e. omega arith)
letters_lack (suc n) letter bits h =
    let later = letters_lack n (letter + 1) (bits / 2) (omega arith) in
    ⊎_elim
    (λ odd. rw (letter_set n letter bits odd) (lacks_append 10 (letter ∷ []) _ (lacks_one 10 letter (λ e. omega arith)) later))
    (λ even. rw (letter_clear n letter bits even) later)
    (odd_or_even bits)

text_lacks : (bits : ℕ) → Lacks 10 (letters_text bits)
text_lacks bits =
    ⊎_elim
    (λ z. rw (text_none bits z) (lacks_one 10 45 (λ e. omega arith)))
    (λ some. rw (text_some bits some) (letters_lack 24 97 bits (omega arith)))
    (cases_eq bits 0)

row_lacks : (s : Sample) → Lacks 10 (row_text s)
row_lacks s =
    lacks_append 10 (decimal s.gap) (32 ∷ letters_text s.letters) (λ k l e. let d = digits_of s.gap s.short k l in omega arith)
    (lacks_append 10 (32 ∷ []) (letters_text s.letters) (lacks_one 10 32 (λ e. omega arith)) (text_lacks s.letters))

some_text : (s : Sample) (ss : List Sample) → [] ≡ text_of (s ∷ ss) → ⊥
some_text s ss e =
    omega (arith, ap length e, length-append (row_text s ++ (10 ∷ [])) (text_of ss), length-append (row_text s) (10 ∷ []))

pub text_tells : TextsTell
text_tells [] [] e = refl
text_tells [] (t ∷ ts) e = absurd (some_text t ts e)
text_tells (s ∷ ss) [] e = absurd (some_text s ss (sym e))
text_tells (s ∷ ss) (t ∷ ts) e =
    let cut = sym (append_assoc (row_text s) (10 ∷ []) (text_of ss)) ∙ e ∙ append_assoc (row_text t) (10 ∷ []) (text_of ts) in
    let lack = row_lacks s in
    let lack' = row_lacks t in
    let first : s ≡ t = row_tells s t (same_front 10 (row_text s) (text_of ss) (row_text t) (text_of ts) lack lack' cut) in
    let rest : ss ≡ ts = text_tells ss ts (same_rest 10 (row_text s) (text_of ss) (row_text t) (text_of ts) lack lack' cut) in
    (λ i. first i ∷ rest i)
