-- The letters of a row, letter by letter.
use Rattle.std.proofs.Common.{◌≡◌, ℕ, zero, suc, ◌+◌, ◌-◌, ◌*◌, ◌/◌, ◌%◌, ◌^◌, ◌<◌, ◌≤◌, ◌⊎◌, List, [], ◌∷◌, ◌++◌, length, get_or, take, sym, refl, ap, ◌∙◌, subst, inl, inr, ⊎_elim, mul_assoc, add-mul, pow-suc, mul-add, pow_mono, append_assoc, append-nil, length-append, arith}
use Rattle.std.proofs.lemmas.List.{take_more, take_all}
use Rattle.std.proofs.lemmas.Bool.{eq-eqb, ne_eqb, cases_eq}
use Rattle.std.proofs.Math.Nat.{div-div-eq-div-mul}
use Rattle.rows.specs.Rows.{letters_in, letters_text, Begins, NoneReads, Below}
use Rattle.rows.proofs.Slips.{stopped, next_byte}

pub odd_or_even : (n : ℕ) → (n % 2 ≡ 1) ⊎ (n % 2 ≡ 0)
odd_or_even n = ⊎_elim (λ e. inl e) (λ ne. inr (omega arith)) (cases_eq (n % 2) 1)

module _ (n letter bits : ℕ) where
  pub letter_set : bits % 2 ≡ 1 → letters_in (suc n) letter bits ≡ letter ∷ letters_in n (letter + 1) (bits / 2)
  unfolding letters_in
  letter_set e = rw (eq-eqb (bits % 2) 1 e)

  pub letter_clear : bits % 2 ≡ 0 → letters_in (suc n) letter bits ≡ letters_in n (letter + 1) (bits / 2)
  unfolding letters_in
  letter_clear e = rw (ne_eqb (bits % 2) 1 (omega arith))

pub no_letters : (letter bits : ℕ) → letters_in 0 letter bits ≡ []
unfolding letters_in
no_letters letter bits = refl

pub nil_cons : {b : ℕ} {bs : List ℕ} → [] ≡ b ∷ bs → ⊥
nil_cons e = let z : ◌≡◌ {A = ℕ} 0 1 = cc in omega arith

-- each letter is one of the n
pub first_letter : (n letter bits b : ℕ) (rest : List ℕ) → letters_in n letter bits ≡ b ∷ rest → (letter ≤ b) × (b < letter + n)
first_letter zero letter bits b rest e = absurd (nil_cons (sym (no_letters letter bits) ∙ e))
first_letter (suc n) letter bits b rest e =
    ⊎_elim
    (λ odd. let same : letter ≡ b = cc (letter_set n letter bits odd) in (omega arith, omega arith))
    (λ even. let later = first_letter n (letter + 1) (bits / 2) b rest (sym (letter_clear n letter bits even) ∙ e) in (omega (arith, later.0), omega (arith, later.1)))
    (odd_or_even bits)

pub no_bits : (n letter : ℕ) → letters_in n letter 0 ≡ []
unfolding letters_in
no_bits zero letter = refl
no_bits (suc n) letter = no_bits n (letter + 1)

-- letters tell their bits
unlike : (n letter a b : ℕ) → a % 2 ≡ 1 → b % 2 ≡ 0 → letters_in (suc n) letter a ≡ letters_in (suc n) letter b → ⊥
unlike n letter a b odd even e =
    let late = first_letter n (letter + 1) (b / 2) letter (letters_in n (letter + 1) (a / 2)) (sym (letter_clear n letter b even) ∙ sym e ∙ letter_set n letter a odd) in
    omega (arith, late.0)

pub letters_tell : (n letter a b : ℕ) → a < 2 ^ n → b < 2 ^ n → letters_in n letter a ≡ letters_in n letter b → a ≡ b
letters_tell zero letter a b la lb e = omega arith
letters_tell (suc n) letter a b la lb e =
    let twice = pow-suc 2 n in
    let halves : letters_in n (letter + 1) (a / 2) ≡ letters_in n (letter + 1) (b / 2) → a / 2 ≡ b / 2 = letters_tell n (letter + 1) (a / 2) (b / 2) (omega arith) (omega arith) in
    ⊎_elim
    (λ odd. ⊎_elim
    (λ odd'. let rest : letters_in n (letter + 1) (a / 2) ≡ letters_in n (letter + 1) (b / 2) = cc (letter_set n letter a odd, letter_set n letter b odd') in omega (arith, halves rest))
    (λ even'. absurd (unlike n letter a b odd even' e))
    (odd_or_even b))
    (λ even. ⊎_elim
    (λ odd'. absurd (unlike n letter b a odd' even (sym e)))
    (λ even'. let rest = sym (letter_clear n letter a even) ∙ e ∙ letter_clear n letter b even' in omega (arith, halves rest))
    (odd_or_even b))
    (odd_or_even a)

-- the letters that are still to come, from a letter on
abbrev pub letters_from : ℕ → ℕ → List ℕ
letters_from letter bits = letters_in (121 - letter) letter bits

module _ (letter bits : ℕ) (h : letter < 121) where
  fewer : 121 - letter ≡ suc (121 - (letter + 1))
  fewer = omega arith

  pub from_set : bits % 2 ≡ 1 → letters_from letter bits ≡ letter ∷ letters_from (letter + 1) (bits / 2)
  from_set e = ap (λ (n : ℕ). letters_in n letter bits) fewer ∙ letter_set (121 - (letter + 1)) letter bits e

  pub from_clear : bits % 2 ≡ 0 → letters_from letter bits ≡ letters_from (letter + 1) (bits / 2)
  from_clear e = ap (λ (n : ℕ). letters_in n letter bits) fewer ∙ letter_clear (121 - (letter + 1)) letter bits e

-- what a letter's bit weighs
abbrev pub weight : ℕ → ℕ
weight letter = 2 ^ (letter - 97)

pub next_weight : (letter : ℕ) → 97 ≤ letter → weight (letter + 1) ≡ weight letter * 2
next_weight letter h = ap (λ (k : ℕ). 2 ^ k) (omega arith) ∙ pow-suc 2 (letter - 97)

-- the same of all bits
abbrev pub letters_after : ℕ → ℕ → List ℕ
letters_after letter bits = letters_from letter (bits / weight letter)

module _ (letter bits : ℕ) (l : 97 ≤ letter) (h : letter ≤ 120) where
  halved : bits / weight letter / 2 ≡ bits / weight (letter + 1)
  halved = div-div-eq-div-mul bits (weight letter) 2 ∙ ap (λ (p : ℕ). bits / p) (sym (next_weight letter l))

  pub after_set : bits / 2 ^ (letter - 97) % 2 ≡ 1 → letters_after letter bits ≡ letter ∷ letters_after (letter + 1) bits
  after_set e = from_set letter (bits / weight letter) (omega arith) e ∙ ap (λ (q : ℕ). letter ∷ letters_from (letter + 1) q) halved

  pub after_clear : bits / 2 ^ (letter - 97) % 2 ≡ 0 → letters_after letter bits ≡ letters_after (letter + 1) bits
  after_clear e = from_clear letter (bits / weight letter) (omega arith) e ∙ ap (letters_from (letter + 1)) halved

-- the bits from a letter on, where that of the letter joins those below
weigh_set : (m q p w : ℕ) → w ≡ p * 2 → m + (2 * q + 1) * p ≡ m + p + q * w
weigh_set m q p w e = omega (arith, add-mul (2 * q) 1 p, mul_assoc 2 q p, mul-add q p p, ap (λ (k : ℕ). q * k) e)

weigh_clear : (m q p w : ℕ) → w ≡ p * 2 → m + (2 * q) * p ≡ m + q * w
weigh_clear m q p w e = omega (arith, mul_assoc 2 q p, mul-add q p p, ap (λ (k : ℕ). q * k) e)

-- bytes that are letters before `letter`, in order, by their bits
pub record Reads (front : List ℕ) (bits letter : ℕ) : Type 0 where
  pub low : bits < weight letter
  pub on : (more : ℕ) → letters_in 24 97 (bits + more * weight letter) ≡ front ++ letters_from letter more

pub reads_none : Reads [] 0 97
reads_none = record { low = omega arith; on = λ more. ap (letters_in 24 97) (omega arith) }

module _ (front : List ℕ) (bits letter : ℕ) (l : 97 ≤ letter) (h : letter < 121) (r : Reads front bits letter) where
  next : weight (letter + 1) ≡ weight letter * 2
  next = next_weight letter l

  takes_letter : Reads (front ++ (letter ∷ [])) (bits + weight letter) (letter + 1)
  takes_letter = record {
    low = omega (arith, next, r.low);
    on = λ more.
        let odd : (2 * more + 1) % 2 ≡ 1 = omega arith in
        let half : (2 * more + 1) / 2 ≡ more = omega arith in
        ap (letters_in 24 97) (sym (weigh_set bits more (weight letter) _ next))
        ∙ r.on (2 * more + 1)
        ∙ ap (λ (t : List ℕ). front ++ t) (from_set letter (2 * more + 1) h odd ∙ ap (λ (q : ℕ). letter ∷ letters_from (letter + 1) q) half)
        ∙ sym (append_assoc front (letter ∷ []) (letters_from (letter + 1) more));
  }

  passes_letter : Reads front bits (letter + 1)
  passes_letter = record {
    low = omega (arith, next, r.low);
    on = λ more.
        let even : (2 * more) % 2 ≡ 0 = omega arith in
        let half : (2 * more) / 2 ≡ more = omega arith in
        ap (letters_in 24 97) (sym (weigh_clear bits more (weight letter) _ next))
        ∙ r.on (2 * more)
        ∙ ap (λ (t : List ℕ). front ++ t) (from_clear letter (2 * more) h even ∙ ap (letters_from (letter + 1)) half);
  }

-- the letters before the next one are passed, and it is taken
passes_to : (n : ℕ) (front : List ℕ) (bits letter c : ℕ) → letter + n ≡ c → 97 ≤ letter → c < 121 → Reads front bits letter → Reads front bits c
passes_to zero front bits letter c is l h r = subst (Reads front bits) (omega arith) r
passes_to (suc n) front bits letter c is l h r = passes_to n front bits (letter + 1) c (omega arith) (omega arith) h (passes_letter front bits letter l (omega arith) r)

pub reads_letter : (text : List ℕ) (bits at first : ℕ) → at < length text → 97 ≤ first → first ≤ get_or text at 0 → get_or text at 0 ≤ 120 → Reads (take at text) bits first
    → Reads (take (at + 1) text) (bits + weight (get_or text at 0)) (get_or text at 0 + 1)
reads_letter text bits at first h from order low r =
    let c = get_or text at 0 in
    subst (λ (front : List ℕ). Reads front (bits + weight c) (c + 1)) (sym (take_more text at 0 h))
    (takes_letter (take at text) bits c (omega arith) (omega arith) (passes_to (c - first) (take at text) bits first c (omega arith) from (omega arith) r))

-- they are the whole text, and letters begin so
pub reads_front : (front : List ℕ) (bits first : ℕ) → Reads front bits first → letters_in 24 97 bits ≡ front ++ []
reads_front front bits first r = ap (letters_in 24 97) (omega arith) ∙ r.on 0 ∙ ap (λ (t : List ℕ). front ++ t) (no_bits (121 - first) first)

pub reads_all : (text : List ℕ) (bits at first : ℕ) → length text ≤ at → Reads (take at text) bits first → text ≡ letters_in 24 97 bits
reads_all text bits at first end r = sym (reads_front (take at text) bits first r ∙ append-nil (take at text) ∙ take_all at text end)

-- behind a letter comes a later one
later : (n letter bits : ℕ) (front : List ℕ) (c b : ℕ) (rest : List ℕ) → letters_in n letter bits ≡ front ++ (c ∷ (b ∷ rest)) → (c < b) × (b < letter + n)
later zero letter bits front c b rest e = absurd (omega (arith, ap length (sym (no_letters letter bits) ∙ e), length-append front (c ∷ (b ∷ rest))))
later (suc n) letter bits [] c b rest e =
    ⊎_elim
    (λ odd.
    let same : letter ≡ c = cc (letter_set n letter bits odd) in
    let tail : letters_in n (letter + 1) (bits / 2) ≡ b ∷ rest = cc (letter_set n letter bits odd) in
    let is = first_letter n (letter + 1) (bits / 2) b rest tail in
    (omega (arith, is.0), omega (arith, is.1)))
    (λ even. let is = later n (letter + 1) (bits / 2) [] c b rest (sym (letter_clear n letter bits even) ∙ e) in (is.0, omega (arith, is.1)))
    (odd_or_even bits)
later (suc n) letter bits (x ∷ front) c b rest e =
    ⊎_elim
    (λ odd.
    let tail : letters_in n (letter + 1) (bits / 2) ≡ front ++ (c ∷ (b ∷ rest)) = cc (letter_set n letter bits odd) in
    let is = later n (letter + 1) (bits / 2) front c b rest tail in
    (is.0, omega (arith, is.1)))
    (λ even. let is = later n (letter + 1) (bits / 2) (x ∷ front) c b rest (sym (letter_clear n letter bits even) ∙ e) in (is.0, omega (arith, is.1)))
    (odd_or_even bits)

-- of what can come behind these bytes, `letter` is the first
abbrev pub GoesFrom : List ℕ → ℕ → Type 0
GoesFrom front letter = (ls b : ℕ) (rest : List ℕ) → letters_in 24 97 ls ≡ front ++ (b ∷ rest) → (letter ≤ b) × (b < 121)

pub goes_first : GoesFrom [] 97
goes_first ls b rest e = first_letter 24 97 ls b rest e

pub goes_on : (text : List ℕ) (at : ℕ) → at < length text → GoesFrom (take (at + 1) text) (get_or text at 0 + 1)
goes_on text at h ls b rest e =
    let c = get_or text at 0 in
    let is = later 24 97 ls (take at text) c b rest (e ∙ ap (λ (l : List ℕ). l ++ (b ∷ rest)) (take_more text at 0 h) ∙ append_assoc (take at text) (c ∷ []) (b ∷ rest)) in
    (omega (arith, is.0), omega (arith, is.1))

abbrev pub Letters : Type 0
Letters = Below (2 ^ 24)

-- the letters alone, and with `-` where there is none
abbrev pub some_letters : Letters → List ℕ
some_letters ls = letters_in 24 97 ls.0

abbrev pub any_letters : Letters → List ℕ
any_letters ls = letters_text ls.0

pub letters_begin : (front : List ℕ) (bits first : ℕ) → first ≤ 121 → Reads front bits first → Begins some_letters front
letters_begin front bits first upto r =
    let low : first - 97 ≤ 24 = omega arith in
    let most : weight first ≤ 2 ^ 24 = pow_mono low in
    record { value = (bits, omega (arith, r.low)); rest = []; is = reads_front front bits first r }

-- a byte that is no later letter
pub no_letter : (text : List ℕ) (bits at first : ℕ) → at < length text → (get_or text at 0 < first) ⊎ (120 < get_or text at 0) → first ≤ 121 → Reads (take at text) bits first → GoesFrom (take at text) first
    → NoneReads some_letters text at
no_letter text bits at first h other upto r goes = stopped some_letters text at h (letters_begin (take at text) bits first upto r)
    (λ b.
    let within = goes b.value.0 (get_or text at 0) b.rest (next_byte some_letters text at h b) in
    ⊎_elim (λ low. omega (arith, within.0)) (λ high. omega (arith, within.1)) other)
