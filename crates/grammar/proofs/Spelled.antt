-- Words and what they spell: numbers, keywords, signals.
use Rattle.std.proofs.Common.{◌≡◌, ℕ, ◌+◌, ◌-◌, ◌%◌, ◌^◌, ◌<◌, ◌≤◌, Bool, true, false, cond, not, ◌&&◌, eqb, ltb, leb, List, [], ◌∷◌, length, get_or, Some, None, Ok, Err, decimal, Option, Result, sym, refl, ap, ◌∙◌, subst, ⊎_elim, mod-lt, mod-eq_of_lt, arith, lit<}
use Rattle.std.specs.Str.Parse.{digits_value}
use Rattle.std.specs.Int.{IsInRange}
use Rattle.std.specs.Result.{result_eq}
use Rattle.std.specs.Str.{all_ascii_digits, bytes_eq}
use Rattle.std.proofs.lemmas.Bool.{cond-true, cond-false, and_parts, and_from, cases_Bool, le-leb, leb-true, ltb-true, eqb-true, lt-ltb, ne_eqb, not-true, not_from_false, and_left, and_right, le-ltb, eq-eqb, lt-leb, cases_lt}
use Rattle.std.proofs.lemmas.Slice.Eq.{bytes_eq-Decides, HasBytesAt, text_from_reads}
use Rattle.std.proofs.lemmas.Str.Parse.{IsNumeralModel, numerals_by_value, tells_all_ascii_digits, digit_at}
use Rattle.std.proofs.lemmas.Fmt.{decimal-digits_value, digits_decimal, digits_value-decimal, decimal_nonempty, first_decimal, decimal_digit, decimal_is_IsNumeral}
use Rattle.stream.specs.declared.letter.Letter.{Letter}
use Rattle.stream.specs.declared.signal.Signal.{Signal}
use Rattle.stream.specs.Signals.{bare_signal, every_signal, negated_signal}
use Rattle.grammar.specs.declared.token.Keyword.{Keyword}
use Rattle.grammar.specs.declared.token.Keyword.TheVariants as K
use Rattle.grammar.specs.declared.number.Misread.{Misread}
use Rattle.grammar.specs.declared.number.Misread.TheVariants.{WrongForm, TooHigh}
use Rattle.grammar.specs.Numbers.{well_formed, reading_of, number_of}
use Rattle.grammar.specs.Tokens.{key_word, first_key, keywords, keyword_of, letter_of, bare_of, marked_of, signal_of}
use Rattle.grammar.specs.Grammar.{source_byte, signal_word}
use Rattle.stream.proofs.Same.{same_letter}

own : IsNumeralModel (λ ds. all_ascii_digits ds ≡ true) (digits_value 10)
own = numerals_by_value (λ ds. all_ascii_digits ds ≡ true) tells_all_ascii_digits

some_is : {X : Type 0} (b : Bool) (x y : X) → cond b (Some x) None ≡ Some y → (b ≡ true) × (x ≡ y)
some_is true x y e = (refl, cc)
some_is false x y e = let z : ◌≡◌ {A = ℕ} 0 1 = cc in absurd (omega arith)

-- a word that is read as a number is what the number is written as
pub number_spelled : (low high : ℕ) (w : List ℕ) (n : ℕ) → high ≤ 999999999 → number_of low high w ≡ Some n → (w ≡ decimal n) × (low ≤ n) × (n ≤ high)
number_spelled low high w n lim e =
    let (t, v) = some_is (well_formed w && (leb (digits_value 10 w) high && leb low (digits_value 10 w))) (digits_value 10 w) n e in
    let (form, range) = and_parts (well_formed w) (leb (digits_value 10 w) high && leb low (digits_value 10 w)) t in
    let (up, down) = and_parts (leb (digits_value 10 w) high) (leb low (digits_value 10 w)) range in
    let (some, rest) = and_parts (ltb 0 (length w)) (all_ascii_digits w && not (eqb (get_or w 0 0) 48 && ltb 1 (length w))) form in
    let (digits, lead) = and_parts (all_ascii_digits w) (not (eqb (get_or w 0 0) 48 && ltb 1 (length w))) rest in
    let u = leb-true (digits_value 10 w) high up in
    let d = leb-true low (digits_value 10 w) down in
    let s = ltb-true 0 (length w) some in
    let one : get_or w 0 0 ≡ 48 → length w ≡ 1 =
    λ z. ⊎_elim
    (λ (h : 1 < length w). let zz : ◌≡◌ {A = Bool} true false = sym (and_from _ _ (eq-eqb (get_or w 0 0) 48 z) (lt-ltb 1 (length w) h)) ∙ not-true _ lead in let o : ◌≡◌ {A = ℕ} 0 1 = cc in absurd (omega arith))
    (λ (h : length w ≤ 1). omega arith)
    (cases_lt 1 (length w)) in
    (sym (decimal-digits_value own w digits s one (omega arith)) ∙ ap decimal v, omega arith, omega arith)

pub decimal_is : (n : ℕ) → n ≤ 999999999 → digits_value 10 (decimal n) ≡ n
decimal_is n h = digits_value-decimal own n (omega arith)

pub number_reads : (low high n : ℕ) → high ≤ 999999999 → low ≤ n → n ≤ high → number_of low high (decimal n) ≡ Some n
number_reads low high n lim l h =
    let f : n < 2 ^ 64 = omega arith in
    let v = digits_value-decimal own n f in
    let digits = digits_decimal own n f in
    let s = decimal_nonempty n f in
    let lead : not (eqb (get_or (decimal n) 0 0) 48 && ltb 1 (length (decimal n))) ≡ true =
    ⊎_elim
    (λ (p : 0 < n). not_from_false _ (and_left _ _ (ne_eqb (get_or (decimal n) 0 0) 48 (λ (z : get_or (decimal n) 0 0 ≡ 48). omega (arith, first_decimal n p f)))))
    (λ (p : n ≤ 0). not_from_false _ (and_right _ _ (le-ltb 1 (length (decimal n)) (omega (arith, ap length (decimal_digit n (omega arith)))))))
    (cases_lt 0 n) in
    let form = and_from _ _ (lt-ltb 0 _ s) (and_from _ _ digits lead) in
    let range = and_from _ _ (le-leb (digits_value 10 (decimal n)) high (omega arith)) (le-leb low (digits_value 10 (decimal n)) (omega arith)) in
    cond-true _ _ _ (and_from _ _ form range) ∙ ap Some v

-- a word that begins with a digit
abbrev pub Digit : List ℕ → Type 0
Digit [] = ⊥
Digit (b ∷ bs) = (48 ≤ b) × (b ≤ 57)

first_is : (w : List ℕ) → 0 < length w → IsInRange 48 57 (get_or w 0 0) → Digit w
first_is [] s h = absurd (omega arith)
first_is (b ∷ bs) s h = h

pub decimal_digits : (n : ℕ) → n ≤ 999999999 → Digit (decimal n)
decimal_digits n h =
    let (some, all) = (decimal_is_IsNumeral n (omega arith)).0 in first_is (decimal n) some (digit_at (decimal n) 0 all some)

-- signals

same_letter_of : (b : ℕ) → 97 ≤ b → b ≤ 120 → 97 + (b - 97) % 24 ≡ b
same_letter_of b l h = let m : (b - 97) % 24 ≡ b - 97 = mod-eq_of_lt (omega arith) in omega arith

bare_spelled : (b : ℕ) (s : Signal) → bare_of b ≡ Some s → (b ≡ source_byte s.letter) × (s.negated ≡ false)
bare_spelled b s e =
    ⊎_elim
    (λ (t : eqb b 42 ≡ true).
    let r : Some every_signal ≡ Some s = sym (cond-true _ _ _ t) ∙ e in
    let is : every_signal ≡ s = cc in
    subst (λ z. (b ≡ source_byte z.letter) × (z.negated ≡ false)) is (eqb-true b 42 t, refl))
    (λ (t : eqb b 42 ≡ false).
    let rest : cond (leb 97 b && leb b 120) (Some (letter_of b)) None ≡ Some s = sym (cond-false _ _ _ t) ∙ e in
    let (both, is) = some_is (leb 97 b && leb b 120) (letter_of b) s rest in
    let (low, high) = and_parts (leb 97 b) (leb b 120) both in
    let l = leb-true 97 b low in
    let h = leb-true b 120 high in
    subst (λ z. (b ≡ source_byte z.letter) × (z.negated ≡ false)) is (sym (same_letter_of b l h), refl))
    (cases_Bool (eqb b 42))

marked_is : (o : Option Signal) (s : Signal) → marked_of o ≡ Some s → (p : Signal) × ((o ≡ Some p) × (negated_signal p ≡ s))
marked_is None s e = let z : ◌≡◌ {A = ℕ} 0 1 = cc in absurd (omega arith)
marked_is (Some p) s e = (p, (refl, cc))

marked_spelled : (b : ℕ) (s : Signal) → marked_of (bare_of b) ≡ Some s → (b ≡ source_byte s.letter) × (s.negated ≡ true)
marked_spelled b s e =
    let m = marked_is (bare_of b) s e in
    let h = bare_spelled b m.0 m.1.0 in
    subst (λ z. (b ≡ source_byte z.letter) × (z.negated ≡ true)) m.1.1 (h.0, ap not h.1)

-- a word that is read as a signal is what the signal is written as
pub signal_spelled : (w : List ℕ) (s : Signal) → signal_of w ≡ Some s → w ≡ signal_word s
signal_spelled [] s e = let z : ◌≡◌ {A = ℕ} 0 1 = cc in absurd (omega arith)
signal_spelled (b ∷ []) s e = let h = bare_spelled b s e in ap (λ x. x ∷ []) h.0 ∙ sym (cond-false _ _ _ h.1)
signal_spelled (n ∷ b ∷ []) s e =
    ⊎_elim
    (λ (t : eqb n 33 ≡ true).
    let h = marked_spelled b s (sym (cond-true _ _ _ t) ∙ e) in
    (λ i. eqb-true n 33 t i ∷ h.0 i ∷ []) ∙ sym (cond-true _ _ _ h.1))
    (λ (t : eqb n 33 ≡ false). let r : ◌≡◌ {A = Option Signal} None (Some s) = sym (cond-false _ _ _ t) ∙ e in let z : ◌≡◌ {A = ℕ} 0 1 = cc in absurd (omega arith))
    (cases_Bool (eqb n 33))
signal_spelled (n ∷ b ∷ c ∷ cs) s e = let z : ◌≡◌ {A = ℕ} 0 1 = cc in absurd (omega arith)

letter_reads : (l : Letter) → letter_of (97 + l.bit) ≡ bare_signal (Some l)
letter_reads l =
    let low = l.low in
    let back : (97 + l.bit - 97) % 24 ≡ l.bit = mod-eq_of_lt (omega arith) ∙ omega arith in
    λ i. bare_signal (Some (same_letter (record { bit = (97 + l.bit - 97) % 24; low = mod-lt (97 + l.bit - 97) (lit< tt) }) l back i))

bare_reads : (a : Option Letter) → bare_of (source_byte a) ≡ Some (bare_signal a)
bare_reads None = refl
bare_reads (Some l) =
    let low = l.low in
    cond-false _ _ _ (ne_eqb (97 + l.bit) 42 (λ z. omega arith)) ∙ cond-true _ _ _ (and_from _ _ (le-leb 97 (97 + l.bit) (omega arith)) (le-leb (97 + l.bit) 120 (omega arith))) ∙ ap Some (letter_reads l)

pub signal_reads : (s : Signal) → signal_of (signal_word s) ≡ Some s
signal_reads s =
    elim s.negated as (λ b. signal_of (cond b (33 ∷ source_byte s.letter ∷ []) (source_byte s.letter ∷ [])) ≡ Some (record { letter = s.letter; negated = b })) [ true ↦ ap marked_of (bare_reads s.letter) | false ↦ bare_reads s.letter ]

bare_digit : (b : ℕ) → 48 ≤ b → b ≤ 57 → bare_of b ≡ None
bare_digit b l h = cond-false _ _ _ (ne_eqb b 42 (λ z. omega arith)) ∙ cond-false _ _ _ (and_left _ _ (lt-leb 97 b (omega arith)))

pub signal_digit : (w : List ℕ) → Digit w → signal_of w ≡ None
signal_digit [] d = elim d [ ]
signal_digit (b ∷ []) (l, h) = bare_digit b l h
signal_digit (n ∷ b ∷ []) (l, h) = cond-false _ _ _ (ne_eqb n 33 (λ z. omega arith))
signal_digit (n ∷ b ∷ c ∷ cs) d = refl

-- keywords

word_digit : (k : ℕ) (ks w : List ℕ) → 57 < k → Digit w → bytes_eq w (k ∷ ks) ≡ false
word_digit k ks [] hk d = elim d [ ]
word_digit k ks (b ∷ bs) hk (l, h) = and_left _ _ (ne_eqb b k (λ z. omega arith))

key_differs : (k : Keyword) (w : List ℕ) → Digit w → bytes_eq w (key_word k) ≡ false
key_differs K.After w d = word_digit _ _ w (lit< tt) d
key_differs K.Never w d = word_digit _ _ w (lit< tt) d
key_differs K.From w d = word_digit _ _ w (lit< tt) d
key_differs K.Hold w d = word_digit _ _ w (lit< tt) d
key_differs K.Least w d = word_digit _ _ w (lit< tt) d
key_differs K.Under w d = word_digit _ _ w (lit< tt) d
key_differs K.Repeat w d = word_digit _ _ w (lit< tt) d
key_differs K.Within w d = word_digit _ _ w (lit< tt) d
key_differs K.Answer w d = word_digit _ _ w (lit< tt) d
key_differs K.By w d = word_digit _ _ w (lit< tt) d
key_differs K.Keep w d = word_digit _ _ w (lit< tt) d
key_differs K.For w d = word_digit _ _ w (lit< tt) d
key_differs K.Since w d = word_digit _ _ w (lit< tt) d
key_differs K.Or w d = word_digit _ _ w (lit< tt) d
key_differs K.Allow w d = word_digit _ _ w (lit< tt) d

first_digit : (ks : List Keyword) (w : List ℕ) → Digit w → first_key w ks ≡ None
first_digit [] w d = refl
first_digit (k ∷ ks) w d = cond-false _ _ _ (key_differs k w d) ∙ first_digit ks w d

pub key_digit : (w : List ℕ) → Digit w → keyword_of w ≡ None
unfolding keyword_of
key_digit w d = first_digit keywords w d

pub key_is : (w : List ℕ) → first_key w keywords ≡ keyword_of w
unfolding keyword_of
key_is w = refl

first_spelled : (ks : List Keyword) (w : List ℕ) (k : Keyword) → first_key w ks ≡ Some k → w ≡ key_word k
first_spelled [] w k e = let z : ◌≡◌ {A = ℕ} 0 1 = cc in absurd (omega arith)
first_spelled (j ∷ ks) w k e =
    ⊎_elim
    (λ (t : bytes_eq w (key_word j) ≡ true).
    let r : ◌≡◌ {A = Option Keyword} (Some j) (Some k) = sym (cond-true _ _ _ t) ∙ e in
    let is : j ≡ k = cc in
    (bytes_eq-Decides w (key_word j)).0 t ∙ ap key_word is)
    (λ (t : bytes_eq w (key_word j) ≡ false). first_spelled ks w k (sym (cond-false _ _ _ t) ∙ e))
    (cases_Bool (bytes_eq w (key_word j)))

-- a word that is read as a keyword is what the keyword is written as
pub key_spelled : (w : List ℕ) (k : Keyword) → keyword_of w ≡ Some k → w ≡ key_word k
unfolding keyword_of
key_spelled w k e = first_spelled keywords w k e

pub key_reads : (k : Keyword) → keyword_of (key_word k) ≡ Some k
unfolding keyword_of
key_reads K.After = refl
key_reads K.Never = refl
key_reads K.From = refl
key_reads K.Hold = refl
key_reads K.Least = refl
key_reads K.Under = refl
key_reads K.Repeat = refl
key_reads K.Within = refl
key_reads K.Answer = refl
key_reads K.By = refl
key_reads K.Keep = refl
key_reads K.For = refl
key_reads K.Since = refl
key_reads K.Or = refl
key_reads K.Allow = refl

-- a word of a keyword's length and bytes is found to be it
pub key_found : (w : List ℕ) (k : Keyword) → length w ≡ length (key_word k) → HasBytesAt w 0 (key_word k) → Some k ≡ first_key w keywords
key_found w k long bytes = sym (ap (λ u. first_key u keywords) (text_from_reads w (key_word k) long bytes) ∙ key_is (key_word k) ∙ key_reads k)

-- no keyword is a signal or a number

key_signal : (k : Keyword) → signal_of (key_word k) ≡ None
key_signal K.After = refl
key_signal K.Never = refl
key_signal K.From = refl
key_signal K.Hold = refl
key_signal K.Least = refl
key_signal K.Under = refl
key_signal K.Repeat = refl
key_signal K.Within = refl
key_signal K.Answer = refl
key_signal K.By = refl
key_signal K.Keep = refl
key_signal K.For = refl
key_signal K.Since = refl
key_signal K.Or = refl
key_signal K.Allow = refl

pub no_signal : (w : List ℕ) (k : Keyword) → keyword_of w ≡ Some k → signal_of w ≡ None
no_signal w k e = ap signal_of (key_spelled w k e) ∙ key_signal k

numeral_ne : (same : Misread → Misread → Bool) → same TooHigh WrongForm ≡ false → same WrongForm WrongForm ≡ true → (b c : Bool) (v : ℕ) → not (result_eq eqb same (cond b (cond c (Ok v) (Err TooHigh)) (Err WrongForm)) (Err WrongForm)) ≡ b
numeral_ne same other self true true v = refl
numeral_ne same other self true false v = ap not other
numeral_ne same other self false c v = ap not self

-- a well-formed number begins with a digit
pub formed_digit : (w : List ℕ) → well_formed w ≡ true → Digit w
formed_digit [] e = let z : ◌≡◌ {A = ℕ} 0 1 = cc in absurd (omega arith)
formed_digit (b ∷ bs) e =
    let (some, rest) = and_parts (ltb 0 (length (b ∷ bs))) (all_ascii_digits (b ∷ bs) && not (eqb b 48 && ltb 1 (length (b ∷ bs)))) e in
    let (digits, lead) = and_parts (all_ascii_digits (b ∷ bs)) (not (eqb b 48 && ltb 1 (length (b ∷ bs)))) rest in
    (tells_all_ascii_digits.parts b bs digits).0

-- whether a word is well formed, where a test tells the two errors apart
pub formed_is : (same : Misread → Misread → Bool) → same TooHigh WrongForm ≡ false → same WrongForm WrongForm ≡ true → (limit : ℕ) (w : List ℕ) (r : Result ℕ Misread) (t : Bool) → r ≡ reading_of limit w → t ≡ not (result_eq eqb same r (Err WrongForm)) → well_formed w ≡ t
formed_is same other self limit w r t is e =
    sym (numeral_ne same other self (well_formed w) (leb (digits_value 10 w) limit) (digits_value 10 w)) ∙ ap (λ x. not (result_eq eqb same x (Err WrongForm))) (sym is) ∙ sym e
