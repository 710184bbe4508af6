-- The parts of a line that is read.
use Rattle.std.proofs.Common.{◌≡◌, ℕ, ◌+◌, ◌*◌, ◌%◌, ◌^◌, ◌<◌, ◌≤◌, List, [], ◌∷◌, ◌++◌, length, get_or, take, drop, decimal, Ok, Err, Result, sym, refl, ap, ◌∙◌, ⊎_elim, arith, pow_mono, append_assoc, length-append, length-drop}
use Rattle.std.proofs.lemmas.Bool.{eq-eqb, ne_eqb, cases_eq, cases_lt}
use Rattle.std.proofs.lemmas.List.{nil_from_length, get_or_append_left, get_or_at, get_or-take, length-take-le, take-take, take-append-le, take-append-drop, take_at, take_more, drop_more}
use Rattle.std.proofs.Math.Seq.{take-append-add}
use Rattle.stream.specs.declared.sample.Sample.{Sample}
use Rattle.rows.specs.declared.slip.Slip.{Slip}
use Rattle.rows.specs.Rows.{letters_in, letters_text, row_text, Begins, NoneReads, ReadBelow}
use Rattle.rows.proofs.Gaps.{digits_of, gap_text}
use Rattle.rows.proofs.Letters.{some_letters, any_letters, first_letter, letters_tell, no_bits, no_letters, after_set, after_clear}
use Rattle.rows.proofs.Cuts.{Lacks, FirstAt, cut_front, cut_rest, cut_within, same_front, same_rest}
use Rattle.rows.proofs.Slips.{stopped, ended, next_byte}

-- a bit of 32, as the code shifts it
pub bit_small : (bit : ℕ) → bit < 24 → 2 ^ bit ≤ 2 ^ 24
bit_small bit h = let low : bit ≤ 24 = omega arith in pow_mono low

pub one_shifted : (bit : ℕ) → bit < 24 → 1 * 2 ^ bit % 2 ^ 32 ≡ 2 ^ bit
one_shifted bit h = omega (arith, bit_small bit h)

-- the letters, or `-`
pub text_none : (bits : ℕ) → bits ≡ 0 → letters_text bits ≡ 45 ∷ []
text_none bits z = rw (eq-eqb bits 0 z)

pub text_some : (bits : ℕ) → (bits ≡ 0 → ⊥) → letters_text bits ≡ letters_in 24 97 bits
text_some bits some = rw (ne_eqb bits 0 some)

module _ (text : List ℕ) (ls : ℕ) (low : ls < 2 ^ 24) (is : text ≡ letters_text ls) where
  -- a text has a byte, none follows `-`, and without it there is a letter
  not_none : length text ≡ 0 → ⊥
  not_none none = ⊎_elim
      (λ z. omega (arith, ap length (is ∙ text_none ls z)))
      (λ some. some (letters_tell 24 97 ls 0 low (omega arith) (sym (is ∙ text_some ls some) ∙ nil_from_length text none ∙ sym (no_bits 24 97))))
      (cases_eq ls 0)

  dash_ends : (rest : List ℕ) → text ≡ 45 ∷ rest → length rest ≡ 0
  dash_ends rest e = ⊎_elim
      (λ z. omega (arith, ap length (sym e ∙ is ∙ text_none ls z)))
      (λ some. absurd (omega (arith, (first_letter 24 97 ls 45 rest (sym (is ∙ text_some ls some) ∙ e)).0)))
      (cases_eq ls 0)

-- where a text is none
pub no_text : (text : List ℕ) → length text ≡ 0 → NoneReads any_letters text 0
no_text text none = ended any_letters text 0 (omega arith) (record { value = (0, omega arith); rest = 45 ∷ []; is = refl }) (λ ls is. not_none text ls.0 ls.1 is none)

pub behind_dash : (text rest : List ℕ) → text ≡ 45 ∷ rest → 0 < length rest → NoneReads any_letters text 1
behind_dash text rest e more = stopped any_letters text 1 (omega (arith, ap length e))
    (record { value = (0, omega arith); rest = []; is = ap (λ (l : List ℕ). take 1 l ++ []) (sym e) })
    (λ b.
    let is = next_byte any_letters text 1 (omega (arith, ap length e)) b ∙ ap (λ (l : List ℕ). take 1 l ++ (get_or text 1 0 ∷ b.rest)) e in
    let none = dash_ends (any_letters b.value) b.value.0 b.value.1 refl (get_or text 1 0 ∷ b.rest) is in omega arith)

-- what letters begin, a text begins
begins_text : (front : List ℕ) → Begins some_letters front → Begins any_letters front
begins_text front b = ⊎_elim
    (λ z.
    let none : front ≡ [] = nil_from_length front (omega (arith, ap length (sym b.is ∙ ap (letters_in 24 97) z ∙ no_bits 24 97), length-append front b.rest)) in
    record { value = (0, omega arith); rest = 45 ∷ []; is = ap (λ (l : List ℕ). l ++ (45 ∷ [])) (sym none) })
    (λ some. record { value = b.value; rest = b.rest; is = text_some b.value.0 some ∙ b.is })
    (cases_eq b.value.0 0)

text_begins : (text : List ℕ) (c : ℕ) → c < length text → ((rest : List ℕ) → text ≡ 45 ∷ rest → ⊥) → Begins any_letters (take (c + 1) text) → Begins some_letters (take (c + 1) text)
text_begins text c h other b = ⊎_elim
    (λ z.
    let first : 45 ≡ get_or text 0 0 =
    ap (λ (l : List ℕ). get_or l 0 0) (sym (text_none b.value.0 z) ∙ b.is)
    ∙ get_or_append_left (take (c + 1) text) b.rest 0 0 (omega (arith, length-take-le (c + 1) text (omega arith)))
    ∙ get_or-take (c + 1) text 0 0 (omega arith) in
    absurd (other (drop 1 text) (drop_more text 0 0 (omega arith) ∙ ap (λ (x : ℕ). x ∷ drop 1 text) (sym first))))
    (λ some. record { value = b.value; rest = b.rest; is = sym (text_some b.value.0 some) ∙ b.is })
    (cases_eq b.value.0 0)

pub letters_read : (text : List ℕ) (r : Result ℕ Slip) → (length text ≡ 0 → ⊥) → ((rest : List ℕ) → text ≡ 45 ∷ rest → ⊥)
    → ReadBelow (2 ^ 24) (letters_in 24 97) text r → ReadBelow (2 ^ 24) letters_text text r
letters_read text (Ok ls) some other p = (p.0, p.1 ∙ sym (text_some ls (λ z. some (ap length (p.1 ∙ ap (letters_in 24 97) z ∙ no_bits 24 97)))))
letters_read text (Err e) some other p = record {
  within = p.within;
  none = λ ls is. ⊎_elim (λ z. other [] (is ∙ text_none ls.0 z)) (λ more. p.none ls (is ∙ text_some ls.0 more)) (cases_eq ls.0 0);
  begins = begins_text (take e.column text) p.begins;
  stops = λ h b. p.stops h (text_begins text e.column h other b);
}

-- what the reading of letters needs
pub ruleset letters_reading = (no_text, behind_dash, letters_read)

-- what the writing of letters needs
pub ruleset letters_writing = (after_set, after_clear, no_letters, text_some)

pub space_lacking : (g : ℕ) → g < 2 ^ 32 → Lacks 32 (decimal g)
space_lacking g small k h e = let d = digits_of g small k h in omega arith

-- a row is cut at its first space
module _ (line : List ℕ) (r : ℕ) (first : FirstAt 32 r line) (s : Sample) (e : line ≡ row_text s) where
  pub row_within : r < length line
  row_within = cut_within 32 r line (decimal s.gap) (letters_text s.letters) first (space_lacking s.gap s.short) e

  pub row_gap : take r line ≡ decimal s.gap
  row_gap = cut_front 32 r line (decimal s.gap) (letters_text s.letters) first (space_lacking s.gap s.short) e

  pub row_letters : drop (r + 1) line ≡ letters_text s.letters
  row_letters = cut_rest 32 r line (decimal s.gap) (letters_text s.letters) first (space_lacking s.gap s.short) e

-- a front without a space, that a row begins with, its gap begins with
module _ (s : Sample) (front rest : List ℕ) (none : Lacks 32 front) (e : row_text s ≡ front ++ rest) where
  in_gap : length front ≤ length (decimal s.gap)
  in_gap = ⊎_elim
      (λ low. absurd (none (length (decimal s.gap)) low (sym (get_or_append_left front rest 0 (length (decimal s.gap)) low) ∙ ap (λ (l : List ℕ). get_or l (length (decimal s.gap)) 0) (sym e) ∙ get_or_at (decimal s.gap) 32 (letters_text s.letters) 0 (length (decimal s.gap)) refl)))
      (λ high. high)
      (cases_lt (length (decimal s.gap)) (length front))

  gap_begins : decimal s.gap ≡ front ++ drop (length front) (decimal s.gap)
  gap_begins =
      let is : take (length front) (decimal s.gap) ≡ front = sym (take-append-le (length front) (decimal s.gap) (32 ∷ letters_text s.letters) in_gap) ∙ ap (take (length front)) e ∙ take_at front rest (length front) refl in
      sym (take-append-drop (length front) (decimal s.gap)) ∙ ap (λ (l : List ℕ). l ++ drop (length front) (decimal s.gap)) is

-- a line whose first space, or end, is at r
module _ (line : List ℕ) (r : ℕ) (first : FirstAt 32 r line) (upto : r ≤ length line) where
  lacks : (c : ℕ) → c ≤ r → Lacks 32 (take c line)
  lacks c l k h e = let low : k < c = omega (arith, length-take-le c line (omega arith)) in first.before k (omega arith) (sym (get_or-take c line k 0 low) ∙ e)

  -- its word is no gap
  pub word_slip : (c : ℕ) → NoneReads gap_text (take r line) c → NoneReads row_text line c
  word_slip c p = record {
    within = omega (arith, p.within, long);
    none = λ s e. p.none (s.gap, s.short) (row_gap line r first s e);
    begins =
        let b = p.begins in
        record {
          value = record { gap = b.value.0; letters = 0; short = b.value.1; low = omega arith };
          rest = b.rest ++ (32 ∷ (45 ∷ []));
          is = ap (λ (l : List ℕ). l ++ (32 ∷ (45 ∷ []))) (b.is ∙ ap (λ (l : List ℕ). l ++ b.rest) (take-take c r line inside)) ∙ append_assoc (take c line) b.rest (32 ∷ (45 ∷ []));
        };
    stops = λ h b. ⊎_elim
        (λ low.
        let front : take (c + 1) (take r line) ≡ take (c + 1) line = take-take (c + 1) r line (omega arith) in
        p.stops (omega (arith, long)) (record {
          value = (b.value.gap, b.value.short);
          rest = drop (length (take (c + 1) line)) (decimal b.value.gap);
          is = gap_begins b.value (take (c + 1) line) b.rest (lacks (c + 1) (omega arith)) b.is ∙ ap (λ (l : List ℕ). l ++ drop (length (take (c + 1) line)) (decimal b.value.gap)) (sym front);
        }))
        (λ high.
        let end : c ≡ r = omega (arith, inside) in
        let space : get_or line c 0 ≡ 32 = ap (λ (k : ℕ). get_or line k 0) end ∙ first.here (omega arith) in
        let row = next_byte row_text line c h b ∙ ap (λ (x : ℕ). take c line ++ (x ∷ b.rest)) space in
        p.none (b.value.gap, b.value.short) (ap (λ (k : ℕ). take k line) (sym end) ∙ sym (same_front 32 (decimal b.value.gap) (letters_text b.value.letters) (take c line) b.rest (space_lacking b.value.gap b.value.short) (lacks c inside) row)))
        (cases_lt c r);
  }
    where
      long : length (take r line) ≡ r
      long = length-take-le r line upto

      inside : c ≤ r
      inside = omega (arith, p.within, long)

  module _ (gap : ℕ) (small : gap < 2 ^ 32) (word : take r line ≡ decimal gap) where
    -- nothing follows its gap
    pub end_slip : length line ≤ r → NoneReads row_text line r
    end_slip end = ended row_text line r (omega arith)
        (record {
          value = record { gap = gap; letters = 0; short = small; low = omega arith };
          rest = 32 ∷ (45 ∷ []);
          is = ap (λ (l : List ℕ). l ++ (32 ∷ (45 ∷ []))) (sym word);
        })
        (λ s e. omega (arith, row_within line r first s e))

    -- what follows the space is no letters
    module _ (within : r < length line) where
      front : (n : ℕ) → take (n + (r + 1)) line ≡ take r line ++ (32 ∷ take n (drop (r + 1) line))
      front n =
          let long : length (take (r + 1) line) ≡ r + 1 = length-take-le (r + 1) line (omega arith) in
          let sum : n + (r + 1) ≡ length (take (r + 1) line) + n = omega arith in
          ap (λ (k : ℕ). take k line) sum
          ∙ ap (take (length (take (r + 1) line) + n)) (sym (take-append-drop (r + 1) line))
          ∙ take-append-add (take (r + 1) line) (drop (r + 1) line) n
          ∙ ap (λ (l : List ℕ). l ++ take n (drop (r + 1) line)) (take_more line r 0 within ∙ ap (λ (x : ℕ). take r line ++ (x ∷ [])) (first.here within))
          ∙ append_assoc (take r line) (32 ∷ []) (take n (drop (r + 1) line))

      pub letters_slip : (c : ℕ) → NoneReads any_letters (drop (r + 1) line) c → NoneReads row_text line (c + (r + 1))
      letters_slip c p = record {
        within = omega (arith, p.within, length-drop (r + 1) line);
        none = λ s e. p.none (s.letters, s.low) (row_letters line r first s e);
        begins =
            let b = p.begins in
            record {
              value = record { gap = gap; letters = b.value.0; short = small; low = b.value.1 };
              rest = b.rest;
              is = ap (λ (l : List ℕ). l ++ (32 ∷ any_letters b.value)) (sym word)
                  ∙ ap (λ (l : List ℕ). take r line ++ (32 ∷ l)) b.is
                  ∙ sym (append_assoc (take r line) (32 ∷ take c (drop (r + 1) line)) b.rest)
                  ∙ ap (λ (l : List ℕ). l ++ b.rest) (sym (front c));
            };
        stops = λ h b.
            let more : c + (r + 1) + 1 ≡ c + 1 + (r + 1) = omega arith in
            let row = b.is ∙ ap (λ (k : ℕ). take k line ++ b.rest) more ∙ ap (λ (l : List ℕ). l ++ b.rest) (front (c + 1)) ∙ append_assoc (take r line) (32 ∷ take (c + 1) (drop (r + 1) line)) b.rest in
            p.stops (omega (arith, length-drop (r + 1) line)) (record {
              value = (b.value.letters, b.value.low);
              rest = b.rest;
              is = same_rest 32 (decimal b.value.gap) (letters_text b.value.letters) (take r line) (take (c + 1) (drop (r + 1) line) ++ b.rest)
                  (space_lacking b.value.gap b.value.short) (lacks r (omega arith)) row;
            });
      }
