-- A text has one reading: what is spelled is cut into its words and lines again.
use Rattle.std.proofs.Common.{◌≡◌, ℕ, ◌<◌, ◌≤◌, Bool, true, false, cond, ◌&&◌, leb, List, [], ◌∷◌, ◌++◌, length, Some, None, codes, decimal, Option, sym, refl, ap, ◌∙◌, append_assoc, arith, length-append}
use Rattle.std.specs.List.{onto_first}
use Rattle.std.specs.Str.Parse.{AllDigits}
use Rattle.std.proofs.lemmas.Bool.{cond-true, cond-false, eq-eqb, ne_eqb, and_parts, leb-true}
use Rattle.std.proofs.lemmas.Str.Parse.{digit_from_value}
use Rattle.std.proofs.lemmas.Fmt.{decimal_is_IsNumeral}
use Rattle.std.proofs.lemmas.List.{append_cancel_left}
use Rattle.stream.specs.declared.signal.Signal.{Signal}
use Rattle.stream.specs.declared.letter.Letter.{Letter}
use Rattle.monitor.specs.declared.limit.Ticks.{Ticks}
use Rattle.monitor.specs.declared.pattern.Pattern.{Pattern}
use Rattle.monitor.specs.declared.pattern.Pattern.TheVariants.{Never, NeverFrom, HoldLeast, HoldUnder, Repeat, Answer, Keep}
use Rattle.grammar.specs.declared.tree.Term.{Term}
use Rattle.grammar.specs.declared.tree.Line.{Line}
use Rattle.grammar.specs.Words.{up_to, words_of, unwords}
use Rattle.grammar.specs.Reading.{got}
use Rattle.grammar.specs.Grammar.{source_byte, signal_word, pattern_words, after_words, term_words, second_words, allow_words, line_words, spell, Allowed}
use Rattle.grammar.specs.Books.{book_text, Rising}
use Rattle.grammar.proofs.LineReading.{read_line, line_reads}

-- no byte of the list is c
abbrev pub Free : ℕ → List ℕ → Type 0
Free c [] = Unit {0}
Free c (b ∷ bs) = (b ≡ c → ⊥) × Free c bs

abbrev AllFree : ℕ → List (List ℕ) → Type 0
AllFree c [] = Unit {0}
AllFree c (w ∷ ws) = Free c w × AllFree c ws

free_append : (c : ℕ) (xs ys : List ℕ) → Free c xs → Free c ys → Free c (xs ++ ys)
free_append c [] ys f g = g
free_append c (x ∷ xs) ys f g = (f.0, free_append c xs ys f.1 g)

all_append : (c : ℕ) (xs ys : List (List ℕ)) → AllFree c xs → AllFree c ys → AllFree c (xs ++ ys)
all_append c [] ys f g = g
all_append c (x ∷ xs) ys f g = (f.0, all_append c xs ys f.1 g)

free_digits : (c : ℕ) → c < 48 → (ds : List ℕ) → AllDigits 10 ds → Free c ds
free_digits c h [] d = tt
free_digits c h (b ∷ bs) d = ((λ (e : b ≡ c). let (l, u) = digit_from_value b d.0 in omega arith), free_digits c h bs d.1)

free_decimal : (c n : ℕ) → c < 48 → n ≤ 999999999 → Free c (decimal n)
free_decimal c n h small = free_digits c h (decimal n) (decimal_is_IsNumeral n (omega arith)).0.1

free_source : (c : ℕ) → c < 33 → (a : Option Letter) → source_byte a ≡ c → ⊥
free_source c h None e = omega arith
free_source c h (Some l) e = omega arith

-- letters only: a test by computation
abbrev lower : List ℕ → Bool
lower [] = true
lower (b ∷ bs) = leb 97 b && lower bs

free_word : (c : ℕ) → c < 33 → (w : List ℕ) → lower w ≡ true → Free c w
free_word c h [] t = tt
free_word c h (b ∷ bs) t = let (l, r) = and_parts (leb 97 b) (lower bs) t in ((λ (e : b ≡ c). let u = leb-true 97 b l in omega arith), free_word c h bs r)

module _ (c : ℕ) (h : c < 33) where
  fs : (s : Signal) → Free c (signal_word s)
  fs s = elim s.negated as (λ b. Free c (cond b (33 ∷ source_byte s.letter ∷ []) (source_byte s.letter ∷ []))) [ true ↦ ((λ (e : 33 ≡ c). omega arith), (free_source c h s.letter, tt)) | false ↦ (free_source c h s.letter, tt) ]

  ft : (t : Ticks) → Free c (decimal t.value)
  ft t = free_decimal c t.value (omega arith) t.small

  free_pattern : (y : Pattern) → AllFree c (pattern_words y)
  free_pattern (Never p) = (free_word c h (codes "never") refl, (fs p, tt))
  free_pattern (NeverFrom p t) = (free_word c h (codes "never") refl, (fs p, (free_word c h (codes "from") refl, (ft t, tt))))
  free_pattern (HoldLeast p t) = (free_word c h (codes "hold") refl, (fs p, (free_word c h (codes "least") refl, (ft t, tt))))
  free_pattern (HoldUnder p t) = (free_word c h (codes "hold") refl, (fs p, (free_word c h (codes "under") refl, (ft t, tt))))
  free_pattern (Repeat p t) = (free_word c h (codes "repeat") refl, (fs p, (free_word c h (codes "within") refl, (ft t, tt))))
  free_pattern (Answer p s t) = (free_word c h (codes "answer") refl, (fs p, (free_word c h (codes "by") refl, (fs s, (free_word c h (codes "within") refl, (ft t, tt))))))
  free_pattern (Keep s t p) = (free_word c h (codes "keep") refl, (fs s, (free_word c h (codes "for") refl, (ft t, (free_word c h (codes "since") refl, (fs p, tt))))))

  free_after : (a : Option Signal) → AllFree c (after_words a)
  free_after None = tt
  free_after (Some s) = (free_word c h (codes "after") refl, (fs s, tt))

  free_term : (t : Term) → AllFree c (term_words t)
  free_term t = all_append c (after_words t.after) (pattern_words t.pattern) (free_after t.after) (free_pattern t.pattern)

  free_second : (s : Option Term) → AllFree c (second_words s)
  free_second None = tt
  free_second (Some t) = (free_word c h (codes "or") refl, free_term t)

  free_allow : (a : Option ℕ) → Allowed a → AllFree c (allow_words a)
  free_allow None s = tt
  free_allow (Some n) s = (free_word c h (codes "allow") refl, (free_decimal c n (omega arith) (omega arith), tt))

  free_line : (l : Line) → Allowed l.allow → AllFree c (line_words l)
  free_line l s =
      let n = l.number.upto in
      (free_decimal c l.number.value (omega arith) (omega arith), all_append c (term_words l.first) (second_words l.second ++ allow_words l.allow) (free_term l.first) (all_append c (second_words l.second) (allow_words l.allow) (free_second l.second) (free_allow l.allow s)))

-- words

words_last : (w : List ℕ) → Free 32 w → words_of w ≡ w ∷ []
words_last [] f = refl
words_last (b ∷ bs) f = cond-false _ _ _ (ne_eqb b 32 f.0) ∙ ap (onto_first b) (words_last bs f.1)

words_more : (w rest : List ℕ) → Free 32 w → words_of (w ++ (32 ∷ rest)) ≡ w ∷ words_of rest
words_more [] rest f = refl
words_more (b ∷ bs) rest f = cond-false _ _ _ (ne_eqb b 32 f.0) ∙ ap (onto_first b) (words_more bs rest f.1)

words_unwords : (w : List ℕ) (ws : List (List ℕ)) → AllFree 32 (w ∷ ws) → words_of (unwords (w ∷ ws)) ≡ w ∷ ws
words_unwords w [] f = words_last w f.0
words_unwords w (v ∷ ws) f = words_more w (unwords (v ∷ ws)) f.0 ∙ ap (λ l. w ∷ l) (words_unwords v ws f.1)

pub words_spell : (l : Line) → Allowed l.allow → words_of (spell l) ≡ line_words l
words_spell l s = words_unwords (decimal l.number.value) (term_words l.first ++ (second_words l.second ++ allow_words l.allow)) (free_line 32 (omega arith) l s)

-- two lines that are spelled the same are the same
spell_same : (l m : Line) → Allowed l.allow → Allowed m.allow → spell l ≡ spell m → l ≡ m
spell_same l m s t e =
    let w : line_words l ≡ line_words m = sym (words_spell l s) ∙ ap words_of e ∙ words_spell m t in
    let r : got l [] ≡ got m [] = sym (line_reads l s) ∙ ap read_line w ∙ line_reads m t in
    cc

-- lines

free_unwords : (c : ℕ) → (c ≡ 32 → ⊥) → (ws : List (List ℕ)) → AllFree c ws → Free c (unwords ws)
free_unwords c h [] f = tt
free_unwords c h (w ∷ []) f = f.0
free_unwords c h (w ∷ v ∷ ws) f = free_append c w (32 ∷ unwords (v ∷ ws)) f.0 ((λ (e : 32 ≡ c). h (sym e)), free_unwords c h (v ∷ ws) f.1)

pub free_spell : (l : Line) → Allowed l.allow → Free 10 (spell l)
free_spell l s = free_unwords 10 (λ (e : 10 ≡ 32). omega arith) (line_words l) (free_line 10 (omega arith) l s)

up_to_free : (c : ℕ) (w rest : List ℕ) → Free c w → up_to c (w ++ (c ∷ rest)) ≡ w
up_to_free c [] rest f = cond-true _ _ _ (eq-eqb c c refl)
up_to_free c (b ∷ bs) rest f = cond-false _ _ _ (ne_eqb b c f.0) ∙ ap (λ l. b ∷ l) (up_to_free c bs rest f.1)

-- one cut
pub cut_same : (c : ℕ) (v w x y : List ℕ) → Free c v → Free c w → v ++ (c ∷ x) ≡ w ++ (c ∷ y) → (v ≡ w) × (x ≡ y)
cut_same c v w x y f g e =
    let same : v ≡ w = sym (up_to_free c v x f) ∙ ap (up_to c) e ∙ up_to_free c w y g in
    let rest = append_cancel_left w (c ∷ x) (c ∷ y) (ap (λ l. l ++ (c ∷ x)) (sym same) ∙ e) in
    (same, cc)

-- the first lines of two books with what follows
pub first_same : (j k : ℕ) (l m : Line) (ls ms : List Line) (x y : List ℕ) → Rising j (l ∷ ls) → Rising k (m ∷ ms) → book_text (l ∷ ls) ++ x ≡ book_text (m ∷ ms) ++ y → (l ≡ m) × (book_text ls ++ x ≡ book_text ms ++ y)
first_same j k l m ls ms x y r t e =
    let c = cut_same 10 (spell l) (spell m) (book_text ls ++ x) (book_text ms ++ y) (free_spell l r.0) (free_spell m t.0) (sym (append_assoc (spell l) (10 ∷ book_text ls) x) ∙ e ∙ append_assoc (spell m) (10 ∷ book_text ms) y) in
    (spell_same l m r.0 t.0 c.0, c.1)

pub some_text : (l : Line) (ls : List Line) → 1 ≤ length (book_text (l ∷ ls))
some_text l ls = omega (arith, length-append (spell l) (10 ∷ book_text ls))

-- a text is the text of one book at most
pub book_same : (j k : ℕ) (ls ms : List Line) → Rising j ls → Rising k ms → book_text ls ++ [] ≡ book_text ms ++ [] → ls ≡ ms
book_same j k [] [] r t e = refl
book_same j k [] (m ∷ ms) r t e = absurd (omega (arith, ap length e, length-append (book_text (m ∷ ms)) [], some_text m ms))
book_same j k (l ∷ ls) [] r t e = absurd (omega (arith, ap length e, length-append (book_text (l ∷ ls)) [], some_text l ls))
book_same j k (l ∷ ls) (m ∷ ms) r t e =
    let c = first_same j k l m ls ms [] [] r t e in
    let rest = book_same l.number.value m.number.value ls ms r.1.1 t.1.1 c.1 in
    (λ i. c.0 i ∷ rest i)
