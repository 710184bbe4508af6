-- What a turn of `read_ended` keeps.
use Rattle.std.proofs.Common.{◌≡◌, ℕ, zero, suc, ◌+◌, ◌-◌, ◌<◌, ◌≤◌, true, false, eqb, List, [], ◌∷◌, ◌++◌, length, get_or, sym, refl, ap, ◌∙◌, subst, ⊎_elim, append_assoc, append-nil, arith, length-append, false-eqb}
use Rattle.std.proofs.lemmas.List.{get_or-append-add}
use Rattle.std.proofs.lemmas.Bool.{cond-true, cond-false, eqb-false, cases_Bool}
use Rattle.grammar.specs.declared.tree.Line.{Line}
use Rattle.grammar.specs.declared.fault.Place.{Place}
use Rattle.grammar.specs.declared.fault.Fault.{Fault}
use Rattle.grammar.specs.declared.fault.Fault.TheVariants.{EmptyText, TextTooLong, OpenLine, TooManyLines, NumberNotRising, AtWord}
use Rattle.grammar.specs.Words.{up_to}
use Rattle.grammar.specs.Grammar.{Allowed, spell}
use Rattle.grammar.specs.Books.{book_text, Rising, last_from, IsBook, Ended, start_behind, LineFault, InLine, BookFault}
use Rattle.grammar.proofs.Cuts.{up_to_idem}

book_text_push : (ls : List Line) (l : Line) (rest : List ℕ) → book_text (ls ++ l ∷ []) ++ rest ≡ book_text ls ++ (spell l ++ (10 ∷ rest))
book_text_push [] l rest = append_assoc (spell l) (10 ∷ []) rest
book_text_push (k ∷ ls) l rest =
    append_assoc (spell k) (10 ∷ book_text (ls ++ l ∷ [])) rest ∙ ap (λ z. spell k ++ (10 ∷ z)) (book_text_push ls l rest) ∙ sym (append_assoc (spell k) (10 ∷ book_text ls) (spell l ++ (10 ∷ rest)))

rising_push : (k : ℕ) (ls : List Line) (l : Line) → Rising k ls → Allowed l.allow → last_from k ls < l.number.value → Rising k (ls ++ l ∷ [])
rising_push k [] l r s h = (s, (h, tt))
rising_push k (m ∷ ls) l r s h = (r.0, (r.1.0, rising_push m.number.value ls l r.1.1 s h))

-- where the cut is the end, no byte is c
free_at : (c : ℕ) (xs : List ℕ) → up_to c xs ≡ xs → (i : ℕ) → i < length xs → get_or xs i 0 ≡ c → ⊥
free_at c [] w i h e = omega arith
free_at c (x ∷ xs) w i h e =
    ⊎_elim
    (λ (t : eqb x c ≡ true). let s : ◌≡◌ {A = List ℕ} [] (x ∷ xs) = sym (cond-true _ _ _ t) ∙ w in let z : ◌≡◌ {A = ℕ} 0 1 = cc in omega arith)
    (λ (t : eqb x c ≡ false).
    let s : ◌≡◌ {A = List ℕ} (x ∷ up_to c xs) (x ∷ xs) = sym (cond-false _ _ _ t) ∙ w in
    let r : up_to c xs ≡ xs = cc in
    elim i as (λ j. j < length (x ∷ xs) → get_or (x ∷ xs) j 0 ≡ c → ⊥) [ zero ↦ λ _ e. eqb-false x c t e | suc j ↦ λ h e. free_at c xs r j (omega arith) e ] h e)
    (cases_Bool (eqb x c))

-- the lines so far, and what is left of the text
pub record Sofar (text : List ℕ) (ls : List Line) (rest : List ℕ) : Type 0 where
  pub split : text ≡ book_text ls ++ rest
  pub rising : Rising 0 ls

-- where the next line begins
pub start_is : (text : List ℕ) (ls : List Line) (rest : List ℕ) → Sofar text ls rest → length text - length rest ≡ length (book_text ls)
start_is text ls rest s = let e = ap length s.split ∙ length-append (book_text ls) rest in omega arith

pub book_fault : (text : List ℕ) (f : Fault) → InLine text f → BookFault text f
book_fault text EmptyText h = absurd h.fault
book_fault text TextTooLong h = absurd h.fault
book_fault text (OpenLine p) h = absurd h.fault
book_fault text (TooManyLines b) h = absurd h.fault
book_fault text (NumberNotRising p) h = h
book_fault text (AtWord c p) h = h

-- in an ended text a line that is not ended is none
none_left : (text : List ℕ) (ls : List Line) (rest : List ℕ) → Ended text → Sofar text ls rest → up_to 10 rest ≡ rest → rest ≡ []
none_left text ls [] ended s whole = refl
none_left text ls (b ∷ bs) ended s whole =
    let e = ap length s.split ∙ length-append (book_text ls) (b ∷ bs) in
    let i : length (book_text ls) + (length (b ∷ bs) - 1) ≡ length text - 1 = omega arith in
    let last : get_or (b ∷ bs) (length (b ∷ bs) - 1) 0 ≡ 10 = sym (get_or-append-add (book_text ls) (b ∷ bs) (length (b ∷ bs) - 1) 0) ∙ ap (λ z. get_or z (length (book_text ls) + (length (b ∷ bs) - 1)) 0) (sym s.split) ∙ ap (λ j. get_or text j 0) i ∙ ended.ended in
    absurd (free_at 10 (b ∷ bs) whole (length (b ∷ bs) - 1) (omega arith) last)

module _ (text : List ℕ) (ended : Ended text) (ls : List Line) (rest : List ℕ) (s : Sofar text ls rest) (line after : List ℕ) (cut : line ≡ up_to 10 rest) (rest_is : rest ≡ line ++ (10 ∷ after)) where
  split_is : text ≡ book_text ls ++ (line ++ (10 ∷ after))
  split_is = s.split ∙ ap (λ r. book_text ls ++ r) rest_is

  -- the line in hand has a fault
  pub in_line : length ls ≤ 64 → false ≡ eqb (length ls) 64 → (start : Place) → start ≡ start_behind ls → (k : ℕ) → k ≡ last_from 0 ls → (f : Fault) → LineFault k line start f → BookFault text f
  in_line few room start at k last f h =
      book_fault text f (record {
        before = ls;
        line = line;
        after = after;
        next = record { whole_text = ended; rising = s.rising; room = (let other = false-eqb (length ls) 64 room in omega arith); split = split_is; whole = ap (up_to 10) cut ∙ up_to_idem 10 rest ∙ sym cut };
        fault = subst (λ j. LineFault j line (start_behind ls) f) last (subst (λ p. LineFault k line p f) at h);
      })

  -- the line in hand is one, and comes in order
  pub turn : (l : Line) (k : ℕ) → k ≡ last_from 0 ls → (line ≡ spell l) × (Allowed l.allow × (k < l.number.value)) → Sofar text (ls ++ l ∷ []) after
  turn l k last h = record {
    split = split_is ∙ ap (λ w. book_text ls ++ (w ++ (10 ∷ after))) h.0 ∙ sym (book_text_push ls l after);
    rising = rising_push 0 ls l s.rising h.1.0 (subst (λ j. j < l.number.value) last h.1.1);
  }

some_line : (text : List ℕ) (ls : List Line) → 0 < length text → text ≡ book_text ls → 1 ≤ length ls
some_line text [] some e = absurd (omega (arith, ap length e))
some_line text (l ∷ ls) some e = omega arith

pub done : (text : List ℕ) (ls : List Line) (rest : List ℕ) → Ended text → Sofar text ls rest → up_to 10 rest ≡ rest → length ls ≤ 64 → IsBook text ls
done text ls rest ended s whole few =
    let spelled = s.split ∙ ap (λ r. book_text ls ++ r) (none_left text ls rest ended s whole) ∙ append-nil (book_text ls) in
    record { spelled = spelled; rising = s.rising; some = some_line text ls ended.some spelled; few = few; short = ended.short }

-- the last line's number
last_at : (k : ℕ) (l : Line) (ls : List Line) (d : Line) → last_from k (l ∷ ls) ≡ (get_or (l ∷ ls) (length ls) d).number.value
last_at k l [] d = refl
last_at k l (m ∷ ls) d = last_at l.number.value m ls d

pub last_is : (ls : List Line) (l : Line) → 0 < length ls → l ≡ get_or ls (length ls - 1) l → l.number.value ≡ last_from 0 ls
last_is [] l some e = absurd (omega arith)
last_is (m ∷ ls) l some e =
    let i : length (m ∷ ls) - 1 ≡ length ls = omega arith in
    ap (λ x. x.number.value) (e ∙ ap (λ j. get_or (m ∷ ls) j l) i) ∙ sym (last_at 0 m ls l)
