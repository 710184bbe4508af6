-- A text with a fault is no book, and has no other fault.
use Rattle.std.proofs.Common.{◌≡◌, ℕ, ◌-◌, ◌<◌, ◌≤◌, true, false, eqb, ◌⊎◌, List, [], ◌∷◌, ◌++◌, length, get_or, Ok, Err, decimal, Result, sym, refl, ap, ◌∙◌, subst, inl, inr, ⊎_elim, append_assoc, append-nil, arith, length-append}
use Rattle.std.specs.Str.Parse.{digits_value}
use Rattle.std.specs.Result.{MatchResult, IsOkAnd, IfErr}
use Rattle.arrayvec.specs.ArrayVec.{ArrayVec}
use Rattle.std.proofs.lemmas.Bool.{cond-true, cond-false, cases_Bool, eqb-false}
use Rattle.std.proofs.lemmas.List.{get_or_push}
use Rattle.grammar.specs.declared.tree.Line.{Line}
use Rattle.grammar.specs.declared.fault.Cause.{Cause}
use Rattle.grammar.specs.declared.fault.Cause.TheVariants as C
use Rattle.grammar.specs.declared.fault.Place.{Place}
use Rattle.grammar.specs.declared.fault.Fault.{Fault}
use Rattle.grammar.specs.declared.fault.Fault.TheVariants.{EmptyText, TextTooLong, OpenLine, TooManyLines, NumberNotRising, AtWord}
use Rattle.grammar.specs.Words.{up_to, words_of, unwords}
use Rattle.grammar.specs.Grammar.{line_words, spell, Allowed, Begins, Because, Above, NotAbove, FirstFault}
use Rattle.grammar.specs.Books.{book_text, Rising, last_from, IsBook, Ended, TooMany, Unended, start_behind, further, LineFault, InLine, BookFault, IsOneFault}
use Rattle.grammar.specs.Reading.{Ws}
use Rattle.grammar.proofs.LineReading.{number_is}
use Rattle.grammar.proofs.Unique.{Free, words_spell, free_spell, cut_same, first_same, some_text, book_same}

-- a line with a fault is no line with a number above k

abbrev Bad : ℕ → List ℕ → Type 0
Bad k line = (l : Line) → Allowed l.allow → line ≡ spell l → k < l.number.value → ⊥

no_because : (l : Line) → Allowed l.allow → (pre rest : Ws) (c : Cause) → line_words l ≡ pre ++ rest → Because pre rest c → ⊥
no_because l s pre [] C.WordMissing e h = h (l, (s, e ∙ append-nil pre))
no_because l s pre [] C.NumberOwed e h = h
no_because l s pre [] C.WordNotAllowed e h = h
no_because l s pre (w ∷ r) C.WordMissing e h = h
no_because l s pre (w ∷ r) C.NumberOwed e h = h.0 (l, (s, (r, e ∙ sym (append_assoc pre (w ∷ []) r))))
no_because l s pre (w ∷ r) C.WordNotAllowed e h = h.0 (l, (s, (r, e ∙ sym (append_assoc pre (w ∷ []) r))))

first_bad : (k : ℕ) (line : List ℕ) (c : Cause) (p : ℕ) → FirstFault k line c p → Bad k line
first_bad k line c p h l s e up = no_because l s h.pre h.rest c (sym (words_spell l s) ∙ ap words_of (sym e) ∙ h.words) h.because

low_bad : (k : ℕ) (line : List ℕ) → NotAbove k line → Bad k line
low_bad k line h l s e up =
    let both = sym (words_spell l s) ∙ ap words_of (sym e) ∙ h.words in
    let word : decimal l.number.value ≡ h.first = cc in
    omega (arith, h.low, ap (digits_value 10) word, number_is l)

fault_bad : (k : ℕ) (line : List ℕ) (start : Place) (f : Fault) → LineFault k line start f → Bad k line
fault_bad k line start EmptyText h = absurd h
fault_bad k line start TextTooLong h = absurd h
fault_bad k line start (OpenLine p) h = absurd h
fault_bad k line start (TooManyLines b) h = absurd h
fault_bad k line start (NumberNotRising p) h = low_bad k line h.1
fault_bad k line start (AtWord c p) h = first_bad k line c h.0 h.1.1

-- a line has one first fault

-- of two ways to cut a list, one is the same or goes further
abbrev Cuts : Ws → Ws → Ws → Ws → Type 0
Cuts a b x y = ((a ≡ b) × (x ≡ y)) ⊎ (((w : List ℕ) × ((m : Ws) × ((b ≡ a ++ w ∷ m) × (x ≡ w ∷ (m ++ y))))) ⊎ ((w : List ℕ) × ((m : Ws) × ((a ≡ b ++ w ∷ m) × (y ≡ w ∷ (m ++ x))))))

cuts_cons : (v : List ℕ) (a b x y : Ws) → Cuts a b x y → Cuts (v ∷ a) (v ∷ b) x y
cuts_cons v a b x y h =
    ⊎_elim
    (λ t. inl (ap (λ l. v ∷ l) t.0, t.1))
    (λ t. inr (⊎_elim (λ u. inl (u.0, (u.1.0, (ap (λ l. v ∷ l) u.1.1.0, u.1.1.1)))) (λ u. inr (u.0, (u.1.0, (ap (λ l. v ∷ l) u.1.1.0, u.1.1.1)))) t))
    h

cuts : (a b x y : Ws) → a ++ x ≡ b ++ y → Cuts a b x y
cuts [] [] x y e = inl (refl, e)
cuts [] (w ∷ b) x y e = inr (inl (w, (b, (refl, e))))
cuts (w ∷ a) [] x y e = inr (inr (w, (a, (refl, sym e))))
cuts (v ∷ a) (w ∷ b) x y e =
    let first : v ≡ w = cc in
    let rest : a ++ x ≡ b ++ y = cc in
    subst (λ u. Cuts (v ∷ a) (u ∷ b) x y) first (cuts_cons v a b x y (cuts a b x y rest))

-- what goes further is not allowed
stuck : (pre : Ws) (w : List ℕ) (r : Ws) (c : Cause) → Because pre (w ∷ r) c → Begins (pre ++ w ∷ []) → ⊥
stuck pre w r C.WordMissing h b = h
stuck pre w r C.NumberOwed h b = h.0 b
stuck pre w r C.WordNotAllowed h b = h.0 b

goes_on : (k : ℕ) (line : List ℕ) (c d : Cause) (p q : ℕ) (h : FirstFault k line c p) (g : FirstFault k line d q) (w : List ℕ) (m : Ws) → g.pre ≡ h.pre ++ w ∷ m → h.rest ≡ w ∷ (m ++ g.rest) → ⊥
goes_on k line c d p q h g w m e r =
    let (l, (fits, (more, same))) = g.begins in
    stuck h.pre w (m ++ g.rest) c (subst (λ z. Because h.pre z c) r h.because) (l, (fits, (m ++ more, same ∙ ap (λ z. z ++ more) e ∙ append_assoc h.pre (w ∷ m) more ∙ sym (append_assoc h.pre (w ∷ []) (m ++ more)))))

cause_same : (pre rest : Ws) (c d : Cause) → Because pre rest c → Because pre rest d → c ≡ d
cause_same pre [] C.WordMissing C.WordMissing h g = refl
cause_same pre [] C.WordMissing C.NumberOwed h g = absurd g
cause_same pre [] C.WordMissing C.WordNotAllowed h g = absurd g
cause_same pre [] C.NumberOwed d h g = absurd h
cause_same pre [] C.WordNotAllowed d h g = absurd h
cause_same pre (w ∷ r) C.WordMissing d h g = absurd h
cause_same pre (w ∷ r) C.NumberOwed C.WordMissing h g = absurd g
cause_same pre (w ∷ r) C.NumberOwed C.NumberOwed h g = refl
cause_same pre (w ∷ r) C.NumberOwed C.WordNotAllowed h g = absurd (g.1 h.1.0 h.1.1.0 h.1.1.1)
cause_same pre (w ∷ r) C.WordNotAllowed C.WordMissing h g = absurd g
cause_same pre (w ∷ r) C.WordNotAllowed C.NumberOwed h g = absurd (h.1 g.1.0 g.1.1.0 g.1.1.1)
cause_same pre (w ∷ r) C.WordNotAllowed C.WordNotAllowed h g = refl

snag_same : (k : ℕ) (line : List ℕ) (c d : Cause) (p q : ℕ) → FirstFault k line c p → FirstFault k line d q → (c ≡ d) × (p ≡ q)
snag_same k line c d p q h g =
    ⊎_elim
    (λ t. (cause_same g.pre g.rest c d (subst (λ z. Because g.pre z c) t.1 (subst (λ z. Because z h.rest c) t.0 h.because)) g.because, h.place_is ∙ ap (λ z. length line - length (unwords z)) t.1 ∙ sym g.place_is))
    (λ t. absurd (⊎_elim (λ u. goes_on k line c d p q h g u.0 u.1.0 u.1.1.0 u.1.1.1) (λ u. goes_on k line d c q p g h u.0 u.1.0 u.1.1.0 u.1.1.1) t))
    (cuts h.pre g.pre h.rest g.rest (sym h.words ∙ g.words))

-- a number that is not above k is no first fault of another kind
low_first : (k : ℕ) (line : List ℕ) (c : Cause) (p : ℕ) → NotAbove k line → FirstFault k line c p → ⊥
low_first k line c p h g = at_first g.pre g.rest (sym h.words ∙ g.words) g.above g.because
  where
    at_first : (pre rest : Ws) → h.first ∷ h.rest ≡ pre ++ rest → Above k pre → Because pre rest c → ⊥
    at_first [] rest e above because = stuck [] h.first h.rest c (subst (λ z. Because [] z c) (sym e) because) h.begins
    at_first (w ∷ pre) rest e above because = let word : h.first ≡ w = cc in omega (arith, h.low, ap (digits_value 10) word)

fault_same : (k : ℕ) (line : List ℕ) (start : Place) (f g : Fault) → LineFault k line start f → LineFault k line start g → g ≡ f
fault_same k line start EmptyText g a b = absurd a
fault_same k line start TextTooLong g a b = absurd a
fault_same k line start (OpenLine p) g a b = absurd a
fault_same k line start (TooManyLines n) g a b = absurd a
fault_same k line start f EmptyText a b = absurd b
fault_same k line start f TextTooLong a b = absurd b
fault_same k line start f (OpenLine q) a b = absurd b
fault_same k line start f (TooManyLines n) a b = absurd b
fault_same k line start (NumberNotRising p) (NumberNotRising q) a b = ap NumberNotRising (b.0 ∙ sym a.0)
fault_same k line start (NumberNotRising p) (AtWord d q) a b = absurd (low_first k line d b.0 a.1 b.1.1)
fault_same k line start (AtWord c p) (NumberNotRising q) a b = absurd (low_first k line c a.0 b.1 a.1.1)
fault_same k line start (AtWord c p) (AtWord d q) a b =
    let e = snag_same k line d c b.0 a.0 b.1.1 a.1.1 in
    λ i. AtWord (e.0 i) ((b.1.0 ∙ ap (further start) e.1 ∙ sym a.1.0) i)

-- a line that is none comes behind all lines of the text's book

free_whole : (c : ℕ) (w : List ℕ) → up_to c w ≡ w → Free c w
free_whole c [] e = tt
free_whole c (b ∷ bs) e =
    ⊎_elim
    (λ (t : eqb b c ≡ true). let z : ◌≡◌ {A = List ℕ} [] (b ∷ bs) = sym (cond-true _ _ _ t) ∙ e in let o : ◌≡◌ {A = ℕ} 0 1 = cc in absurd (omega arith))
    (λ (t : eqb b c ≡ false). let z : ◌≡◌ {A = List ℕ} (b ∷ up_to c bs) (b ∷ bs) = sym (cond-false _ _ _ t) ∙ e in let r : up_to c bs ≡ bs = cc in (eqb-false b c t, free_whole c bs r))
    (cases_Bool (eqb b c))

ahead : (j : ℕ) (bs cs : List Line) (rest line after : List ℕ) → Rising j bs → Rising j cs → Free 10 line → Bad (last_from j cs) line → book_text bs ++ rest ≡ book_text cs ++ (line ++ (10 ∷ after)) → (more : List Line) × ((cs ≡ bs ++ more) × (rest ≡ book_text more ++ (line ++ (10 ∷ after))))
ahead j [] cs rest line after r t f bad e = (cs, (refl, e))
ahead j (b ∷ bs) [] rest line after r t f bad e =
    let c = cut_same 10 (spell b) line (book_text bs ++ rest) after (free_spell b r.0) f (sym (append_assoc (spell b) (10 ∷ book_text bs) rest) ∙ e) in
    absurd (bad b r.0 (sym c.0) r.1.0)
ahead j (b ∷ bs) (d ∷ cs) rest line after r t f bad e =
    let c = first_same j j b d bs cs rest (line ++ (10 ∷ after)) r t e in
    let up : Rising d.number.value bs = subst (λ x. Rising x.number.value bs) c.0 r.1.1 in
    let n = ahead d.number.value bs cs rest line after up t.1.1 f bad c.1 in
    (n.0, ((λ i. sym c.0 i ∷ n.1.0 i), n.1.1))

in_ahead : (text : List ℕ) (f : Fault) (h : InLine text f) (bs : List Line) (rest : List ℕ) → Rising 0 bs → text ≡ book_text bs ++ rest → (more : List Line) × ((h.before ≡ bs ++ more) × (rest ≡ book_text more ++ (h.line ++ (10 ∷ h.after))))
in_ahead text f h bs rest r e =
    let n = h.next in
    ahead 0 bs h.before rest h.line h.after r n.rising (free_whole 10 h.line n.whole) (fault_bad (last_from 0 h.before) h.line (start_behind h.before) f h.fault) (sym e ∙ n.split)

-- two such lines are the same

no_more : (bs more : List Line) → length (bs ++ more) ≤ length bs → more ≡ []
no_more bs [] h = refl
no_more bs (m ∷ more) h = absurd (omega (arith, length-append bs (m ∷ more)))

line_same : (text : List ℕ) (f g : Fault) → InLine text f → InLine text g → g ≡ f
line_same text f g a b =
    let x = in_ahead text f a b.before (b.line ++ (10 ∷ b.after)) b.next.rising b.next.split in
    let y = in_ahead text g b a.before (a.line ++ (10 ∷ a.after)) a.next.rising a.next.split in
    let short : length (b.before ++ x.0) ≤ length b.before = omega (arith, ap length x.1.0, ap length y.1.0, length-append a.before y.0) in
    let none = no_more b.before x.0 short in
    let books : a.before ≡ b.before = x.1.0 ∙ ap (λ z. b.before ++ z) none ∙ append-nil b.before in
    let lines = cut_same 10 b.line a.line b.after a.after (free_whole 10 b.line b.next.whole) (free_whole 10 a.line a.next.whole) (x.1.1 ∙ ap (λ z. book_text z ++ (a.line ++ (10 ∷ a.after))) none) in
    fault_same (last_from 0 a.before) a.line (start_behind a.before) f g a.fault
    (subst (λ z. LineFault (last_from 0 z) a.line (start_behind z) g) (sym books) (subst (λ z. LineFault (last_from 0 b.before) z (start_behind b.before) g) lines.0 b.fault))

-- line 65

many_line : (text : List ℕ) (byte : ℕ) (f : Fault) → TooMany text byte → InLine text f → ⊥
many_line text byte f h a =
    let x = in_ahead text f a h.before h.after h.rising h.split in
    omega (arith, h.full, a.next.room, ap length x.1.0, length-append h.before x.0)

many_same : (j k : ℕ) (bs cs : List Line) (x y : List ℕ) → Rising j bs → Rising k cs → length bs ≡ length cs → book_text bs ++ x ≡ book_text cs ++ y → bs ≡ cs
many_same j k [] [] x y r t h e = refl
many_same j k [] (d ∷ cs) x y r t h e = absurd (omega arith)
many_same j k (b ∷ bs) [] x y r t h e = absurd (omega arith)
many_same j k (b ∷ bs) (d ∷ cs) x y r t h e =
    let c = first_same j k b d bs cs x y r t e in
    let rest = many_same b.number.value d.number.value bs cs x y r.1.1 t.1.1 (omega arith) c.1 in
    (λ i. c.0 i ∷ rest i)

-- a book of no more lines leaves nothing
no_rest : (j k : ℕ) (ls bs : List Line) (x : List ℕ) → Rising j ls → Rising k bs → length ls ≤ length bs → book_text ls ++ [] ≡ book_text bs ++ x → length x ≡ 0
no_rest j k [] [] x r t h e = sym (ap length e)
no_rest j k [] (b ∷ bs) x r t h e = absurd (omega (arith, ap length e, length-append (book_text (b ∷ bs)) x, some_text b bs))
no_rest j k (l ∷ ls) [] x r t h e = absurd (omega arith)
no_rest j k (l ∷ ls) (b ∷ bs) x r t h e =
    let c = first_same j k l b ls bs [] x r t e in
    no_rest l.number.value b.number.value ls bs x r.1.1 t.1.1 (omega arith) c.1

-- the last byte of a book

book_end : (l : Line) (ls : List Line) → (front : List ℕ) × (book_text (l ∷ ls) ≡ front ++ 10 ∷ [])
book_end l [] = (spell l, refl)
book_end l (m ∷ ms) = let r = book_end m ms in (spell l ++ (10 ∷ r.0), ap (λ z. spell l ++ (10 ∷ z)) r.1 ∙ sym (append_assoc (spell l) (10 ∷ r.0) (10 ∷ [])))

last_byte : (text front : List ℕ) → text ≡ front ++ 10 ∷ [] → get_or text (length text - 1) 0 ≡ 10
last_byte text front e =
    let long = ap length e ∙ length-append front (10 ∷ []) in
    ap (λ z. get_or z (length text - 1) 0) e ∙ get_or_push front 10 0 (length text - 1) (omega arith)

book_ended : (text : List ℕ) (ls : List Line) → IsBook text ls → Ended text
book_ended text [] b = absurd (omega (arith, b.some))
book_ended text (l ∷ ls) b =
    let e = book_end l ls in
    record { some = omega (arith, some_text l ls, ap length b.spelled); short = b.short; ended = last_byte text e.0 (b.spelled ∙ e.1) }

-- a text with a fault is no book

spelled_all : (text : List ℕ) (ls : List Line) → IsBook text ls → text ≡ book_text ls ++ []
spelled_all text ls b = b.spelled ∙ sym (append-nil (book_text ls))

no_line : (text : List ℕ) (f : Fault) (ls : List Line) → IsBook text ls → InLine text f → ⊥
no_line text f ls b h =
    let x = in_ahead text f h ls [] b.rising (spelled_all text ls b) in
    omega (arith, ap length x.1.1, length-append (book_text x.0) (h.line ++ (10 ∷ h.after)), length-append h.line (10 ∷ h.after))

pub no_book : (text : List ℕ) (f : Fault) → BookFault text f → (ls : List Line) → IsBook text ls → ⊥
no_book text EmptyText h ls b = omega (arith, ap length h, (book_ended text ls b).some)
no_book text TextTooLong h ls b = omega (arith, b.short)
no_book text (OpenLine p) h ls b = h.last (book_ended text ls b).ended
no_book text (TooManyLines k) h ls b = omega (arith, h.more, no_rest 0 0 ls h.before h.after b.rising h.rising (omega (arith, b.few, h.full)) (sym (spelled_all text ls b) ∙ h.split))
no_book text (NumberNotRising p) h ls b = no_line text (NumberNotRising p) ls b h
no_book text (AtWord c p) h ls b = no_line text (AtWord c p) ls b h

-- and has no other

-- what every fault but the three of the whole text says
ended_only : (text : List ℕ) → Ended text → (f : Fault) → ((g : Fault) → InLine text g → g ≡ f) → ((b : ℕ) → TooMany text b → TooManyLines b ≡ f) → (g : Fault) → BookFault text g → g ≡ f
ended_only text d f line many EmptyText h = absurd (omega (arith, ap length h, d.some))
ended_only text d f line many TextTooLong h = absurd (omega (arith, d.short))
ended_only text d f line many (OpenLine p) h = absurd (h.last d.ended)
ended_only text d f line many (TooManyLines b) h = many b h
ended_only text d f line many (NumberNotRising p) h = line (NumberNotRising p) h
ended_only text d f line many (AtWord c p) h = line (AtWord c p) h

in_line_only : (text : List ℕ) (f : Fault) → InLine text f → (g : Fault) → BookFault text g → g ≡ f
in_line_only text f h = ended_only text h.next.whole_text f (λ g a. line_same text f g h a) (λ b a. absurd (many_line text b f a h))

many_only : (text : List ℕ) (b : ℕ) → TooMany text b → (g : Fault) → BookFault text g → g ≡ TooManyLines b
many_only text b h =
    ended_only text h.whole_text (TooManyLines b) (λ g a. absurd (many_line text b g h a)) (λ k a.
    let same = many_same 0 0 a.before h.before a.after h.after a.rising h.rising (a.full ∙ sym h.full) (sym a.split ∙ h.split) in
    ap TooManyLines (a.byte_is ∙ ap (λ z. length (book_text z)) same ∙ sym h.byte_is))

-- what a fault of the whole text excludes
whole_only : (text : List ℕ) → (Ended text → ⊥) → (f : Fault) → (text ≡ [] → EmptyText ≡ f) → (8192 < length text → TextTooLong ≡ f) → ((p : Place) → Unended text p → OpenLine p ≡ f) → (g : Fault) → BookFault text g → g ≡ f
whole_only text d f empty long unended EmptyText h = empty h
whole_only text d f empty long unended TextTooLong h = long h
whole_only text d f empty long unended (OpenLine p) h = unended p h
whole_only text d f empty long unended (TooManyLines b) h = absurd (d h.whole_text)
whole_only text d f empty long unended (NumberNotRising p) h = absurd (d h.next.whole_text)
whole_only text d f empty long unended (AtWord c p) h = absurd (d h.next.whole_text)

only : (text : List ℕ) (f : Fault) → BookFault text f → (g : Fault) → BookFault text g → g ≡ f
only text EmptyText h = whole_only text (λ d. omega (arith, ap length h, d.some)) EmptyText (λ _. refl) (λ l. absurd (omega (arith, ap length h))) (λ p u. absurd (omega (arith, ap length h, u.some)))
only text TextTooLong h = whole_only text (λ d. omega (arith, d.short)) TextTooLong (λ e. absurd (omega (arith, ap length e))) (λ _. refl) (λ p u. absurd (omega (arith, u.short)))
only text (OpenLine p) h =
    whole_only text (λ d. h.last d.ended) (OpenLine p) (λ e. absurd (omega (arith, ap length e, h.some))) (λ l. absurd (omega (arith, h.short))) (λ q u. (λ i. OpenLine (record { line = (u.line_is ∙ sym h.line_is) i; byte = (u.byte_is ∙ sym h.byte_is) i })))
only text (TooManyLines b) h = many_only text b h
only text (NumberNotRising p) h = in_line_only text (NumberNotRising p) h
only text (AtWord c p) h = in_line_only text (AtWord c p) h

pub one_fault : (text : List ℕ) (f : Fault) → BookFault text f → IsOneFault text f
one_fault text f h = record { none = no_book text f h; other = only text f h }

pub one_book : (text : List ℕ) (ms ls : List Line) → IsBook text ms → IsBook text ls → ms ≡ ls
one_book text ms ls a b = book_same 0 0 ms ls a.rising b.rising (sym (spelled_all text ms a) ∙ spelled_all text ls b)

pub no_bytes : (xs : List ℕ) → length xs ≡ 0 → xs ≡ []
no_bytes [] e = refl
no_bytes (x ∷ xs) e = absurd (omega arith)

-- what a reading answers is the one book, or the one fault
pub every_book : (text : List ℕ) (r : Result (ArrayVec Line) Fault) → MatchResult r (λ lines. IsBook text lines.items) (λ f. BookFault text f) → (ls : List Line) → IsBook text ls → IsOkAnd r (λ lines. lines.items ≡ ls)
every_book text (Ok lines) h ls b = one_book text lines.items ls h b
every_book text (Err f) h ls b = no_book text f h ls b

pub only_fault : (text : List ℕ) (r : Result (ArrayVec Line) Fault) → MatchResult r (λ lines. IsBook text lines.items) (λ f. BookFault text f) → IfErr r (λ f. IsOneFault text f)
only_fault text (Ok lines) h = tt
only_fault text (Err f) h = one_fault text f h
