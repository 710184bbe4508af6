-- Reading and spelling a line are each other's inverse, and a line that is none has a first fault.
use Rattle.std.proofs.Common.{◌≡◌, ℕ, ◌-◌, ◌<◌, ◌≤◌, true, false, List, [], ◌∷◌, ◌++◌, length, Some, None, codes, decimal, Option, sym, refl, ap, ◌∙◌, subst, inl, ⊎_elim, append_assoc, append-nil, arith}
use Rattle.std.specs.Str.Parse.{digits_value}
use Rattle.std.proofs.lemmas.Bool.{cond-true, cond-false, cases_Bool}
use Rattle.monitor.specs.declared.pattern.Pattern.{Pattern}
use Rattle.monitor.specs.declared.pattern.Pattern.TheVariants.{Never, NeverFrom, HoldLeast, HoldUnder, Repeat, Answer, Keep}
use Rattle.grammar.specs.declared.clause.ClauseNumber.{ClauseNumber}
use Rattle.grammar.specs.declared.tree.Term.{Term}
use Rattle.grammar.specs.declared.tree.Line.{Line}
use Rattle.grammar.specs.declared.fault.Cause.{Cause}
use Rattle.grammar.specs.declared.fault.Cause.TheVariants.{WordMissing, NumberOwed, WordNotAllowed}
use Rattle.grammar.specs.declared.token.Keyword.{Keyword}
use Rattle.grammar.specs.declared.token.Keyword.TheVariants as K
use Rattle.grammar.specs.Words.{unwords, words_of}
use Rattle.grammar.specs.Numbers.{number_of}
use Rattle.grammar.specs.Tokens.{keyword_of}
use Rattle.grammar.specs.Grammar.{term_words, second_words, allow_words, line_words, Allowed, Begins, Because, Above, NotAbove, FirstFault}
use Rattle.grammar.specs.Reading.{Ws, Read, got, bad, and_then, gives, made, read_number, read_clause, is_key, starts_by, if_next}
use Rattle.grammar.specs.Lines.{read_term, further_term, read_second, allowance, read_allow, line_end, whole_line, after_allow, after_second, after_first, after_number}
use Rattle.grammar.proofs.Spelled.{Digit, decimal_is, decimal_digits}
use Rattle.grammar.proofs.Keys.{starts_digit}
use Rattle.grammar.proofs.Stops.{Owed, Like, Halt, Near, then_bad, then_got, one_front, halt_first, halt_then, near_same, near_cons, halt_seen}
use Rattle.grammar.proofs.Parts.{Tail, never_bad, map_tail, optional_tail, number_tail, read_number_lem, clause_leaf, leaf_front}
use Rattle.grammar.proofs.Terms.{Fit, Said, term_tail, term_reads, term_seen}

-- a line
abbrev pub read_line : Ws → Read Line
read_line ws = and_then (read_clause ws) after_number

-- what was read is spelled so

abbrev AllowSpelled : Option ℕ → Ws → Ws → Type 0
AllowSpelled a ws rest = (ws ≡ allow_words a ++ rest) × Allowed a

allow_tail : Tail read_allow AllowSpelled
allow_tail =
    optional_tail K.Allow allowance None AllowSpelled
    (map_tail (read_number 0 255) Some (λ n ws rest. (ws ≡ decimal n ∷ rest) × ((0 ≤ n) × (n ≤ 255))) (λ a ws rest. AllowSpelled a (codes "allow" ∷ ws) rest) (number_tail 0 255 (omega arith) (omega arith)) (λ n ws rest h. (ap (λ l. codes "allow" ∷ l) h.0, h.1.1)))
    (λ ws n. (refl, tt))

abbrev SecondSpelled : Option Term → Ws → Ws → Type 0
SecondSpelled s ws rest = ws ≡ second_words s ++ rest

second_tail : Tail read_second SecondSpelled
second_tail =
    optional_tail K.Or further_term None SecondSpelled
    (map_tail read_term Some Said (λ s ws rest. SecondSpelled s (codes "or" ∷ ws) rest) term_tail (λ t ws rest h. ap (λ l. codes "or" ∷ l) h.0))
    (λ ws n. refl)

end_takes : (l m : Line) (ws rest : Ws) → line_end l ws ≡ got m rest → (l ≡ m) × (ws ≡ []) × (rest ≡ [])
end_takes l m [] rest e = (cc, refl, cc)
end_takes l m (w ∷ ws) rest e = absurd (never_bad m rest _ _ (sym e))

pub line_takes : (ws : Ws) (l : Line) (rest : Ws) → read_line ws ≡ got l rest → (ws ≡ line_words l) × Allowed l.allow × (rest ≡ [])
line_takes ws l rest e =
    let h = then_got (read_clause ws) after_number l rest e in
    let q = clause_leaf.takes ws h.0 h.1.0 h.1.1.0 in
    let g = then_got (read_term h.1.0) (after_first h.0) l rest h.1.1.1 in
    let f = term_tail.takes h.1.0 g.0 g.1.0 g.1.1.0 in
    let k = then_got (read_second g.1.0) (after_second h.0 g.0) l rest g.1.1.1 in
    let s = second_tail.takes g.1.0 k.0 k.1.0 k.1.1.0 in
    let j = then_got (read_allow k.1.0) (after_allow h.0 g.0 k.0) l rest k.1.1.1 in
    let a = allow_tail.takes k.1.0 j.0 j.1.0 j.1.1.0 in
    let d = end_takes (whole_line h.0 g.0 k.0 j.0) l j.1.0 rest j.1.1.1 in
    let last : k.1.0 ≡ allow_words j.0 = a.0 ∙ ap (λ z. allow_words j.0 ++ z) d.1 ∙ append-nil (allow_words j.0) in
    let split : ws ≡ line_words (whole_line h.0 g.0 k.0 j.0) = q ∙ ap (λ z. decimal h.0.value ∷ z) (f.0 ∙ ap (λ z. term_words g.0 ++ z) (s ∙ ap (λ z. second_words k.0 ++ z) last)) in
    let both = subst (λ x. (ws ≡ line_words x) × Allowed x.allow) d.0 (split, a.1) in
    (both.0, both.1, d.2)

-- what is spelled so is read

fit_rest : (y : Pattern) (s : Option Term) (a : Option ℕ) → Fit y (second_words s ++ allow_words a)
unfolding keyword_of
fit_rest (Never p) None None = refl
fit_rest (Never p) None (Some n) = refl
fit_rest (Never p) (Some t) a = refl
fit_rest (NeverFrom p t) s a = tt
fit_rest (HoldLeast p t) s a = tt
fit_rest (HoldUnder p t) s a = tt
fit_rest (Repeat p t) s a = tt
fit_rest (Answer p q t) s a = tt
fit_rest (Keep q t p) s a = tt

allow_back : (n : ClauseNumber) (f : Term) (s : Option Term) (a : Option ℕ) → Allowed a → after_second n f s (allow_words a) ≡ got (whole_line n f s a) []
unfolding keyword_of
allow_back n f s None h = refl
allow_back n f s (Some k) h = ap (λ r. and_then (and_then r (made Some)) (after_allow n f s)) (read_number_lem 0 255 k [] (omega arith) (omega arith) h)

second_none : (a : Option ℕ) → read_second (allow_words a) ≡ got None (allow_words a)
unfolding keyword_of
second_none None = refl
second_none (Some k) = refl

second_back : (n : ClauseNumber) (f : Term) (s : Option Term) (a : Option ℕ) → Allowed a → after_first n f (second_words s ++ allow_words a) ≡ got (whole_line n f s a) []
unfolding keyword_of
second_back n f None a h = ap (λ r. and_then r (after_second n f)) (second_none a) ∙ allow_back n f None a h
second_back n f (Some t) a h = ap (λ r. and_then (and_then r (made Some)) (after_second n f)) (term_reads t (allow_words a) (fit_rest t.pattern None a)) ∙ allow_back n f (Some t) a h

pub line_reads : (l : Line) → Allowed l.allow → read_line (line_words l) ≡ got l []
line_reads l h =
    ap (λ r. and_then r after_number) (clause_leaf.reads l.number (term_words l.first ++ (second_words l.second ++ allow_words l.allow))) ∙ ap (λ r. and_then r (after_first l.number)) (term_reads l.first (second_words l.second ++ allow_words l.allow) (fit_rest l.first.pattern l.second l.allow)) ∙ second_back l.number l.first l.second l.allow h

-- where the reading of a line stops

then_made : {X Y Z : Type 0} (r : Read X) (g : X → Y) (Q : Y → Ws → Read Z) → and_then (and_then r (made g)) Q ≡ and_then r (λ x. Q (g x))
then_made (got x rest) g Q = refl
then_made (bad c m) g Q = refl

if_like : {X : Type 0} (k : Keyword) (A B : Ws → Read X) (w : List ℕ) (ws : Ws) → starts_by k (w ∷ ws) ≡ false → (l : Ws) → Like (w ∷ ws) l → if_next k A B l ≡ B l
if_like k A B w ws t [] like = refl
if_like k A B w ws t (v ∷ l) like =
    ⊎_elim
    (λ (e : v ≡ w). cond-false _ _ _ (ap (λ u. is_key k (keyword_of u)) e ∙ t))
    (λ (d : Digit v). cond-false _ _ _ (starts_digit k v l d))
    like

end_near : (n : ClauseNumber) (f : Term) (s : Option Term) (a : Option ℕ) (ws : Ws) (c : Cause) (m : ℕ) → after_allow n f s a ws ≡ bad c m → Near (after_allow n f s a) ws c m
end_near n f s a [] c m e = absurd (never_bad _ _ c m e)
end_near n f s a (w ∷ ws) c m e =
    let d : WordNotAllowed ≡ c = cc in
    let k : m ≡ length (unwords (w ∷ ws)) = cc in
    subst (λ d. Near (after_allow n f s a) (w ∷ ws) d m) d (record {
      halt = record { pre = []; rest = w ∷ ws; more = []; value = whole_line n f s a; split = refl; place = k; owed = (λ any. refl, λ v _ any. refl); ends = refl };
      like = tt;
    })

allowed_halt : (n : ClauseNumber) (f : Term) (s : Option Term) (ws : Ws) (c : Cause) (m : ℕ) → and_then (read_number 0 255 ws) (λ a. after_allow n f s (Some a)) ≡ bad c m → Halt (λ l. and_then (read_number 0 255 l) (λ a. after_allow n f s (Some a))) ws c m
allowed_halt n f s ws c m e =
    let Q : ℕ → Ws → Read Line = λ a. after_allow n f s (Some a) in
    ⊎_elim
    (λ (b : read_number 0 255 ws ≡ bad c m). halt_first (read_number 0 255) Q ws c m ((number_tail 0 255 (omega arith) (omega arith)).stops ws c m b) (λ a. ([], (whole_line n f s (Some a), refl))))
    (λ h. halt_then (read_number 0 255) Q ws h.0 h.1.0 c m (one_front NumberOwed (number_of 0 255) ws h.0 h.1.0 h.1.1.0) (end_near n f s (Some h.0) h.1.0 c m h.1.1.1).halt)
    (then_bad (read_number 0 255 ws) Q c m e)

second_near : (n : ClauseNumber) (f : Term) (s : Option Term) (ws : Ws) (c : Cause) (m : ℕ) → after_second n f s ws ≡ bad c m → Near (after_second n f s) ws c m
second_near n f s [] c m e = absurd (never_bad _ _ c m e)
second_near n f s (w ∷ ws) c m e =
    ⊎_elim
    (λ (t : starts_by K.Allow (w ∷ ws) ≡ true).
    let Q : Ws → Read Line = λ l. and_then (read_number 0 255 l) (λ a. after_allow n f s (Some a)) in
    let eq : (l : Ws) → after_second n f s (w ∷ l) ≡ Q l = λ l. ap (λ r. and_then r (after_allow n f s)) (cond-true _ _ _ t) ∙ then_made (read_number 0 255 l) Some (after_allow n f s) in
    near_cons (after_second n f s) Q w eq ws c m (allowed_halt n f s ws c m (sym (eq ws) ∙ e)))
    (λ (t : starts_by K.Allow (w ∷ ws) ≡ false).
    let eq : (l : Ws) → Like (w ∷ ws) l → after_second n f s l ≡ after_allow n f s None l = λ l k. ap (λ r. and_then r (after_allow n f s)) (if_like K.Allow allowance (gives None) w ws t l k) in
    near_same (after_second n f s) (after_allow n f s None) (w ∷ ws) c m eq (end_near n f s None (w ∷ ws) c m (sym (eq (w ∷ ws) (inl refl)) ∙ e)))
    (cases_Bool (starts_by K.Allow (w ∷ ws)))

further_halt : (n : ClauseNumber) (f : Term) (ws : Ws) (c : Cause) (m : ℕ) → and_then (read_term ws) (λ t. after_second n f (Some t)) ≡ bad c m → Halt (λ l. and_then (read_term l) (λ t. after_second n f (Some t))) ws c m
further_halt n f ws c m e =
    let Q : Term → Ws → Read Line = λ t. after_second n f (Some t) in
    ⊎_elim
    (λ (b : read_term ws ≡ bad c m). halt_first read_term Q ws c m (term_tail.stops ws c m b) (λ t. ([], (whole_line n f (Some t) None, refl))))
    (λ h. halt_seen read_term Q ws h.0 h.1.0 c m (term_seen ws h.0 h.1.0 h.1.1.0) (second_near n f (Some h.0) h.1.0 c m h.1.1.1))
    (then_bad (read_term ws) Q c m e)

first_near : (n : ClauseNumber) (f : Term) (ws : Ws) (c : Cause) (m : ℕ) → after_first n f ws ≡ bad c m → Near (after_first n f) ws c m
first_near n f [] c m e = absurd (never_bad _ _ c m e)
first_near n f (w ∷ ws) c m e =
    ⊎_elim
    (λ (t : starts_by K.Or (w ∷ ws) ≡ true).
    let Q : Ws → Read Line = λ l. and_then (read_term l) (λ t. after_second n f (Some t)) in
    let eq : (l : Ws) → after_first n f (w ∷ l) ≡ Q l = λ l. ap (λ r. and_then r (after_second n f)) (cond-true _ _ _ t) ∙ then_made (read_term l) Some (after_second n f) in
    near_cons (after_first n f) Q w eq ws c m (further_halt n f ws c m (sym (eq ws) ∙ e)))
    (λ (t : starts_by K.Or (w ∷ ws) ≡ false).
    let eq : (l : Ws) → Like (w ∷ ws) l → after_first n f l ≡ after_second n f None l = λ l k. ap (λ r. and_then r (after_second n f)) (if_like K.Or further_term (gives None) w ws t l k) in
    near_same (after_first n f) (after_second n f None) (w ∷ ws) c m eq (second_near n f None (w ∷ ws) c m (sym (eq (w ∷ ws) (inl refl)) ∙ e)))
    (cases_Bool (starts_by K.Or (w ∷ ws)))

number_halt : (n : ClauseNumber) (ws : Ws) (c : Cause) (m : ℕ) → after_number n ws ≡ bad c m → Halt (after_number n) ws c m
number_halt n ws c m e =
    ⊎_elim
    (λ (b : read_term ws ≡ bad c m). halt_first read_term (after_first n) ws c m (term_tail.stops ws c m b) (λ f. ([], (whole_line n f None None, refl))))
    (λ h. halt_seen read_term (after_first n) ws h.0 h.1.0 c m (term_seen ws h.0 h.1.0 h.1.1.0) (first_near n h.0 h.1.0 c m h.1.1.1))
    (then_bad (read_term ws) (after_first n) c m e)

line_goes : (n : ClauseNumber) → (more : Ws) × ((l : Line) × (after_number n more ≡ got l []))
line_goes n =
    let g = term_tail.goes in
    (g.more, (whole_line n g.value None None, ap (λ l. and_then (read_term l) (after_first n)) (sym (append-nil g.more)) ∙ ap (λ z. and_then z (after_first n)) (g.ends [])))

line_halt : (ws : Ws) (c : Cause) (m : ℕ) → read_line ws ≡ bad c m → Halt read_line ws c m
line_halt ws c m e =
    ⊎_elim
    (λ (b : read_clause ws ≡ bad c m). halt_first read_clause after_number ws c m (clause_leaf.stops ws c m b) line_goes)
    (λ h. halt_then read_clause after_number ws h.0 h.1.0 c m (leaf_front read_clause _ clause_leaf ws h.0 h.1.0 h.1.1.0) (number_halt h.0 h.1.0 c m h.1.1.1))
    (then_bad (read_clause ws) after_number c m e)

-- the first fault

not_both : {X : Type 0} (P : Ws → Read X) (ws : Ws) (x : X) (rest : Ws) (c : Cause) (m : ℕ) → P ws ≡ got x rest → P ws ≡ bad c m → ⊥
not_both P ws x rest c m p q = never_bad x rest c m (sym p ∙ q)

-- no line goes on so
blocked : (pre : Ws) (w : List ℕ) (c : Cause) → ((any : Ws) → read_line (pre ++ w ∷ any) ≡ bad c (length (unwords (w ∷ any)))) → Begins (pre ++ w ∷ []) → ⊥
blocked pre w c stuck (l, (fits, (more, same))) =
    not_both read_line (line_words l) l [] c (length (unwords (w ∷ more))) (line_reads l fits) (ap read_line (same ∙ append_assoc pre (w ∷ []) more) ∙ stuck more)

because : (pre more rest : Ws) (c : Cause) (m : ℕ) → read_line (pre ++ rest) ≡ bad c m → Owed read_line pre more rest c → Begins (pre ++ more) → Because pre rest c
because pre more [] WordMissing m e o b = λ (l, (fits, same)). not_both read_line pre l [] WordMissing m (ap read_line (sym same) ∙ line_reads l fits) (ap read_line (sym (append-nil pre)) ∙ e)
because pre more [] WordNotAllowed m e o b = o
because pre more [] NumberOwed m e o b = o
because pre more (w ∷ r) WordMissing m e o b = o
because pre more (w ∷ r) WordNotAllowed m e o b = (blocked pre w WordNotAllowed o.0, λ n small. blocked pre (decimal n) WordNotAllowed (o.1 (decimal n) (decimal_digits n small)))
because pre more (w ∷ r) NumberOwed m e o (l, (fits, (end, same))) =
    let n = o.1.0 in
    let us = o.1.1.1.0 in
    (blocked pre w NumberOwed o.0, (n, (o.1.1.0, (l, (fits, (us ++ end, same ∙ ap (λ z. (pre ++ z) ++ end) o.1.1.1.1 ∙ append_assoc pre (decimal n ∷ us) end ∙ sym (append_assoc pre (decimal n ∷ []) (us ++ end))))))))

-- the clause number of what a line begins with
pub number_is : (l : Line) → digits_value 10 (decimal l.number.value) ≡ l.number.value
number_is l = let h = l.number.upto in decimal_is l.number.value (omega arith)

above : (k : ℕ) (ws pre rest : Ws) → ws ≡ pre ++ rest → Begins pre → ((n : ClauseNumber) (mid : Ws) → read_clause ws ≡ got n mid → k < n.value) → Above k pre
above k ws [] rest split b rises = tt
above k ws (w ∷ pre) rest split (l, (fits, (more, same))) rises =
    let first : decimal l.number.value ≡ w = cc in
    let up = rises l.number (pre ++ rest) (ap read_clause (split ∙ ap (λ v. v ∷ (pre ++ rest)) (sym first)) ∙ clause_leaf.reads l.number (pre ++ rest)) in
    subst (λ n. k < n) (sym (number_is l) ∙ ap (digits_value 10) first) up

pub first_fault : (k : ℕ) (line : List ℕ) (c : Cause) (place : ℕ) → place ≤ length line → read_line (words_of line) ≡ bad c (length line - place) → ((n : ClauseNumber) (mid : Ws) → read_clause (words_of line) ≡ got n mid → k < n.value) → FirstFault k line c place
first_fault k line c place inside e rises =
    let s = line_halt (words_of line) c (length line - place) e in
    let l = line_takes (s.pre ++ s.more) s.value [] s.ends in
    let whole : Begins (s.pre ++ s.more) = (s.value, (l.1, ([], sym l.0 ∙ sym (append-nil (s.pre ++ s.more))))) in
    let begins : Begins s.pre = (s.value, (l.1, (s.more, sym l.0))) in
    record {
      pre = s.pre;
      rest = s.rest;
      words = s.split;
      begins = begins;
      above = above k (words_of line) s.pre s.rest s.split begins rises;
      because = because s.pre s.more s.rest c (length line - place) (ap read_line (sym s.split) ∙ e) s.owed whole;
      place_is = omega (arith, s.place);
    }

-- a clause number that is not above k
pub not_above : (k : ℕ) (line : List ℕ) (n : ClauseNumber) (mid : Ws) → read_clause (words_of line) ≡ got n mid → n.value ≤ k → NotAbove k line
not_above k line n mid e low =
    let g = line_goes n in
    let l = line_takes (decimal n.value ∷ g.0) g.1.0 [] (ap (λ r. and_then r after_number) (clause_leaf.reads n g.0) ∙ g.1.1) in
    let h = n.upto in
    record {
      first = decimal n.value;
      rest = mid;
      words = clause_leaf.takes (words_of line) n mid e;
      begins = (g.1.0, (l.1, (g.0, sym l.0)));
      low = subst (λ v. v ≤ k) (sym (decimal_is n.value (omega arith))) low;
    }
