-- The parts of a line and how they go together, for any grammar of words.
use Rattle.std.proofs.Common.{◌≡◌, ℕ, ◌≤◌, true, false, ◌⊎◌, List, [], ◌∷◌, ◌++◌, length, decimal, sym, refl, ap, ◌∙◌, subst, inl, inr, ⊎_elim, append_assoc, arith}
use Rattle.std.proofs.lemmas.Bool.{cond-true, cond-false, cases_Bool}
use Rattle.monitor.specs.declared.limit.Ticks.{Ticks}
use Rattle.stream.specs.Signals.{every_signal}
use Rattle.grammar.specs.declared.clause.ClauseNumber.{ClauseNumber}
use Rattle.grammar.specs.declared.fault.Cause.{Cause}
use Rattle.grammar.specs.declared.fault.Cause.TheVariants.{WordMissing, NumberOwed, WordNotAllowed}
use Rattle.grammar.specs.declared.token.Keyword.{Keyword}
use Rattle.grammar.specs.Words.{unwords}
use Rattle.grammar.specs.Numbers.{number_of, ticks_of, clause_of}
use Rattle.grammar.specs.Tokens.{key_word, signal_of}
use Rattle.grammar.specs.Grammar.{signal_word}
use Rattle.grammar.specs.Reading.{Ws, Read, got, bad, and_then, gives, made, refuse, or_bad, read_number, read_ticks, read_clause, read_signal, starts_by, if_next, read_key}
use Rattle.grammar.proofs.Same.{ticks_is, clause_is, made_read}
use Rattle.grammar.proofs.Spelled.{Digit, number_spelled, number_reads, signal_spelled, signal_reads, signal_digit}
use Rattle.grammar.proofs.Keys.{starts_spelled, starts_self, starts_digit}
use Rattle.grammar.proofs.Stops.{Front, Stop, Goes, then_got, stop_first, stop_both, one_got, one_stop, one_stop_number, stop_cons, stop_here, stop_none, stop_same}

abbrev pub Stops : {X : Type 0} → (Ws → Read X) → Type 0
Stops P = (ws : Ws) (c : Cause) (m : ℕ) → P ws ≡ bad c m → Stop P ws c m

abbrev pub Spells : {X : Type 0} → (Ws → Read X) → (X → Ws → Ws → Type 0) → Type 0
Spells {X} P S = (ws : Ws) (x : X) (rest : Ws) → P ws ≡ got x rest → S x ws rest

pub never_bad : {X : Type 0} (x : X) (rest : Ws) (c : Cause) (m : ℕ) → ◌≡◌ {A = Read X} (got x rest) (bad c m) → ⊥
never_bad x rest c m e = let z : ◌≡◌ {A = ℕ} 0 1 = cc in omega arith

-- one word, which spells a value
pub record Leaf {X : Type 0} (P : Ws → Read X) (word : X → List ℕ) : Type 0 where
  pub reads : (x : X) (any : Ws) → P (word x ∷ any) ≡ got x any
  pub takes : Spells P (λ x ws rest. ws ≡ word x ∷ rest)
  pub stops : Stops P
  pub sample : X

pub leaf_front : {X : Type 0} (P : Ws → Read X) (word : X → List ℕ) → Leaf P word → (ws : Ws) (x : X) (rest : Ws) → P ws ≡ got x rest → Front P ws x rest
leaf_front P word l ws x rest e = record { pre = word x ∷ []; split = l.takes ws x rest e; again = l.reads x }

leaf_goes : {X : Type 0} (P : Ws → Read X) (word : X → List ℕ) → Leaf P word → Goes P
leaf_goes P word l = record { more = word l.sample ∷ []; value = l.sample; ends = l.reads l.sample }

-- what follows: S says of a value, the words and those left that the first are spelled by the value, but for the last
pub record Tail {X : Type 0} (P : Ws → Read X) (S : X → Ws → Ws → Type 0) : Type 0 where
  pub stops : Stops P
  pub goes : Goes P
  pub takes : Spells P S

then_goes : {X Y : Type 0} (P : Ws → Read X) (Q : X → Ws → Read Y) → Goes P → ((x : X) → Goes (Q x)) → Goes (λ l. and_then (P l) Q)
then_goes P Q g h =
    let k = h g.value in
    record { more = g.more ++ k.more; value = k.value; ends = λ any. ap (λ l. and_then (P l) Q) (append_assoc g.more k.more any) ∙ ap (λ r. and_then r Q) (g.ends (k.more ++ any)) ∙ k.ends any }

-- a word, and what follows
pub leaf_tail : {X Y : Type 0} (P : Ws → Read X) (word : X → List ℕ) (Q : X → Ws → Read Y) (S : Y → Ws → Ws → Type 0) → Leaf P word → ((x : X) → Tail (Q x) (λ y ws rest. S y (word x ∷ ws) rest)) → Tail (λ l. and_then (P l) Q) S
leaf_tail P word Q S l q = record {
  stops = λ ws c m. stop_both P Q ws c m (l.stops ws) (leaf_front P word l ws) (λ x. (q x).goes) (λ x. (q x).stops);
  goes = then_goes P Q (leaf_goes P word l) (λ x. (q x).goes);
  takes = λ ws y rest e.
      let h = then_got (P ws) Q y rest e in
      subst (λ z. S y z rest) (sym (l.takes ws h.0 h.1.0 h.1.1.0)) ((q h.0).takes h.1.0 y rest h.1.1.1);
}

-- the end, where a value is made
pub made_tail : {X Y : Type 0} (f : X → Y) (x : X) (S : Y → Ws → Ws → Type 0) → ((rest : Ws) → S (f x) rest rest) → Tail (made f x) S
made_tail f x S s = record {
  stops = λ ws c m e. absurd (never_bad _ _ c m e);
  goes = record { more = []; value = f x; ends = λ any. refl };
  takes = λ ws y rest e.
      let ey : f x ≡ y = cc in
      let er : ws ≡ rest = cc in
      subst (λ z. S z ws rest) ey (subst (λ l. S (f x) ws l) er (s ws));
}

-- a value made of another
stop_map : {X Y : Type 0} (P : Ws → Read X) (f : X → Y) (ws : Ws) (c : Cause) (m : ℕ) → Stop P ws c m → Stop (λ l. and_then (P l) (made f)) ws c m
stop_map P f ws c m s = stop_first P (made f) ws c m s (λ x. record { more = []; value = f x; ends = λ any. refl })

map_bad : {X Y : Type 0} (r : Read X) (f : X → Y) (c : Cause) (m : ℕ) → and_then r (made f) ≡ bad c m → r ≡ bad c m
map_bad (got x rest) f c m e = absurd (never_bad _ _ c m e)
map_bad (bad d k) f c m e = cc

map_takes : {X Y : Type 0} (P : Ws → Read X) (f : X → Y) (R : X → Ws → Ws → Type 0) (S : Y → Ws → Ws → Type 0) → Spells P R → ((x : X) (ws rest : Ws) → R x ws rest → S (f x) ws rest) → Spells (λ l. and_then (P l) (made f)) S
map_takes P f R S p s ws y rest e =
    let h = then_got (P ws) (made f) y rest e in
    let same = h.1.1.1 in
    let ey : f h.0 ≡ y = cc in
    let er : h.1.0 ≡ rest = cc in
    subst (λ z. S z ws rest) ey (subst (λ l. S (f h.0) ws l) er (s h.0 ws h.1.0 (p ws h.0 h.1.0 h.1.1.0)))

pub map_tail : {X Y : Type 0} (P : Ws → Read X) (f : X → Y) (R : X → Ws → Ws → Type 0) (S : Y → Ws → Ws → Type 0) → Tail P R → ((x : X) (ws rest : Ws) → R x ws rest → S (f x) ws rest) → Tail (λ l. and_then (P l) (made f)) S
map_tail P f R S p s = record {
  stops = λ ws c m e. stop_map P f ws c m (p.stops ws c m (map_bad (P ws) f c m e));
  goes = record { more = p.goes.more; value = f p.goes.value; ends = λ any. ap (λ r. and_then r (made f)) (p.goes.ends any) };
  takes = map_takes P f R S p.takes s;
}

-- a choice by the next word

abbrev pub Refused : {X : Type 0} → (Ws → Read X) → List ℕ → Type 0
Refused P w = (any : Ws) → P (w ∷ any) ≡ bad WordNotAllowed (length (unwords (w ∷ any)))

-- what a reading that chooses by its first word does at a fault
abbrev At : {X : Type 0} → (Ws → Read X) → Type 0
At P = (w : List ℕ) (ws : Ws) (c : Cause) (m : ℕ) → P (w ∷ ws) ≡ bad c m → Stop (λ l. P (w ∷ l)) ws c m ⊎ Refused P w

pub record Choice {X : Type 0} (P : Ws → Read X) (S : X → Ws → Ws → Type 0) : Type 0 where
  pub at : At P
  pub digits : (v : List ℕ) → Digit v → Refused P v
  pub none : P [] ≡ bad WordMissing 0
  pub takes : Spells P S

at_if : {X : Type 0} (k : Keyword) (A B : Ws → Read X) → Stops A → At B → At (if_next k A B)
at_if k A B stops at w ws c m e =
    ⊎_elim
    (λ (t : starts_by k (w ∷ ws) ≡ true).
    let eq : (l : Ws) → if_next k A B (w ∷ l) ≡ A l = λ l. cond-true _ _ _ t in
    inl (stop_same (λ l. if_next k A B (w ∷ l)) A eq ws c m (stops ws c m (sym (eq ws) ∙ e))))
    (λ (t : starts_by k (w ∷ ws) ≡ false).
    let eq : (l : Ws) → if_next k A B (w ∷ l) ≡ B (w ∷ l) = λ l. cond-false _ _ _ t in
    ⊎_elim
    (λ s. inl (stop_same (λ l. if_next k A B (w ∷ l)) (λ l. B (w ∷ l)) eq ws c m s))
    (λ r. inr (λ any. eq any ∙ r any))
    (at w ws c m (sym (eq ws) ∙ e)))
    (cases_Bool (starts_by k (w ∷ ws)))

-- B may count on it that the keyword does not come
if_takes : {X : Type 0} (k : Keyword) (A B : Ws → Read X) (S : X → Ws → Ws → Type 0) → Spells A (λ x ws rest. S x (key_word k ∷ ws) rest) → ((ws : Ws) (x : X) (rest : Ws) → starts_by k ws ≡ false → B ws ≡ got x rest → S x ws rest) → Spells (if_next k A B) S
if_takes k A B S a b [] x rest e = b [] x rest refl e
if_takes k A B S a b (w ∷ ws) x rest e =
    ⊎_elim
    (λ (t : starts_by k (w ∷ ws) ≡ true). subst (λ v. S x (v ∷ ws) rest) (sym (starts_spelled k w ws t)) (a ws x rest (sym (cond-true _ _ _ t) ∙ e)))
    (λ (t : starts_by k (w ∷ ws) ≡ false). b (w ∷ ws) x rest t (sym (cond-false _ _ _ t) ∙ e))
    (cases_Bool (starts_by k (w ∷ ws)))

pub if_choice : {X : Type 0} (k : Keyword) (A B : Ws → Read X) (S : X → Ws → Ws → Type 0) → Tail A (λ x ws rest. S x (key_word k ∷ ws) rest) → Choice B S → Choice (if_next k A B) S
if_choice k A B S a b = record {
  at = at_if k A B a.stops b.at;
  digits = λ v d any. cond-false _ _ _ (starts_digit k v any d) ∙ b.digits v d any;
  none = b.none;
  takes = if_takes k A B S a.takes (λ ws x rest _. b.takes ws x rest);
}

refuse_takes : {X : Type 0} (S : X → Ws → Ws → Type 0) → Spells (refuse {X = X}) S
refuse_takes S [] x rest e = absurd (never_bad x rest _ _ (sym e))
refuse_takes S (w ∷ ws) x rest e = absurd (never_bad x rest _ _ (sym e))

pub refuse_choice : {X : Type 0} (S : X → Ws → Ws → Type 0) → Choice (refuse {X = X}) S
refuse_choice S = record { at = λ w ws c m e. inr (λ any. refl); digits = λ v d any. refl; none = refl; takes = refuse_takes S }

pub map_choice : {X Y : Type 0} (P : Ws → Read X) (f : X → Y) (R : X → Ws → Ws → Type 0) (S : Y → Ws → Ws → Type 0) → Choice P R → ((x : X) (ws rest : Ws) → R x ws rest → S (f x) ws rest) → Choice (λ l. and_then (P l) (made f)) S
map_choice P f R S p s = record {
  at = λ w ws c m e.
      ⊎_elim
      (λ t. inl (stop_map (λ l. P (w ∷ l)) f ws c m t))
      (λ r. inr (λ any. ap (λ z. and_then z (made f)) (r any)))
      (p.at w ws c m (map_bad (P (w ∷ ws)) f c m e));
  digits = λ v d any. ap (λ z. and_then z (made f)) (p.digits v d any);
  none = ap (λ z. and_then z (made f)) p.none;
  takes = map_takes P f R S p.takes s;
}

if_goes : {X : Type 0} (k : Keyword) (A B : Ws → Read X) → Goes A → Goes (if_next k A B)
if_goes k A B g = record { more = key_word k ∷ g.more; value = g.value; ends = λ any. cond-true _ _ _ (starts_self k (g.more ++ any)) ∙ g.ends any }

stops_at : {X : Type 0} (P : Ws → Read X) (S : X → Ws → Ws → Type 0) → Goes P → Choice P S → Stops P
stops_at P S g h [] c m e = stop_none P g c m h.none e
stops_at P S g h (w ∷ ws) c m e =
    ⊎_elim
    (λ s. stop_cons P (λ l. P (w ∷ l)) w (λ l. refl) ws c m s)
    (λ r. stop_here P g w ws c m e r h.digits)
    (h.at w ws c m e)

pub choice_tail : {X : Type 0} (k : Keyword) (A B : Ws → Read X) (S : X → Ws → Ws → Type 0) → Goes A → Choice (if_next k A B) S → Tail (if_next k A B) S
choice_tail k A B S g h =
    let goes = if_goes k A B g in
    record { stops = stops_at (if_next k A B) S goes h; goes = goes; takes = h.takes }

-- a part that may be left out
optional_stops : {X : Type 0} (k : Keyword) (A : Ws → Read X) (x : X) → Stops A → Stops (if_next k A (gives x))
optional_stops k A x stops [] c m e = absurd (never_bad _ _ c m e)
optional_stops k A x stops (w ∷ ws) c m e =
    ⊎_elim
    (λ (t : starts_by k (w ∷ ws) ≡ true).
    let eq : (l : Ws) → if_next k A (gives x) (w ∷ l) ≡ A l = λ l. cond-true _ _ _ t in
    stop_cons (if_next k A (gives x)) A w eq ws c m (stops ws c m (sym (eq ws) ∙ e)))
    (λ (t : starts_by k (w ∷ ws) ≡ false). absurd (never_bad _ _ c m (sym (cond-false _ _ _ t) ∙ e)))
    (cases_Bool (starts_by k (w ∷ ws)))

pub optional_tail : {X : Type 0} (k : Keyword) (A : Ws → Read X) (x : X) (S : X → Ws → Ws → Type 0) → Tail A (λ y ws rest. S y (key_word k ∷ ws) rest) → ((ws : Ws) → starts_by k ws ≡ false → S x ws ws) → Tail (if_next k A (gives x)) S
optional_tail k A x S a s = record {
  stops = optional_stops k A x a.stops;
  goes = if_goes k A (gives x) a.goes;
  takes = if_takes k A (gives x) S a.takes (λ ws y rest n e.
      let ey : x ≡ y = cc in
      let er : ws ≡ rest = cc in
      subst (λ z. S z ws rest) ey (subst (λ l. S x ws l) er (s ws n)));
}

-- the words

number_takes : (low high : ℕ) → high ≤ 999999999 → Spells (read_number low high) (λ n ws rest. (ws ≡ decimal n ∷ rest) × ((low ≤ n) × (n ≤ high)))
number_takes low high lim ws n rest e =
    let h = one_got NumberOwed (number_of low high) ws n rest e in
    let s = number_spelled low high h.0 n lim h.1.1 in
    (h.1.0 ∙ ap (λ w. w ∷ rest) s.0, (s.1, s.2))

pub read_number_lem : (low high n : ℕ) (rest : Ws) → high ≤ 999999999 → low ≤ n → n ≤ high → read_number low high (decimal n ∷ rest) ≡ got n rest
read_number_lem low high n rest lim l h = ap (or_bad NumberOwed (decimal n ∷ rest) rest) (number_reads low high n lim l h)

pub number_tail : (low high : ℕ) → low ≤ high → high ≤ 999999999 → Tail (read_number low high) (λ n ws rest. (ws ≡ decimal n ∷ rest) × ((low ≤ n) × (n ≤ high)))
number_tail low high h lim = record {
  stops = one_stop_number (number_of low high) low low (omega arith) (number_reads low high low lim (omega arith) h);
  goes = record { more = decimal low ∷ []; value = low; ends = λ any. read_number_lem low high low any lim (omega arith) h };
  takes = number_takes low high lim;
}

pub ticks_leaf : Leaf read_ticks (λ t. decimal t.value)
ticks_leaf =
    let n = number_tail 0 999999999 (omega arith) (omega arith) in
    let S : Ticks → Ws → Ws → Type 0 = λ t ws rest. ws ≡ decimal t.value ∷ rest in
    let t = map_tail (read_number 0 999999999) ticks_of (λ n ws rest. (ws ≡ decimal n ∷ rest) × ((0 ≤ n) × (n ≤ 999999999))) S n (λ n ws rest h. let up = h.1.1 in h.0 ∙ ap (λ k. decimal k ∷ rest) (omega arith)) in
    record {
      reads = λ x any. made_read ticks_of _ x.value any x (read_number_lem 0 999999999 x.value any (omega arith) (omega arith) x.small) (ticks_is x.value x refl);
      takes = t.takes;
      stops = t.stops;
      sample = ticks_of 0;
    }

pub clause_leaf : Leaf read_clause (λ k. decimal k.value)
clause_leaf =
    let n = number_tail 1 9999 (omega arith) (omega arith) in
    let S : ClauseNumber → Ws → Ws → Type 0 = λ k ws rest. ws ≡ decimal k.value ∷ rest in
    let t = map_tail (read_number 1 9999) clause_of (λ n ws rest. (ws ≡ decimal n ∷ rest) × ((1 ≤ n) × (n ≤ 9999))) S n (λ n ws rest h. let low = h.1.0 in let up = h.1.1 in h.0 ∙ ap (λ k. decimal k ∷ rest) (omega arith)) in
    record {
      reads = λ x any. made_read clause_of _ x.value any x (read_number_lem 1 9999 x.value any (omega arith) x.from x.upto) (clause_is x.value x refl);
      takes = t.takes;
      stops = t.stops;
      sample = clause_of 1;
    }

pub signal_leaf : Leaf read_signal signal_word
signal_leaf = record {
  reads = λ s any. ap (or_bad WordNotAllowed (signal_word s ∷ any) any) (signal_reads s);
  takes = λ ws s rest e. let h = one_got WordNotAllowed signal_of ws s rest e in h.1.0 ∙ ap (λ w. w ∷ rest) (signal_spelled h.0 s h.1.1);
  stops = one_stop signal_of (42 ∷ []) every_signal refl signal_digit;
  sample = every_signal;
}

pub key_leaf : (k : Keyword) → Leaf (read_key k) (λ _. key_word k)
key_leaf k =
    let end : Tail (gives {X = Unit {0}} tt) (λ u ws rest. key_word k ∷ ws ≡ key_word k ∷ rest) = made_tail (λ (u : Unit {0}). u) tt (λ u ws rest. key_word k ∷ ws ≡ key_word k ∷ rest) (λ rest. refl) in
    let t = choice_tail k (gives tt) refuse (λ u ws rest. ws ≡ key_word k ∷ rest) end.goes (if_choice k (gives tt) refuse (λ u ws rest. ws ≡ key_word k ∷ rest) end (refuse_choice (λ u ws rest. ws ≡ key_word k ∷ rest))) in
    record { reads = λ x any. cond-true _ _ _ (starts_self k any); takes = t.takes; stops = t.stops; sample = tt }
