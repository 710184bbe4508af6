-- Where reading stops: what was read goes on to a whole reading, and the word that stopped it stops every other with the same front.
use Rattle.std.proofs.Common.{◌≡◌, ℕ, ◌≤◌, ◌⊎◌, List, [], ◌∷◌, ◌++◌, length, Some, None, decimal, Option, sym, refl, ap, ◌∙◌, subst, inl, inr, ⊎_elim, append_assoc, arith}
use Rattle.grammar.specs.declared.fault.Cause.{Cause}
use Rattle.grammar.specs.declared.fault.Cause.TheVariants.{WordNotAllowed, WordMissing, NumberOwed}
use Rattle.grammar.specs.Words.{unwords}
use Rattle.grammar.specs.Reading.{Ws, Read, got, bad, and_then, or_bad, one}
use Rattle.grammar.proofs.Spelled.{Digit}

-- a reading that ends at a word of its own, whatever follows
pub record Front {X : Type 0} (P : Ws → Read X) (ws : Ws) (x : X) (rest : Ws) : Type 0 where
  pub pre : Ws
  pub split : ws ≡ pre ++ rest
  pub again : (any : Ws) → P (pre ++ any) ≡ got x any

abbrev pub Owed : {X : Type 0} → (Ws → Read X) → Ws → Ws → Ws → Cause → Type 0
Owed P pre more [] WordMissing = Unit {0}
Owed P pre more [] WordNotAllowed = ⊥
Owed P pre more [] NumberOwed = ⊥
Owed P pre more (w ∷ r) WordMissing = ⊥
Owed P pre more (w ∷ r) WordNotAllowed = ((any : Ws) → P (pre ++ w ∷ any) ≡ bad WordNotAllowed (length (unwords (w ∷ any)))) × ((v : List ℕ) → Digit v → (any : Ws) → P (pre ++ v ∷ any) ≡ bad WordNotAllowed (length (unwords (v ∷ any))))
Owed P pre more (w ∷ r) NumberOwed = ((any : Ws) → P (pre ++ w ∷ any) ≡ bad NumberOwed (length (unwords (w ∷ any)))) × ((n : ℕ) × ((n ≤ 999999999) × ((us : Ws) × (more ≡ decimal n ∷ us))))

-- a refusal after pre, which some words `more` would complete, so that the reading ends as E says
pub record StopBy {X : Type 0} (E : Ws → Ws → X → Type 0) (P : Ws → Read X) (ws : Ws) (c : Cause) (m : ℕ) : Type 0 where
  pub pre : Ws
  pub rest : Ws
  pub more : Ws
  pub value : X
  pub split : ws ≡ pre ++ rest
  pub place : m ≡ length (unwords rest)
  pub owed : Owed P pre more rest c
  pub ends : E pre more value

-- whatever follows
abbrev pub Stop : {X : Type 0} → (Ws → Read X) → Ws → Cause → ℕ → Type 0
Stop {X} P ws c m = StopBy {X = X} (λ pre more value. (any : Ws) → P (pre ++ (more ++ any)) ≡ got value any) P ws c m

-- where the line ends
abbrev pub Halt : {X : Type 0} → (Ws → Read X) → Ws → Cause → ℕ → Type 0
Halt {X} P ws c m = StopBy {X = X} (λ pre more value. P (pre ++ more) ≡ got value []) P ws c m

pub record Goes {X : Type 0} (P : Ws → Read X) : Type 0 where
  pub more : Ws
  pub value : X
  pub ends : (any : Ws) → P (more ++ any) ≡ got value any

pub then_bad : {X Y : Type 0} (s : Read X) (Q : X → Ws → Read Y) (c : Cause) (m : ℕ) → and_then s Q ≡ bad c m → (s ≡ bad c m) ⊎ ((x : X) × ((rest : Ws) × ((s ≡ got x rest) × (Q x rest ≡ bad c m))))
then_bad (got x rest) Q c m e = inr (x, (rest, (refl, e)))
then_bad (bad d k) Q c m e = inl cc

pub then_got : {X Y : Type 0} (s : Read X) (Q : X → Ws → Read Y) (y : Y) (end : Ws) → and_then s Q ≡ got y end → (x : X) × ((rest : Ws) × ((s ≡ got x rest) × (Q x rest ≡ got y end)))
then_got (got x rest) Q y end e = (x, (rest, (refl, e)))
then_got (bad d k) Q y end e = let z : ◌≡◌ {A = ℕ} 0 1 = cc in absurd (omega arith)

-- after words that were read
owed_cut : {X : Type 0} (P A : Ws → Read X) (F : Ws) → ((l : Ws) → P (F ++ l) ≡ A l) → (pre more rest : Ws) (c : Cause) → Owed A pre more rest c → Owed P (F ++ pre) more rest c
owed_cut P A F eq pre more [] WordMissing o = tt
owed_cut P A F eq pre more [] WordNotAllowed o = o
owed_cut P A F eq pre more [] NumberOwed o = o
owed_cut P A F eq pre more (v ∷ r) WordMissing o = o
owed_cut P A F eq pre more (v ∷ r) WordNotAllowed o = (λ any. ap P (append_assoc F pre (v ∷ any)) ∙ eq (pre ++ v ∷ any) ∙ o.0 any, λ u d any. ap P (append_assoc F pre (u ∷ any)) ∙ eq (pre ++ u ∷ any) ∙ o.1 u d any)
owed_cut P A F eq pre more (v ∷ r) NumberOwed o = (λ any. ap P (append_assoc F pre (v ∷ any)) ∙ eq (pre ++ v ∷ any) ∙ o.0 any, o.1)

-- a stop of A is one of P, where P goes on as A after the words F
by_cut : {X : Type 0} (D E : Ws → Ws → X → Type 0) (P A : Ws → Read X) (F : Ws) → ((l : Ws) → P (F ++ l) ≡ A l) → ((pre more : Ws) (value : X) → D pre more value → E (F ++ pre) more value)
    → (ws : Ws) (c : Cause) (m : ℕ) → StopBy D A ws c m → StopBy E P (F ++ ws) c m
by_cut D E P A F eq on ws c m s = record {
  pre = F ++ s.pre;
  rest = s.rest;
  more = s.more;
  value = s.value;
  split = ap (λ l. F ++ l) s.split ∙ sym (append_assoc F s.pre s.rest);
  place = s.place;
  owed = owed_cut P A F eq s.pre s.more s.rest c s.owed;
  ends = on s.pre s.more s.value s.ends;
}

stop_cut : {X : Type 0} (P A : Ws → Read X) (F : Ws) → ((l : Ws) → P (F ++ l) ≡ A l) → (ws : Ws) (c : Cause) (m : ℕ) → Stop A ws c m → Stop P (F ++ ws) c m
stop_cut P A F eq = by_cut _ _ P A F eq (λ pre more value h any. ap P (append_assoc F pre (more ++ any)) ∙ eq (pre ++ (more ++ any)) ∙ h any)

-- a stop in the second of two readings, where the first does not look ahead
stop_then : {X Y : Type 0} (P : Ws → Read X) (Q : X → Ws → Read Y) (ws : Ws) (x : X) (mid : Ws) (c : Cause) (m : ℕ) → Front P ws x mid → Stop (Q x) mid c m → Stop (λ l. and_then (P l) Q) ws c m
stop_then P Q ws x mid c m f s =
    subst (λ l. Stop (λ z. and_then (P z) Q) l c m) (sym f.split)
    (stop_cut (λ l. and_then (P l) Q) (Q x) f.pre (λ l. ap (λ r. and_then r Q) (f.again l)) mid c m s)

-- a stop in the first of two readings
owed_first : {X Y : Type 0} (P : Ws → Read X) (Q : X → Ws → Read Y) (pre more extra rest : Ws) (c : Cause) → Owed P pre more rest c → Owed (λ ws. and_then (P ws) Q) pre (more ++ extra) rest c
owed_first P Q pre more extra [] WordMissing o = tt
owed_first P Q pre more extra [] WordNotAllowed o = o
owed_first P Q pre more extra [] NumberOwed o = o
owed_first P Q pre more extra (w ∷ r) WordMissing o = o
owed_first P Q pre more extra (w ∷ r) WordNotAllowed o = (λ any. ap (λ s. and_then s Q) (o.0 any), λ v d any. ap (λ s. and_then s Q) (o.1 v d any))
owed_first P Q pre more extra (w ∷ r) NumberOwed o = (λ any. ap (λ s. and_then s Q) (o.0 any), (o.1.0, (o.1.1.0, (o.1.1.1.0 ++ extra, ap (λ l. l ++ extra) o.1.1.1.1))))

pub stop_first : {X Y : Type 0} (P : Ws → Read X) (Q : X → Ws → Read Y) (ws : Ws) (c : Cause) (m : ℕ) → Stop P ws c m → ((x : X) → Goes (Q x)) → Stop (λ l. and_then (P l) Q) ws c m
stop_first P Q ws c m s goes =
    let g = goes s.value in
    record {
      pre = s.pre;
      rest = s.rest;
      more = s.more ++ g.more;
      value = g.value;
      split = s.split;
      place = s.place;
      owed = owed_first P Q s.pre s.more g.more s.rest c s.owed;
      ends = λ any. ap (λ l. and_then (P (s.pre ++ l)) Q) (append_assoc s.more g.more any) ∙ ap (λ r. and_then r Q) (s.ends (g.more ++ any)) ∙ g.ends any;
    }

-- both together
pub stop_both : {X Y : Type 0} (P : Ws → Read X) (Q : X → Ws → Read Y) (ws : Ws) (c : Cause) (m : ℕ) → ((c : Cause) (m : ℕ) → P ws ≡ bad c m → Stop P ws c m) → ((x : X) (rest : Ws) → P ws ≡ got x rest → Front P ws x rest) → ((x : X) → Goes (Q x)) → ((x : X) (mid : Ws) (c : Cause) (m : ℕ) → Q x mid ≡ bad c m → Stop (Q x) mid c m) → and_then (P ws) Q ≡ bad c m → Stop (λ l. and_then (P l) Q) ws c m
stop_both P Q ws c m stop front goes next e =
    ⊎_elim
    (λ (b : P ws ≡ bad c m). stop_first P Q ws c m (stop c m b) goes)
    (λ h. stop_then P Q ws h.0 h.1.0 c m (front h.0 h.1.0 h.1.1.0) (next h.0 h.1.0 c m h.1.1.1))
    (then_bad (P ws) Q c m e)

-- one word

orbad_got : {X : Type 0} (c : Cause) (all more : Ws) (o : Option X) (x : X) (rest : Ws) → or_bad c all more o ≡ got x rest → (o ≡ Some x) × (more ≡ rest)
orbad_got c all more (Some y) x rest e = (cc, cc)
orbad_got c all more None x rest e = let z : ◌≡◌ {A = ℕ} 0 1 = cc in absurd (omega arith)

orbad_bad : {X : Type 0} (c : Cause) (all more : Ws) (o : Option X) (d : Cause) (m : ℕ) → or_bad c all more o ≡ bad d m → (o ≡ None) × (c ≡ d) × (length (unwords all) ≡ m)
orbad_bad c all more (Some y) d m e = let z : ◌≡◌ {A = ℕ} 0 1 = cc in absurd (omega arith)
orbad_bad c all more None d m e = (refl, cc, cc)

pub one_got : {X : Type 0} (c : Cause) (f : List ℕ → Option X) (ws : Ws) (x : X) (rest : Ws) → one c f ws ≡ got x rest → (w : List ℕ) × ((ws ≡ w ∷ rest) × (f w ≡ Some x))
one_got c f [] x rest e = let z : ◌≡◌ {A = ℕ} 0 1 = cc in absurd (omega arith)
one_got c f (w ∷ ws) x rest e = let h = orbad_got c (w ∷ ws) ws (f w) x rest e in (w, (ap (λ l. w ∷ l) h.1, h.0))

pub one_front : {X : Type 0} (c : Cause) (f : List ℕ → Option X) (ws : Ws) (x : X) (rest : Ws) → one c f ws ≡ got x rest → Front (one c f) ws x rest
one_front c f ws x rest e =
    let h = one_got c f ws x rest e in
    record { pre = h.0 ∷ []; split = h.1.0; again = λ any. ap (or_bad c (h.0 ∷ any) any) h.1.1 }

pub one_stop : {X : Type 0} (f : List ℕ → Option X) (v : List ℕ) (x : X) → f v ≡ Some x → ((w : List ℕ) → Digit w → f w ≡ None) → (ws : Ws) (c : Cause) (m : ℕ) → one WordNotAllowed f ws ≡ bad c m → Stop (one WordNotAllowed f) ws c m
one_stop f v x ok digits [] c m e =
    let d : WordMissing ≡ c = cc in
    let k : 0 ≡ m = cc in
    subst (λ d. Stop (one WordNotAllowed f) [] d m) d (subst (λ k. Stop (one WordNotAllowed f) [] WordMissing k) k (record { pre = []; rest = []; more = v ∷ []; value = x; split = refl; place = refl; owed = tt; ends = λ any. ap (or_bad WordNotAllowed (v ∷ any) any) ok }))
one_stop f v x ok digits (w ∷ ws) c m e =
    let h = orbad_bad WordNotAllowed (w ∷ ws) ws (f w) c m e in
    subst (λ d. Stop (one WordNotAllowed f) (w ∷ ws) d m) h.1 (record { pre = []; rest = w ∷ ws; more = v ∷ []; value = x; split = refl; place = sym h.2; owed = (λ any. ap (or_bad WordNotAllowed (w ∷ any) any) h.0, λ u d any. ap (or_bad WordNotAllowed (u ∷ any) any) (digits u d)); ends = λ any. ap (or_bad WordNotAllowed (v ∷ any) any) ok })

pub one_stop_number : (f : List ℕ → Option ℕ) (n x : ℕ) → n ≤ 999999999 → f (decimal n) ≡ Some x → (ws : Ws) (c : Cause) (m : ℕ) → one NumberOwed f ws ≡ bad c m → Stop (one NumberOwed f) ws c m
one_stop_number f n x small ok [] c m e =
    let d : WordMissing ≡ c = cc in
    let k : 0 ≡ m = cc in
    subst (λ d. Stop (one NumberOwed f) [] d m) d (subst (λ k. Stop (one NumberOwed f) [] WordMissing k) k (record { pre = []; rest = []; more = decimal n ∷ []; value = x; split = refl; place = refl; owed = tt; ends = λ any. ap (or_bad NumberOwed (decimal n ∷ any) any) ok }))
one_stop_number f n x small ok (w ∷ ws) c m e =
    let h = orbad_bad NumberOwed (w ∷ ws) ws (f w) c m e in
    subst (λ d. Stop (one NumberOwed f) (w ∷ ws) d m) h.1 (record { pre = []; rest = w ∷ ws; more = decimal n ∷ []; value = x; split = refl; place = sym h.2; owed = (λ any. ap (or_bad NumberOwed (w ∷ any) any) h.0, (n, (small, ([], refl)))); ends = λ any. ap (or_bad NumberOwed (decimal n ∷ any) any) ok })

-- after a word that chose the way
pub stop_cons : {X : Type 0} (P A : Ws → Read X) (w : List ℕ) → ((l : Ws) → P (w ∷ l) ≡ A l) → (ws : Ws) (c : Cause) (m : ℕ) → Stop A ws c m → Stop P (w ∷ ws) c m
stop_cons P A w eq = stop_cut P A (w ∷ []) eq

-- a first word that no way takes
pub stop_here : {X : Type 0} (P : Ws → Read X) → Goes P → (w : List ℕ) (ws : Ws) (c : Cause) (m : ℕ) → P (w ∷ ws) ≡ bad c m → ((any : Ws) → P (w ∷ any) ≡ bad WordNotAllowed (length (unwords (w ∷ any)))) → ((v : List ℕ) → Digit v → (any : Ws) → P (v ∷ any) ≡ bad WordNotAllowed (length (unwords (v ∷ any)))) → Stop P (w ∷ ws) c m
stop_here P g w ws c m e all digits =
    let same = all ws in
    let d : WordNotAllowed ≡ c = cc in
    let k : m ≡ length (unwords (w ∷ ws)) = cc in
    subst (λ d. Stop P (w ∷ ws) d m) d (record { pre = []; rest = w ∷ ws; more = g.more; value = g.value; split = refl; place = k; owed = (all, digits); ends = g.ends })

-- no word where one is owed
pub stop_none : {X : Type 0} (P : Ws → Read X) → Goes P → (c : Cause) (m : ℕ) → P [] ≡ bad WordMissing 0 → P [] ≡ bad c m → Stop P [] c m
stop_none P g c m none e =
    let d : WordMissing ≡ c = cc in
    let k : m ≡ 0 = cc in
    subst (λ d. Stop P [] d m) d (record { pre = []; rest = []; more = g.more; value = g.value; split = refl; place = k; owed = tt; ends = g.ends })

pub stop_same : {X : Type 0} (P A : Ws → Read X) → ((l : Ws) → P l ≡ A l) → (ws : Ws) (c : Cause) (m : ℕ) → Stop A ws c m → Stop P ws c m
stop_same P A eq = stop_cut P A [] eq

-- a reading that looks at the next word and leaves it: it is the same where that word is the same, begins with a digit, or is none
abbrev pub Like : Ws → Ws → Type 0
Like [] [] = Unit {0}
Like (w ∷ r) [] = Unit {0}
Like [] (v ∷ any) = Digit v
Like (w ∷ r) (v ∷ any) = (v ≡ w) ⊎ Digit v

pub record Seen {X : Type 0} (P : Ws → Read X) (ws : Ws) (x : X) (rest : Ws) : Type 0 where
  pub pre : Ws
  pub split : ws ≡ pre ++ rest
  pub again : (any : Ws) → Like rest any → P (pre ++ any) ≡ got x any

-- in the first of two, where the second may be empty
pub halt_first : {X Y : Type 0} (P : Ws → Read X) (Q : X → Ws → Read Y) (ws : Ws) (c : Cause) (m : ℕ) → Stop P ws c m → ((x : X) → (more : Ws) × ((y : Y) × (Q x more ≡ got y []))) → Halt (λ l. and_then (P l) Q) ws c m
halt_first P Q ws c m s goes =
    let g = goes s.value in
    record {
      pre = s.pre;
      rest = s.rest;
      more = s.more ++ g.0;
      value = g.1.0;
      split = s.split;
      place = s.place;
      owed = owed_first P Q s.pre s.more g.0 s.rest c s.owed;
      ends = ap (λ r. and_then r Q) (s.ends g.0) ∙ g.1.1;
    }

halt_cut : {X : Type 0} (P A : Ws → Read X) (F : Ws) → ((l : Ws) → P (F ++ l) ≡ A l) → (ws : Ws) (c : Cause) (m : ℕ) → Halt A ws c m → Halt P (F ++ ws) c m
halt_cut P A F eq = by_cut _ _ P A F eq (λ pre more value h. ap P (append_assoc F pre more) ∙ eq (pre ++ more) ∙ h)

pub halt_then : {X Y : Type 0} (P : Ws → Read X) (Q : X → Ws → Read Y) (ws : Ws) (x : X) (mid : Ws) (c : Cause) (m : ℕ) → Front P ws x mid → Halt (Q x) mid c m → Halt (λ l. and_then (P l) Q) ws c m
halt_then P Q ws x mid c m f s =
    subst (λ l. Halt (λ z. and_then (P z) Q) l c m) (sym f.split)
    (halt_cut (λ l. and_then (P l) Q) (Q x) f.pre (λ l. ap (λ r. and_then r Q) (f.again l)) mid c m s)

-- the same reading on all words that are like these

like_same : (pre : Ws) (w : List ℕ) (r any : Ws) → Like (pre ++ w ∷ r) (pre ++ w ∷ any)
like_same [] w r any = inl refl
like_same (v ∷ pre) w r any = inl refl

like_digit : (pre : Ws) (w : List ℕ) (r : Ws) (v : List ℕ) (any : Ws) → Digit v → Like (pre ++ w ∷ r) (pre ++ v ∷ any)
like_digit [] w r v any d = inr d
like_digit (u ∷ pre) w r v any d = inl refl

owed_like : {X : Type 0} (P A : Ws → Read X) (pre more rest : Ws) (c : Cause) → ((l : Ws) → Like (pre ++ rest) l → P l ≡ A l) → Owed A pre more rest c → Owed P pre more rest c
owed_like P A pre more [] WordMissing eq o = tt
owed_like P A pre more [] WordNotAllowed eq o = o
owed_like P A pre more [] NumberOwed eq o = o
owed_like P A pre more (w ∷ r) WordMissing eq o = o
owed_like P A pre more (w ∷ r) WordNotAllowed eq o =
    (λ any. eq (pre ++ w ∷ any) (like_same pre w r any) ∙ o.0 any, λ v d any. eq (pre ++ v ∷ any) (like_digit pre w r v any d) ∙ o.1 v d any)
owed_like P A pre more (w ∷ r) NumberOwed eq o = (λ any. eq (pre ++ w ∷ any) (like_same pre w r any) ∙ o.0 any, o.1)

-- a halt whose words are like those that were read
pub record Near {X : Type 0} (P : Ws → Read X) (ws : Ws) (c : Cause) (m : ℕ) : Type 0 where
  pub halt : Halt P ws c m
  pub like : Like ws (halt.pre ++ halt.more)

pub near_same : {X : Type 0} (P A : Ws → Read X) (ws : Ws) (c : Cause) (m : ℕ) → ((l : Ws) → Like ws l → P l ≡ A l) → Near A ws c m → Near P ws c m
near_same P A ws c m eq h =
    let s = h.halt in
    record {
      halt = record {
        pre = s.pre;
        rest = s.rest;
        more = s.more;
        value = s.value;
        split = s.split;
        place = s.place;
        owed = owed_like P A s.pre s.more s.rest c (λ l k. eq l (subst (λ z. Like z l) (sym s.split) k)) s.owed;
        ends = eq (s.pre ++ s.more) h.like ∙ s.ends;
      };
      like = h.like;
    }

-- after a word that chose the way
pub near_cons : {X : Type 0} (P A : Ws → Read X) (w : List ℕ) → ((l : Ws) → P (w ∷ l) ≡ A l) → (ws : Ws) (c : Cause) (m : ℕ) → Halt A ws c m → Near P (w ∷ ws) c m
unfolding halt_cut by_cut
near_cons P A w eq ws c m s = record { halt = halt_cut P A (w ∷ []) eq ws c m s; like = inl refl }

-- after a reading that looked at the next word
pub halt_seen : {X Y : Type 0} (P : Ws → Read X) (Q : X → Ws → Read Y) (ws : Ws) (x : X) (mid : Ws) (c : Cause) (m : ℕ) → Seen P ws x mid → Near (Q x) mid c m → Halt (λ l. and_then (P l) Q) ws c m
halt_seen P Q ws x mid c m s h =
    let near = near_same (λ l. and_then (P (s.pre ++ l)) Q) (Q x) mid c m (λ l k. ap (λ z. and_then z Q) (s.again l k)) h in
    subst (λ l. Halt (λ z. and_then (P z) Q) l c m) (sym s.split) (halt_cut (λ l. and_then (P l) Q) (λ l. and_then (P (s.pre ++ l)) Q) s.pre (λ l. refl) mid c m near.halt)
