-- Rules: how they are read back, and where their reading stops.
use Rattle.std.proofs.Common.{◌≡◌, false, [], ◌∷◌, ◌++◌, Some, None, codes, decimal, Option, refl, ap, ◌∙◌, ⊎_elim}
use Rattle.std.proofs.lemmas.Bool.{cond-false}
use Rattle.stream.specs.declared.signal.Signal.{Signal}
use Rattle.monitor.specs.declared.limit.Ticks.{Ticks}
use Rattle.monitor.specs.declared.pattern.Pattern.{Pattern}
use Rattle.monitor.specs.declared.pattern.Pattern.TheVariants.{Never, NeverFrom, HoldLeast, HoldUnder, Repeat, Answer, Keep}
use Rattle.grammar.specs.declared.tree.Term.{Term}
use Rattle.grammar.specs.declared.token.Keyword.TheVariants as K
use Rattle.grammar.specs.Tokens.{keyword_of}
use Rattle.grammar.specs.Grammar.{signal_word, pattern_words, term_words}
use Rattle.grammar.specs.Reading.{Ws, got, and_then, made, refuse, read_ticks, read_signal, starts_by, if_next, read_key}
use Rattle.grammar.specs.Bodies.{timed, then_timed, never_tail, read_never, hold_tail, read_hold, repeat_tail, read_repeat, answer_within, answer_by, answer_tail, read_answer, keep_at, keep_since, keep_for, keep_tail, read_keep, read_body}
use Rattle.grammar.specs.Lines.{term_of, after_tail, read_after, read_plain, read_term}
use Rattle.grammar.proofs.Keys.{starts_digit}
use Rattle.grammar.proofs.Stops.{Like, Seen}
use Rattle.grammar.proofs.Parts.{Tail, Choice, leaf_tail, made_tail, map_tail, if_choice, refuse_choice, map_choice, choice_tail, optional_tail, ticks_leaf, signal_leaf, key_leaf}

-- what may follow a pattern: `from` would belong to a `never`
abbrev pub Fit : Pattern → Ws → Type 0
Fit (Never p) any = starts_by K.From any ≡ false
Fit (NeverFrom p t) any = Unit {0}
Fit (HoldLeast p t) any = Unit {0}
Fit (HoldUnder p t) any = Unit {0}
Fit (Repeat p t) any = Unit {0}
Fit (Answer p s t) any = Unit {0}
Fit (Keep s t p) any = Unit {0}

abbrev pub Pat : Pattern → Ws → Ws → Type 0
Pat y ws rest = (ws ≡ pattern_words y ++ rest) × Fit y rest

timed_tail : (f : Ticks → Pattern) (S : Pattern → Ws → Ws → Type 0) → ((t : Ticks) (rest : Ws) → S (f t) (decimal t.value ∷ rest) rest) → Tail (timed f) S
timed_tail f S s = leaf_tail read_ticks (λ t. decimal t.value) (made f) S ticks_leaf (λ t. made_tail f t (λ y ws rest. S y (decimal t.value ∷ ws) rest) (s t))

never_tail_lem : Tail read_never (λ y ws rest. Pat y (codes "never" ∷ ws) rest)
never_tail_lem =
    leaf_tail read_signal signal_word never_tail (λ y ws rest. Pat y (codes "never" ∷ ws) rest) signal_leaf (λ p.
    optional_tail K.From (timed (NeverFrom p)) (Never p) (λ y ws rest. Pat y (codes "never" ∷ signal_word p ∷ ws) rest)
    (timed_tail (NeverFrom p) (λ y ws rest. Pat y (codes "never" ∷ signal_word p ∷ codes "from" ∷ ws) rest) (λ t rest. (refl, tt)))
    (λ ws n. (refl, n)))

hold_tail_lem : Tail read_hold (λ y ws rest. Pat y (codes "hold" ∷ ws) rest)
hold_tail_lem =
    leaf_tail read_signal signal_word hold_tail (λ y ws rest. Pat y (codes "hold" ∷ ws) rest) signal_leaf (λ p.
    let S : Pattern → Ws → Ws → Type 0 = λ y ws rest. Pat y (codes "hold" ∷ signal_word p ∷ ws) rest in
    let least = timed_tail (HoldLeast p) (λ y ws rest. S y (codes "least" ∷ ws) rest) (λ t rest. (refl, tt)) in
    let under = timed_tail (HoldUnder p) (λ y ws rest. S y (codes "under" ∷ ws) rest) (λ t rest. (refl, tt)) in
    let choice = if_choice K.Under (timed (HoldUnder p)) refuse S under (refuse_choice S) in
    choice_tail K.Least (timed (HoldLeast p)) (if_next K.Under (timed (HoldUnder p)) refuse) S least.goes (if_choice K.Least (timed (HoldLeast p)) (if_next K.Under (timed (HoldUnder p)) refuse) S least choice))

repeat_tail_lem : Tail read_repeat (λ y ws rest. Pat y (codes "repeat" ∷ ws) rest)
repeat_tail_lem =
    leaf_tail read_signal signal_word repeat_tail (λ y ws rest. Pat y (codes "repeat" ∷ ws) rest) signal_leaf (λ p.
    leaf_tail (read_key K.Within) (λ _. codes "within") (then_timed (Repeat p)) (λ y ws rest. Pat y (codes "repeat" ∷ signal_word p ∷ ws) rest) (key_leaf K.Within) (λ _.
    timed_tail (Repeat p) (λ y ws rest. Pat y (codes "repeat" ∷ signal_word p ∷ codes "within" ∷ ws) rest) (λ t rest. (refl, tt))))

answer_tail_lem : Tail read_answer (λ y ws rest. Pat y (codes "answer" ∷ ws) rest)
answer_tail_lem =
    leaf_tail read_signal signal_word answer_tail (λ y ws rest. Pat y (codes "answer" ∷ ws) rest) signal_leaf (λ p.
    leaf_tail (read_key K.By) (λ _. codes "by") (answer_by p) (λ y ws rest. Pat y (codes "answer" ∷ signal_word p ∷ ws) rest) (key_leaf K.By) (λ _.
    leaf_tail read_signal signal_word (answer_within p) (λ y ws rest. Pat y (codes "answer" ∷ signal_word p ∷ codes "by" ∷ ws) rest) signal_leaf (λ s.
    leaf_tail (read_key K.Within) (λ _. codes "within") (then_timed (Answer p s)) (λ y ws rest. Pat y (codes "answer" ∷ signal_word p ∷ codes "by" ∷ signal_word s ∷ ws) rest) (key_leaf K.Within) (λ _.
    timed_tail (Answer p s) (λ y ws rest. Pat y (codes "answer" ∷ signal_word p ∷ codes "by" ∷ signal_word s ∷ codes "within" ∷ ws) rest) (λ t rest. (refl, tt))))))

keep_tail_lem : Tail read_keep (λ y ws rest. Pat y (codes "keep" ∷ ws) rest)
keep_tail_lem =
    leaf_tail read_signal signal_word keep_tail (λ y ws rest. Pat y (codes "keep" ∷ ws) rest) signal_leaf (λ s.
    leaf_tail (read_key K.For) (λ _. codes "for") (keep_for s) (λ y ws rest. Pat y (codes "keep" ∷ signal_word s ∷ ws) rest) (key_leaf K.For) (λ _.
    leaf_tail read_ticks (λ t. decimal t.value) (keep_since s) (λ y ws rest. Pat y (codes "keep" ∷ signal_word s ∷ codes "for" ∷ ws) rest) ticks_leaf (λ t.
    leaf_tail (read_key K.Since) (λ _. codes "since") (keep_at s t) (λ y ws rest. Pat y (codes "keep" ∷ signal_word s ∷ codes "for" ∷ decimal t.value ∷ ws) rest) (key_leaf K.Since) (λ _.
    leaf_tail read_signal signal_word (made (Keep s t)) (λ y ws rest. Pat y (codes "keep" ∷ signal_word s ∷ codes "for" ∷ decimal t.value ∷ codes "since" ∷ ws) rest) signal_leaf (λ p.
    made_tail (Keep s t) p (λ y ws rest. Pat y (codes "keep" ∷ signal_word s ∷ codes "for" ∷ decimal t.value ∷ codes "since" ∷ signal_word p ∷ ws) rest) (λ rest. (refl, tt)))))))

body_choice : Choice read_body Pat
body_choice =
    if_choice K.Never read_never _ Pat never_tail_lem
    (if_choice K.Hold read_hold _ Pat hold_tail_lem
    (if_choice K.Repeat read_repeat _ Pat repeat_tail_lem
    (if_choice K.Answer read_answer _ Pat answer_tail_lem
    (if_choice K.Keep read_keep refuse Pat keep_tail_lem (refuse_choice Pat)))))

body_tail : Tail read_body Pat
body_tail = choice_tail K.Never read_never _ Pat never_tail_lem.goes body_choice

abbrev pub Said : Term → Ws → Ws → Type 0
Said t ws rest = (ws ≡ term_words t ++ rest) × Fit t.pattern rest

after_tail_lem : Tail read_after (λ t ws rest. Said t (codes "after" ∷ ws) rest)
after_tail_lem =
    leaf_tail read_signal signal_word after_tail (λ t ws rest. Said t (codes "after" ∷ ws) rest) signal_leaf (λ s.
    map_tail read_body (term_of (Some s)) Pat (λ t ws rest. Said t (codes "after" ∷ signal_word s ∷ ws) rest) body_tail (λ y ws rest h. (ap (λ l. codes "after" ∷ signal_word s ∷ l) h.0, h.1)))

pub term_tail : Tail read_term Said
term_tail =
    choice_tail K.After read_after read_plain Said after_tail_lem.goes
    (if_choice K.After read_after read_plain Said after_tail_lem (map_choice read_body (term_of None) Pat Said body_choice (λ y ws rest h. h)))

-- reading back

rs : (s : Signal) (any : Ws) → read_signal (signal_word s ∷ any) ≡ got s any
rs = signal_leaf.reads

rt : (t : Ticks) (any : Ws) → read_ticks (decimal t.value ∷ any) ≡ got t any
rt = ticks_leaf.reads

body_reads : (y : Pattern) (any : Ws) → Fit y any → read_body (pattern_words y ++ any) ≡ got y any
unfolding keyword_of
body_reads (Never p) any f = ap (λ r. and_then r never_tail) (rs p any) ∙ cond-false _ _ _ f
body_reads (NeverFrom p t) any f =
    ap (λ r. and_then r never_tail) (rs p (codes "from" ∷ decimal t.value ∷ any)) ∙ ap (λ r. and_then r (made (NeverFrom p))) (rt t any)
body_reads (HoldLeast p t) any f =
    ap (λ r. and_then r hold_tail) (rs p (codes "least" ∷ decimal t.value ∷ any)) ∙ ap (λ r. and_then r (made (HoldLeast p))) (rt t any)
body_reads (HoldUnder p t) any f =
    ap (λ r. and_then r hold_tail) (rs p (codes "under" ∷ decimal t.value ∷ any)) ∙ ap (λ r. and_then r (made (HoldUnder p))) (rt t any)
body_reads (Repeat p t) any f =
    ap (λ r. and_then r repeat_tail) (rs p (codes "within" ∷ decimal t.value ∷ any)) ∙ ap (λ r. and_then r (made (Repeat p))) (rt t any)
body_reads (Answer p s t) any f =
    ap (λ r. and_then r answer_tail) (rs p (codes "by" ∷ signal_word s ∷ codes "within" ∷ decimal t.value ∷ any)) ∙ ap (λ r. and_then r (answer_within p)) (rs s (codes "within" ∷ decimal t.value ∷ any)) ∙ ap (λ r. and_then r (made (Answer p s))) (rt t any)
body_reads (Keep s t p) any f =
    ap (λ r. and_then r keep_tail) (rs s (codes "for" ∷ decimal t.value ∷ codes "since" ∷ signal_word p ∷ any)) ∙ ap (λ r. and_then r (keep_since s)) (rt t (codes "since" ∷ signal_word p ∷ any)) ∙ ap (λ r. and_then r (made (Keep s t))) (rs p any)

-- a body does not begin as `after` does
body_first : (y : Pattern) (any : Ws) → starts_by K.After (pattern_words y ++ any) ≡ false
unfolding keyword_of
body_first (Never p) any = refl
body_first (NeverFrom p t) any = refl
body_first (HoldLeast p t) any = refl
body_first (HoldUnder p t) any = refl
body_first (Repeat p t) any = refl
body_first (Answer p s t) any = refl
body_first (Keep s t p) any = refl

term_back : (a : Option Signal) (y : Pattern) (any : Ws) → Fit y any → read_term (term_words (term_of a y) ++ any) ≡ got (term_of a y) any
unfolding keyword_of
term_back None y any f = cond-false _ _ _ (body_first y any) ∙ ap (λ r. and_then r (made (term_of None))) (body_reads y any f)
term_back (Some s) y any f = ap (λ r. and_then r after_tail) (rs s (pattern_words y ++ any)) ∙ ap (λ r. and_then r (made (term_of (Some s)))) (body_reads y any f)

pub term_reads : (t : Term) (any : Ws) → Fit t.pattern any → read_term (term_words t ++ any) ≡ got t any
term_reads t any f = term_back t.after t.pattern any f

from_like : (rest any : Ws) → starts_by K.From rest ≡ false → Like rest any → starts_by K.From any ≡ false
from_like [] [] f k = refl
from_like (w ∷ r) [] f k = refl
from_like [] (v ∷ any) f d = starts_digit K.From v any d
from_like (w ∷ r) (v ∷ any) f k = ⊎_elim (λ e. ap (λ u. starts_by K.From (u ∷ any)) e ∙ f) (λ d. starts_digit K.From v any d) k

fit_like : (y : Pattern) (rest any : Ws) → Fit y rest → Like rest any → Fit y any
fit_like (Never p) rest any f k = from_like rest any f k
fit_like (NeverFrom p t) rest any f k = tt
fit_like (HoldLeast p t) rest any f k = tt
fit_like (HoldUnder p t) rest any f k = tt
fit_like (Repeat p t) rest any f k = tt
fit_like (Answer p s t) rest any f k = tt
fit_like (Keep s t p) rest any f k = tt

pub term_seen : (ws : Ws) (t : Term) (rest : Ws) → read_term ws ≡ got t rest → Seen read_term ws t rest
term_seen ws t rest e =
    let h = term_tail.takes ws t rest e in
    record { pre = term_words t; split = h.0; again = λ any k. term_reads t any (fit_like t.pattern rest any h.1 k) }
