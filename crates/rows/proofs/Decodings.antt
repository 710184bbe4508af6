-- A decoder on the bytes of a whole trace.
use Rattle.std.proofs.Common.{◌≡◌, ℕ, Bool, true, false, cond, eqb, List, [], ◌∷◌, ◌++◌, map, Some, None, Ok, Option, Result, sym, refl, ap, ◌∙◌, subst, arith}
use Rattle.std.specs.List.{flat_map}
use Rattle.std.specs.Option.{option_to_list}
use Rattle.std.specs.Result.{result_err}
use Rattle.std.proofs.lemmas.Bool.{true≢false}
use Rattle.stream.specs.declared.refusal.Refusal.{Refusal}
use Rattle.stream.specs.declared.numbered.Numbered.{Numbered}
use Rattle.stream.specs.declared.assembler.Assembler.{Assembler}
use Rattle.stream.specs.declared.assembler.Assembler.TheVariants.{Empty, One, Two, Three}
use Rattle.stream.specs.Bytes.{held_by, bytes_of}
use Rattle.stream.specs.Words.{State, Fed, state_of, kind, refusal, made, after, answer_by, state_by, onward, feeding}
use Rattle.stream.proofs.Checks.{is_ended}
use Rattle.stream.specs.Traces.{words_in, left_in, fed_by}
use Rattle.rows.specs.declared.decoder.Decoder.{Decoder}
use Rattle.rows.specs.declared.decoder.Entry.{Entry}
use Rattle.rows.specs.declared.decoder.Entry.TheVariants.{Row, End}
use Rattle.rows.specs.Traces.{word_bytes, trace_of, entry_of, entry_in, TookAny, PushedAll, DecodersAnswer}
use Rattle.rows.proofs.Feedings.{word_first, sent_words, trace_words, trace_comes_back}
use Rattle.rows.proofs.Trips.{ahead, joins}

abbrev Answer : Type 0
Answer = Result (Option Entry) Refusal

abbrev rows : List Numbered → List Entry
rows xs = map (λ (x : Numbered). Row x.sample) xs

abbrev entries_in : List Answer → List Entry
entries_in rs = flat_map (λ r. option_to_list (entry_in r)) rs

abbrev refusals_in : List Answer → List Refusal
refusals_in rs = flat_map (λ r. option_to_list (result_err r)) rs

-- the answers to these bytes, where their words are all taken, and the stream goes on
record Answered (d : Decoder) (bs : List ℕ) (rs : List Answer) (e : Decoder) : Type 0 where
  pub entries : entries_in rs ≡ rows (ahead d bs).samples
  pub refused : refusals_in rs ≡ []
  pub left : held_by e.held ≡ left_in (held_by d.held ++ bs)

-- no more bytes
no_words : (h : Assembler) → words_in (held_by h ++ []) ≡ []
no_words Empty = refl
no_words (One a) = refl
no_words (Two a b) = refl
no_words (Three a b c) = refl

all_left : (h : Assembler) → held_by h ≡ left_in (held_by h ++ [])
all_left Empty = refl
all_left (One a) = refl
all_left (Two a b) = refl
all_left (Three a b c) = refl

at_end : (d : Decoder) → Answered d [] [] d
unfolding feeding
at_end d = record {
  entries = sym (ap (λ ws. rows (feeding (state_of d.feed) ws).samples) (no_words d.held));
  refused = refl;
  left = all_left d.held;
}

-- what a decoder answers to a word that its feed takes
entry_for : (w : ℕ) (m : Option Numbered) (l : List Entry) (xs : List Numbered) → eqb (kind w) 3 ≡ false → l ≡ rows xs → option_to_list (entry_in (entry_of w (Ok m))) ++ l ≡ rows (option_to_list m ++ xs)
entry_for w (Some x) l xs k e = ap (λ t. Row x.sample ∷ t) e
entry_for w None l xs k e = ap (λ (b : Bool). option_to_list (cond b (Some End) None) ++ l) k ∙ e

no_refusal : (w : ℕ) (m : Option Numbered) → result_err (entry_of w (Ok m)) ≡ None
no_refusal w (Some x) = refl
no_refusal w None = refl

all_taken : (o : Option Refusal) (s : State) (m : Option Numbered) (f : Fed) → (onward o s m f).refused ≡ None → (o ≡ None) × (f.refused ≡ None)
all_taken (Some r) s m f p = absurd (let z : ◌≡◌ {A = ℕ} 0 1 = cc in omega arith)
all_taken None s m f p = (refl, p)

-- behind the end word no word is taken; so where the stream goes on, there was none
ended_stays : (s : State) (ws : List ℕ) → s.ended ≡ true → (feeding s ws).refused ≡ None → (feeding s ws).state.ended ≡ true
unfolding feeding
ended_stays s [] e none = e
ended_stays s (w ∷ ws) e none =
    let some = sym (is_ended s w e) ∙ (all_taken (refusal s w) s (made s w) (feeding (after s w) ws) none).0 in
    absurd (let z : ◌≡◌ {A = ℕ} 0 1 = cc in omega arith)

no_end : (s : State) (w : ℕ) (ws : List ℕ) → (feeding (after s w) ws).refused ≡ None → (feeding (after s w) ws).state.ended ≡ false → eqb (kind w) 3 ≡ false
no_end s w ws none going = go (eqb (kind w) 3) refl
  where
    go : (b : Bool) → eqb (kind w) 3 ≡ b → eqb (kind w) 3 ≡ false
    go true e = absurd (true≢false (sym (ended_stays (after s w) ws e none) ∙ going))
    go false e = e

-- one byte more
module _ (d : Decoder) (b : ℕ) (r : Answer) (c e : Decoder) (bs : List ℕ) (rs : List Answer) where
  abbrev st : State
  st = state_of d.feed

  answered : (o : Option ℕ) → bytes_of o ++ held_by c.held ≡ held_by d.held ++ (b ∷ []) → TookAny o st r (state_of c.feed)
      → (ahead d (b ∷ bs)).refused ≡ None → (ahead d (b ∷ bs)).state.ended ≡ false
      → ((ahead c bs).refused ≡ None → (ahead c bs).state.ended ≡ false → Answered c bs rs e) → Answered d (b ∷ bs) (r ∷ rs) e
  unfolding feeding
  answered None by t none going rest =
      let joined = joins d c b bs None by in
      let same : ahead d (b ∷ bs) ≡ ahead c bs = (λ i. feeding (sym t.1 i) (words_in (joined i))) in
      let a = rest (sym (ap (λ (f : Fed). f.refused) same) ∙ none) (sym (ap (λ (f : Fed). f.state.ended) same) ∙ going) in
      record {
        entries = ap (λ q. option_to_list (entry_in q) ++ entries_in rs) t.0 ∙ a.entries ∙ ap (λ (f : Fed). rows f.samples) (sym same);
        refused = ap (λ q. option_to_list (result_err q) ++ refusals_in rs) t.0 ∙ a.refused;
        left = a.left ∙ ap left_in (sym joined);
      }
  answered (Some w) by t none going rest =
      let m = made st w in
      let later = words_in (held_by c.held ++ bs) in
      let fed : Fed = feeding (after st w) later in
      let joined = joins d c b bs (Some w) by in
      let words : words_in (held_by d.held ++ (b ∷ bs)) ≡ w ∷ later = ap words_in joined ∙ word_first w (held_by c.held ++ bs) in
      let is : ahead d (b ∷ bs) ≡ onward (refusal st w) st m fed = ap (feeding st) words in
      let taken = all_taken (refusal st w) st m fed (sym (ap (λ (f : Fed). f.refused) is) ∙ none) in
      let state : state_of c.feed ≡ after st w = t.took.state ∙ ap (λ q. state_by q st (after st w)) taken.0 in
      let next : ahead c bs ≡ fed = ap (λ (v : State). feeding v later) state in
      let answer : r ≡ entry_of w (Ok m) = t.entry ∙ ap (entry_of w) (t.took.answer ∙ ap (λ q. answer_by q m) taken.0) in
      let whole : ahead d (b ∷ bs) ≡ onward None st m fed = is ∙ ap (λ q. onward q st m fed) taken.0 in
      let still : fed.state.ended ≡ false = sym (ap (λ (f : Fed). f.state.ended) whole) ∙ going in
      let a = rest (ap (λ (f : Fed). f.refused) next ∙ taken.1) (ap (λ (f : Fed). f.state.ended) next ∙ still) in
      record {
        entries = ap (λ q. option_to_list (entry_in q) ++ entries_in rs) answer
            ∙ entry_for w m (entries_in rs) fed.samples (no_end st w later taken.1 still) (a.entries ∙ ap (λ (f : Fed). rows f.samples) next)
            ∙ ap (λ (f : Fed). rows f.samples) (sym whole);
        refused = ap (λ q. option_to_list (result_err q) ++ refusals_in rs) answer ∙ ap (λ q. option_to_list q ++ refusals_in rs) (no_refusal w m) ∙ a.refused;
        left = a.left ∙ ap left_in (sym joined);
      }

decoded : (bs : List ℕ) (d e : Decoder) (rs : List Answer) → PushedAll d bs rs e → (ahead d bs).refused ≡ None → (ahead d bs).state.ended ≡ false → Answered d bs rs e
decoded [] d e [] h none going = subst (λ (x : Decoder). Answered d [] [] x) h (at_end d)
decoded [] d e (r ∷ rs) h none going = absurd h
decoded (b ∷ bs) d e [] h none going = absurd h
decoded (b ∷ bs) d e (r ∷ rs) (c, p, h) none going = answered d b r c e bs rs p.word p.bytes p.took none going (decoded bs c e rs h)

-- whole words leave no byte over
words_leave : (ws : List ℕ) → left_in (word_bytes ws) ≡ []
words_leave [] = refl
words_leave (w ∷ ws) = words_leave ws

as_rows : (xs : List Numbered) → rows xs ≡ map Row (map (λ (x : Numbered). x.sample) xs)
as_rows [] = refl
as_rows (x ∷ xs) = ap (λ t. Row x.sample ∷ t) (as_rows xs)

pub decoders_answer : DecodersAnswer
decoders_answer ss n d e rs none new h =
    let back = trace_comes_back ss n in
    let is : ahead d (trace_of ss) ≡ fed_by (trace_of ss) = (λ i. feeding (new i) (words_in (none i ++ trace_of ss))) in
    let a = decoded (trace_of ss) d e rs h (ap (λ (f : Fed). f.refused) is ∙ back.taken) (ap (λ (f : Fed). f.state.ended) is ∙ back.going) in
    record {
      entries = a.entries ∙ ap (λ (f : Fed). rows f.samples) is ∙ as_rows (fed_by (trace_of ss)).samples ∙ ap (map Row) back.samples;
      refused = a.refused;
      whole = a.left ∙ ap (λ (l : List ℕ). left_in (l ++ trace_of ss)) none ∙ ap left_in (trace_words ss) ∙ words_leave (sent_words ss);
    }
