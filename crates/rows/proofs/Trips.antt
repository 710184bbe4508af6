-- A decoder on the bytes of one sample.
use Rattle.std.proofs.Common.{◌≡◌, ℕ, Bool, true, false, cond, eqb, List, [], ◌∷◌, ◌++◌, map, Some, None, Ok, Option, Result, sym, refl, ap, ◌∙◌, subst, arith}
use Rattle.std.proofs.lemmas.List.{append_assoc}
use Rattle.stream.specs.declared.refusal.Refusal.{Refusal}
use Rattle.stream.specs.declared.sample.Sample.{Sample}
use Rattle.stream.specs.declared.numbered.Numbered.{Numbered}
use Rattle.stream.specs.declared.assembler.Assembler.{Assembler}
use Rattle.stream.specs.declared.assembler.Assembler.TheVariants.{Empty, One, Two, Three}
use Rattle.stream.specs.Bytes.{held_by, bytes_of}
use Rattle.stream.specs.Words.{State, Fed, state_of, unread, kind, refusal, made, after, answer_by, state_by, onward, feeding}
use Rattle.rows.specs.declared.decoder.Decoder.{Decoder}
use Rattle.rows.specs.declared.decoder.Entry.{Entry}
use Rattle.rows.specs.declared.decoder.Entry.TheVariants.{End}
use Rattle.stream.specs.Traces.{words_in, fed_by}
use Rattle.rows.specs.Traces.{sample_bytes, entry_of, row_in, TookAny, Pushed}
use Rattle.rows.proofs.Feedings.{word_first, sample_comes_back}

-- what becomes of the bytes that come next
abbrev pub ahead : Decoder → List ℕ → Fed
ahead d rest = feeding (state_of d.feed) (words_in (held_by d.held ++ rest))

-- they are all taken, and give this one sample
abbrev pub OnlyRow : Sample → Fed → Type 0
OnlyRow s fed = (fed.refused ≡ None) × (map (λ x. x.sample) fed.samples ≡ s ∷ [])

-- after a byte: its answer is the row of the sample, or the row is still to come
pub record Step (s : Sample) (r : Result (Option Entry) Refusal) (fed : Fed) : Type 0 where
  pub row : (x : Sample) → row_in r ≡ Some x → x ≡ s
  pub coming : row_in r ≡ None → OnlyRow s fed

pub begins : (d : Decoder) (s : Sample) → held_by d.held ≡ [] → state_of d.feed ≡ unread → OnlyRow s (ahead d (sample_bytes s))
begins d s none new =
    let is : ahead d (sample_bytes s) ≡ fed_by (sample_bytes s) = (λ i. feeding (new i) (words_in (none i ++ sample_bytes s))) in
    subst (OnlyRow s) (sym is) (sample_comes_back s)

pub ends : (d : Decoder) (s : Sample) → OnlyRow s (ahead d []) → ⊥
unfolding feeding
ends d s o = go d.held o
  where
    none : s ∷ [] ≡ [] → ⊥
    none e = let z : ◌≡◌ {A = ℕ} 0 1 = cc in omega arith

    go : (h : Assembler) → OnlyRow s (feeding (state_of d.feed) (words_in (held_by h ++ []))) → ⊥
    go Empty p = none (sym p.1)
    go (One a) p = none (sym p.1)
    go (Two a b) p = none (sym p.1)
    go (Three a b c) p = none (sym p.1)

some_none : (x : Sample) → None ≡ Some x → ⊥
some_none x e = let z : ◌≡◌ {A = ℕ} 0 1 = cc in omega arith

no_row : (b : Bool) → row_in (Ok (cond b (Some End) None)) ≡ None
no_row true = refl
no_row false = refl

-- the feed's answer to a word that it takes
module _ (s : Sample) (w : ℕ) (st : State) (rest : Fed) where
  taken : (m : Option Numbered) → OnlyRow s (onward None st m rest) → Step s (entry_of w (Ok m)) rest
  taken (Some m) o = record {
    row = λ x e. let same : m.sample ≡ s = cc o.1 in let is : x ≡ m.sample = cc in is ∙ same;
    coming = λ no. absurd (some_none m.sample (sym no));
  }
  taken None o = record { row = λ x e. absurd (some_none x (sym (no_row (eqb (kind w) 3)) ∙ e)); coming = λ no. o }

  stepped : (o : Option Refusal) (m : Option Numbered) → OnlyRow s (onward o st m rest) → (o ≡ None) × Step s (entry_of w (answer_by o m)) rest
  stepped (Some r) m p = absurd (let e = p.0 in let z : ◌≡◌ {A = ℕ} 0 1 = cc in omega arith)
  stepped None m p = (refl, taken m p)

-- one byte
module _ (d e : Decoder) (byte : ℕ) (rest : List ℕ) where
  pub joins : (o : Option ℕ) → bytes_of o ++ held_by e.held ≡ held_by d.held ++ (byte ∷ []) → held_by d.held ++ (byte ∷ rest) ≡ bytes_of o ++ (held_by e.held ++ rest)
  joins o b = sym (append_assoc (held_by d.held) (byte ∷ []) rest) ∙ ap (λ (l : List ℕ). l ++ rest) (sym b) ∙ append_assoc (bytes_of o) (held_by e.held) rest

module _ (s : Sample) (d : Decoder) (byte : ℕ) (r : Result (Option Entry) Refusal) (e : Decoder) (rest : List ℕ) where
  pub steps : Pushed d byte r e → OnlyRow s (ahead d (byte ∷ rest)) → Step s r (ahead e rest)
  unfolding feeding
  steps p o = go p.word p.bytes p.took
    where
      st : State
      st = state_of d.feed

      go : (w : Option ℕ) → bytes_of w ++ held_by e.held ≡ held_by d.held ++ (byte ∷ []) → TookAny w st r (state_of e.feed) → Step s r (ahead e rest)
      go None b t =
          let same : ahead d (byte ∷ rest) ≡ ahead e rest = (λ i. feeding (sym t.1 i) (words_in (joins d e byte rest None b i))) in
          record {
            row = λ x is. absurd (some_none x (sym (ap row_in t.0) ∙ is));
            coming = λ no. subst (OnlyRow s) same o;
          }
      go (Some w) b t =
          let later = words_in (held_by e.held ++ rest) in
          let words : words_in (held_by d.held ++ (byte ∷ rest)) ≡ w ∷ later = ap words_in (joins d e byte rest (Some w) b) ∙ word_first w (held_by e.held ++ rest) in
          let first = stepped s w st (feeding (after st w) later) (refusal st w) (made st w) (subst (OnlyRow s) (ap (feeding st) words) o) in
          let state : after st w ≡ state_of e.feed = sym (t.took.state ∙ ap (λ q. state_by q st (after st w)) first.0) in
          let answer : entry_of w (answer_by (refusal st w) (made st w)) ≡ r = sym (t.entry ∙ ap (entry_of w) t.took.answer) in
          subst (λ q. Step s q (ahead e rest)) answer (subst (λ (v : State). Step s (entry_of w (answer_by (refusal st w) (made st w))) (feeding v later)) state first.1)
