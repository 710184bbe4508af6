-- What is sent comes back: words of bytes, and what a feed makes of them.
use Rattle.std.proofs.Common.{◌≡◌, ℕ, suc, ◌+◌, ◌*◌, ◌/◌, ◌%◌, ◌^◌, ◌≤◌, true, false, List, [], ◌∷◌, ◌++◌, map, length, Some, None, Option, sym, refl, ap, ◌∙◌, subst, zero-add, arith, length-append}
use Rattle.std.specs.List.{flat_map}
use Rattle.std.specs.Option.{option_to_list}
use Rattle.std.proofs.lemmas.Grind.{flat_map-append}
use Rattle.std.proofs.lemmas.List.{append_assoc, append-nil}
use Rattle.stream.specs.declared.refusal.Refusal.{Refusal}
use Rattle.stream.specs.declared.sample.Sample.{Sample}
use Rattle.stream.specs.declared.numbered.Numbered.{Numbered}
use Rattle.stream.specs.Bytes.{bytes_of}
use Rattle.stream.specs.Words.{State, Fed, unread, last_number, refusal, made, after, onward, feeding}
use Rattle.stream.specs.Sending.{sample_words}
use Rattle.stream.proofs.Same.{same_sample}
use Rattle.stream.proofs.Sends.{reads_back}
use Rattle.stream.specs.Traces.{words_in, fed_by}
use Rattle.rows.specs.Traces.{word_bytes, sample_bytes, trace_of, TracesComeBack}

-- bytes of words
pub word_first : (w : ℕ) (rest : List ℕ) → words_in (bytes_of (Some w) ++ rest) ≡ w ∷ words_in rest
word_first w rest =
    let is : w / 2 ^ 24 * 2 ^ 24 + w / 2 ^ 16 % 256 * 2 ^ 16 + w / 2 ^ 8 % 256 * 2 ^ 8 + w % 256 ≡ w = omega arith in
    ap (λ (v : ℕ). v ∷ words_in rest) is

pub words_back : (ws : List ℕ) → words_in (word_bytes ws) ≡ ws
words_back [] = refl
words_back (w ∷ ws) = word_first w (word_bytes ws) ∙ ap (λ (vs : List ℕ). w ∷ vs) (words_back ws)

length_bytes : (ws : List ℕ) → length (word_bytes ws) ≡ 4 * length ws
length_bytes [] = refl
length_bytes (w ∷ ws) = length-append (bytes_of (Some w)) (word_bytes ws) ∙ omega (arith, length_bytes ws)

abbrev pub sent_words : List Sample → List ℕ
sent_words ss = flat_map (λ s. sample_words s.gap s.letters) ss

pub trace_words : (ss : List Sample) → trace_of ss ≡ word_bytes (sent_words ss)
trace_words [] = refl
trace_words (s ∷ ss) = ap (λ (l : List ℕ). sample_bytes s ++ l) (trace_words ss) ∙ sym (flat_map-append (λ w. bytes_of (Some w)) (sample_words s.gap s.letters) (sent_words ss))

-- words after words
abbrev both : Fed → Fed → Fed
both a b = record { state = b.state; count = a.count + b.count; refused = b.refused; samples = a.samples ++ b.samples }

feeding_on : (s : State) (xs ys : List ℕ) → (feeding s xs).refused ≡ None → feeding s (xs ++ ys) ≡ both (feeding s xs) (feeding (feeding s xs).state ys)
unfolding feeding
feeding_on s [] ys e =
    let f = feeding s ys in
    (λ i. record { state = f.state; count = sym (zero-add f.count) i; refused = f.refused; samples = f.samples })
feeding_on s (w ∷ xs) ys e = go (feeding_on (after s w) xs ys) (refusal s w) e
  where
    x : Option Numbered
    x = made s w

    front : Fed
    front = feeding (after s w) xs

    go : (front.refused ≡ None → feeding (after s w) (xs ++ ys) ≡ both front (feeding front.state ys))
        → (o : Option Refusal) → (onward o s x front).refused ≡ None
        → onward o s x (feeding (after s w) (xs ++ ys)) ≡ both (onward o s x front) (feeding (onward o s x front).state ys)
    go on (Some r) n = absurd (let z : ◌≡◌ {A = ℕ} 0 1 = cc in omega arith)
    go on None n =
        let rest = feeding front.state ys in
        let more : suc (front.count + rest.count) ≡ suc front.count + rest.count = omega arith in
        ap (onward None s x) (on n)
        ∙ (λ i. record { state = rest.state; count = more i; refused = rest.refused; samples = sym (append_assoc (option_to_list x) front.samples rest.samples) i })

pub record AllBack (ss : List Sample) (fed : Fed) : Type 0 where
  pub taken : fed.refused ≡ None
  pub count : fed.count ≡ length (sent_words ss)
  pub samples : map (λ x. x.sample) fed.samples ≡ ss
  pub going : fed.state.ended ≡ false

words_come_back : (ss : List Sample) (s : State) → s.pending ≡ 0 → s.ended ≡ false → s.next + length ss ≤ last_number + 1 → AllBack ss (feeding s (sent_words ss))
unfolding feeding
words_come_back [] s p e n = record { taken = refl; count = refl; samples = refl; going = e }
words_come_back (x ∷ ss) s p e n =
    let ws = sample_words x.gap x.letters in
    let one = reads_back x.gap x.letters (omega (arith, x.short)) x.low s p e (omega arith) in
    let next : State = record { next = s.next + 1; pending = 0; begun = true; ended = false } in
    let rest = words_come_back ss next refl refl (omega arith) in
    let all = feeding_on s ws (sent_words ss) (ap (λ (f : Fed). f.refused) one.all_taken) ∙ ap (λ (f : Fed). both f (feeding f.state (sent_words ss))) one.all_taken in
    let same : one.sample ≡ x = same_sample one.sample x one.gap_is one.letters_are in
    subst (AllBack (x ∷ ss)) (sym all) (record {
      taken = rest.taken;
      count = sym (length-append ws (sent_words ss) ∙ ap (λ (k : ℕ). length ws + k) (sym rest.count));
      samples = (λ i. same i ∷ rest.samples i);
      going = rest.going;
    })

pub trace_comes_back : (ss : List Sample) → length ss ≤ last_number → AllBack ss (fed_by (trace_of ss))
trace_comes_back ss n =
    let words : words_in (trace_of ss) ≡ sent_words ss = ap words_in (trace_words ss) ∙ words_back (sent_words ss) in
    subst (AllBack ss) (sym (ap (feeding unread) words)) (words_come_back ss unread refl refl (omega arith))

pub traces_come_back : TracesComeBack
traces_come_back ss n =
    let back = trace_comes_back ss n in
    record {
      taken = back.taken;
      whole = ap length (trace_words ss) ∙ length_bytes (sent_words ss) ∙ ap (λ (k : ℕ). 4 * k) (sym back.count);
      samples = back.samples;
    }

-- one sample alone
pub sample_comes_back : (s : Sample) → ((fed_by (sample_bytes s)).refused ≡ None) × (map (λ x. x.sample) (fed_by (sample_bytes s)).samples ≡ s ∷ [])
sample_comes_back s =
    let back = traces_come_back (s ∷ []) (omega arith) in
    let one : trace_of (s ∷ []) ≡ sample_bytes s = append-nil (sample_bytes s) in
    (ap (λ (l : List ℕ). (fed_by l).refused) (sym one) ∙ back.taken, ap (λ (l : List ℕ). map (λ (x : Numbered). x.sample) (fed_by l).samples) (sym one) ∙ back.samples)
