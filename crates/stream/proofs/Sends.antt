-- What the sender writes, and what a feed reads of it.
use Rattle.std.proofs.Common.{◌≡◌, ℕ, zero, suc, ◌+◌, ◌-◌, ◌*◌, ◌/◌, ◌%◌, ◌^◌, ◌<◌, ◌≤◌, Bool, true, false, cond, not, eqb, List, [], ◌∷◌, ◌++◌, length, get_or, take, drop, set, replicate, IfOk, Some, None, Ok, Option, Result, sym, refl, ap, ◌∙◌, subst, append_assoc, arith, length-append}
use Rattle.std.proofs.Math.Nat.{min-eq_left}
use mir.Val.{bool_byte}
use Rattle.std.proofs.lemmas.List.{set_at, take_at, drop_more, length-replicate}
use Rattle.std.proofs.lemmas.Bool.{le-ltb, eqb-true}
use Rattle.stream.specs.declared.refusal.Refusal.{Refusal}
use Rattle.stream.specs.declared.refusal.Refusal.TheVariants.{HighLetter}
use Rattle.stream.specs.Refusals.{when, first_of}
use Rattle.stream.specs.Words.{State, feeding, onward, made, after, kind, load, longest_gap, last_number, sample_in}
use Rattle.stream.specs.Sending.{full_gap, full_words, remainder, last_gap, words_of, sample_words, too_short, Put, Sent, ReadAs, ReadsBack}
use Rattle.stream.proofs.Checks.{is_gap, is_sample, made_none}

-- one more word written behind the words ws
one_more : (ws out : List ℕ) (n y : ℕ) → length ws ≡ n → n < length out → set (ws ++ drop n out) n y ≡ (ws ++ y ∷ []) ++ drop (n + 1) out
one_more ws out n y e h =
    ap (λ l. set (ws ++ l) n y) (drop_more out n 0 h) ∙ set_at ws (get_or out n 0) (drop (n + 1) out) y n e ∙ sym (append_assoc ws (y ∷ []) (drop (n + 1) out))

-- the word at n written again
again : (ws out : List ℕ) (n x y : ℕ) → length ws ≡ n → set ((ws ++ x ∷ []) ++ out) n y ≡ (ws ++ y ∷ []) ++ out
again ws out n x y e =
    ap (λ l. set l n y) (append_assoc ws (x ∷ []) out) ∙ set_at ws x out y n e ∙ sym (append_assoc ws (y ∷ []) out)

module _ (fulls rest word : ℕ) where
  abbrev gap_part : List ℕ
  gap_part = replicate fulls full_gap

  long : length gap_part ≡ fulls
  long = length-replicate fulls full_gap

  length_words : length (gap_part ++ (last_gap rest ++ word ∷ [])) ≡ fulls + bool_byte (not (eqb rest 0)) + 1
  length_words = length-append gap_part _ ∙ go (eqb rest 0)
    where
      go : (b : Bool) → length gap_part + length (cond b [] (rest ∷ []) ++ word ∷ []) ≡ fulls + bool_byte (not b) + 1
      go true = omega (arith, long)
      go false = omega (arith, long)

  written : (out : List ℕ) → fulls + bool_byte (not (eqb rest 0)) < length out
      → set (set (gap_part ++ drop fulls out) fulls rest) (fulls + bool_byte (not (eqb rest 0))) word
      ≡ (gap_part ++ (last_gap rest ++ word ∷ [])) ++ drop (fulls + bool_byte (not (eqb rest 0)) + 1) out
  written out = go (eqb rest 0)
    where
      go : (b : Bool) → fulls + bool_byte (not b) < length out
          → set (set (gap_part ++ drop fulls out) fulls rest) (fulls + bool_byte (not b)) word ≡ (gap_part ++ (cond b [] (rest ∷ []) ++ word ∷ [])) ++ drop (fulls + bool_byte (not b) + 1) out
      go true h =
          let none : fulls + 0 ≡ fulls = omega arith in
          rw none (ap (λ l. set l fulls word) (one_more gap_part out fulls rest long (omega arith)) ∙ again gap_part (drop (fulls + 1) out) fulls rest word long)
      go false h =
          ap (λ l. set l (fulls + 1) word) (one_more gap_part out fulls rest long (omega arith))
          ∙ one_more (gap_part ++ rest ∷ []) out (fulls + 1) word (length-append gap_part (rest ∷ []) ∙ omega (arith, long)) h
          ∙ ap (λ l. l ++ drop (fulls + 1 + 1) out) (append_assoc gap_part (rest ∷ []) (word ∷ []))

-- from the list to the answer, where the code has the full words as `front` and counts the rest by `more`
module _ (fulls rest letters : ℕ) (out : List ℕ) (more : ℕ) (m : more ≡ bool_byte (not (eqb rest 0))) where
  abbrev ws : List ℕ
  ws = words_of fulls rest letters

  long_words : length ws ≡ fulls + more + 1
  long_words = length_words fulls rest (2 ^ 30 + letters) ∙ ap (λ k. fulls + k + 1) (sym m)

  pub put_done : (front : List ℕ) → front ≡ replicate fulls full_gap → fulls + more < length out
      → Put (too_short ws out) ws out (Ok (fulls + more + 1)) (set (set (front ++ drop (fulls - 0) out) fulls rest) (fulls + more) (2 ^ 30 + letters))
  put_done front f h =
      let start : fulls - 0 ≡ fulls = omega arith in
      let done : set (set (front ++ drop fulls out) fulls rest) (fulls + more) (2 ^ 30 + letters) ≡ ws ++ drop (fulls + more + 1) out = rw (f, m) (written fulls rest (2 ^ 30 + letters) out (rw m at h)) in
      rw (start, le-ltb (length out) (length ws) (omega (arith, long_words)))
      (record { answer = ap Ok (sym long_words); list = done ∙ ap (λ k. ws ++ drop k out) (sym long_words) })

pub put_taken : (P : List ℕ → Type 0) (o : Option Refusal) (ws before : List ℕ) (r : Result ℕ Refusal) (after : List ℕ)
    → Put o ws before r after → P ws → IfOk r (λ n. P (take n after))
put_taken P (Some e) ws before r after p h = subst (λ z. IfOk z (λ n. P (take n after))) (sym p.answer) tt
put_taken P None ws before r after p h =
    let front : ws ≡ take (length ws) after = sym (ap (take (length ws)) p.list ∙ take_at ws (drop (length ws) before) (length ws) refl) in
    subst (λ z. IfOk z (λ n. P (take n after))) (sym p.answer) (subst P front h)

first_last : (o : Option Refusal) → first_of (o ∷ []) ≡ o
first_last (Some r) = refl
first_last None = refl

pub put_checked : (gap letters : ℕ) (out : List ℕ) (r : Result ℕ Refusal) (after : List ℕ) → letters / 2 ^ 24 ≤ 0
    → Put (too_short (sample_words gap letters) out) (sample_words gap letters) out r after → Sent gap letters out r after
put_checked gap letters out r after h p =
    let ws = sample_words gap letters in
    subst (λ o. Put o ws out r after) (sym (ap (λ b. first_of (when b HighLetter ∷ too_short ws out ∷ [])) (le-ltb 0 (letters / 2 ^ 24) h) ∙ first_last (too_short ws out))) p

-- reading back, word by word
read_letters : (s : State) (letters : ℕ) → s.pending ≤ longest_gap → letters < 2 ^ 24 → s.ended ≡ false → s.next ≤ last_number
    → ReadAs s.pending letters s ((2 ^ 30 + letters) ∷ [])
unfolding feeding
read_letters s letters short low e n =
    let w : ℕ = 2 ^ 30 + letters in
    let k : kind w ≡ 1 = omega arith in
    let same : w % 2 ^ 24 ≡ letters = omega arith in
    record {
      sample = sample_in s.pending w;
      gap_is = min-eq_left short;
      letters_are = same;
      all_taken = ap (λ o. onward o s (made s w) (feeding (after s w) [])) (is_sample s w e k (omega arith) n) ∙ rw k;
    }

read_gap : (s : State) (w : ℕ) (ws : List ℕ) (gap letters : ℕ) → kind w ≡ 0 → s.ended ≡ false → s.pending + load w ≤ longest_gap → ReadAs gap letters (after s w) ws → ReadAs gap letters s (w ∷ ws)
unfolding feeding
read_gap s w ws gap letters k e h r =
    let next : (after s w).next ≡ s.next = rw k in
    record {
      sample = r.sample;
      gap_is = r.gap_is;
      letters_are = r.letters_are;
      all_taken =
          ap (λ o. onward o s (made s w) (feeding (after s w) ws)) (is_gap s w e k h)
          ∙ ap (λ x. onward None s x (feeding (after s w) ws)) (sym (made_none s w (omega arith)))
          ∙ ap (onward None s None) r.all_taken
          ∙ (λ i. record {
            state = record { next = next i + 1; pending = 0; begun = true; ended = false };
            count = suc (length ws);
            refused = None;
            samples = record { number = next i; sample = r.sample } ∷ [];
          });
    }

read_tail : (s : State) (rest letters : ℕ) → letters < 2 ^ 24 → rest ≤ full_gap → s.ended ≡ false → s.next ≤ last_number → s.pending + rest ≤ longest_gap
    → ReadAs (s.pending + rest) letters s (last_gap rest ++ (2 ^ 30 + letters) ∷ [])
read_tail s rest letters low small e n h = go (eqb rest 0) refl
  where
    k : kind rest ≡ 0
    k = omega arith

    same : load rest ≡ rest
    same = omega arith

    go : (b : Bool) → eqb rest 0 ≡ b → ReadAs (s.pending + rest) letters s (cond b [] (rest ∷ []) ++ (2 ^ 30 + letters) ∷ [])
    go true z =
        let none : s.pending ≡ s.pending + rest = omega (arith, eqb-true rest 0 z) in
        subst (λ g. ReadAs g letters s ((2 ^ 30 + letters) ∷ [])) none (read_letters s letters (omega arith) low e n)
    go false z =
        let pending : (after s rest).pending ≡ s.pending + rest = rw (k, same) in
        read_gap s rest _ (s.pending + rest) letters k e (omega (arith, same))
        (subst (λ g. ReadAs g letters (after s rest) ((2 ^ 30 + letters) ∷ [])) pending (read_letters (after s rest) letters (omega (arith, pending)) low (rw k) (rw k n)))

read_fulls : (fulls : ℕ) (s : State) (ws : List ℕ) (gap letters : ℕ) → s.ended ≡ false → s.pending + fulls * full_gap ≤ longest_gap
    → ((t : State) → t.next ≡ s.next → t.pending ≡ s.pending + fulls * full_gap → t.ended ≡ false → ReadAs gap letters t ws)
    → ReadAs gap letters s (replicate fulls full_gap ++ ws)
read_fulls zero s ws gap letters e h then = then s refl (omega arith) e
read_fulls (suc fulls) s ws gap letters e h then =
    read_gap s full_gap (replicate fulls full_gap ++ ws) gap letters refl e (omega arith)
    (read_fulls fulls (after s full_gap) ws gap letters refl (omega arith) (λ t n p. then t n (omega arith)))

-- the words of a sample read as that sample
pub reads_back : (gap letters : ℕ) → gap ≤ longest_gap → letters < 2 ^ 24 → ReadsBack gap letters (sample_words gap letters)
reads_back gap letters h low s p e n =
    let small : remainder gap ≤ full_gap = omega arith in
    let whole : full_words gap * full_gap + remainder gap ≡ gap = omega arith in
    read_fulls (full_words gap) s _ gap letters e (omega arith) (λ t tn tp te.
    let all : t.pending + remainder gap ≡ gap = omega arith in
    subst (λ g. ReadAs g letters t (last_gap (remainder gap) ++ (2 ^ 30 + letters) ∷ [])) all
    (read_tail t (remainder gap) letters low small te (rw tn n) (omega arith)))
