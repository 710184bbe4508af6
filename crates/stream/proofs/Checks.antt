-- Which check of a word fails first, from what is known of the word and the state.
use Rattle.std.proofs.Common.{◌≡◌, ℕ, ◌+◌, ◌/◌, ◌%◌, ◌^◌, ◌<◌, ◌≤◌, true, false, Some, None, Ok, Err, Option, sym, ap, ◌∙◌, arith}
use Rattle.std.proofs.Math.Nat.{min-eq_left}
use Rattle.std.proofs.lemmas.Bool.{lt-ltb, le-ltb, ne_eqb}
use Rattle.stream.specs.declared.refusal.Refusal.{Refusal}
use Rattle.stream.specs.declared.refusal.Refusal.TheVariants.{StreamEnded, UnusedKind, GapTooLong, HighLetter, NumbersSpent, EndPayload, GapAtEnd}
use Rattle.stream.specs.declared.numbered.Numbered.{Numbered}
use Rattle.stream.specs.Words.{State, kind, load, longest_gap, last_number, refusal, made, after, sample_in, answer_by, state_by, Took}
use Rattle.stream.proofs.Same.{same_sample}

module _ (s : State) (w : ℕ) where
  pub is_ended : s.ended ≡ true → refusal s w ≡ Some StreamEnded
  unfolding refusal
  is_ended e = rw e

  module _ (e : s.ended ≡ false) where
    pub is_long : kind w ≡ 0 → longest_gap < s.pending + load w → refusal s w ≡ Some GapTooLong
    unfolding refusal
    is_long k h = rw (e, k, lt-ltb _ _ h)

    pub is_gap : kind w ≡ 0 → s.pending + load w ≤ longest_gap → refusal s w ≡ None
    unfolding refusal
    is_gap k h = rw (e, k, le-ltb _ _ h)

    pub is_high : kind w ≡ 1 → 0 < load w / 2 ^ 24 → refusal s w ≡ Some HighLetter
    unfolding refusal
    is_high k h = rw (e, k, lt-ltb _ _ h)

    pub is_spent : kind w ≡ 1 → load w / 2 ^ 24 ≤ 0 → last_number < s.next → refusal s w ≡ Some NumbersSpent
    unfolding refusal
    is_spent k h n = rw (e, k, le-ltb _ _ h, lt-ltb _ _ n)

    pub is_sample : kind w ≡ 1 → load w / 2 ^ 24 ≤ 0 → s.next ≤ last_number → refusal s w ≡ None
    unfolding refusal
    is_sample k h n = rw (e, k, le-ltb _ _ h, le-ltb _ _ n)

    pub is_unused : kind w ≡ 2 → refusal s w ≡ Some UnusedKind
    unfolding refusal
    is_unused k = rw (e, k)

    pub is_loaded : kind w ≡ 3 → 0 < load w → refusal s w ≡ Some EndPayload
    unfolding refusal
    is_loaded k h = rw (e, k, lt-ltb _ _ h)

    pub is_open : kind w ≡ 3 → load w ≤ 0 → 0 < s.pending → refusal s w ≡ Some GapAtEnd
    unfolding refusal
    is_open k h p = rw (e, k, le-ltb _ _ h, lt-ltb _ _ p)

    pub is_end : kind w ≡ 3 → load w ≤ 0 → s.pending ≤ 0 → refusal s w ≡ None
    unfolding refusal
    is_end k h p = rw (e, k, le-ltb _ _ h, le-ltb _ _ p)

  -- from the check to the answer and the state
  pub refuses : (r : Refusal) → refusal s w ≡ Some r → Took s w (Err r) s
  refuses r h = record { answer = sym (ap (λ o. answer_by o (made s w)) h); state = sym (ap (λ o. state_by o s (after s w)) h) }

  takes : (x : Option Numbered) (t : State) → refusal s w ≡ None → x ≡ made s w → t ≡ after s w → Took s w (Ok x) t
  takes x t h m a = record
      { answer = ap Ok m ∙ sym (ap (λ o. answer_by o (made s w)) h); state = a ∙ sym (ap (λ o. state_by o s (after s w)) h) }

  pub made_none : (kind w ≡ 1 → ⊥) → None ≡ made s w
  made_none ne = rw (ne_eqb (kind w) 1 ne)

  made_sample : (x : Numbered) → kind w ≡ 1 → load w / 2 ^ 24 ≤ 0 → x.number ≡ s.next → x.sample.gap ≡ s.pending → x.sample.letters ≡ load w → Some x ≡ made s w
  made_sample x k h n g l =
      let short : s.pending ≤ longest_gap = omega (arith, g, x.sample.short) in
      let low : load w ≡ w % 2 ^ 24 = omega arith in
      let same : x.sample ≡ sample_in s.pending w = same_sample x.sample (sample_in s.pending w) (g ∙ sym (min-eq_left short)) (l ∙ low) in
      rw k (λ i. Some (record { number = n i; sample = same i }))

  -- the three kinds of word that are taken
  pub takes_gap : (t : State) → s.ended ≡ false → kind w ≡ 0 → s.pending + load w ≤ longest_gap
      → t ≡ record { next = s.next; pending = s.pending + load w; begun = true; ended = false } → Took s w (Ok None) t
  takes_gap t e k h a = takes None t (is_gap e k h) (made_none (omega arith)) (a ∙ rw k)

  pub takes_sample : (x : Numbered) (t : State) → s.ended ≡ false → kind w ≡ 1 → load w / 2 ^ 24 ≤ 0 → s.next ≤ last_number
      → x.number ≡ s.next → x.sample.gap ≡ s.pending → x.sample.letters ≡ load w
      → t ≡ record { next = s.next + 1; pending = 0; begun = true; ended = false } → Took s w (Ok (Some x)) t
  takes_sample x t e k h m n g l a = takes (Some x) t (is_sample e k h m) (made_sample x k h n g l) (a ∙ rw k)

  pub takes_end : (t : State) → s.ended ≡ false → kind w ≡ 3 → load w ≤ 0 → s.pending ≤ 0
      → t ≡ record { next = s.next; pending = s.pending; begun = true; ended = true } → Took s w (Ok None) t
  takes_end t e k h p a =
      let none : s.pending ≡ 0 = omega arith in takes None t (is_end e k h p) (made_none (omega arith)) (a ∙ rw (k, none))
