-- What is kept from call to call of a story.
use Rattle.std.proofs.Common.{◌≡◌, ℕ, ◌<◌, ◌≤◌, Bool, true, false, cond, ◌||◌, eqb, ltb, ◌⊎◌, List, [], ◌∷◌, ◌++◌, Some, None, Ok, Err, Option, Result, sym, refl, ap, ◌∙◌, subst, inl, inr, ⊎_elim, arith}
use Rattle.std.proofs.lemmas.Bool.{both_ways, eqb-true, eq-eqb, or_cases, or_left, or_right}
use Rattle.stream.specs.declared.refusal.Refusal.{Refusal}
use Rattle.stream.specs.declared.refusal.Refusal.TheVariants.{WordTaken, BadStart}
use Rattle.stream.specs.declared.sample.Sample.{Sample}
use Rattle.stream.specs.declared.numbered.Numbered.{Numbered}
use Rattle.stream.specs.Words.{State, unread, last_number, state_by, begin_refusal, numbered_from, feeding}
use Rattle.stream.specs.Refusals.{when, first_of}
use Rattle.panel.specs.Panels.{Meaning, SamePanel, meaning_after, PanelAfter}
use Rattle.watch.specs.declared.notice.Notice.{Notice}
use Rattle.watch.specs.Ledgers.{BySeat}
use Rattle.watch.specs.Losses.{bare, number_by}
use Rattle.watch.specs.Falls.{number_on}
use Rattle.watch.specs.Order.{Before, In, Sorted, Waiting, Waits}
use Rattle.watch.specs.Account.{Account, Made, Opened, Delivered, Collected}
use Rattle.watch.proofs.Feeding.{number_by-++}
use Rattle.watch.proofs.Parts.{panel_is, panel_on}
use Rattle.watch.proofs.Ranges.{words_count, number_stays, number_new}

none_some : {P : Type 0} (o : Option ℕ) (n : ℕ) → o ≡ None → o ≡ Some n → P
none_some o n p q = absurd (let z : ◌≡◌ {A = ℕ} 0 1 = cc in omega arith)

in_one : (n m : Notice) (xs : List Notice) → In n (xs ++ m ∷ []) → In n xs ⊎ (n ≡ m)
in_one n m [] (inl e) = inr e
in_one n m [] (inr i) = absurd i
in_one n m (x ∷ xs) (inl e) = inl (inl e)
in_one n m (x ∷ xs) (inr i) = ⊎_elim (λ j. inl (inr j)) (λ e. inr e) (in_one n m xs i)

in_front : (n m : Notice) (xs : List Notice) → In n xs → In n (xs ++ m ∷ [])
in_front n m [] i = absurd i
in_front n m (x ∷ xs) (inl e) = inl e
in_front n m (x ∷ xs) (inr i) = inr (in_front n m xs i)

in_last : (m : Notice) (xs : List Notice) → In m (xs ++ m ∷ [])
in_last m [] = inl refl
in_last m (x ∷ xs) = inr (in_last m xs)

-- the notices C were collected, in their order, and all that still wait come behind them
pub record Gone (b : BySeat) (C : List Notice) : Type 0 where
  pub sorted : Sorted C
  pub each : (n : Notice) → In n C → (b.number n.seat ≡ Some n.number) × (b.collected n.seat ≡ true)
  pub all : (k : ℕ) → b.collected k ≡ true → (n : ℕ) × In (record { seat = k; number = n }) C
  pub ahead : (n m : Notice) → In n C → Waiting b.number b.collected m → Before n m

pub gone_none : (b : BySeat) → ((k : ℕ) → b.collected k ≡ false) → Gone b []
gone_none b none = record { sorted = tt; each = λ n i. absurd i; all = λ k e. absurd (both_ways (b.collected k) (none k) e); ahead = λ n m i w. absurd i }

-- the same by numbers and collecting that are the same
pub gone_same : (b c : BySeat) (C : List Notice) → ((k : ℕ) → c.number k ≡ b.number k) → ((k : ℕ) → c.collected k ≡ b.collected k) → Gone b C → Gone c C
gone_same b c C number collected g = record {
  sorted = g.sorted;
  each = λ n i. (number n.seat ∙ (g.each n i).0, collected n.seat ∙ (g.each n i).1);
  all = λ k e. g.all k (sym (collected k) ∙ e);
  ahead = λ n m i w. g.ahead n m i (sym (number m.seat) ∙ w.0, sym (collected m.seat) ∙ w.1);
}

-- where more samples were judged, whose numbers are above those before
pub gone_more : (b c : BySeat) (C : List Notice) (F : List Sample → ℕ → Bool) (xs : List Numbered) (lo hi : ℕ)
    → ((k : ℕ) → c.number k ≡ number_by F k (b.number k) xs) → ((k : ℕ) → c.collected k ≡ b.collected k)
    → ((k n : ℕ) → b.number k ≡ Some n → n < lo) → ((k n : ℕ) → number_by F k None xs ≡ Some n → (lo ≤ n) × (n < hi)) → Gone b C → Gone c C
gone_more b c C F xs lo hi number collected past new g = record {
  sorted = g.sorted;
  each = λ n i. (number n.seat ∙ ap (λ o. number_by F n.seat o xs) (g.each n i).0 ∙ number_stays F n.seat n.number xs, collected n.seat ∙ (g.each n i).1);
  all = λ k e. g.all k (sym (collected k) ∙ e);
  ahead = λ n m i w. old_or_new n m i (b.number m.seat) refl w.0 (sym (collected m.seat) ∙ w.1);
}
  where
    old_or_new : (n m : Notice) → In n C → (o : Option ℕ) → b.number m.seat ≡ o → c.number m.seat ≡ Some m.number → b.collected m.seat ≡ false → Before n m
    old_or_new n m i (Some j) e is free =
        let same : b.number m.seat ≡ Some m.number = e ∙ sym (number_stays F m.seat j xs) ∙ sym (ap (λ o. number_by F m.seat o xs) e) ∙ sym (number m.seat) ∙ is in
        g.ahead n m i (same, free)
    old_or_new n m i None e is free =
        inl (omega (arith, past n.seat n.number (g.each n i).0, new m.seat m.number (sym (ap (λ o. number_by F m.seat o xs) e) ∙ sym (number m.seat) ∙ is)))

-- where the first that waited was collected
pub gone_one : (b c : BySeat) (C : List Notice) (n : Notice) (rest : List Notice) → Waits b.number b.collected (n ∷ rest)
    → ((k : ℕ) → c.number k ≡ b.number k) → ((k : ℕ) → c.collected k ≡ (b.collected k || eqb n.seat k)) → Gone b C → Gone c (C ++ n ∷ [])
gone_one b c C n rest w number collected g = record {
  sorted = sorted_push C g.sorted (λ m i. g.ahead m n i first);
  each = λ m i. ⊎_elim
      (λ j. (number m.seat ∙ (g.each m j).0, collected m.seat ∙ or_left _ _ (g.each m j).1))
      (λ e. subst (λ (z : Notice). (c.number z.seat ≡ Some z.number) × (c.collected z.seat ≡ true)) (sym e)
      (number n.seat ∙ first.0, collected n.seat ∙ or_right _ _ (eq-eqb n.seat n.seat refl)))
      (in_one m n C i);
  all = λ k e. ⊎_elim
      (λ old. let i = g.all k old in (i.0, in_front _ n C i.1))
      (λ new. let same : n.seat ≡ k = eqb-true n.seat k new in (n.number, subst (λ (z : Notice). In z (C ++ n ∷ [])) (λ i. record { seat = same i; number = n.number }) (in_last n C)))
      (or_cases (b.collected k) (eqb n.seat k) (sym (collected k) ∙ e));
  ahead = λ m x i v.
      let free = apart (b.collected x.seat) (eqb n.seat x.seat) (sym (collected x.seat) ∙ v.1) in
      let waits : Waiting b.number b.collected x = (sym (number x.seat) ∙ v.0, free.0) in
      ⊎_elim (λ j. g.ahead m x j waits)
      (λ e. subst (λ (z : Notice). Before z x) (sym e) (behind x (w.all x waits) free.1))
      (in_one m n C i);
}
  where
    first : Waiting b.number b.collected n
    first = w.each n (inl refl)

    sorted_push : (xs : List Notice) → Sorted xs → ((m : Notice) → In m xs → Before m n) → Sorted (xs ++ n ∷ [])
    sorted_push [] s h = ((λ z i. absurd i), tt)
    sorted_push (x ∷ xs) s h =
        ((λ z i. ⊎_elim (λ j. s.0 z j) (λ e. subst (Before x) (sym e) (h x (inl refl))) (in_one z n xs i)), sorted_push xs s.1 (λ m i. h m (inr i)))

    apart : (p q : Bool) → (p || q) ≡ false → (p ≡ false) × (q ≡ false)
    apart true q e = absurd (let z : ◌≡◌ {A = ℕ} 0 1 = cc in omega arith)
    apart false q e = (refl, e)

    behind : (x : Notice) → In x (n ∷ rest) → eqb n.seat x.seat ≡ false → Before n x
    behind x (inl e) f = absurd (both_ways _ f (eq-eqb n.seat x.seat (ap (λ (z : Notice). z.seat) (sym e))))
    behind x (inr i) f = w.sorted.0 x i

-- a watch made on a panel that means m, with next reading place s, samples T and collected notices C
pub record Kept (m : Meaning) (s : State) (T : List Numbered) (C : List Notice) (b : Account) : Type 0 where
  pub feed : b.feed ≡ s
  pub panel : PanelAfter m (bare T) b.panel
  pub number : (k : ℕ) → b.ledger.number k ≡ number_on 0 m.lost T k
  pub past : (k n : ℕ) → b.ledger.number k ≡ Some n → n < s.next
  pub young : s.begun ≡ false → T ≡ []
  pub gone : Gone b.ledger C

made_zero : (t : Bool) (j : ℕ) → cond t (Some 0) None ≡ Some j → j ≡ 0
made_zero true j e = cc
made_zero false j e = none_some None j refl e

pub kept_start : (m : Meaning) (b : Account) → Made m b → Kept m unread [] [] b
unfolding number_by
kept_start m b h = record {
  feed = h.feed;
  panel = h.panel;
  number = h.ledger.number;
  past = λ k j e. omega (arith, made_zero (m.lost [] k) j (sym (h.ledger.number k) ∙ e));
  young = λ e. refl;
  gone = gone_none b.ledger h.ledger.collected;
}

module _ (m : Meaning) where
  pub kept_begin : (s : State) (T : List Numbered) (C : List Notice) (b d : Account) (n : ℕ) (r : Result (Unit {0}) Refusal) → Kept m s T C b → Opened b n d r
      → Kept m (state_by (begin_refusal s n) s (numbered_from s n)) T C d
  unfolding number_by
  kept_begin s T C b d n r h o =
      let u = o.ledger in
      let state : d.feed ≡ state_by (begin_refusal s n) s (numbered_from s n) = o.began.state ∙ ap (λ (z : State). state_by (begin_refusal z n) z (numbered_from z n)) h.feed in
      record {
        feed = state;
        panel = subst (PanelAfter m (bare T)) (sym (panel_is b.panel d.panel o.panel)) h.panel;
        number = λ k. u.number k ∙ h.number k;
        past = λ k j e. go k j (sym (u.number k) ∙ e) s.begun refl (eqb n 0 || ltb last_number n) refl;
        young = begun (begin_refusal s n);
        gone = gone_same b.ledger d.ledger C u.number u.collected h.gone;
      }
    where
      begun : (x : Option Refusal) → (state_by x s (numbered_from s n)).begun ≡ false → T ≡ []
      begun (Some x) e = h.young e
      begun None e = h.young e

      go : (k j : ℕ) → b.ledger.number k ≡ Some j → (t : Bool) → s.begun ≡ t → (u : Bool) → (eqb n 0 || ltb last_number n) ≡ u
          → j < (state_by (first_of (when t WordTaken ∷ when u BadStart ∷ [])) s (numbered_from s n)).next
      go k j e true p u q = h.past k j e
      go k j e false p true q = h.past k j e
      go k j e false p false q =
          let first : number_on 0 m.lost [] k ≡ Some j = sym (ap (λ (z : List Numbered). number_on 0 m.lost z k) (h.young p)) ∙ sym (h.number k) ∙ e in
          omega (arith, made_zero (m.lost [] k) j first, not_zero (eqb n 0) refl q)
        where
          not_zero : (v : Bool) → eqb n 0 ≡ v → (v || ltb last_number n) ≡ false → n ≡ 0 → ⊥
          not_zero true x y z = absurd (let two : ◌≡◌ {A = ℕ} 0 1 = cc in omega arith)
          not_zero false x y z = both_ways (eqb n 0) x (eq-eqb n 0 z)

  -- the words start where the watch has read to
  from_here : (T : List Numbered) (C : List Notice) (b d : Account) (ws : List ℕ) (n : ℕ) (r : Option Refusal) → Delivered b ws d n r → Kept m b.feed T C b
      → Kept m (feeding b.feed ws).state (T ++ (feeding b.feed ws).samples) C d
  from_here T C b d ws n r o h =
      let s = b.feed in
      let xs = (feeding s ws).samples in
      let counts = words_count ws s in
      let lost : (List Sample → ℕ → Bool) = b.panel.lost in
      let new : (k j : ℕ) → number_by lost k None xs ≡ Some j → (s.next ≤ j) × (j < (feeding s ws).state.next) =
      λ k j e. number_new lost k j s.next (feeding s ws).state.next xs counts.between e in
      record {
        feed = o.feed;
        panel = panel_on m b.panel d.panel T xs h.panel o.panel;
        number = λ k. o.ledger.number k
            ∙ ap (λ (z : Meaning). number_by z.lost k (b.ledger.number k) xs) (panel_is (meaning_after m (bare T)) b.panel h.panel)
            ∙ ap (λ (z : Option ℕ). number_by (λ l. m.lost (bare T ++ l)) k z xs) (h.number k)
            ∙ sym (number_by-++ m.lost k (cond (m.lost [] k) (Some 0) None) T xs);
        past = λ k j e. old_or_new k j (b.ledger.number k) refl (sym (o.ledger.number k) ∙ e) new counts.up;
        young = λ e. let v = counts.begun e in ap (λ (z : List Numbered). z ++ xs) (h.young v.1) ∙ v.0;
        gone = gone_more b.ledger d.ledger C lost xs s.next (feeding s ws).state.next o.ledger.number o.ledger.collected h.past new h.gone;
      }
    where
      old_or_new : (k j : ℕ) (z : Option ℕ) → b.ledger.number k ≡ z → number_by b.panel.lost k (b.ledger.number k) (feeding b.feed ws).samples ≡ Some j
          → ((i n : ℕ) → number_by b.panel.lost i None (feeding b.feed ws).samples ≡ Some n → (b.feed.next ≤ n) × (n < (feeding b.feed ws).state.next))
          → b.feed.next ≤ (feeding b.feed ws).state.next → j < (feeding b.feed ws).state.next
      old_or_new k j (Some i) e is new up =
          let same : i ≡ j = let two = sym (number_stays b.panel.lost k i (feeding b.feed ws).samples) ∙ sym (ap (λ y. number_by b.panel.lost k y (feeding b.feed ws).samples) e) ∙ is in cc in
          omega (arith, h.past k i e)
      old_or_new k j None e is new up = (new k j (sym (ap (λ y. number_by b.panel.lost k y (feeding b.feed ws).samples) e) ∙ is)).1

  pub kept_deliver : (s : State) (T : List Numbered) (C : List Notice) (b d : Account) (ws : List ℕ) (n : ℕ) (r : Option Refusal) → Kept m s T C b → Delivered b ws d n r
      → Kept m (feeding s ws).state (T ++ (feeding s ws).samples) C d
  kept_deliver s T C b d ws n r h o =
      subst (λ (z : State). Kept m (feeding z ws).state (T ++ (feeding z ws).samples) C d) h.feed
      (from_here T C b d ws n r o (subst (λ (z : State). Kept m z T C b) (sym h.feed) h))

  -- a call that alters no more than which notices were collected
  kept_collect : (s : State) (T : List Numbered) (C D : List Notice) (b d : Account) → d.feed ≡ b.feed → SamePanel b.panel d.panel
      → ((k : ℕ) → d.ledger.number k ≡ b.ledger.number k) → Gone d.ledger D → Kept m s T C b → Kept m s T D d
  kept_collect s T C D b d feed panel number gone h = record {
    feed = feed ∙ h.feed;
    panel = subst (PanelAfter m (bare T)) (sym (panel_is b.panel d.panel panel)) h.panel;
    number = λ k. number k ∙ h.number k;
    past = λ k j e. h.past k j (sym (number k) ∙ e);
    young = h.young;
    gone = gone;
  }

  pub kept_first : (s : State) (T : List Numbered) (C : List Notice) (b d : Account) (n : Notice) → Kept m s T C b → Collected b d (Ok n) → Kept m s T (C ++ n ∷ []) d
  kept_first s T C b d n h o =
      let took = o.ledger in
      kept_collect s T C (C ++ n ∷ []) b d o.feed o.panel took.2.number (gone_one b.ledger d.ledger C n took.0 took.1 took.2.number took.2.collected h.gone) h

  pub kept_none : (s : State) (T : List Numbered) (C : List Notice) (b d : Account) (e : Refusal) → Kept m s T C b → Collected b d (Err e) → Kept m s T C d
  kept_none s T C b d e h o =
      let same = o.ledger.2 in
      kept_collect s T C C b d o.feed o.panel same.number (gone_same b.ledger d.ledger C same.number same.collected h.gone) h
