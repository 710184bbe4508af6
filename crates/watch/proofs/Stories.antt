-- Every chain of calls is a story.
use Rattle.std.proofs.Common.{◌≡◌, ℕ, ◌≤◌, List, [], ◌∷◌, ◌++◌, Some, Ok, Err, Result, sym, refl, ap, ◌∙◌, subst, inl, inr, ⊎_elim, arith}
use Rattle.std.proofs.lemmas.List.{append_assoc, append-nil, map-append}
use Rattle.std.proofs.lemmas.Bool.{cases_Bool}
use Rattle.stream.specs.declared.refusal.Refusal.{Refusal}
use Rattle.stream.specs.declared.numbered.Numbered.{Numbered}
use Rattle.stream.specs.Words.{State, Fed, unread, done_by, begin_refusal, feeding}
use Rattle.panel.specs.Panels.{Meaning, Lawful}
use Rattle.watch.specs.declared.notice.Notice.{Notice}
use Rattle.watch.specs.Falls.{Falls}
use Rattle.watch.specs.Order.{Before, In, Sorted, Waiting, Waits}
use Rattle.watch.specs.Account.{Account, Made, Collected}
use Rattle.watch.specs.Calls.{Call, ReadTo, reading}
use Rattle.watch.specs.Calls as call
use Rattle.watch.specs.Answers.{Answer, gotten}
use Rattle.watch.specs.Answers as answer
use Rattle.watch.specs.Exchanges.{Exchange, calls_of, readings, read_after, taken, collected_in}
use Rattle.watch.specs.Story.{Right, Told, start, more, Story}
use Rattle.watch.specs.Notices.{Notices, OneList}
use Rattle.watch.specs.Story as right
use Rattle.watch.specs.Chains.{Step, Chain, none, link, ChainsTell}
use Rattle.watch.specs.Chains as step
use Rattle.watch.proofs.Only.{same}
use Rattle.watch.proofs.Sorting.{waiting_list, waiting_list_lem}
use Rattle.watch.proofs.Listings.{in_cases, in_left, in_right}
use Rattle.watch.proofs.Falling.{numbers_right}
use Rattle.watch.proofs.Held.{Kept, kept_start, kept_begin, kept_deliver, kept_first, kept_none}

abbrev pub exchange : Call → Answer → Exchange
exchange c a = record { call = c; answer = a }

-- one call more
readings_snoc : (s : State) (cs : List Call) (c : Call) → readings s (cs ++ c ∷ []) ≡ record {
  state = (reading (readings s cs).state c).state;
  samples = (readings s cs).samples ++ (reading (readings s cs).state c).samples;
}
readings_snoc s [] c = λ i. record { state = (reading s c).state; samples = append-nil (reading s c).samples i }
readings_snoc s (x ∷ cs) c =
    let first = reading s x in
    let front = readings first.state cs in
    let last = reading front.state c in
    ap (λ (z : ReadTo). record { state = z.state; samples = first.samples ++ z.samples }) (readings_snoc first.state cs c)
    ∙ (λ i. record { state = last.state; samples = sym (append_assoc first.samples front.samples last.samples) i })

pub calls_snoc : (es : List Exchange) (e : Exchange) → calls_of (es ++ e ∷ []) ≡ calls_of es ++ e.call ∷ []
calls_snoc es e = map-append (λ (z : Exchange). z.call) es (e ∷ [])

read_snoc : (es : List Exchange) (c : Call) (a : Answer) → readings unread (calls_of (es ++ exchange c a ∷ [])) ≡ record {
  state = (reading (read_after es) c).state;
  samples = taken es ++ (reading (read_after es) c).samples;
}
read_snoc es c a = ap (readings unread) (calls_snoc es (exchange c a)) ∙ readings_snoc unread (calls_of es) c

collected_snoc : (es : List Exchange) (e : Exchange) → collected_in (es ++ e ∷ []) ≡ collected_in es ++ gotten e.answer
collected_snoc [] e = append-nil (gotten e.answer)
collected_snoc (x ∷ es) e =
    ap (λ (z : List Notice). gotten x.answer ++ z) (collected_snoc es e) ∙ sym (append_assoc (gotten x.answer) (collected_in es) (gotten e.answer))

sorted-++ : (xs ys : List Notice) → Sorted xs → Sorted ys → ((n m : Notice) → In n xs → In m ys → Before n m) → Sorted (xs ++ ys)
sorted-++ [] ys p q h = q
sorted-++ (x ∷ xs) ys p q h =
    ((λ b i. ⊎_elim (p.0 b) (h x b (inl refl)) (in_cases b xs ys i)), sorted-++ xs ys p.1 q (λ n m i j. h n m (inr i) j))

module _ (m : Meaning) (law : Lawful m) where
  module _ {s : State} {T : List Numbered} {C : List Notice} {b : Account} (h : Kept m s T C b) where
    falls : (k n : ℕ) → b.ledger.number k ≡ Some n → Falls m.lost T k n
    falls k n e = (numbers_right m.lost law.lasting T k).falls n (sym (h.number k) ∙ e)

    number : (k n : ℕ) → Falls m.lost T k n → b.ledger.number k ≡ Some n
    number k n f = h.number k ∙ (numbers_right m.lost law.lasting T k).number n f

    within : (n : Notice) → Waiting b.ledger.number b.ledger.collected n → (1 ≤ n.seat) × (n.seat ≤ 64)
    within n w =
        let f = falls n.seat n.number w.0 in
        let p = law.within _ n.seat f.fails in (p.0, omega (arith, p.1, law.size.1))

    -- with those collected, whatever waits completes the notices of the lost seats
    pub left : (ns : List Notice) → Waits b.ledger.number b.ledger.collected ns → Notices m.lost T (C ++ ns)
    left ns w = record {
      sorted = sorted-++ C ns h.gone.sorted w.sorted (λ n x i j. h.gone.ahead n x i (w.each x j));
      each = λ n i. ⊎_elim (λ j. falls n.seat n.number (h.gone.each n j).0) (λ j. falls n.seat n.number (w.each n j).0) (in_cases n C ns i);
      all = λ n f. elim (cases_Bool (b.ledger.collected n.seat)) [
        | inl t ↦
            let i = h.gone.all n.seat t in
            let is : i.0 ≡ n.number = let two = sym (h.gone.each _ i.1).0 ∙ number n.seat n.number f in cc in
            in_left n C ns (subst (λ (z : ℕ). In (record { seat = n.seat; number = z }) C) is i.1)
        | inr e ↦ in_right n C ns (w.all n (number n.seat n.number f, e))
      ];
    }

  -- what holds after the calls es
  record Held (es : List Exchange) (b : Account) : Type 0 where
    kept : Kept m (read_after es) (taken es) (collected_in es) b
    told : Told m es

  -- the same after one call more, which may take samples and give notices
  further : (es : List Exchange) (c : Call) (a : Answer) (d : Account)
      → Kept m (reading (read_after es) c).state (taken es ++ (reading (read_after es) c).samples) (collected_in es ++ gotten a) d
      → Told m es → Right m es c a → Held (es ++ exchange c a ∷ []) d
  further es c a d k t r = record {
    kept = subst (λ (z : ReadTo). Kept m z.state z.samples (collected_in (es ++ exchange c a ∷ [])) d) (sym (read_snoc es c a))
        (subst (λ (z : List Notice). Kept m (reading (read_after es) c).state (taken es ++ (reading (read_after es) c).samples) z d) (sym (collected_snoc es (exchange c a))) k);
    told = more (exchange c a) t r;
  }

  -- a call that takes no sample, and one that gives no notice
  no_sample : {s : State} {T : List Numbered} {C : List Notice} {b : Account} → Kept m s T C b → Kept m s (T ++ []) C b
  no_sample {s} {T} {C} {b} k = subst (λ (z : List Numbered). Kept m s z C b) (sym (append-nil T)) k

  no_notice : {s : State} {T : List Numbered} {C : List Notice} {b : Account} → Kept m s T C b → Kept m s T (C ++ []) b
  no_notice {s} {T} {C} {b} k = subst (λ (z : List Notice). Kept m s T z b) (sym (append-nil C)) k

  held_collect : (es : List Exchange) (b d : Account) (r : Result Notice Refusal) → Held es b → Collected b d r → Held (es ++ exchange call.collect (answer.collected r) ∷ []) d
  held_collect es b d (Ok n) h o =
      further es call.collect (answer.collected (Ok n)) d (no_sample (kept_first m _ _ _ b d n h.kept o)) h.told
      (right.collect (Ok n) (n ∷ o.ledger.0) (left h.kept (n ∷ o.ledger.0) o.ledger.1) (o.ledger.0, refl))
  held_collect es b d (Err e) h o =
      further es call.collect (answer.collected (Err e)) d (no_sample (no_notice (kept_none m _ _ _ b d e h.kept o))) h.told
      (right.collect (Err e) [] (left h.kept [] o.ledger.1) (o.ledger.0, refl))

  held_step : (es : List Exchange) (b d : Account) {c : Call} {a : Answer} → Held es b → Step b d c a → Held (es ++ exchange c a ∷ []) d
  held_step es b d h (step.begin n r o) =
      further es (call.begin n) (answer.done r) d (no_sample (no_notice (kept_begin m _ _ _ b d n r h.kept o))) h.told
      (right.begin n r (o.began.answer ∙ ap (λ (z : State). done_by (begin_refusal z n)) h.kept.feed))
  held_step es b d h (step.deliver ws n r o) =
      let fed = ap (λ (z : State). feeding z ws) h.kept.feed in
      further es (call.deliver ws) (answer.took n r) d (no_notice (kept_deliver m _ _ _ b d ws n r h.kept o)) h.told
      (right.deliver ws n r (o.words ∙ ap (λ (z : Fed). z.count) fed) (o.refused ∙ ap (λ (z : Fed). z.refused) fed))
  held_step es b d h (step.list before after written waiting stays o few) =
      further es (call.list before) (answer.listed after written waiting) d (no_sample (no_notice (subst (Kept m _ _ _) (sym stays) h.kept))) h.told
      (right.list before after written waiting o.notices (left h.kept o.notices o.right) o.shows few)
  held_step es b d h (step.collect r o) = held_collect es b d r h o

  held_chain : (a b : Account) (es : List Exchange) → Held [] a → Chain a es b → Held es b
  held_chain a b es h none = h
  held_chain a b es h (link {es = xs} {b = d} e c ch o) = held_step xs d b (held_chain a d xs h ch) o

  story : (es : List Exchange) (b : Account) → Held es b → Story m es b
  story es b h =
      let k = h.kept in
      let right = numbers_right m.lost law.lasting (taken es) in
      let waits = waiting_list_lem b.ledger.number b.ledger.collected (within k) in
      record {
        feed = k.feed;
        panel = k.panel;
        lost = falls k;
        falls = number k;
        stands = λ j e. (right j).stands (sym (k.number j) ∙ e);
        safe = λ j e. k.number j ∙ (right j).safe e;
        collected = λ j. (k.gone.all j, λ i. (k.gone.each _ i.1).1);
        waiting = waiting_list b.ledger.number b.ledger.collected;
        waits = waits;
        notices = left k (waiting_list b.ledger.number b.ledger.collected) waits;
        told = h.told;
      }

  pub tell : (a b : Account) (es : List Exchange) → Made m a → Chain a es b → Story m es b
  tell a b es made ch = story es b (held_chain a b es (record { kept = kept_start m a made; told = start }) ch)

pub one_list : OneList
one_list F T xs ys p q = same xs ys p.sorted q.sorted (λ a i. q.all a (p.each a i)) (λ a i. p.all a (q.each a i))

pub chains_tell : ChainsTell
chains_tell = record { tell = λ m law. tell m law; one_list = one_list }
