-- One list of calls has one list of answers.
use Rattle.std.proofs.Common.{◌≡◌, ℕ, ◌≤◌, min, List, [], ◌∷◌, ◌++◌, length, map, take, drop, replicate, Ok, Err, Option, Result, sym, refl, ap, ◌∙◌, ap₂, subst, arith}
use Rattle.std.proofs.lemmas.List.{map-append, append_cancel_left, take_at, length-replicate, length-take-le}
use Rattle.stream.specs.declared.refusal.Refusal.{Refusal}
use Rattle.stream.specs.Words.{begin_refusal, done_by, feeding}
use Rattle.panel.specs.Panels.{Meaning, SamePanel}
use Rattle.watch.specs.declared.notice.Notice.{Notice}
use Rattle.watch.specs.Listing.{Shows}
use Rattle.watch.specs.Seats.{first_seats}
use Rattle.watch.specs.Account.{Account, Made, Opened, Delivered, Listed, Collected, Alike}
use Rattle.watch.specs.Calls.{Call}
use Rattle.watch.specs.Calls as call
use Rattle.watch.specs.Answers.{Answer}
use Rattle.watch.specs.Answers as answer
use Rattle.watch.specs.Exchanges.{Exchange, read_after, calls_of, answers_of}
use Rattle.watch.specs.Story.{Left, Gets, Right, Told, start, more}
use Rattle.watch.specs.Story as right
use Rattle.watch.specs.Chains.{Step, Chain, none, link}
use Rattle.watch.specs.Chains as step
use Rattle.watch.specs.Repeats.{asked_by, shown_by, AnswersTell}
use Rattle.watch.specs.Blanks.{blank}
use Rattle.watch.proofs.Parts.{panel_is, seats_is, alike_is, alike_from}
use Rattle.watch.proofs.Alikes.{shows_same, alike_on, delivered_alike}
use Rattle.watch.proofs.Stories.{exchange, calls_snoc, one_list}

-- lists with one thing more at their ends
no_snoc : {X : Type 0} (xs : List X) (x : X) → [] ≡ xs ++ x ∷ [] → ⊥
no_snoc [] x e = let z : ◌≡◌ {A = ℕ} 0 1 = cc in omega arith
no_snoc (y ∷ xs) x e = let z : ◌≡◌ {A = ℕ} 0 1 = cc in omega arith

same_snoc : {X : Type 0} (xs ys : List X) (x y : X) → xs ++ x ∷ [] ≡ ys ++ y ∷ [] → (xs ≡ ys) × (x ≡ y)
same_snoc [] [] x y e = let h : x ≡ y = cc in (refl, h)
same_snoc [] (b ∷ ys) x y e = let t : [] ≡ ys ++ y ∷ [] = cc in absurd (no_snoc ys y t)
same_snoc (a ∷ xs) [] x y e = let t : [] ≡ xs ++ x ∷ [] = cc in absurd (no_snoc xs x t)
same_snoc (a ∷ xs) (b ∷ ys) x y e =
    let h : a ≡ b = cc in
    let t : xs ++ x ∷ [] ≡ ys ++ y ∷ [] = cc in
    let r = same_snoc xs ys x y t in
    (ap (λ z. z ∷ xs) h ∙ ap (λ zs. b ∷ zs) r.0, r.1)

-- a step, by its call
abbrev Did : Account → Account → Call → Answer → Type 0
Did a b (call.begin n) x = (r : Result (Unit {0}) Refusal) × (x ≡ answer.done r) × Opened a n b r
Did a b (call.deliver ws) x = (n : ℕ) × (r : Option Refusal) × (x ≡ answer.took n r) × Delivered a ws b n r
Did a b (call.list before) x = (after : List Notice) × (w : ℕ) × (v : ℕ) × (x ≡ answer.listed after w v) × (b ≡ a) × Listed a before after w v × (v ≤ 64)
Did a b call.collect x = (r : Result Notice Refusal) × (x ≡ answer.collected r) × Collected a b r

did : (a b : Account) {c : Call} {x : Answer} → Step a b c x → Did a b c x
did a b (step.begin n r o) = (r, refl, o)
did a b (step.deliver ws n r o) = (n, r, refl, o)
did a b (step.list before after w v e o few) = (after, w, v, refl, e, o, few)
did a b (step.collect r o) = (r, refl, o)

-- one call, of two watches that are alike
agree : (a b d e : Account) → Alike a b → (c : Call) (x y : Answer) → Did a d c x → Did b e c y → (x ≡ y) × Alike d e
agree a b d e h (call.begin n) x y (r, p, o) (s, q, u) =
    let t = alike_on.begin a b d e n r s h o u in (p ∙ ap answer.done t.0 ∙ sym q, t.1)
agree a b d e h (call.deliver ws) x y (n, r, p, o) (m, s, q, u) =
    let t = delivered_alike a b d e ws ws n m r s h refl o u in (p ∙ (λ i. answer.took (t.0 i) (t.1 i)) ∙ sym q, t.2)
agree a b d e h (call.list before) x y (after, w, v, p, f, o, few) (later, n, m, q, g, u, less) =
    let t = alike_on.list a b before after later w n v m h o u in
    (p ∙ (λ i. answer.listed (t.2 i) (t.0 i) (t.1 i)) ∙ sym q, alike_from d e (g ∙ alike_is a b h ∙ sym f))
agree a b d e h call.collect x y (r, p, o) (s, q, u) =
    let t = alike_on.collect a b d e r s h o u in (p ∙ ap answer.collected t.0 ∙ sym q, t.1)

agree_step : (a b d e : Account) (c k : Call) (x y : Answer) → Alike a b → Step a d c x → Step b e k y → c ≡ k → (x ≡ y) × Alike d e
agree_step a b d e c k x y h s t q = agree a b d e h c x y (did a d s) (subst (λ (z : Call). Did b e z y) (sym q) (did b e t))

-- the same call with blanks in its list
in_blanks : (a b : Account) (c : Call) (x : Answer) → Did a b c x → (y : Answer) × Did a b (asked_by c) y × (shown_by x ≡ shown_by y)
in_blanks a b (call.begin n) x d = (x, d, refl)
in_blanks a b (call.deliver ws) x d = (x, d, refl)
in_blanks a b (call.list before) x (after, w, v, p, e, o, few) =
    let empty = replicate (length before) blank in
    let front = take w o.notices in
    let long : length front ≡ w = length-take-le w o.notices (omega (arith, o.shows.room, o.shows.all)) in
    let room : w ≡ min v (length empty) = o.shows.room ∙ ap (min v) (sym (length-replicate (length before) blank)) in
    let shown : take w after ≡ take w (front ++ drop w empty) = ap (take w) o.shows.list ∙ take_at front (drop w before) w long ∙ sym (take_at front (drop w empty) w long) in (
      answer.listed (front ++ drop w empty) w v,
      (front ++ drop w empty, w, v, refl, e, record { notices = o.notices; right = o.right; shows = record { all = o.shows.all; room = room; list = refl } }, few),
      ap shown_by p ∙ (λ i. answer.listed (shown i) w v),
    )
in_blanks a b call.collect x d = (x, d, refl)

agree_room : (a b d e : Account) (c k : Call) (x y : Answer) → Alike a b → Step a d c x → Step b e k y → asked_by c ≡ asked_by k → (shown_by x ≡ shown_by y) × Alike d e
agree_room a b d e c k x y h s t q =
    let u = in_blanks a d c x (did a d s) in
    let v = in_blanks b e k y (did b e t) in
    let r = agree a b d e h (asked_by c) u.0 v.0 u.1 (subst (λ (z : Call). Did b e z v.0) (sym q) v.1) in
    (u.2 ∙ ap shown_by r.0 ∙ sym v.2, r.1)

-- chains whose calls agree by f have answers that agree by g
module _ (f : Call → Call) (g : Answer → Answer)
    (agrees : (a b d e : Account) (c k : Call) (x y : Answer) → Alike a b → Step a d c x → Step b e k y → f c ≡ f k → (g x ≡ g y) × Alike d e) where
  abbrev F : Exchange → Call
  F e = f e.call

  abbrev G : Exchange → Answer
  G e = g e.answer

  both : (a b c d : Account) (es fs : List Exchange) → Alike a b → Chain a es c → Chain b fs d → map F es ≡ map F fs → (map G es ≡ map G fs) × Alike c d
  both a b c d es fs h none none q = (refl, h)
  both a b c d es fs h none (link {es = ys} k z later t) q = absurd (no_snoc (map F ys) (F k) (q ∙ map-append F ys (k ∷ [])))
  both a b c d es fs h (link {es = xs} e z before s) none q = absurd (no_snoc (map F xs) (F e) (sym q ∙ map-append F xs (e ∷ [])))
  both a b c d es fs h (link {es = xs} {b = m} e z before s) (link {es = ys} {b = n} k y later t) q =
      let parts = same_snoc (map F xs) (map F ys) (F e) (F k) (sym (map-append F xs (e ∷ [])) ∙ q ∙ map-append F ys (k ∷ [])) in
      let front = both a b m n xs ys h before later parts.0 in
      let last = agrees m n c d e.call k.call e.answer k.answer front.1 s t parts.1 in
      (map-append G xs (e ∷ []) ∙ ap₂ (λ (zs : List Answer) (x : Answer). zs ++ x ∷ []) front.0 last.0 ∙ sym (map-append G ys (k ∷ [])), last.1)

made_alike : (m n : Meaning) (a c : Account) → SamePanel m n → Made m a → Made n c → Alike a c
made_alike m n a c same p q =
    let r = subst (λ (z : Meaning). Made z c) (panel_is m n same) q in
    alike_from a c
    (λ i. record {
      feed = (r.feed ∙ sym p.feed) i;
      panel = (panel_is m c.panel r.panel ∙ sym (panel_is m a.panel p.panel)) i;
      ledger = (seats_is (first_seats m) c.ledger r.ledger ∙ sym (seats_is (first_seats m) a.ledger p.ledger)) i;
    })

-- a right answer, by its call
module _ (m : Meaning) (es : List Exchange) where
  abbrev Rightly : Call → Answer → Type 0
  Rightly (call.begin n) x = x ≡ answer.done (done_by (begin_refusal (read_after es) n))
  Rightly (call.deliver ws) x = x ≡ answer.took (feeding (read_after es) ws).count (feeding (read_after es) ws).refused
  Rightly (call.list before) x =
      (after : List Notice) × (w : ℕ) × (v : ℕ) × (ns : List Notice) × (x ≡ answer.listed after w v) × Left m.lost es ns × Shows ns before after w v
  Rightly call.collect x = (r : Result Notice Refusal) × (ns : List Notice) × (x ≡ answer.collected r) × Left m.lost es ns × Gets ns r

  rightly : {c : Call} {x : Answer} → Right m es c x → Rightly c x
  rightly (right.begin n r e) = ap answer.done e
  rightly (right.deliver ws n r p q) = λ i. answer.took (p i) (q i)
  rightly (right.list before after w v ns l s few) = (after, w, v, ns, refl, l, s)
  rightly (right.collect r ns l g) = (r, ns, refl, l, g)

  left_once : (ns ms : List Notice) → Left m.lost es ns → Left m.lost es ms → ns ≡ ms
  left_once ns ms p q = append_cancel_left _ ns ms (one_list m.lost _ _ _ p q)

  gets_once : (ns ms : List Notice) (r s : Result Notice Refusal) → ns ≡ ms → Gets ns r → Gets ms s → r ≡ s
  gets_once ns ms (Ok n) (Ok k) e (xs, p) (ys, q) = let both : n ∷ xs ≡ k ∷ ys = sym p ∙ e ∙ q in let same : n ≡ k = cc in ap Ok same
  gets_once ns ms (Ok n) (Err k) e (xs, p) (y, q) = let both : n ∷ xs ≡ [] = sym p ∙ e ∙ q in absurd (let z : ◌≡◌ {A = ℕ} 0 1 = cc in omega arith)
  gets_once ns ms (Err n) (Ok k) e (x, p) (ys, q) = let both : [] ≡ k ∷ ys = sym p ∙ e ∙ q in absurd (let z : ◌≡◌ {A = ℕ} 0 1 = cc in omega arith)
  gets_once ns ms (Err n) (Err k) e (x, p) (y, q) = ap Err (x ∙ sym y)

  one_right : (c : Call) (x y : Answer) → Rightly c x → Rightly c y → x ≡ y
  one_right (call.begin n) x y p q = p ∙ sym q
  one_right (call.deliver ws) x y p q = p ∙ sym q
  one_right (call.list before) x y (after, w, v, ns, p, l, s) (later, n, k, ms, q, r, t) =
      let z = shows_same ns ms before after later w n v k (left_once ns ms l r) s t in p ∙ (λ i. answer.listed (z.2 i) (z.0 i) (z.1 i)) ∙ sym q
  one_right call.collect x y (r, ns, p, l, g) (s, ms, q, k, h) = p ∙ ap answer.collected (gets_once ns ms r s (left_once ns ms l k) g h) ∙ sym q

told_once : (m : Meaning) (es fs : List Exchange) → Told m es → Told m fs → calls_of es ≡ calls_of fs → es ≡ fs
told_once m es fs start start q = refl
told_once m es fs start (more {es = ys} k u t) q = absurd (no_snoc (calls_of ys) k.call (q ∙ calls_snoc ys k))
told_once m es fs (more {es = xs} e s r) start q = absurd (no_snoc (calls_of xs) e.call (sym q ∙ calls_snoc xs e))
told_once m es fs (more {es = xs} e s r) (more {es = ys} k u t) q =
    let parts = same_snoc (calls_of xs) (calls_of ys) e.call k.call (sym (calls_snoc xs e) ∙ q ∙ calls_snoc ys k) in
    let front = told_once m xs ys s u parts.0 in
    let later = subst (λ (c : Call). Right m xs c k.answer) (sym parts.1) (subst (λ (zs : List Exchange). Right m zs k.call k.answer) (sym front) t) in
    let answers = one_right m xs e.call e.answer k.answer (rightly m xs r) (rightly m xs later) in
    λ i. front i ++ exchange (parts.1 i) (answers i) ∷ []

pub answers_tell : AnswersTell
answers_tell = record {
  right = λ m es fs p q e. ap answers_of (told_once m es fs p q e);
  same = λ m n same a b c d es fs p q r s e. both (λ x. x) (λ x. x) agree_step a c b d es fs (made_alike m n a c same p r) q s e;
  rooms = λ m n same a b c d es fs p q r s e. both asked_by shown_by agree_room a c b d es fs (made_alike m n a c same p r) q s e;
}
