-- Calls and answers by their places, and what a listing in a story shows.
use Rattle.std.proofs.Common.{◌≡◌, ℕ, ◌≤◌, ◌+◌, ◌-◌, ◌<◌, min, List, [], ◌∷◌, ◌++◌, length, map, get_or, take, drop, set, replicate, sym, refl, ap, ap₂, ◌∙◌, subst, ⊎_elim, arith}
use Rattle.std.proofs.lemmas.List.{append_assoc, map-append, take_all, take_more, take_more_set, drop_all, drop-set-lt, drop-drop, length-append, length-take-le, length-drop, length-replicate, drop-replicate, replicate-append-replicate}
use Rattle.std.proofs.lemmas.Bool.{cases_lt}
use Rattle.watch.specs.declared.notice.Notice.{Notice}
use Rattle.watch.specs.declared.story.PlayCall.{PlayCall}
use Rattle.watch.specs.declared.story.PlayAnswer.{PlayAnswer}
use Rattle.watch.specs.Account.{Account, Listed}
use Rattle.watch.specs.Calls.{Call}
use Rattle.watch.specs.Exchanges.{Exchange, calls_of, answers_of}
use Rattle.watch.specs.Chains.{Chain, none, link}
use Rattle.watch.specs.Blanks.{blank, blanks, PlaysShow}
use Rattle.watch.specs.Plays.{call_of, held_as, Looked, PlayAnswered}
use Rattle.watch.proofs.Stories.{exchange, calls_snoc}

-- a list is as long after a listing as before
long_after : (a : Account) (before after : List Notice) (written waiting : ℕ) → Listed a before after written waiting → length after ≡ length before
long_after a before after written waiting l =
    ap length l.shows.list ∙ length-append (take written l.notices) (drop written before)
    ∙ omega (arith, l.shows.room, l.shows.all, length-take-le written l.notices (omega (arith, l.shows.room, l.shows.all)), length-drop written before)

-- a listing into the front of 64 blanks
pub looked : (a : Account) (room reach : ℕ) (before after tail : List Notice) (written waiting : ℕ) → Listed a before after written waiting → waiting ≤ 64 → reach ≡ min room 64
    → before ≡ replicate reach blank → tail ≡ replicate (64 - reach) blank → Looked a room (after ++ tail) written waiting
looked a room reach before after tail written waiting l few is front rest =
    let long : length after ≡ reach = long_after a before after written waiting l ∙ ap length front ∙ length-replicate reach blank in (
      after,
      ap (λ (z : List Notice). after ++ z) (rest ∙ ap (λ (n : ℕ). replicate (64 - n) blank) (sym long)),
      subst (λ (z : List Notice). Listed a z after written waiting) (front ∙ ap (λ (n : ℕ). replicate n blank) is) l,
      few,
    )

-- what stands in an answer
pub plays_show : PlaysShow
plays_show room ns after written waiting s few =
    let front = take written ns in
    let long : length front ≡ written = length-take-le written ns (omega (arith, s.all, s.room)) in
    let reach = min room 64 in
    let wide : length (blanks room) ≡ reach = length-replicate reach blank in
    let is : after ≡ front ++ replicate (reach - written) blank = s.list ∙ ap (λ (z : List Notice). front ++ z) (drop-replicate written reach blank) in
    let all : reach - written + (64 - length after) ≡ 64 - written =
    omega (arith, s.room, few, wide, long, ap length is, length-append front (replicate (reach - written) blank), length-replicate (reach - written) blank) in (
      omega (arith, s.room, few, wide),
      ap (λ (z : List Notice). z ++ replicate (64 - length after) blank) is
          ∙ append_assoc front (replicate (reach - written) blank) (replicate (64 - length after) blank)
          ∙ ap (λ (z : List Notice). front ++ z) (replicate-append-replicate (reach - written) (64 - length after) blank ∙ ap (λ (n : ℕ). replicate n blank) all),
    )

-- what was played of a story so far: the calls were made of the watch a, which is now b
pub record Playing (a : Account) (calls : List PlayCall) (given : List PlayAnswer) (b : Account) : Type 0 where
  pub exchanges : List Exchange
  pub calls_are : calls_of exchanges ≡ map call_of calls
  pub answers_are : given ≡ map held_as (answers_of exchanges)
  pub chain : Chain a exchanges b

pub playing_none : (a : Account) → Playing a [] [] a
playing_none a = record { exchanges = []; calls_are = refl; answers_are = refl; chain = none }

playing_more : (a b d : Account) (calls : List PlayCall) (given : List PlayAnswer) (c : PlayCall) (r : PlayAnswer) → Playing a calls given b → PlayAnswered b c d r
    → Playing a (calls ++ c ∷ []) (given ++ r ∷ []) d
playing_more a b d calls given c r p (x, is, s) =
    let e = exchange (call_of c) x in
    let es = p.exchanges in
    record {
      exchanges = es ++ e ∷ [];
      calls_are = calls_snoc es e ∙ ap (λ (z : List Call). z ++ call_of c ∷ []) p.calls_are ∙ sym (map-append call_of calls (c ∷ []));
      answers_are = ap₂ (λ (z : List PlayAnswer) (y : PlayAnswer). z ++ y ∷ []) p.answers_are is
          ∙ sym (map-append held_as (answers_of es) (x ∷ []))
          ∙ ap (map held_as) (sym (map-append (λ (e : Exchange). e.answer) es (e ∷ [])));
      chain = link e d p.chain s;
    }

-- one call more, the one that comes next, was made and answered at its place
pub placed : (a b d : Account) (calls : List PlayCall) (answers before : List PlayAnswer) (i : ℕ) (c x : PlayCall) (r : PlayAnswer) → i < length calls → i < length answers
    → Playing a (take i calls) (take i answers) b × (drop i answers ≡ drop i before) → x ≡ get_or calls i c → PlayAnswered b x d r
    → Playing a (take (i + 1) calls) (take (i + 1) (set answers i r)) d × (drop (i + 1) (set answers i r) ≡ drop (i + 1) before)
placed a b d calls answers before i c x r h k (p, rest) e s = (
  subst (λ (z : List PlayCall). Playing a z (take (i + 1) (set answers i r)) d) (sym (take_more calls i c h))
      (subst (λ (z : List PlayAnswer). Playing a (take i calls ++ get_or calls i c ∷ []) z d) (sym (take_more_set answers i r k))
      (playing_more a b d (take i calls) (take i answers) (get_or calls i c) r p (subst (λ (z : PlayCall). PlayAnswered b z d r) e s))),
  drop-set-lt (i + 1) answers i r (omega arith) ∙ sym (drop-drop 1 i answers) ∙ ap (drop 1) rest ∙ drop-drop 1 i before,
)

-- as far as the shorter of two lists reaches
pub reached : {X : Type 0} (xs : List X) (i n : ℕ) → i ≡ min (length xs) n → take i xs ≡ take n xs
reached xs i n e = ⊎_elim
    (λ lt. let all : i ≡ length xs = omega arith in ap (λ (j : ℕ). take j xs) all ∙ take_all (length xs) xs (omega arith) ∙ sym (take_all n xs (omega arith)))
    (λ ge. let same : i ≡ n = omega arith in ap (λ (j : ℕ). take j xs) same)
    (cases_lt (length xs) n)

pub beyond : {X : Type 0} (xs ys : List X) (i n : ℕ) → length xs ≡ length ys → i ≡ min n (length xs) → drop i xs ≡ drop i ys → drop n xs ≡ drop n ys
beyond xs ys i n long e rest = ⊎_elim
    (λ lt. drop_all n xs (omega arith) ∙ sym (drop_all n ys (omega arith)))
    (λ ge. let same : i ≡ n = omega arith in subst (λ (j : ℕ). drop j xs ≡ drop j ys) same rest)
    (cases_lt (length xs) n)
