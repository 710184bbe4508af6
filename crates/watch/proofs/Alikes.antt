-- Watches that are alike answer alike, and go on alike.
use Rattle.std.proofs.Common.{◌≡◌, ℕ, min, List, [], ◌∷◌, ◌++◌, length, take, drop, Ok, Err, Option, Result, sym, ap, ◌∙◌, ap₂, subst, arith}
use Rattle.stream.specs.declared.refusal.Refusal.{Refusal}
use Rattle.watch.specs.declared.notice.Notice.{Notice}
use Rattle.watch.specs.Ledgers.{BySeat}
use Rattle.watch.specs.Listing.{Shows}
use Rattle.watch.specs.Seats.{with_collected, TookFirst}
use Rattle.watch.specs.Account.{Account, Opened, Delivered, Collected, Listed, Alike}
use Rattle.watch.specs.Pieces.{joined}
use Rattle.watch.specs.InTurn.{InTurn, AlikeOn}
use Rattle.watch.proofs.Only.{one_waiting}
use Rattle.watch.proofs.Parts.{panel_is, seats_is, alike_is, alike_from}
use Rattle.watch.proofs.Deliveries.{delivered_same}
use Rattle.watch.proofs.Turns.{pieces_tell}

-- calls of one watch, answered twice
begin_same : (a c d : Account) (n : ℕ) (r s : Result (Unit {0}) Refusal) → Opened a n c r → Opened a n d s → (r ≡ s) × Alike c d
begin_same a c d n r s p q = (
  p.began.answer ∙ sym q.began.answer,
  alike_from c d
      (λ i. record {
        feed = (q.began.state ∙ sym p.began.state) i;
        panel = (panel_is a.panel d.panel q.panel ∙ sym (panel_is a.panel c.panel p.panel)) i;
        ledger = (seats_is a.ledger d.ledger q.ledger ∙ sym (seats_is a.ledger c.ledger p.ledger)) i;
      }),
)

-- one list of notices, shown twice
pub shows_same : (ns ms before after later : List Notice) (w v n m : ℕ) → ns ≡ ms → Shows ns before after w n → Shows ms before later v m → (w ≡ v) × (n ≡ m) × (after ≡ later)
shows_same ns ms before after later w v n m e p q =
    let waiting : n ≡ m = p.all ∙ ap length e ∙ sym q.all in
    let written : w ≡ v = p.room ∙ ap (λ (z : ℕ). min z (length before)) waiting ∙ sym q.room in
    (written, waiting, p.list ∙ ap₂ (λ (z : ℕ) (y : List Notice). take z y ++ drop z before) written e ∙ sym q.list)

list_same : (a : Account) (before after later : List Notice) (w v n m : ℕ) → Listed a before after w n → Listed a before later v m → (w ≡ v) × (n ≡ m) × (after ≡ later)
list_same a before after later w v n m l k =
    shows_same l.notices k.notices before after later w v n m (one_waiting a.ledger.number a.ledger.collected l.notices k.notices l.right k.right) l.shows k.shows

module _ (s t u : BySeat) where
  took_same : (x y : Result Notice Refusal) → TookFirst s t x → TookFirst s u y → (x ≡ y) × (u ≡ t)
  took_same (Ok n) (Ok m) (ns, w, f) (ms, v, g) =
      let both = one_waiting s.number s.collected (n ∷ ns) (m ∷ ms) w v in
      let same : n ≡ m = cc in
      (ap Ok same, seats_is _ u g ∙ ap (λ (z : Notice). with_collected z.seat s) (sym same) ∙ sym (seats_is _ t f))
  took_same (Ok n) (Err e) (ns, w, f) (q, v, g) = let both = one_waiting s.number s.collected (n ∷ ns) [] w v in absurd (let z : ◌≡◌ {A = ℕ} 0 1 = cc in omega arith)
  took_same (Err e) (Ok m) (p, w, f) (ms, v, g) = let both = one_waiting s.number s.collected [] (m ∷ ms) w v in absurd (let z : ◌≡◌ {A = ℕ} 0 1 = cc in omega arith)
  took_same (Err e) (Err i) (p, w, f) (q, v, g) = (ap Err (p ∙ sym q), seats_is s u g ∙ sym (seats_is s t f))

collect_same : (a c d : Account) (r s : Result Notice Refusal) → Collected a c r → Collected a d s → (r ≡ s) × Alike c d
collect_same a c d r s p q =
    let took = took_same a.ledger c.ledger d.ledger r s p.ledger q.ledger in (
      took.0,
      alike_from c d (λ i. record {
        feed = (q.feed ∙ sym p.feed) i;
        panel = (panel_is a.panel d.panel q.panel ∙ sym (panel_is a.panel c.panel p.panel)) i;
        ledger = took.1 i;
      }),
    )

pieces_same : (a c d : Account) (ps qs : List (List ℕ)) (n m : ℕ) (r s : Option Refusal) → joined ps ≡ joined qs → InTurn a ps c n r → InTurn a qs d m s
    → (n ≡ m) × (r ≡ s) × Alike c d
pieces_same a c d ps qs n m r s e x y =
    delivered_same a c d (joined qs) n m r s (subst (λ (ws : List ℕ). Delivered a ws c n r) e (pieces_tell a c ps n r x)) (pieces_tell a d qs m s y)

-- alike watches are one
pub alike_on : AlikeOn
alike_on = record {
  begin = λ a b c d n r s h p q. begin_same a c d n r s p (subst (λ (z : Account). Opened z n d s) (alike_is a b h) q);
  pieces = λ a b c d ps qs n m r s h e p q. pieces_same a c d ps qs n m r s e p (subst (λ (z : Account). InTurn z qs d m s) (alike_is a b h) q);
  list = λ a b before after later w v n m h p q. list_same a before after later w v n m p (subst (λ (z : Account). Listed z before later v m) (alike_is a b h) q);
  collect = λ a b c d r s h p q. collect_same a c d r s p (subst (λ (z : Account). Collected z d s) (alike_is a b h) q);
}

pub delivered_alike : (a b c d : Account) (ws vs : List ℕ) (n m : ℕ) (r s : Option Refusal) → Alike a b → ws ≡ vs → Delivered a ws c n r → Delivered b vs d m s
    → (n ≡ m) × (r ≡ s) × Alike c d
delivered_alike a b c d ws vs n m r s h e x y =
    delivered_same a c d vs n m r s (subst (λ (zs : List ℕ). Delivered a zs c n r) e x) (subst (λ (z : Account). Delivered z vs d m s) (alike_is a b h) y)
