-- Deliveries one after another, and what a loop over words keeps.
use Rattle.std.proofs.Common.{◌≡◌, ℕ, ◌+◌, ◌<◌, ◌≤◌, List, [], ◌∷◌, ◌++◌, length, get_or, drop, Some, None, Ok, Err, Option, sym, refl, ap, ◌∙◌, subst, arith}
use Rattle.std.proofs.lemmas.List.{drop_more, drop_all}
use Rattle.stream.specs.declared.refusal.Refusal.{Refusal}
use Rattle.stream.specs.declared.numbered.Numbered.{Numbered}
use Rattle.stream.specs.Words.{State, Fed, feeding, Took}
use Rattle.panel.specs.Panels.{SamePanel, PanelAfter}
use Rattle.watch.specs.Losses.{bare, number_by}
use Rattle.watch.specs.Seats.{SameSeats, SeatsAfter}
use Rattle.watch.specs.Account.{Account, Delivered, Alike}
use Rattle.watch.proofs.Feeding.{both, feeding_on, feeding_stop, feeding_word}
use Rattle.watch.proofs.Parts.{panel_is, panel_refl, seats_is, seats_refl, alike_from, panel_on, seats_on}

-- a delivery from what the words come to
delivered : (a b : Account) (ws : List ℕ) (f : Fed) → feeding a.feed ws ≡ f → b.feed ≡ f.state → PanelAfter a.panel (bare f.samples) b.panel
    → SeatsAfter a.panel f.samples a.ledger b.ledger → Delivered a ws b f.count f.refused
delivered a b ws f e =
    subst (λ (x : Fed). b.feed ≡ x.state → PanelAfter a.panel (bare x.samples) b.panel → SeatsAfter a.panel x.samples a.ledger b.ledger → Delivered a ws b x.count x.refused) e
    (λ feed panel ledger. record { words = refl; refused = refl; feed = feed; panel = panel; ledger = ledger })

-- no words
pub nothing : (a : Account) → Delivered a [] a 0 None
unfolding feeding number_by
nothing a = delivered a a [] _ refl refl (panel_refl a.panel) (seats_refl a.ledger)

-- one word that is refused, that makes no sample, or that makes one
pub word_refused : (a b : Account) (w : ℕ) (r : Refusal) → Took a.feed w (Err r) b.feed → SamePanel a.panel b.panel → SameSeats a.ledger b.ledger
    → Delivered a (w ∷ []) b 0 (Some r)
unfolding number_by
word_refused a b w r t = delivered a b (w ∷ []) _ (feeding_word a.feed w (Err r) b.feed t) refl

pub word_plain : (a b : Account) (w : ℕ) → Took a.feed w (Ok None) b.feed → SamePanel a.panel b.panel → SameSeats a.ledger b.ledger → Delivered a (w ∷ []) b 1 None
unfolding number_by
word_plain a b w t = delivered a b (w ∷ []) _ (feeding_word a.feed w (Ok None) b.feed t) refl

pub word_sample : (a b : Account) (w : ℕ) (x : Numbered) → Took a.feed w (Ok (Some x)) b.feed → PanelAfter a.panel (x.sample ∷ []) b.panel
    → SeatsAfter a.panel (x ∷ []) a.ledger b.ledger → Delivered a (w ∷ []) b 1 None
word_sample a b w x t = delivered a b (w ∷ []) _ (feeding_word a.feed w (Ok (Some x)) b.feed t) refl

-- one delivery after another
pub then : (a b c : Account) (ws vs : List ℕ) (n m : ℕ) (r : Option Refusal) → Delivered a ws b n None → Delivered b vs c m r → Delivered a (ws ++ vs) c (n + m) r
then a b c ws vs n m r p q =
    let f = feeding a.feed ws in
    let g = feeding b.feed vs in
    let whole : feeding a.feed (ws ++ vs) ≡ both f g = feeding_on a.feed ws vs (sym p.refused) ∙ ap (λ (s : State). both f (feeding s vs)) (sym p.feed) in
    let d = delivered a c (ws ++ vs) (both f g) whole q.feed (panel_on a.panel b.panel c.panel f.samples g.samples p.panel q.panel)
    (seats_on a.panel b.panel a.ledger b.ledger c.ledger f.samples g.samples p.panel p.ledger q.ledger) in
    let count : f.count + g.count ≡ n + m = omega (arith, p.words, q.words) in
    subst (λ (t : ℕ). Delivered a (ws ++ vs) c t r) count (subst (λ (o : Option Refusal). Delivered a (ws ++ vs) c (f.count + g.count) o) (sym q.refused) d)

-- a refused word ends it, whatever comes behind
pub stopped : (a b : Account) (ws vs : List ℕ) (n : ℕ) (r : Refusal) → Delivered a ws b n (Some r) → Delivered a (ws ++ vs) b n (Some r)
stopped a b ws vs n r p =
    let e = sym (feeding_stop a.feed ws vs r (sym p.refused)) in
    record {
      words = p.words ∙ ap (λ (f : Fed). f.count) e;
      refused = p.refused ∙ ap (λ (f : Fed). f.refused) e;
      feed = p.feed ∙ ap (λ (f : Fed). f.state) e;
      panel = subst (λ (f : Fed). PanelAfter a.panel (bare f.samples) b.panel) e p.panel;
      ledger = subst (λ (f : Fed). SeatsAfter a.panel f.samples a.ledger b.ledger) e p.ledger;
    }

-- with n words taken and ws to come, whatever the rest does the whole does
abbrev pub Rest : Account → List ℕ → Account → ℕ → List ℕ → Type 0
Rest a all b n ws = (c : Account) (m : ℕ) (r : Option Refusal) → Delivered b ws c m r → Delivered a all c (n + m) r

rest_end : (a : Account) (all : List ℕ) (b : Account) (n : ℕ) → Rest a all b n [] → Delivered a all b n None
rest_end a all b n h = let z : n + 0 ≡ n = omega arith in subst (λ (t : ℕ). Delivered a all b t None) z (h b 0 None (nothing b))

pub rest_more : (a : Account) (all : List ℕ) (b c : Account) (n t : ℕ) (ws vs : List ℕ) → Rest a all b n (ws ++ vs) → Delivered b ws c t None → Rest a all c (n + t) vs
rest_more a all b c n t ws vs h p d m r q =
    let z : n + (t + m) ≡ n + t + m = omega arith in subst (λ (i : ℕ). Delivered a all d i r) z (h d (t + m) r (then b c d ws vs t m r p q))

pub rest_stop : (a : Account) (all : List ℕ) (b c : Account) (n t : ℕ) (ws vs : List ℕ) (r : Refusal) → Rest a all b n (ws ++ vs) → Delivered b ws c t (Some r) → Delivered a all c (n + t) (Some r)
rest_stop a all b c n t ws vs r h p = h c t (Some r) (stopped b c ws vs t r p)

-- the word at a place of the whole, and past the last
pub word_at : (a : Account) (all : List ℕ) (b : Account) (n i : ℕ) → i < length all → Rest a all b n (drop i all) → Rest a all b n ((get_or all i 0 ∷ []) ++ drop (i + 1) all)
word_at a all b n i lt h = subst (Rest a all b n) (drop_more all i 0 lt) h

pub no_word : (a : Account) (all : List ℕ) (b : Account) (n i : ℕ) → length all ≤ i → Rest a all b n (drop i all) → Delivered a all b n None
no_word a all b n i ge h = rest_end a all b n (subst (Rest a all b n) (drop_all i all ge) h)

-- the same words, delivered to one watch
pub delivered_same : (a c d : Account) (ws : List ℕ) (n m : ℕ) (r s : Option Refusal) → Delivered a ws c n r → Delivered a ws d m s → (n ≡ m) × (r ≡ s) × Alike c d
delivered_same a c d ws n m r s x y = (
  x.words ∙ sym y.words,
  x.refused ∙ sym y.refused,
  alike_from c d
      (λ i. record {
        feed = (y.feed ∙ sym x.feed) i;
        panel = (panel_is _ d.panel y.panel ∙ sym (panel_is _ c.panel x.panel)) i;
        ledger = (seats_is _ d.ledger y.ledger ∙ sym (seats_is _ c.ledger x.ledger)) i;
      }),
)
