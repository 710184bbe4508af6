-- The parts of a watch: what is the same is equal, and one change after another is a change.
use Rattle.std.proofs.Common.{◌≡◌, List, ◌++◌, refl, sym, ap, ◌∙◌}
use Rattle.std.proofs.lemmas.List.{append_assoc}
use Rattle.stream.specs.declared.sample.Sample.{Sample}
use Rattle.stream.specs.declared.numbered.Numbered.{Numbered}
use Rattle.panel.specs.Panels.{Meaning, SamePanel, meaning_after, PanelAfter}
use Rattle.watch.specs.Ledgers.{BySeat}
use Rattle.watch.specs.Losses.{bare}
use Rattle.watch.specs.Seats.{SameSeats, seats_after, SeatsAfter}
use Rattle.watch.specs.Account.{Account, Alike}
use Rattle.watch.proofs.Feeding.{bare-++, number_by-++}

pub panel_is : (m n : Meaning) → SamePanel m n → n ≡ m
panel_is m n h = λ i. record { count = h.count i; lost = λ l k. h.lost l k i }

pub panel_from : (m n : Meaning) → n ≡ m → SamePanel m n
panel_from m n e = record { count = ap (λ (z : Meaning). z.count) e; lost = λ l k. ap (λ (z : Meaning). z.lost l k) e }

pub panel_refl : (m : Meaning) → SamePanel m m
panel_refl m = record { count = refl; lost = λ l k. refl }

pub seats_is : (s t : BySeat) → SameSeats s t → t ≡ s
seats_is s t h = λ i. record { number = λ k. h.number k i; collected = λ k. h.collected k i }

pub seats_from : (s t : BySeat) → t ≡ s → SameSeats s t
seats_from s t e = record { number = λ k. ap (λ (z : BySeat). z.number k) e; collected = λ k. ap (λ (z : BySeat). z.collected k) e }

pub seats_refl : (s : BySeat) → SameSeats s s
seats_refl s = record { number = λ k. refl; collected = λ k. refl }

pub alike_is : (a b : Account) → Alike a b → b ≡ a
alike_is a b h = λ i. record { feed = h.feed i; panel = panel_is a.panel b.panel h.panel i; ledger = seats_is a.ledger b.ledger h.ledger i }

pub alike_from : (a b : Account) → b ≡ a → Alike a b
alike_from a b e = record {
  feed = ap (λ (z : Account). z.feed) e;
  panel = panel_from a.panel b.panel (ap (λ (z : Account). z.panel) e);
  ledger = seats_from a.ledger b.ledger (ap (λ (z : Account). z.ledger) e);
}

-- some samples were judged, and then some more
meaning_on : (m : Meaning) (xs ys : List Sample) → meaning_after (meaning_after m xs) ys ≡ meaning_after m (xs ++ ys)
meaning_on m xs ys = λ i. record m { lost = λ l. m.lost (sym (append_assoc xs ys l) i) }

pub panel_on : (m n o : Meaning) (xs ys : List Numbered) → PanelAfter m (bare xs) n → PanelAfter n (bare ys) o → PanelAfter m (bare (xs ++ ys)) o
panel_on m n o xs ys p q =
    panel_from (meaning_after m (bare (xs ++ ys))) o
    (panel_is (meaning_after n (bare ys)) o q
    ∙ ap (λ (z : Meaning). meaning_after z (bare ys)) (panel_is (meaning_after m (bare xs)) n p)
    ∙ meaning_on m (bare xs) (bare ys) ∙ ap (meaning_after m) (sym (bare-++ xs ys)))

pub seats_on : (m n : Meaning) (s t u : BySeat) (xs ys : List Numbered) → PanelAfter m (bare xs) n → SeatsAfter m xs s t → SeatsAfter n ys t u
    → SeatsAfter m (xs ++ ys) s u
seats_on m n s t u xs ys p q r =
    seats_from (seats_after m (xs ++ ys) s) u
    (seats_is (seats_after n ys t) u r
    ∙ ap (λ (z : Meaning). seats_after z ys t) (panel_is (meaning_after m (bare xs)) n p)
    ∙ ap (seats_after (meaning_after m (bare xs)) ys) (seats_is (seats_after m xs s) t q)
    ∙ (λ i. record s { number = λ k. sym (number_by-++ m.lost k (s.number k) xs ys) i }))
