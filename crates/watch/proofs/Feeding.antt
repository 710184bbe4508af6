-- Words read one list after another.
use Rattle.std.proofs.Common.{◌≡◌, ℕ, suc, ◌+◌, Bool, cond, List, [], ◌∷◌, ◌++◌, Some, None, Ok, Err, Option, Result, sym, refl, ap, ◌∙◌, arith}
use Rattle.std.proofs.lemmas.List.{append_assoc}
use Rattle.std.specs.Option.{option_to_list}
use Rattle.stream.specs.declared.refusal.Refusal.{Refusal}
use Rattle.stream.specs.declared.sample.Sample.{Sample}
use Rattle.stream.specs.declared.numbered.Numbered.{Numbered}
use Rattle.stream.specs.Words.{State, Fed, refusal, after, made, onward, feeding, answer_by, state_by, Took}
use Rattle.watch.specs.Losses.{bare, kept_or, number_by}

-- what two lists come to, where no word of the first was refused
abbrev pub both : Fed → Fed → Fed
both p q = record { state = q.state; count = p.count + q.count; refused = q.refused; samples = p.samples ++ q.samples }

pub feeding_on : (s : State) (ws vs : List ℕ) → (feeding s ws).refused ≡ None → feeding s (ws ++ vs) ≡ both (feeding s ws) (feeding (feeding s ws).state vs)
unfolding feeding
feeding_on s [] vs e =
    let z : 0 + (feeding s vs).count ≡ (feeding s vs).count = omega arith in
    ap (λ (n : ℕ). record { state = (feeding s vs).state; count = n; refused = (feeding s vs).refused; samples = (feeding s vs).samples }) (sym z)
feeding_on s (w ∷ ws) vs e = go (refusal s w) (feeding_on (after s w) ws vs) e
  where
    go : (o : Option Refusal) → ((feeding (after s w) ws).refused ≡ None → feeding (after s w) (ws ++ vs) ≡ both (feeding (after s w) ws) (feeding (feeding (after s w) ws).state vs))
        → (onward o s (made s w) (feeding (after s w) ws)).refused ≡ None
        → onward o s (made s w) (feeding (after s w) (ws ++ vs)) ≡ both (onward o s (made s w) (feeding (after s w) ws)) (feeding (onward o s (made s w) (feeding (after s w) ws)).state vs)
    go (Some r) more h = absurd (let z : ◌≡◌ {A = ℕ} 0 1 = cc in omega arith)
    go None more h =
        let p = feeding (after s w) ws in
        let q = feeding p.state vs in
        let n : suc (p.count + q.count) ≡ suc p.count + q.count = omega arith in
        let xs = append_assoc (option_to_list (made s w)) p.samples q.samples in
        ap (onward None s (made s w)) (more h) ∙ (λ i. record { state = q.state; count = n i; refused = q.refused; samples = sym xs i })

pub feeding_stop : (s : State) (ws vs : List ℕ) (r : Refusal) → (feeding s ws).refused ≡ Some r → feeding s (ws ++ vs) ≡ feeding s ws
unfolding feeding
feeding_stop s [] vs r e = absurd (let z : ◌≡◌ {A = ℕ} 0 1 = cc in omega arith)
feeding_stop s (w ∷ ws) vs r e = go (refusal s w) (feeding_stop (after s w) ws vs r) e
  where
    go : (o : Option Refusal) → ((feeding (after s w) ws).refused ≡ Some r → feeding (after s w) (ws ++ vs) ≡ feeding (after s w) ws)
        → (onward o s (made s w) (feeding (after s w) ws)).refused ≡ Some r
        → onward o s (made s w) (feeding (after s w) (ws ++ vs)) ≡ onward o s (made s w) (feeding (after s w) ws)
    go (Some q) more h = refl
    go None more h = ap (onward None s (made s w)) (more h)

-- one word, by what the feed answered to it
abbrev pub fed_by : Result (Option Numbered) Refusal → State → Fed
fed_by (Ok x) t = record { state = t; count = 1; refused = None; samples = option_to_list x ++ [] }
fed_by (Err r) t = record { state = t; count = 0; refused = Some r; samples = [] }

pub feeding_word : (s : State) (w : ℕ) (r : Result (Option Numbered) Refusal) (t : State) → Took s w r t → feeding s (w ∷ []) ≡ fed_by r t
unfolding feeding
feeding_word s w r t k = go (refusal s w) ∙ sym (ap (λ z. fed_by z t) k.answer ∙ ap (fed_by (answer_by (refusal s w) (made s w))) k.state)
  where
    go : (o : Option Refusal) → onward o s (made s w) (feeding (after s w) []) ≡ fed_by (answer_by o (made s w)) (state_by o s (after s w))
    go (Some e) = refl
    go None = refl

pub bare-++ : (xs ys : List Numbered) → bare (xs ++ ys) ≡ bare xs ++ bare ys
bare-++ [] ys = refl
bare-++ (x ∷ xs) ys = ap (λ (l : List Sample). x.sample ∷ l) (bare-++ xs ys)

pub number_by-++ : (F : List Sample → ℕ → Bool) (k : ℕ) (old : Option ℕ) (xs ys : List Numbered)
    → number_by F k old (xs ++ ys) ≡ number_by (λ l. F (bare xs ++ l)) k (number_by F k old xs) ys
unfolding number_by
number_by-++ F k old [] ys = refl
number_by-++ F k old (x ∷ xs) ys =
    number_by-++ (λ l. F (x.sample ∷ l)) k (kept_or old (cond (F (x.sample ∷ []) k) (Some x.number) None)) xs ys
