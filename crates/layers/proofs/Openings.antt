-- allow k: one opening that fails after another.
use Rattle.std.specs.Prelude.{◌≡◌, ℕ, zero, suc, ◌-◌, ◌<◌, ◌≤◌, Bool, true, false, cond, ◌⊎◌, List, [], ◌∷◌, length, take, drop, Decides, ◌≢◌, refl}
use Rattle.std.proofs.Common.{sym, ap, subst, ◌∙◌, inl, inr, ⊎_elim, arith}
use Rattle.std.proofs.lemmas.List.{take-append-drop, take_all}
use Rattle.std.proofs.lemmas.Bool.{false≢true, both_ways, cases_lt}
use Rattle.stream.specs.declared.sample.Sample.{Sample}
use Rattle.layers.specs.Layers.{overrun}
use Rattle.layers.specs.Parts.{Fails, Shortest, Breaks}
use Rattle.layers.specs.Laws.{Lasting}

pub over_alike : (n : ℕ) {F H G K : List Sample → Bool} → ((x : List Sample) → F x ≡ H x) → ((x : List Sample) → G x ≡ K x) → (l : List Sample) → overrun n F G l ≡ overrun n H K l
over_alike n e f l = λ i. overrun n (λ x. e x i) (λ x. f x i) l

-- one sample more, which breaks what is below or does not
module _ (F G : List Sample → Bool) (s : Sample) where
  cut : (n : ℕ) → (n ≢ 0) → F (s ∷ []) ≡ true → (l : List Sample) → overrun (n - 1) G G l ≡ overrun n F G (s ∷ l)
  cut zero e b l = absurd (e refl)
  cut (suc n) e b l = let same : suc n - 1 ≡ n = omega arith in ap (λ (k : ℕ). overrun k G G l) same ∙ rw b

  on : (n : ℕ) → (n ≢ 0) → F (s ∷ []) ≡ false → (l : List Sample) → overrun n (λ m. F (s ∷ m)) G l ≡ overrun n F G (s ∷ l)
  on zero e b l = absurd (e refl)
  on (suc n) e b l = rw b

  -- F' and G' are the NOW and NEW of what is then below
  module _ {F' G' : List Sample → Bool} (n : ℕ) (some : n ≡ 0 → ⊥) (keeps : (x : List Sample) → G' x ≡ G x) where
    pub over_broken : F (s ∷ []) ≡ true → ((x : List Sample) → F' x ≡ G x) → (l : List Sample) → overrun (n - 1) F' G' l ≡ overrun n F G (s ∷ l)
    over_broken b anew l = over_alike (n - 1) anew keeps l ∙ cut n some b l

    pub over_whole : F (s ∷ []) ≡ false → ((x : List Sample) → F' x ≡ F (s ∷ x)) → (l : List Sample) → overrun n F' G' l ≡ overrun n F G (s ∷ l)
    over_whole b onward l = over_alike n onward keeps l ∙ on n some b l

-- the shortest opening that fails
module _ (F : List Sample → Bool) (l : List Sample) where
  abbrev Found : Type 0
  Found = (m : ℕ) × Shortest (Fails F) l m

  abbrev NoneBelow : ℕ → Type 0
  NoneBelow n = (m : ℕ) → m < n → Fails F (take m l) → ⊥

  seek_step : (n : ℕ) → n < length l → (b : Bool) → F (take n l) ≡ b → NoneBelow n → Found ⊎ NoneBelow (suc n)
  seek_step n h true e none = inl (n, (omega arith, e, none))
  seek_step n h false e none =
      inr (λ m a c. ⊎_elim (λ lt. none m lt c) (λ ge. let same : m ≡ n = omega arith in both_ways _ e (subst (λ (k : ℕ). F (take k l) ≡ true) same c)) (cases_lt m n))

  seek : (n : ℕ) → n ≤ length l → Found ⊎ NoneBelow n
  seek zero h = inr (λ m a. absurd (omega arith))
  seek (suc n) h = ⊎_elim inl (seek_step n (omega arith) (F (take n l)) refl) (seek n (omega arith))

  shortest_sound : F l ≡ true → Found
  shortest_sound e =
      ⊎_elim (λ found. found) (λ none. (length l, (omega arith, ap F (take_all (length l) l (omega arith)) ∙ e, none))) (seek (length l) (omega arith))

  shortest_complete : Lasting F → Found → F l ≡ true
  shortest_complete lasts (m, (a, e, none)) = ap F (sym (take-append-drop m l)) ∙ lasts (take m l) (drop m l) e

-- an opening that fails by F, and then k that fail by G
abbrev BreaksFrom : (List Sample → Bool) → (List Sample → Bool) → ℕ → List Sample → Type 0
BreaksFrom F G k l = (n : ℕ) × Shortest (Fails F) l n × Breaks (Fails G) k (drop n l)

module _ (F : List Sample → Bool) (z : F [] ≡ false) (s : Sample) (l : List Sample) where
  -- F once it has judged s
  abbrev Next : List Sample → Bool
  Next m = F (s ∷ m)

  none_more : (n : ℕ) → NoneBelow Next l n → NoneBelow F (s ∷ l) (suc n)
  none_more n none zero a c = both_ways _ z c
  none_more n none (suc m) a c = none m (omega arith) c

  module _ (G : List Sample → Bool) (k : ℕ) where
    step_sound : (b : Bool) → F (s ∷ []) ≡ b → (overrun k G G l ≡ true → BreaksFrom G G k l)
        → (F (s ∷ []) ≡ false → overrun (suc k) Next G l ≡ true → BreaksFrom Next G (suc k) l)
        → cond b (overrun k G G l) (overrun (suc k) Next G l) ≡ true → BreaksFrom F G (suc k) (s ∷ l)
    step_sound true h cut on e = (1, (omega arith, h, none_more 0 (λ m a. absurd (omega arith))), cut e)
    step_sound false h cut on e = let (n, (le, fails, none), rest) = on h e in (suc n, (omega arith, fails, none_more n none), rest)

    step_complete : (b : Bool) → F (s ∷ []) ≡ b → (BreaksFrom G G k l → overrun k G G l ≡ true)
        → (F (s ∷ []) ≡ false → BreaksFrom Next G (suc k) l → overrun (suc k) Next G l ≡ true)
        → BreaksFrom F G (suc k) (s ∷ l) → cond b (overrun k G G l) (overrun (suc k) Next G l) ≡ true
    step_complete b h cut on (zero, (a, e, none), rest) = absurd (both_ways _ z e)
    step_complete true h cut on (suc zero, sh, rest) = cut rest
    step_complete true h cut on (suc (suc n), (a, e, none), rest) = absurd (none 1 (omega arith) h)
    step_complete false h cut on (suc zero, (a, e, none), rest) = absurd (both_ways _ h e)
    step_complete false h cut on (suc (suc n), (a, e, none), rest) = on h (suc n, (omega arith, e, λ m lt. none (suc m) (omega arith)), rest)

module _ (G : List Sample → Bool) (lasts : Lasting G) (starts : G [] ≡ false) where
  over_decides : (k : ℕ) (F : List Sample → Bool) → Lasting F → F [] ≡ false → (l : List Sample) → Decides (overrun k F G l) (BreaksFrom F G k l)
  over_decides zero F f z l = (λ e. let (m, sh) = shortest_sound F l e in (m, sh, tt), λ r. shortest_complete F l f (r.0, r.1))
  over_decides (suc k) F f z [] = (λ e. absurd (false≢true e), λ r. absurd (both_ways _ z (ap F (sym (take_all r.0 [] (omega arith))) ∙ r.1.1)))
  over_decides (suc k) F f z (s ∷ l) =
      let cut = over_decides k G lasts starts l in
      let on : F (s ∷ []) ≡ false → Decides (overrun (suc k) (λ m. F (s ∷ m)) G l) (BreaksFrom (λ m. F (s ∷ m)) G (suc k) l) =
      λ h. over_decides (suc k) (λ m. F (s ∷ m)) (λ a b. f (s ∷ a) b) h l in
      (step_sound F z s l G k _ refl cut.0 (λ h. (on h).0), step_complete F z s l G k _ refl cut.1 (λ h. (on h).1))

  -- over what answers like G
  pub allow_decides : {F : List Sample → Bool} → ((x : List Sample) → F x ≡ G x) → (k : ℕ) (l : List Sample) → Decides (overrun k F F l) (Breaks (Fails G) (suc k) l)
  allow_decides e k l = rw (over_alike k e e l) (over_decides k G lasts starts l)
