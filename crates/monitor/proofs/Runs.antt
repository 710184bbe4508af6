-- A rule's run by sample numbers, and where it is lost.
use Rattle.std.specs.Prelude.{◌≡◌, ℕ, zero, suc, ◌<◌, Bool, true, false, ◌||◌, List, [], ◌∷◌, length, Decides, refl, None}
use Rattle.std.proofs.Common.{sym, ap, ap₂, ◌∙◌, ⊎_elim, arith}
use Rattle.monitor.specs.Clocks.{Clock}
use Rattle.std.proofs.lemmas.Bool.{or_cases, or_left, or_right, cases_lt, false≢true}
use Rattle.stream.specs.declared.sample.Sample.{Sample}
use Rattle.monitor.specs.declared.pattern.Pattern.{Pattern}
use Rattle.monitor.specs.Turns.{turn_of, fails_rule}
use Rattle.monitor.specs.Sentences.{nth}

-- the clock after k samples, and whether the rule is lost then
abbrev pub clock_at : Pattern → Clock → List Sample → ℕ → Clock
clock_at p c l zero = c
clock_at p c l (suc k) = (turn_of p (clock_at p c l k) (nth l (suc k))).clock

-- the fault at sample number k + 1
abbrev pub fault_at : Pattern → Clock → List Sample → ℕ → Bool
fault_at p c l k = (turn_of p (clock_at p c l k) (nth l (suc k))).fault

abbrev pub lost_at : Pattern → Clock → Bool → List Sample → ℕ → Bool
lost_at p c b l zero = b
lost_at p c b l (suc k) = lost_at p c b l k || fault_at p c l k

clock_shift : (p : Pattern) (c : Clock) (x : Sample) (l : List Sample) (k : ℕ) → clock_at p c (x ∷ l) (suc k) ≡ clock_at p (turn_of p c x).clock l k
clock_shift p c x l zero = refl
clock_shift p c x l (suc k) = ap (λ o. (turn_of p o (nth l (suc k))).clock) (clock_shift p c x l k)

lost_shift : (p : Pattern) (c : Clock) (b : Bool) (x : Sample) (l : List Sample) (k : ℕ) → lost_at p c b (x ∷ l) (suc k) ≡ lost_at p (turn_of p c x).clock (b || (turn_of p c x).fault) l k
lost_shift p c b x l zero = refl
lost_shift p c b x l (suc k) = ap₂ ◌||◌ (lost_shift p c b x l k) (ap (λ o. (turn_of p o (nth l (suc k))).fault) (clock_shift p c x l k))

run_lost : (p : Pattern) (l : List Sample) (c : Clock) (b : Bool) → fails_rule (record { pattern = p; clock = c; lost = b }) l ≡ lost_at p c b l (length l)
run_lost p [] c b = refl
run_lost p (x ∷ l) c b = run_lost p l (turn_of p c x).clock (b || (turn_of p c x).fault) ∙ sym (lost_shift p c b x l (length l))

-- a run is lost exactly where there is a fault
abbrev pub Fault : Pattern → List Sample → Type 0
Fault p l = (m : ℕ) × (m < length l) × (fault_at p None l m ≡ true)

lost_fault : (p : Pattern) (l : List Sample) (k : ℕ) → lost_at p None false l k ≡ true → (m : ℕ) × (m < k) × (fault_at p None l m ≡ true)
lost_fault p l zero h = absurd (false≢true h)
lost_fault p l (suc k) h =
    ⊎_elim (λ e. let r = lost_fault p l k e in (r.0, omega arith, r.2)) (λ e. (k, omega arith, e)) (or_cases _ _ h)

fault_lost : (p : Pattern) (l : List Sample) (m k : ℕ) → m < k → fault_at p None l m ≡ true → lost_at p None false l k ≡ true
fault_lost p l m zero h f = absurd (omega arith)
fault_lost p l m (suc k) h f =
    ⊎_elim (λ e. or_left _ _ (fault_lost p l m k e f)) (λ e. or_right _ _ (let same : m ≡ k = omega arith in rw same at f)) (cases_lt m k)

pub decided : (p : Pattern) (l : List Sample) (S : Type 0) → (Fault p l → S) → (S → Fault p l) → Decides (fails_rule (record { pattern = p; clock = None; lost = false }) l) S
decided p l S sound complete = (
  λ e. sound (lost_fault p l (length l) (sym (run_lost p l None false) ∙ e)),
  λ s. let f = complete s in run_lost p l None false ∙ fault_lost p l f.0 (length l) f.1 f.2,
)
