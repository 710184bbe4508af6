-- Values with the same parts are the same, whatever shows that their invariants hold.
use Rattle.std.proofs.Common.{◌≡◌, ℕ, ◌-◌, ◌%◌, ◌<◌, ◌≤◌, sym, ap, ◌∙◌, mod-lt, mod-eq_of_lt, arith, lit<, Ok, Err, Result, Some}
use Rattle.std.specs.Result.{MatchResult, result_ok}
use Rattle.std.proofs.lemmas.Bool.Decides.{nat_tests}
use mathlib.Core.HLevel.{is_prop→PathP}
use native.Mathlib.Bridge.{le_prop}
use Rattle.stream.specs.declared.refusal.Refusal.{Refusal}
use Rattle.stream.specs.declared.refusal.Refusal.TheVariants.{HighSignal}
use Rattle.stream.specs.declared.signal.Signal.{Signal}
use Rattle.stream.proofs.Same.{same_letter}
use Rattle.stream.specs.Signals.{bare_signal, letter_signal}
use Rattle.monitor.specs.declared.limit.Ticks.{Ticks}
use Rattle.grammar.specs.declared.clause.ClauseNumber.{ClauseNumber}
use Rattle.grammar.specs.Numbers.{ticks_of, clause_of}
use Rattle.grammar.specs.Tokens.{letter_of, bare_of}
use Rattle.grammar.specs.Reading.{Ws, Read, got, and_then, made}

same_ticks : (x y : Ticks) → x.value ≡ y.value → x ≡ y
same_ticks x y v i = record { value = v i; small = is_prop→PathP (λ j. v j ≤ 999999999) (λ j. le_prop) x.small y.small i }

same_clause : (x y : ClauseNumber) → x.value ≡ y.value → x ≡ y
same_clause x y v i = record {
  value = v i;
  from = is_prop→PathP (λ j. 1 ≤ v j) (λ j. le_prop) x.from y.from i;
  upto = is_prop→PathP (λ j. v j ≤ 9999) (λ j. le_prop) x.upto y.upto i;
}

pub ticks_is : (n : ℕ) (t : Ticks) → t.value ≡ n → t ≡ ticks_of n
ticks_is n t e = same_ticks t (ticks_of n) (let h = t.small in omega arith)

pub clause_is : (n : ℕ) (k : ClauseNumber) → k.value ≡ n → k ≡ clause_of n
clause_is n k e = same_clause k (clause_of n) (let l = k.from in let h = k.upto in omega arith)

letter_is : (b : ℕ) (low : b - 97 < 24) (s : Signal) → s ≡ letter_signal (b - 97) low → s ≡ letter_of b
letter_is b low s e =
    let l : letter_signal (b - 97) low ≡ letter_of b = λ i. bare_signal (Some (same_letter (record { bit = b - 97; low = low }) (record { bit = (b - 97) % 24; low = mod-lt (b - 97) (lit< tt) }) (sym (mod-eq_of_lt low)) i)) in
    e ∙ l

pub letter_ok : (b : ℕ) (r : Result Signal Refusal) → 97 ≤ b → b ≤ 120 → MatchResult r (λ s. (low : b - 97 < 24) × (s ≡ letter_signal (b - 97) low)) (λ e. (e ≡ HighSignal) × (24 ≤ b - 97)) → result_ok r ≡ bare_of b
letter_ok b (Ok s) l h v = let e = letter_is b v.0 s v.1 in grind (arith, nat_tests)
letter_ok b (Err e) l h v = absurd (omega (arith, v.1))

-- a value made of what was read
pub made_read : {X Y : Type 0} (f : X → Y) (s : Read X) (x : X) (rest : Ws) (y : Y) → s ≡ got x rest → y ≡ f x → and_then s (made f) ≡ got y rest
made_read f s x rest y e v = ap (λ r. and_then r (made f)) e ∙ ap (λ z. got z rest) (sym v)
