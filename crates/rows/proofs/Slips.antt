-- Where a text goes wrong.
use Rattle.std.proofs.Common.{◌≡◌, ℕ, ◌+◌, ◌<◌, List, [], ◌∷◌, ◌++◌, length, get_or, take, drop, sym, ap, ◌∙◌, arith, append_assoc}
use Rattle.std.proofs.lemmas.List.{take-append-drop, take_more}
use Rattle.rows.specs.Rows.{Begins, NoneReads}

module _ {V : Type 0} (written : V → List ℕ) (text : List ℕ) (column : ℕ) where
  -- at a byte
  pub stopped : column < length text → Begins written (take column text) → (Begins written (take (column + 1) text) → ⊥) → NoneReads written text column
  stopped h begins stops = record {
    within = omega arith;
    none = λ v e. stops (record { value = v; rest = drop (column + 1) text; is = sym e ∙ sym (take-append-drop (column + 1) text) });
    begins = begins;
    stops = λ more. stops;
  }

  -- at its end
  pub ended : column ≡ length text → Begins written (take column text) → ((v : V) → text ≡ written v → ⊥) → NoneReads written text column
  ended h begins none = record {
    within = omega arith;
    none = none;
    begins = begins;
    stops = λ more b. absurd (omega arith);
  }

  -- a text that begins so has the byte that stands at the column
  pub next_byte : column < length text → (b : Begins written (take (column + 1) text)) → written b.value ≡ take column text ++ (get_or text column 0 ∷ b.rest)
  next_byte h b = b.is ∙ ap (λ (l : List ℕ). l ++ b.rest) (take_more text column 0 h) ∙ append_assoc (take column text) (get_or text column 0 ∷ []) b.rest
