-- The keyword that a line goes on with.
use Rattle.std.proofs.Common.{◌≡◌, ℕ, true, false, List, ◌∷◌, get_or, Some, None, Option, sym, refl, ap, ◌∙◌, arith}
use Rattle.std.proofs.lemmas.Bool.{eqb-true, eq-eqb}
use Rattle.grammar.specs.declared.token.Keyword.{Keyword}
use Rattle.grammar.specs.declared.token.Keyword.TheVariants as K
use Rattle.grammar.specs.Tokens.{key_word, index_of, keywords, keyword_of}
use Rattle.grammar.specs.Reading.{Ws, is_key, starts_by}
use Rattle.grammar.proofs.Spelled.{Digit, key_digit, key_reads, key_spelled}

key_at : (k : Keyword) → get_or keywords (index_of k) K.After ≡ k
key_at K.After = refl
key_at K.Never = refl
key_at K.From = refl
key_at K.Hold = refl
key_at K.Least = refl
key_at K.Under = refl
key_at K.Repeat = refl
key_at K.Within = refl
key_at K.Answer = refl
key_at K.By = refl
key_at K.Keep = refl
key_at K.For = refl
key_at K.Since = refl
key_at K.Or = refl
key_at K.Allow = refl

is_key_lem : (k : Keyword) (o : Option Keyword) → is_key k o ≡ true → o ≡ Some k
is_key_lem k None e = let z : ◌≡◌ {A = ℕ} 0 1 = cc in absurd (omega arith)
is_key_lem k (Some j) e =
    let same : j ≡ k = sym (key_at j) ∙ ap (λ n. get_or keywords n K.After) (eqb-true (index_of j) (index_of k) e) ∙ key_at k in
    ap Some same

pub starts_spelled : (k : Keyword) (w : List ℕ) (ws : Ws) → starts_by k (w ∷ ws) ≡ true → w ≡ key_word k
starts_spelled k w ws e = key_spelled w k (is_key_lem k (keyword_of w) e)

pub starts_self : (k : Keyword) (ws : Ws) → starts_by k (key_word k ∷ ws) ≡ true
starts_self k ws = ap (is_key k) (key_reads k) ∙ eq-eqb (index_of k) (index_of k) refl

pub starts_digit : (k : Keyword) (w : List ℕ) (ws : Ws) → Digit w → starts_by k (w ∷ ws) ≡ false
starts_digit k w ws d = ap (is_key k) (key_digit w d)
