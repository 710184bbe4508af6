use Rattle.std.proofs.Common.{ℕ, unwrap_or, ◌∙◌, ⊎_elim, arith, rules}
use Rattle.std.proofs.lemmas.List.{get_or_past}
use Rattle.std.proofs.lemmas.Bool.{cases_lt}
use Rattle.book.specs.Seating.{number_at}
use Rattle.terms_watch.proofs.Terms.{filled, none_beyond}
use Rattle.terms_watch.proofs.opening.ClauseNumbersFromRefBook.from.Goals as goal

pub returns : goal.returns
returns c k = ⊎_elim
    (λ near. filled _ (λ (j : ℕ). unwrap_or (number_at c.args.book.now j) 0) _ (λ j r q k. search rules) c.from_fn.result 0 65 c.from_fn.ensures.items.each k 0 (omega arith) (omega (arith, near)))
    (λ far. get_or_past c.from_fn.result k 0 (omega (arith, c.from_fn.ensures.items.long)) ∙ none_beyond c.args.book.now k (omega arith))
    (cases_lt k 65)
