-- The clause numbers of a book, seat by seat.
use Rattle.std.proofs.Common.{◌≡◌, ℕ, suc, zero, ◌+◌, ◌<◌, ◌≤◌, List, slice_index_or, unwrap_or, sym, ap, ◌∙◌, subst, ⊎_elim, arith}
use denote.Param.Members.{Mut, Called}
use Rattle.std.specs.Array.{IsFromFnResultFrom}
use Rattle.std.proofs.lemmas.Bool.{cases_lt}
use Rattle.std.proofs.lemmas.Option.{slice_get_past}
use Rattle.book.specs.declared.book.Book.{Book}
use Rattle.book.specs.Seating.{number_at, number_of}

-- no seat past the sixty-fourth has a clause
pub none_beyond : (b : Book) (k : ℕ) → 64 < k → 0 ≡ unwrap_or (number_at b k) 0
none_beyond b zero far = absurd (omega arith)
none_beyond b (suc k) far = ap (λ c. unwrap_or (number_of c) 0) (sym (slice_get_past b.clauses.items k (omega (arith, b.few))))

-- the array that a closure fills, which gives v of each index and stays as it is
pub filled : {F B : Type 0} (g : Mut F (ℕ × Unit {0}) B) (v : ℕ → B) (f : F) → ((j : ℕ) (r : B) (q : F) → Called g f (j, tt) r q → (r ≡ v j) × (q ≡ f))
    → (ys : List B) (i n : ℕ) → IsFromFnResultFrom g f ys i n → (k : ℕ) (e : B) → i ≤ k → k < i + n → slice_index_or ys k e ≡ v k
filled g v f one ys i zero all k e low high = absurd (omega arith)
filled {F} g v f one ys i (suc n) (q, y, at, call, rest) k e low high =
    let said = one i y q call in
    ⊎_elim
    (λ further. filled g v f one ys (i + 1) n (subst (λ (p : F). IsFromFnResultFrom g p ys (i + 1) n) said.1 rest) k e (omega arith) (omega arith))
    (λ here. let same : i ≡ k = omega arith in ap (λ (j : ℕ). slice_index_or ys j e) (sym same) ∙ at.1 e ∙ said.0 ∙ ap v same)
    (cases_lt i k)
