use Rattle.std.proofs.Common.{◌≡◌, ℕ, ◌+◌, ◌<◌, List, [], ◌∷◌, length, drop, Some, None, Ok, Err, Result, MatchResult, sym, ap, ◌∙◌, subst, arith, rules}
use Rattle.std.specs.Result.{IsErrAnd}
use Rattle.rows.specs.Rows.{NoneReads, row_text}
use Rattle.rows.specs.declared.slip.Slip.{Slip}
use Rattle.std.proofs.lemmas.Bool.Decides.{Decides-eqb}
use Rattle.std.proofs.lemmas.List.{drop_more, drop-drop}
use Rattle.std.proofs.lemmas.Result.{err_from_is_err_and}
use Rattle.std.proofs.lemmas.Slice.Eq.{strip_prefix_is}
use Rattle.rows.proofs.Cuts.{FirstAt}
use Rattle.rows.proofs.Gaps.{gap_text}
use Rattle.rows.proofs.Letters.{any_letters}
use Rattle.rows.proofs.Readings.{word_slip, end_slip, letters_slip}
use Rattle.rows.proofs.reading.read_row.Goals as goal
use Rattle.rows.proofs.reading.read_row.Goals.{After-space_at-space, at-returns-in_err-gap, at-returns-in_default, at-returns-in_err-letters}

first : (c : After-space_at-space) → FirstAt 32 c.space_at-space.result c.args.line.now
first c = record { before = c.space_at-space.ensures.before; here = c.space_at-space.ensures.here }

pub returns-in_err-gap : goal.returns-in_err-gap
returns-in_err-gap c =
    let line = c.args.line.now in
    let p = err_from_is_err_and c.from_residual.result c.from_residual.ensures.1 in
    let before = (at-returns-in_err-gap c).After-space_at-space in
    let column = c.in_err-gap.field-0.0.column in
    let word = subst (λ (w : List ℕ). NoneReads gap_text w column) c.split_at.ensures.front c.in_err-gap.ensures in
    rw (p.1, p.2) (word_slip line c.space_at-space.result (first before) c.space_at-space.ensures.within column word)

pub returns-in_default : goal.returns-in_default
returns-in_default c =
    let line = c.args.line.now in
    let space = c.space_at-space.result in
    let gap = c.in_ok-gap.ensures in
    let before = (at-returns-in_default c).After-space_at-space in
    let front : space < length line → c.split_at.result.1.now ≡ 32 ∷ drop (space + 1) line = (λ h.
    c.split_at.ensures.back ∙ drop_more line space 0 h ∙ ap (λ (x : ℕ). x ∷ drop (space + 1) line) (c.space_at-space.ensures.here h)) in
    let end : space < length line → ⊥ = (λ h. strip_prefix_is Decides-eqb c.split_at.result.1.now (32 ∷ []) None c.in_default.ensures.cases _ (front h)) in
    end_slip line space (first before) c.space_at-space.ensures.within c.in_ok-gap.gap gap.0 (sym c.split_at.ensures.front ∙ gap.1) (omega (arith, end))

-- the slip that was moved, and what became of it
moved : (r m : Result ℕ Slip) (Good : ℕ → Type 0) (Bad : Slip → Type 0) (Post : Slip → Slip → Type 0) (e : Slip) → m ≡ Err e
    → MatchResult r Good Bad → MatchResult r (λ x. m ≡ Ok x) (λ s. IsErrAnd m (Post s)) → (s : Slip) × Bad s × Post s e
moved (Ok x) m Good Bad Post e is known map = absurd cc
moved (Err s) m Good Bad Post e is known map = (s, known, subst (λ (q : Result ℕ Slip). IsErrAnd q (Post s)) is map)

pub returns-in_err-letters : goal.returns-in_err-letters
returns-in_err-letters c =
    let line = c.args.line.now in
    let space = c.space_at-space.result in
    let gap = c.in_ok-gap.ensures in
    let p = err_from_is_err_and c.from_residual-in_err-letters.result c.from_residual-in_err-letters.ensures.1 in
    let before = (at-returns-in_err-letters c).After-space_at-space in
    let slip = moved c.read_letters.result c.map_err.result _ _ _ _ c.in_err-letters.was c.read_letters.ensures c.map_err.ensures.cases in
    let text = strip_prefix_is Decides-eqb c.split_at.result.1.now (32 ∷ []) (Some c.in-Some.text) c.in-Some.ensures.cases in
    let within : space < length line = omega (arith, ap length text, c.split_at.ensures.back_len) in
    let column : slip.0.column + (space + 1) ≡ c.in_err-letters.field-0.0.column = let told = slip.2 in search rules in
    let rest : c.in-Some.text.now ≡ drop (space + 1) line = c.in-Some.ensures.cases.1 ∙ ap (drop 1) c.split_at.ensures.back ∙ drop-drop 1 space line in
    let letters = subst (λ (t : List ℕ). NoneReads any_letters t slip.0.column) rest slip.1 in
    rw (p.1, p.2) (subst (NoneReads row_text line) column
    (letters_slip line space (first before) c.space_at-space.ensures.within c.in_ok-gap.gap gap.0 (sym c.split_at.ensures.front ∙ gap.1) within slip.0.column letters))
