-- What a reader gave, piece by piece.
use Rattle.std.proofs.Common.{◌≡◌, ℕ, ◌<◌, ◌≤◌, List, [], ◌++◌, take, length, Option, Result, Some, None, Ok, sym, refl, ap, ◌∙◌, subst, ⊎_elim, arith}
use Rattle.std.specs.Prelude.{IfSome}
use Rattle.std.specs.Io.KnownBytes.{Consumes, Keeps, Appends, ReadConsumes, IsAtEnd}
use Rattle.std.specs.Option.{option_map}
use Rattle.std.proofs.lemmas.Bool.{cases_order}
use Rattle.std.proofs.lemmas.List.{append_assoc, append-nil, take_all, length-take}
use Rattle.stream.specs.declared.refusal.Refusal.{Refusal}
use Rattle.grammar.specs.declared.fault.Fault.{Fault}
use Rattle.grammar.specs.declared.fault.Fault.TheVariants.{TextTooLong}
use Rattle.grammar.specs.Faults.{refusal_of}
use Rattle.grammar.proofs.OneFaults.{one_fault}
use Rattle.report.specs.declared.run.Ending.{Ending}
use Rattle.report.specs.declared.run.Run.{Run}
use Rattle.report.specs.Reports.{stop_page, judged, faulty, Reported}
use Rattle.report.specs.Runs.{Follows, GoesOn}
use Rattle.report.specs.Readers.{GaveFront, FrontReports}
use Rattle.report.proofs.Followed.{passed_over}

-- before the first read
pub begun : (known : Option (List ℕ)) (run : Run) → GaveFront known known (λ front. GoesOn run front run)
begun None run = tt
begun (Some xs) run = ([], (refl, λ text bytes f. subst (λ (l : List ℕ). Follows text l run) (sym (append-nil bytes)) f))

-- it gave a further piece, which the run read
pub goes_further : (known now next : Option (List ℕ)) (piece : List ℕ) (a b c : Run)
    → GaveFront known now (λ front. GoesOn a front b) → Consumes now next piece → GoesOn b piece c → GaveFront known next (λ front. GoesOn a front c)
goes_further None now next piece a b c went gave on = tt
goes_further (Some xs) None next piece a b c went gave on = absurd went
goes_further (Some xs) (Some rest) None piece a b c went gave on = absurd gave
goes_further (Some xs) (Some rest) (Some more) piece a b c (front, (split, went)) gave on = (
  front ++ piece,
  (
    split ∙ ap (λ (l : List ℕ). front ++ l) gave ∙ sym (append_assoc front piece more),
    λ text bytes f. subst (λ (l : List ℕ). Follows text l c) (append_assoc bytes front piece) (on text (bytes ++ front) (went text bytes f)),
  ),
)

-- it gave nothing at a fault
pub goes_past : (known now next : Option (List ℕ)) (P : List ℕ → Type 0) → GaveFront known now P → Keeps now next → GaveFront known next P
goes_past None now next P went kept = tt
goes_past (Some xs) None next P went kept = absurd went
goes_past (Some xs) (Some rest) None P went kept = absurd kept
goes_past (Some xs) (Some rest) (Some same) P (front, (split, went)) kept = (front, (split ∙ ap (λ (l : List ℕ). front ++ l) (sym kept), went))

-- it came to its end: a read into some room gave no byte
pub end_given : {E : Type 0} (known now next : Option (List ℕ)) (P : List ℕ → Type 0) (r : Result ℕ E) (n : ℕ) (buf : List ℕ)
    → r ≡ Ok n → n ≡ 0 → 0 < length buf → ReadConsumes now next r buf → GaveFront known now P → IfSome known P
end_given {E} known now next P r n buf is none room read went =
    let given : ReadConsumes {E = E} now next (Ok 0) buf = subst (λ (q : Result ℕ E). ReadConsumes now next q buf) (is ∙ ap (λ (k : ℕ). Ok k) none) read in
    at_end known now next P went given.0 (given.1 refl room)
  where
    at_end : (known now next : Option (List ℕ)) (P : List ℕ → Type 0) → GaveFront known now P → Consumes now next [] → IsAtEnd next → IfSome known P
    at_end None now next P went none end = tt
    at_end (Some xs) None next P went none end = absurd went
    at_end (Some xs) (Some rest) None P went none end = absurd none
    at_end (Some xs) (Some rest) (Some last) P (front, (split, went)) none end =
        subst P (sym (split ∙ ap (λ (l : List ℕ). front ++ l) (none ∙ end) ∙ append-nil front)) went

-- what a run that has refused a word does not read is passed over
pub all_passed : (known now : Option (List ℕ)) (a b : Run) (r : Refusal) → b.refused ≡ Some r → GaveFront known now (λ front. GoesOn a front b)
    → IfSome known (λ bytes. GoesOn a bytes b)
all_passed None now a b r refused went = tt
all_passed (Some xs) None a b r refused went = absurd went
all_passed (Some xs) (Some rest) a b r refused (front, (split, went)) = λ text bytes f.
    subst (λ (l : List ℕ). Follows text l b) (append_assoc bytes front rest ∙ ap (λ (l : List ℕ). bytes ++ l) (sym split))
    (passed_over text (bytes ++ front) rest b r refused (went text bytes f))

-- what is copied of a reader's front into an empty buffer
pub front_copied : (known : Option (List ℕ)) (limit n : ℕ) (before items : List ℕ) → limit ≡ n → before ≡ []
    → IfSome (option_map (take limit) known) (Appends (Some before) (Some items)) → IfSome known (λ xs. items ≡ take n xs)
front_copied None limit n before items same empty copied = tt
front_copied (Some xs) limit n before items same empty copied = copied ∙ ap (λ (l : List ℕ). l ++ take limit xs) empty ∙ ap (λ (k : ℕ). take k xs) same

-- a text that is longer than a book can be has one fault, and so has its front
long_front : (text bytes : List ℕ) (end : Ending) (out : List ℕ) → 8192 < length text → Reported (take 8193 text) bytes end out → Reported text bytes end out
long_front text bytes end out long r =
    let front : 8192 < length (take 8193 text) = let l = length-take 8193 text in omega (arith, l, long) in
    let fault = one_fault (take 8193 text) TextTooLong front in
    elim r [
      | judged ls ns book notices is ↦ absurd (fault.none ls book)
      | faulty f has is ↦ faulty TextTooLong long (is ∙ ap (λ (h : Fault). stop_page (refusal_of h)) (fault.other f has))
    ]

short_front : (text bytes : List ℕ) (end : Ending) (out : List ℕ) → length text ≤ 8192 → Reported (take 8193 text) bytes end out → Reported text bytes end out
short_front text bytes end out short = subst (λ (t : List ℕ). Reported t bytes end out) (take_all 8193 text (omega (arith, short)))

pub front_reports : FrontReports
front_reports text bytes end out =
    let short = short_front text bytes end out in
    ⊎_elim (λ same. short (omega (arith, same))) (⊎_elim (λ less. short (omega (arith, less))) (long_front text bytes end out)) (cases_order (length text) 8192)
