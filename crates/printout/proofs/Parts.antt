-- A field that is written into its part of a line.
use Rattle.std.proofs.Common.{◌≡◌, ℕ, ◌+◌, ◌≤◌, List, [], ◌∷◌, ◌++◌, length, take, sym, ap, ◌∙◌, append_assoc, arith, length-append, length-drop}
use lib.ListN.{length-replicate}
use borrow.Rule.Slice.PartMut.{put_mid}
use Rattle.std.proofs.lemmas.List.{append-nil, drop_all, drop-drop, length_push, take_at}
use Rattle.printout.specs.Lines.{field}

pub length_field : (w n : ℕ) → length (field w n) ≡ w
length_field w n = simp (length-append, length-replicate, length-drop) (omega arith)

-- a part that reaches the end of its line
pub put_end : (line part : List ℕ) (a k : ℕ) → length line ≤ a + k → put_mid a k line part ≡ take a line ++ part
put_end line part a k within =
    let none = drop-drop k a line ∙ drop_all (a + k) line within in
    ap (λ l. take a line ++ (part ++ l)) none ∙ ap (λ l. take a line ++ l) (append-nil part)

-- the byte after the front stays, and what stood after that gives way
pub keep_one : (front old new : List ℕ) (b n : ℕ) → length front + 1 ≡ n → take n (front ++ (b ∷ old)) ++ new ≡ front ++ (b ∷ new)
keep_one front old new b n wide =
    let kept = take_at (front ++ (b ∷ [])) old n (length_push front b ∙ wide) in
    ap (λ l. take n l ++ new) (sym (append_assoc front (b ∷ []) old)) ∙ ap (λ l. l ++ new) kept ∙ append_assoc front (b ∷ []) new
