-- What a turn of `read_numeral` keeps.
use Rattle.std.proofs.Common.{◌≡◌, ℕ, ◌+◌, ◌-◌, ◌*◌, ◌<◌, ◌≤◌, min, true, ◌&&◌, List, length, get_or, take, drop, sym, ap, ◌∙◌, arith}
use Rattle.std.specs.Str.Parse.{digits_value}
use Rattle.std.specs.Char.{digit_value as digitValue, is_ascii_digit}
use Rattle.std.specs.Str.{all_ascii_digits}
use Rattle.std.proofs.lemmas.Bool.Decides.{nat_tests}
use Rattle.std.proofs.lemmas.List.{at_drop_more}
use Rattle.std.proofs.lemmas.Int.Digits.{digits_value_more}

digit_value : (c : ℕ) → 48 ≤ c → c ≤ 57 → digitValue c ≡ c - 48
digit_value c l h = grind (arith, nat_tests)

pub digits_turn : (w : List ℕ) (i : ℕ) → i < length w → is_ascii_digit (get_or w i 0) ≡ true → all_ascii_digits (drop i w) ≡ all_ascii_digits w → all_ascii_digits (drop (i + 1) w) ≡ all_ascii_digits w
digits_turn w i h digit inv = sym (at_drop_more all_ascii_digits w i 0 h ∙ ap (λ b. b && all_ascii_digits (drop (i + 1) w)) digit) ∙ inv

pub value_turn : (w : List ℕ) (i cap n m : ℕ) → i < length w → 48 ≤ get_or w i 0 → get_or w i 0 ≤ 57 → n ≡ min (digits_value 10 (take i w)) cap → m ≡ min (n * 10 + (get_or w i 0 - 48)) cap → m ≡ min (digits_value 10 (take (i + 1) w)) cap
value_turn w i cap n m h l u inv e =
    let v = digits_value_more 10 w i h in
    let d = digit_value (get_or w i 0) l u in
    omega arith
