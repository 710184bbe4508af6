-- The lines of a report, as lists of bytes; 32 is the space.
use Rattle.std.specs.Prelude.{ℕ, ◌-◌, List, ◌∷◌, ◌++◌, length, drop, replicate, codes, decimal}

-- w columns: the digits of n with spaces before them, or the last w digits where there are more than w
abbrev pub field : ℕ → ℕ → List ℕ
field w n = replicate (w - length (decimal n)) 32 ++ drop (length (decimal n) - w) (decimal n)

-- the words above the two columns of numbers
abbrev pub header_line : List ℕ
header_line = codes "TERM       SAMPLE"

-- a term in four columns, a space, and the number of a sample in twelve
abbrev pub notice_line : ℕ → ℕ → List ℕ
notice_line term number = field 4 term ++ (32 ∷ field 12 number)

-- the word in four columns, a space, and a count in twelve
abbrev pub done_line : ℕ → List ℕ
done_line count = codes "DONE" ++ (32 ∷ field 12 count)

-- the word in four columns, a space, and the number of the refusal in twelve
abbrev pub stop_line : ℕ → List ℕ
stop_line refusal = codes "STOP" ++ (32 ∷ field 12 refusal)
