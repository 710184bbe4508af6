use Rattle.std.proofs.Common.{◌≡◌, ◌+◌, ◌-◌, ◌≤◌, length, take, drop, arith, rules}
use Rattle.grammar.proofs.Cuts.{cut_whole, cut_at}
use Rattle.grammar.proofs.word.split_line.Goals as goal

pub returns-in_err-rest : goal.returns-in_err-rest
returns-in_err-rest c =
    let t = c.args.text.now in
    let all : length t ≤ c.length_to-len.result = grind (arith, c.in_err-rest.ensures.lookup.0) in
    rw c.from_residual.ensures (cut_whole 10 t (omega (arith, c.length_to-len.ensures.long)))

pub returns : goal.returns
returns c =
    let t = c.args.text.now in
    let n = c.length_to-len.result in
    let h = c.in_ok-rest.ensures.lookup.0 in
    let inside : n + 1 ≤ length t = omega arith in
    let is : c.in_ok-rest.rest.now ≡ take (length t - (n + 1)) (drop (n + 1) t) = search rules in
    cut_at 10 t c.in_ok-rest.rest.now n c.length_to-len.ensures.long inside is
