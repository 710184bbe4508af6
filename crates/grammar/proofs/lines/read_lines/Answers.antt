use Rattle.std.proofs.Common.{◌+◌, length, sym, refl, ap, arith, eqb-true, false-eqb}
use Rattle.grammar.specs.declared.fault.Fault.TheVariants.{EmptyText, OpenLine}
use Rattle.grammar.specs.Books.{BookFault}
use Rattle.grammar.proofs.OneFaults.{no_bytes, no_book, one_fault, every_book, only_fault}
use Rattle.grammar.proofs.lines.read_lines.Goals as goal

pub returns-then-is_empty : goal.returns-then-is_empty
returns-then-is_empty c =
    let h = no_bytes c.args.text.now (eqb-true (length c.args.text.now) 0 (sym c.if-is_empty.ensures)) in
    record { read = h; every = no_book c.args.text.now EmptyText h; fault = one_fault c.args.text.now EmptyText h }

pub returns-then-text-ne10 : goal.returns-then-text-ne10
returns-then-text-ne10 c =
    let t = c.args.text.now in
    let some = false-eqb (length t) 0 c.if-is_empty.ensures in
    let f = OpenLine (record { line = c.line_ends.result + 1; byte = length t }) in
    let h : BookFault t f = record { some = omega arith; short = c.if-text-gt8192.false; last = c.if-text-ne10.true; line_is = ap (λ n. n + 1) c.line_ends.ensures.value; byte_is = refl } in
    record { read = h; every = no_book t f h; fault = one_fault t f h }

pub returns : goal.returns
returns c = let h = c.read_ended.ensures in record { read = h; every = every_book c.args.text.now c.read_ended.result h; fault = only_fault c.args.text.now c.read_ended.result h }
