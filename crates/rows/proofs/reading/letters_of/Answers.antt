use Rattle.std.proofs.Common.{◌≡◌, ℕ, ◌+◌, ◌-◌, ◌≤◌, subst, sym, arith, rules, pow_mono, get_or, take}
use Rattle.rows.specs.Rows.{NoneReads}
use Rattle.rows.proofs.Letters.{Reads, reads_none, reads_letter, reads_all, goes_first, goes_on, no_letter, some_letters}
use Rattle.rows.proofs.Readings.{one_shifted}
use Rattle.rows.proofs.reading.letters_of.Goals as goal

pub returns-then-byte-first : goal.returns-then-byte-first
returns-then-byte-first c =
    let inv = c.loop-column.invariant in
    let column : c.loop-column.column ≡ c.at.result.column = omega arith in
    subst (NoneReads some_letters c.args.text.now) column
    (no_letter c.args.text.now _ c.loop-column.column c.loop-column.first c.loop-column-test.true
    (search rules)
    inv.upto inv.reads inv.goes)

pub loop-column-init : goal.loop-column-init
loop-column-init c = record { from = omega arith; upto = omega arith; reads = reads_none; goes = goes_first }

pub loop-column-preserved : goal.loop-column-preserved
loop-column-preserved c =
    let inv = c.loop-column.invariant in
    let text = c.args.text.now in
    let at = c.loop-column.column in
    record {
      from = omega arith;
      upto = omega arith;
      reads = subst (λ (bits : ℕ). Reads (take (at + 1) text) (c.loop-column.letters + bits) (get_or text at 0 + 1)) (sym (one_shifted (get_or text at 0 - 97) (omega arith)))
          (reads_letter text _ at c.loop-column.first c.loop-column-test.true inv.from c.if-byte-first.false (omega arith) inv.reads);
      goes = goes_on text at c.loop-column-test.true;
    }

pub returns : goal.returns
returns c =
    let inv = c.loop-column.invariant in (
      omega (arith, inv.reads.low, (let low : c.loop-column.first - 97 ≤ 24 = omega arith in pow_mono low)),
      reads_all c.args.text.now _ c.loop-column.column _ c.loop-column-test.false inv.reads,
    )
