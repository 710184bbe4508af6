use Rattle.std.proofs.Common.{◌≡◌, ℕ, ◌+◌, List, get_or, drop, Some, sym, ap, ◌∙◌, subst}
use Rattle.std.proofs.lemmas.List.{drop_more, drop_all}
use Rattle.stream.specs.declared.sample.Sample.{Sample}
use Rattle.rows.specs.Traces.{sample_bytes}
use Rattle.rows.proofs.Trips.{ahead, OnlyRow, Step, begins, ends, steps}
use Rattle.rows.proofs.trip.first_row.Goals as goal
use Rattle.rows.proofs.trip.first_row.Goals.{After-row_in, at-returns-in-Some}

stepped : (c : After-row_in) (s : Sample) → c.args.bytes.now ≡ sample_bytes s → Step s c.push.result (ahead c.push.new.self (drop (c.loop-byte.byte-index + 1) c.args.bytes.now))
stepped c s e =
    let bytes = c.args.bytes.now in
    let i = c.loop-byte.byte-index in
    steps s c.loop-byte.decoder (get_or bytes i 0) c.push.result c.push.new.self (drop (i + 1) bytes) c.push.ensures
    (subst (λ (l : List ℕ). OnlyRow s (ahead c.loop-byte.decoder l)) (drop_more bytes i 0 c.loop-byte-test.true) (c.loop-byte.invariant s e))

pub loop-byte-init : goal.loop-byte-init
loop-byte-init c s e = subst (λ (l : List ℕ). OnlyRow s (ahead c.new-decoder.result l)) (sym e) (begins c.new-decoder.result s c.new-decoder.ensures.0 c.new-decoder.ensures.1)

pub loop-byte-preserved : goal.loop-byte-preserved
loop-byte-preserved c s e = (stepped (goal.at.loop-byte-preserved c).After-row_in s e).coming (sym c.row_in.ensures ∙ c.in_default.is)

pub returns-in-Some : goal.returns-in-Some
returns-in-Some c s e = ap Some ((stepped (at-returns-in-Some c).After-row_in s e).row c.in-Some.sample (sym c.row_in.ensures ∙ c.in-Some.is))

pub returns : goal.returns
returns c s e =
    absurd (ends c.loop-byte.decoder s (subst (λ (l : List ℕ). OnlyRow s (ahead c.loop-byte.decoder l)) (drop_all c.loop-byte.byte-index c.args.bytes.now c.loop-byte-test.false) (c.loop-byte.invariant s e)))
