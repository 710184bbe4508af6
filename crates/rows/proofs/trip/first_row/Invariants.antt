use Rattle.std.proofs.Common.{◌≡◌, drop}
use Rattle.stream.specs.declared.sample.Sample.{Sample}
use Rattle.rows.specs.Traces.{sample_bytes}
use Rattle.rows.proofs.Trips.{ahead, OnlyRow}
use Rattle.rows.proofs.trip.first_row.Given as goal

abbrev pub invariant-loop-byte : goal.invariant-loop-byte
invariant-loop-byte l = (s : Sample) → l.bytes ≡ sample_bytes s → OnlyRow s (ahead l.decoder (drop l.byte-index l.bytes))
