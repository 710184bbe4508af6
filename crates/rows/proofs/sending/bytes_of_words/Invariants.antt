use Rattle.std.proofs.Common.{◌≡◌, take}
use Rattle.rows.specs.Traces.{word_bytes}
use Rattle.rows.proofs.sending.bytes_of_words.Given as goal

abbrev pub invariant-loop-word : goal.invariant-loop-word
invariant-loop-word l = l.bytes.items ≡ word_bytes (take l.word-index l.words)
