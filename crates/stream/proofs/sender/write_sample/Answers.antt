use Rattle.std.proofs.Common.{ℕ, ◌-◌, ◌*◌, ◌/◌, subst, arith}
use Rattle.stream.specs.Sending.{full_gap, words_of, sample_words, too_short, Put, ReadsBack}
use Rattle.stream.proofs.Sends.{put_checked, put_taken, reads_back}
use Rattle.stream.proofs.sender.write_sample.Goals as goal

pub returns : goal.returns
returns c =
    let gap = c.args.gap in
    let letters = c.args.letters in
    let out = c.args.out.now in
    let words : ℕ → Type 0 = λ less.
    let ws = words_of (less / full_gap) (gap - less / full_gap * full_gap) letters in Put (too_short ws out) ws out c.put_words.result c.put_words.new.out in
    let put : words (gap - 1) = subst words c.saturating_sub-fulls.ensures c.put_words.ensures in
    record {
      sent = put_checked gap letters out _ _ (omega arith) put;
      reads = put_taken (ReadsBack gap letters) _ (sample_words gap letters) out _ _ put (reads_back gap letters (omega arith) (omega arith));
    }
