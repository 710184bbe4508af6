-- Values with the same parts are the same, whatever shows that their invariants hold.
use Rattle.std.proofs.Common.{◌≡◌, ◌^◌, ◌<◌}
use mathlib.Core.HLevel.{is_prop→PathP}
use native.Mathlib.Bridge.{le_prop}
use Rattle.stream.specs.declared.letter.Letter.{Letter}
use Rattle.stream.specs.declared.sample.Sample.{Sample}

pub same_sample : (x y : Sample) → x.gap ≡ y.gap → x.letters ≡ y.letters → x ≡ y
same_sample x y g l i = record {
  gap = g i;
  letters = l i;
  short = is_prop→PathP (λ j. g j < 2 ^ 32) (λ j. le_prop) x.short y.short i;
  low = is_prop→PathP (λ j. l j < 2 ^ 24) (λ j. le_prop) x.low y.low i;
}

pub same_letter : (x y : Letter) → x.bit ≡ y.bit → x ≡ y
same_letter x y b i = record { bit = b i; low = is_prop→PathP (λ j. b j < 24) (λ j. le_prop) x.low y.low i }
