-- That the panel of one seat meets the laws of a panel.
use Rattle.std.specs.Prelude.{◌≡◌, Bool, true, List, ◌++◌}
use Rattle.std.proofs.Common.{arith, lit≤}
use Rattle.std.proofs.lemmas.Bool.{and_parts, and_from, eqb-true}
use Rattle.stream.specs.declared.sample.Sample.{Sample}
use Rattle.panel.specs.declared.solo.Solo.{Solo}
use Rattle.panel.specs.Panels.{Lawful}
use Rattle.panel.specs.Single.{solo_meaning}

pub solo_lawful : {M : Type 0} (F : M → List Sample → Bool) (m : Solo M) → ((l h : List Sample) → F m.monitor l ≡ true → F m.monitor (l ++ h) ≡ true)
    → Lawful (solo_meaning F m)
solo_lawful F m lasts = record {
  size = (lit≤ tt, lit≤ tt);
  within = λ l k e. let one = eqb-true k 1 (and_parts _ _ e).0 in (omega arith, omega arith);
  lasting = λ l h k e. let both = and_parts _ _ e in and_from _ _ both.0 (lasts l h both.1);
}
