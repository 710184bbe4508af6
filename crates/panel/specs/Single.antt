-- The panel of one seat over a monitor.
use Rattle.std.specs.Prelude.{◌&&◌, Bool, List, ◌==◌}
use Rattle.stream.specs.declared.sample.Sample.{Sample}
use Rattle.panel.specs.declared.solo.Solo.{Solo}
use Rattle.panel.specs.Panels.{Meaning}

-- seat 1 is lost where the monitor fails, where F says on which lists it does
abbrev pub solo_meaning : {M : Type 0} → (M → List Sample → Bool) → Solo M → Meaning
solo_meaning F m = record { count = 1; lost = λ l k. k == 1 && F m.monitor l }
