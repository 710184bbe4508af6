use Rattle.std.proofs.Common.{◌≡◌, ℕ, List, take, Option, ap, subst}
use Rattle.std.specs.Option.{IfSome}
use Rattle.report.proofs.Readers.{front_copied}
use Rattle.report.proofs.reading.read_text.Goals as goal

pub returns : goal.returns
returns g c =
    let items = c.copy.new.writer.items in
    let inner = c.take.result.inner in
    subst (λ (known : Option (List ℕ)). IfSome known (λ xs. items ≡ take 8193 xs)) (ap g.R.Read.remaining c.take.ensures.inner)
    (front_copied (g.R.Read.remaining inner) c.take.result.limit 8193 c.new-text.result.items items c.take.ensures.limit c.new-text.ensures c.in_ok-copy.ensures.bytes)
