use Rattle.std.proofs.Common.{take, sym, ◌∙◌, arith}
use Rattle.report.specs.Runs.{GoesOn}
use Rattle.report.proofs.Choosing.{some_of}
use Rattle.report.proofs.Readers.{begun, goes_further, goes_past, end_given, all_passed}
use Rattle.report.proofs.run.Run.follow.Goals as goal
use Rattle.report.proofs.run.Run.follow.Goals.{in-Ok+else-is_some, in-Err}

pub loop-init : goal.loop-init
loop-init g c = begun (g.R.Read.remaining c.args.source.now) c.args.self.now

pub returns-in-Ok-eq0 : goal.returns-in-Ok-eq0
returns-in-Ok-eq0 g c = end_given (g.R.Read.remaining c.args.source.now) (g.R.Read.remaining c.loop.source) (g.R.Read.remaining c.read.new.self)
    (λ front. GoesOn c.args.self.now front c.loop.self) c.read.result c.in-Ok-eq0.field-0 c.read.new.buf c.in-Ok-eq0.is c.in-Ok-eq0.field-0-test (omega arith) c.read.ensures.bytes c.loop.invariant

pub returns-then-is_some : goal.returns-then-is_some
returns-then-is_some g c =
    let known = g.R.Read.remaining c.args.source.now in
    let some = some_of c.read-in-Ok.new.self.refused (sym c.is_some.ensures ∙ c.if-is_some.true) in
    all_passed known (g.R.Read.remaining c.read.new.self) c.args.self.now c.read-in-Ok.new.self some.0 some.1
    (goes_further known (g.R.Read.remaining c.loop.source) (g.R.Read.remaining c.read.new.self) (take c.in-Ok.count c.read.new.buf) c.args.self.now c.loop.self c.read-in-Ok.new.self
    c.loop.invariant c.in-Ok.ensures.bytes.0 c.read-in-Ok.ensures)

pub returns-in-Err-2 : goal.returns-in-Err-2
returns-in-Err-2 g c =
    let known = g.R.Read.remaining c.args.source.now in
    goes_past known (g.R.Read.remaining c.loop.source) (g.R.Read.remaining c.read.new.self) (λ front. GoesOn c.args.self.now front c.loop.self) c.loop.invariant c.in-Err-2.ensures.bytes

pub loop-preserved : goal.loop-preserved
loop-preserved g c =
    let known = g.R.Read.remaining c.args.source.now in
    let now = g.R.Read.remaining c.loop.source in
    let next = g.R.Read.remaining c.read.new.self in
    elim c.match-read.branch [
      | in-Ok+else-is_some w ↦
          rw w.self-is (goes_further known now next (take w.in-Ok.count c.read.new.buf) c.args.self.now c.loop.self w.read-in-Ok.new.self c.loop.invariant w.in-Ok.ensures.bytes.0 w.read-in-Ok.ensures)
      | in-Err w ↦ rw w.self-is (goes_past known now next (λ front. GoesOn c.args.self.now front c.loop.self) c.loop.invariant w.in-Err.ensures.bytes)
    ]

pub returns : goal.returns
returns g c = c.loop.invariant
