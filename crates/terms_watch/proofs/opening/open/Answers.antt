use Rattle.terms_watch.proofs.Openings.{opened}
use Rattle.terms_watch.proofs.opening.open.Goals as goal

pub returns : goal.returns
returns c =
    let read = c.in_ok-read.ensures.read in
    opened c.read.new.self read.0 read.2 c.args.text.now _ c.from-terms.result read.1 c.new.ensures c.from-terms.ensures
