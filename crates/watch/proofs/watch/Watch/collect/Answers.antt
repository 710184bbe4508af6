use Rattle.std.proofs.Common.{◌≡◌, Bool, ◌||◌, Some, None, refl, ap, ◌∙◌, subst, arith}
use Rattle.std.proofs.lemmas.Result.{err_from_is_err_and}
use Rattle.stream.specs.declared.refusal.Refusal.TheVariants.{NothingWaits}
use Rattle.watch.specs.Ledgers.{number_of, collected_of}
use Rattle.watch.specs.Order.{Next}
use Rattle.watch.proofs.Entries.{only_seat}
use Rattle.watch.proofs.Parts.{panel_refl, seats_refl}
use Rattle.watch.proofs.Picks.{waiting_seat}
use Rattle.watch.proofs.Sorting.{waiting_list, waiting_list_lem}
use Rattle.watch.proofs.Listings.{first_waiting, none_waiting}
use Rattle.watch.proofs.watch.Watch.collect.Goals as goal

pub returns : goal.returns
returns g c =
    let l = c.args.self.now.ledger in
    let n = c.in_ok-notice.notice in
    let is : c.next.result ≡ Some n = grind arith in
    let next = subst (Next (number_of l) (collected_of l) None) is c.next.ensures in
    let within = waiting_seat l n next.0 in
    let first = first_waiting (number_of l) (collected_of l) (waiting_list (number_of l) (collected_of l)) n (waiting_list_lem (number_of l) (collected_of l) (waiting_seat l)) next in
    record {
      feed = refl;
      panel = panel_refl _;
      ledger = (
        first.0,
        first.1,
        record {
          number = c.collect.ensures.number;
          collected = λ k. c.collect.ensures.collected k ∙ ap (λ (b : Bool). collected_of l k || b) (only_seat n.seat k within.0 within.1);
        },
      );
    }

pub returns-in_err-notice : goal.returns-in_err-notice
returns-in_err-notice g c =
    let l = c.args.self.now.ledger in
    let none : c.next.result ≡ None = grind arith in
    let why : c.in_err-notice.field-0.0 ≡ NothingWaits = grind arith in
    let p = err_from_is_err_and c.from_residual.result c.from_residual.ensures.1 in
    rw (p.1, p.2, why)
    (record {
      feed = refl;
      panel = panel_refl _;
      ledger = (refl, none_waiting (number_of l) (collected_of l) (subst (Next (number_of l) (collected_of l) None) none c.next.ensures), seats_refl _);
    })
