use Rattle.std.proofs.Common.{Some, refl, ap, ◌∙◌, arith}
use Rattle.pd_scenario.proofs.Places.{force-first, later-first}
use Rattle.pd_report.proofs.walk.Walk.go_on.Goals as goal

pub returns : goal.returns
returns c plan knows =
    let old = c.args.self.now in
    let stands = c.passed-self.ensures.stands in
    record {
      later = c.requires.later;
      seen_is = refl;
      powers_are = refl;
      at_is = refl;
      before_is = ap Some c.standing.ensures;
      knows = record {
        order_is = knows.order_is;
        stands = stands;
        budget_is =
            c.budget_at-self.ensures plan c.args.at knows.order_is stands (
            λ none. knows.budget_is
            ∙ force-first plan old.at
            (later-first plan.forces old.order.now old.place old.at knows.order_is knows.stands
            (omega (arith, none, c.passed-self.ensures.up)))
            );
        next_is = c.next_at-self.ensures plan.forces c.args.at knows.order_is stands;
      };
    }
