use Rattle.std.proofs.Common.{◌++◌, ◌∙◌, List, ap}
use Rattle.std.proofs.lemmas.Result.{on_ok_weaker}
use Rattle.pd_why.specs.declared.fact.Fact.{Fact}
use Rattle.pd_why.specs.Tellings.{fact_lines}
use Rattle.pd_why.proofs.run.why.Goals as goal

pub returns-clause-text : goal.returns-clause-text
returns-clause-text g c =
    let told = c.in_ok-facts.ensures.facts in
    on_ok_weaker c.push_fact_lines.result
    (λ h. record {
      moves = told.moves;
      safe = told.safe;
      text_is = h ∙ ap (λ (facts : List Fact). c.args.text.now.items ++ fact_lines c.args.form facts)
          (c.as_slice.ensures.value ∙ told.facts_are);
    })
    c.push_fact_lines.ensures

pub returns-clause-paid : goal.returns-clause-paid
returns-clause-paid g c = on_ok_weaker c.push_fact_lines.result (λ h. c.in_ok-facts.ensures.paid) c.push_fact_lines.ensures
