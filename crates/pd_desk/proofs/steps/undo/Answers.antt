use Rattle.std.proofs.Common.{◌∙◌, ◌+◌, sym, ap, refl}
use Rattle.pd_desk.specs.Standings.{standing_of}
use Rattle.pd_desk.specs.History.{StepData}
use Rattle.pd_desk.proofs.Back.{undone}
use Rattle.pd_desk.proofs.steps.undo.Goals as goal

pub returns-clause-text : goal.returns-clause-text
returns-clause-text g c =
    let left = c.len-left.ensures ∙ c.args.desk.now.notes.earlier.ok.0 in
    let there = undone c.args.before (c.args.before + 1) c.len-left.result (standing_of c.args.desk.now)
    (standing_of c.steps_back.new.desk) _ c.index-target.result.now _ refl left c.in_ok-reserve.ensures.items c.steps_back.ensures
    c.index-target.ensures
    (ap (λ (s : StepData). s.scenario) (sym c.target.view_is)) in
    (there.back, rw there.scenario c.in_ok-text.ensures.text)

pub returns-clause-runs : goal.returns-clause-runs
returns-clause-runs g c =
    let left = c.len-left.ensures ∙ c.args.desk.now.notes.earlier.ok.0 in
    let there = undone c.args.before (c.args.before + 1) c.len-left.result (standing_of c.args.desk.now)
    (standing_of c.steps_back.new.desk) _ c.index-target.result.now _ refl left c.in_ok-reserve.ensures.items c.steps_back.ensures
    c.index-target.ensures
    (ap (λ (s : StepData). s.scenario) (sym c.target.view_is)) in
    rw there.scenario c.in_ok-text.ensures.turned

pub returns-clause-tally : goal.returns-clause-tally
returns-clause-tally g c =
    let left = c.len-left.ensures ∙ c.args.desk.now.notes.earlier.ok.0 in
    let there = undone c.args.before (c.args.before + 1) c.len-left.result (standing_of c.args.desk.now)
    (standing_of c.steps_back.new.desk) _ c.index-target.result.now _ refl left c.in_ok-reserve.ensures.items c.steps_back.ensures
    c.index-target.ensures
    (ap (λ (s : StepData). s.scenario) (sym c.target.view_is)) in
    there.tally
