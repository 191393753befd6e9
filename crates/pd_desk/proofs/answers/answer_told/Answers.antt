use Rattle.std.proofs.Common.{[], Ok, refl}
use Rattle.std.proofs.KnownBytes.{Appends-nil}
use Rattle.std.proofs.lemmas.Result.{err_from_is_err_and}
use Rattle.pd_edit_lines.specs.Grammar.{line_of}
use Rattle.pd_desk.specs.LineReasons.{reasons_text}
use Rattle.pd_desk.proofs.Told.{none_told, refusal_told, same_scenario, some_fault, some_told}
use Rattle.pd_desk.proofs.answers.answer_told.Goals as goal

pub returns-in_err-refusal-clause-reply : goal.returns-in_err-refusal-clause-reply
returns-in_err-refusal-clause-reply g c =
    let p = err_from_is_err_and c.from_residual.result c.from_residual.ensures.1 in
    let s = c.args.desk.now.state.scenario in
    let r = c.in_err-refusal.ensures.reply in
    let fault = some_fault g.row.N s (line_of c.args.line.now) r.0 c.answer_session.new.desk.state.scenario r.1 r.2.0 in
    let told = some_told fault.0 r.1 (reasons_text g.row.N s c.args.line.now) r.0 fault.1 in
    rw (p.1, p.2) (r.0, told.0, (r.1, r.2, told.1), r.3, refl)

pub returns-in-None-clause-reply : goal.returns-in-None-clause-reply
returns-in-None-clause-reply g c =
    let r = c.in_ok-refusal.ensures.reply in
    let other = rw c.in-None.is at r.4 in
    (r.0, [], (r.1, r.2, none_told r.1 _ r.0 other), r.3, (Ok tt, Appends-nil _, refl))

pub returns-in-Some-clause-reply : goal.returns-in-Some-clause-reply
returns-in-Some-clause-reply g c =
    let s = c.args.desk.now.state.scenario in
    let s' = c.answer_session.new.desk.state.scenario in
    let r = c.in_ok-refusal.ensures.reply in
    let is = rw c.in-Some.is at r.4 in
    let same = same_scenario g.row.N s (line_of c.args.line.now) r.0 s' r.1 is.0 r.2.0 in
    let t = c.tell_refusal.ensures in
    (r.0, t.0, (r.1, r.2, refusal_told g.row.N s s' c.args.line.now r.0 t.0 c.in-Some.fault r.1 same is.0 is.1 t.1), r.3, t.2)
