use Rattle.std.proofs.Common.{◌≡◌, ℕ, Option, Some, option_map, ap, ◌<◌, ◌≤◌, sym, ◌∙◌}
use Rattle.pd_port.specs.declared.due.Due.{Due}
use Rattle.pd_run.specs.Live.{due_at}
use Rattle.pd_run.proofs.First.{takes, keeps, passes_late, passes_no_sooner, passes_each, passes_none}
use Rattle.pd_run.proofs.live.Live.with_port.Goals as goal

pub returns-in_default : goal.returns-in_default
returns-in_default g c =
    let first : Option (ℕ × Due) = option_map (λ r. (r.0, r.1.now)) c.args.first in
    let none = sym c.due.ensures ∙ ap (option_map (λ d. d.now)) c.in_default.is in
    keeps c.args.plan.now c.args.self.now c.args.port first c.requires.so_far
    (passes_none c.args.plan.now c.args.self.now c.args.port first none)

pub returns-then-due-end : goal.returns-then-due-end
returns-then-due-end g c =
    let first : Option (ℕ × Due) = option_map (λ r. (r.0, r.1.now)) c.args.first in
    let due : Due = c.in-Some.due.now in
    let is : due_at c.args.self.now c.args.port ≡ Some due = sym c.due.ensures ∙ ap (option_map (λ d. d.now)) c.in-Some.is in
    let late : c.args.plan.now.end < due.time = rw (sym c.end-end.ensures.end) c.if-due-end.true in
    keeps c.args.plan.now c.args.self.now c.args.port first c.requires.so_far
    (passes_each c.args.plan.now c.args.self.now c.args.port first due is
    (passes_late c.args.plan.now c.args.self.now c.args.port due first c.requires.so_far late))

pub returns-then-is_before : goal.returns-then-is_before
returns-then-is_before g c =
    let first : Option (ℕ × Due) = option_map (λ r. (r.0, r.1.now)) c.args.first in
    let due : Due = c.in-Some.due.now in
    let is : due_at c.args.self.now c.args.port ≡ Some due = sym c.due.ensures ∙ ap (option_map (λ d. d.now)) c.in-Some.is in
    let soon : due.time ≤ c.args.plan.now.end = rw (sym c.end-end.ensures.end) c.if-due-end.false in
    takes c.args.plan.now c.args.self.now c.args.port due first c.requires.so_far is soon (c.is_before.ensures.0 c.if-is_before.true)

pub returns : goal.returns
returns g c =
    let first : Option (ℕ × Due) = option_map (λ r. (r.0, r.1.now)) c.args.first in
    let due : Due = c.in-Some.due.now in
    let is : due_at c.args.self.now c.args.port ≡ Some due = sym c.due.ensures ∙ ap (option_map (λ d. d.now)) c.in-Some.is in
    keeps c.args.plan.now c.args.self.now c.args.port first c.requires.so_far
    (passes_each c.args.plan.now c.args.self.now c.args.port first due is
    (passes_no_sooner c.args.plan.now due first c.is_before.result c.is_before.ensures.1 c.if-is_before.false))
