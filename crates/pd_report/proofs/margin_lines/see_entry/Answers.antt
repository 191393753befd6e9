use Rattle.std.proofs.Common.{refl, sym, subst, arith}
use Rattle.std.proofs.lemmas.Option.{slice_get_within}
use Rattle.pd_report.specs.Walk.{IsWalk}
use Rattle.pd_report.proofs.MarginLemmas.{Moves, in-order, on-port}
use Rattle.pd_report.proofs.WalkLemmas.{walk-noted}
use Rattle.pd_report.proofs.margin_lines.see_entry.Goals as goal

pub note-requires-clause-from_one : goal.note-requires-clause-from_one
note-requires-clause-from_one g c =
    (on-port (g.T.Runner.entries c.args.run.now) c.args.walk.now.seen (c.in-Some.port, c.in-Some.entry.now) (sym c.in-Some.ensures.entry)
    (in-order _ _ _ c.entry.ensures.run)).0

pub note-requires-clause-known : goal.note-requires-clause-known
note-requires-clause-known g c =
    (on-port (g.T.Runner.entries c.args.run.now) c.args.walk.now.seen (c.in-Some.port, c.in-Some.entry.now) (sym c.in-Some.ensures.entry)
    (in-order _ _ _ c.entry.ensures.run)).1

pub note-requires-clause-room : goal.note-requires-clause-room
note-requires-clause-room g c =
    let within =
    slice_get_within (g.T.Runner.entries c.args.run.now) c.args.walk.now.seen (c.in-Some.port, c.in-Some.entry.now)
    (sym c.in-Some.ensures.entry) in
    omega (arith, within, c.len-count.ensures.count, c.len-count.type_inv)

pub returns-then-entry-walk-clause-walk : goal.returns-then-entry-walk-clause-walk
returns-then-entry-walk-clause-walk g c plan is =
    let moves : Moves = g.T.Runner.entries c.args.run.now in
    subst (IsWalk plan moves) (sym c.note.ensures)
    (walk-noted plan moves c.args.walk.now (c.in-Some.port, c.in-Some.entry.now) is (sym c.in-Some.ensures.entry)
    (in-order _ _ _ c.entry.ensures.run) c.if-entry-walk.true)

pub returns-then-entry-walk-clause-still : goal.returns-then-entry-walk-clause-still
returns-then-entry-walk-clause-still g c = rw c.note.ensures refl

pub returns-then-entry-walk-clause-seen : goal.returns-then-entry-walk-clause-seen
returns-then-entry-walk-clause-seen g c =
    let within =
    slice_get_within (g.T.Runner.entries c.args.run.now) c.args.walk.now.seen (c.in-Some.port, c.in-Some.entry.now)
    (sym c.in-Some.ensures.entry) in
    rw c.note.ensures (refl, omega (arith, within))

pub returns-else-entry-walk-clause-walk : goal.returns-else-entry-walk-clause-walk
returns-else-entry-walk-clause-walk g c plan is = is

pub returns-else-entry-walk-clause-still : goal.returns-else-entry-walk-clause-still
returns-else-entry-walk-clause-still g c = refl

pub returns-else-entry-walk-clause-seen : goal.returns-else-entry-walk-clause-seen
returns-else-entry-walk-clause-seen g c = (refl, rw (sym c.in-Some.ensures.entry) c.if-entry-walk.false)

pub returns-in_default-clause-walk : goal.returns-in_default-clause-walk
returns-in_default-clause-walk g c plan is = is

pub returns-in_default-clause-still : goal.returns-in_default-clause-still
returns-in_default-clause-still g c = refl

pub returns-in_default-clause-seen : goal.returns-in_default-clause-seen
returns-in_default-clause-seen g c = (refl, rw (sym c.in_default.ensures.entry) tt)
