use Rattle.std.proofs.Common.{◌∙◌, arith, inl, refl, sym}
use Rattle.pd_desk.specs.Standings.{standing_of}
use Rattle.pd_desk.proofs.LoadedLines.{after_line_taken, refused_behind, refused_here, refused_none, room_left, room_more, takes_more}
use Rattle.pd_desk.proofs.LoadedLines.{takes_none}
use Rattle.pd_desk.proofs.load.take_lines.Goals as goal

pub loop-line-init : goal.loop-line-init
loop-line-init g c = record { refused = refl; takes = λ d' h. h; room = inl (omega arith) }

pub take_line-requires : goal.take_line-requires
take_line-requires g c = (omega arith, room_left _ _ c.requires.room c.loop-line.invariant.room)

pub returns-then-branch-clause-refused : goal.returns-then-branch-clause-refused
returns-then-branch-clause-refused g c =
    sym (c.loop-line.invariant.refused ∙ refused_here g.row.N _ _ _ _ c.in-Some.ensures.lines
    (sym c.if-branch.true ∙ c.in_ok-take_line.ensures.refused))

pub loop-line-preserved : goal.loop-line-preserved
loop-line-preserved g c =
    let line = c.in_ok-take_line.ensures in
    let so_far = c.loop-line.invariant in
    let takes = line.takes c.if-branch.false in
    record {
      refused = so_far.refused ∙ refused_behind g.row.N _ _ _ _ _ c.in-Some.ensures.lines (sym c.if-branch.false ∙ line.refused)
          (after_line_taken g.row.N (standing_of c.loop-line.desk) _ _ takes);
      takes = λ d' others. so_far.takes d' (takes_more g.row.N _ _ d' _ _ _ c.in-Some.ensures.lines takes others);
      room = room_more _ _ _ so_far.room line.room;
    }

pub returns-clause-refused : goal.returns-clause-refused
returns-clause-refused g c = sym (c.loop-line.invariant.refused ∙ refused_none g.row.N _ _ c.in_default.ensures.lines)

pub returns-clause-takes : goal.returns-clause-takes
returns-clause-takes g c = λ e. c.loop-line.invariant.takes _ (takes_none g.row.N _ _ c.in_default.ensures.lines)
