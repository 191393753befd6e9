use Rattle.std.proofs.Common.{◌≡◌, take}
use Rattle.std.specs.List.{flat_map}
use Rattle.pd_expect.specs.Counted.{notes_at}
use Rattle.pd_expect.proofs.notes.notes_of.Given as goal

abbrev pub invariant-loop-index : goal.invariant-loop-index
invariant-loop-index g l = l.notes.items ≡ flat_map (notes_at l.wanted) (take l.index (g.T.Runner.entries l.run))
