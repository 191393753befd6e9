use Rattle.std.proofs.Common.{◌+◌, ◌-◌, length}
use Rattle.pd_sweep.proofs.BesideLemmas.{Walked}
use Rattle.pd_sweep.proofs.beside.measures.Given as goal

abbrev pub invariant-loop-whose : goal.invariant-loop-whose
invariant-loop-whose l = Walked l.end l.olds l.news l.i l.j l.ledgers

abbrev pub decreases-loop-whose : goal.decreases-loop-whose
decreases-loop-whose l = (length l.olds - l.i) + (length l.news - l.j)
