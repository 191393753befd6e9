use Rattle.std.proofs.Common.{◌≡◌, ◌++◌, map, take}
use Rattle.pd_warn.specs.Watch.{unmet}
use Rattle.pd_warn.proofs.watch.push_unmet.Given as goal

abbrev pub invariant-loop-disturber : goal.invariant-loop-disturber
invariant-loop-disturber l = l.out.items ≡ l.initial.out.items ++ map (unmet l.port l.until) (take l.disturber-index l.watch.waiting)
