use Rattle.std.proofs.Common.{◌≡◌, ◌+◌, ◌*◌, ◌≤◌, drop}
use Rattle.pd_draw.specs.Picture.{end_after}
use Rattle.pd_draw.proofs.picture.end_of.Given as goal

abbrev pub invariant-loop-port : goal.invariant-loop-port
invariant-loop-port l = record {
  end_is : end_after l.lanes.lanes l.down (drop l.port-index l.ports) ≡ end_after l.lanes.lanes 4000 l.ports;
  within : l.down ≤ 4000 + 940 * l.port-index;
}
