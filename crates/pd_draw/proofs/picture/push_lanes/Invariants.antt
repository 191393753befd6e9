use Rattle.std.proofs.Common.{◌≡◌, ◌+◌, ◌*◌, ◌≤◌, ◌++◌, drop}
use Rattle.pd_draw.specs.Picture.{lanes_text}
use Rattle.pd_draw.proofs.picture.push_lanes.Given as goal

abbrev pub invariant-loop-port : goal.invariant-loop-port
invariant-loop-port l = record {
  text_is : l.text.items ++ lanes_text l.frame l.lanes.lanes l.lanes.texts l.down (drop l.port-index l.ports)
      ≡ l.fn.text.items ++ lanes_text l.frame l.lanes.lanes l.lanes.texts 4000 l.ports;
  within : l.down ≤ 4000 + 940 * l.port-index;
}
