use Rattle.std.proofs.Common.{◌≡◌, ◌<◌, ◌+◌, ◌-◌, arith, length}
use Rattle.std.proofs.lemmas.List.{length-map}
use Rattle.pd_scenario.proofs.HandedOut.{handed_to, handed_to_all, items_of, port_within}
use Rattle.pd_scenario.proofs.scripts.hand_out.Goals as goal

pub returns-in-OnPort : goal.returns-in-OnPort
returns-in-OnPort c =
    let lists = items_of c.args.lists.now.items in
    let count = length-map c.args.lists.now.items (λ s. s.items) in
    let port = port_within (length c.args.lists.now.items) c.in-OnPort.port c.in-OnPort.kind c.args.event.now c.in-OnPort.is
    c.requires.fits in
    let there : 1 + (c.in-OnPort.port - 1) ≡ c.in-OnPort.port = omega (arith, port.0) in
    let within : c.in-OnPort.port - 1 < length lists = omega (arith, count, port.0, port.1) in
    rw (
      ← handed_to c.args.cables.now c.args.sinks.now c.args.event.now c.in-OnPort.port c.in-OnPort.kind c.in-OnPort.is 1
          (c.in-OnPort.port - 1) lists there within,
      ← c.from-at.ensures,
      ← c.resolved-kind.ensures,
      ← c.new-event.ensures,
    ) c.hand_to.ensures

pub returns-in-Budget : goal.returns-in-Budget
returns-in-Budget c =
    rw (
      ← handed_to_all c.args.cables.now c.args.sinks.now c.args.event.now c.in-Budget.mw c.in-Budget.is 1 (items_of c.args.lists.now.items),
      ← c.from-at.ensures,
      ← c.new.ensures,
    ) c.hand_to_all.ensures
