use Rattle.pd_guarantee.specs.Charger.{Charger}
use Rattle.pd_guarantee.specs.Tellings.{port_text}
use Rattle.pd_guarantee.proofs.Lines.{written_more}
use Rattle.pd_guarantee.proofs.tell.push_charger.Goals as goal

pub loop-p-preserved : goal.loop-p-preserved
loop-p-preserved c =
    let charger : Charger = record { settings = c.args.ports.now; least = c.args.least; greatest = c.args.greatest } in
    written_more (port_text c.args.form charger) c.loop-p.p c.args.text.now.items c.loop-p.text.items _ c.loop-p.invariant
    c.in_ok-push_port_text.ensures
