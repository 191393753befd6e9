use Rattle.pd_noise.specs.Reports.{port_rows}
use Rattle.pd_noise.proofs.RowLemmas.{written_more}
use Rattle.pd_noise.proofs.report.push_all_ports.Goals as goal

pub loop-port-preserved : goal.loop-port-preserved
loop-port-preserved c =
    written_more (port_rows c.args.noisies.now) c.loop-port.port c.args.text.now.items c.loop-port.text.items _ c.loop-port.invariant
    c.in_ok-push_port_rows.ensures
