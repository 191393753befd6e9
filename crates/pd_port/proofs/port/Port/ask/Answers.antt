use Rattle.std.proofs.Common.{rules}
use Rattle.pd_port.proofs.Steps.{ask_told}
use Rattle.pd_port.proofs.port.Port.ask.Goals as goal

pub returns : goal.returns
returns c =
    rw (ask_told c.args.self.now c.self.inside.floor_mw c.self.inside.parts c.args.due.now c.self.view_is (search rules)) (search rules)
