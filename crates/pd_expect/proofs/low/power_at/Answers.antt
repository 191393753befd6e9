use Rattle.std.proofs.Common.{Some, None}
use Rattle.pd_expect.proofs.LowLemmas.{power_known}
use Rattle.pd_expect.proofs.low.power_at.Goals as goal

pub returns-in-None : goal.returns-in-None
returns-in-None g c = power_known c.args.port c.args.at (g.T.Runner.entries c.args.run.now) None c.in-None.ensures

pub returns-in-Some : goal.returns-in-Some
returns-in-Some g c =
    rw (c.from.ensures, c.from-in-Some.ensures)
    (power_known c.args.port c.args.at (g.T.Runner.entries c.args.run.now) (Some c.in-Some.contract) c.in-Some.ensures)
