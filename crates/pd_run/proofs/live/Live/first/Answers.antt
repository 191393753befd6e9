use Rattle.std.proofs.Common.{option_map, ◌≡◌, ℕ, arith, subst}
use Rattle.pd_run.specs.Live.{IsSoFar}
use Rattle.pd_run.proofs.live.Live.first.Goals as goal

pub returns-clause-first : goal.returns-clause-first
returns-clause-first g c =
    let upper = c.loop-port.auto.port-end in
    let lower = c.loop-port-test.false in
    let all : c.loop-port.port ≡ g.row.N = omega arith in
    subst
    (λ (n : ℕ). IsSoFar c.args.plan.now c.args.self.now n (option_map (λ r. (r.0, r.1.now)) c.loop-port.first)) all c.loop-port.invariant
