use Rattle.std.proofs.Common.{◌≡◌, ap, ◌∙◌, arith, map}
use Rattle.std.specs.Prelude.{sum}
use Rattle.std.specs.List.{range_with_len}
use Rattle.pd_report.specs.Margins.{contracts_at, power_on, up_to}
use Rattle.pd_expect.proofs.LowLemmas.{sum_next}
use Rattle.pd_expect.proofs.low.contracts_at.Goals as goal

pub loop-port-preserved : goal.loop-port-preserved
loop-port-preserved g c = record {
  total_is =
      let more = sum_next (power_on (up_to c.args.at (g.T.Runner.entries c.args.run.now))) c.loop-port.port in
      omega (arith, more, c.loop-port.invariant.total_is, c.power_at.ensures);
  small = omega (arith, c.loop-port.invariant.small);
}

pub returns : goal.returns
unfolding contracts_at
returns g c =
    let all : c.loop-port.port ≡ 8 = omega (arith, c.loop-port-test.false, c.loop-port.auto.port-end) in
    c.loop-port.invariant.total_is
    ∙ ap (λ k. sum (map (power_on (up_to c.args.at (g.T.Runner.entries c.args.run.now))) (range_with_len 1 k))) all
