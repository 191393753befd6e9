use Rattle.std.proofs.Common.{ap, length}
use Rattle.pd_noise.proofs.ChainLemmas.{is_noisy}
use Rattle.pd_noise.proofs.noisy.noisy_of.Goals as goal

pub returns : goal.returns
returns g c =
    let ended = c.in_ok-losses.ensures in
    is_noisy c.args.scenario.now c.args.noise.now c.args.number c.args.base.now _ c.in_ok-losses.losses.items ended.0
    (g.T.Runner.entries c.lose.new.run) c.end_time.result c.requires c.end_time.ensures.value ended.1
    (ap length c.as_slice.ensures.value) c.in_ok-effect.ensures.found c.in_ok-effect.ensures.measured
