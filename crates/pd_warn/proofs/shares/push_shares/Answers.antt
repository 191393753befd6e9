use Rattle.std.proofs.Common.{◌++◌, ◌∙◌, ap, arith}
use Rattle.std.proofs.lemmas.List.{at_drop_all}
use Rattle.pd_warn.specs.Stated.{shares_part}
use Rattle.pd_warn.proofs.Numbered.{next_left, more_shares, all_shares}
use Rattle.pd_warn.proofs.shares.push_shares.Goals as goal

pub loop-settings-preserved : goal.loop-settings-preserved
loop-settings-preserved c =
    let budget = c.args.budget_mw in
    let floors = c.floors_mw-floors.result in
    record {
      parts =
          more_shares _ c.loop-settings.out.items _ budget floors c.loop-settings.port _ _
          (c.loop-settings.invariant.parts
          ∙ next_left (λ ss. c.loop-settings.out.items ++ shares_part budget floors c.loop-settings.port ss) c.args.ports.now
          c.loop-settings.settings-index c.settings-item.result c.loop-settings-test.true c.settings-item.is)
          c.in_ok-push_share.ensures;
      count = omega (arith, c.loop-settings.invariant.count);
    }

pub returns : goal.returns
returns c =
    let budget = c.args.budget_mw in
    let floors = c.floors_mw-floors.result in
    all_shares _ c.loop-settings.out.items budget floors c.loop-settings.port
    (c.loop-settings.invariant.parts
    ∙ at_drop_all (λ ss. c.loop-settings.out.items ++ shares_part budget floors c.loop-settings.port ss) c.args.ports.now
    c.loop-settings.settings-index c.loop-settings-test.false)
    ∙ ap (λ n. c.args.out.now.items ++ shares_part budget n 1 c.args.ports.now) c.floors_mw-floors.ensures.sum
