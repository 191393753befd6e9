use Rattle.std.proofs.Common.{◌++◌, ◌∙◌, arith}
use Rattle.std.proofs.lemmas.List.{at_drop_all}
use Rattle.pd_scenario_tables.specs.Seen.{views}
use Rattle.pd_places.specs.Funds.{event_low_part}
use Rattle.pd_places.specs.Numbered.{numbered}
use Rattle.pd_places.proofs.NumberedTexts.{next_left, more_numbered, all_numbered}
use Rattle.pd_places.proofs.funds.push_events_low.Goals as goal

pub loop-table-preserved : goal.loop-table-preserved
loop-table-preserved c =
    let part = event_low_part c.args.spot.now c.args.version c.args.floors in
    record {
      text =
          more_numbered _ c.loop-table.text.items _ part c.loop-table.number _ _
          (c.loop-table.invariant.text
          ∙ next_left (λ xs. c.loop-table.text.items ++ numbered part c.loop-table.number (views xs))
          c.args.tables.now c.loop-table.table-index
          c.table-item.result c.loop-table-test.true c.table-item.is)
          c.in_ok-push_event_low.ensures;
      count = omega (arith, c.loop-table.invariant.count);
    }

pub returns : goal.returns
returns c =
    let part = event_low_part c.args.spot.now c.args.version c.args.floors in
    all_numbered _ c.loop-table.text.items part c.loop-table.number
    (c.loop-table.invariant.text
    ∙ at_drop_all (λ xs. c.loop-table.text.items ++ numbered part c.loop-table.number (views xs))
    c.args.tables.now c.loop-table.table-index
    c.loop-table-test.false)
