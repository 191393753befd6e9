use Rattle.std.proofs.Common.{◌∙◌, sym, arith}
use Rattle.std.proofs.lemmas.List.{at_drop_all}
use Rattle.pd_scenario_tables.specs.Seen.{views}
use Rattle.pd_scenario_text.specs.Names.{texts}
use Rattle.pd_places.specs.FirstLines.{added}
use Rattle.pd_places.specs.Known.{event_known_part}
use Rattle.pd_places.specs.Numbered.{numbered}
use Rattle.pd_places.proofs.FirstLines.{full_bytes}
use Rattle.pd_places.proofs.NumberedTexts.{next_left, more_added, all_added}
use Rattle.pd_places.proofs.known.push_events_known.Goals as goal

pub loop-table-preserved : goal.loop-table-preserved
loop-table-preserved c =
    let part = event_known_part c.args.spot.now c.args.version (texts c.args.names.0.now) (texts c.args.names.1.now) in
    record {
      text =
          more_added _ c.loop-table.told _ part c.loop-table.number _ _
          (c.loop-table.invariant.text
          ∙ next_left (λ xs. added c.loop-table.told (numbered part c.loop-table.number (views xs)))
          c.args.tables.now c.loop-table.table-index
          c.table-item.result c.loop-table-test.true c.table-item.is)
          c.in_ok-push_event_known.ensures;
      count = omega (arith, c.loop-table.invariant.count);
    }

pub returns : goal.returns
returns c =
    let part = event_known_part c.args.spot.now c.args.version (texts c.args.names.0.now) (texts c.args.names.1.now) in
    all_added _ c.loop-table.told part c.loop-table.number
    (c.loop-table.invariant.text
    ∙ at_drop_all (λ xs. added c.loop-table.told (numbered part c.loop-table.number (views xs)))
    c.args.tables.now c.loop-table.table-index
    c.loop-table-test.false)

pub returns-then-is_full : goal.returns-then-is_full
returns-then-is_full c =
    full_bytes _ c.loop-table.told _ c.loop-table.invariant.text (sym c.is_full.ensures ∙ c.if-is_full.true)
