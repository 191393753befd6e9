use Rattle.std.proofs.Common.{◌++◌, ◌∙◌, ap, arith}
use Rattle.std.proofs.lemmas.List.{at_drop_all}
use Rattle.toml.specs.View.{table_view}
use Rattle.pd_scenario_tables.specs.declared.schema.TableKind.TheVariants.{Event}
use Rattle.pd_scenario_tables.specs.Seen.{views}
use Rattle.pd_misfits.specs.Lines.{table_text, events_text}
use Rattle.pd_misfits.proofs.Listed.{next_left, more_events, all_events}
use Rattle.pd_misfits.proofs.file.push_events.Goals as goal

pub loop-table-preserved : goal.loop-table-preserved
loop-table-preserved c =
    let told = c.args.refused in
    record {
      text =
          more_events _ c.loop-table.text.items _ c.args.spot.now _ told.fault told.version told.ports c.loop-table.number _ _
          (c.loop-table.invariant.text
          ∙ next_left
          (λ ts. c.loop-table.text.items ++ events_text c.args.spot.now told.fault told.version told.ports c.loop-table.number (views ts))
          c.args.tables.now c.loop-table.table-index c.table-item.result c.loop-table-test.true c.table-item.is)
          c.in_ok-own.ensures
          (c.in_ok-push_table.ensures
          ∙ ap
          (λ name. c.loop-table.text.items
          ++ table_text c.in_ok-own.own told.fault told.version told.ports (Event name) (table_view c.table-item.result.now))
          c.event_at.ensures);
      count = omega (arith, c.loop-table.invariant.count);
    }

pub returns : goal.returns
returns c =
    let told = c.args.refused in
    all_events _ c.loop-table.text.items c.args.spot.now told.fault told.version told.ports c.loop-table.number
    (c.loop-table.invariant.text
    ∙ at_drop_all
    (λ ts. c.loop-table.text.items ++ events_text c.args.spot.now told.fault told.version told.ports c.loop-table.number (views ts))
    c.args.tables.now c.loop-table.table-index c.loop-table-test.false)
