use Rattle.std.proofs.Common.{◌++◌, ◌∙◌, arith}
use Rattle.std.proofs.lemmas.List.{at_drop_all}
use Rattle.pd_scenario_tables.specs.Seen.{views}
use Rattle.pd_misfits.specs.Lines.{list_text}
use Rattle.pd_misfits.proofs.Listed.{next_left, more_listed, all_listed}
use Rattle.pd_misfits.proofs.file.push_list.Goals as goal

pub loop-table-preserved : goal.loop-table-preserved
loop-table-preserved c =
    let told = c.args.refused in
    record {
      text =
          more_listed _ c.loop-table.text.items _ c.args.spot.now _ c.args.word.now told.fault told.version told.ports c.args.kind
          c.loop-table.number _ _
          (c.loop-table.invariant.text
          ∙ next_left
          (λ ts. c.loop-table.text.items
          ++ list_text c.args.spot.now c.args.word.now told.fault told.version told.ports c.args.kind c.loop-table.number (views ts))
          c.args.tables.now c.loop-table.table-index c.table-item.result c.loop-table-test.true c.table-item.is)
          c.in_ok-own.ensures c.in_ok-push_table.ensures;
      count = omega (arith, c.loop-table.invariant.count);
    }

pub returns : goal.returns
returns c =
    let told = c.args.refused in
    all_listed _ c.loop-table.text.items c.args.spot.now c.args.word.now told.fault told.version told.ports c.args.kind c.loop-table.number
    (c.loop-table.invariant.text
    ∙ at_drop_all
    (λ ts. c.loop-table.text.items
    ++ list_text c.args.spot.now c.args.word.now told.fault told.version told.ports c.args.kind c.loop-table.number (views ts))
    c.args.tables.now c.loop-table.table-index c.loop-table-test.false)
