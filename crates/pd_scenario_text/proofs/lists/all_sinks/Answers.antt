use Rattle.std.proofs.lemmas.List.{take_all}
use Rattle.std.proofs.lemmas.Result.{err_from_is_err_and}
use Rattle.std.proofs.lemmas.List.Elements.{All-get_or}
use Rattle.toml.specs.View.{table_view}
use Rattle.pd_scenario_tables.specs.declared.schema.TableKind.TheVariants.{Sink}
use Rattle.pd_scenario_tables.specs.Tables.{IsSound}
use Rattle.pd_scenario_tables.specs.Convert.{sink_of}
use Rattle.pd_scenario_text.proofs.Mapped.{mapped_more}
use Rattle.pd_scenario_text.proofs.lists.all_sinks.Goals as goal

pub sink_of-requires : goal.sink_of-requires
sink_of-requires c =
    rw c.table-item.is (All-get_or (λ t. IsSound Sink (table_view t.now)) c.args.tables.now c.loop-table.table-index c.table-item.result
    c.loop-table-test.true c.requires)

pub loop-table-preserved : goal.loop-table-preserved
loop-table-preserved c =
    mapped_more (λ t. table_view t.now) sink_of c.args.tables.now c.loop-table.table-index c.table-item.result c.loop-table.all.items
    c.push.new.self.items c.sink_of.result c.loop-table-test.true c.table-item.is c.sink_of.ensures c.loop-table.invariant
    c.in_ok-push.ensures.items

pub returns-in_err-push : goal.returns-in_err-push
returns-in_err-push c = let p = err_from_is_err_and c.from_residual.result c.from_residual.ensures.1 in rw p.1 tt

pub returns : goal.returns
returns c = rw (take_all c.loop-table.table-index c.args.tables.now c.loop-table-test.false) at c.loop-table.invariant
