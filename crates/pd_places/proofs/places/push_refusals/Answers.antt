use Rattle.std.proofs.Common.{◌∙◌, sym}
use Rattle.std.specs.List.{flat_map}
use Rattle.std.proofs.lemmas.List.{at_drop_all, at_drop_more}
use Rattle.toml.specs.View.{table_view}
use Rattle.pd_scenario_text.specs.FileTables.{tables_of}
use Rattle.pd_places.specs.FirstLines.{added}
use Rattle.pd_places.specs.Places.{refusal_text}
use Rattle.pd_places.proofs.FirstLines.{full_bytes, more_parts, no_bytes}
use Rattle.pd_places.proofs.places.push_refusals.Goals as goal

pub loop-fault-preserved : goal.loop-fault-preserved
loop-fault-preserved c =
    more_parts (λ refusal. refusal_text c.args.file.now refusal (tables_of (table_view c.args.top.now))) _ c.loop-fault.told _ _ _
    (c.loop-fault.invariant
    ∙ at_drop_more (λ xs. added c.loop-fault.told (flat_map (λ refusal. refusal_text c.args.file.now refusal (tables_of
    (table_view c.args.top.now))) xs)) c.args.faults.now c.loop-fault.fault-index _
    c.loop-fault-test.true)
    c.in_ok-push_refusal.ensures

pub returns : goal.returns
returns c =
    no_bytes _ c.loop-fault.told
    (c.loop-fault.invariant
    ∙ at_drop_all (λ xs. added c.loop-fault.told (flat_map (λ refusal. refusal_text c.args.file.now refusal (tables_of
    (table_view c.args.top.now))) xs)) c.args.faults.now c.loop-fault.fault-index
    c.loop-fault-test.false)

pub returns-then-is_full : goal.returns-then-is_full
returns-then-is_full c = full_bytes _ c.loop-fault.told _ c.loop-fault.invariant (sym c.is_full.ensures ∙ c.if-is_full.true)
