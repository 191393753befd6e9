use Rattle.std.proofs.Common.{◌∙◌, ◌+◌, sym, ap, drop, take, get_or}
use Rattle.std.specs.List.{list_any}
use Rattle.std.specs.Prelude.{bytes_eq}
use Rattle.pd_scenario.specs.Scenarios.{names_differ}
use Rattle.pd_scenario_text.specs.Names.{texts}
use Rattle.pd_scenario_text.proofs.Found.{name_differs, name_found, names_part, texts_next, texts_whole, no_text}
use Rattle.pd_scenario_text.proofs.distinct.set_of.Goals as goal

pub returns-then-not-is_new-clause-differ : goal.returns-then-not-is_new-clause-differ
returns-then-not-is_new-clause-differ c =
    let inv = c.loop-name.invariant in
    let i = c.loop-name.name-index in
    let k = get_or c.args.names.now i no_text in
    let more = texts_next c.args.names.now i no_text c.loop-name-test.true in
    let new = name_differs (texts (take i c.args.names.now)) c.loop-name.seen.keys k c.in_ok-is_new.is_new inv.0 inv.1
    c.in_ok-is_new.ensures.added ∙ c.if-not-is_new.true in
    let part = names_part (texts (take (i + 1) c.args.names.now)) (texts (drop (i + 1) c.args.names.now)) (ap names_differ more ∙ new) in
    sym (rw texts_whole at part)

pub loop-name-preserved : goal.loop-name-preserved
loop-name-preserved c =
    let inv = c.loop-name.invariant in
    let i = c.loop-name.name-index in
    let k = get_or c.args.names.now i no_text in
    let more = texts_next c.args.names.now i no_text c.loop-name-test.true in
    let new = name_differs (texts (take i c.args.names.now)) c.loop-name.seen.keys k c.in_ok-is_new.is_new inv.0 inv.1
    c.in_ok-is_new.ensures.added ∙ c.if-not-is_new.false in
    let found = name_found (texts (take i c.args.names.now)) c.loop-name.seen.keys c.insert.new.self.keys k inv.1
    c.in_ok-is_new.ensures.keys in
    (ap names_differ more ∙ new, λ name. found name ∙ sym (ap (list_any (λ other. bytes_eq other name)) more))
