use Rattle.std.proofs.Common.{◌<◌, ◌∷◌, ◌∙◌, List, [], ap, sym, get_or, length, map, take}
use Rattle.std.proofs.lemmas.List.{map-append, take_more}
use Rattle.pd_line.specs.declared.notes.Fault.{Fault}
use Rattle.pd_line.specs.declared.notes.Fault.TheVariants.{Ignored}
use Rattle.pd_show.specs.Lines.{fault_line}
use Rattle.pd_show.specs.Pages.{PageData, written}
use Rattle.pd_show.proofs.PageLemmas.{written_none, written-append}
use Rattle.pd_show.proofs.lines.push_fault_lines.Goals as goal

pub loop-fault-init : goal.loop-fault-init
loop-fault-init c = sym (written_none c.args.form c.args.page.now)

pub loop-fault-preserved : goal.loop-fault-preserved
loop-fault-preserved c =
    let form = c.args.form in
    let faults : List Fault = c.args.faults.now in
    let i = c.loop-fault.fault-index in
    let here : i < length faults = c.loop-fault-test.true in
    let fault : Fault = get_or faults i (Ignored 0) in
    c.in_ok-push_fault_line.ensures
    ∙ ap (λ (p : PageData). written form p (fault_line c.args.seen.now fault ∷ [])) c.loop-fault.invariant
    ∙ sym (written-append form c.args.page.now (map (fault_line c.args.seen.now) (take i faults)) (fault_line c.args.seen.now fault ∷ []))
    ∙ ap (written form c.args.page.now)
    (sym (map-append (fault_line c.args.seen.now) (take i faults) (fault ∷ []))
    ∙ ap (map (fault_line c.args.seen.now)) (sym (take_more faults i (Ignored 0) here)))
