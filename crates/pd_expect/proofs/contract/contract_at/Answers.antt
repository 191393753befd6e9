use Rattle.std.proofs.Common.{◌≤◌, length, None, ◌∙◌, arith}
use Rattle.pd_run.specs.declared.note.Note.TheVariants as note
use Rattle.pd_expect.specs.Along.{stands_after}
use Rattle.pd_sweep.proofs.FoldLemmas.{fold_end, fold_start, fold_step}
use Rattle.pd_expect.proofs.ContractLemmas.{contract_walked}
use Rattle.pd_expect.proofs.QuietLemmas.{quiet_contract}
use Rattle.pd_expect.proofs.contract.contract_at.Goals as goal

pub loop-index-init : goal.loop-index-init
loop-index-init g c =
    let moves = g.T.Runner.entries c.args.run.now in
    let next = c.next_with-index in
    record {
      value =
          fold_start (stands_after c.args.port c.args.at) None moves note.Contract (quiet_contract c.args.port c.args.at) next.result
          next.ensures;
      within = next.ensures.within;
    }

pub loop-index-preserved : goal.loop-index-preserved
loop-index-preserved g c =
    let moves = g.T.Runner.entries c.args.run.now in
    let next = c.next_with-index-in-loop-index in
    record {
      value =
          fold_step (stands_after c.args.port c.args.at) None moves note.Contract (quiet_contract c.args.port c.args.at)
          c.loop-index.index next.result c.loop-index.stands c.stands_after_index-stands.result
          (omega (arith, c.len.ensures.count, c.loop-index-test.true)) c.loop-index.invariant.value c.stands_after_index-stands.ensures
          next.ensures;
      within = next.ensures.within;
    }

pub returns : goal.returns
returns g c =
    let moves = g.T.Runner.entries c.args.run.now in
    let past : length moves ≤ c.loop-index.index = omega (arith, c.len.ensures.count, c.loop-index-test.false) in
    c.loop-index.invariant.value ∙ fold_end (stands_after c.args.port c.args.at) None moves c.loop-index.index past
    ∙ contract_walked c.args.port c.args.at moves
