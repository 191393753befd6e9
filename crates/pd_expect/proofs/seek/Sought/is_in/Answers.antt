use Rattle.std.proofs.Common.{◌<◌, ◌∙◌, ℕ, Bool, false, length, sym, arith}
use Rattle.pd_port.specs.declared.entry.Entry.{Entry}
use Rattle.pd_run.specs.declared.note.Note.TheVariants as note
use Rattle.pd_run.specs.Notes.{Leaves}
use Rattle.pd_expect.specs.Sentences.{has_packet}
use Rattle.pd_sweep.proofs.FoldLemmas.{fold_start, fold_step, fold_end}
use Rattle.pd_expect.proofs.QuietLemmas.{quiet_packet}
use Rattle.pd_expect.proofs.SeekLemmas.{any_is, found_stays, looked, or_passes, quiet}
use Rattle.pd_expect.proofs.seek.Sought.is_in.Goals as goal

pub loop-index-init : goal.loop-index-init
loop-index-init g c =
    let moves = g.T.Runner.entries c.args.run.now in
    let test : ℕ × Entry → Bool = has_packet c.args.self.now.port c.args.self.now.side c.args.self.now.kind c.args.self.now.from
    c.args.self.now.to in
    let next = c.next_with-index in
    let silent = λ (found : Bool) (m : ℕ × Entry) (h : ¬ Leaves (note.Packet c.args.self.now.port) m). quiet test found m
    (quiet_packet c.args.self.now.port c.args.self.now.side c.args.self.now.kind c.args.self.now.from c.args.self.now.to m h) in
    record {
      value = fold_start (or_passes test) false moves (note.Packet c.args.self.now.port) silent next.result next.ensures;
      within = next.ensures.within;
    }

pub loop-index-preserved : goal.loop-index-preserved
loop-index-preserved g c =
    let moves = g.T.Runner.entries c.args.run.now in
    let test : ℕ × Entry → Bool = has_packet c.args.self.now.port c.args.self.now.side c.args.self.now.kind c.args.self.now.from
    c.args.self.now.to in
    let next = c.next_with-index-in-loop-index in
    let here : c.loop-index.index < length moves = omega (arith, c.len.ensures.count, c.loop-index-test.true) in
    let silent = λ (found : Bool) (m : ℕ × Entry) (h : ¬ Leaves (note.Packet c.args.self.now.port) m). quiet test found m
    (quiet_packet c.args.self.now.port c.args.self.now.side c.args.self.now.kind c.args.self.now.from c.args.self.now.to m h) in
    record {
      value =
          fold_step (or_passes test) false moves (note.Packet c.args.self.now.port) silent c.loop-index.index next.result
          c.loop-index.found c.is_at-found.result here
          c.loop-index.invariant.value
          (looked test moves c.loop-index.index c.loop-index.found c.is_at-found.result c.if-not-found.true c.is_at-found.ensures)
          next.ensures;
      within = next.ensures.within;
    }

pub returns-else-not-found : goal.returns-else-not-found
returns-else-not-found g c =
    let moves = g.T.Runner.entries c.args.run.now in
    let test : ℕ × Entry → Bool = has_packet c.args.self.now.port c.args.self.now.side c.args.self.now.kind c.args.self.now.from
    c.args.self.now.to in
    c.if-not-found.false ∙ sym (found_stays test moves c.loop-index.index (sym c.loop-index.invariant.value ∙ c.if-not-found.false))

pub returns-after-loop-index : goal.returns-after-loop-index
returns-after-loop-index g c =
    let moves = g.T.Runner.entries c.args.run.now in
    let test : ℕ × Entry → Bool = has_packet c.args.self.now.port c.args.self.now.side c.args.self.now.kind c.args.self.now.from
    c.args.self.now.to in
    c.loop-index.invariant.value
    ∙ fold_end (or_passes test) false moves c.loop-index.index (omega (arith, c.len.ensures.count, c.loop-index-test.false))
    ∙ any_is test moves
