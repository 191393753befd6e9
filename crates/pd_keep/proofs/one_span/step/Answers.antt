use Rattle.std.proofs.Common.{◌≡◌, ◌-◌, ◌∙◌}
use Rattle.pd_port.specs.Port as ports
use Rattle.pd_port.specs.Port.{PortData}
use Rattle.pd_run.specs.Live.{LiveData, port_at}
use Rattle.pd_run.specs.Stepped.{step_of}
use Rattle.pd_keep.specs.Kept.{KeptData, kept_of}
use Rattle.pd_keep.proofs.one_span.step.Goals as goal

pub returns-clause-kept : goal.returns-clause-kept
unfolding ports.entry_of
returns-clause-kept g c =
    let live : LiveData = c.args.live.now in
    let port = c.args.port in
    let p = c.args.port - 1 in
    let d = c.args.due in
    let a = c.args.asked.answer in
    let x : PortData = port_at live p in
    let k : KeptData = kept_of port x d a in
    let next = c.requires.next.2.next in
    let known = next.first.known in
    let step : c.in_ok-step.step ≡ step_of x d a = c.in_ok-step.ensures.step in
    let before : c.in_ok-before.before ≡ x = c.in_ok-before.ensures in
    let same : record {
      port = port;
      before = c.in_ok-before.before;
      due = c.in_ok-step.step.entry.due;
      answer = c.in_ok-step.step.answer;
      after = c.in_ok-step.step.after;
      entry = c.in_ok-step.step.entry;
    } ≡ k = λ i. record {
      port = port;
      before = before i;
      due = (step i).entry.due;
      answer = (step i).answer;
      after = (step i).after;
      entry = (step i).entry;
    } in
    c.new.ensures ∙ same
