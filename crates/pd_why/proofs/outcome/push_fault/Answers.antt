use Rattle.std.proofs.lemmas.Result.{on_ok_weaker}
use Rattle.pd_why.proofs.outcome.push_fault.Goals as goal

pub returns-in-SourceDisabled : goal.returns-in-SourceDisabled
returns-in-SourceDisabled c = on_ok_weaker c.push_bare.result (λ h. rw c.in-SourceDisabled.is h) c.push_bare.ensures

pub returns-in-SinkDisabled : goal.returns-in-SinkDisabled
returns-in-SinkDisabled c =
    on_ok_weaker c.push_bare-in-SinkDisabled.result (λ h. rw c.in-SinkDisabled.is h) c.push_bare-in-SinkDisabled.ensures

pub returns-in-Wait : goal.returns-in-Wait
returns-in-Wait c = on_ok_weaker c.push_bare-in-Wait.result (λ h. rw c.in-Wait.is h) c.push_bare-in-Wait.ensures

pub returns-in-CableUnread : goal.returns-in-CableUnread
returns-in-CableUnread c =
    on_ok_weaker c.push_bare-in-CableUnread.result (λ h. rw c.in-CableUnread.is h) c.push_bare-in-CableUnread.ensures
