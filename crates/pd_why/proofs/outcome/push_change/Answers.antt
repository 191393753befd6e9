use Rattle.std.proofs.lemmas.Result.{on_ok_weaker}
use Rattle.pd_why.proofs.outcome.push_change.Goals as goal

pub returns-in-Made : goal.returns-in-Made
returns-in-Made c = on_ok_weaker c.push_pieces.result (λ h. rw c.in-Made.is h) c.push_pieces.ensures

pub returns-in-Lost : goal.returns-in-Lost
returns-in-Lost c = on_ok_weaker c.push_pieces-in-Lost.result (λ h. rw c.in-Lost.is h) c.push_pieces-in-Lost.ensures
