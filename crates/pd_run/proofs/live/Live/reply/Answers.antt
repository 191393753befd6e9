use Rattle.pd_run.proofs.Steps.{IsNext-asked}
use Rattle.pd_run.proofs.live.Live.reply.Goals as goal

pub returns-clause-next : goal.returns-clause-next
returns-clause-next g c =
    IsNext-asked c.args.plan.now c.args.self.now c.reply_beside-answer.new.self c.args.port c.args.due.now
    c.reply_beside-answer.ensures.budget
