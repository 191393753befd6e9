use Rattle.std.proofs.Common.{rules}
use Rattle.pd_sink.proofs.Records.{same_records}
use Rattle.pd_sink.proofs.engine.Sink.same.Goals as goal

pub returns : goal.returns
returns c = (
  λ _. same_records c.args.self.now c.args.other.now (search rules) (search rules) (search rules) (search rules) (search rules)
      (search rules) (search rules) (search rules) (search rules),
  λ _. search rules,
)
