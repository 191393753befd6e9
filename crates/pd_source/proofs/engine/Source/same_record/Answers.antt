use Rattle.std.proofs.Common.{rules}
use Rattle.pd_source.proofs.Records.{same_records}
use Rattle.pd_source.proofs.engine.Source.same_record.Goals as goal

pub returns : goal.returns
returns c = (
  λ _. same_records c.args.self.now.record c.args.other.now.record (search rules) (search rules) (search rules) (search rules)
      (search rules) (search rules) (search rules) (search rules) (search rules) (search rules) (search rules) (search rules)
      (search rules),
  λ _. search rules,
)
