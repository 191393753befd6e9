use Rattle.pd_port.proofs.Busy.{portstep-busy, portstep-one, record_after-line, entry_of-start}
use Rattle.pd_port.proofs.laws.busy.Goals as goal

pub returns-clause-waits : goal.returns-clause-waits
returns-clause-waits c = portstep-busy

pub returns-clause-no_two : goal.returns-clause-no_two
returns-clause-no_two c = portstep-one

pub returns-clause-left : goal.returns-clause-left
returns-clause-left c = λ s r d given h n m. (record_after-line s r d given h n m, entry_of-start s r d given h n m)
