-- What a port's step leaves.
use Rattle.std.specs.Prelude.{Option}
use Rattle.pd_objects.specs.declared.query.Answer.{Answer}
use Rattle.pd_port.specs.declared.due.Due.{Due}
use Rattle.pd_port.specs.declared.entry.Entry.{Entry}
use Rattle.pd_port.specs.Port.{PortData, record_after, entry_of}

-- the port after it, the answer to what the port had asked, and what is there to be read
pub record StepData : Type 0 where
  pub after : PortData
  pub answer : Option Answer
  pub entry : Entry

-- what the step of a port for a due leaves, with an answer
abbrev pub step_of : PortData → Due → Option Answer → StepData
step_of x d a = record {
  after = record x { port_record = record_after x.settings x.port_record d a };
  answer = a;
  entry = entry_of x.settings x.port_record d a;
}
