use Rattle.pd_tell.proofs.json.faults.push_fault_members.Goals as goal

pub returns-in-Ignored : goal.returns-in-Ignored
returns-in-Ignored c = rw c.in-Ignored.is c.push_of_event.ensures
