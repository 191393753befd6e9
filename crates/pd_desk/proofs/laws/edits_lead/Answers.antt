use Rattle.pd_desk.proofs.Leads.{edits_lead}
use Rattle.pd_desk.proofs.laws.edits_lead.Goals as goal

pub returns : goal.returns
returns c = edits_lead
