use Rattle.std.proofs.Common.{sym}
use Rattle.pd_device.proofs.text.write_text.Goals as goal

pub returns-clause-text : goal.returns-clause-text
returns-clause-text g c = rw (sym c.as_slice.ensures) c.write_all.ensures.text
