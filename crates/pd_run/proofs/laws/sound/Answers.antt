use Rattle.pd_run.proofs.Sound.{runs_are_sound}
use Rattle.pd_run.proofs.laws.sound.Goals as goal

pub returns : goal.returns
returns c = runs_are_sound
