use Rattle.pd_source.proofs.SoundSteps.{sound-off, sound-stepped}
use Rattle.pd_source.proofs.laws.sound.Goals as goal

pub returns-clause-start : goal.returns-clause-start
returns-clause-start c = sound-off

pub returns-clause-stepped : goal.returns-clause-stepped
returns-clause-stepped c = sound-stepped
