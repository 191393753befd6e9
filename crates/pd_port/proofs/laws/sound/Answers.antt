use Rattle.pd_port.proofs.Sound.{ports_stay_sound}
use Rattle.pd_port.proofs.laws.sound.Goals as goal

pub returns : goal.returns
returns c = ports_stay_sound
