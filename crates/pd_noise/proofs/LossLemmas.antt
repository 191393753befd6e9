-- Drawing for one packet after another.
use Rattle.std.proofs.Common.{ℕ, ◌+◌, ◌-◌, ◌*◌}
use Rattle.pd_noise.specs.declared.place.Place.{Place}

-- how much of a run is left behind a place: it falls with each packet that is lost
abbrev pub left_behind : Place → ℕ
left_behind place = (120000000 - place.at) * 9 + (9 - place.port)
