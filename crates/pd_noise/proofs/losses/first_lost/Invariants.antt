use Rattle.std.proofs.Common.{◌≡◌, drop}
use Rattle.std.specs.List.{filter}
use Rattle.pd_noise.specs.Losses.{draws, is_drawn}
use Rattle.pd_noise.proofs.losses.first_lost.Given as goal

abbrev pub invariant-loop-target : goal.invariant-loop-target
invariant-loop-target l =
    draws l.share l.fn.generator (filter (is_drawn l.place) l.targets)
    ≡ draws l.share l.generator (filter (is_drawn l.place) (drop l.target-index l.targets))
