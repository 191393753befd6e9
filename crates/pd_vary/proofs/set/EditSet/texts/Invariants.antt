use Rattle.std.proofs.Common.{◌≡◌, map}
use Rattle.std.specs.List.{range_with_len}
use Rattle.pd_vary.specs.Sets.{set_data, value_at}
use Rattle.pd_vary.proofs.set.EditSet.texts.Given as goal

abbrev pub invariant-loop-place : goal.invariant-loop-place
invariant-loop-place l =
    map (λ text. text.items) l.texts.items ≡ map (value_at (set_data l.self).values) (range_with_len 0 l.place)
