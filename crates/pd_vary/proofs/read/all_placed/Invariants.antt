use Rattle.std.proofs.Common.{◌≡◌, map, take}
use Rattle.pd_vary.specs.Sets.{placed}
use Rattle.pd_vary.proofs.read.all_placed.Given as goal

abbrev pub invariant-loop-word : goal.invariant-loop-word
invariant-loop-word l =
    map (λ t. t.items) l.texts.items ≡ map (placed l.unit) (map (λ w. w.items) (take l.word-index l.words))
