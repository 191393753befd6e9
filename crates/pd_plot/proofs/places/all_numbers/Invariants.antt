use Rattle.std.proofs.Common.{◌≡◌, map, take}
use Rattle.pd_plot.specs.Places.{number_of}
use Rattle.pd_plot.proofs.places.all_numbers.Given as goal

abbrev pub invariant-loop-word : goal.invariant-loop-word
invariant-loop-word l = l.numbers.items ≡ map number_of (map (λ w. w.items) (take l.word-index l.words))
