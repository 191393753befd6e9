use Rattle.std.proofs.Common.{◌≡◌, ◌++◌, drop, map, None}
use Rattle.pd_plot.specs.Places.{labels_from}
use Rattle.pd_plot.specs.Points.{label_data}
use Rattle.pd_plot.proofs.places.labels_of.Given as goal

abbrev pub invariant-loop-word : goal.invariant-loop-word
invariant-loop-word l = record {
  labels_are : map label_data l.labels.items
      ++ labels_from l.space l.unit l.places l.last l.row (map (λ w. w.items) (drop l.word-index l.words))
      ≡ labels_from l.space l.unit l.places None 0 (map (λ w. w.items) l.words);
  row_is : l.row ≡ l.word-index;
}
