use Rattle.std.proofs.Common.{◌≡◌, ◌≤◌, ◌+◌, ◌*◌, ◌++◌, drop}
use Rattle.std.specs.List.{flat_map}
use Rattle.pd_chart.specs.Elements.{group_text}
use Rattle.pd_plot.specs.Pictures.{groups_from, shape_data}
use Rattle.pd_plot.proofs.picture.push_groups.Given as goal

abbrev pub invariant-loop-ask : goal.invariant-loop-ask
invariant-loop-ask l = record {
  text_is : l.text.items
      ++ flat_map group_text (groups_from (shape_data l.shape) l.places l.outcomes l.down l.index (drop l.ask-index l.asks))
      ≡ l.fn.text.items ++ flat_map group_text (groups_from (shape_data l.shape) l.places l.outcomes 700 0 l.asks);
  within : l.down ≤ 700 + 77200 * l.ask-index;
  index_is : l.index ≡ l.ask-index;
}
