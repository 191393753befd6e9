use Rattle.std.proofs.Common.{◌≡◌, ◌+◌, drop}
use Rattle.pd_misfits.proofs.Pairs.{left_text}
use Rattle.pd_misfits.proofs.supplies.push_misfit.Given as goal

abbrev pub invariant-loop-item : goal.invariant-loop-item
invariant-loop-item l = record {
  told : left_text l.fault 1 0 l.items ≡ left_text l.fault l.number l.before (drop l.item-index l.items);
  text : l.text.items ≡ l.initial.text.items;
  count : l.number ≡ l.item-index + 1;
}
