use Rattle.std.proofs.Common.{◌≡◌, ◌++◌, take}
use Rattle.std.specs.List.{flat_map}
use Rattle.pd_vary.specs.Tellings.{ask_name}
use Rattle.pd_vary.proofs.tell.push_ask_names.Given as goal

abbrev pub invariant-loop-ask : goal.invariant-loop-ask
invariant-loop-ask l = l.text.items ≡ l.initial.text.items ++ flat_map ask_name (take l.ask-index l.asks)
