use Rattle.std.proofs.Common.{◌≡◌, None}
use Rattle.pd_words.specs.Names.{named_below}
use Rattle.pd_words.proofs.names.named.Given as goal

abbrev pub invariant-loop-number : goal.invariant-loop-number
invariant-loop-number l = named_below l.number l.name ≡ None
