use Rattle.std.proofs.Common.{map}
use Rattle.pd_decode.proofs.ArgumentLemmas.{IsSoFar}
use Rattle.pd_decode.proofs.argument.read_codes.Given as goal

abbrev pub invariant-loop-part : goal.invariant-loop-part
invariant-loop-part l = IsSoFar (map (λ part. part.now) l.yielded) l.codes.items
