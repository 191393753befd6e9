use Rattle.std.proofs.Common.{◌≡◌, length}
use Rattle.pd_expect.specs.Xml.{has_no_character}
use Rattle.pd_expect.proofs.xml.has_no_character.Given as goal

abbrev pub invariant-loop-rest : goal.invariant-loop-rest
invariant-loop-rest l = has_no_character l.words ≡ has_no_character l.rest

abbrev pub decreases-loop-rest : goal.decreases-loop-rest
decreases-loop-rest l = length l.rest
