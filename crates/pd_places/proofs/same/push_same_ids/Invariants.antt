use Rattle.std.proofs.Common.{◌≡◌, ◌+◌, drop, take}
use Rattle.pd_places.specs.FirstLines.{added}
use Rattle.pd_places.specs.Same.{same_id_part}
use Rattle.pd_places.specs.Numbered.{numbered}
use Rattle.pd_places.proofs.Seen.{HasIds}
use Rattle.pd_places.proofs.same.push_same_ids.Given as goal

abbrev pub invariant-loop-id : goal.invariant-loop-id
invariant-loop-id l = record {
  text :
      added l.initial.told (numbered (same_id_part l.spot l.ids) 1 l.ids)
      ≡ added l.told (numbered (same_id_part l.spot l.ids) l.number (drop l.id-index l.ids));
  count : l.number ≡ l.id-index + 1;
  before : HasIds (take l.id-index l.ids) l.seen.keys;
}
