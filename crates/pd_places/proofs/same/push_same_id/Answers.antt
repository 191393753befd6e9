use Rattle.std.proofs.lemmas.Bool.{OnTrue_at}
use Rattle.pd_places.proofs.Seen.{new_id}
use Rattle.pd_places.proofs.same.push_same_id.Goals as goal

pub returns-then-is_new : goal.returns-then-is_new
returns-then-is_new c =
    new_id c.args.told.now c.args.spot.now c.args.ids.now c.args.number c.args.id c.requires.from_one
    (OnTrue_at c.if-is_new.true c.requires.first)
