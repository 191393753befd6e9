use Rattle.std.proofs.lemmas.Bool.{OnTrue_at}
use Rattle.pd_scenario_text.specs.Names.{texts}
use Rattle.pd_places.proofs.Seen.{new_name}
use Rattle.pd_places.proofs.same.push_same_name.Goals as goal

pub returns-then-is_new : goal.returns-then-is_new
returns-then-is_new c =
    new_name c.args.told.now c.args.spot.now c.args.word.now (texts c.args.names.now) c.args.number c.args.name.now
    c.requires.from_one (OnTrue_at c.if-is_new.true c.requires.first)
