use Rattle.std.proofs.Common.{arith, refl}
use Rattle.pd_scenario_text.proofs.Read.{refused}
use Rattle.pd_desk.proofs.SameText.{same_scenario}
use Rattle.pd_desk.proofs.live.live_file.Goals as goal

pub returns-in-Err-clause-text : goal.returns-in-Err-clause-text
returns-in-Err-clause-text g c =
    (refused g.row.N c.args.text.now c.args.file _ c.requires.is c.requires.counts c.in-Err.ensures, refl, refl, refl, refl)

pub desk_session-requires : goal.desk_session-requires
desk_session-requires g c = (
  omega arith,
  same_scenario g.row.N c.args.text.now c.args.file _ _ c.requires.is c.in-Ok.ensures c.in-Ok-scenario_from_text.ensures,
)
