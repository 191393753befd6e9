use Rattle.std.proofs.Common.{[], refl}
use Rattle.std.proofs.KnownBytes.{Keeps-refl}
use Rattle.pd_device.proofs.DeviceLemmas.{wrote_none}
use Rattle.pd_scenario.specs.Plans.{plan_of}
use Rattle.pd_show.specs.Show.{show_text}
use Rattle.pd_show.proofs.ShowLemmas.{runs_none}
use Rattle.pd_show.proofs.texts.ShowingJobOnOutletMeter.on.Goals as goal

pub returns-in_default : goal.returns-in_default
returns-in_default g c =
    let a = g.W.TextOut.taken c.args.to.now.writer.now in
    let plan = plan_of c.args.scenario in (
      record { writer = refl; meter = refl },
      record {
        text = record {
          moves = [];
          runs = runs_none plan;
          part = wrote_none a a (show_text plan c.args.self.now.choice.now []) (Keeps-refl a);
        };
        counts = refl;
      },
    )
