use Rattle.pd_vary.specs.Tellings.{where_name}
use Rattle.pd_vary.proofs.NameLemmas.{named_more}
use Rattle.pd_vary.proofs.tell.push_where_names.Goals as goal

pub loop-i-preserved : goal.loop-i-preserved
loop-i-preserved c =
    named_more where_name c.loop-i.i c.args.text.now.items c.loop-i.text.items _ c.loop-i.invariant c.in_ok-push_where_name.ensures
