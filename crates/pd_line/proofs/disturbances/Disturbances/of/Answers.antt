use Rattle.std.proofs.Common.{length, ap}
use Rattle.pd_symbols.specs.ShortLists.{filled}
use Rattle.pd_line.specs.declared.disturbances.Disturbance.TheVariants.{Lost}
use Rattle.pd_line.proofs.disturbances.Disturbances.of.Goals as goal

pub invariant_of-result : goal.invariant_of-result
invariant_of-result c =
    let n = length c.args.items.now in
    filled 8 Lost c.copy_from_slice.new.self n c.requires (ap length c.copy_from_slice.ensures.after)
