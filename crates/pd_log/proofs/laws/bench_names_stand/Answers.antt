use Rattle.std.proofs.Common.{refl}
use Rattle.std.specs.List.{AllByRecursion}
use Rattle.pd_header.specs.Kinds.{control_messages, data_messages}
use Rattle.pd_log.specs.declared.names.Family.TheVariants.{Control, Data}
use Rattle.pd_log.specs.Names.{SameName}
use Rattle.pd_log.proofs.laws.bench_names_stand.Goals as goal

control_stand : AllByRecursion (SameName Control) control_messages
control_stand = (refl, (refl, (refl, (refl, (refl, (refl, (refl, (refl, (refl, tt)))))))))

data_stand : AllByRecursion (SameName Data) data_messages
data_stand = (refl, (refl, (refl, (refl, tt))))

pub returns : goal.returns
returns c = record { without_objects = control_stand; with_objects = data_stand }
