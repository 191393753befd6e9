-- The guards as the code tells them.
use Rattle.std.specs.Prelude.{Bool, true}
use Rattle.pd_plug.specs.declared.kinds.Facts.{Facts}
use Rattle.pd_plug.specs.Record.{PlugRecord}
use Rattle.pd_plug.specs.Table.{Guard, Always, WithoutPlug, Silent, holds}

-- what the code says of each guard
abbrev pub told : Facts → Guard → Bool
told f Always = true
told f WithoutPlug = f.without_plug
told f Silent = f.silent

-- what the code is to say
abbrev pub facts_of : PlugRecord → Facts
facts_of r = record {
  without_plug = holds r WithoutPlug;
  silent = holds r Silent;
}
