-- The guards as the code tells them.
use Rattle.std.specs.Prelude.{Bool, true}
use Rattle.pd_sink.specs.declared.kinds.Facts.{Facts}
use Rattle.pd_sink.specs.Record.{SinkRecord}
use Rattle.pd_sink.specs.Table.{Guard, Always, Plain, NoContract, WasSent, HardResetsLeft, holds}

-- what the code says of each guard
abbrev pub told : Facts → Guard → Bool
told f Always = true
told f Plain = f.plain
told f NoContract = f.no_contract
told f WasSent = f.was_sent
told f HardResetsLeft = f.hard_resets_left

-- what the code is to say
abbrev pub facts_of : SinkRecord → Facts
facts_of r = record {
  plain = holds r Plain;
  no_contract = holds r NoContract;
  was_sent = holds r WasSent;
  hard_resets_left = holds r HardResetsLeft;
}
