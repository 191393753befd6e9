-- A part of the packets that are chosen.
use Rattle.std.specs.Prelude.{ℕ, ◌-◌, ◌*◌, ◌/◌, List, take, drop, Option, Some, None}
use Rattle.pd_sweep.specs.declared.packets.Target.{Target}
use Rattle.pd_sweep.specs.declared.part.Part.{Part}

-- so many of them at most, from one on; or all
abbrev pub part_of : Option Part → List Target → List Target
part_of None targets = targets
part_of (Some part) targets = take part.count (drop part.first targets)

-- how many packets stand before the share behind so many of all shares
abbrev pub share_start : ℕ → ℕ → ℕ → ℕ
share_start before shares packets = before * packets / shares

-- one of so many shares of so many packets, numbered from 1: from where the shares before it end up to where it does
abbrev pub share_of : ℕ → ℕ → ℕ → Part
share_of number shares packets = record {
  first = share_start (number - 1) shares packets;
  count = share_start number shares packets - share_start (number - 1) shares packets;
}
