-- A Hard Reset's end notes few faults.
use Rattle.std.proofs.Common.{◌+◌, ◌≤◌, arith}
use Rattle.pd_header.specs.declared.side.Side.{Side}
use Rattle.pd_header.specs.declared.side.Side.TheVariants.{Source, Sink, Plug}
use Rattle.pd_line.specs.Noise.{most, most_besides}

pub three_at_most : (sender : Side) → most sender + most_besides sender Source + most_besides sender Sink + most_besides sender Plug ≤ 3
three_at_most Source = omega arith
three_at_most Sink = omega arith
three_at_most Plug = omega arith
