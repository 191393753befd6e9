-- The numbers that faults are shown by: this product's own.
use Rattle.std.specs.Prelude.{ℕ}
use Rattle.pd_device.specs.declared.fault.BenchFault.{BenchFault}
use Rattle.pd_device.specs.declared.fault.BenchFault.TheVariants.{ReadFailed, WriteFailed, Memory, ReaderTooLong}

abbrev pub number_of : BenchFault → ℕ
number_of ReadFailed = 40
number_of WriteFailed = 41
number_of Memory = 42
number_of ReaderTooLong = 43
