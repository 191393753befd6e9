-- How long what is sent lasts: this product's own rule, in microseconds.
use Rattle.std.specs.Prelude.{ℕ, ◌+◌, ◌*◌, length}
use Rattle.std.specs.Int.{div_ceil}
use Rattle.pd_packet.specs.Contents.{Contents}

-- n symbols at 300 kilobit a second: 64 bits before them and five for each, rounded up
unfoldable pub duration_of : ℕ → ℕ
duration_of n = div_ceil ((64 + 5 * n) * 10) 3

-- the symbols of a packet: its ordered set, four nibbles for the header, eight for each object and for the check, EOP
abbrev pub symbols_of : Contents → ℕ
symbols_of p = 17 + 8 * length p.objects

-- a Hard Reset, as four symbols
abbrev pub hard_reset_duration : ℕ
hard_reset_duration = 280
