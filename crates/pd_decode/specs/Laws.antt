-- A text gives codes in one way, and comes to one thing.
use Rattle.std.specs.Prelude.{◌≡◌, ℕ, List}
use Rattle.pd_decode.specs.declared.decoded.Decoded.{Decoded}
use Rattle.pd_decode.specs.Argument.{Gives}
use Rattle.pd_decode.specs.Decoding.{Decodes}

abbrev pub OneGiving : Type 0
OneGiving = (text given others : List ℕ) → Gives text given → Gives text others → given ≡ others

abbrev pub OneDecoding : Type 0
OneDecoding = (text : List ℕ) (decoded other : Decoded) → Decodes text decoded → Decodes text other → decoded ≡ other
