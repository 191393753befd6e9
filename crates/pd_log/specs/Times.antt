-- The time that a line of a log tells.
use Rattle.std.specs.Prelude.{ℕ, List, Option, Some, None, option_map}
use Rattle.pd_log.specs.Begun.{BegunData, row_time_of}
use Rattle.pd_log.specs.Codes.{or_else}
use Rattle.pd_log.specs.Parts.{parts}
use Rattle.pd_log.specs.Sniffed.{sample_time}
use Rattle.pd_log.specs.Stamps.{stamp, transcript_time}

-- the time at the front of a line, or a transcript's, or the samples of a decoder's annotation
abbrev pub own_time : List ℕ → Option (List ℕ)
own_time line = or_else (option_map (λ x. x.0) (stamp line)) (or_else (transcript_time (parts line)) (sample_time (parts line)))

-- the same, or the time of a row, where a line is one of the table that has begun
abbrev pub log_time : Option BegunData → List ℕ → Option (List ℕ)
log_time begun line = by_row (row_time_of begun line)
  where
    by_row : Option (Option (List ℕ)) → Option (List ℕ)
    by_row (Some time) = time
    by_row None = own_time line
