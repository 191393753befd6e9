-- Warnings in words: this product's own form, docs/FORMATS.md, "Warnings". Times are in microseconds.
use Rattle.std.specs.Prelude.{ℕ, ◌*◌, List, [], ◌∷◌, codes, Option, None, Some}
use Rattle.pd_text.specs.declared.piece.Form.TheVariants.{Words}
use Rattle.pd_text.specs.declared.piece.Unit.TheVariants.{Plain, Microwatts}
use Rattle.pd_text.specs.Pieces.{PieceData, line_number, line_words}
use Rattle.pd_text.specs.Texts.{text_of_all}
use Rattle.pd_warn.specs.declared.warning.Warning.{Warning}
use Rattle.pd_warn.specs.declared.warning.Warning.TheVariants.{AfterEnd, UnusedCable, UnusedSink, SmallShare, Uncounted, Ignored}
use Rattle.pd_warn.specs.declared.warning.Warning.TheVariants.{Unmet}
use Rattle.pd_warn.specs.declared.warning.Why.{Why}
use Rattle.pd_warn.specs.declared.warning.Why.TheVariants.{Attached, Detached, Full, SinkNotReady, SourceNotReady}

abbrev pub why_words : Why → List ℕ
why_words Attached = codes "a sink is attached already"
why_words Detached = codes "nothing is attached"
why_words Full = codes "eight disturbances wait already"
why_words SinkNotReady = codes "its sink isn't in PE_SNK_Ready then"
why_words SourceNotReady = codes "its source isn't in PE_SRC_Ready then"

-- up to when a disturbance waits
abbrev pub until_piece : Option ℕ → PieceData
until_piece None = line_words (codes "the end")
until_piece (Some detach) = line_number (codes "the detach at ") Plain detach

abbrev pub late_pieces : ℕ → ℕ → ℕ → List PieceData
late_pieces id at end =
    line_number (codes "event ") Plain id ∷ line_number (codes " at ") Plain at
    ∷ line_number (codes " is after the end, ") Plain end ∷ line_words (codes ": it never happens") ∷ []

abbrev pub unused_pieces : List ℕ → List ℕ → List PieceData
unused_pieces words name = line_words words ∷ line_words name ∷ line_words (codes "`") ∷ []

abbrev pub share_pieces : ℕ → ℕ → List PieceData
share_pieces port share =
    line_number (codes "port ") Plain port ∷ line_number (codes " gets at most ") Microwatts share
    ∷ line_words (codes " beside the floors of the others, and each of its supplies wants more") ∷ []

abbrev pub uncounted_pieces : ℕ → ℕ → ℕ → List ℕ → ℕ → ℕ → List PieceData
uncounted_pieces id at port name demand floor =
    line_number (codes "event ") Plain id ∷ line_number (codes " at ") Plain at ∷ line_number (codes " on port ") Plain port
    ∷ line_words (codes " attaches `") ∷ line_words name ∷ line_number (codes "` without Power Delivery: its ") Microwatts (demand * 1000)
    ∷ line_number (codes " are above the floor, ") Microwatts (floor * 1000)
    ∷ line_words (codes ", and nothing counts what it draws") ∷ []

abbrev pub ignored_pieces : ℕ → ℕ → ℕ → Why → List PieceData
ignored_pieces id at port why =
    line_number (codes "event ") Plain id ∷ line_number (codes " at ") Plain at ∷ line_number (codes " on port ") Plain port
    ∷ line_words (codes " is ignored: ") ∷ line_words (why_words why) ∷ []

abbrev pub unmet_pieces : ℕ → ℕ → ℕ → Option ℕ → List PieceData
unmet_pieces id at port until =
    line_number (codes "event ") Plain id ∷ line_number (codes " at ") Plain at ∷ line_number (codes " on port ") Plain port
    ∷ line_words (codes " disturbs no packet: too few start before ") ∷ until_piece until ∷ []

abbrev pub sentence : Warning → List ℕ
sentence (AfterEnd id at end) = text_of_all Words (late_pieces id at end)
sentence (UnusedCable name) = text_of_all Words (unused_pieces (codes "no event attaches the cable `") name)
sentence (UnusedSink name) = text_of_all Words (unused_pieces (codes "no event attaches the sink `") name)
sentence (SmallShare port share) = text_of_all Words (share_pieces port share)
sentence (Uncounted id at port name demand floor) = text_of_all Words (uncounted_pieces id at port name demand floor)
sentence (Ignored id at port why) = text_of_all Words (ignored_pieces id at port why)
sentence (Unmet id at port until) = text_of_all Words (unmet_pieces id at port until)
