-- Which line of an edit script what is warned of was made by.
use Rattle.std.specs.Prelude.{ℕ, Bool, false, ◌||◌, ◌==◌, List, find, reverse, Option, None, Some, option_map, bytes_eq}
use Rattle.pd_edit_lines.specs.declared.edit.Edit.{Edit}
use Rattle.pd_edit_lines.specs.declared.edit.Edit.TheVariants.{Insert, Move, Change, Cable, Sink}
use Rattle.pd_scene.specs.declared.made.MadeEdit.{MadeEdit}
use Rattle.pd_warn.specs.declared.warning.Warning.{Warning}
use Rattle.pd_warn.specs.declared.warning.Warning.TheVariants.{AfterEnd, UnusedCable, UnusedSink, SmallShare, Uncounted, Ignored}
use Rattle.pd_warn.specs.declared.warning.Warning.TheVariants.{Unmet}

-- an edit puts in, moves or changes the event of this id
abbrev pub sets_event : ℕ → Edit → Bool
sets_event id (Insert other at happening) = other == id
sets_event id (Move other at) = other == id
sets_event id (Change other kind) = other == id
sets_event id _ = false

-- an edit makes or sets the cable of this name, or the sink
abbrev pub sets_cable : List ℕ → Edit → Bool
sets_cable name (Cable other plug rating) = bytes_eq other name
sets_cable name _ = false

abbrev pub sets_sink : List ℕ → Edit → Bool
sets_sink name (Sink other max_mv demand_mw mode revision) = bytes_eq other name
sets_sink name _ = false

-- an edit makes or changes what is warned of; what the ports have of the budget comes of no single line
abbrev pub sets : Warning → Edit → Bool
sets (AfterEnd id at end) edit = sets_event id edit
sets (UnusedCable name) edit = sets_cable name edit
sets (UnusedSink name) edit = sets_sink name edit
sets (SmallShare port share) edit = false
sets (Uncounted id at port name demand floor) edit = sets_event id edit || sets_sink name edit
sets (Ignored id at port why) edit = sets_event id edit
sets (Unmet id at port until) edit = sets_event id edit

-- the line of the last of the edits that does
unfoldable pub last_line : Warning → List MadeEdit → Option ℕ
last_line w edits = option_map (λ (m : MadeEdit). m.line) (find (λ (m : MadeEdit). sets w m.edit) (reverse edits))
