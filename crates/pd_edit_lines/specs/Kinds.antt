-- The kinds of events in an edit script.
use Rattle.std.specs.Prelude.{ℕ, List}
use Rattle.pd_setup.specs.declared.event.EventKind.{EventKind}
use Rattle.pd_edit_lines.specs.declared.edit.WrittenDamage.{WrittenDamage}

-- an attach names a cable and a sink, and the numbers are those that were written
abbrev pub EditKind : Type 0
EditKind = EventKind (List ℕ) (List ℕ) ℕ WrittenDamage
