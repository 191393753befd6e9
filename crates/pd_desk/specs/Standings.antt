-- What the desk's own values stand for.
use Rattle.std.specs.Prelude.{◌≡◌, ℕ, List, map, Option, Result, Err}
use Rattle.pd_vary.specs.Sets.{set_data}
use Rattle.pd_desk.specs.declared.colon.Colon.{Colon}
use Rattle.pd_desk.specs.declared.desk.Desk.{Desk}
use Rattle.pd_desk.specs.declared.notes.Notes.{Notes}
use Rattle.pd_desk.specs.declared.own.NotDone.{NotDone}
use Rattle.pd_desk.specs.declared.own.NotDone.TheVariants.{Fault, Refused}
use Rattle.pd_desk.specs.declared.own.OwnFault.TheVariants.{Memory}
use Rattle.pd_desk.specs.declared.varying.Varied.{Varied}
use Rattle.pd_desk.specs.Desk.{Fails, FailsVary, RefusesLines, Standing, WithShelf}
use Rattle.pd_desk.specs.History.{NotesData, notes_data}
use Rattle.pd_desk.specs.Varying.{RefusesVaried, VariedData, varied_of}

abbrev pub notes_of : {n : ℕ} → Notes n → NotesData
notes_of notes = notes_data notes.older.items notes.earlier.items notes.later.items

abbrev pub standing_of : {n : ℕ} → Desk n → Standing
standing_of d = record {
  first = d.first;
  scenario = d.state.scenario;
  number = d.number;
  saved = d.saved;
  notes = notes_of d.notes;
  tally = d.state.tally;
}

-- why a line of the desk's own does nothing, either way
abbrev pub IsNotDone : ℕ → WithShelf → Option Colon → List ℕ → NotDone → WithShelf → Type 0
IsNotDone n d own line (Fault fault) d' = Fails n d own line fault d'
IsNotDone n d own line (Refused told) d' = RefusesLines n d own line told.items d'

-- what a line of `:vary` asks for
abbrev pub varied_data : Varied → VariedData
varied_data varied = record { sets = map set_data varied.sets.items; asks = varied.asks.items }

-- what is told of a part of it that is wrong, or that there is no memory
abbrev pub IsTold : {X : Type 0} → NotDone → Result X (List ℕ) → Type 0
IsTold (Fault fault) part = fault ≡ Memory
IsTold (Refused told) part = part ≡ Err told.items

-- why it tells no rows
abbrev pub IsNotVaried : ℕ → List ℕ → NotDone → Type 0
IsNotVaried n line (Fault fault) = FailsVary n line fault
IsNotVaried n line (Refused told) = RefusesVaried (varied_of line) told.items
