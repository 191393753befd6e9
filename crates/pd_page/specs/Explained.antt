-- What is told to be wrong with a scenario's file and an edit script, as JSON objects in which these have names.
use Rattle.std.specs.Prelude.{◌≡◌, ◌<◌, ℕ, Bool, true, List, [], length, Some}
use Rattle.std.specs.Str.Lines.{lines}
use Rattle.pd_explain_text.specs.Told.{Told}
use Rattle.pd_places.specs.Places.{TellsPlaces, file_of}
use Rattle.pd_scene.specs.Scene.{OfScene}
use Rattle.pd_text.specs.Fronts.{front_of_file}
use Rattle.pd_text.specs.declared.piece.Form.TheVariants.{Json}
use Rattle.pd_page.specs.Calls.{IsNoScenario}
use Rattle.pd_page.specs.declared.ending.Ending.{Ending}
use Rattle.pd_page.specs.declared.ending.Ending.TheVariants.{Done, Refused, NoSuchPort, NoMemory, TooLong}

-- places at which the file breaks rules, and there are some
pub record TellsFile (file text out : List ℕ) : Type 0 where
  pub are_places : TellsPlaces (file_of Json file) text out
  pub some : 0 < length out

-- why lines of the script are refused, each against the scenario as edited by then; and behind these what the scenario is warned of, as
-- the script leaves it
abbrev pub TellsScript : List ℕ → List ℕ → List ℕ → List ℕ → List ℕ → Type 0
TellsScript file edits script text out =
    OfScene text
    (λ n s. (any : Bool) × Told true (front_of_file Json file) (front_of_file Json edits) n s (lines script) any (Some []) (Some out))

-- a file that is refused
abbrev pub IsRefusedAt : List ℕ → List ℕ → Ending → List ℕ → Type 0
IsRefusedAt file text Refused out = IsNoScenario text × TellsFile file text out
IsRefusedAt file text NoMemory out = out ≡ []
IsRefusedAt file text _ out = ⊥

-- First come the places of the file: only where it is a scenario is anything told of the script.
abbrev pub Explains : List ℕ → List ℕ → List ℕ → List ℕ → Ending → List ℕ → Type 0
Explains file edits script text Done out = TellsScript file edits script text out
Explains file edits script text Refused out = IsRefusedAt file text Refused out
Explains file edits script text NoSuchPort out = ⊥
Explains file edits script text NoMemory out = out ≡ []
Explains file edits script text TooLong out = ⊥
