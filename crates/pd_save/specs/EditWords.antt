-- The words of an edit line behind its first: docs/FORMATS.md, "Edit script".
use Rattle.std.specs.Prelude.{ℕ, List, [], ◌∷◌, ◌++◌, codes, decimal}
use Rattle.pd_objects.specs.Supply.{SupplyData}
use Rattle.pd_setup.specs.declared.event.EventKind.TheVariants.{Attach, Demand, Damage}
use Rattle.pd_setup.specs.declared.sink.SinkRevision.{SinkRevision}
use Rattle.pd_setup.specs.declared.sink.SinkRevision.TheVariants.{Revision2, Revision3}
use Rattle.pd_scenario.specs.Events.{ScenarioEventKind}
use Rattle.pd_scenario.specs.declared.event.ScenarioHappening.{ScenarioHappening}
use Rattle.pd_scenario.specs.declared.event.ScenarioHappening.TheVariants.{OnPort, Budget}
use Rattle.pd_save.specs.Words.{kind_word}

-- a word, and a number, behind a space
abbrev pub next_word : List ℕ → List ℕ
next_word word = 32 ∷ word

abbrev pub next_number : ℕ → List ℕ
next_number number = 32 ∷ decimal number

-- MV MA
unfoldable pub supply_words : SupplyData → List ℕ
supply_words s = next_number s.mv ++ next_number s.ma

-- a sink without a last word is of revision 3.0
abbrev pub revision_words : SinkRevision → List ℕ
revision_words Revision2 = codes " rev2"
revision_words Revision3 = []

-- what a kind carries
abbrev pub carried_words : ScenarioEventKind → List ℕ
carried_words (Attach cable sink) = next_word cable ++ next_word sink
carried_words (Demand mw) = next_number mw
carried_words (Damage harm) = next_number harm.place ++ next_number harm.mask
carried_words _ = []

-- PORT KIND, or budget MW
abbrev pub happening_words : ScenarioHappening → List ℕ
happening_words (OnPort port kind) = next_number port ++ (next_word (kind_word kind) ++ carried_words kind)
happening_words (Budget mw) = codes " budget" ++ next_number mw
