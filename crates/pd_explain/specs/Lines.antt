-- The lines that tell why a line of an edit script is refused: this product's own form, docs/FORMATS.md, "Reasons".
use Rattle.std.specs.Prelude.{ℕ, List, []}
use Rattle.pd_text.specs.Fronts.{FrontData, line_with, said}
use Rattle.pd_scenario.specs.Scenarios.{ScenarioData}
use Rattle.pd_explain.specs.declared.place.Place.{Place}
use Rattle.pd_explain.specs.Sentences.{hint, sentence, word_at}
use Rattle.pd_explain.specs.Stops.{syntax_hint, syntax_text}

-- behind what is told first, what is said of a place at which a rule is broken
unfoldable pub place_line : FrontData → ℕ → ScenarioData → Place → List ℕ
place_line front n c place = line_with front (said (word_at place) (sentence n c place) (hint c place))

-- the same of a line that is none of an edit script
unfoldable pub syntax_line : FrontData → List ℕ → List ℕ
syntax_line front line = line_with front (said [] (syntax_text line) (syntax_hint line))
