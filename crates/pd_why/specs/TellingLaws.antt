-- Each fact is told as JSON by an object.
use Rattle.std.specs.Prelude.{◌≡◌, ◌++◌, codes}
use Rattle.std.specs.List.{flat_map}
use Rattle.pd_why.specs.declared.fact.Fact.{Fact}
use Rattle.pd_text.specs.declared.piece.Form.TheVariants.{Json}
use Rattle.pd_text.specs.Json.{members_in, object_json}
use Rattle.pd_why.specs.Tellings.{fact_line, fact_pieces}

-- its members are those of its pieces, in their order
abbrev pub FactsAreObjects : Type 0
FactsAreObjects = (f : Fact) → fact_line Json f ≡ object_json (flat_map members_in (fact_pieces f)) ++ codes "\n"
