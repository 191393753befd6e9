use Rattle.std.proofs.Common.{◌≡◌, ◌∙◌, ap, subst, ℕ, List, [], Result, Ok, Err}
use Rattle.std.specs.Prelude.{IfOk}
use Rattle.pd_text.specs.Fronts.{FrontData}
use Rattle.toml.specs.View.{table_view}
use Rattle.pd_places.specs.FirstLines.{added, most_places}
use Rattle.pd_places.specs.Places.{IsShort, places_text}
use Rattle.pd_places.proofs.FirstLines.{short_of_kept}
use Rattle.pd_places.proofs.text.explain_table.Goals as goal

-- what follows of a value
if_ok-map : {T E : Type 0} (r : Result T E) (P Q : T → Type 0) → ((v : T) → P v → Q v) → IfOk r P → IfOk r Q
if_ok-map (Ok v) P Q follows holds = follows v holds
if_ok-map (Err e) P Q follows holds = holds

short : (whole : List ℕ) (file : FrontData) (kept said : List ℕ) → kept ≡ added [] whole → IsShort most_places file kept said
    → IsShort most_places file whole said
short whole file kept said is told = short_of_kept whole file said (subst (λ t. IsShort most_places file t said) is told)

pub returns : goal.returns
returns c =
    if_ok-map c.first_lines.result (λ v. IsShort most_places c.front.result.now c.as_slice.result.now v.items)
    (λ v. IsShort most_places c.args.file.now.front (places_text c.args.file.now (table_view c.args.top.now)) v.items)
    (λ v told. short (places_text c.args.file.now (table_view c.args.top.now)) c.args.file.now.front c.as_slice.result.now v.items
    (c.as_slice.ensures ∙ c.in_ok-push_places.ensures ∙ ap (λ t. added t (places_text c.args.file.now
    (table_view c.args.top.now))) c.new-told.ensures)
    (subst (λ (front : FrontData). IsShort most_places front c.as_slice.result.now v.items) c.front.ensures told))
    c.first_lines.ensures
