-- The least budget, and floors.
use Rattle.std.proofs.Common.{◌≡◌, ℕ, ◌≤◌, Bool, List, [], ◌∷◌, ◌++◌, fold, filter, map, refl, ap, ◌∙◌, inl, inr, arith}
use Rattle.std.proofs.lemmas.Bool.{cases_Bool}
use Rattle.std.proofs.lemmas.Bool.Decides.{nat_tests}
use Rattle.std.specs.Prelude.{min}
use Rattle.std.specs.List.{filter_map}
use Rattle.std.proofs.lemmas.List.Elements.{filter_map-append}
use Rattle.std.proofs.lemmas.List.Sums.{fold-append}
use Rattle.pd_scenario.specs.declared.event.ScenarioEvent.{ScenarioEvent}
use Rattle.pd_scenario.specs.declared.event.ScenarioHappening.{ScenarioHappening}
use Rattle.pd_scenario.specs.declared.event.ScenarioHappening.TheVariants.{OnPort, Budget}
use Rattle.pd_scenario.specs.Scenarios.{budget_of, least_budget}

-- the less of a budget and the one that an event changes it to
abbrev pub least_with : ℕ → ScenarioHappening → ℕ
least_with mw (OnPort port kind) = mw
least_with mw (Budget other) = min mw other

last : (b id at : ℕ) (h : ScenarioHappening) → least_budget b (record { id = id; at = at; happening = h } ∷ []) ≡ least_with b h
last b id at (OnPort port kind) = refl
last b id at (Budget mw) = refl

pub least_append : (b : ℕ) (es : List ScenarioEvent) (e : ScenarioEvent)
    → least_budget b (es ++ e ∷ []) ≡ least_with (least_budget b es) e.happening
least_append b es e =
    ap (fold min b) (filter_map-append budget_of es (e ∷ [])) ∙ fold-append min b (filter_map budget_of es) (filter_map budget_of (e ∷ []))
    ∙ last (least_budget b es) e.id e.at e.happening

step : (b id at : ℕ) (h : ScenarioHappening) (es : List ScenarioEvent)
    → least_budget b (record { id = id; at = at; happening = h } ∷ es) ≡ least_budget (least_with b h) es
step b id at (OnPort port kind) es = refl
step b id at (Budget mw) es = refl

fold_mono : (a b : ℕ) (ns : List ℕ) → a ≤ b → fold min a ns ≤ fold min b ns
fold_mono a b [] h = h
fold_mono a b (n ∷ ns) h = fold_mono (min a n) (min b n) ns (grind (arith, nat_tests))

less_with : (b : ℕ) (h : ScenarioHappening) → least_with b h ≤ b
less_with b (OnPort port kind) = omega arith
less_with b (Budget mw) = grind (arith, nat_tests)

-- fewer events leave no less
pub least_filter : (b : ℕ) (q : ScenarioEvent → Bool) (es : List ScenarioEvent) → least_budget b es ≤ least_budget b (filter q es)
least_filter b q [] = omega arith
least_filter b q (e ∷ es) =
    let here = step b e.id e.at e.happening es in
    elim (cases_Bool (q e)) [
      | inl kept ↦ let more = least_filter (least_with b e.happening) q es in rw (here, kept, step b e.id e.at e.happening (filter q es))
          more
      | inr gone ↦
          let less = fold_mono (least_with b e.happening) b (filter_map budget_of es) (less_with b e.happening) in
          let more = least_filter b q es in
          rw (here, gone) (omega (arith, less, more))
    ]

alike : (f : ScenarioEvent → ScenarioEvent) → ((e : ScenarioEvent) → budget_of (f e) ≡ budget_of e) → (es : List ScenarioEvent)
    → filter_map budget_of (map f es) ≡ filter_map budget_of es
alike f same [] = refl
alike f same (e ∷ es) = rw (same e, alike f same es)

-- events that change the budget alike leave the same
pub least_map : (b : ℕ) (f : ScenarioEvent → ScenarioEvent) → ((e : ScenarioEvent) → budget_of (f e) ≡ budget_of e)
    → (es : List ScenarioEvent) → least_budget b (map f es) ≡ least_budget b es
least_map b f same es = ap (fold min b) (alike f same es)
