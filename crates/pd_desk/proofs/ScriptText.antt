-- The lines of edits as a script.
use Rattle.std.proofs.Common.{◌≡◌, ℕ, List, [], ◌∷◌, ◌++◌, map, refl, sym, ap, ◌∙◌}
use Rattle.std.specs.List.{flat_map}
use Rattle.std.proofs.lemmas.Grind.{flat_map-append}
use Rattle.std.proofs.lemmas.List.Concat.{flat_map-cons}
use Rattle.pd_desk.specs.History.{StepData, notes_data, script_text}

abbrev ended_line : List ℕ → List ℕ
ended_line line = line ++ 10 ∷ []

of_steps : (steps : List StepData) →
    flat_map ended_line (map (λ (step : StepData). step.line) steps) ≡ flat_map (λ (step : StepData). step.line ++ 10 ∷ []) steps
of_steps [] = refl
of_steps (step ∷ more) =
    flat_map-cons ended_line step.line (map (λ (s : StepData). s.line) more) ∙ ap (λ t. ended_line step.line ++ t) (of_steps more)
    ∙ sym (flat_map-cons (λ (s : StepData). s.line ++ 10 ∷ []) step more)

pub script_is : (older : List (List ℕ)) (earlier later : List StepData) (text more : List ℕ) → text ≡ flat_map ended_line older
    → more ≡ text ++ flat_map (λ (step : StepData). step.line ++ 10 ∷ []) earlier → more ≡ script_text (notes_data older earlier later)
unfolding script_text
script_is older earlier later text more is more_is =
    more_is ∙ ap (λ t. t ++ flat_map (λ (step : StepData). step.line ++ 10 ∷ []) earlier) is
    ∙ ap (λ t. flat_map ended_line older ++ t) (sym (of_steps earlier))
    ∙ sym (flat_map-append ended_line older (map (λ (step : StepData). step.line) earlier))
