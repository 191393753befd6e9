-- What is told of a script, a line at a time.
use Rattle.std.proofs.Common.{◌≡◌, ℕ, ◌+◌, Bool, List, [], ◌∷◌, ◌++◌, refl, sym, ap, subst, ◌∙◌, append_assoc, Some, None}
use Rattle.std.proofs.lemmas.List.{append-nil}
use Rattle.std.specs.Str.Lines.{lines}
use Rattle.pd_scenario.specs.Scenarios.{ScenarioData}
use Rattle.pd_edit_lines.specs.Words.{next}
use Rattle.pd_scene.specs.Script.{after_line, at_line, followed, line_text}
use Rattle.pd_scene.specs.Made.{line_made, made}
use Rattle.pd_scene.specs.declared.made.MadeEdit.{MadeEdit}
use Rattle.pd_text.specs.Fronts.{FrontData}
use Rattle.pd_explain_text.specs.Told.{TellsEnd, script_told}

next_some : (ls : List (List ℕ)) (line : List ℕ) (more : List (List ℕ)) → Some (line, more) ≡ next ls → ls ≡ line ∷ more
next_some [] line more e = absurd (cc)
next_some (w ∷ ws) line more e =
    let pair : (line, more) ≡ (w, ws) = cc in sym (ap (λ (p : List ℕ × List (List ℕ)). p.0 ∷ p.1) pair)

next_none : (ls : List (List ℕ)) → None ≡ next ls → ls ≡ []
next_none [] e = refl
next_none (w ∷ ws) e = absurd (cc)

-- ---- what is told

first_told : (edits : FrontData) (n : ℕ) (c : ScenarioData) (number : ℕ) (line : List ℕ) (more : List (List ℕ))
    → script_told edits n c number (line ∷ more)
    ≡ line_text (at_line edits number) n c line ++ script_told edits n (after_line n c line) (number + 1) more
unfolding script_told
first_told edits n c number line more = refl

none_told : (edits : FrontData) (n : ℕ) (c : ScenarioData) (number : ℕ) → script_told edits n c number [] ≡ []
unfolding script_told
none_told edits n c number = refl

-- of one more line, and of those behind it
pub more_told : (edits : FrontData) (n : ℕ) (c c' : ScenarioData) (number : ℕ) (line rest said : List ℕ)
    (more : List (List ℕ)) → Some (line, more) ≡ next (lines rest) → said ≡ line_text (at_line edits number) n c line
    → c' ≡ after_line n c line
    → script_told edits n c number (lines rest) ≡ said ++ script_told edits n c' (number + 1) more
more_told edits n c c' number line rest said more is told after =
    ap (script_told edits n c number) (next_some (lines rest) line more is)
    ∙ first_told edits n c number line more
    ∙ ap (λ t. t ++ script_told edits n (after_line n c line) (number + 1) more) (sym told)
    ∙ ap (λ d. said ++ script_told edits n d (number + 1) more) (sym after)

-- no line any more
pub all_told : (edits : FrontData) (n : ℕ) (c : ScenarioData) (number : ℕ) (rest : List ℕ) → None ≡ next (lines rest)
    → script_told edits n c number (lines rest) ≡ []
all_told edits n c number rest is =
    ap (script_told edits n c number) (next_none (lines rest) is) ∙ none_told edits n c number

-- ---- the scenario that they lead to

first_followed : (n : ℕ) (c : ScenarioData) (line : List ℕ) (more : List (List ℕ))
    → followed n c (line ∷ more) ≡ followed n (after_line n c line) more
unfolding followed
first_followed n c line more = refl

none_followed : (n : ℕ) (c : ScenarioData) → followed n c [] ≡ c
unfolding followed
none_followed n c = refl

-- one more line is taken in
pub more_followed : (n : ℕ) (end c c' : ScenarioData) (line rest : List ℕ) (more : List (List ℕ))
    → end ≡ followed n c (lines rest) → Some (line, more) ≡ next (lines rest) → c' ≡ after_line n c line → end ≡ followed n c' more
more_followed n end c c' line rest more so_far is after =
    so_far ∙ ap (λ ls. followed n c ls) (next_some (lines rest) line more is) ∙ first_followed n c line more
    ∙ ap (λ d. followed n d more) (sym after)

-- no line any more
pub all_followed : (n : ℕ) (end c : ScenarioData) (rest : List ℕ) → end ≡ followed n c (lines rest) → None ≡ next (lines rest) → c ≡ end
all_followed n end c rest so_far is =
    sym (so_far ∙ ap (λ ls. followed n c ls) (next_none (lines rest) is) ∙ none_followed n c)

-- ---- the edits that they make

first_made : (n : ℕ) (c : ScenarioData) (number : ℕ) (line : List ℕ) (more : List (List ℕ))
    → made n c number (line ∷ more) ≡ line_made number n c line ++ made n (after_line n c line) (number + 1) more
unfolding made
first_made n c number line more = refl

none_made : (n : ℕ) (c : ScenarioData) (number : ℕ) → made n c number [] ≡ []
unfolding made
none_made n c number = refl

-- the edit of one more line
pub more_made : (whole ms ms' : List MadeEdit) (line : List ℕ) (n : ℕ) (c c' : ScenarioData) (number : ℕ) (rest : List ℕ)
    (more : List (List ℕ)) → whole ≡ ms ++ made n c number (lines rest) → Some (line, more) ≡ next (lines rest)
    → ms' ≡ ms ++ line_made number n c line → c' ≡ after_line n c line → whole ≡ ms' ++ made n c' (number + 1) more
more_made whole ms ms' line n c c' number rest more so_far is said after =
    so_far ∙ ap (λ ls. ms ++ made n c number ls) (next_some (lines rest) line more is)
    ∙ ap (λ t. ms ++ t) (first_made n c number line more)
    ∙ sym (append_assoc ms (line_made number n c line) (made n (after_line n c line) (number + 1) more))
    ∙ ap (λ t. t ++ made n (after_line n c line) (number + 1) more) (sym said)
    ∙ ap (λ d. ms' ++ made n d (number + 1) more) (sym after)

-- no line any more
pub all_made : (whole ms : List MadeEdit) (n : ℕ) (c : ScenarioData) (number : ℕ) (rest : List ℕ)
    → whole ≡ ms ++ made n c number (lines rest) → None ≡ next (lines rest) → ms ≡ whole
all_made whole ms n c number rest so_far is =
    sym (so_far ∙ ap (λ ls. ms ++ made n c number ls) (next_none (lines rest) is)
    ∙ ap (λ t. ms ++ t) (none_made n c number) ∙ append-nil ms)

-- ---- what is told at the end

-- of the scenario that the lines lead to, with the edits that they make
pub ends_as : (warns : Bool) (file edits : FrontData) (n : ℕ) (c c' : ScenarioData) (ms ms' : List MadeEdit) (end : List ℕ)
    → c ≡ c' → ms ≡ ms' → TellsEnd warns file edits n c ms end → TellsEnd warns file edits n c' ms' end
ends_as warns file edits n c c' ms ms' end scenario_is made_is tells =
    subst (λ d. TellsEnd warns file edits n d ms' end) scenario_is
    (subst (λ m. TellsEnd warns file edits n c m end) made_is tells)
