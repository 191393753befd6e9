-- What is said of a script, a line at a time.
use Rattle.std.proofs.Common.{◌≡◌, ◌||◌, ℕ, Bool, true, false, List, [], ◌∷◌, refl, sym, ap, ap₂, ◌∙◌, Some, None}
use Rattle.std.specs.Str.Lines.{lines}
use Rattle.pd_scenario.specs.Scenarios.{ScenarioData}
use Rattle.pd_edit_lines.specs.Words.{next}
use Rattle.pd_scene.specs.Script.{after_line, followed, is_any_refused, is_line_refused}

next_some : (ls : List (List ℕ)) (line : List ℕ) (more : List (List ℕ)) → Some (line, more) ≡ next ls → ls ≡ line ∷ more
next_some [] line more e = absurd (cc)
next_some (w ∷ ws) line more e =
    let pair : (line, more) ≡ (w, ws) = cc in sym (ap (λ (p : List ℕ × List (List ℕ)). p.0 ∷ p.1) pair)

next_none : (ls : List (List ℕ)) → None ≡ next ls → ls ≡ []
next_none [] e = refl
next_none (w ∷ ws) e = absurd (cc)

followed_first : (n : ℕ) (c : ScenarioData) (line : List ℕ) (more : List (List ℕ))
    → followed n c (line ∷ more) ≡ followed n (after_line n c line) more
unfolding followed
followed_first n c line more = refl

followed_none : (n : ℕ) (c : ScenarioData) → followed n c [] ≡ c
unfolding followed
followed_none n c = refl

-- one more line is taken in
pub more_followed : (n : ℕ) (end c c' : ScenarioData) (line rest : List ℕ) (more : List (List ℕ))
    → end ≡ followed n c (lines rest) → Some (line, more) ≡ next (lines rest) → c' ≡ after_line n c line → end ≡ followed n c' more
more_followed n end c c' line rest more so_far is after =
    so_far ∙ ap (λ ls. followed n c ls) (next_some (lines rest) line more is) ∙ followed_first n c line more
    ∙ ap (λ d. followed n d more) (sym after)

-- no line any more
pub all_followed : (n : ℕ) (end c : ScenarioData) (rest : List ℕ) → end ≡ followed n c (lines rest) → None ≡ next (lines rest) → c ≡ end
all_followed n end c rest so_far is =
    sym (so_far ∙ ap (λ ls. followed n c ls) (next_none (lines rest) is) ∙ followed_none n c)

-- ---- whether a line is refused

any_first : (n : ℕ) (c : ScenarioData) (line : List ℕ) (more : List (List ℕ))
    → is_any_refused n c (line ∷ more) ≡ (is_line_refused n c line || is_any_refused n (after_line n c line) more)
unfolding is_any_refused
any_first n c line more = refl

any_none : (n : ℕ) (c : ScenarioData) → is_any_refused n c [] ≡ false
unfolding is_any_refused
any_none n c = refl

or_assoc : (a b c : Bool) → (a || (b || c)) ≡ ((a || b) || c)
or_assoc true b c = refl
or_assoc false b c = refl

or_false : (a : Bool) → (a || false) ≡ a
or_false true = refl
or_false false = refl

-- one more line is taken in
pub more_refused : (n : ℕ) (end any any' here : Bool) (c c' : ScenarioData) (line rest : List ℕ) (more : List (List ℕ))
    → end ≡ (any || is_any_refused n c (lines rest)) → Some (line, more) ≡ next (lines rest) → c' ≡ after_line n c line
    → here ≡ is_line_refused n c line → any' ≡ (any || here) → end ≡ (any' || is_any_refused n c' more)
more_refused n end any any' here c c' line rest more so_far is after of_line of_both =
    so_far ∙ ap (λ ls. any || is_any_refused n c ls) (next_some (lines rest) line more is)
    ∙ ap (λ b. any || b) (any_first n c line more) ∙ or_assoc any (is_line_refused n c line) (is_any_refused n (after_line n c line) more)
    ∙ ap₂ (λ b d. b || is_any_refused n d more) (ap (λ b. any || b) (sym of_line) ∙ sym of_both) (sym after)

-- no line any more
pub all_refused : (n : ℕ) (end any : Bool) (c : ScenarioData) (rest : List ℕ) → end ≡ (any || is_any_refused n c (lines rest))
    → None ≡ next (lines rest) → any ≡ end
all_refused n end any c rest so_far is =
    sym (so_far ∙ ap (λ ls. any || is_any_refused n c ls) (next_none (lines rest) is) ∙ ap (λ b. any || b) (any_none n c) ∙ or_false any)
