-- The lines of a test script, one after the other.
use Rattle.std.proofs.Common.{◌≡◌, ℕ, ◌+◌, List, [], ◌∷◌, ◌++◌, Some, None, refl, sym, ap, subst, ◌∙◌, append_assoc}
use Rattle.std.proofs.lemmas.List.{append-nil}
use Rattle.std.specs.Str.Lines.{lines}
use Rattle.pd_scenario.specs.Scenarios.{ScenarioData}
use Rattle.pd_edit_lines.specs.Words.{next}
use Rattle.pd_expect.specs.Refusals.{places}
use Rattle.pd_expect.specs.Tests.{Answer, IsAnswer, Tests, case_of}
use Rattle.pd_expect.specs.Named.{named_by, or_else, scenario_name}
use Rattle.pd_expect.specs.declared.case.Case.{Case}
use Rattle.pd_expect.specs.declared.refusal.Places.{Places}

next_some : (ls : List (List ℕ)) (line : List ℕ) (more : List (List ℕ)) → Some (line, more) ≡ next ls → ls ≡ line ∷ more
next_some [] line more e = absurd (cc)
next_some (w ∷ ws) line more e =
    let pair : (line, more) ≡ (w, ws) = cc in sym (ap (λ (p : List ℕ × List (List ℕ)). p.0 ∷ p.1) pair)

next_none : (ls : List (List ℕ)) → None ≡ next ls → ls ≡ []
next_none [] e = refl
next_none (w ∷ ws) e = absurd (cc)

-- What is still to come makes the whole, whatever it is.
abbrev pub GoesOn : ℕ → ScenarioData → List ℕ → List (List ℕ) → ScenarioData → ℕ → List Case → List (List ℕ) → Type 0
GoesOn n start name all c number cases rest =
    (more : List Case) → Tests n c name number rest more → Tests n start name 1 all (cases ++ more)

-- one line
tests_more : (n : ℕ) (c : ScenarioData) (name : List ℕ) (number : ℕ) (line : List ℕ) (ls : List (List ℕ)) (answer : Answer)
    (rest : List Case) → IsAnswer n c (places name number) line answer → Tests n answer.after name (number + 1) ls rest →
    Tests n c name number (line ∷ ls) (case_of number line answer.verdict ++ rest)
unfolding Tests
tests_more n c name number line ls answer rest is others = (answer, rest, is, others, refl)

tests_none : (n : ℕ) (c : ScenarioData) (name : List ℕ) (number : ℕ) → Tests n c name number [] []
unfolding Tests
tests_none n c name number = refl

pub line_on : (n : ℕ) (start : ScenarioData) (name : List ℕ) (all : List (List ℕ)) (c : ScenarioData) (number : ℕ)
    (cases cases' : List Case) (at : Places) (line rest : List ℕ) (ls : List (List ℕ)) (answer : Answer) →
    GoesOn n start name all c number cases (lines rest) → Some (line, ls) ≡ next (lines rest) → at ≡ places name number →
    IsAnswer n c at line answer → cases' ≡ cases ++ case_of number line answer.verdict →
    GoesOn n start name all answer.after (number + 1) cases' ls
line_on n start name all c number cases cases' at line rest ls answer so_far is place answered added more others =
    let one : IsAnswer n c (places name number) line answer = subst (λ a. IsAnswer n c a line answer) place answered in
    let said : List Case = case_of number line answer.verdict in
    let all_of = tests_more n c name number line ls answer more one others in
    let whole =
    so_far (said ++ more) (subst (λ l. Tests n c name number l (said ++ more)) (sym (next_some (lines rest) line ls is)) all_of) in
    subst (λ t. Tests n start name 1 all t) (sym (append_assoc cases said more) ∙ ap (λ t. t ++ more) (sym added)) whole

pub end_on : (n : ℕ) (start : ScenarioData) (name : List ℕ) (all : List (List ℕ)) (c : ScenarioData) (number : ℕ) (cases : List Case)
    (rest : List ℕ) → GoesOn n start name all c number cases (lines rest) → None ≡ next (lines rest) → Tests n start name 1 all cases
end_on n start name all c number cases rest so_far is =
    let last = subst (λ l. Tests n c name number l []) (sym (next_none (lines rest) is)) (tests_none n c name number) in
    subst (λ t. Tests n start name 1 all t) (append-nil cases) (so_far [] last)

-- ---- the scenario that a script names

name_first : (line : List ℕ) (ls : List (List ℕ)) → scenario_name (line ∷ ls) ≡ or_else (named_by line) (scenario_name ls)
unfolding scenario_name
name_first line ls = refl

name_none : scenario_name [] ≡ None
unfolding scenario_name
name_none = refl

pub name_found : (rest line : List ℕ) (ls : List (List ℕ)) (file : List ℕ) → Some (line, ls) ≡ next (lines rest) →
    Some file ≡ named_by line → Some file ≡ scenario_name (lines rest)
name_found rest line ls file is named =
    ap (λ o. or_else o (scenario_name ls)) named ∙ sym (name_first line ls) ∙ ap scenario_name (sym (next_some (lines rest) line ls is))

pub name_later : (rest line : List ℕ) (ls : List (List ℕ)) → Some (line, ls) ≡ next (lines rest) → None ≡ named_by line →
    scenario_name (lines rest) ≡ scenario_name ls
name_later rest line ls is named =
    ap scenario_name (next_some (lines rest) line ls is) ∙ name_first line ls ∙ ap (λ o. or_else o (scenario_name ls)) (sym named)

pub name_nowhere : (rest : List ℕ) → None ≡ next (lines rest) → None ≡ scenario_name (lines rest)
name_nowhere rest is = sym (ap scenario_name (next_none (lines rest) is) ∙ name_none)
