-- The lines of a script that is loaded, one after the other.
use Rattle.std.proofs.Common.{◌≡◌, ◌≢◌, ℕ, ◌+◌, ◌<◌, ◌≤◌, ◌^◌, Bool, true, false, ◌||◌, List, [], ◌∷◌, ◌++◌, Some, None, Ok, Err}
use Rattle.std.proofs.Common.{Result, inl, inr, refl, sym, ap, subst, ◌∙◌, append_assoc, arith}
use Rattle.std.specs.Prelude.{◌⊎◌}
use Rattle.std.proofs.lemmas.List.{append-nil}
use Rattle.pd_scenario.specs.Scenarios.{ScenarioData}
use Rattle.pd_edit.specs.Refusals.{edited}
use Rattle.pd_edit_lines.specs.Grammar.{line_of}
use Rattle.pd_edit_lines.specs.Words.{next}
use Rattle.pd_edit_lines.specs.declared.edit.Edit.{Edit}
use Rattle.pd_edit_lines.specs.declared.fault.EditFault.{EditFault}
use Rattle.pd_edit_lines.specs.declared.line.Line.{Line}
use Rattle.pd_edit_lines.specs.declared.line.Line.TheVariants as lines_read
use Rattle.pd_bench.specs.declared.tally.Outcome.TheVariants.{Accepted}
use Rattle.pd_bench.specs.Session.{EditReply, ok_text}
use Rattle.pd_explain_text.specs.Told.{script_told}
use Rattle.pd_scene.specs.Script.{after_line, after_read, at_line, is_any_refused, is_line_refused, kept_or, line_text}
use Rattle.pd_text.specs.Fronts.{FrontData}
use Rattle.pd_desk.specs.Desk.{Standing, TakesAll, TakesIn}
use Rattle.pd_desk.specs.Loading.{has_head, is_head}

next_some : (ls : List (List ℕ)) (line : List ℕ) (more : List (List ℕ)) → Some (line, more) ≡ next ls → ls ≡ line ∷ more
next_some [] line more e = absurd (cc)
next_some (w ∷ ws) line more e =
    let pair : (line, more) ≡ (w, ws) = cc in sym (ap (λ (p : List ℕ × List (List ℕ)). p.0 ∷ p.1) pair)

next_none : (ls : List (List ℕ)) → None ≡ next ls → ls ≡ []
next_none [] e = refl
next_none (w ∷ ws) e = absurd (cc)

-- 1. Heads of tables

-- the next line is one
pub head_here : (ls : List (List ℕ)) (line : List ℕ) (more : List (List ℕ)) → Some (line, more) ≡ next ls → true ≡ is_head line →
    has_head ls ≡ true
head_here ls line more e is = ap has_head (next_some ls line more e) ∙ ap (λ t. t || has_head more) (sym is)

-- it isn't
pub head_behind : (ls : List (List ℕ)) (line : List ℕ) (more : List (List ℕ)) → Some (line, more) ≡ next ls → false ≡ is_head line →
    has_head ls ≡ has_head more
head_behind ls line more e is = ap has_head (next_some ls line more e) ∙ ap (λ t. t || has_head more) (sym is)

pub head_none : (ls : List (List ℕ)) → None ≡ next ls → has_head ls ≡ false
head_none ls e = ap has_head (next_none ls e)

-- 2. Refused lines

any_first : (n : ℕ) (c : ScenarioData) (line : List ℕ) (more : List (List ℕ))
    → is_any_refused n c (line ∷ more) ≡ (is_line_refused n c line || is_any_refused n (after_line n c line) more)
unfolding is_any_refused
any_first n c line more = refl

any_none : (n : ℕ) (c : ScenarioData) → is_any_refused n c [] ≡ false
unfolding is_any_refused
any_none n c = refl

-- the next line is refused
pub refused_here : (n : ℕ) (c : ScenarioData) (ls : List (List ℕ)) (line : List ℕ) (more : List (List ℕ)) → Some (line, more) ≡ next ls →
    true ≡ is_line_refused n c line → is_any_refused n c ls ≡ true
refused_here n c ls line more e refused =
    ap (is_any_refused n c) (next_some ls line more e) ∙ any_first n c line more
    ∙ ap (λ t. t || is_any_refused n (after_line n c line) more) (sym refused)

-- it isn't, and is taken in
pub refused_behind : (n : ℕ) (c c' : ScenarioData) (ls : List (List ℕ)) (line : List ℕ) (more : List (List ℕ)) →
    Some (line, more) ≡ next ls → false ≡ is_line_refused n c line → c' ≡ after_line n c line →
    is_any_refused n c ls ≡ is_any_refused n c' more
refused_behind n c c' ls line more e refused after =
    ap (is_any_refused n c) (next_some ls line more e) ∙ any_first n c line more
    ∙ ap (λ t. t || is_any_refused n (after_line n c line) more) (sym refused)
    ∙ ap (λ d. is_any_refused n d more) (sym after)

pub refused_none : (n : ℕ) (c : ScenarioData) (ls : List (List ℕ)) → None ≡ next ls → is_any_refused n c ls ≡ false
refused_none n c ls e = ap (is_any_refused n c) (next_none ls e) ∙ any_none n c

-- 3. Lines that are taken in

-- the scenario after one
after_taken : (n : ℕ) (d : Standing) (line : List ℕ) (r : Result Line EditFault) (d' : Standing) → TakesIn n d line r d' →
    d'.scenario ≡ after_read n d.scenario r
after_taken n d line (Ok lines_read.Skip) d' h = ap (λ (u : Standing). u.scenario) h
after_taken n d line (Ok (lines_read.Edit edit)) d' h = by_edited (edited n d.scenario edit) h.0
  where
    by_edited : (r : Result ScenarioData EditFault) → EditReply d.scenario r ok_text d'.scenario Accepted →
        d'.scenario ≡ kept_or d.scenario r
    by_edited (Err fault) h = let other = h.2 in absurd (cc)
    by_edited (Ok after) (inl h) = h.1
    by_edited (Ok after) (inr h) = let other = h.2 in absurd (cc)
after_taken n d line (Ok (lines_read.Show show)) d' h = ap (λ (u : Standing). u.scenario) h
after_taken n d line (Err fault) d' h = absurd h

pub after_line_taken : (n : ℕ) (d : Standing) (line : List ℕ) (d' : Standing) → TakesIn n d line (line_of line) d' →
    d'.scenario ≡ after_line n d.scenario line
unfolding after_line
after_line_taken n d line d' h = after_taken n d line (line_of line) d' h

-- one more line
pub takes_more : (n : ℕ) (d next_d d' : Standing) (ls : List (List ℕ)) (line : List ℕ) (more : List (List ℕ)) → Some (line, more) ≡ next ls
    → TakesIn n d line (line_of line) next_d → TakesAll n next_d more d' → TakesAll n d ls d'
takes_more n d next_d d' ls line more e one others = rw (next_some ls line more e) (next_d, one, others)

pub takes_none : (n : ℕ) (d : Standing) (ls : List (List ℕ)) → None ≡ next ls → TakesAll n d ls d
takes_none n d ls e = rw (next_none ls e) refl

-- 4. Room to count them

pub room_left : (a b : ℕ) → a + 1 < 2 ^ 32 → (b ≤ a) ⊎ (b ≤ 4000000000) → b + 1 < 2 ^ 32
room_left a b some (inl h) = omega arith
room_left a b some (inr h) = omega arith

pub room_more : (a b c : ℕ) → (b ≤ a) ⊎ (b ≤ 4000000000) → (c ≤ b) ⊎ (c ≤ 4000000000) → (c ≤ a) ⊎ (c ≤ 4000000000)
room_more a b c before (inr h) = inr h
room_more a b c (inl before) (inl h) = inl (omega arith)
room_more a b c (inr before) (inl h) = inr (omega arith)

-- a line that is typed, or a script that it loads
pub room_line : (a b total total' : ℕ) → a ≤ 4000000000 + total → total + 1 ≤ total' → (b ≤ a + 1) ⊎ (b ≤ 4000000000)
    → b ≤ 4000000000 + total'
room_line a b total total' before more (inl h) = omega arith
room_line a b total total' before more (inr h) = omega arith

-- 5. What is told of refused lines

told_first : (file : FrontData) (n : ℕ) (c : ScenarioData) (number : ℕ) (line : List ℕ) (more : List (List ℕ))
    → script_told file n c number (line ∷ more)
    ≡ line_text (at_line file number) n c line ++ script_told file n (after_line n c line) (number + 1) more
unfolding script_told
told_first file n c number line more = refl

told_none : (file : FrontData) (n : ℕ) (c : ScenarioData) (number : ℕ) → script_told file n c number [] ≡ []
unfolding script_told
told_none file n c number = refl

-- of one more line
pub told_more : (whole told told' : List ℕ) (file : FrontData) (n : ℕ) (c c' : ScenarioData) (number : ℕ) (ls : List (List ℕ))
    (line : List ℕ) (more : List (List ℕ)) → told ++ script_told file n c number ls ≡ whole → Some (line, more) ≡ next ls
    → told' ≡ told ++ line_text (at_line file number) n c line → c' ≡ after_line n c line
    → told' ++ script_told file n c' (number + 1) more ≡ whole
told_more whole told told' file n c c' number ls line more so_far e is after =
    ap (λ t. t ++ script_told file n c' (number + 1) more) is
    ∙ append_assoc told (line_text (at_line file number) n c line) (script_told file n c' (number + 1) more)
    ∙ ap (λ d. told ++ (line_text (at_line file number) n c line ++ script_told file n d (number + 1) more)) after
    ∙ ap (λ t. told ++ t) (sym (told_first file n c number line more))
    ∙ ap (λ v. told ++ script_told file n c number v) (sym (next_some ls line more e)) ∙ so_far

-- no line any more
pub told_all : (whole told : List ℕ) (file : FrontData) (n : ℕ) (c : ScenarioData) (number : ℕ) (ls : List (List ℕ))
    → told ++ script_told file n c number ls ≡ whole → None ≡ next ls → told ≡ whole
told_all whole told file n c number ls so_far e =
    sym (append-nil told) ∙ ap (λ t. told ++ t) (sym (told_none file n c number))
    ∙ ap (λ v. told ++ script_told file n c number v) (sym (next_none ls e)) ∙ so_far
