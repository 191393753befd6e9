-- What one more step of a run adds.
use Rattle.std.proofs.Common.{◌≡◌, ℕ, List, [], ◌∷◌, ◌++◌, refl, sym, ap, ◌∙◌, append_assoc, map}
use Rattle.std.proofs.lemmas.List.{append-nil, map-append}
use Rattle.pd_port.specs.declared.entry.Entry.{Entry}
use Rattle.pd_run.specs.Run.{Move, shown}
use Rattle.pd_warn.specs.declared.warning.Warning.{Warning}
use Rattle.pd_watch.specs.Watch.{WatchData, after_step, after_steps}
use Rattle.pd_warn.specs.Warnings.{step_part, steps_part}

pub steps_push : (ws : List WatchData) (steps : List (ℕ × Entry)) (s : ℕ × Entry)
    → steps_part ws (steps ++ s ∷ []) ≡ steps_part ws steps ++ step_part (after_steps ws steps) s
steps_push ws [] s = append-nil (step_part ws s)
steps_push ws (x ∷ xs) s =
    ap (λ v. step_part ws x ++ v) (steps_push (after_step ws x) xs s)
    ∙ sym (append_assoc (step_part ws x) (steps_part (after_step ws x) xs) (step_part (after_steps (after_step ws x) xs) s))

pub watches_push : (ws : List WatchData) (steps : List (ℕ × Entry)) (s : ℕ × Entry)
    → after_steps ws (steps ++ s ∷ []) ≡ after_step (after_steps ws steps) s
watches_push ws [] s = refl
watches_push ws (x ∷ xs) s = watches_push (after_step ws x) xs s

-- what is warned of along some moves, with one more
pub parts_more : (old out out' : List Warning) (ws now : List WatchData) (moves : List Move) (m : Move) (s : ℕ × Entry) → s ≡ shown m
    → out ≡ old ++ steps_part ws (map shown moves) → now ≡ after_steps ws (map shown moves) → out' ≡ out ++ step_part now s
    → out' ≡ old ++ steps_part ws (map shown (moves ++ m ∷ []))
parts_more old out out' ws now moves m s is so_far watched said =
    let steps : List (ℕ × Entry) = map shown moves in
    said ∙ ap (λ v. v ++ step_part now s) so_far ∙ append_assoc old (steps_part ws steps) (step_part now s)
    ∙ ap (λ (w : List WatchData). old ++ (steps_part ws steps ++ step_part w s)) watched
    ∙ ap (λ v. old ++ v) (sym (steps_push ws steps s)) ∙ ap (λ (x : ℕ × Entry). old ++ steps_part ws (steps ++ x ∷ [])) is
    ∙ ap (λ (v : List (ℕ × Entry)). old ++ steps_part ws v) (sym (map-append shown moves (m ∷ [])))

-- what is watched after some moves, and one more
pub watched_more : (ws now now' : List WatchData) (moves : List Move) (m : Move) (s : ℕ × Entry) → s ≡ shown m
    → now ≡ after_steps ws (map shown moves) → now' ≡ after_step now s → now' ≡ after_steps ws (map shown (moves ++ m ∷ []))
watched_more ws now now' moves m s is watched step =
    let steps : List (ℕ × Entry) = map shown moves in
    step ∙ ap (λ (w : List WatchData). after_step w s) watched ∙ ap (λ (x : ℕ × Entry). after_step (after_steps ws steps) x) is
    ∙ sym (watches_push ws steps (shown m)) ∙ ap (after_steps ws) (sym (map-append shown moves (m ∷ [])))
