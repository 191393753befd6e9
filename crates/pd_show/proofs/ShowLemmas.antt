-- Facts on a shown run that is written page by page.
use Rattle.std.proofs.Common.{◌≡◌, ℕ, List, [], ◌∷◌, ◌++◌, Option, refl, sym, ap, ◌∙◌, append_assoc, map}
use Rattle.std.proofs.lemmas.List.{append-nil, map-append}
use Rattle.std.specs.Io.KnownBytes.{Appends}
use Rattle.std.proofs.KnownBytes.{Appends-nil, Appends-trans}
use Rattle.pd_device.specs.Device.{WrotePart}
use Rattle.pd_device.proofs.DeviceLemmas.{WrotePart-after}
use Rattle.pd_port.specs.declared.entry.Entry.{Entry}
use Rattle.pd_scenario.specs.Plan.{Plan, count}
use Rattle.pd_run.specs.Run.{Move, shown}
use Rattle.pd_run.specs.Live.{RunsTo}
use Rattle.pd_watch.specs.Watch.{WatchData, after_step, after_steps, all_at_rest}
use Rattle.pd_show.specs.declared.choice.Choice.{Choice}
use Rattle.pd_show.specs.Lines.{Line, chosen_lines, lines_from, lines_of}
use Rattle.pd_show.specs.Pages.{PageData, head, last_at, text_from, written}
use Rattle.pd_show.specs.Seen.{all_seen, seen_from, seen_of}
use Rattle.pd_show.specs.declared.seen.Seen.{Seen}
use Rattle.pd_show.specs.Show.{Passed, show_text}
use Rattle.pd_show.proofs.PageLemmas.{text_from-append, last_at-append}

-- no move has been made
pub runs_none : (plan : Plan) → RunsTo plan []
runs_none plan = record { chained = tt; ordered = tt; answered = tt; timely = tt; ahead = λ p d k e. tt }

-- the text of these moves is what was written and the page, which knows the time of its last line
pub record Progress (plan : Plan) (choice : Choice) (moves : List Move) (page : PageData) (old new : Option (List ℕ)) : Type 0 where
  pub out : List ℕ
  pub appends : Appends old new out
  pub text_is : show_text plan choice moves ≡ out ++ page.text
  pub before_is : page.before ≡ last_at 0 (lines_of plan choice moves)

pub progress_none : (plan : Plan) (choice : Choice) (page : PageData) (a : Option (List ℕ)) →
    page ≡ record { text = head choice.form; before = 0 } → Progress plan choice [] page a a
progress_none plan choice page a e = record {
  out = [];
  appends = Appends-nil a;
  text_is = append-nil (head choice.form) ∙ sym (ap (λ (p : PageData). p.text) e);
  before_is = ap (λ (p : PageData). p.before) e;
}

-- what is watched of the ports after some moves from the start
abbrev pub watched : Plan → List Move → List WatchData
watched plan moves = after_steps (all_at_rest (count plan)) (map shown moves)

lines_from-push : (plan : Plan) (choice : Choice) (ws : List WatchData) (moves : List Move) (m : Move)
    → lines_from plan choice ws (moves ++ m ∷ [])
    ≡ lines_from plan choice ws moves ++ chosen_lines choice (seen_of plan (after_steps ws (map shown moves)) m)
lines_from-push plan choice ws [] m = append-nil (chosen_lines choice (seen_of plan ws m))
lines_from-push plan choice ws (x ∷ xs) m =
    let here : List Line = chosen_lines choice (seen_of plan ws x) in
    let next : List WatchData = after_step ws (shown x) in
    ap (λ v. here ++ v) (lines_from-push plan choice next xs m)
    ∙ sym (append_assoc here (lines_from plan choice next xs) (chosen_lines choice (seen_of plan (after_steps next (map shown xs)) m)))

lines_push : (plan : Plan) (choice : Choice) (moves : List Move) (m : Move)
    → lines_of plan choice (moves ++ m ∷ []) ≡ lines_of plan choice moves ++ chosen_lines choice (seen_of plan (watched plan moves) m)
lines_push plan choice moves m = lines_from-push plan choice (all_at_rest (count plan)) moves m

steps-push : (ws : List WatchData) (steps : List (ℕ × Entry)) (s : ℕ × Entry)
    → after_steps ws (steps ++ s ∷ []) ≡ after_step (after_steps ws steps) s
steps-push ws [] s = refl
steps-push ws (x ∷ xs) s = steps-push (after_step ws x) xs s

-- what is watched after one more move
pub watched_push : (plan : Plan) (moves : List Move) (m : Move) → watched plan (moves ++ m ∷ []) ≡ after_step (watched plan moves) (shown m)
watched_push plan moves m =
    ap (after_steps (all_at_rest (count plan))) (map-append shown moves (m ∷ []))
    ∙ steps-push (all_at_rest (count plan)) (map shown moves) (shown m)

-- the lines of one more move on the page
pub progress_more : (plan : Plan) (choice : Choice) (moves : List Move) (m : Move) (page page' : PageData) (a b : Option (List ℕ)) →
    Progress plan choice moves page a b → page' ≡ written choice.form page (chosen_lines choice (seen_of plan (watched plan moves) m))
    → Progress plan choice (moves ++ m ∷ []) page' a b
unfolding written
progress_more plan choice moves m page page' a b p e =
    let all : List Line = lines_of plan choice moves in
    let more : List Line = chosen_lines choice (seen_of plan (watched plan moves) m) in
    rw e (record {
      out = p.out;
      appends = p.appends;
      text_is =
          ap (λ ls. head choice.form ++ text_from choice.form 0 ls) (lines_push plan choice moves m)
          ∙ ap (λ v. head choice.form ++ v) (text_from-append choice.form 0 all more)
          ∙ sym (append_assoc (head choice.form) (text_from choice.form 0 all) (text_from choice.form (last_at 0 all) more))
          ∙ ap (λ v. v ++ text_from choice.form (last_at 0 all) more) p.text_is
          ∙ ap (λ t. (p.out ++ page.text) ++ text_from choice.form t more) (sym p.before_is)
          ∙ append_assoc p.out page.text (text_from choice.form page.before more);
      before_is =
          ap (λ t. last_at t more) p.before_is ∙ sym (last_at-append 0 all more)
          ∙ sym (ap (last_at 0) (lines_push plan choice moves m));
    })

-- some of the page is written
pub progress_passed : (plan : Plan) (choice : Choice) (moves : List Move) (page page' : PageData) (a b c : Option (List ℕ)) →
    Progress plan choice moves page a b → Passed b c page page' → Progress plan choice moves page' a c
progress_passed plan choice moves page page' a b c p q = record {
  out = p.out ++ q.out;
  appends = Appends-trans a b c p.out q.out p.appends q.appends;
  text_is = p.text_is ∙ ap (λ v. p.out ++ v) q.text_is ∙ sym (append_assoc p.out q.out page'.text);
  before_is = q.before_is ∙ p.before_is;
}

-- also where the page is written in part
pub progress_torn : (plan : Plan) (choice : Choice) (moves : List Move) (page : PageData) (a b c : Option (List ℕ)) →
    Progress plan choice moves page a b → WrotePart b c page.text → WrotePart a c (show_text plan choice moves)
progress_torn plan choice moves page a b c p w = rw p.text_is (WrotePart-after a b c p.out page.text p.appends w)

-- nothing is left on the page
pub progress_all : (plan : Plan) (choice : Choice) (moves : List Move) (page : PageData) (a b : Option (List ℕ)) →
    Progress plan choice moves page a b → page.text ≡ [] → Appends a b (show_text plan choice moves)
progress_all plan choice moves page a b p e =
    let whole : show_text plan choice moves ≡ p.out = p.text_is ∙ ap (λ v. p.out ++ v) e ∙ append-nil p.out in
    rw whole p.appends

seen_from-push : (plan : Plan) (ws : List WatchData) (moves : List Move) (m : Move)
    → seen_from plan ws (moves ++ m ∷ []) ≡ seen_from plan ws moves ++ seen_of plan (after_steps ws (map shown moves)) m ∷ []
seen_from-push plan ws [] m = refl
seen_from-push plan ws (x ∷ xs) m =
    ap (λ (v : List Seen). seen_of plan ws x ∷ v) (seen_from-push plan (after_step ws (shown x)) xs m)

-- what is seen after one more move
pub seen_push : (plan : Plan) (moves : List Move) (m : Move)
    → all_seen plan (moves ++ m ∷ []) ≡ all_seen plan moves ++ seen_of plan (watched plan moves) m ∷ []
seen_push plan moves m = seen_from-push plan (all_at_rest (count plan)) moves m
