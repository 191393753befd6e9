-- A run as far as it has come.
use Rattle.std.proofs.Common.{◌≡◌, ◌≢◌, ℕ, ◌+◌, ◌<◌, ◌≤◌, ⊎_elim, List, [], ◌∷◌, ◌++◌, Option, Some, None, false, Bool, refl, ap}
use Rattle.std.proofs.Common.{sym, ◌∙◌, subst, arith, slice_get, if◌then◌else◌}
use Rattle.std.proofs.lemmas.Bool.{cases_eq}
use Rattle.pd_setup.specs.Events.{EventData}
use Rattle.pd_port.specs.declared.due.Due.{Due}
use Rattle.pd_port.specs.declared.due.What.{What}
use Rattle.pd_port.specs.declared.due.What.TheVariants as what
use Rattle.pd_port.specs.Port.{PortRecord, is_event, due}
use Rattle.pd_port.specs.Laws.{NotBefore}
use Rattle.pd_port.proofs.PortLaws.{due_later, due_first, due_event}
use Rattle.pd_scenario.specs.Plan.{Plan, IsPlan, count, settings_of, script_of, is_change, IsFollowedBy}
use Rattle.pd_run.specs.Order.{IsNoLater}
use Rattle.pd_run.specs.Run.{Move, Run, Standing, standing, moved, taken_after, due_after, due_from, GoesOn, IsInOrder, IsAnswered}
use Rattle.pd_run.specs.Live.{LiveData, RunsTo, StandsAfter, IsFirst, IsOver, next_move}
use Rattle.pd_run.proofs.Moves.{standing-same, due_after-other, EachAfter-push, none_later-raise, none_later-push}

pub runs_start : (plan : Plan) → RunsTo plan []
runs_start plan = record { chained = tt; ordered = tt; answered = tt; timely = tt; ahead = λ p d k e. tt }

not_before : (e f : EventData) → IsFollowedBy e f → e.at ≤ f.at
not_before e f h = ⊎_elim (λ (before : e.at < f.at). omega arith)
    (λ (same : (e.at ≡ f.at) × (is_change f.happening ≡ false)). omega (arith, same.0)) h

next_of : (es : List EventData) (t i : ℕ) (o : Option EventData) → o ≡ slice_get es i
    → ((f : EventData) → slice_get es i ≡ Some f → t ≤ f.at) → NotBefore t o
next_of es t i None e h = tt
next_of es t i (Some f) e h = h f (sym e)

-- the next event after a step isn't before it
pub next_not_before : (n : ℕ) (plan : Plan) (p t : ℕ) (r : PortRecord) (d : Due) → IsPlan n plan
    → due r (slice_get (script_of plan p) t) ≡ Some d → NotBefore d.time (slice_get (script_of plan p) (taken_after t d))
next_not_before n plan p t r d is e = cases d.what refl where
  kept : is_event d.what ≡ false → NotBefore d.time (slice_get (script_of plan p) (taken_after t d))
  kept h = subst (λ (b : Bool). NotBefore d.time (slice_get (script_of plan p) (if b then t + 1 else t))) (sym h)
      (due_first r (slice_get (script_of plan p) t) d e)

  cases : (w : What) → d.what ≡ w → NotBefore d.time (slice_get (script_of plan p) (taken_after t d))
  cases what.Line h = kept (ap is_event h)
  cases (what.Timer side timer) h = kept (ap is_event h)
  cases (what.Event x) h =
      let has = due_event r (slice_get (script_of plan p) t) d x e h in
      subst (λ (b : Bool). NotBefore d.time (slice_get (script_of plan p) (if b then t + 1 else t))) (sym (ap is_event h))
      (next_of (script_of plan p) d.time (t + 1) _ refl (λ f g. omega (arith, not_before x f (is.in_order p t x f has.0 g), has.1)))

-- what is due after a port's move isn't before it
pub due_after-same : (n : ℕ) (plan : Plan) (past : List Move) (p : ℕ) (d f : Due) → IsPlan n plan → due_after plan past p ≡ Some d
    → due_after plan (past ++ next_move plan past p d ∷ []) p ≡ Some f → d.time ≤ f.time
due_after-same n plan past p d f is now e1 =
    let here : standing plan (past ++ next_move plan past p d ∷ []) p ≡ moved plan (standing plan past p) (next_move plan past p d) =
    standing-same plan past (next_move plan past p d) p refl in
    let e : due_from plan (moved plan (standing plan past p) (next_move plan past p d)) p ≡ Some f =
    ap (λ (s : Standing). due_from plan s p) (sym here) ∙ e1 in
    due_later (settings_of plan p) (standing plan past p).state (slice_get (script_of plan p) (standing plan past p).taken) d _
    (slice_get (script_of plan p) (taken_after (standing plan past p).taken d)) f now
    (next_not_before n plan p (standing plan past p).taken (standing plan past p).state d is now) e

-- one more move
pub runs_step : (n : ℕ) (plan : Plan) (past : List Move) (live : LiveData) (p : ℕ) (d : Due) → IsPlan n plan → StandsAfter plan past live
    → IsFirst plan live p d → RunsTo plan (past ++ next_move plan past p d ∷ [])
runs_step n plan past live p d is s first =
    let runs : RunsTo plan past = s.runs in
    let m : Move = next_move plan past p d in
    let now : due_after plan past p ≡ Some d = sym (s.dues_are p first.known) ∙ first.is_due in
    record {
      chained = EachAfter-push (GoesOn plan) [] past m runs.chained
          (record { known = first.known; before_is = refl; due_is = now; entry_is = refl });
      ordered = EachAfter-push IsInOrder [] past m runs.ordered (runs.ahead p d first.known now);
      answered = EachAfter-push (IsAnswered plan) [] past m runs.answered refl;
      timely = EachAfter-push (λ _ x. x.due.time ≤ plan.end) [] past m runs.timely first.soon;
      ahead = λ q f k e.
          ⊎_elim
          (λ (same : q ≡ p).
          let at_p : due_after plan (past ++ m ∷ []) p ≡ Some f = ap (due_after plan (past ++ m ∷ [])) (sym same) ∙ e in
          let later = due_after-same n plan past p d f is now at_p in
          let le : IsNoLater d.time p f.time q = record { by_time = later; by_port = λ t. omega arith } in
          none_later-push f.time q past m (none_later-raise d.time p f.time q past le (runs.ahead p d first.known now)) le)
          (λ (other : q ≢ p).
          let before : due_after plan past q ≡ Some f = sym (due_after-other plan past m q (λ x. other (sym x))) ∙ e in
          none_later-push f.time q past m (runs.ahead q f k before) (first.least q f k (s.dues_are q k ∙ before)))
          (cases_eq q p);
    }

-- where nothing is due the run is whole
pub runs_end : (plan : Plan) (moves : List Move) (live : LiveData) → StandsAfter plan moves live
    → IsOver plan live (count plan) → Run plan moves
runs_end plan moves live s over = record {
  chained = s.runs.chained;
  ordered = s.runs.ordered;
  answered = s.runs.answered;
  timely = s.runs.timely;
  complete = λ p k d e. over.late p d k (s.dues_are p k ∙ e);
}
