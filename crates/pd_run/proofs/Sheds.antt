-- A port that sheds holds its floor alone, to the end of that instant.
use Rattle.std.proofs.Common.{◌≡◌, ◌≢◌, ⊎_elim, ℕ, suc, List, [], ◌∷◌, ◌++◌, Option, Some, refl, ap, sym, ◌∙◌, subst, arith}
use Rattle.std.proofs.Common.{append_assoc, slice_get}
use Rattle.std.specs.Prelude.{All}
use Rattle.std.proofs.lemmas.List.{append-nil}
use Rattle.std.proofs.lemmas.Bool.{cases_eq}
use Rattle.pd_objects.specs.declared.query.Answer.{Answer}
use Rattle.pd_source.specs.Silent.{IsSilentAt}
use Rattle.pd_port.specs.Budget.{RestsEmpty}
use Rattle.pd_port.specs.Port.{PortRecord, due}
use Rattle.pd_port.proofs.BudgetLaws.{empty_detached}
use Rattle.pd_port.proofs.Sheds.{sheds_last}
use Rattle.pd_scenario.specs.Plan.{Plan, settings_of, script_of}
use Rattle.pd_run.specs.Order.{EachAfter}
use Rattle.pd_run.specs.Run.{Move, Run, Standing, standing, after, GoesOn}
use Rattle.pd_run.specs.Sheds.{Sheds, ShedsLast}
use Rattle.pd_run.proofs.Moves.{standing-same, standing-other}
use Rattle.pd_run.proofs.Within.{empty_step}

-- after these moves the port's source is silent at t
abbrev IsSilent : Plan → List Move → ℕ → ℕ → Type 0
IsSilent plan moves p t = IsSilentAt t (standing plan moves p).state.source

-- after these moves each port at rest holds nothing
abbrev AllRest : Plan → List Move → Type 0
AllRest plan moves = (q : ℕ) → RestsEmpty (standing plan moves q).state

-- some of the moves, and those that are left
record Part (plan : Plan) (done rest : List Move) : Type 0 where
  empty : AllRest plan done
  goes : EachAfter (GoesOn plan) done rest

part : (plan : Plan) (past done rest : List Move) → EachAfter (GoesOn plan) past (done ++ rest) → AllRest plan past
    → Part plan (past ++ done) rest
part plan past [] rest goes empty = subst (λ (l : List Move). Part plan l rest) (sym (append-nil past))
    (record { empty = empty; goes = goes })
part plan past (m ∷ ms) rest goes empty =
    subst (λ (l : List Move). Part plan l rest) (append_assoc past (m ∷ []) ms)
    (part plan (past ++ m ∷ []) ms rest goes.1 (empty_step plan past m goes.0 empty))

-- the port that sheds is silent
shed_now : (plan : Plan) (past : List Move) (m : Move) → GoesOn plan past m → RestsEmpty (standing plan past m.port).state → Sheds m
    → IsSilent plan (past ++ m ∷ []) m.port m.due.time
shed_now plan past m goes empty sheds =
    let rests : RestsEmpty m.before = subst RestsEmpty (sym goes.before_is) empty in
    let silent = sheds_last.at_change (settings_of plan m.port) m.before m.due sheds.at_change rests in
    let next : IsSilentAt m.due.time (after plan m).source =
    subst (λ (a : Option Answer). IsSilentAt m.due.time (after plan (record m { answer = a })).source) (sym sheds.may_not_stay) silent in
    subst (λ (s : Standing). IsSilentAt m.due.time s.state.source) (sym (standing-same plan past m m.port refl)) next

-- and it stays silent in each further move at that time
silent_step : (plan : Plan) (past : List Move) (m : Move) (p t : ℕ) → GoesOn plan past m → m.due.time ≡ t → IsSilent plan past p t
    → IsSilent plan (past ++ m ∷ []) p t
silent_step plan past m p t goes now silent =
    ⊎_elim
    (λ (same : m.port ≡ p).
    let here : IsSilent plan past m.port m.due.time =
    subst (λ k. IsSilent plan past m.port k) (sym now) (subst (λ k. IsSilent plan past k t) (sym same) silent) in
    let before : IsSilentAt m.due.time m.before.source =
    subst (λ (r : PortRecord). IsSilentAt m.due.time r.source) (sym goes.before_is) here in
    let event = slice_get (script_of plan m.port) (standing plan past m.port).taken in
    let is_due : due m.before event ≡ Some m.due = ap (λ (r : PortRecord). due r event) goes.before_is ∙ goes.due_is in
    let next = sheds_last.after_each (settings_of plan m.port) m.before event m.due m.answer is_due before in
    let there : IsSilent plan (past ++ m ∷ []) m.port m.due.time =
    subst (λ (s : Standing). IsSilentAt m.due.time s.state.source) (sym (standing-same plan past m m.port refl)) next in
    subst (λ k. IsSilent plan (past ++ m ∷ []) k t) same (subst (λ k. IsSilent plan (past ++ m ∷ []) m.port k) now there))
    (λ (other : m.port ≢ p). subst (λ (s : Standing). IsSilentAt t s.state.source) (sym (standing-other plan past m p other)) silent)
    (cases_eq m.port p)

silent_all : (plan : Plan) (past since rest : List Move) (p t : ℕ) → EachAfter (GoesOn plan) past (since ++ rest)
    → All (λ x. x.due.time ≡ t) since → IsSilent plan past p t → IsSilent plan (past ++ since) p t
silent_all plan past [] rest p t goes now silent = subst (λ (l : List Move). IsSilent plan l p t) (sym (append-nil past)) silent
silent_all plan past (m ∷ ms) rest p t goes now silent =
    subst (λ (l : List Move). IsSilent plan l p t) (append_assoc past (m ∷ []) ms)
    (silent_all plan (past ++ m ∷ []) ms rest p t goes.1 (λ k x lt. now (suc k) x (omega arith))
    (silent_step plan past m p t goes.0 (now 0 m (omega arith)) silent))

pub sheds_always_last : (plan : Plan) (moves : List Move) → Run plan moves → ShedsLast plan moves
sheds_always_last plan moves run earlier m since rest e sheds now =
    let half = part plan [] earlier (m ∷ (since ++ rest)) (subst (EachAfter (GoesOn plan) []) e run.chained)
    (λ q. empty_detached (settings_of plan q)) in
    let first = shed_now plan earlier m half.goes.0 (half.empty m.port) sheds in
    let silent = silent_all plan (earlier ++ m ∷ []) since rest m.port m.due.time half.goes.1 now first in
    sheds_last.holds (settings_of plan m.port) _ m.due.time
    (subst (λ (l : List Move). IsSilent plan l m.port m.due.time) (append_assoc earlier (m ∷ []) since) silent)
