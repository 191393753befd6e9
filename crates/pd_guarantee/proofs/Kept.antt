-- No change of the budget takes from a port what it holds, up to what is told.
use Rattle.std.proofs.Common.{◌≡◌, ◌≢◌, ℕ, suc, ◌+◌, ◌-◌, ◌<◌, ◌≤◌, Bool, true, false, nat_le, nat_lt, if◌then◌else◌, List, [], ◌∷◌, ◌++◌}
use Rattle.std.proofs.Common.{All, length, sum, take, drop, slice_index, max, Option, Some, None, option_map, refl, sym, ap, ◌∙◌, subst}
use Rattle.std.proofs.Common.{append_assoc, arith}
use Rattle.std.proofs.lemmas.Bool.Decides.{nat_tests}
use Rattle.std.proofs.lemmas.List.{append-nil}
use Rattle.pd_objects.specs.declared.query.Answer.{Answer}
use Rattle.pd_objects.specs.declared.query.Answer.TheVariants as answers
use Rattle.pd_setup.specs.Settings.{floor_of}
use Rattle.pd_port.specs.Happens.{is_budget}
use Rattle.pd_port.specs.Laws.{source_after_told}
use Rattle.pd_port.specs.Port.{hold, source_settings}
use Rattle.pd_port.specs.SourceTold.{told_if_shed}
use Rattle.pd_port.proofs.BudgetLaws.{ask_budget, source_of_budget}
use Rattle.pd_ledger.specs.Account.{total_with}
use Rattle.pd_ledger.specs.Offer.{answer_of}
use Rattle.pd_scenario.specs.Plan.{Plan, IsPlan, count, floors_of, force, settings_of}
use Rattle.pd_run.specs.Laws.{EndsBetween}
use Rattle.pd_run.specs.Order.{EachAfter, IsNoLater}
use Rattle.pd_run.specs.Run.{GoesOn, IsAnswered, IsInOrder, Move, NoneLater, Run, Standing, account_after, holds_after, standing}
use Rattle.pd_run.specs.UpTo.{before}
use Rattle.pd_run.proofs.Awaited.{floor_at, length-floors}
use Rattle.pd_run.proofs.Cut.{All-change, All-cons, All-head, All-nil, All-tail, EachAfter-back, before-all, before-append}
use Rattle.pd_run.proofs.Cut.{cut_from}
use Rattle.pd_run.proofs.Moves.{in_order-member, standing-other}
use Rattle.pd_run.proofs.Steps.{hold_known, length-holds_after}
use Rattle.pd_run.proofs.Within.{fits_run}
use Rattle.pd_guarantee.specs.Bounds.{greatest_hold, kept_up_to}
use Rattle.pd_guarantee.specs.Charger.{Charger, IsOf}
use Rattle.pd_guarantee.specs.Laws.{HoldsAreKept, IsKept}
use Rattle.pd_guarantee.proofs.Free.{above_floors, below_greatest, greatest_holds, higher_of, length-greatest, lower_of, same_charger}
use Rattle.pd_guarantee.proofs.Free.{with_settings_of}
use Rattle.pd_guarantee.proofs.Parts.{before_and_from, drop-below, from_one, take-below}

-- ---- the moves of one instant

-- moves that follow one aren't of its instant and a lower port
follows : (past more : List Move) (m : Move) (ms : List Move) → EachAfter IsInOrder ((past ++ m ∷ []) ++ more) ms
    → All (λ x. IsNoLater m.due.time m.port x.due.time x.port) ms
follows past more m [] h = All-nil (λ x. IsNoLater m.due.time m.port x.due.time x.port)
follows past more m (x ∷ xs) h =
    All-cons (λ y. IsNoLater m.due.time m.port y.due.time y.port) x xs (in_order-member past more m x h.0)
    (follows past (more ++ x ∷ []) m xs
    (subst (λ (l : List Move). EachAfter IsInOrder l xs) (append_assoc (past ++ m ∷ []) more (x ∷ [])) h.1))

up_to_now : (t p : ℕ) (ms : List Move) → NoneLater t p ms → All (λ x. x.due.time < t + 1) ms
up_to_now t p [] h = All-nil (λ x. x.due.time < t + 1)
up_to_now t p (m ∷ ms) h =
    let le = h.0.by_time in All-cons (λ x. x.due.time < t + 1) m ms (omega arith) (up_to_now t p ms h.1)

kept_all : (P : Move → Type 0) (m : Move) (ms : List Move) (b : Bool) → P m → All P ms → All P (if b then m ∷ ms else ms)
kept_all P m ms true h k = All-cons P m ms h k
kept_all P m ms false h k = k

-- what holds of all moves holds of those before a time
all_before : (P : Move → Type 0) (at : ℕ) (ms : List Move) → All P ms → All P (before at ms)
all_before P at [] h = h
all_before P at (m ∷ ms) h =
    kept_all P m (before at ms) (nat_lt m.due.time at) (All-head P m ms h) (all_before P at ms (All-tail P m ms h))

less : (a b : ℕ) → nat_lt a b ≡ true → a < b
less a b h = grind (arith, nat_tests)

earlier_first : (at : ℕ) (m : Move) (ms : List Move) (b : Bool) → nat_lt m.due.time at ≡ b → All (λ x. x.due.time < at) ms
    → All (λ x. x.due.time < at) (if b then m ∷ ms else ms)
earlier_first at m ms true e h = All-cons (λ x. x.due.time < at) m ms (less m.due.time at e) h
earlier_first at m ms false e h = h

before_earlier : (at : ℕ) (ms : List Move) → All (λ x. x.due.time < at) (before at ms)
before_earlier at [] = All-nil (λ x. x.due.time < at)
before_earlier at (m ∷ ms) = earlier_first at m (before at ms) (nat_lt m.due.time at) refl (before_earlier at ms)

-- moves of other ports leave a port where it stands
apart : (plan : Plan) (past ms : List Move) (p : ℕ) → All (λ m. m.port ≢ p) ms → standing plan (past ++ ms) p ≡ standing plan past p
apart plan past [] p h = ap (λ (l : List Move). standing plan l p) (append-nil past)
apart plan past (m ∷ ms) p h =
    ap (λ (l : List Move). standing plan l p) (sym (append_assoc past (m ∷ []) ms))
    ∙ apart plan (past ++ m ∷ []) ms p (All-tail (λ x. x.port ≢ p) m ms h)
    ∙ standing-other plan past m p (All-head (λ x. x.port ≢ p) m ms h)

-- the moves up to the end of a move's instant are those before it, itself, and those that follow in that instant
whole_instant : (past : List Move) (m : Move) (rest : List Move) → All (λ x. x.due.time < m.due.time + 1) past
    → before (m.due.time + 1) (past ++ m ∷ rest) ≡ past ++ m ∷ before (m.due.time + 1) rest
whole_instant past m rest earlier =
    let at = m.due.time + 1 in
    let one : before at (m ∷ []) ≡ m ∷ [] =
    before-all at (m ∷ []) (All-cons (λ x. x.due.time < at) m [] (omega arith) (All-nil (λ x. x.due.time < at))) in
    before-append at past (m ∷ rest)
    ∙ ap (λ (l : List Move). l ++ before at (m ∷ rest)) (before-all at past earlier)
    ∙ ap (λ (l : List Move). past ++ l) (before-append at (m ∷ []) rest ∙ ap (λ (l : List Move). l ++ before at rest) one)

-- the ports of those aren't lower
not_lower : (m : Move) (ms : List Move) (k : ℕ) → k < m.port → All (λ x. IsNoLater m.due.time m.port x.due.time x.port) ms
    → All (λ x. x.due.time < m.due.time + 1) ms → All (λ x. x.port ≢ k) ms
not_lower m ms k low after now i d lt same =
    let first = (after i d lt).by_time in
    let soon = now i d lt in
    let port = (after i d lt).by_port (omega arith) in
    absurd (omega arith)

-- ---- Before a move the lower ports' holds and the floors of the others fit the budget of its time: so they do at the end of the
-- instant, and until then no lower port moves.

-- what is known of a move of a run
pub record InRun (plan : Plan) (past : List Move) (m : Move) (rest : List Move) : Type 0 where
  pub goes : GoesOn plan past m
  pub answered : IsAnswered plan past m
  pub soon : m.due.time ≤ plan.end
  pub earlier : All (λ x. x.due.time < m.due.time + 1) past
  pub after : All (λ x. IsNoLater m.due.time m.port x.due.time x.port) rest

pub in_run : (plan : Plan) (past : List Move) (m : Move) (rest : List Move) → Run plan (past ++ m ∷ rest) → InRun plan past m rest
in_run plan past m rest run =
    let ordered = EachAfter-back IsInOrder [] past (m ∷ rest) run.ordered in
    record {
      goes = (EachAfter-back (GoesOn plan) [] past (m ∷ rest) run.chained).0;
      answered = (EachAfter-back (IsAnswered plan) [] past (m ∷ rest) run.answered).0;
      soon = (EachAfter-back (λ _ x. x.due.time ≤ plan.end) [] past (m ∷ rest) run.timely).0;
      earlier = up_to_now m.due.time m.port past ordered.0;
      after = follows past [] m rest
          (subst (λ (l : List Move). EachAfter IsInOrder l rest) (sym (append-nil (past ++ m ∷ []))) ordered.1);
    }

-- at the end of the instant the lower ports hold what they hold before the move
lower_stay : (plan : Plan) (past : List Move) (m : Move) (rest : List Move) → InRun plan past m rest → (k : ℕ) → k < m.port
    → slice_index (holds_after plan past) k ≡ slice_index (holds_after plan (past ++ m ∷ before (m.due.time + 1) rest)) k
lower_stay plan past m rest is k low =
    let at = m.due.time + 1 in
    let firsts = before at rest in
    let now : All (λ x. x.due.time < at) firsts = before_earlier at rest in
    let others = not_lower m firsts k low (all_before (λ x. IsNoLater m.due.time m.port x.due.time x.port) at rest is.after) now in
    let known : k < count plan = let lt = is.goes.known in omega arith in
    let stands = apart plan past (m ∷ firsts) k
    (All-cons (λ x. x.port ≢ k) m firsts (λ e. absurd (omega arith)) others) in
    hold_known plan past k known
    ∙ sym (ap (λ (x : Standing). hold (settings_of plan k) x.state) stands)
    ∙ sym (hold_known plan (past ++ m ∷ firsts) k known)

lower_fit : (n : ℕ) (plan : Plan) (past : List Move) (m : Move) (rest : List Move) → IsPlan n plan → Run plan (past ++ m ∷ rest)
    → InRun plan past m rest
    → sum (take m.port (holds_after plan past)) + sum (drop m.port (floors_of plan)) ≤ force plan m.due.time
lower_fit n plan past m rest is run known =
    let t = m.due.time in
    let p = m.port in
    let moves : List Move = past ++ m ∷ rest in
    let cut = cut_from (t + 1) [] moves run.ordered in
    let ends : EndsBetween t (before (t + 1) moves) cut.rest = record {
      up_to = All-change (λ x. x.due.time < t + 1) (λ x. x.due.time ≤ t) _ (λ x h. omega arith) cut.earlier;
      later = All-change (λ x. t + 1 ≤ x.due.time) (λ x. t < x.due.time) _ (λ x h. omega arith) cut.later;
    } in
    let fits = ((fits_run n plan moves is run).at_ends (before (t + 1) moves) cut.rest t cut.whole ends known.soon).within in
    let done : List Move = past ++ m ∷ before (t + 1) rest in
    let all : sum (holds_after plan done) ≤ force plan t =
    subst (λ (l : List Move). sum (holds_after plan l) ≤ force plan t) (whole_instant past m rest known.earlier) fits in
    let holds = holds_after plan done in
    let first = take-below p (holds_after plan past) holds (length-holds_after plan past ∙ sym (length-holds_after plan done))
    (λ k low lt. let stays = lower_stay plan past m rest known k low in omega arith) in
    let last = drop-below p (floors_of plan) holds (length-floors plan ∙ sym (length-holds_after plan done)) (above_floors plan done) in
    omega (arith, before_and_from p holds)

-- ---- a hold that is kept

-- where it is the floor, or less than the least budget leaves
stays_within : (power floor least lower_most lower higher budget : ℕ) → power ≤ max floor (least - (lower_most + higher))
    → lower ≤ lower_most → least ≤ budget → lower + (floor + higher) ≤ budget → power + (lower + higher) ≤ budget
stays_within power floor least lower_most lower higher budget h a b d = omega arith

stays : (n : ℕ) (c : Charger) (plan : Plan) (past : List Move) (m : Move) (rest : List Move) → IsPlan n plan → IsOf c plan
    → Run plan (past ++ m ∷ rest) → InRun plan past m rest → (power : ℕ) → power ≤ kept_up_to c m.port
    → total_with (account_after plan past m.due.time) m.port power ≤ force plan m.due.time
unfolding kept_up_to
stays n c plan past m rest is of run known power h =
    let p = m.port in
    let t = m.due.time in
    let within : power ≤ kept_up_to (with_settings_of plan c.least c.greatest) p =
    subst (λ (x : Charger). power ≤ kept_up_to x p) (sym (same_charger c plan of.settings)) h in
    let holds = holds_after plan past in
    let lower = take-below p holds (greatest_holds plan) (length-holds_after plan past ∙ sym (length-greatest plan))
    (λ k low lt. below_greatest plan (past ++ m ∷ rest) past (m ∷ rest) run refl k lt) in
    let fits = lower_fit n plan past m rest is run known in
    let there : p < length (floors_of plan) = let lt = known.goes.known in omega (arith, length-floors plan) in
    stays_within power (floor_of (settings_of plan p)) c.least (sum (take p (greatest_holds plan))) (sum (take p holds))
    (sum (drop (suc p) (floors_of plan))) (force plan t)
    (omega (arith, lower_of plan c.least c.greatest p greatest_hold, higher_of plan c.least c.greatest p floor_of)) lower
    (of.least t known.soon) (omega (arith, from_one p (floors_of plan) there, floor_at plan p))

is_within : (a b : ℕ) → a ≤ b → nat_le a b ≡ true
is_within a b h = grind (arith, nat_tests)

no_other : (a : Option Answer) → a ≡ Some (answers.Fits true) → a ≡ Some (answers.Fits false) → ⊥
no_other a e f = let x : Some (answers.Fits true) ≡ Some (answers.Fits false) = sym e ∙ f in cc

kept_move : (n : ℕ) (c : Charger) (plan : Plan) (past : List Move) (m : Move) (rest : List Move) → IsPlan n plan → IsOf c plan
    → Run plan (past ++ m ∷ rest) → is_budget m.due.what ≡ true → hold (settings_of plan m.port) m.before ≤ kept_up_to c m.port
    → IsKept plan m
kept_move n c plan past m rest is of run change h =
    let known = in_run plan past m rest run in
    let s = settings_of plan m.port in
    let account = account_after plan past m.due.time in
    let power = hold s m.before in
    let fits = stays n c plan past m rest is of run known power h in
    let asked : m.answer ≡ Some (answers.Fits (nat_le (total_with account m.port power) (force plan m.due.time))) =
    known.answered ∙ ap (option_map (answer_of account m.port)) (ask_budget s m.before m.due change) in
    let answer : m.answer ≡ Some (answers.Fits true) =
    asked ∙ ap (λ (b : Bool). Some (answers.Fits b)) (is_within (total_with account m.port power) (force plan m.due.time) fits) in
    record {
      not_shed = λ sheds. no_other m.answer answer sheds.may_not_stay;
      source = source_of_budget s m.before m.due m.answer change
          ∙ ap (λ (a : Option Answer). source_after_told (source_settings s) m.due.time (told_if_shed a) None m.before.source) answer;
    }

pub holds_are_kept : HoldsAreKept
holds_are_kept n c plan moves past rest m is of run e change h =
    kept_move n c plan past m rest is of (subst (Run plan) e run) change h
