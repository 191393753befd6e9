-- A run that is cut at a time.
use Rattle.std.proofs.Common.{◌≡◌, ◌≢◌, ⊎_elim, ℕ, zero, suc, ◌<◌, ◌≤◌, nat_lt, cond, List, [], ◌∷◌, ◌++◌, All, Some}
use Rattle.std.proofs.Common.{refl, ap, sym, ◌∙◌, subst, arith, append_assoc}
use Rattle.std.proofs.lemmas.List.{append-nil}
use Rattle.std.proofs.lemmas.Bool.{cases_eq, cases_lt}
use Rattle.std.proofs.lemmas.Bool.Decides.{nat_tests}
use Rattle.std.proofs.lemmas.Option.{same_Some}
use Rattle.pd_port.specs.declared.due.Due.{Due}
use Rattle.pd_scenario.specs.Plan.{Plan, IsPlan, count}
use Rattle.pd_run.specs.Order.{EachAfter}
use Rattle.pd_run.specs.Run.{Move, Run, GoesOn, IsInOrder, IsAnswered, IsDone, NoneLater, due_after}
use Rattle.pd_run.specs.Live.{LiveData, StandsAfter, IsNext, IsOver}
use Rattle.pd_run.specs.Shown.{SafeRun}
use Rattle.pd_run.specs.UpTo.{before, IsUpTo}
use Rattle.pd_run.proofs.Moves.{due_after-other, in_order-member}
use Rattle.pd_run.proofs.OneRun.{Rest, tail}
use Rattle.pd_run.proofs.Runs.{runs_start}
use Rattle.pd_run.proofs.Sheds.{sheds_always_last}
use Rattle.pd_run.proofs.Sound.{runs_are_sound}
use Rattle.pd_run.proofs.Within.{fits_run}

-- members of a list that is put together
pub All-nil : {X : Type 0} (P : X → Type 0) → All P []
All-nil P = λ k d lt. absurd (omega arith)

pub All-cons : {X : Type 0} (P : X → Type 0) (x : X) (xs : List X) → P x → All P xs → All P (x ∷ xs)
All-cons P x xs h k zero d lt = h
All-cons P x xs h k (suc i) d lt = k i d (omega arith)

pub All-head : {X : Type 0} (P : X → Type 0) (x : X) (xs : List X) → All P (x ∷ xs) → P x
All-head P x xs h = h zero x (omega arith)

pub All-tail : {X : Type 0} (P : X → Type 0) (x : X) (xs : List X) → All P (x ∷ xs) → All P xs
All-tail P x xs h = λ k d lt. h (suc k) d (omega arith)

pub All-append : {X : Type 0} (P : X → Type 0) (xs ys : List X) → All P xs → All P ys → All P (xs ++ ys)
All-append P [] ys h k = k
All-append P (x ∷ xs) ys h k = All-cons P x (xs ++ ys) (All-head P x xs h) (All-append P xs ys (All-tail P x xs h) k)

pub All-front : {X : Type 0} (P : X → Type 0) (xs ys : List X) → All P (xs ++ ys) → All P xs
All-front P [] ys h = All-nil P
All-front P (x ∷ xs) ys h = All-cons P x xs (All-head P x (xs ++ ys) h) (All-front P xs ys (All-tail P x (xs ++ ys) h))

pub All-back : {X : Type 0} (P : X → Type 0) (xs ys : List X) → All P (xs ++ ys) → All P ys
All-back P [] ys h = h
All-back P (x ∷ xs) ys h = All-back P xs ys (All-tail P x (xs ++ ys) h)

pub All-change : {X : Type 0} (P Q : X → Type 0) (xs : List X) → ((x : X) → P x → Q x) → All P xs → All Q xs
All-change P Q xs f h = λ k d lt. f _ (h k d lt)

-- times of moves
abbrev pub IsEarlier : ℕ → Move → Type 0
IsEarlier at m = m.due.time < at

abbrev pub IsLater : ℕ → Move → Type 0
IsLater at m = at ≤ m.due.time

-- what holds of each with those before it holds of the beginning and of what goes on from it
pub EachAfter-append : {X : Type 0} (P : List X → X → Type 0) (past xs ys : List X) → EachAfter P past xs → EachAfter P (past ++ xs) ys
    → EachAfter P past (xs ++ ys)
EachAfter-append {X} P past [] ys h k = subst (λ (l : List X). EachAfter P l ys) (append-nil past) k
EachAfter-append {X} P past (x ∷ xs) ys h k = (
  h.0,
  EachAfter-append P (past ++ x ∷ []) xs ys h.1 (subst (λ (l : List X). EachAfter P l ys) (sym (append_assoc past (x ∷ []) xs)) k),
)

pub EachAfter-front : {X : Type 0} (P : List X → X → Type 0) (past xs ys : List X) → EachAfter P past (xs ++ ys) → EachAfter P past xs
EachAfter-front P past [] ys h = tt
EachAfter-front P past (x ∷ xs) ys h = (h.0, EachAfter-front P (past ++ x ∷ []) xs ys h.1)

pub EachAfter-back : {X : Type 0} (P : List X → X → Type 0) (past xs ys : List X) → EachAfter P past (xs ++ ys)
    → EachAfter P (past ++ xs) ys
EachAfter-back {X} P past [] ys h = subst (λ (l : List X). EachAfter P l ys) (sym (append-nil past)) h
EachAfter-back {X} P past (x ∷ xs) ys h =
    subst (λ (l : List X). EachAfter P l ys) (append_assoc past (x ∷ []) xs) (EachAfter-back P (past ++ x ∷ []) xs ys h.1)

if_less : {X : Type 0} (a b : ℕ) (x y : X) → a < b → cond (nat_lt a b) x y ≡ x
if_less a b x y e = grind (arith, nat_tests)

if_not_less : {X : Type 0} (a b : ℕ) (x y : X) → b ≤ a → cond (nat_lt a b) x y ≡ y
if_not_less a b x y e = grind (arith, nat_tests)

-- a filter of moves by their times
pub before-all : (at : ℕ) (moves : List Move) → All (λ m. m.due.time < at) moves → before at moves ≡ moves
before-all at [] h = refl
before-all at (m ∷ ms) h =
    if_less m.due.time at (m ∷ before at ms) (before at ms) (All-head (IsEarlier at) m ms h)
    ∙ ap (λ (l : List Move). m ∷ l) (before-all at ms (All-tail (IsEarlier at) m ms h))

pub before-none : (at : ℕ) (moves : List Move) → All (λ m. at ≤ m.due.time) moves → before at moves ≡ []
before-none at [] h = refl
before-none at (m ∷ ms) h =
    if_not_less m.due.time at (m ∷ before at ms) (before at ms) (All-head (IsLater at) m ms h)
    ∙ before-none at ms (All-tail (IsLater at) m ms h)

before-cons : (at : ℕ) (m : Move) (ms ys : List Move) → before at (ms ++ ys) ≡ before at ms ++ before at ys
    → before at ((m ∷ ms) ++ ys) ≡ before at (m ∷ ms) ++ before at ys
before-cons at m ms ys e =
    ⊎_elim
    (λ (lt : m.due.time < at). if_less m.due.time at (m ∷ before at (ms ++ ys)) (before at (ms ++ ys)) lt
    ∙ ap (λ (l : List Move). m ∷ l) e
    ∙ ap (λ (l : List Move). l ++ before at ys) (sym (if_less m.due.time at (m ∷ before at ms) (before at ms) lt)))
    (λ (le : at ≤ m.due.time). if_not_less m.due.time at (m ∷ before at (ms ++ ys)) (before at (ms ++ ys)) le ∙ e
    ∙ ap (λ (l : List Move). l ++ before at ys) (sym (if_not_less m.due.time at (m ∷ before at ms) (before at ms) le)))
    (cases_lt m.due.time at)

pub before-append : (at : ℕ) (ms ys : List Move) → before at (ms ++ ys) ≡ before at ms ++ before at ys
before-append at [] ys = refl
before-append at (m ∷ ms) ys = before-cons at m ms ys (before-append at ms ys)

-- the moves before a time, and those that follow
pub record Cut (at : ℕ) (moves : List Move) : Type 0 where
  pub rest : List Move
  pub whole : moves ≡ before at moves ++ rest
  pub earlier : All (λ m. m.due.time < at) (before at moves)
  pub later : All (λ m. at ≤ m.due.time) rest

-- moves that follow one aren't earlier
after_first : (past more : List Move) (m : Move) (ms : List Move) → EachAfter IsInOrder ((past ++ m ∷ []) ++ more) ms
    → All (λ x. m.due.time ≤ x.due.time) ms
after_first past more m [] h = All-nil (IsLater m.due.time)
after_first past more m (x ∷ xs) h =
    All-cons (IsLater m.due.time) x xs (in_order-member past more m x h.0).by_time
    (after_first past (more ++ x ∷ []) m xs
    (subst (λ (l : List Move). EachAfter IsInOrder l xs) (append_assoc (past ++ m ∷ []) more (x ∷ [])) h.1))

-- a run is cut at any time
pub cut_from : (at : ℕ) (past moves : List Move) → EachAfter IsInOrder past moves → Cut at moves
cut_from at past [] h = record {
  rest = [];
  whole = refl;
  earlier = All-nil (IsEarlier at);
  later = All-nil (IsLater at);
}
cut_from at past (m ∷ ms) h =
    ⊎_elim
    (λ (lt : m.due.time < at).
    let c = cut_from at (past ++ m ∷ []) ms h.1 in
    let is = if_less m.due.time at (m ∷ before at ms) (before at ms) lt in
    let taken : Cut at (m ∷ ms) = record {
      rest = c.rest;
      whole = ap (λ (l : List Move). m ∷ l) c.whole ∙ ap (λ (l : List Move). l ++ c.rest) (sym is);
      earlier = subst (λ (l : List Move). All (λ x. x.due.time < at) l) (sym is) (All-cons (IsEarlier at) m (before at ms) lt c.earlier);
      later = c.later;
    } in
    taken)
    (λ (le : at ≤ m.due.time).
    let later : All (λ x. at ≤ x.due.time) (m ∷ ms) =
    All-cons (IsLater at) m ms le (All-change (IsLater m.due.time) (IsLater at) ms (λ x k. omega arith)
    (after_first past [] m ms (subst (λ (l : List Move). EachAfter IsInOrder l ms) (sym (append-nil (past ++ m ∷ []))) h.1))) in
    let none = before-none at (m ∷ ms) later in
    let left : Cut at (m ∷ ms) = record {
      rest = m ∷ ms;
      whole = ap (λ (l : List Move). l ++ m ∷ ms) (sym none);
      earlier = subst (λ (l : List Move). All (λ x. x.due.time < at) l) (sym none) (All-nil (IsEarlier at));
      later = later;
    } in
    left)
    (cases_lt m.due.time at)

-- what is due on a port, up to the end, is a move that follows
next_due : (plan : Plan) (past rest : List Move) (p : ℕ) (d : Due) (at : ℕ) → Rest plan past rest → p < count plan
    → due_after plan past p ≡ Some d → d.time ≤ plan.end → All (λ m. at ≤ m.due.time) rest → at ≤ d.time
next_due plan past [] p d at run k e soon later =
    let late : plan.end < d.time = subst (λ (l : List Move). IsDone plan l p) (append-nil past) (run.complete p k) d e in
    absurd (omega arith)
next_due plan past (m ∷ ms) p d at run k e soon later =
    ⊎_elim
    (λ (same : m.port ≡ p).
    let is_due : m.due ≡ d = same_Some _ _ (sym run.chained.0.due_is ∙ ap (due_after plan past) same ∙ e) in
    let there : at ≤ m.due.time = All-head (IsLater at) m ms later in
    let time = ap (λ (x : Due). x.time) is_due in
    omega (arith, time))
    (λ (other : m.port ≢ p).
    next_due plan (past ++ m ∷ []) ms p d at (tail plan past m ms run) k (due_after-other plan past m p other ∙ e) soon
    (All-tail (IsLater at) m ms later))
    (cases_eq m.port p)

-- earlier moves are no later
pub earlier_none : (t p : ℕ) (moves : List Move) → All (λ m. m.due.time < t) moves → NoneLater t p moves
earlier_none t p [] h = tt
earlier_none t p (m ∷ ms) h =
    let lt : m.due.time < t = All-head (IsEarlier t) m ms h in
    (record { by_time = omega arith; by_port = λ e. omega arith }, earlier_none t p ms (All-tail (IsEarlier t) m ms h))

pub timely_all : (plan : Plan) (past moves : List Move) (t : ℕ) → EachAfter (λ _ m. m.due.time ≤ plan.end) past moves → plan.end < t
    → All (λ m. m.due.time < t) moves
timely_all plan past [] t h lt = All-nil (IsEarlier t)
timely_all plan past (m ∷ ms) t h lt =
    let soon : m.due.time ≤ plan.end = h.0 in
    All-cons (IsEarlier t) m ms (omega arith) (timely_all plan (past ++ m ∷ []) ms t h.1 lt)

-- moves that go on one from another, before a time before which nothing is due any more
pub up_to : (plan : Plan) (moves : List Move) (at : ℕ) → EachAfter (GoesOn plan) [] moves → EachAfter IsInOrder [] moves
    → EachAfter (IsAnswered plan) [] moves → EachAfter (λ _ m. m.due.time ≤ plan.end) [] moves → All (λ m. m.due.time < at) moves
    → ((p : ℕ) (d : Due) → p < count plan → due_after plan moves p ≡ Some d → d.time ≤ plan.end → at ≤ d.time) → IsUpTo plan moves at
up_to plan moves at chained ordered answered timely earlier passed = record {
  runs = record {
    chained = chained;
    ordered = ordered;
    answered = answered;
    timely = timely;
    ahead = λ p d k e.
        ⊎_elim
        (λ (late : plan.end < d.time). earlier_none d.time p moves (timely_all plan [] moves d.time timely late))
        (λ (soon : d.time ≤ plan.end).
        let later = passed p d k e soon in
        earlier_none d.time p moves (All-change (IsEarlier at) (IsEarlier d.time) moves (λ m lt. omega arith) earlier))
        (cases_lt plan.end d.time);
  };
  earlier = earlier;
  passed = passed;
}

-- the moves of a run before a time are the run up to it
pub run_up_to : (plan : Plan) (moves : List Move) (at : ℕ) → Run plan moves → IsUpTo plan (before at moves) at
run_up_to plan moves at r =
    let c = cut_from at [] moves r.ordered in
    let front : List Move = before at moves in
    let whole : Run plan (front ++ c.rest) = subst (Run plan) c.whole r in
    let left : Rest plan front c.rest = record {
      chained = EachAfter-back (GoesOn plan) [] front c.rest whole.chained;
      ordered = EachAfter-back IsInOrder [] front c.rest whole.ordered;
      answered = EachAfter-back (IsAnswered plan) [] front c.rest whole.answered;
      timely = EachAfter-back (λ _ m. m.due.time ≤ plan.end) [] front c.rest whole.timely;
      complete = whole.complete;
    } in
    up_to plan front at (EachAfter-front (GoesOn plan) [] front c.rest whole.chained)
    (EachAfter-front IsInOrder [] front c.rest whole.ordered) (EachAfter-front (IsAnswered plan) [] front c.rest whole.answered)
    (EachAfter-front (λ _ m. m.due.time ≤ plan.end) [] front c.rest whole.timely) c.earlier
    (λ p d k e soon. next_due plan front c.rest p d at left k e soon c.later)

-- at the start
pub starts_up_to : (plan : Plan) (at : ℕ) → at ≡ 0 → IsUpTo plan [] at
starts_up_to plan at e = record { runs = runs_start plan; earlier = All-nil (IsEarlier at); passed = λ p d k is soon. omega arith }

-- after the end
pub ends_up_to : (plan : Plan) (moves : List Move) (at : ℕ) → plan.end < at → IsUpTo plan moves at → Run plan moves
ends_up_to plan moves at past u = record {
  chained = u.runs.chained;
  ordered = u.runs.ordered;
  answered = u.runs.answered;
  timely = u.runs.timely;
  complete = λ p k d e.
      ⊎_elim (λ (late : plan.end < d.time). late)
      (λ (soon : d.time ≤ plan.end). let later = u.passed p d k e soon in absurd (omega arith))
      (cases_lt plan.end d.time);
}

-- a run is safe
pub run_is_safe : (n : ℕ) (plan : Plan) (moves : List Move) → IsPlan n plan → Run plan moves → SafeRun plan moves
run_is_safe n plan moves is run = record {
  run = run;
  within = fits_run n plan moves is run;
  sound = runs_are_sound plan moves run;
  shed =
      sheds_always_last plan moves run;
}

-- where the next move isn't before a time, ports that move have come up to it
pub next_up_to : (plan : Plan) (moves : List Move) (live : LiveData) (port at : ℕ) (d : Due) → StandsAfter plan moves live
    → All (λ m. m.due.time < at) moves → IsNext plan live port d → at ≤ d.time → IsUpTo plan moves at
next_up_to plan moves live port at d s earlier next later = record {
  runs = s.runs;
  earlier = earlier;
  passed = λ p f k e soon. let first = (next.first.least p f k (s.dues_are p k ∙ e)).by_time in omega arith;
}

-- and so they have where nothing is due any more
pub over_up_to : (plan : Plan) (moves : List Move) (live : LiveData) (at : ℕ) → StandsAfter plan moves live
    → All (λ m. m.due.time < at) moves → IsOver plan live (count plan) → IsUpTo plan moves at
over_up_to plan moves live at s earlier over = record {
  runs = s.runs;
  earlier = earlier;
  passed = λ p f k e soon. let late = over.late p f k (s.dues_are p k ∙ e) in absurd (omega arith);
}
