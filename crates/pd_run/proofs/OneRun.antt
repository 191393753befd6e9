-- A plan has at most one run.
use Rattle.std.proofs.Common.{◌≡◌, ◌≢◌, ℕ, ◌<◌, ◌≤◌, ⊎_elim, List, [], ◌∷◌, ◌++◌, Option, Some, refl, ap, sym, ◌∙◌, subst, arith}
use Rattle.std.proofs.Common.{append_assoc}
use Rattle.std.proofs.lemmas.List.{append-nil}
use Rattle.std.proofs.lemmas.Bool.{cases_eq}
use Rattle.std.proofs.lemmas.Option.{same_Some}
use Rattle.pd_objects.specs.declared.query.Answer.{Answer}
use Rattle.pd_port.specs.declared.due.Due.{Due}
use Rattle.pd_port.specs.declared.entry.Entry.{Entry}
use Rattle.pd_port.specs.Port.{PortRecord, ask, entry_of}
use Rattle.pd_scenario.specs.Plan.{Plan, count, settings_of}
use Rattle.pd_run.specs.Order.{EachAfter, IsNoLater}
use Rattle.pd_run.specs.Run.{Move, standing, GoesOn, IsInOrder, IsAnswered, IsDone, Run, due_after, reply_after}
use Rattle.pd_run.proofs.Moves.{due_after-other, in_order-member}

-- what is left of a run after these moves
pub record Rest (plan : Plan) (past rest : List Move) : Type 0 where
  pub chained : EachAfter (GoesOn plan) past rest
  pub ordered : EachAfter IsInOrder past rest
  pub answered : EachAfter (IsAnswered plan) past rest
  pub timely : EachAfter (λ _ m. m.due.time ≤ plan.end) past rest
  pub complete : (p : ℕ) → p < count plan → IsDone plan (past ++ rest) p

pub tail : (plan : Plan) (past : List Move) (x : Move) (xs : List Move) → Rest plan past (x ∷ xs) → Rest plan (past ++ x ∷ []) xs
tail plan past x xs r = record {
  chained = r.chained.1;
  ordered = r.ordered.1;
  answered = r.answered.1;
  timely = r.timely.1;
  complete = λ p k. subst (λ (l : List Move). IsDone plan l p) (sym (append_assoc past (x ∷ []) xs)) (r.complete p k);
}

same_place : (t q u p v r : ℕ) → IsNoLater t q u p → u ≡ v → p ≡ r → IsNoLater t q v r
same_place t q u p v r h e f = record { by_time = omega (arith, h.by_time); by_port = λ g. omega (arith, h.by_port) }

-- what is due is moved in the end, and nothing that comes before that is later
waits : (plan : Plan) (past rest : List Move) (p t q : ℕ) (d : Due) → Rest plan past rest → p < count plan → due_after plan past p ≡ Some d
    → d.time ≤ plan.end → ((m : Move) (more : List Move) → IsInOrder (past ++ more) m → IsNoLater t q m.due.time m.port)
    → IsNoLater t q d.time p
waits plan past [] p t q d run k e soon least =
    let late : plan.end < d.time = subst (λ (l : List Move). IsDone plan l p) (append-nil past) (run.complete p k) d e in
    absurd (omega arith)
waits plan past (m ∷ ms) p t q d run k e soon least =
    ⊎_elim
    (λ (same : m.port ≡ p).
    let is_due : m.due ≡ d = same_Some _ _ (sym run.chained.0.due_is ∙ ap (due_after plan past) same ∙ e) in
    let first : IsNoLater t q m.due.time m.port =
    least m [] (subst (λ (l : List Move). IsInOrder l m) (sym (append-nil past)) run.ordered.0) in
    same_place t q m.due.time m.port d.time p first (ap (λ (x : Due). x.time) is_due) same)
    (λ (other : m.port ≢ p).
    waits plan (past ++ m ∷ []) ms p t q d (tail plan past m ms run) k (due_after-other plan past m p other ∙ e) soon
    (λ x more h. least x (m ∷ more) (subst (λ (l : List Move). IsInOrder l x) (append_assoc past (m ∷ []) more) h)))
    (cases_eq m.port p)

-- the first move of what is left isn't later than what is due on another port
pub first_first : (plan : Plan) (past : List Move) (x : Move) (xs : List Move) (p : ℕ) (d : Due) → Rest plan past (x ∷ xs) → p < count plan
    → x.port ≢ p → due_after plan past p ≡ Some d → d.time ≤ plan.end → IsNoLater x.due.time x.port d.time p
first_first plan past x xs p d run k ne e soon =
    waits plan (past ++ x ∷ []) xs p x.due.time x.port d (tail plan past x xs run) k (due_after-other plan past x p ne ∙ e) soon
    (λ m more h. in_order-member past more x m h)

-- two that aren't later than one another are at one place
one_place : (t p u q : ℕ) → IsNoLater t p u q → IsNoLater u q t p → p ≡ q
one_place t p u q h k = omega (arith, h.by_time, h.by_port, k.by_time, k.by_port)

make : ℕ → PortRecord → Due → Option Answer → Entry → Move
make p b d a e = record { port = p; before = b; due = d; answer = a; entry = e }

-- two moves of one port are one
pub same_move : (plan : Plan) (past : List Move) (x y : Move) → GoesOn plan past x → GoesOn plan past y → IsAnswered plan past x
    → IsAnswered plan past y → x.port ≡ y.port → x ≡ y
unfolding make
same_move plan past x y gx gy ax ay e =
    let b : x.before ≡ y.before = gx.before_is ∙ ap (λ p. (standing plan past p).state) e ∙ sym gy.before_is in
    let d : x.due ≡ y.due = same_Some _ _ (sym gx.due_is ∙ ap (due_after plan past) e ∙ gy.due_is) in
    let a : x.answer ≡ y.answer = ax ∙ ap (λ p. reply_after plan past x.due.time p (ask (settings_of plan p) x.before x.due)) e
    ∙ ap (λ (r : PortRecord). reply_after plan past x.due.time y.port (ask (settings_of plan y.port) r x.due)) b
    ∙ ap (λ (f : Due). reply_after plan past f.time y.port (ask (settings_of plan y.port) y.before f)) d ∙ sym ay in
    let n : x.entry ≡ y.entry = gx.entry_is ∙ ap (λ p. entry_of (settings_of plan p) x.before x.due x.answer) e
    ∙ ap (λ (r : PortRecord). entry_of (settings_of plan y.port) r x.due x.answer) b
    ∙ ap (λ (f : Due). entry_of (settings_of plan y.port) y.before f x.answer) d
    ∙ ap (entry_of (settings_of plan y.port) y.before y.due) a ∙ sym gy.entry_is in
    let same : make x.port x.before x.due x.answer x.entry ≡ make y.port y.before y.due y.answer y.entry = cc in
    same

one_rest : (plan : Plan) (past a b : List Move) → Rest plan past a → Rest plan past b → a ≡ b
one_rest plan past [] [] ra rb = refl
one_rest plan past [] (y ∷ ys) ra rb =
    let late : plan.end < y.due.time =
    subst (λ (l : List Move). IsDone plan l y.port) (append-nil past) (ra.complete y.port rb.chained.0.known) y.due
    rb.chained.0.due_is in
    absurd (omega (arith, rb.timely.0))
one_rest plan past (x ∷ xs) [] ra rb =
    let late : plan.end < x.due.time =
    subst (λ (l : List Move). IsDone plan l x.port) (append-nil past) (rb.complete x.port ra.chained.0.known) x.due
    ra.chained.0.due_is in
    absurd (omega (arith, ra.timely.0))
one_rest plan past (x ∷ xs) (y ∷ ys) ra rb =
    let port : x.port ≡ y.port = ⊎_elim
    (λ (same : x.port ≡ y.port). same)
    (λ (other : x.port ≢ y.port).
    let back : y.port ≢ x.port = λ e. other (sym e) in
    one_place x.due.time x.port y.due.time y.port
    (first_first plan past x xs y.port y.due ra rb.chained.0.known other rb.chained.0.due_is rb.timely.0)
    (first_first plan past y ys x.port x.due rb ra.chained.0.known back ra.chained.0.due_is ra.timely.0))
    (cases_eq x.port y.port) in
    let head : x ≡ y = same_move plan past x y ra.chained.0 rb.chained.0 ra.answered.0 rb.answered.0 port in
    let after_y = subst (λ (m : Move). Rest plan (past ++ m ∷ []) xs) head (tail plan past x xs ra) in
    let tails : xs ≡ ys = one_rest plan (past ++ y ∷ []) xs ys after_y (tail plan past y ys rb) in
    ap (λ (m : Move). m ∷ xs) head ∙ ap (λ (l : List Move). y ∷ l) tails

pub whole : (plan : Plan) (a : List Move) → Run plan a → Rest plan [] a
whole plan a r = record { chained = r.chained; ordered = r.ordered; answered = r.answered; timely = r.timely; complete = r.complete }

-- a plan has at most one run
pub run_unique : (plan : Plan) (a b : List Move) → Run plan a → Run plan b → a ≡ b
run_unique plan a b ra rb = one_rest plan [] a b (whole plan a ra) (whole plan b rb)
