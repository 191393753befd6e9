use Rattle.std.proofs.Common.{All, ◌≡◌, ◌<◌, ◌≤◌, ◌-◌, ◌++◌, ◌∷◌, [], List, ℕ, length, map, refl, arith, ap, sym, ◌∙◌, subst}
use Rattle.std.proofs.Common.{slice_index_or, append_assoc, None}
use Rattle.std.proofs.lemmas.List.{append-nil, map-append, length-map}
use Rattle.std.proofs.lemmas.List.Elements.{All-push}
use Rattle.pd_port.specs.Port.{PortData}
use Rattle.pd_scenario.specs.Plan.{count}
use Rattle.pd_run.specs.Order.{EachAfter}
use Rattle.pd_run.specs.Run.{Move, IsInOrder}
use Rattle.pd_run.specs.Live.{LiveData, StandsAfter, IsNextBeside, port_at, port_after, due_at, moved_port, next_move}
use Rattle.pd_run.specs.StepsLeft.{steps_left}
use Rattle.pd_run.specs.Start.{no_port}
use Rattle.pd_run.specs.UpTo.{IsUpTo}
use Rattle.pd_run.proofs.Steps.{StandsAfter-asked, StandsAfter-moved, IsNext-asked, reply_known}
use Rattle.pd_run.proofs.StepsLeft.{steps_left_less}
use Rattle.pd_run.proofs.Cut.{All-nil, All-append, EachAfter-back, IsEarlier, IsLater, next_up_to}
use Rattle.pd_keep.specs.declared.rank.Rank.{Rank}
use Rattle.pd_keep.specs.Kept.{KeptData, move_of, kept_of, IsKnown, IsOwn, NoneStands}
use Rattle.pd_keep.specs.Places.{ArePlaced}
use Rattle.pd_keep.specs.Kept.{RunData}
use Rattle.pd_keep.proofs.Fresh.{fresh_step}
use Rattle.pd_keep.proofs.InTime.{times}
use Rattle.pd_keep.proofs.Later.{due_later_yet, between_some}
use Rattle.pd_keep.proofs.Made.{kept_is_next, kept_is_own, kept_is_moved, charges_those}
use Rattle.pd_keep.proofs.Places.{AreLeft, left_moved, placed_at_budget, placed_more}
use Rattle.pd_keep.proofs.Shows.{begins_with_live, begins_same}
use Rattle.pd_keep.proofs.one_span.run_span.Goals as goal

pub reply_beside-asked-requires : goal.reply_beside-asked-requires
reply_beside-asked-requires g c =
    let i = c.loop-port.invariant in
    let next = c.in-Some.ensures.next.0 in
    let past = c.requires.stands.0 in (
      omega arith,
      (
        omega arith,
        (
          next.from_one,
          (
            omega (arith, next.first.known, next.from_one, c.in-Some.ensures.is_plan.settings_count),
            (i.stands past c.requires.stands.1).floors_are,
          ),
        ),
      ),
    )

pub make-requires : goal.make-requires
make-requires g c =
    let i = c.loop-port.invariant in
    let past = c.requires.stands.0 in
    let moves : List Move = past ++ map move_of c.loop-port.span.moves in
    let live : LiveData = c.reply_beside-asked.new.self in
    let port = c.in-Some.port in
    let d = c.in-Some.due in
    let is = c.reply_beside-asked.ensures.budget in
    let stands = StandsAfter-asked c.args.plan.now moves c.loop-port.live live d.time is (i.stands past c.requires.stands.1) in
    let next = IsNext-asked c.args.plan.now c.loop-port.live live port d is c.in-Some.ensures.next.0 in
    let budget = ap (λ (l : LiveData). l.account.budget) is in
    let made = c.requires.made in
    let before = subst (λ (r : Rank). NoneStands r c.args.old.now.moves c.seek-from.result) c.of.ensures c.seek-from.ensures in
    let plan = c.in-Some.ensures.is_plan in
    let query = c.reply_beside-asked.ensures.query in
    let answer = c.reply_beside-asked.ensures.answer in
    let p = c.in-Some.port - 1 in
    let known : p < g.row.N = omega (arith, plan.settings_count, next.first.known) in
    let old : RunData = c.args.old.now in
    let left = subst (λ (l : LiveData). IsKnown old.first old.moves p (slice_index_or c.loop-port.places p None) (port_at l p))
    (sym is) (i.placed.placed p known) in
    let beside : IsNextBeside c.args.plan.now moves live port d live =
    record { stood = stands; next = next; budget = budget; port_is = refl; taken_is = refl; account_is = refl } in
    let room = stands.ports_count ∙ plan.settings_count in
    (omega arith, (omega arith, (made, (before, (left, (plan, (room, ((moves, live, beside), (query, answer)))))))))

pub push-requires : goal.push-requires
push-requires g c =
    let next = c.in-Some.ensures.next.0 in
    let known = next.first.known in
    let count = c.in-Some.ensures.is_plan.settings_count in
    let p = c.in-Some.port - 1 in
    let before : c.in_ok-kept.kept.before ≡ port_at c.loop-port.live p =
    ap (λ (k : KeptData). k.before) c.in_ok-kept.ensures.kept ∙ ap (λ (l : LiveData). port_at l p) c.reply_beside-asked.ensures.budget in
    let few = c.in-Some.ensures.is_plan.few_ports in
    record {
      first = next.from_one;
      last = omega (arith, known, count, few);
      port = sym (ap (λ (k : KeptData). k.port) c.in_ok-kept.ensures.kept);
      marks = c.in_ok-kept.ensures.marks;
      goes = before ∙ c.loop-port.invariant.left p (omega (arith, known, count));
    }

pub loop-port-init : goal.loop-port-init
loop-port-init g c =
    let nothing : c.in_ok-span.span.moves ≡ [] = ap (λ (r : RunData). r.moves) c.in_ok-span.ensures in
    let first = ap (λ (r : RunData). r.first) c.in_ok-span.ensures in
    rw nothing (record {
      stands = λ past s. subst (λ (l : List Move). StandsAfter c.args.plan.now l c.args.live.now) (sym (append-nil past)) s;
      own = All-nil (IsOwn c.args.plan.now);
      begun = λ past s. begins_with_live g.row.N c.args.plan.now past c.args.live.now _ c.end-end.ensures.is_plan s
          (first ∙ c.in_ok-ports.ensures);
      placed = c.requires.placed;
      left = λ p lt. sym (ap (λ (l : List PortData). slice_index_or l p no_port) (first ∙ c.in_ok-ports.ensures));
      earlier = All-nil (IsEarlier c.args.to);
      later = λ past from s up. All-nil (IsLater from);
      rises = omega arith;
      cost = λ old_plan all past from own those s up. (0, refl, omega arith);
    })

pub loop-port-smaller : goal.loop-port-smaller
loop-port-smaller g c =
    let same : steps_left c.args.plan.now c.reply_beside-asked.new.self ≡ steps_left c.args.plan.now c.loop-port.live =
    ap (steps_left c.args.plan.now) c.reply_beside-asked.ensures.budget in
    let plan = c.args.plan.now in
    let past = c.requires.stands.0 in
    let moves : List Move = past ++ map move_of c.loop-port.span.moves in
    let is = c.in-Some.ensures.is_plan in
    let asked_is = c.reply_beside-asked.ensures.budget in
    let stands = StandsAfter-asked plan moves c.loop-port.live c.reply_beside-asked.new.self c.in-Some.due.time asked_is
    (c.loop-port.invariant.stands past c.requires.stands.1) in
    let next = IsNext-asked plan c.loop-port.live c.reply_beside-asked.new.self c.in-Some.port c.in-Some.due asked_is
    c.in-Some.ensures.next.0 in
    let budget = ap (λ (l : LiveData). l.account.budget) asked_is in
    let less = steps_left_less g.row.N plan moves c.reply_beside-asked.new.self _ (c.in-Some.port - 1) c.in-Some.due is stands next.first
    (StandsAfter-moved g.row.N plan moves c.reply_beside-asked.new.self c.in-Some.port c.in-Some.due is stands next budget) in
    let moved = ap (steps_left plan) c.in_ok-kept.ensures.moved in
    omega (arith, less, moved)

pub loop-port-preserved : goal.loop-port-preserved
loop-port-preserved g c =
    let plan = c.args.plan.now in
    let i = c.loop-port.invariant in
    let stood : LiveData = c.loop-port.live in
    let live : LiveData = c.reply_beside-asked.new.self in
    let new : LiveData = c.make.new.live in
    let kept : List KeptData = c.loop-port.span.moves in
    let moves : List Move = map move_of kept in
    let port = c.in-Some.port in
    let p = c.in-Some.port - 1 in
    let d = c.in-Some.due in
    let a = c.reply_beside-asked.result.answer in
    let next = c.in-Some.ensures.next.0 in
    let soon : d.time < c.args.to = c.in-Some.ensures.next.1 in
    let known : p < count plan = next.first.known in
    let past = c.requires.stands.0 in
    let all : List Move = past ++ moves in
    let asked_is = c.reply_beside-asked.ensures.budget in
    let budget = ap (λ (l : LiveData). l.account.budget) asked_is in
    let stands : StandsAfter plan all live = StandsAfter-asked plan all stood live d.time asked_is (i.stands past c.requires.stands.1) in
    let x : PortData = port_at live p in
    let x_is : x ≡ port_after plan all p = stands.ports_are p known in
    let k : KeptData = kept_of port x d a in
    let own : IsOwn plan k = kept_is_own plan all port x d a next.from_one x_is in
    let pushed : c.push.new.self.moves ≡ kept ++ k ∷ [] =
    ap (λ (r : RunData). r.moves) c.in_ok-push.ensures ∙ ap (λ (z : KeptData). kept ++ z ∷ []) c.in_ok-kept.ensures.kept in
    let first = ap (λ (r : RunData). r.first) c.in_ok-push.ensures in
    let few = c.in-Some.ensures.is_plan.few_ports in
    let to_moves : map move_of c.push.new.self.moves ≡ moves ++ move_of k ∷ [] =
    ap (map move_of) pushed ∙ map-append move_of kept (k ∷ []) in
    let not_before : (o : List Move) (from : ℕ) → StandsAfter plan o c.args.live.now → IsUpTo plan o from → from ≤ d.time =
    λ o from s up.
    let os = StandsAfter-asked plan (o ++ moves) stood live d.time asked_is (i.stands o s) in
    due_later_yet plan o moves from p d up os.runs known
    (sym (os.dues_are p known) ∙ ap (λ (l : LiveData). due_at l p) c.reply_beside-asked.ensures.budget ∙ next.first.is_due)
    next.first.soon in
    let moved_ports = ap (λ (l : LiveData). l.ports) c.in_ok-kept.ensures.moved in
    rw to_moves (record {
      stands = λ o s.
          let os = StandsAfter-asked plan (o ++ moves) stood live d.time asked_is (i.stands o s) in
          let ox : x ≡ port_after plan (o ++ moves) p = os.ports_are p known in
          let oa = c.reply_beside-asked.ensures.answer ∙ reply_known plan (o ++ moves) live p d os budget known in
          let same = kept_is_next plan (o ++ moves) port x d a ox oa in
          let then = StandsAfter-moved g.row.N plan (o ++ moves) live port d c.in-Some.ensures.is_plan os
          (IsNext-asked plan stood live port d asked_is next) budget in
          subst (λ (l : List Move). StandsAfter plan l new) (append_assoc o moves (move_of k ∷ []))
          (subst (λ (z : Move). StandsAfter plan ((o ++ moves) ++ z ∷ []) new) (sym same)
          (subst (λ (l : LiveData). StandsAfter plan ((o ++ moves) ++ next_move plan (o ++ moves) p d ∷ []) l)
          (sym c.in_ok-kept.ensures.moved) then));
      own = rw pushed (All-push (IsOwn plan) kept k i.own own);
      begun = λ o s. begins_same g.row.N plan o c.loop-port.span c.push.new.self first (i.begun o s);
      placed = placed_more g.row.N c.args.old.now c.loop-port.places live new p (moved_port live p d) c.in_ok-kept.at
          few (stands.ports_count ∙ c.in-Some.ensures.is_plan.settings_count)
          (omega (arith, known, c.in-Some.ensures.is_plan.settings_count)) moved_ports c.in_ok-kept.ensures.found
          (subst (ArePlaced g.row.N c.args.old.now c.loop-port.places) (sym c.reply_beside-asked.ensures.budget)
          (placed_at_budget g.row.N c.args.old.now c.loop-port.places stood _ i.placed));
      left = left_moved g.row.N c.loop-port.span c.push.new.self live new p k (moved_port live p d)
          (stands.ports_count ∙ c.in-Some.ensures.is_plan.settings_count)
          (omega (arith, known, c.in-Some.ensures.is_plan.settings_count)) refl
          (kept_is_moved live p port x d a refl c.reply_beside-asked.ensures.answer) moved_ports first pushed
          (subst (AreLeft g.row.N c.loop-port.span) (sym c.reply_beside-asked.ensures.budget) i.left);
      earlier = All-push (IsEarlier c.args.to) moves (move_of k) i.earlier soon;
      later = λ o from s up. All-push (IsLater from) moves (move_of k) (i.later o from s up) (not_before o from s up);
      rises = omega (arith, i.rises, c.make.ensures.rises);
      cost = λ old_plan old past from own_old those s up.
          fresh_step old_plan plan old moves port x d a _ _ _ next.from_one own_old own.settings
          (charges_those old c.args.old.now.moves k from c.args.to _ _ those (not_before past from s up) soon c.in_ok-kept.ensures.charges)
          (i.cost old_plan old past from own_old those s up);
    })

pub end_before-requires : goal.end_before-requires
end_before-requires g c = λ a b e le lt.
    let i = c.loop-port.invariant in
    let past = c.requires.stands.0 in
    let moves : List Move = map move_of c.loop-port.span.moves in
    let stands : StandsAfter c.args.plan.now (past ++ moves) c.loop-port.live = i.stands past c.requires.stands.1 in
    let ordered : EachAfter IsInOrder past moves = EachAfter-back IsInOrder [] past moves stands.runs.ordered in
    times c.loop-port.span.moves past a b e ordered le lt

pub returns-in-Some-end_before-clause-span : goal.returns-in-Some-end_before-clause-span
returns-in-Some-end_before-clause-span g c = λ past from lt s up.
    let i = c.loop-port.invariant in
    let moves : List Move = map move_of c.loop-port.span.moves in
    let end = c.in-Some-end_before.end in
    let w = c.in-Some-end_before.ensures in
    let later : All (IsLater from) moves = i.later past from s up in
    let some : 0 < length moves = (let count = length-map c.loop-port.span.moves move_of in omega (arith, count, w.1)) in
    let rising : from < end = between_some moves from end some later w.2 in
    rw c.ended.ensures (record {
      rising = rising;
      begun = begins_same g.row.N c.args.plan.now past c.loop-port.span _ refl (i.begun past s);
      own = i.own;
      later = later;
      up = next_up_to c.args.plan.now (past ++ moves) c.loop-port.live c.in-Some.port end c.in-Some.due (i.stands past s)
          (All-append (IsEarlier end) past moves (λ k d inside. let e = up.earlier k d inside in omega (arith, e, rising)) w.2)
          c.in-Some.ensures.next.0 w.0;
    })

pub returns-in-Some-end_before-clause-cost : goal.returns-in-Some-end_before-clause-cost
returns-in-Some-end_before-clause-cost g c = rw c.ended.ensures c.loop-port.invariant.cost

pub returns-clause-span : goal.returns-clause-span
returns-clause-span g c = λ past from lt s up.
    let i = c.loop-port.invariant in
    let moves : List Move = map move_of c.loop-port.span.moves in
    rw c.ended-2.ensures (record {
      rising = lt;
      begun = begins_same g.row.N c.args.plan.now past c.loop-port.span _ refl (i.begun past s);
      own = i.own;
      later = i.later past from s up;
      up = c.in_default.ensures.none (past ++ moves) (i.stands past s)
          (All-append (IsEarlier c.args.to) past moves (λ k d inside. let e = up.earlier k d inside in omega arith) i.earlier);
    })

pub returns-clause-stands : goal.returns-clause-stands
returns-clause-stands g c = rw c.ended-2.ensures c.loop-port.invariant.stands

pub returns-clause-cost : goal.returns-clause-cost
returns-clause-cost g c = rw c.ended-2.ensures c.loop-port.invariant.cost
