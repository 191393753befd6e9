use Rattle.std.proofs.Common.{◌≡◌, ◌-◌, arith, ◌++◌, ◌∷◌, ◌∙◌, [], List, ap, length, sym}
use Rattle.pd_run.specs.Run.{Move, shown}
use Rattle.pd_run.specs.Live.{next_move}
use Rattle.pd_watch.specs.Watch.{WatchData, after_step}
use Rattle.pd_watch.proofs.Watched.{step_length}
use Rattle.pd_show.specs.declared.seen.Seen.{Seen}
use Rattle.pd_show.specs.Seen.{all_seen, seen_of}
use Rattle.pd_show.proofs.ShowLemmas.{seen_push, watched, watched_push}
use Rattle.pd_chart.specs.Curves.{curves_of}
use Rattle.pd_draw.specs.Lanes.{drawn_of}
use Rattle.pd_draw.proofs.WalkLemmas.{before_more, curves_more, first_port, lanes_more, last_port, texts_more, texts_of}
use Rattle.pd_draw.proofs.walk.draw.Goals as goal

pub step_seen-requires : goal.step_seen-requires
step_seen-requires g c =
    let i = c.loop-port.invariant in
    let known = c.in-Some.ensures.next.first.known in
    let settings = c.in-Some.ensures.is_plan.settings_count in
    let watches = c.loop-port.invariant.ports in (
      omega arith,
      (
        omega arith,
        (
          c.in-Some.ensures.is_plan,
          (
            (i.moves, i.stands),
            (
              c.in-Some.ensures.next,
              omega (arith, known, settings, watches),
            ),
          ),
        ),
      ),
    )

pub see-requires-clause-from_one : goal.see-requires-clause-from_one
see-requires-clause-from_one g c =
    let i = c.loop-port.invariant in
    first_port c.args.plan.now c.loop-port.watches.items i.moves (c.in-Some.port - 1) c.in-Some.due c.in_ok-seen.seen
    (c.in_ok-seen.ensures.seen i.moves i.stands)

pub see-requires-clause-known : goal.see-requires-clause-known
see-requires-clause-known g c =
    let i = c.loop-port.invariant in
    last_port g.row.N c.args.plan.now c.loop-port.watches.items i.moves (c.in-Some.port - 1) c.in-Some.due c.in_ok-seen.seen
    (c.in_ok-seen.ensures.seen i.moves i.stands) c.in-Some.ensures.next.first.known c.in-Some.ensures.is_plan

pub see-requires-in-Some-clause-from_one : goal.see-requires-in-Some-clause-from_one
see-requires-in-Some-clause-from_one g c =
    let i = c.loop-port.invariant in
    first_port c.args.plan.now c.loop-port.watches.items i.moves (c.in-Some.port - 1) c.in-Some.due c.in_ok-seen.seen
    (c.in_ok-seen.ensures.seen i.moves i.stands)

pub see-requires-in-Some-clause-known : goal.see-requires-in-Some-clause-known
see-requires-in-Some-clause-known g c =
    let i = c.loop-port.invariant in
    last_port g.row.N c.args.plan.now c.loop-port.watches.items i.moves (c.in-Some.port - 1) c.in-Some.due c.in_ok-seen.seen
    (c.in_ok-seen.ensures.seen i.moves i.stands) c.in-Some.ensures.next.first.known c.in-Some.ensures.is_plan

pub loop-port-preserved : goal.loop-port-preserved
loop-port-preserved g c =
    let plan = c.args.plan.now in
    let f = c.frame-frame.result in
    let chosen = c.args.look.port in
    let i = c.loop-port.invariant in
    let m : Move = next_move plan i.moves (c.in-Some.port - 1) c.in-Some.due in
    let s : Seen = seen_of plan (watched plan i.moves) m in
    let is : c.in_ok-seen.seen ≡ s =
    c.in_ok-seen.ensures.seen i.moves i.stands ∙ ap (λ (ws : List WatchData). seen_of plan ws m) i.watched in
    let more : all_seen plan i.moves ++ s ∷ [] ≡ all_seen plan (i.moves ++ m ∷ []) = sym (seen_push plan i.moves m) in
    record {
      moves = i.moves ++ m ∷ [];
      stands = c.in_ok-seen.ensures.stands i.moves i.stands;
      watched =
          c.in_ok-seen.ensures.watched i.moves i.stands ∙ ap (λ (ws : List WatchData). after_step ws (shown m)) i.watched
          ∙ sym (watched_push plan i.moves m);
      ports =
          ap length (c.in_ok-seen.ensures.watched i.moves i.stands) ∙ step_length c.loop-port.watches.items (shown m) ∙ i.ports;
      curves_are =
          curves_more f plan (all_seen plan i.moves) s c.in_ok-seen.seen c.loop-port.curves c.see.new.self i.curves_are is
          c.in_ok-see.ensures ∙ ap (curves_of f plan) more;
      lanes_are =
          lanes_more f chosen (all_seen plan i.moves) s c.in_ok-seen.seen c.loop-port.lanes.before c.loop-port.lanes.lanes
          c.see-in-Some.new.self.lanes i.before_is i.lanes_are is
          c.in_ok-see-2.ensures.lanes ∙ ap (λ (v : List Seen). (drawn_of f chosen v).lanes) more;
      before_is =
          before_more f chosen (all_seen plan i.moves) s c.in_ok-seen.seen c.loop-port.lanes.before c.see-in-Some.new.self.before
          i.before_is is c.in_ok-see-2.ensures.before
          ∙ ap (λ (v : List Seen). (drawn_of f chosen v).before) more;
      texts_are =
          texts_more f chosen (all_seen plan i.moves) s c.in_ok-seen.seen c.loop-port.lanes.before c.loop-port.lanes.lanes
          c.loop-port.lanes.texts c.see-in-Some.new.self.texts i.before_is i.lanes_are i.texts_are is c.in_ok-see-2.ensures.texts
          ∙ ap (λ (v : List Seen). texts_of (drawn_of f chosen v).elements) more;
    }
