use Rattle.std.proofs.Common.{◌-◌, ◌++◌, ◌∷◌, ◌∙◌, [], ap, sym, refl, length, arith}
use Rattle.std.proofs.lemmas.List.{length_push}
use Rattle.std.proofs.lemmas.Result.{IfOk-weaker}
use Rattle.pd_run.specs.Run.{Move}
use Rattle.pd_run.specs.Live.{next_move}
use Rattle.pd_why.specs.declared.look.Look.{Look}
use Rattle.pd_why.specs.Looks.{look_of}
use Rattle.pd_why.specs.Story.{heard, told}
use Rattle.pd_why.proofs.StoryLemmas.{story_more}
use Rattle.pd_why.proofs.walk.facts_of.Goals as goal

pub loop-port-preserved : goal.loop-port-preserved
loop-port-preserved g c =
    let plan = c.args.plan.now in
    let q = c.args.question.now in
    let i = c.loop-port.invariant in
    let m : Move = next_move plan i.moves (c.in-Some.port - 1) c.in-Some.due in
    let one_more = length_push i.moves m in
    record {
      moves = i.moves ++ m ∷ [];
      stands = c.in_ok-look.ensures.stands i.moves i.stands;
      story = c.in_ok-story.ensures ∙ ap (λ (l : Look). heard q l c.loop-port.story) (c.in_ok-look.ensures.look i.moves i.stands)
          ∙ ap (heard q (look_of plan i.moves m)) i.story ∙ sym (story_more plan q i.moves m);
      cost = omega (arith, c.in_ok-look.ensures.meter, i.cost);
    }

pub loop-port-init : goal.loop-port-init
loop-port-init g c = record { moves = []; stands = c.in_ok-live.ensures; story = c.new-story.ensures; cost = omega arith }

pub returns-clause-facts : goal.returns-clause-facts
returns-clause-facts g c =
    let plan = c.args.plan.now in
    let q = c.args.question.now in
    let i = c.loop-port.invariant in
    IfOk-weaker c.end.result _ _
    (λ facts h. record {
      moves = i.moves;
      safe = c.in_default.ensures.next i.moves i.stands;
      facts_are = h ∙ ap (told q) i.story;
    })
    c.end.ensures

pub returns-clause-paid : goal.returns-clause-paid
returns-clause-paid g c =
    let i = c.loop-port.invariant in
    let safe = c.in_default.ensures.next i.moves i.stands in
    IfOk-weaker c.end.result _ _ (λ facts h. (length i.moves, (i.moves, safe.run, refl), i.cost)) c.end.ensures
