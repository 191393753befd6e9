use Rattle.std.proofs.Common.{◌≡◌, ◌-◌, ◌++◌, ◌∷◌, ◌∙◌, [], List, ap, length, refl, rules, sym}
use Rattle.std.proofs.lemmas.List.{length-replicate}
use Rattle.std.proofs.lemmas.Result.{MatchResult-weaker, err_from_is_err_and}
use Rattle.std.proofs.KnownBytes.{Keeps-refl}
use Rattle.pd_device.proofs.DeviceLemmas.{wrote_none}
use Rattle.pd_run.specs.Run.{Move, shown}
use Rattle.pd_run.specs.Live.{next_move}
use Rattle.pd_show.specs.declared.seen.Seen.{Seen}
use Rattle.pd_show.specs.Lines.{chosen_lines}
use Rattle.pd_show.specs.Pages.{written}
use Rattle.pd_show.specs.Seen.{seen_of}
use Rattle.pd_show.specs.Show.{show_text}
use Rattle.pd_watch.specs.Watch.{WatchData, after_step, at_rest}
use Rattle.pd_watch.proofs.Watched.{step_length}
use Rattle.pd_show.proofs.ShowLemmas.{progress_all, progress_more, progress_none, progress_passed, progress_torn, runs_none}
use Rattle.pd_show.proofs.ShowLemmas.{watched, watched_push}
use Rattle.pd_show.proofs.walk.show.Goals as goal

pub returns-in_default-clause-text : goal.returns-in_default-clause-text
returns-in_default-clause-text g c =
    let a = g.W.TextOut.taken c.args.writer.now in
    record {
      moves = [];
      runs = runs_none c.args.plan.now;
      part = wrote_none a a (show_text c.args.plan.now c.args.choice.now []) (Keeps-refl a);
    }

pub returns-in_default-at_rest-clause-text : goal.returns-in_default-at_rest-clause-text
returns-in_default-at_rest-clause-text g c =
    let a = g.W.TextOut.taken c.args.writer.now in
    record {
      moves = [];
      runs = runs_none c.args.plan.now;
      part = wrote_none a a (show_text c.args.plan.now c.args.choice.now []) (Keeps-refl a);
    }

pub returns-in_default-new-clause-text : goal.returns-in_default-new-clause-text
returns-in_default-new-clause-text g c =
    let a = g.W.TextOut.taken c.args.writer.now in
    record {
      moves = [];
      runs = runs_none c.args.plan.now;
      part = wrote_none a a (show_text c.args.plan.now c.args.choice.now []) (Keeps-refl a);
    }

pub loop-port-init : goal.loop-port-init
loop-port-init g c = record {
  moves = [];
  stands = search rules;
  progress =
      progress_none c.args.plan.now c.args.choice.now c.in-Ok-new.page (g.W.TextOut.taken c.args.writer.now) c.in-Ok-new.ensures;
  watched = search rules;
  ports = ap length c.in-Ok-at_rest.ensures ∙ length-replicate g.row.N at_rest;
  counts = refl;
}

pub loop-port-preserved : goal.loop-port-preserved
loop-port-preserved g c =
    let plan = c.args.plan.now in
    let choice = c.args.choice.now in
    let i = c.loop-port.invariant in
    let m : Move = next_move plan i.moves (c.in-Some.port - 1) c.in-Some.due in
    let lines : c.push_lines.new.page ≡ written choice.form c.loop-port.page (chosen_lines choice (seen_of plan (watched plan i.moves) m)) =
    c.in-Ok-push_lines.ensures
    ∙ ap (λ (s : Seen). written choice.form c.loop-port.page (chosen_lines choice s))
    (c.in-Ok-step_seen.ensures.seen i.moves i.stands ∙ ap (λ (ws : List WatchData). seen_of plan ws m) i.watched) in
    record {
      moves = i.moves ++ m ∷ [];
      stands = c.in-Ok-step_seen.ensures.stands i.moves i.stands;
      progress =
          progress_passed plan choice (i.moves ++ m ∷ []) c.push_lines.new.page c.pass.new.self _ _ _
          (progress_more plan choice i.moves m c.loop-port.page c.push_lines.new.page _ _ i.progress lines) c.in_ok-pass.ensures.text;
      watched =
          c.in-Ok-step_seen.ensures.watched i.moves i.stands ∙ ap (λ (ws : List WatchData). after_step ws (shown m)) i.watched
          ∙ sym (watched_push plan i.moves m);
      ports =
          ap length (c.in-Ok-step_seen.ensures.watched i.moves i.stands) ∙ step_length c.loop-port.watches.items (shown m) ∙ i.ports;
      counts = c.in_ok-pass.ensures.counts ∙ i.counts;
    }

pub returns-in_err-pass-clause-text : goal.returns-in_err-pass-clause-text
returns-in_err-pass-clause-text g c =
    let plan = c.args.plan.now in
    let choice = c.args.choice.now in
    let i = c.loop-port.invariant in
    let m : Move = next_move plan i.moves (c.in-Some.port - 1) c.in-Some.due in
    let lines : c.push_lines.new.page ≡ written choice.form c.loop-port.page (chosen_lines choice (seen_of plan (watched plan i.moves) m)) =
    c.in-Ok-push_lines.ensures
    ∙ ap (λ (s : Seen). written choice.form c.loop-port.page (chosen_lines choice s))
    (c.in-Ok-step_seen.ensures.seen i.moves i.stands ∙ ap (λ (ws : List WatchData). seen_of plan ws m) i.watched) in
    let p = err_from_is_err_and c.from_residual.result c.from_residual.ensures.1 in
    rw (p.1) (record {
      moves = i.moves ++ m ∷ [];
      runs = (c.in-Ok-step_seen.ensures.stands i.moves i.stands).runs;
      part =
          progress_torn plan choice (i.moves ++ m ∷ []) c.push_lines.new.page _ _ _
          (progress_more plan choice i.moves m c.loop-port.page c.push_lines.new.page _ _ i.progress lines) c.in_err-pass.ensures.text.1;
    })

pub returns-clause-text : goal.returns-clause-text
returns-clause-text g c =
    let plan = c.args.plan.now in
    let choice = c.args.choice.now in
    let i = c.loop-port.invariant in
    MatchResult-weaker c.flush.result c.flush.ensures.text
    (λ x h. record {
      moves = i.moves;
      safe = c.in_default-next.ensures.next i.moves i.stands;
      appends =
          progress_all plan choice i.moves c.flush.new.self _ _
          (progress_passed plan choice i.moves c.loop-port.page c.flush.new.self _ _ _ i.progress h.0) h.1;
    })
    (λ y h. record {
      moves = i.moves;
      runs = i.stands.runs;
      part = progress_torn plan choice i.moves c.loop-port.page _ _ _ i.progress h.1;
    })
