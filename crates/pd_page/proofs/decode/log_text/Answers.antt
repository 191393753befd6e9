use Rattle.std.proofs.Common.{ap, arith, None, ◌++◌, ◌∙◌}
use Rattle.pd_log.specs.Objects.{json_text}
use Rattle.std.specs.Str.Lines.{lines}
use Rattle.pd_page.proofs.LogLemmas.{ends, line_on}
use Rattle.pd_page.proofs.decode.log_text.Goals as goal

pub loop-line-preserved : goal.loop-line-preserved
loop-line-preserved c = record {
  text =
      line_on (lines c.args.log.now) c.loop-line.number c.loop-line.begun c.in_ok-told.told.begun c.loop-line.text.items
      c.push_json.new.text.items c.in-Some.line.now c.loop-line.rest.now (lines c.in-Some.others.now) c.in_ok-told.told.answer
      c.loop-line.invariant.text c.in-Some.ensures.lines c.in_ok-told.ensures
      (c.in_ok-push_json.ensures
      ∙ ap (λ time. c.loop-line.text.items ++ json_text c.loop-line.number time None c.in_ok-told.told.answer) c.log_time-time.ensures);
  count = omega (arith, c.loop-line.invariant.count, c.in-Some.ensures.shorter);
}

pub returns : goal.returns
returns c =
    ends (lines c.args.log.now) c.loop-line.number c.loop-line.begun c.loop-line.text.items c.loop-line.rest.now c.loop-line.invariant.text
    c.in_default.ensures.lines
