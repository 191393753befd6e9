use Rattle.std.proofs.Common.{rules, tests}
use Rattle.pd_misfits.proofs.text.explain_error.Goals as goal

pub returns : goal.returns
returns c = (
  λ memory. absurd (search (rules, tests)),
  record {
    message = c.message.result.now;
    hint = c.in_ok-hint.hint.items;
    earlier = search (rules, tests);
    said_is = search (rules, tests);
  },
)
