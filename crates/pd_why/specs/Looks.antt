-- What is looked at of a move of a port: the move itself, and how the budget was shared when it asked.
use Rattle.std.specs.Prelude.{ℕ, ◌+◌, List, option_map}
use Rattle.pd_header.specs.declared.side.Side.TheVariants.{Sink}
use Rattle.pd_objects.specs.declared.query.Answer.{Answer}
use Rattle.pd_setup.specs.Settings.{floor_of}
use Rattle.pd_port.specs.declared.due.Due.{Due}
use Rattle.pd_port.specs.Port.{PortRecord}
use Rattle.pd_ledger.specs.Account.{free_of}
use Rattle.pd_scenario.specs.Plan.{Plan, count, settings_of, force}
use Rattle.pd_run.specs.Run.{Move, account_after, after as left_by}
use Rattle.pd_run.specs.Live.{port_after}
use Rattle.pd_why.specs.declared.look.Look.{Look}
use Rattle.pd_why.specs.declared.look.Share.{Share}
use Rattle.pd_why.specs.declared.look.Stood.{Stood}
use Rattle.pd_why.specs.Cables.{learnt, learnt_by}
use Rattle.pd_why.specs.Holds.{others}
use Rattle.pd_why.specs.Wishes.{asks_in, is_again, wish_of}

-- The budget at a time, what is free of it to a port by the rule of the ledger, and what the other ports hold; ports are numbered
-- from 0 here.
unfoldable pub share_at : Plan → List Move → ℕ → ℕ → Share
share_at plan past p at = record {
  budget = force plan at;
  free = free_of (account_after plan past at) p;
  others = record { items = others (port_after plan past) p (count plan) };
}

-- what is looked at of a port before its step for what falls due
abbrev pub stood_at : PortRecord → Due → Stood
stood_at r d = record { source = r.source.state; sink = r.sink.state; how = learnt_by d.what r.line; again = is_again Sink d.what r.line }

-- of a move: its port, numbered from 1 here, how often that asks its cable and its floor, the source's state after it, how the source has
-- learnt its cable's limit in it, whether the sink sends a Request in it, and by what it would choose, whether what starts is a Request
-- once more, the move's entry and its answer, and how the budget was shared
unfoldable pub look_of : Plan → List Move → Move → Look
look_of plan past m = record {
  port = m.port + 1;
  tries = (settings_of plan m.port).identity_tries;
  floor = floor_of (settings_of plan m.port);
  after = (left_by plan m).source.state;
  learnt = learnt m.before.source.state (left_by plan m).source.state (learnt_by m.due.what m.before.line);
  asks = asks_in m.before.sink.state (left_by plan m).sink.state;
  wish = wish_of (left_by plan m).sink;
  again = is_again Sink m.due.what m.before.line;
  entry = m.entry;
  answer = m.answer;
  share = option_map (λ (a : Answer). share_at plan past m.port m.due.time) m.answer;
}
