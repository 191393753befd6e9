-- What is seen of a move of a run.
use Rattle.std.specs.Prelude.{◌+◌, List, [], ◌∷◌, is_some}
use Rattle.pd_setup.specs.Settings.{SettingsData}
use Rattle.pd_port.specs.Port.{PortRecord, hold as hold_of}
use Rattle.pd_scenario.specs.Plan.{Plan, count, settings_of, force}
use Rattle.pd_run.specs.Run.{Move, shown, after as left_by}
use Rattle.pd_watch.specs.Watch.{WatchData, after_step, all_at_rest, disturber_of, id_of, watch_at}
use Rattle.pd_show.specs.declared.seen.Glance.{Glance}
use Rattle.pd_show.specs.declared.seen.Seen.{Seen}

-- of a port between its moves: what it holds, whether it has a contract, and the states that its source and its sink are in
abbrev pub glance : SettingsData → PortRecord → Glance
glance s r = record {
  hold = hold_of s r;
  contract = is_some r.source.contract;
  source = r.source.state;
  sink = r.sink.state;
}

-- Of a move: its port, numbered from 1 here, the budget at its time, the port before and after it, its entry and its answer, and the
-- event whose disturbance the packet takes that it starts, where that is lost or damaged. What is watched of the ports before it, is
-- known.
unfoldable pub seen_of : Plan → List WatchData → Move → Seen
seen_of plan ws m = record {
  port = m.port + 1;
  budget = force plan m.due.time;
  before = glance (settings_of plan m.port) m.before;
  after = glance (settings_of plan m.port) (left_by plan m);
  entry = m.entry;
  answer = m.answer;
  by = id_of (disturber_of (watch_at ws (m.port + 1)) m.entry);
}

-- what is seen of moves of a plan, in their order, before which so much is watched of the ports
abbrev pub seen_from : Plan → List WatchData → List Move → List Seen
seen_from plan ws [] = []
seen_from plan ws (m ∷ ms) = seen_of plan ws m ∷ seen_from plan (after_step ws (shown m)) ms

-- what is seen of the moves of a plan from its start
abbrev pub all_seen : Plan → List Move → List Seen
all_seen plan moves = seen_from plan (all_at_rest (count plan)) moves
