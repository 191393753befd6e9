-- What stands behind each warning of a run.
use Rattle.std.proofs.Common.{◌≡◌, ℕ, ◌+◌, Bool, true, false, List, [], ◌∷◌, ◌++◌, map, Option, None, Some, is_some}
use Rattle.std.proofs.Common.{refl, sym, ap, ◌∙◌, subst, append_assoc}
use Rattle.std.specs.Prelude.{All, slice_get}
use Rattle.std.proofs.lemmas.List.{map-append}
use Rattle.std.proofs.lemmas.List.Elements.{All-append, All-contains, All-cons, All-nil, All-same, All-weaker}
use Rattle.pd_setup.specs.Events.{EventData, PortEventKind}
use Rattle.pd_setup.specs.declared.event.EventKind.TheVariants.{Attach, Detach, Demand, Lose, Damage, GetSource, GetSink}
use Rattle.pd_setup.specs.declared.event.Happening.{Happening}
use Rattle.pd_setup.specs.declared.event.Happening.TheVariants as happening
use Rattle.pd_port.specs.declared.due.Due.{Due}
use Rattle.pd_port.specs.declared.due.What.{What}
use Rattle.pd_port.specs.declared.due.What.TheVariants as what
use Rattle.pd_port.specs.declared.entry.Entry.{Entry}
use Rattle.pd_port.specs.Port.{PortRecord, entry_of}
use Rattle.pd_port.proofs.PortLaws.{due_event}
use Rattle.pd_scenario.specs.Plan.{Plan, count, script_of}
use Rattle.pd_scenario.specs.Plans.{plan_of}
use Rattle.pd_scenario.specs.Scenarios.{IsValid, ScenarioData}
use Rattle.pd_run.specs.Order.{EachAfter}
use Rattle.pd_run.specs.Run.{GoesOn, Move, shown, standing}
use Rattle.pd_run.proofs.Moves.{EachAfter-push}
use Rattle.pd_watch.specs.declared.watch.Disturber.{Disturber}
use Rattle.pd_watch.specs.Watch.{WatchData, after_step, after_steps, all_at_rest, is_ignored, watch_at}
use Rattle.pd_watch.proofs.Watched.{ports_are_watched}
use Rattle.pd_warn.specs.declared.warning.Warning.{Warning}
use Rattle.pd_warn.specs.declared.warning.Warning.TheVariants.{AfterEnd, Ignored, SmallShare, Uncounted, Unmet, UnusedCable, UnusedSink}
use Rattle.pd_warn.specs.Stated.{stated}
use Rattle.pd_warn.specs.Truth.{IgnoredEventsDoNothing, IsFor, IsIgnored, Tells}
use Rattle.pd_warn.specs.Warnings.{AreWarnings, left_part, run_part, step_part, steps_part}
use Rattle.pd_warn.specs.Watch.{entry_part, happening_part, kind_part, unmet, what_part, why_of}
use Rattle.pd_warn.proofs.Ignored.{does_nothing}
use Rattle.pd_warn.proofs.Steps.{watches_push}
use Rattle.pd_warn.proofs.Told.{Holds, stated_hold}
use Rattle.pd_warn.proofs.Whys.{whys_are_true}

-- ---- what holds of each warning of a run

-- it holds of each disturbance that waits in vain
abbrev HoldsOfUnmet : (Warning → Type 0) → Type 0
HoldsOfUnmet P = (id at port : ℕ) (until : Option ℕ) → P (Unmet id at port until)

unmet_all : (P : Warning → Type 0) → HoldsOfUnmet P → (port : ℕ) (until : Option ℕ) (ds : List Disturber)
    → All P (map (unmet port until) ds)
unmet_all P of port until [] = All-nil P
unmet_all P of port until (d ∷ ds) =
    All-cons P (Unmet d.id d.at port until) (map (unmet port until) ds) (of d.id d.at port until) (unmet_all P of port until ds)

kind_all : (P : Warning → Type 0) → HoldsOfUnmet P → (port : ℕ) (w : WatchData) (at id : ℕ) (ignored : Bool) (kind : PortEventKind)
    → (ignored ≡ true → P (Ignored id at port (why_of w.attached kind))) → All P (kind_part port w at id ignored kind)
kind_all P of port w at id true kind said = All-cons P _ [] (said refl) (All-nil P)
kind_all P of port w at id false Detach said = unmet_all P of port (Some at) w.waiting
kind_all P of port w at id false (Attach cable device) said = All-nil P
kind_all P of port w at id false (Demand mw) said = All-nil P
kind_all P of port w at id false Lose said = All-nil P
kind_all P of port w at id false (Damage harm) said = All-nil P
kind_all P of port w at id false GetSource said = All-nil P
kind_all P of port w at id false GetSink said = All-nil P

happening_all : (P : Warning → Type 0) → HoldsOfUnmet P → (port : ℕ) (w : WatchData) (at : ℕ) (ignored : Bool) (h : Happening)
    → ((id : ℕ) (kind : PortEventKind) → h ≡ happening.Port id kind → ignored ≡ true → P (Ignored id at port (why_of w.attached kind)))
    → All P (happening_part port w at ignored h)
happening_all P of port w at ignored (happening.Port id kind) said = kind_all P of port w at id ignored kind (said id kind refl)
happening_all P of port w at ignored happening.Budget said = All-nil P

what_all : (P : Warning → Type 0) → HoldsOfUnmet P → (port : ℕ) (w : WatchData) (at : ℕ) (ignored : Bool) (x : What)
    → ((e : EventData) (id : ℕ) (kind : PortEventKind) → x ≡ what.Event e → e.happening ≡ happening.Port id kind → ignored ≡ true
    → P (Ignored id at port (why_of w.attached kind)))
    → All P (what_part port w at ignored x)
what_all P of port w at ignored (what.Event e) said =
    happening_all P of port w at ignored e.happening (λ id kind is. said e id kind refl is)
what_all P of port w at ignored what.Line said = All-nil P
what_all P of port w at ignored (what.Timer side timer) said = All-nil P

-- where a move's event is ignored, that is so which is told of it, by what is watched of the ports before it
abbrev Says : (Warning → Type 0) → List WatchData → Move → Type 0
Says P ws m =
    (e : EventData) (id : ℕ) (kind : PortEventKind) → m.entry.due.what ≡ what.Event e → e.happening ≡ happening.Port id kind
    → is_ignored m.entry ≡ true → P (Ignored id m.entry.at (m.port + 1) (why_of (watch_at ws (m.port + 1)).attached kind))

step_all : (P : Warning → Type 0) → HoldsOfUnmet P → (ws : List WatchData) (m : Move) → Says P ws m → All P (step_part ws (shown m))
unfolding step_part entry_part
step_all P of ws m said =
    what_all P of (m.port + 1) (watch_at ws (m.port + 1)) m.entry.at (is_ignored m.entry) m.entry.due.what said

left_all : (P : Warning → Type 0) → HoldsOfUnmet P → (port : ℕ) (ws : List WatchData) → All P (left_part port ws)
unfolding left_part
left_all P of port [] = All-nil P
left_all P of port (w ∷ ws) =
    All-append P (map (unmet port None) w.waiting) (left_part (port + 1) ws) (unmet_all P of port None w.waiting)
    (left_all P of (port + 1) ws)

-- what is watched of the ports after some moves
abbrev watched : ℕ → List Move → List WatchData
watched n moves = after_steps (all_at_rest n) (map shown moves)

watched_push : (n : ℕ) (past : List Move) (m : Move) → after_step (watched n past) (shown m) ≡ watched n (past ++ m ∷ [])
watched_push n past m =
    sym (watches_push (all_at_rest n) (map shown past) (shown m)) ∙ ap (after_steps (all_at_rest n)) (sym (map-append shown past (m ∷ [])))

-- so it is of each move with those before it
abbrev EachSays : (Warning → Type 0) → ℕ → List Move → List Move → Type 0
EachSays P n past moves = EachAfter (λ before m. Says P (watched n before) m) past moves

steps_all : (P : Warning → Type 0) → HoldsOfUnmet P → (n : ℕ) (past moves : List Move) → EachSays P n past moves
    → All P (steps_part (watched n past) (map shown moves))
steps_all P of n past [] said = All-nil P
steps_all P of n past (m ∷ ms) said =
    All-append P (step_part (watched n past) (shown m)) (steps_part (after_step (watched n past) (shown m)) (map shown ms))
    (step_all P of (watched n past) m said.0)
    (subst (λ (ws : List WatchData). All P (steps_part ws (map shown ms))) (sym (watched_push n past m))
    (steps_all P of n (past ++ m ∷ []) ms said.1))

run_all : (P : Warning → Type 0) → HoldsOfUnmet P → (n : ℕ) (moves : List Move) → EachSays P n [] moves
    → All P (run_part n (map shown moves))
unfolding run_part
run_all P of n moves said =
    All-append P (steps_part (all_at_rest n) (map shown moves)) (left_part 1 (watched n moves)) (steps_all P of n [] moves said)
    (left_all P of 1 (watched n moves))

-- what holds of each warning: of those of what the scenario says, and of those of the run
record HoldsOfAll (P : Warning → Type 0) (n : ℕ) (c : ScenarioData) (moves : List Move) : Type 0 where
  stated : (w : Warning) → Holds c w → P w
  unmet : HoldsOfUnmet P
  says : EachSays P n [] moves

all_warnings : (P : Warning → Type 0) (n : ℕ) (c : ScenarioData) (ws : List Warning) (told : AreWarnings n c ws)
    → HoldsOfAll P n c told.moves → All P ws
all_warnings P n c ws told of =
    let run = run_part n (map shown told.moves) in
    All-same P ws (stated c ++ run) told.warnings_are
    (All-append P (stated c) run (All-weaker (Holds c) P of.stated (stated c) (stated_hold c)) (run_all P of.unmet n told.moves of.says))

-- ---- what the scenario says

-- what is so where a warning is told that isn't of the run
abbrev pub IsSo : ScenarioData → Warning → Type 0
IsSo c (Ignored id at port why) = Unit {0}
IsSo c (Unmet id at port until) = Unit {0}
IsSo c w = Holds c w

stated_so : (c : ScenarioData) (w : Warning) → Holds c w → IsSo c w
stated_so c (AfterEnd id at end) h = h
stated_so c (UnusedCable name) h = h
stated_so c (UnusedSink name) h = h
stated_so c (Uncounted id at port name demand floor) h = h
stated_so c (SmallShare port share) h = h
stated_so c (Ignored id at port why) h = tt
stated_so c (Unmet id at port until) h = tt

each_so : (c : ScenarioData) (n : ℕ) (past moves : List Move) → EachSays (IsSo c) n past moves
each_so c n past [] = tt
each_so c n past (m ∷ ms) = ((λ e id kind is there ignored. tt), each_so c n (past ++ m ∷ []) ms)

pub all_so : (n : ℕ) (c : ScenarioData) (ws : List Warning) → AreWarnings n c ws → All (IsSo c) ws
all_so n c ws told =
    all_warnings (IsSo c) n c ws told
    (record { stated = stated_so c; unmet = λ id at port until. tt; says = each_so c n [] told.moves })

-- ---- events that are ignored

abbrev OfMoves : Plan → List Move → Warning → Type 0
OfMoves plan moves (Ignored id at port why) = IsIgnored plan moves id at port why
OfMoves plan moves _ = Unit {0}

none_stated : (c : ScenarioData) (plan : Plan) (moves : List Move) (w : Warning) → Holds c w → OfMoves plan moves w
none_stated c plan moves (AfterEnd id at end) h = tt
none_stated c plan moves (UnusedCable name) h = tt
none_stated c plan moves (UnusedSink name) h = tt
none_stated c plan moves (Uncounted id at port name demand floor) h = tt
none_stated c plan moves (SmallShare port share) h = tt
none_stated c plan moves (Ignored id at port why) h = absurd h
none_stated c plan moves (Unmet id at port until) h = absurd h

entry_due : (plan : Plan) (past : List Move) (m : Move) → GoesOn plan past m → m.entry.due ≡ m.due
unfolding entry_of
entry_due plan past m goes = ap (λ (x : Entry). x.due) goes.entry_is

entry_time : (plan : Plan) (past : List Move) (m : Move) → GoesOn plan past m → m.entry.at ≡ m.due.time
unfolding entry_of
entry_time plan past m goes = ap (λ (x : Entry). x.at) goes.entry_is

abbrev event_at : ℕ → Happening → What
event_at at h = what.Event (record { at = at; happening = h })

-- the event of an entry is that of its move, at the time of the entry
is_for : (plan : Plan) (past : List Move) (m : Move) → GoesOn plan past m → (e : EventData) (id : ℕ) (kind : PortEventKind)
    → m.entry.due.what ≡ what.Event e → e.happening ≡ happening.Port id kind → IsFor m m.entry.at id kind
is_for plan past m goes e id kind is there =
    let due : m.due.what ≡ what.Event e = ap (λ (x : Due). x.what) (sym (entry_due plan past m goes)) ∙ is in
    let found = due_event (standing plan past m.port).state (slice_get (script_of plan m.port) (standing plan past m.port).taken) m.due e
    goes.due_is due in
    let time : e.at ≡ m.entry.at = sym (entry_time plan past m goes ∙ found.1) in
    due ∙ ap (event_at e.at) there ∙ ap (λ at. event_at at (happening.Port id kind)) time

move_says : (plan : Plan) (all past : List Move) (m : Move) (rest : List Move) → all ≡ past ++ m ∷ rest → EachAfter (GoesOn plan) [] past
    → GoesOn plan past m → Says (OfMoves plan all) (watched (count plan) past) m
move_says plan all past m rest among before goes e id kind is there ignored =
    let event = is_for plan past m goes e id kind is there in
    let attached : (watch_at (watched (count plan) past) (m.port + 1)).attached ≡ is_some m.before.cable =
    (ports_are_watched plan past before m.port goes.known).attached ∙ ap (λ (r : PortRecord). is_some r.cable) (sym goes.before_is) in
    record {
      past = past;
      move = m;
      rest = rest;
      among = among;
      on_port = refl;
      time = entry_time plan past m goes;
      kind = kind;
      is_for = event;
      nothing = does_nothing plan past m goes m.entry.at id kind event ignored;
      tells =
          subst (λ b. Tells (why_of b kind) m.before) (sym attached) (whys_are_true plan past m goes m.entry.at id kind event ignored);
    }

moves_say : (plan : Plan) (all past moves : List Move) → all ≡ past ++ moves → EachAfter (GoesOn plan) [] past
    → EachAfter (GoesOn plan) past moves → EachSays (OfMoves plan all) (count plan) past moves
moves_say plan all past [] among before goes = tt
moves_say plan all past (m ∷ ms) among before goes = (
  move_says plan all past m ms among before goes.0,
  moves_say plan all (past ++ m ∷ []) ms (among ∙ sym (append_assoc past (m ∷ []) ms))
      (EachAfter-push (GoesOn plan) [] past m before goes.0) goes.1,
)

count_is : (n : ℕ) (c : ScenarioData) → IsValid n c → count (plan_of c) ≡ n
unfolding plan_of
count_is n c is = is.settings_count

pub ignored_events_do_nothing : IgnoredEventsDoNothing
ignored_events_do_nothing n c ws is told id at port why warned =
    let plan = plan_of c in
    let P : Warning → Type 0 = OfMoves plan told.moves in
    let says = subst (λ k. EachSays P k [] told.moves) (count_is n c is)
    (moves_say plan told.moves [] told.moves refl tt told.safe.run.chained) in
    All-contains P ws (Ignored id at port why)
    (all_warnings P n c ws told
    (record { stated = none_stated c plan told.moves; unmet = λ i a p until. tt; says = says })) warned
