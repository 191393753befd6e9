-- A packet that is hit has taken the disturbance of an event that was put in for it.
use Rattle.std.proofs.Common.{◌≡◌, ◌≢◌, ℕ, ◌+◌, ◌-◌, ◌<◌, Bool, true, false, cond, List, [], ◌∷◌, ◌++◌, length, map}
use Rattle.std.proofs.Common.{get_or, set, drop, fold, Option, Some, None, refl, sym, ap, ◌∙◌, subst, inl, inr, ⊎_elim, arith}
use Rattle.std.specs.Prelude.{◌==◌, ◌&&◌, ◌||◌, Contains, MatchBool}
use Rattle.std.specs.List.{AllByRecursion}
use Rattle.std.proofs.lemmas.Bool.{and_parts, cases_Bool, cases_eq, eq-eqb, eqb-true, ne_eqb, not-true}
use Rattle.std.proofs.lemmas.List.{get_or-replicate, get_or-set_other, get_or-set_same, length-replicate}
use Rattle.std.proofs.lemmas.Option.{same_Some}
use Rattle.pd_symbols.specs.declared.channel.Channel.{Channel}
use Rattle.pd_symbols.specs.declared.channel.Channel.TheVariants.{Sop, SopPrime}
use Rattle.pd_header.specs.declared.side.Side.{Side}
use Rattle.pd_header.specs.declared.side.Side.TheVariants.{Source, Sink, Plug}
use Rattle.pd_packet.specs.Contents.{Contents}
use Rattle.pd_packet.specs.declared.fate.Fate.{Fate}
use Rattle.pd_setup.specs.Events.{EventData, PortEventKind}
use Rattle.pd_setup.specs.declared.event.EventKind.TheVariants.{Detach, Lose, Damage}
use Rattle.pd_setup.specs.declared.event.Happening.{Happening}
use Rattle.pd_setup.specs.declared.event.Happening.TheVariants as happens
use Rattle.pd_line.specs.declared.notes.Start.{Start}
use Rattle.pd_line.specs.declared.notes.Start.TheVariants as start
use Rattle.pd_port.specs.declared.due.What.{What}
use Rattle.pd_port.specs.declared.due.What.TheVariants as what
use Rattle.pd_port.specs.declared.entry.Entry.{Entry}
use Rattle.pd_scenario.specs.declared.named.NamedCable.{NamedCable}
use Rattle.pd_scenario.specs.declared.named.NamedSink.{NamedSink}
use Rattle.pd_scenario.specs.declared.event.ScenarioEvent.{ScenarioEvent}
use Rattle.pd_scenario.specs.declared.event.ScenarioHappening.{ScenarioHappening}
use Rattle.pd_scenario.specs.declared.event.ScenarioHappening.TheVariants.{OnPort, Budget}
use Rattle.pd_scenario.specs.Events.{ScenarioEventKind}
use Rattle.pd_scenario.specs.Plan.{Plan, count}
use Rattle.pd_scenario.specs.Plans.{plan_of}
use Rattle.pd_scenario.specs.Scenarios.{ScenarioData, has_id}
use Rattle.pd_scenario.specs.Script.{resolved, seen_by}
use Rattle.pd_scenario.proofs.Lists.{cases, none}
use Rattle.pd_run.specs.Order.{EachAfter}
use Rattle.pd_run.specs.Run.{GoesOn, Move, Run, shown}
use Rattle.pd_run.proofs.OneRun.{run_unique}
use Rattle.pd_run.proofs.Cut.{EachAfter-back, EachAfter-front}
use Rattle.pd_report.proofs.MarginLemmas.{all-append, all-drop}
use Rattle.pd_watch.specs.declared.watch.Disturber.{Disturber}
use Rattle.pd_watch.specs.Watch.{WatchData, after_entry, after_happening, after_kind, after_start, after_step, after_steps, after_what}
use Rattle.pd_watch.specs.Watch.{all_at_rest, at_rest, disturber_of, first_of, id_of, is_disturbed, is_ignored, taken_by, watch_at}
use Rattle.pd_watch.proofs.Watched.{step_length, takers_are_named}
use Rattle.pd_sweep.specs.Laws.{HitsAreTrue, IsHit, MeasuresAreTrue, RanHit}
use Rattle.pd_sweep.specs.Measures.{measures_of}
use Rattle.pd_sweep.specs.Summaries.{AreFindings}
use Rattle.pd_sweep.specs.Sets.{last_of, members}
use Rattle.pd_sweep.specs.Trials.{IsRunOf, are_hit, hit_from, hits, is_hit, is_packet, is_put_in, plan_with}
use Rattle.pd_sweep.specs.Trials.{set_place, side_place, watched_on}
use Rattle.pd_sweep.specs.declared.choice.Campaign.{Campaign}
use Rattle.pd_sweep.specs.declared.effect.Effect.{Effect}
use Rattle.pd_sweep.specs.declared.packets.Target.{Target}
use Rattle.pd_sweep.specs.declared.sets.Packets.{Packets}
use Rattle.pd_sweep.specs.declared.trial.Outcome.TheVariants.{Ran, Disturbed}
use Rattle.pd_sweep.proofs.HitLemmas.{event_in, is_of}
use Rattle.pd_sweep.proofs.LostLemmas.{scripts_known}
use Rattle.pd_sweep.proofs.SetLemmas.{HasKnown, HasLoss, IsKnown, known_all, losses_all}

-- ---- what waits is of the scenario's events, or was put in

known_id : (es : List ScenarioEvent) (e : ScenarioEvent) → Contains es e → has_id es e.id ≡ true
known_id [] e h = absurd (none e h)
known_id (x ∷ es) e h =
    elim (cases x e es h) [
      | inl is ↦ ap (λ b. b || has_id es e.id) (eq-eqb x.id e.id (ap (λ (y : ScenarioEvent). y.id) is))
      | inr later ↦ ap (λ b. (x.id == e.id) || b) (known_id es e later) ∙ or_true (x.id == e.id)
    ]
  where
    or_true : (b : Bool) → (b || true) ≡ true
    or_true true = refl
    or_true false = refl

abbrev AreKnown : ScenarioData → List Disturber → Type 0
AreKnown c ds = AllByRecursion (λ (d : Disturber). IsKnown c d.id) ds

module _ (c : ScenarioData) (w : WatchData) (are : AreKnown c w.waiting) where
  kind_known : (at id : ℕ) (kind : PortEventKind) → IsKnown c id → AreKnown c (after_kind w at id kind).waiting
  kind_known at id Detach is = tt
  kind_known at id Lose is = all-append (λ (d : Disturber). IsKnown c d.id) w.waiting (_ ∷ []) are (is, tt)
  kind_known at id (Damage harm) is = all-append (λ (d : Disturber). IsKnown c d.id) w.waiting (_ ∷ []) are (is, tt)
  kind_known at id _ is = are

  happening_known : (at : ℕ) (ignored : Bool) (h : Happening)
      → ((id : ℕ) (kind : PortEventKind) → h ≡ happens.Port id kind → IsKnown c id)
      → AreKnown c (after_happening w at ignored h).waiting
  happening_known at true h is = are
  happening_known at false (happens.Port id kind) is = kind_known at id kind (is id kind refl)
  happening_known at false happens.Budget is = are

  what_known : (at : ℕ) (ignored : Bool) (x : What)
      → ((e : EventData) (id : ℕ) (kind : PortEventKind) → x ≡ what.Event e → e.happening ≡ happens.Port id kind → IsKnown c id)
      → AreKnown c (after_what w at ignored x).waiting
  what_known at ignored (what.Event e) is = happening_known at ignored e.happening (λ id kind h. is e id kind refl h)
  what_known at ignored what.Line is = are
  what_known at ignored (what.Timer side timer) is = are

  drop_known : (b : Bool) → AreKnown c (cond b (record w { waiting = drop 1 w.waiting }) w).waiting
  drop_known true = all-drop (λ (d : Disturber). IsKnown c d.id) w.waiting 1 are
  drop_known false = are

  start_known : (s : Option Start) → AreKnown c (after_start w s).waiting
  start_known None = are
  start_known (Some (start.HardReset side)) = are
  start_known (Some (start.Packet side packet fate)) = drop_known (is_disturbed fate)

-- the id of an event of the port
id_if : (b : Bool) (cables : List NamedCable) (sinks : List NamedSink) (id other : ℕ) (kind : ScenarioEventKind) (k : PortEventKind)
    → cond b (Some (happens.Port id (resolved cables sinks kind))) None ≡ Some (happens.Port other k) → id ≡ other
id_if true cables sinks id other kind k h = cc
id_if false cables sinks id other kind k h = absurd (cc)

seen_id : (cables : List NamedCable) (sinks : List NamedSink) (port id other : ℕ) (s : ScenarioHappening) (k : PortEventKind)
    → seen_by cables sinks port id s ≡ Some (happens.Port other k) → id ≡ other
seen_id cables sinks port id other (OnPort p kind) k h = id_if (p == port) cables sinks id other kind k h
seen_id cables sinks port id other (Budget mw) k h = absurd (cc)

-- of the events of a scenario
old_known : (c : ScenarioData) → HasKnown c (plan_of c)
old_known c p e id kind known there h =
    let of = is_of c p e known there in
    let same = seen_id c.cables c.sinks (p + 1) of.event.id id of.event.happening kind (of.is ∙ ap Some h) in
    inl (ap (has_id c.events) (sym same) ∙ known_id c.events of.event of.there)

module _ (c : ScenarioData) (changed : Plan) (has : HasKnown c changed) (t : Target) where
  -- what falls due is such an event
  due_known : (past : List Move) (m : Move) → GoesOn changed past m → (e : EventData) (id : ℕ) (kind : PortEventKind)
      → m.entry.due.what ≡ what.Event e → e.happening ≡ happens.Port id kind → IsKnown c id
  due_known past m goes e id kind is h = has m.port e id kind goes.known (event_in changed past m e goes is).0 h

  first_known : (w : WatchData) (past : List Move) (m : Move) → GoesOn changed past m → AreKnown c w.waiting
      → AreKnown c (after_what w m.entry.at (is_ignored m.entry) m.entry.due.what).waiting
  first_known w past m goes are =
      what_known c w are m.entry.at (is_ignored m.entry) m.entry.due.what (λ e id kind is h. due_known past m goes e id kind is h)

  entry_known : (w : WatchData) (past : List Move) (m : Move) → GoesOn changed past m → AreKnown c w.waiting
      → AreKnown c (after_entry w m.entry).waiting
  unfolding after_entry
  entry_known w past m goes are =
      start_known c (after_what w m.entry.at (is_ignored m.entry) m.entry.due.what) (first_known w past m goes are) m.entry.start

  on_known : (b : Bool) (w : WatchData) (past : List Move) (m : Move) → GoesOn changed past m → AreKnown c w.waiting
      → AreKnown c (cond b (after_entry w m.entry) w).waiting
  on_known true w past m goes are = entry_known w past m goes are
  on_known false w past m goes are = are

  along_known : (w : WatchData) (past ms : List Move) → EachAfter (GoesOn changed) past ms → AreKnown c w.waiting
      → AreKnown c (fold (watched_on t) w (map shown ms)).waiting
  along_known w past [] goes are = are
  along_known w past (m ∷ ms) goes are =
      along_known (watched_on t w (shown m)) (past ++ m ∷ []) ms goes.1 (on_known (m.port + 1 == t.port) w past m goes.0 are)

  taken_known : (ds : List Disturber) (b : Bool) (d : Disturber) → AreKnown c ds → cond b (first_of ds) None ≡ Some d → IsKnown c d.id
  taken_known [] true d are h = absurd (cc)
  taken_known [] false d are h = absurd (cc)
  taken_known (x ∷ ds) true d are h = subst (λ (y : Disturber). IsKnown c y.id) (same_Some x d h) are.0
  taken_known (x ∷ ds) false d are h = absurd (cc)

  taker_known : (z : WatchData) (s : Option Start) (d : Disturber) → AreKnown c z.waiting → taken_by z s ≡ Some d → IsKnown c d.id
  taker_known z None d are h = absurd (cc)
  taker_known z (Some (start.HardReset side)) d are h = absurd (cc)
  taker_known z (Some (start.Packet side packet fate)) d are h = taken_known z.waiting (is_disturbed fate) d are h

  disturber_known : (w : WatchData) (past : List Move) (m : Move) (d : Disturber) → GoesOn changed past m → AreKnown c w.waiting
      → disturber_of w m.entry ≡ Some d → IsKnown c d.id
  unfolding disturber_of
  disturber_known w past m d goes are h =
      taker_known (after_what w m.entry.at (is_ignored m.entry) m.entry.due.what) m.entry.start d (first_known w past m goes are) h

-- ---- where it is hit

-- one of the moves hits it
record HitAt (events : List ScenarioEvent) (t : Target) (w : WatchData) (ms : List Move) : Type 0 where
  past : List Move
  move : Move
  later : List Move
  moves_are : ms ≡ past ++ move ∷ later
  hit : hits events t (fold (watched_on t) w (map shown past)) (shown move) ≡ true

hit_at : (events : List ScenarioEvent) (t : Target) (w : WatchData) (ms : List Move) → hit_from events t w (map shown ms) ≡ true
    → HitAt events t w ms
hit_at events t w [] h = absurd (cc)
hit_at events t w (m ∷ ms) h =
    elim (cases_Bool (hits events t w (shown m))) [
      | inl here ↦ record { past = []; move = m; later = ms; moves_are = refl; hit = here }
      | inr not_here ↦
          let rest = hit_at events t (watched_on t w (shown m)) ms
          (sym (ap (λ b. b || hit_from events t (watched_on t w (shown m)) (map shown ms)) not_here) ∙ h) in
          record {
            past = m ∷ rest.past;
            move = rest.move;
            later = rest.later;
            moves_are = ap (λ l. m ∷ l) rest.moves_are;
            hit = rest.hit;
          }
    ]

-- what is watched of the port alone is what is watched of it among all ports
watch_number : (ws : List WatchData) (p : ℕ) → watch_at ws (p + 1) ≡ get_or ws p at_rest
watch_number ws p = let e : (p + 1) - 1 ≡ p = omega arith in ap (λ n. get_or ws n at_rest) e

module _ (t : Target) (p : ℕ) (port : t.port ≡ p + 1) where
  step_same : (ws : List WatchData) (m : Move) → p < length ws
      → watch_at (after_step ws (shown m)) (p + 1) ≡ watched_on t (watch_at ws (p + 1)) (shown m)
  unfolding after_step
  step_same ws m known =
      let place : (m.port + 1) - 1 ≡ m.port = omega arith in
      let new : WatchData = after_entry (watch_at ws (m.port + 1)) m.entry in
      ⊎_elim
      (λ (same : m.port + 1 ≡ t.port).
      let here : m.port ≡ p = omega arith in
      watch_number (set ws ((m.port + 1) - 1) new) p ∙ ap (λ i. get_or (set ws i new) p at_rest) (place ∙ here)
      ∙ get_or-set_same ws p new at_rest known
      ∙ ap (λ i. after_entry (watch_at ws (i + 1)) m.entry) here
      ∙ sym (ap (λ b. cond b (after_entry (watch_at ws (p + 1)) m.entry) (watch_at ws (p + 1))) (eq-eqb (m.port + 1) t.port same)))
      (λ (other : m.port + 1 ≢ t.port).
      let beside : p ≢ (m.port + 1) - 1 = λ e. other (omega arith) in
      watch_number (set ws ((m.port + 1) - 1) new) p ∙ get_or-set_other ws ((m.port + 1) - 1) p new at_rest beside
      ∙ sym (watch_number ws p)
      ∙ sym (ap (λ b. cond b (after_entry (watch_at ws (p + 1)) m.entry) (watch_at ws (p + 1))) (ne_eqb (m.port + 1) t.port other)))
      (cases_eq (m.port + 1) t.port)

  steps_same : (ws : List WatchData) (w : WatchData) (ms : List Move) → p < length ws → watch_at ws (p + 1) ≡ w
      → watch_at (after_steps ws (map shown ms)) (p + 1) ≡ fold (watched_on t) w (map shown ms)
  steps_same ws w [] known is = is
  steps_same ws w (m ∷ ms) known is =
      let count = step_length ws (shown m) in
      steps_same (after_step ws (shown m)) (watched_on t w (shown m)) ms (omega arith)
      (step_same ws m known ∙ ap (λ z. watched_on t z (shown m)) is)

-- ---- the packet is the very one

abbrev side_at : ℕ → Side
side_at k = cond (k == 0) Source (cond (k == 1) Sink Plug)

side_placed : (s : Side) → side_at (side_place s) ≡ s
side_placed Source = refl
side_placed Sink = refl
side_placed Plug = refl

abbrev set_at : ℕ → Channel
set_at k = cond (k == 0) Sop SopPrime

set_placed : (c : Channel) → set_at (set_place c) ≡ c
set_placed Sop = refl
set_placed SopPrime = refl

-- the packet that starts
record IsVery (t : Target) (s : Option Start) : Type 0 where
  side : Side
  packet : Contents
  fate : Fate
  starts : s ≡ Some (start.Packet side packet fate)
  side_is : side ≡ t.side
  channel_is : packet.channel ≡ t.channel
  header_is : packet.header ≡ t.header

very_one : (t : Target) (s : Option Start) → is_packet t s ≡ true → IsVery t s
very_one t None h = absurd (cc)
very_one t (Some (start.HardReset side)) h = absurd (cc)
very_one t (Some (start.Packet side packet fate)) h =
    let (both, header) =
    and_parts (side_place side == side_place t.side && set_place packet.channel == set_place t.channel) (packet.header == t.header) h in
    let (side_is, set_is) = and_parts (side_place side == side_place t.side) (set_place packet.channel == set_place t.channel) both in
    record {
      side = side;
      packet = packet;
      fate = fate;
      starts = refl;
      side_is = sym (side_placed side) ∙ ap side_at (eqb-true (side_place side) (side_place t.side) side_is) ∙ side_placed t.side;
      channel_is =
          sym (set_placed packet.channel) ∙ ap set_at (eqb-true (set_place packet.channel) (set_place t.channel) set_is)
          ∙ set_placed t.channel;
      header_is = eqb-true packet.header t.header header;
    }

-- the event that is named was put in
record IsNamed (events : List ScenarioEvent) (o : Option Disturber) : Type 0 where
  taker : Disturber
  is : o ≡ Some taker
  is_new : has_id events taker.id ≡ false

named : (events : List ScenarioEvent) (o : Option Disturber) → is_put_in events (id_of o) ≡ true → IsNamed events o
named events None h = absurd (cc)
named events (Some d) h = record { taker = d; is = refl; is_new = not-true (has_id events d.id) h }

-- a packet that takes a disturbance is lost or damaged
disturbed_if : (b : Bool) (ds : List Disturber) (d : Disturber) → cond b (first_of ds) None ≡ Some d → b ≡ true
disturbed_if true ds d h = refl
disturbed_if false ds d h = absurd (cc)

start_disturbed : (z : WatchData) (s : Option Start) (side : Side) (packet : Contents) (fate : Fate) (d : Disturber)
    → s ≡ Some (start.Packet side packet fate) → taken_by z s ≡ Some d → is_disturbed fate ≡ true
start_disturbed z s side packet fate d is h =
    disturbed_if (is_disturbed fate) z.waiting d (subst (λ x. taken_by z x ≡ Some d) is h)

is_taken : (w : WatchData) (e : Entry) (side : Side) (packet : Contents) (fate : Fate) (d : Disturber)
    → e.start ≡ Some (start.Packet side packet fate) → disturber_of w e ≡ Some d → is_disturbed fate ≡ true
unfolding disturber_of
is_taken w e side packet fate d is h = start_disturbed (after_what w e.at (is_ignored e) e.due.what) e.start side packet fate d is h

-- ---- all of it

module _ (c : ScenarioData) (campaign : Campaign) (ps : Packets) (moves : List Move) (run : Run (plan_with c campaign ps) moves) where
  abbrev with_them : Plan
  with_them = plan_with c campaign ps

  all_known : HasKnown c with_them
  all_known = known_all campaign c (members ps) (plan_of c) (scripts_known c) (old_known c)

  hit_is_true : (t : Target) → HasLoss with_them campaign.loss t → HitAt c.events t at_rest moves
      → IsHit c with_them campaign.loss t moves
  hit_is_true t there h =
      let m = h.move in
      let goes_on = subst (EachAfter (GoesOn with_them) []) h.moves_are run.chained in
      let before = EachAfter-front (GoesOn with_them) [] h.past (m ∷ h.later) goes_on in
      let goes = (EachAfter-back (GoesOn with_them) [] h.past (m ∷ h.later) goes_on).0 in
      let w : WatchData = fold (watched_on t) at_rest (map shown h.past) in
      let (port, rest) =
      and_parts (m.port + 1 == t.port)
      ((m.entry.at == t.at && is_packet t m.entry.start) && is_put_in c.events (id_of (disturber_of w m.entry))) h.hit in
      let (own, new) =
      and_parts (m.entry.at == t.at && is_packet t m.entry.start) (is_put_in c.events (id_of (disturber_of w m.entry))) rest in
      let (time, packet) = and_parts (m.entry.at == t.at) (is_packet t m.entry.start) own in
      let on_port = eqb-true (m.port + 1) t.port port in
      let very = very_one t m.entry.start packet in
      let who = named c.events (disturber_of w m.entry) new in
      let known = goes.known in
      let count_is = length-replicate (count with_them) at_rest in
      let start_at : watch_at (all_at_rest (count with_them)) (m.port + 1) ≡ at_rest =
      watch_number (all_at_rest (count with_them)) m.port ∙ get_or-replicate (count with_them) m.port at_rest at_rest known in
      let ws : List WatchData = after_steps (all_at_rest (count with_them)) (map shown h.past) in
      let watched : watch_at ws (m.port + 1) ≡ w =
      steps_same t m.port (sym on_port) (all_at_rest (count with_them)) at_rest h.past (omega arith) start_at in
      let takes : disturber_of (watch_at ws (m.port + 1)) m.entry ≡ Some who.taker =
      ap (λ z. disturber_of z m.entry) watched ∙ who.is in
      let named_so =
      takers_are_named with_them h.past m before goes very.side very.packet very.fate very.starts
      (is_taken w m.entry very.side very.packet very.fate who.taker very.starts who.is) in
      let one : named_so.0 ≡ who.taker = same_Some named_so.0 who.taker (sym named_so.1 ∙ takes) in
      let of =
      disturber_known c with_them all_known t w h.past m who.taker goes
      (along_known c with_them all_known t at_rest [] h.past before tt) who.is in
      record {
        past = h.past;
        move = m;
        later = h.later;
        moves_are = h.moves_are;
        on_port = on_port;
        on_time = eqb-true m.entry.at t.at time;
        side = very.side;
        packet = very.packet;
        fate = very.fate;
        starts = very.starts;
        side_is = very.side_is;
        channel_is = very.channel_is;
        header_is = very.header_is;
        taker = who.taker;
        takes = takes;
        fate_is = ap (λ (d : Disturber). d.fate) (sym one) ∙ named_so.2;
        is_new = who.is_new;
        is_put_in = no_id who.taker.id who.is_new of;
        there = there m.port known on_port;
      }
    where
      no_id : (id : ℕ) → has_id c.events id ≡ false → IsKnown c id → id ≡ 0
      no_id id new of = elim of [ inl old ↦ absurd (cc) | inr is ↦ is ]

  hits_are_true_of : (ts : List Target) → AllByRecursion (HasLoss with_them campaign.loss) ts → are_hit c.events ts (map shown moves) ≡ true
      → AllByRecursion (λ t. IsHit c with_them campaign.loss t moves) ts
  hits_are_true_of [] there hit = tt
  hits_are_true_of (t ∷ ts) there hit =
      let (first, others) = and_parts (is_hit c.events t (map shown moves)) (are_hit c.events ts (map shown moves)) hit in (
        hit_is_true t there.0 (hit_at c.events t at_rest moves first),
        hits_are_true_of ts there.1 others,
      )

run_is_true : (c : ScenarioData) (campaign : Campaign) (ps : Packets) (effect : Effect)
    → IsRunOf c (plan_with c campaign ps) (members ps) (Ran effect) → RanHit c campaign ps effect
run_is_true c campaign ps effect ran =
    let plan : Plan = plan_with c campaign ps in
    record {
      moves = ran.shows.moves;
      safe = ran.shows.safe;
      found = subst (λ l. AreFindings plan l effect.findings) ran.shows.entries_are ran.found;
      base = ran.base_shows.moves;
      base_safe = ran.base_shows.safe;
      measured =
          ran.measured ∙ ap (λ l. measures_of (plan_of c).end l ran.moves) ran.base_shows.entries_are
          ∙ ap (λ l. measures_of (plan_of c).end (map shown ran.base_shows.moves) l) ran.shows.entries_are;
      hits =
          hits_are_true_of c campaign ps ran.shows.moves ran.shows.safe.run (members ps)
          (losses_all campaign (members ps) (plan_of c) (scripts_known c))
          (ap (are_hit c.events (members ps)) (sym ran.shows.entries_are) ∙ ran.hit);
    }

pub hits_are_true : HitsAreTrue
hits_are_true n c campaign trial effect is ran = by_disturbed (last_of trial.packets).disturbed is
  where
    by_disturbed : (b : Bool)
        → MatchBool b (trial.outcome ≡ Disturbed)
        (IsRunOf c (plan_with c campaign trial.packets) (members trial.packets) trial.outcome)
        → RanHit c campaign trial.packets effect
    by_disturbed true h = let never : Disturbed ≡ Ran effect = sym h ∙ ran in absurd (cc)
    by_disturbed false h =
        run_is_true c campaign trial.packets effect
        (subst (IsRunOf c (plan_with c campaign trial.packets) (members trial.packets)) ran h)

pub measures_are_true : MeasuresAreTrue
measures_are_true n c campaign trial effect base moves is ran base_run run =
    let plan : Plan = plan_with c campaign trial.packets in
    let hit : RanHit c campaign trial.packets effect = hits_are_true n c campaign trial effect is ran in
    hit.measured
    ∙ ap (λ (l : List Move). measures_of (plan_of c).end (map shown l) (map shown hit.moves))
    (run_unique (plan_of c) hit.base base hit.base_safe.run base_run)
    ∙ ap (λ (l : List Move). measures_of (plan_of c).end (map shown base) (map shown l))
    (run_unique plan hit.moves moves hit.safe.run run)
