-- A port is watched as its record has it, along a run.
use Rattle.std.proofs.Common.{◌≡◌, ◌≢◌, ℕ, ◌+◌, ◌-◌, ◌<◌, Bool, true, false, if◌then◌else◌, List, [], ◌∷◌, ◌++◌, length, drop, map}
use Rattle.std.proofs.Common.{◌⊎◌, inl, inr, Option, None, Some, is_some, refl, sym, ap, ◌∙◌, subst, arith, append_assoc, get_or}
use Rattle.std.proofs.lemmas.List.{append-nil, length-replicate, length-set, get_or-replicate, map-append}
use Rattle.std.proofs.lemmas.List.{get_or-set_same, get_or-set_other}
use Rattle.std.proofs.lemmas.Bool.{cases_eq}
use Rattle.pd_objects.specs.declared.query.Answer.{Answer}
use Rattle.pd_objects.specs.declared.query.Answer.TheVariants as answer
use Rattle.pd_packet.specs.Contents.{Contents}
use Rattle.pd_packet.specs.declared.fate.Fate.{Fate}
use Rattle.pd_packet.specs.declared.fate.Fate.TheVariants.{Undisturbed, Lost, Damaged}
use Rattle.pd_header.specs.declared.side.Side.{Side}
use Rattle.pd_setup.specs.Settings.{SettingsData}
use Rattle.pd_setup.specs.Events.{PortEventKind}
use Rattle.pd_setup.specs.declared.event.EventKind.TheVariants.{Attach, Detach, Demand, Lose, Damage, GetSource, GetSink}
use Rattle.pd_setup.specs.declared.event.Happening.{Happening}
use Rattle.pd_setup.specs.declared.event.Happening.TheVariants as happening
use Rattle.pd_source.specs.declared.kinds.Stimulus.TheVariants as source_told
use Rattle.pd_sink.specs.declared.kinds.Stimulus.TheVariants as sink_told
use Rattle.pd_line.specs.declared.notes.Fault.TheVariants.{Ignored}
use Rattle.pd_line.specs.declared.notes.Start.{Start}
use Rattle.pd_line.specs.declared.notes.Start.TheVariants as start
use Rattle.pd_line.specs.declared.disturbances.Disturbance.{Disturbance}
use Rattle.pd_line.specs.declared.disturbances.Disturbance.TheVariants as disturbance
use Rattle.pd_line.specs.declared.port_step.PortStep.{PortStep}
use Rattle.pd_line.specs.PortStep.{noted}
use Rattle.pd_line.specs.Record.{nothing_attached}
use Rattle.pd_line.specs.Lines.{fate_of, line_starts}
use Rattle.pd_port.specs.declared.due.What.{What}
use Rattle.pd_port.specs.declared.due.What.TheVariants as what
use Rattle.pd_port.specs.declared.due.Due.{Due}
use Rattle.pd_port.specs.declared.entry.Entry.{Entry}
use Rattle.pd_port.specs.Happens.{detaches, disturbs, gets_source, gets_sink, shed, budget_changes, happens_attached, happens_detached}
use Rattle.pd_port.specs.Happens.{event_happens}
use Rattle.pd_port.specs.Port.{PortRecord, begun, detached, entry_of, portstep, record_after, whole}
use Rattle.pd_scenario.specs.Plan.{Plan, count, settings_of}
use Rattle.pd_run.specs.Order.{EachAfter}
use Rattle.pd_run.specs.Run.{GoesOn, Move, Standing, shown, standing, after as left_by}
use Rattle.pd_run.proofs.Moves.{standing-same, standing-other}
use Rattle.pd_watch.specs.declared.watch.Disturber.{Disturber}
use Rattle.pd_watch.specs.Watch.{WatchData, after_entry, after_happening, after_kind, after_start, after_what, at_rest}
use Rattle.pd_watch.specs.Watch.{after_step, after_steps, all_at_rest, disturber_of, first_of, is_disturbed, is_ignored}
use Rattle.pd_watch.specs.Watch.{taken_by, watch_at, with_disturber}
use Rattle.pd_watch.specs.Truth.{IsWatched, PortsAreWatched, TakersAreNamed, made_by}
use Rattle.pd_watch.proofs.Keeps.{IsFated, first_fate, View, view, left, Took, took_on, line_ends_out, timer_same}
use Rattle.pd_watch.proofs.Keeps.{sink_same, source_same, attach_view}
use Rattle.pd_watch.proofs.Keeps.{starts_took, step_took}

-- ---- what starts

-- a port is watched as a step under way has it
record IsSeen (y : WatchData) (v : View) : Type 0 where
  attached : y.attached ≡ is_some v.cable
  in_step : map made_by y.waiting ≡ map fate_of v.row

-- what starts has the fate that the first event that waits makes of it; after it, a port is watched as the step has it
record Leaves (y : WatchData) (v : View) : Type 0 where
  seen : IsSeen (after_start y v.start) v
  fated : IsFated v.start (map made_by y.waiting)

start_attached : (y : WatchData) (s : Option Start) → (after_start y s).attached ≡ y.attached
start_attached y None = refl
start_attached y (Some (start.HardReset side)) = refl
start_attached y (Some (start.Packet side p Undisturbed)) = refl
start_attached y (Some (start.Packet side p Lost)) = refl
start_attached y (Some (start.Packet side p (Damaged harm))) = refl

drop_first : {A B : Type 0} (f : A → B) (xs : List A) → map f (drop 1 xs) ≡ drop 1 (map f xs)
drop_first f [] = refl
drop_first f (x ∷ xs) = refl

drop_put : (ds : List Disturber) (row : List Disturbance) → map made_by ds ≡ map fate_of row
    → map made_by (drop 1 ds) ≡ map fate_of (drop 1 row)
drop_put ds row e = drop_first made_by ds ∙ ap (drop 1) e ∙ sym (drop_first fate_of row)

start_in_step : (y : WatchData) (s : Option Start) (row : List Disturbance) → map made_by y.waiting ≡ map fate_of row
    → map made_by (after_start y s).waiting ≡ map fate_of (left s row)
start_in_step y None row h = h
start_in_step y (Some (start.HardReset side)) row h = h
start_in_step y (Some (start.Packet side p Undisturbed)) row h = h
start_in_step y (Some (start.Packet side p Lost)) row h = drop_put y.waiting row h
start_in_step y (Some (start.Packet side p (Damaged harm))) row h = drop_put y.waiting row h

start_seen : (y : WatchData) (v v' : View) → Took v v' → IsSeen y v → Leaves y v'
start_seen y v v' k f = record {
  seen = record {
    attached = start_attached y v'.start ∙ f.attached ∙ ap is_some (sym k.cable_is);
    in_step = start_in_step y v'.start v.row f.in_step ∙ ap (map fate_of) (sym k.row_is);
  };
  fated = subst (IsFated v'.start) (sym f.in_step) k.fated;
}

-- ---- an event

-- a port is watched as it is at the end of a step, after an event that has led to this step under way
abbrev Ends : WatchData → ℕ → Happening → PortStep → Type 0
Ends y t h w = let v = view (line_starts t w) in Leaves (after_happening y t v.ignored h) v

either : (y : WatchData) (t : ℕ) (h : Happening) (b : Bool) (f g : PortStep) → Ends y t h f → Ends y t h g → Ends y t h (if b then f else g)
either y t h true f g p q = p
either y t h false f g p q = q

ends : (y z : WatchData) (t : ℕ) (h : Happening) (w : PortStep) (v : View) → view w ≡ v → v.start ≡ None
    → after_happening y t v.ignored h ≡ z
    → IsSeen z v → Ends y t h w
ends y z t h w v e none is seen =
    let v' : View = view (line_starts t w) in
    let took : Took v v' = took_on (view w) v v' e (starts_took t w (ap (λ (x : View). x.start) e ∙ none)) in
    let same : after_happening y t v'.ignored h ≡ z = ap (λ b. after_happening y t b h) took.ignored_is ∙ is in
    subst (λ (q : WatchData). Leaves q v') (sym same) (start_seen z v v' took seen)

-- ---- from the step's beginning

abbrev first : SettingsData → PortRecord → Option Answer → PortStep
first s r given = begun (whole s r) given

abbrev view_of : PortRecord → View
view_of r = record { cable = r.cable; row = r.disturbances; ignored = false; start = None }

-- nothing is seen of it
kept : (r : PortRecord) (y : WatchData) (t : ℕ) (h : Happening) (w : PortStep) → IsWatched y r → view w ≡ view_of r
    → after_happening y t false h ≡ y → Ends y t h w
kept r y t h w f e is = ends y y t h w (view_of r) e refl is (record { attached = f.attached; in_step = f.in_step })

ignored_ends : (s : SettingsData) (r : PortRecord) (given : Option Answer) (y : WatchData) (t id : ℕ) (h : Happening) → IsWatched y r
    → Ends y t h (noted (Ignored id) (first s r given))
unfolding noted
ignored_ends s r given y t id h f =
    ends y y t h _ (record (view_of r) { ignored = true }) refl refl refl (record { attached = f.attached; in_step = f.in_step })

one_more : (ds : List Disturber) (row : List Disturbance) (d : Disturber) (x : Disturbance) → map made_by ds ≡ map fate_of row
    → d.fate ≡ fate_of x → map made_by (ds ++ d ∷ []) ≡ map fate_of (row ++ x ∷ [])
one_more ds row d x e same =
    map-append made_by ds (d ∷ []) ∙ ap (λ (v : List Fate). v ++ d.fate ∷ []) e
    ∙ ap (λ (f : Fate). map fate_of row ++ f ∷ []) same ∙ sym (map-append fate_of row (x ∷ []))

disturbs_ends : (s : SettingsData) (r : PortRecord) (given : Option Answer) (y : WatchData) (t id : ℕ) (d : Disturbance)
    (kind : PortEventKind) → IsWatched y r
    → after_kind y t id kind ≡ with_disturber y t id (fate_of d)
    → Ends y t (happening.Port id kind) (disturbs id d (first s r given))
unfolding disturbs
disturbs_ends s r given y t id d kind f is =
    either y t (happening.Port id kind) _ _ _
    (ends y (with_disturber y t id (fate_of d)) t (happening.Port id kind) _
    (record (view_of r) { row = r.disturbances ++ d ∷ [] }) refl refl is
    (record {
      attached = f.attached;
      in_step = one_more y.waiting r.disturbances (record { id = id; at = t; fate = fate_of d }) d f.in_step refl;
    }))
    (ignored_ends s r given y t id (happening.Port id kind) f)

attached_ends : (s : SettingsData) (r : PortRecord) (given : Option Answer) (y : WatchData) (t id : ℕ) (kind : PortEventKind)
    → IsWatched y r → Ends y t (happening.Port id kind) (happens_attached id kind t (first s r given))
unfolding detaches nothing_attached gets_source gets_sink
attached_ends s r given y t id (Attach cable device) f = ignored_ends s r given y t id _ f
attached_ends s r given y t id Detach f =
    ends y at_rest t (happening.Port id Detach) _ (record { cable = None; row = []; ignored = false; start = None }) refl refl refl
    (record { attached = refl; in_step = refl })
attached_ends s r given y t id (Demand mw) f = kept r y t _ _ f (sink_same t (sink_told.Demand mw) (first s r given)) refl
attached_ends s r given y t id Lose f = disturbs_ends s r given y t id disturbance.Lost Lose f refl
attached_ends s r given y t id (Damage harm) f = disturbs_ends s r given y t id (disturbance.Damaged harm) (Damage harm) f refl
attached_ends s r given y t id GetSource f =
    either y t (happening.Port id GetSource) _ _ _ (kept r y t _ _ f (sink_same t sink_told.GetSource (first s r given)) refl)
    (ignored_ends s r given y t id (happening.Port id GetSource) f)
attached_ends s r given y t id GetSink f =
    either y t (happening.Port id GetSink) _ _ _ (kept r y t _ _ f (source_same t source_told.GetSink (first s r given)) refl)
    (ignored_ends s r given y t id (happening.Port id GetSink) f)

detached_ends : (s : SettingsData) (r : PortRecord) (given : Option Answer) (y : WatchData) (t id : ℕ) (kind : PortEventKind)
    → IsWatched y r → Ends y t (happening.Port id kind) (happens_detached id kind t (first s r given))
detached_ends s r given y t id (Attach cable device) f =
    ends y (record y { attached = true }) t (happening.Port id (Attach cable device)) _ (record (view_of r) { cable = Some cable })
    (attach_view cable device t (first s r given)) refl refl (record { attached = refl; in_step = f.in_step })
detached_ends s r given y t id kind f = ignored_ends s r given y t id (happening.Port id kind) f

shed_same : (a : Option Answer) (t : ℕ) (w : PortStep) → view (shed a t w) ≡ view w
shed_same None t w = refl
shed_same (Some (answer.Offer currents)) t w = refl
shed_same (Some (answer.Fits true)) t w = refl
shed_same (Some (answer.Fits false)) t w = source_same t source_told.Shed w

happening_ends : (s : SettingsData) (r : PortRecord) (given : Option Answer) (y : WatchData) (t : ℕ) (h : Happening)
    → IsWatched y r → Ends y t h (event_happens h t (first s r given))
unfolding budget_changes
happening_ends s r given y t (happening.Port id kind) f =
    either y t (happening.Port id kind) (is_some r.cable) _ _ (attached_ends s r given y t id kind f)
    (detached_ends s r given y t id kind f)
happening_ends s r given y t happening.Budget f =
    kept r y t happening.Budget _ f (shed_same given t (record (first s r given) { answer = None })) refl

-- ---- a whole step

abbrev SeesStep : SettingsData → PortRecord → Option Answer → WatchData → ℕ → What → Type 0
SeesStep s r given y t x =
    let v = view (portstep (whole s r) (record { time = t; what = x }) given) in
    Leaves (after_what y t v.ignored x) v

sees_step : (s : SettingsData) (r : PortRecord) (given : Option Answer) (y : WatchData) (t : ℕ) (x : What) → IsWatched y r
    → SeesStep s r given y t x
unfolding portstep
sees_step s r given y t (what.Event e) f = happening_ends s r given y t e.happening f
sees_step s r given y t what.Line f =
    start_seen y (view_of r) _ (step_took t (first s r given) _ refl (line_ends_out t (first s r given)))
    (record { attached = f.attached; in_step = f.in_step })
sees_step s r given y t (what.Timer side timer) f =
    start_seen y (view_of r) _ (step_took t (first s r given) _ refl (inl (timer_same side timer t (first s r given))))
    (record { attached = f.attached; in_step = f.in_step })

-- what is watched of a port after a step is what its record has then
watched_after : (s : SettingsData) (r : PortRecord) (given : Option Answer) (y : WatchData) (d : Due) → IsWatched y r
    → IsWatched (after_entry y (entry_of s r d given)) (record_after s r d given)
unfolding after_entry entry_of record_after
watched_after s r given y d f =
    let seen = (sees_step s r given y d.time d.what f).seen in record { attached = seen.attached; in_step = seen.in_step }

-- and what starts has the fate that the first event makes of it
fated_after : (s : SettingsData) (r : PortRecord) (given : Option Answer) (y : WatchData) (d : Due) → IsWatched y r
    → let e = entry_of s r d given in IsFated e.start (map made_by (after_what y e.at (is_ignored e) e.due.what).waiting)
unfolding entry_of
fated_after s r given y d f = (sees_step s r given y d.time d.what f).fated

-- so where it is lost or damaged, that event is named
named : (y : WatchData) (side : Side) (packet : Contents) (fate : Fate) → is_disturbed fate ≡ true
    → fate ≡ first_fate (map made_by y.waiting)
    → (d : Disturber) × (taken_by y (Some (start.Packet side packet fate)) ≡ Some d) × (d.fate ≡ fate)
named y side packet fate hit is = by_waiting y.waiting is where
  by_waiting : (ds : List Disturber) → fate ≡ first_fate (map made_by ds)
      → (d : Disturber) × ((if is_disturbed fate then first_of ds else None) ≡ Some d) × (d.fate ≡ fate)
  by_waiting [] is = let never : false ≡ true = sym (ap is_disturbed is) ∙ hit in absurd (cc)
  by_waiting (d ∷ ds) is = (d, ap (λ b. if b then Some d else None) hit, sym is)

-- ---- along a run

-- there are as many ports as before
pub step_length : (ws : List WatchData) (s : ℕ × Entry) → length (after_step ws s) ≡ length ws
unfolding after_step
step_length ws (port, e) = length-set ws _ _

-- each port is watched as these moves have left it
record AreWatched (plan : Plan) (moves : List Move) (ws : List WatchData) : Type 0 where
  count_is : length ws ≡ count plan
  each : (p : ℕ) → p < count plan → IsWatched (watch_at ws (p + 1)) (standing plan moves p).state

watch_number : (ws : List WatchData) (p : ℕ) → watch_at ws (p + 1) ≡ get_or ws p at_rest
watch_number ws p = let e : (p + 1) - 1 ≡ p = omega arith in ap (λ n. get_or ws n at_rest) e

none_moved : (plan : Plan) → AreWatched plan [] (all_at_rest (count plan))
unfolding detached nothing_attached
none_moved plan = record {
  count_is = length-replicate (count plan) at_rest;
  each = λ p known.
      subst (λ (w : WatchData). IsWatched w (standing plan [] p).state)
      (sym (watch_number (all_at_rest (count plan)) p ∙ get_or-replicate (count plan) p at_rest at_rest known))
      (record { attached = refl; in_step = refl });
}

-- the port that moves
own_watch : (plan : Plan) (past : List Move) (ws : List WatchData) (m : Move) → AreWatched plan past ws → GoesOn plan past m
    → IsWatched (after_entry (watch_at ws (m.port + 1)) m.entry) (standing plan (past ++ m ∷ []) m.port).state
own_watch plan past ws m a g =
    let s = settings_of plan m.port in
    let before : IsWatched (watch_at ws (m.port + 1)) m.before =
    subst (λ (r : PortRecord). IsWatched (watch_at ws (m.port + 1)) r) (sym g.before_is) (a.each m.port g.known) in
    let after_it : IsWatched (after_entry (watch_at ws (m.port + 1)) m.entry) (left_by plan m) =
    subst (λ (e : Entry). IsWatched (after_entry (watch_at ws (m.port + 1)) e) (left_by plan m)) (sym g.entry_is)
    (watched_after s m.before m.answer (watch_at ws (m.port + 1)) m.due before) in
    subst (λ (z : Standing). IsWatched (after_entry (watch_at ws (m.port + 1)) m.entry) z.state)
    (sym (standing-same plan past m m.port refl))
    after_it

step_at : (ws : List WatchData) (m : Move) → m.port < length ws
    → watch_at (after_step ws (shown m)) (m.port + 1) ≡ after_entry (watch_at ws (m.port + 1)) m.entry
unfolding after_step
step_at ws m known =
    let e : (m.port + 1) - 1 ≡ m.port = omega arith in
    rw e (get_or-set_same ws m.port _ at_rest known)

step_beside : (ws : List WatchData) (m : Move) (p : ℕ) → p ≢ m.port
    → watch_at (after_step ws (shown m)) (p + 1) ≡ watch_at ws (p + 1)
unfolding after_step
step_beside ws m p other =
    let e : (m.port + 1) - 1 ≡ m.port = omega arith in
    let f : (p + 1) - 1 ≡ p = omega arith in
    rw (e, f) (get_or-set_other ws m.port p _ at_rest other)

one_moved : (plan : Plan) (past : List Move) (ws : List WatchData) (m : Move) → AreWatched plan past ws → GoesOn plan past m
    → AreWatched plan (past ++ m ∷ []) (after_step ws (shown m))
one_moved plan past ws m a g = record {
  count_is = step_length ws (shown m) ∙ a.count_is;
  each = λ p known. by_port p known (cases_eq p m.port);
} where
  by_port : (p : ℕ) → p < count plan → (p ≡ m.port) ⊎ (p ≢ m.port)
      → IsWatched (watch_at (after_step ws (shown m)) (p + 1)) (standing plan (past ++ m ∷ []) p).state
  by_port p known (inl same) =
      let there : m.port < length ws = subst (λ n. m.port < n) (sym a.count_is) g.known in
      subst (λ k. IsWatched (watch_at (after_step ws (shown m)) (k + 1)) (standing plan (past ++ m ∷ []) k).state) (sym same)
      (subst (λ (w : WatchData). IsWatched w (standing plan (past ++ m ∷ []) m.port).state) (sym (step_at ws m there))
      (own_watch plan past ws m a g))
  by_port p known (inr other) =
      subst (λ (w : WatchData). IsWatched w (standing plan (past ++ m ∷ []) p).state) (sym (step_beside ws m p other))
      (subst (λ (z : Standing). IsWatched (watch_at ws (p + 1)) z.state) (sym (standing-other plan past m p (λ e. other (sym e))))
      (a.each p known))

all_moved : (plan : Plan) (past moves : List Move) (ws : List WatchData) → AreWatched plan past ws → EachAfter (GoesOn plan) past moves
    → AreWatched plan (past ++ moves) (after_steps ws (map shown moves))
all_moved plan past [] ws a h = subst (λ (x : List Move). AreWatched plan x ws) (sym (append-nil past)) a
all_moved plan past (m ∷ ms) ws a h =
    subst (λ (x : List Move). AreWatched plan x (after_steps (after_step ws (shown m)) (map shown ms))) (append_assoc past (m ∷ []) ms)
    (all_moved plan (past ++ m ∷ []) ms (after_step ws (shown m)) (one_moved plan past ws m a h.0) h.1)

taker_named : (y : WatchData) (e : Entry) (side : Side) (packet : Contents) (fate : Fate) → e.start ≡ Some (start.Packet side packet fate)
    → is_disturbed fate ≡ true → IsFated e.start (map made_by (after_what y e.at (is_ignored e) e.due.what).waiting)
    → (d : Disturber) × (disturber_of y e ≡ Some d) × (d.fate ≡ fate)
unfolding disturber_of
taker_named y e side packet fate is hit fated =
    let z : WatchData = after_what y e.at (is_ignored e) e.due.what in
    subst (λ s. (d : Disturber) × (taken_by z s ≡ Some d) × (d.fate ≡ fate)) (sym is)
    (named z side packet fate hit (subst (λ s. IsFated s (map made_by z.waiting)) is fated))

pub takers_are_named : TakersAreNamed
takers_are_named plan past m h g side packet fate is hit =
    let ws : List WatchData = after_steps (all_at_rest (count plan)) (map shown past) in
    let s = settings_of plan m.port in
    let before : IsWatched (watch_at ws (m.port + 1)) m.before =
    subst (λ (r : PortRecord). IsWatched (watch_at ws (m.port + 1)) r) (sym g.before_is)
    ((all_moved plan [] past (all_at_rest (count plan)) (none_moved plan) h).each m.port g.known) in
    let y : WatchData = watch_at ws (m.port + 1) in
    taker_named y m.entry side packet fate is hit
    (subst (λ (e : Entry). IsFated e.start (map made_by (after_what y e.at (is_ignored e) e.due.what).waiting)) (sym g.entry_is)
    (fated_after s m.before m.answer y m.due before))

pub ports_are_watched : PortsAreWatched
ports_are_watched plan moves h = (all_moved plan [] moves (all_at_rest (count plan)) (none_moved plan) h).each
