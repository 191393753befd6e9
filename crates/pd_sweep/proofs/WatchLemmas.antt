-- What is watched of a packet's port, as far as a packet that starts can tell: the disturbances that wait.
use Rattle.std.proofs.Common.{◌≡◌, ℕ, zero, suc, ◌<◌, ◌≤◌, Bool, true, false, cond, List, [], ◌∷◌, ◌++◌, drop, Option, Some, None, refl}
use Rattle.std.proofs.Common.{ap}
use Rattle.std.proofs.Common.{◌∙◌, arith}
use Rattle.std.specs.Prelude.{◌==◌, ◌&&◌, ◌||◌, take}
use Rattle.std.specs.List.{AllByRecursion}
use Rattle.std.proofs.lemmas.Bool.{eqb-true, ne_eqb}
use Rattle.pd_packet.specs.declared.fate.Fate.TheVariants.{Lost, Damaged}
use Rattle.pd_setup.specs.Events.{PortEventKind}
use Rattle.pd_setup.specs.declared.event.EventKind.TheVariants.{Lose, Damage, Detach}
use Rattle.pd_setup.specs.declared.event.Happening.{Happening}
use Rattle.pd_setup.specs.declared.event.Happening.TheVariants as happening
use Rattle.pd_line.specs.declared.notes.Start.{Start}
use Rattle.pd_line.specs.declared.notes.Start.TheVariants as start
use Rattle.pd_port.specs.declared.due.What.{What}
use Rattle.pd_port.specs.declared.due.What.TheVariants as what
use Rattle.pd_port.specs.declared.entry.Entry.{Entry}
use Rattle.pd_scenario.specs.declared.event.ScenarioEvent.{ScenarioEvent}
use Rattle.pd_watch.specs.Watch.{WatchData, after_entry, after_happening, after_kind, after_start, after_what, at_rest, disturber_of}
use Rattle.pd_watch.specs.Watch.{first_of, id_of, is_disturbed, is_ignored, taken_by}
use Rattle.pd_sweep.specs.Along.{disturbs_happening, disturbs_kind}
use Rattle.pd_sweep.specs.Trials.{AreBefore, hit_from, hits, is_packet, is_put_in, watched_on}
use Rattle.pd_sweep.specs.declared.packets.Target.{Target}
use Rattle.pd_sweep.proofs.QuietLemmas.{and_false}

-- ---- what waits after an entry, and what a packet takes, is so whatever else is watched

module _ (w v : WatchData) (same : w.waiting ≡ v.waiting) where
  kind_row : (at id : ℕ) (kind : PortEventKind) → (after_kind w at id kind).waiting ≡ (after_kind v at id kind).waiting
  kind_row at id Detach = refl
  kind_row at id Lose = ap (λ ds. ds ++ record { id = id; at = at; fate = Lost } ∷ []) same
  kind_row at id (Damage harm) = ap (λ ds. ds ++ record { id = id; at = at; fate = Damaged harm } ∷ []) same
  kind_row at id _ = same

  happening_row : (at : ℕ) (ignored : Bool) (h : Happening)
      → (after_happening w at ignored h).waiting ≡ (after_happening v at ignored h).waiting
  happening_row at true h = same
  happening_row at false (happening.Port id kind) = kind_row at id kind
  happening_row at false happening.Budget = same

  what_row : (at : ℕ) (ignored : Bool) (x : What) → (after_what w at ignored x).waiting ≡ (after_what v at ignored x).waiting
  what_row at ignored (what.Event e) = happening_row at ignored e.happening
  what_row at ignored what.Line = same
  what_row at ignored (what.Timer side timer) = same

  drop_row : (b : Bool)
      → (cond b (record w { waiting = drop 1 w.waiting }) w).waiting ≡ (cond b (record v { waiting = drop 1 v.waiting }) v).waiting
  drop_row true = ap (drop 1) same
  drop_row false = same

  start_row : (s : Option Start) → (after_start w s).waiting ≡ (after_start v s).waiting
  start_row None = same
  start_row (Some (start.HardReset side)) = same
  start_row (Some (start.Packet side packet fate)) = drop_row (is_disturbed fate)

  taken_row : (s : Option Start) → taken_by w s ≡ taken_by v s
  taken_row None = refl
  taken_row (Some (start.HardReset side)) = refl
  taken_row (Some (start.Packet side packet fate)) = ap (λ ds. cond (is_disturbed fate) (first_of ds) None) same

entry_row : (w v : WatchData) (e : Entry) → w.waiting ≡ v.waiting → (after_entry w e).waiting ≡ (after_entry v e).waiting
unfolding after_entry
entry_row w v e same =
    start_row (after_what w e.at (is_ignored e) e.due.what) (after_what v e.at (is_ignored e) e.due.what)
    (what_row w v same e.at (is_ignored e) e.due.what) e.start

disturber_row : (w v : WatchData) (e : Entry) → w.waiting ≡ v.waiting → disturber_of w e ≡ disturber_of v e
unfolding disturber_of
disturber_row w v e same =
    taken_row (after_what w e.at (is_ignored e) e.due.what) (after_what v e.at (is_ignored e) e.due.what)
    (what_row w v same e.at (is_ignored e) e.due.what) e.start

-- ---- so whether a packet is hit

module _ (events : List ScenarioEvent) (t : Target) where
  on_row : (w v : WatchData) (b : Bool) (e : Entry) → w.waiting ≡ v.waiting
      → (cond b (after_entry w e) w).waiting ≡ (cond b (after_entry v e) v).waiting
  on_row w v true e same = entry_row w v e same
  on_row w v false e same = same

  hits_row : (w v : WatchData) (m : ℕ × Entry) → w.waiting ≡ v.waiting → hits events t w m ≡ hits events t v m
  hits_row w v m same =
      ap (λ d. m.0 == t.port && ((m.1.at == t.at && is_packet t m.1.start) && is_put_in events (id_of d))) (disturber_row w v m.1 same)

  hit_row : (w v : WatchData) (ms : List (ℕ × Entry)) → w.waiting ≡ v.waiting → hit_from events t w ms ≡ hit_from events t v ms
  hit_row w v [] same = refl
  hit_row w v (m ∷ ms) same =
      ap (λ b. b || hit_from events t (watched_on t w m) ms) (hits_row w v m same)
      ∙ ap (λ b. hits events t v m || b) (hit_row (watched_on t w m) (watched_on t v m) ms (on_row w v (m.0 == t.port) m.1 same))

-- ---- where no disturbance comes, none waits

abbrev pub disturbs_what : What → Bool
disturbs_what (what.Event e) = disturbs_happening e.happening
disturbs_what _ = false

module _ (w : WatchData) (none : w.waiting ≡ []) where
  kind_quiet : (at id : ℕ) (kind : PortEventKind) → disturbs_kind kind ≡ false → (after_kind w at id kind).waiting ≡ []
  kind_quiet at id Detach quiet = refl
  kind_quiet at id Lose quiet = absurd (cc)
  kind_quiet at id (Damage harm) quiet = absurd (cc)
  kind_quiet at id _ quiet = none

  happening_quiet : (at : ℕ) (ignored : Bool) (h : Happening) → disturbs_happening h ≡ false
      → (after_happening w at ignored h).waiting ≡ []
  happening_quiet at true h quiet = none
  happening_quiet at false (happening.Port id kind) quiet = kind_quiet at id kind quiet
  happening_quiet at false happening.Budget quiet = none

  what_quiet : (at : ℕ) (ignored : Bool) (x : What) → disturbs_what x ≡ false → (after_what w at ignored x).waiting ≡ []
  what_quiet at ignored (what.Event e) quiet = happening_quiet at ignored e.happening quiet
  what_quiet at ignored what.Line quiet = none
  what_quiet at ignored (what.Timer side timer) quiet = none

  drop_quiet : (b : Bool) → (cond b (record w { waiting = drop 1 w.waiting }) w).waiting ≡ []
  drop_quiet true = ap (drop 1) none
  drop_quiet false = none

  start_quiet : (s : Option Start) → (after_start w s).waiting ≡ []
  start_quiet None = none
  start_quiet (Some (start.HardReset side)) = none
  start_quiet (Some (start.Packet side packet fate)) = drop_quiet (is_disturbed fate)

entry_quiet : (w : WatchData) (e : Entry) → w.waiting ≡ [] → disturbs_what e.due.what ≡ false → (after_entry w e).waiting ≡ []
unfolding after_entry
entry_quiet w e none quiet =
    start_quiet (after_what w e.at (is_ignored e) e.due.what) (what_quiet w none e.at (is_ignored e) e.due.what quiet) e.start

-- of the packet's port no entry before a time is for an event that disturbs a packet
abbrev pub QuietBefore : Target → ℕ → List (ℕ × Entry) → Type 0
QuietBefore t first ms = AllByRecursion (λ m. m.1.at < first → m.0 ≡ t.port → disturbs_what m.1.due.what ≡ false) ms

module _ (events : List ScenarioEvent) (t : Target) (first : ℕ) (soon : first ≤ t.at) where
  quiet_on : (w : WatchData) (m : ℕ × Entry) → w.waiting ≡ [] → (m.0 ≡ t.port → disturbs_what m.1.due.what ≡ false)
      → (watched_on t w m).waiting ≡ []
  quiet_on w m none quiet = by_port (m.0 == t.port) refl
    where
      by_port : (b : Bool) → m.0 == t.port ≡ b → (cond b (after_entry w m.1) w).waiting ≡ []
      by_port true e = entry_quiet w m.1 none (quiet (eqb-true m.0 t.port e))
      by_port false e = none

  no_hit : (w : WatchData) (m : ℕ × Entry) → m.1.at < first → hits events t w m ≡ false
  no_hit w m early =
      ap (λ b. m.0 == t.port && ((b && is_packet t m.1.start) && is_put_in events (id_of (disturber_of w m.1))))
      (ne_eqb m.1.at t.at (λ e. omega arith))
      ∙ and_false (m.0 == t.port)

  -- such entries needn't be watched
  pub skipped : (w : WatchData) (ms : List (ℕ × Entry)) (place : ℕ) → w.waiting ≡ [] → AreBefore first (take place ms)
      → QuietBefore t first ms → hit_from events t w ms ≡ hit_from events t at_rest (drop place ms)
  skipped w ms zero none early quiet = hit_row events t w at_rest ms none
  skipped w [] (suc place) none early quiet = refl
  skipped w (m ∷ ms) (suc place) none early quiet =
      ap (λ b. b || hit_from events t (watched_on t w m) ms) (no_hit w m early.0)
      ∙ skipped (watched_on t w m) ms place (quiet_on w m none (quiet.0 early.0)) early.1 quiet.1
