-- A move whose event is ignored does nothing.
use Rattle.std.proofs.Common.{◌≡◌, ℕ, nat_lt, Bool, true, false, if◌then◌else◌, List, [], ◌∷◌, ◌++◌, length, Option, None, Some}
use Rattle.std.proofs.Common.{is_some, refl, sym, ap, ◌∙◌, subst, arith}
use Rattle.std.proofs.lemmas.Bool.Decides.{nat_tests}
use Rattle.pd_objects.specs.declared.contract.Contract.{Contract}
use Rattle.pd_objects.specs.declared.query.Answer.{Answer}
use Rattle.pd_objects.specs.declared.query.Query.{Query}
use Rattle.pd_setup.specs.Settings.{SettingsData}
use Rattle.pd_setup.specs.Events.{PortEventKind}
use Rattle.pd_setup.specs.declared.event.EventKind.TheVariants.{Attach, Detach, Demand, Lose, Damage, GetSource, GetSink}
use Rattle.pd_setup.specs.declared.event.Happening.TheVariants as happening
use Rattle.pd_source.specs.Step as source
use Rattle.pd_source.specs.declared.kinds.Stimulus.{Stimulus}
use Rattle.pd_source.specs.declared.kinds.Stimulus.TheVariants as source_told
use Rattle.pd_sink.specs.Step as sink
use Rattle.pd_sink.specs.declared.kinds.Stimulus.TheVariants as sink_told
use Rattle.pd_line.specs.declared.disturbances.Disturbance.{Disturbance}
use Rattle.pd_line.specs.declared.disturbances.Disturbance.TheVariants as disturbance
use Rattle.pd_line.specs.declared.notes.Fault.TheVariants.{Ignored}
use Rattle.pd_line.specs.declared.port_step.PortStep.{PortStep}
use Rattle.pd_line.specs.PortStep.{noted}
use Rattle.pd_line.specs.Record.{nothing_attached, without_settings}
use Rattle.pd_line.specs.Lines.{line_starts}
use Rattle.pd_port.specs.declared.due.Due.{Due}
use Rattle.pd_port.specs.declared.due.What.{What}
use Rattle.pd_port.specs.declared.due.What.TheVariants as what
use Rattle.pd_port.specs.declared.entry.Entry.{Entry}
use Rattle.pd_port.specs.declared.entry.ContractChange.{ContractChange}
use Rattle.pd_port.specs.Changes.{contract_change, is_same_draw}
use Rattle.pd_port.specs.Happens.{detaches, disturbs, gets_source, gets_sink, happens_attached, happens_detached, port_event_happens}
use Rattle.pd_port.specs.Port.{PortRecord, ask, asks, entry_of, portstep, record_after, whole}
use Rattle.pd_port.specs.SourceTold.{told_attached, told_detached}
use Rattle.pd_scenario.specs.Plan.{Plan, settings_of}
use Rattle.pd_run.specs.Run.{GoesOn, Move}
use Rattle.pd_watch.specs.Watch.{is_ignored}
use Rattle.pd_watch.proofs.Keeps.{attach_view, sink_same, source_same}
use Rattle.pd_warn.specs.Truth.{DoesNothing, IsFor}
use Rattle.pd_warn.proofs.Settled.{IsSettledPort, before_settled, settled_stays}
use Rattle.pd_warn.proofs.Whys.{EndsIgnored, first, not_ignored, view_of}

-- what an ignored event comes to: a note, and nothing that the source is told
record IsNote (s : SettingsData) (r : PortRecord) (given : Option Answer) (id : ℕ) (w : PortStep) (x : Option Stimulus) : Type 0 where
  step : w ≡ noted (Ignored id) (first s r given)
  told : x ≡ None

abbrev NotesAlone : SettingsData → PortRecord → Option Answer → ℕ → ℕ → PortStep → Option Stimulus → Type 0
NotesAlone s r given t id w x = EndsIgnored t w → IsNote s r given id w x

-- a disturbance
row_note : (s : SettingsData) (r : PortRecord) (given : Option Answer) (t id : ℕ) (d : Disturbance) (b : Bool)
    → nat_lt (length r.disturbances) 8 ≡ b → NotesAlone s r given t id (disturbs id d (first s r given)) None
unfolding disturbs
row_note s r given t id d false e said = record { step = rw e refl; told = refl }
row_note s r given t id d true e said =
    let w : PortStep = first s r given in
    not_ignored t (record w { port = record w.port { disturbances = r.disturbances ++ d ∷ [] } })
    (record (view_of r) { row = r.disturbances ++ d ∷ [] }) _ refl refl refl (rw e at said)

sink_note : (s : SettingsData) (r : PortRecord) (given : Option Answer) (t id : ℕ) (b : Bool) → sink.is_ready r.sink ≡ b
    → NotesAlone s r given t id (gets_source id t (first s r given)) None
unfolding gets_source
sink_note s r given t id false e said = record { step = rw e refl; told = refl }
sink_note s r given t id true e said =
    not_ignored t _ (view_of r) _ (sink_same t sink_told.GetSource (first s r given)) refl refl (rw e at said)

source_note : (s : SettingsData) (r : PortRecord) (given : Option Answer) (t id : ℕ) (b : Bool) → source.is_ready r.source ≡ b
    → NotesAlone s r given t id (gets_sink id t (first s r given)) (told_attached GetSink (whole s r))
unfolding gets_sink
source_note s r given t id false e said = record { step = rw e refl; told = rw e refl }
source_note s r given t id true e said =
    not_ignored t _ (view_of r) _ (source_same t source_told.GetSink (first s r given)) refl refl (rw e at said)

attached_note : (s : SettingsData) (r : PortRecord) (given : Option Answer) (t id : ℕ) (kind : PortEventKind)
    → NotesAlone s r given t id (happens_attached id kind t (first s r given)) (told_attached kind (whole s r))
unfolding detaches nothing_attached
attached_note s r given t id (Attach cable device) said = record { step = refl; told = refl }
attached_note s r given t id Detach said =
    not_ignored t _ (record { cable = None; row = []; ignored = false; start = None }) _ refl refl refl said
attached_note s r given t id (Demand mw) said =
    not_ignored t _ (view_of r) _ (sink_same t (sink_told.Demand mw) (first s r given)) refl refl said
attached_note s r given t id Lose said = row_note s r given t id disturbance.Lost _ refl said
attached_note s r given t id (Damage harm) said = row_note s r given t id (disturbance.Damaged harm) _ refl said
attached_note s r given t id GetSource said = sink_note s r given t id _ refl said
attached_note s r given t id GetSink said = source_note s r given t id _ refl said

detached_note : (s : SettingsData) (r : PortRecord) (given : Option Answer) (t id : ℕ) (kind : PortEventKind)
    → NotesAlone s r given t id (happens_detached id kind t (first s r given)) (told_detached kind)
detached_note s r given t id (Attach cable device) said =
    not_ignored t _ (record (view_of r) { cable = Some cable }) _ (attach_view cable device t (first s r given)) refl refl said
detached_note s r given t id Detach said = record { step = refl; told = refl }
detached_note s r given t id (Demand mw) said = record { step = refl; told = refl }
detached_note s r given t id Lose said = record { step = refl; told = refl }
detached_note s r given t id (Damage harm) said = record { step = refl; told = refl }
detached_note s r given t id GetSource said = record { step = refl; told = refl }
detached_note s r given t id GetSink said = record { step = refl; told = refl }

kind_note : (s : SettingsData) (r : PortRecord) (given : Option Answer) (t id : ℕ) (kind : PortEventKind) (b : Bool)
    → NotesAlone s r given t id
    (if b then happens_attached id kind t (first s r given) else happens_detached id kind t (first s r given))
    (if b then told_attached kind (whole s r) else told_detached kind)
kind_note s r given t id kind true said = attached_note s r given t id kind said
kind_note s r given t id kind false said = detached_note s r given t id kind said

same_draw : (c : Contract) → is_same_draw c c ≡ true
same_draw c = grind (arith, nat_tests)

-- a contract that stays is no change
no_change : (c : Option Contract) → contract_change c c ≡ None
unfolding contract_change
no_change None = refl
no_change (Some c) = rw (same_draw c) refl

abbrev due_of : ℕ → ℕ → ℕ → PortEventKind → Due
due_of time at id kind = record { time = time; what = what.Event (record { at = at; happening = happening.Port id kind }) }

-- what a step leaves in which nothing happens but a note
record Leaves (s : SettingsData) (r : PortRecord) (given : Option Answer) (d : Due) (id : ℕ) : Type 0 where
  same : record_after s r d given ≡ r
  entry : entry_of s r d given ≡ record {
    at = d.time;
    due = d;
    query = None;
    faults = record { items = Ignored id ∷ [] };
    contract = None;
    start = None;
  }

note_step : (s : SettingsData) (r : PortRecord) (given : Option Answer) (time at id : ℕ) (kind : PortEventKind) → IsSettledPort s r
    → IsNote s r given id (port_event_happens id kind time (first s r given))
    (if is_some r.cable then told_attached kind (whole s r) else told_detached kind)
    → portstep (whole s r) (due_of time at id kind) given ≡ noted (Ignored id) (first s r given)
unfolding portstep noted
note_step s r given time at id kind settled note =
    ap (line_starts time) note.step ∙ settled_stays time (noted (Ignored id) (first s r given)) settled

note_leaves : (s : SettingsData) (r : PortRecord) (given : Option Answer) (time at id : ℕ) (kind : PortEventKind) → IsSettledPort s r
    → IsNote s r given id (port_event_happens id kind time (first s r given))
    (if is_some r.cable then told_attached kind (whole s r) else told_detached kind)
    → Leaves s r given (due_of time at id kind) id
unfolding record_after entry_of noted ask
note_leaves s r given time at id kind settled note =
    let d = due_of time at id kind in
    let e = note_step s r given time at id kind settled note in
    let make : Option Query → PortStep → Option ContractChange → Entry =
    λ q w c. record { at = time; due = d; query = q; faults = w.faults; contract = c; start = w.start } in
    let query : ask s r d ≡ None = ap (asks (whole s r)) note.told in
    let w : PortStep = noted (Ignored id) (first s r given) in
    record {
      same = ap (λ (w : PortStep). without_settings w.port) e;
      entry =
          ap (λ (x : PortStep). make (ask s r d) x (contract_change r.source.contract x.port.source.record.contract)) e
          ∙ ap (λ (q : Option Query). make q w (contract_change r.source.contract r.source.contract)) query
          ∙ ap (λ (c : Option ContractChange). make None w c) (no_change r.source.contract);
    }

leaves_step : (s : SettingsData) (r : PortRecord) (given : Option Answer) (time at id : ℕ) (kind : PortEventKind) → IsSettledPort s r
    → is_ignored (entry_of s r (due_of time at id kind) given) ≡ true → Leaves s r given (due_of time at id kind) id
unfolding entry_of portstep
leaves_step s r given time at id kind settled said =
    note_leaves s r given time at id kind settled (kind_note s r given time id kind (is_some r.cable) said)

-- a move whose event is ignored does nothing
pub does_nothing : (plan : Plan) (past : List Move) (m : Move) → GoesOn plan past m → (at id : ℕ) (kind : PortEventKind)
    → IsFor m at id kind → is_ignored m.entry ≡ true → DoesNothing plan m id
does_nothing plan past m g at id kind is said =
    let s = settings_of plan m.port in
    let d : Due = due_of m.due.time at id kind in
    let due_is : m.due ≡ d = ap (λ (x : What). let y : Due = record { time = m.due.time; what = x } in y) is in
    let ignored : is_ignored (entry_of s m.before d m.answer) ≡ true =
    subst (λ (x : Due). is_ignored (entry_of s m.before x m.answer) ≡ true) due_is (ap is_ignored (sym g.entry_is) ∙ said) in
    let leaves : Leaves s m.before m.answer m.due id =
    subst (λ (x : Due). Leaves s m.before m.answer x id) (sym due_is)
    (leaves_step s m.before m.answer m.due.time at id kind (before_settled plan past m g) ignored) in
    record { same = leaves.same; entry = g.entry_is ∙ leaves.entry }
