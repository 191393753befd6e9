-- The reason that is told of an event that is ignored is that of its port.
use Rattle.std.proofs.Common.{◌≡◌, ℕ, ◌≤◌, nat_lt, Bool, true, false, if◌then◌else◌, [], ◌∷◌, length, Option, None, Some}
use Rattle.std.proofs.Common.{◌++◌, is_some, refl, sym, ap, ◌∙◌, subst, arith}
use Rattle.std.proofs.lemmas.Bool.Decides.{nat_tests}
use Rattle.pd_objects.specs.declared.query.Answer.{Answer}
use Rattle.pd_setup.specs.Settings.{SettingsData}
use Rattle.pd_setup.specs.Events.{PortEventKind}
use Rattle.pd_setup.specs.declared.event.EventKind.TheVariants.{Attach, Detach, Demand, Lose, Damage, GetSource, GetSink}
use Rattle.pd_setup.specs.declared.event.Happening.TheVariants as happening
use Rattle.pd_source.specs.Step as source
use Rattle.pd_source.specs.declared.kinds.Stimulus.TheVariants as source_told
use Rattle.pd_sink.specs.Step as sink
use Rattle.pd_sink.specs.declared.kinds.Stimulus.TheVariants as sink_told
use Rattle.pd_line.specs.declared.disturbances.Disturbance.{Disturbance}
use Rattle.pd_line.specs.declared.disturbances.Disturbance.TheVariants as disturbance
use Rattle.pd_line.specs.declared.port_step.PortStep.{PortStep}
use Rattle.pd_line.specs.Record.{nothing_attached}
use Rattle.pd_line.specs.Lines.{line_starts}
use Rattle.pd_port.specs.declared.due.What.{What}
use Rattle.pd_port.specs.declared.due.What.TheVariants as what
use Rattle.pd_port.specs.Happens.{detaches, disturbs, gets_source, gets_sink, happens_attached, happens_detached}
use Rattle.pd_port.specs.Port.{PortRecord, begun, entry_of, portstep, whole}
use Rattle.pd_scenario.specs.Plan.{settings_of}
use Rattle.pd_watch.specs.Watch.{is_ignored}
use Rattle.pd_warn.specs.Watch.{why_of}
use Rattle.pd_warn.specs.Truth.{Tells, WhysAreTrue}
use Rattle.pd_watch.proofs.Keeps.{View, view, Took, attach_view, sink_same, source_same, starts_took}

abbrev pub first : SettingsData → PortRecord → Option Answer → PortStep
first s r given = begun (whole s r) given

-- an event is ignored by the end of a step that has come to this
abbrev pub EndsIgnored : ℕ → PortStep → Type 0
EndsIgnored t w = (view (line_starts t w)).ignored ≡ true

-- what isn't ignored by then isn't ignored in the end
pub not_ignored : (t : ℕ) (w : PortStep) (v : View) (A : Type 0) → view w ≡ v → v.start ≡ None → v.ignored ≡ false → EndsIgnored t w → A
not_ignored t w v A e bare un said =
    let took : Took (view w) (view (line_starts t w)) = starts_took t w (ap (λ (x : View). x.start) e ∙ bare) in
    let never : false ≡ true = sym un ∙ sym (ap (λ (x : View). x.ignored) e) ∙ sym took.ignored_is ∙ said in cc

abbrev pub view_of : PortRecord → View
view_of r = record { cable = r.cable; row = r.disturbances; ignored = false; start = None }

full : (n : ℕ) → nat_lt n 8 ≡ false → 8 ≤ n
full n e = grind (arith, nat_tests)

-- a disturbance is ignored where eight wait
full_row : (s : SettingsData) (r : PortRecord) (given : Option Answer) (t id : ℕ) (d : Disturbance) (b : Bool)
    → nat_lt (length r.disturbances) 8 ≡ b → EndsIgnored t (disturbs id d (first s r given)) → 8 ≤ length r.disturbances
unfolding disturbs
full_row s r given t id d false e said = full (length r.disturbances) e
full_row s r given t id d true e said =
    let w : PortStep = first s r given in
    not_ignored t (record w { port = record w.port { disturbances = r.disturbances ++ d ∷ [] } })
    (record (view_of r) { row = r.disturbances ++ d ∷ [] }) (8 ≤ length r.disturbances) refl refl refl (rw e at said)

sink_waits : (s : SettingsData) (r : PortRecord) (given : Option Answer) (t id : ℕ) (b : Bool) → sink.is_ready r.sink ≡ b
    → EndsIgnored t (gets_source id t (first s r given)) → sink.is_ready r.sink ≡ false
unfolding gets_source
sink_waits s r given t id false e said = e
sink_waits s r given t id true e said =
    let w : PortStep = first s r given in
    not_ignored t _ (view_of r) (sink.is_ready r.sink ≡ false) (sink_same t sink_told.GetSource w) refl refl (rw e at said)

source_waits : (s : SettingsData) (r : PortRecord) (given : Option Answer) (t id : ℕ) (b : Bool) → source.is_ready r.source ≡ b
    → EndsIgnored t (gets_sink id t (first s r given)) → source.is_ready r.source ≡ false
unfolding gets_sink
source_waits s r given t id false e said = e
source_waits s r given t id true e said =
    let w : PortStep = first s r given in
    not_ignored t _ (view_of r) (source.is_ready r.source ≡ false) (source_same t source_told.GetSink w) refl refl (rw e at said)

while_attached : (s : SettingsData) (r : PortRecord) (given : Option Answer) (t id : ℕ) (kind : PortEventKind) → is_some r.cable ≡ true
    → EndsIgnored t (happens_attached id kind t (first s r given)) → Tells (why_of true kind) r
unfolding detaches nothing_attached
while_attached s r given t id (Attach cable device) there said = there
while_attached s r given t id Detach there said =
    not_ignored t _ (record { cable = None; row = []; ignored = false; start = None }) _ refl refl refl said
while_attached s r given t id (Demand mw) there said =
    not_ignored t _ (view_of r) _ (sink_same t (sink_told.Demand mw) (first s r given)) refl refl said
while_attached s r given t id Lose there said = (there, full_row s r given t id disturbance.Lost _ refl said)
while_attached s r given t id (Damage harm) there said = (there, full_row s r given t id (disturbance.Damaged harm) _ refl said)
while_attached s r given t id GetSource there said = (there, sink_waits s r given t id _ refl said)
while_attached s r given t id GetSink there said = (there, source_waits s r given t id _ refl said)

while_detached : (s : SettingsData) (r : PortRecord) (given : Option Answer) (t id : ℕ) (kind : PortEventKind) → is_some r.cable ≡ false
    → EndsIgnored t (happens_detached id kind t (first s r given)) → Tells (why_of false kind) r
while_detached s r given t id (Attach cable device) none said =
    not_ignored t _ (record (view_of r) { cable = Some cable }) _ (attach_view cable device t (first s r given)) refl refl said
while_detached s r given t id Detach none said = none
while_detached s r given t id (Demand mw) none said = none
while_detached s r given t id Lose none said = none
while_detached s r given t id (Damage harm) none said = none
while_detached s r given t id GetSource none said = none
while_detached s r given t id GetSink none said = none

by_cable : (s : SettingsData) (r : PortRecord) (given : Option Answer) (t id : ℕ) (kind : PortEventKind) (b : Bool) → is_some r.cable ≡ b
    → EndsIgnored t (if b then happens_attached id kind t (first s r given) else happens_detached id kind t (first s r given))
    → Tells (why_of b kind) r
by_cable s r given t id kind true e said = while_attached s r given t id kind e said
by_cable s r given t id kind false e said = while_detached s r given t id kind e said

why_step : (s : SettingsData) (r : PortRecord) (given : Option Answer) (time at id : ℕ) (kind : PortEventKind)
    → let x : What = what.Event (record { at = at; happening = happening.Port id kind }) in
    is_ignored (entry_of s r (record { time = time; what = x }) given) ≡ true
    → Tells (why_of (is_some r.cable) kind) r
unfolding entry_of portstep
why_step s r given time at id kind said = by_cable s r given time id kind (is_some r.cable) refl said

pub whys_are_true : WhysAreTrue
whys_are_true plan past m g at id kind is said =
    let s = settings_of plan m.port in
    let e : is_ignored (entry_of s m.before m.due m.answer) ≡ true = ap is_ignored (sym g.entry_is) ∙ said in
    why_step s m.before m.answer m.due.time at id kind
    (subst (λ (x : What). is_ignored (entry_of s m.before (record { time = m.due.time; what = x }) m.answer) ≡ true) is e)
