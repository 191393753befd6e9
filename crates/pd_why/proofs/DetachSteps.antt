-- An event that is ignored stays noted, and a cable that is pulled out leaves nothing noted.
use Rattle.std.proofs.Common.{◌≡◌, ℕ, Bool, true, false, not, ◌&&◌, if◌then◌else◌, is_some, List, [], ◌∷◌, ◌++◌, Option, Result, Ok}
use Rattle.std.proofs.Common.{Err, refl, ap, ◌∙◌}
use Rattle.std.specs.List.{list_any}
use Rattle.arrayvec.specs.ArrayVec.{ArrayVec}
use Rattle.pd_symbols.specs.declared.channel.Channel.{Channel}
use Rattle.pd_symbols.specs.declared.channel.Channel.TheVariants.{Sop, SopPrime}
use Rattle.pd_header.specs.declared.side.Side.{Side}
use Rattle.pd_header.specs.declared.side.Side.TheVariants.{Source, Sink, Plug}
use Rattle.pd_objects.specs.declared.query.Answer.{Answer}
use Rattle.pd_packet.specs.Contents.{Contents}
use Rattle.pd_protocol.specs.Layer as layer
use Rattle.pd_protocol.specs.LayerRecord.{LayerRecord}
use Rattle.pd_protocol.specs.Messages.{MessageData}
use Rattle.pd_setup.specs.Events.{PortEventKind}
use Rattle.pd_setup.specs.declared.event.EventKind.TheVariants.{Detach}
use Rattle.pd_setup.specs.declared.event.Happening.{Happening}
use Rattle.pd_setup.specs.declared.event.Happening.TheVariants.{Port, Budget}
use Rattle.pd_setup.specs.Settings.{SettingsData}
use Rattle.pd_line.specs.declared.notes.Fault.{Fault}
use Rattle.pd_line.specs.declared.notes.Fault.TheVariants.{Ignored}
use Rattle.pd_line.specs.declared.disturbances.Disturbance.{Disturbance}
use Rattle.pd_line.specs.declared.port_parts.Waiting.{Waiting}
use Rattle.pd_line.specs.declared.port_parts.Waiting.TheVariants as waits
use Rattle.pd_line.specs.declared.port_step.PortStep.{PortStep}
use Rattle.pd_line.specs.PortStep.{noted, on_layer, submit_on, wait, with_layer, layer_on}
use Rattle.pd_line.specs.Lines.{channel_for, hard_reset_starts, is_idle, is_waiting, line_starts, message_starts, packet_starts}
use Rattle.pd_line.specs.Lines.{revision_on}
use Rattle.pd_line.specs.Lines.{side_starts, started, submitted, taken, taken_from, waiting_on, waiting_starts, with_line}
use Rattle.pd_port.specs.declared.due.Due.{Due}
use Rattle.pd_port.specs.declared.due.What.{What}
use Rattle.pd_port.specs.declared.due.What.TheVariants as what
use Rattle.pd_port.specs.declared.entry.Entry.{Entry}
use Rattle.pd_port.specs.Happens.{detaches, event_happens, is_detach, port_event_happens, pulls_cable}
use Rattle.pd_port.specs.Port.{PortRecord, begun, entry_of, happens, portstep, whole}
use Rattle.pd_why.specs.Known.{is_ignored, pulls_out}

-- ---- what starts notes nothing

abbrev notes_of : PortStep → ArrayVec Fault
notes_of w = w.faults

wait_faults : (side : Side) (x : Waiting) (w : PortStep) → notes_of (wait side x w) ≡ notes_of w
unfolding wait
wait_faults Source x w = refl
wait_faults Sink x w = refl
wait_faults Plug x w = refl

layer_faults : (side : Side) (c : Channel) (l : LayerRecord) (w : PortStep) → notes_of (with_layer side c l w) ≡ notes_of w
layer_faults Source Sop l w = refl
layer_faults Source SopPrime l w = refl
layer_faults Sink c l w = refl
layer_faults Plug c l w = refl

packet_faults : (side : Side) (p : Contents) (t : ℕ) (w : PortStep) → notes_of (packet_starts side p t w) ≡ notes_of w
unfolding packet_starts started with_line taken
packet_faults side p t w = by_row w.port.disturbances where
  by_row : (row : List Disturbance) → notes_of (taken_from row w).0 ≡ notes_of w
  by_row [] = refl
  by_row (d ∷ rest) = refl

submitted_faults : (side : Side) (t : ℕ) (r : Result Contents MessageData) (w : PortStep) → notes_of (submitted side t (w, r)) ≡ notes_of w
submitted_faults side t (Ok p) w = packet_faults side p t w
submitted_faults side t (Err m) w = wait_faults side (waits.Message m) w

message_faults : (side : Side) (m : MessageData) (t : ℕ) (w : PortStep) → notes_of (message_starts side m t w) ≡ notes_of w
unfolding message_starts submit_on
message_faults side m t w =
    let c = channel_for side m.kind in
    let call : LayerRecord → LayerRecord × Result Contents MessageData = λ x. layer.submit x (revision_on side c w) m in
    let r = on_layer side c call w in
    submitted_faults side t r.1 r.0 ∙ layer_faults side c (call (layer_on side c w)).0 w

hard_reset_faults : (side : Side) (t : ℕ) (w : PortStep) → notes_of (hard_reset_starts side t w) ≡ notes_of w
unfolding hard_reset_starts started with_line
hard_reset_faults side t w = refl

waiting_faults : (side : Side) (t : ℕ) (x : Waiting) (w : PortStep) → notes_of (waiting_starts side t x w) ≡ notes_of w
waiting_faults side t waits.Nothing w = refl
waiting_faults side t (waits.Message m) w = message_faults side m t w
waiting_faults side t waits.HardReset w = hard_reset_faults side t w

side_faults : (side : Side) (t : ℕ) (w : PortStep) → notes_of (side_starts side t w) ≡ notes_of w
unfolding side_starts
side_faults side t w =
    waiting_faults side t (waiting_on side w) (wait side waits.Nothing w) ∙ wait_faults side waits.Nothing w

either : (b : Bool) (w v u : PortStep) → notes_of v ≡ notes_of w → notes_of u ≡ notes_of w → notes_of (if b then v else u) ≡ notes_of w
either true w v u h k = h
either false w v u h k = k

starts_faults : (t : ℕ) (w : PortStep) → notes_of (line_starts t w) ≡ notes_of w
unfolding line_starts
starts_faults t w =
    let plugs = either (is_waiting w.port.plug_waits) w (side_starts Plug t w) w (side_faults Plug t w) refl in
    let sinks = either (is_waiting w.port.sink_waits) w (side_starts Sink t w) _ (side_faults Sink t w) plugs in
    let all = either (is_waiting w.port.source_waits) w (side_starts Source t w) _ (side_faults Source t w) sinks in
    either (is_idle w.port.line) w _ w all refl

-- ---- the cable is to be pulled out

-- by whether one is attached
abbrev unplugged : Bool → ℕ → PortStep → PortStep
unplugged b id w = if b then detaches w else noted (Ignored id) w

noticed : (b : Bool) (id t : ℕ) (w : PortStep) → w.faults.items ≡ [] →
    list_any is_ignored (line_starts t (unplugged b id w)).faults.items ≡ not b
unfolding detaches noted
noticed true id t w e =
    ap (λ (f : ArrayVec Fault). list_any is_ignored f.items) (starts_faults t (unplugged true id w)) ∙ ap (list_any is_ignored) e
noticed false id t w e =
    ap (λ (f : ArrayVec Fault). list_any is_ignored f.items) (starts_faults t (unplugged false id w))
    ∙ ap (λ fs. list_any is_ignored (fs ++ Ignored id ∷ [])) e

and_both : (b c : Bool) → c ≡ not b → true && not c ≡ b
and_both true c e = ap not e
and_both false c e = ap not e

-- whether it is pulled out is whether one is attached
kind_pulls : (id : ℕ) (k : PortEventKind) (t : ℕ) (w : PortStep) → w.faults.items ≡ [] → pulls_cable (Port id k) ≡ true →
    list_any is_ignored (line_starts t (port_event_happens id k t w)).faults.items ≡ not (is_some w.port.cable)
kind_pulls id Detach t w e h = noticed (is_some w.port.cable) id t w e
kind_pulls id k t w e h = absurd (cc)

event_pulls : (x : Happening) (t : ℕ) (w : PortStep) → w.faults.items ≡ [] → pulls_cable x ≡ true →
    list_any is_ignored (line_starts t (event_happens x t w)).faults.items ≡ not (is_some w.port.cable)
event_pulls (Port id k) t w e h = kind_pulls id k t w e h
event_pulls Budget t w e h = absurd (cc)

what_pulls : (x : What) (t : ℕ) (w : PortStep) → w.faults.items ≡ [] → is_detach x ≡ true →
    list_any is_ignored (line_starts t (happens x t w)).faults.items ≡ not (is_some w.port.cable)
what_pulls (what.Event e) t w n h = event_pulls e.happening t w n h
what_pulls what.Line t w n h = absurd (cc)
what_pulls (what.Timer side timer) t w n h = absurd (cc)

pub entry_pulls : (s : SettingsData) (r : PortRecord) (d : Due) (a : Option Answer) → is_detach d.what ≡ true →
    pulls_out (entry_of s r d a) ≡ is_some r.cable
unfolding entry_of portstep
entry_pulls s r d a h =
    let u = portstep (whole s r) d a in
    ap (λ b. b && not (list_any is_ignored u.faults.items)) h
    ∙ and_both (is_some r.cable) (list_any is_ignored u.faults.items) (what_pulls d.what d.time (begun (whole s r) a) refl h)

by_detach : (b c : Bool) (e : Entry) → is_detach e.due.what ≡ b → (b ≡ true → pulls_out e ≡ c) → pulls_out e ≡ b && c
by_detach true c e h k = k refl
by_detach false c e h k = ap (λ b. b && not (list_any is_ignored e.faults.items)) h

-- a move is told to pull the cable out exactly where it does
pub entry_pulls_is : (s : SettingsData) (r : PortRecord) (d : Due) (a : Option Answer) →
    pulls_out (entry_of s r d a) ≡ is_detach d.what && is_some r.cable
unfolding entry_of
entry_pulls_is s r d a =
    by_detach (is_detach d.what) (is_some r.cable) (entry_of s r d a) refl (λ h. entry_pulls s r d a h)
