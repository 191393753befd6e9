-- What waits on a port has started where it can: so at the end of a step that changes nothing, nothing starts.
use Rattle.std.proofs.Common.{◌≡◌, ◌⊎◌, inl, inr, ℕ, Bool, true, false, if◌then◌else◌, List, [], ◌∷◌, ◌++◌, Option, None, Some}
use Rattle.std.proofs.Common.{◌≢◌, ⊎_elim, refl, sym, ap, ◌∙◌, subst, append_assoc}
use Rattle.std.proofs.lemmas.Bool.{cases_eq}
use Rattle.std.proofs.lemmas.List.{append-nil}
use Rattle.pd_symbols.specs.declared.channel.Channel.{Channel}
use Rattle.pd_symbols.specs.declared.channel.Channel.TheVariants.{Sop, SopPrime}
use Rattle.pd_header.specs.declared.side.Side.{Side}
use Rattle.pd_header.specs.declared.side.Side.TheVariants.{Source, Sink, Plug}
use Rattle.pd_objects.specs.declared.query.Answer.{Answer}
use Rattle.pd_protocol.specs.Layer as layer
use Rattle.pd_protocol.specs.LayerRecord.{LayerRecord, OutstandingData}
use Rattle.pd_protocol.specs.Messages.{MessageData}
use Rattle.pd_setup.specs.Settings.{SettingsData}
use Rattle.pd_line.specs.declared.port_parts.Line.{Line}
use Rattle.pd_line.specs.declared.port_parts.PortParts.{PortParts}
use Rattle.pd_line.specs.declared.port_parts.Waiting.{Waiting}
use Rattle.pd_line.specs.declared.port_parts.Waiting.TheVariants as waits
use Rattle.pd_line.specs.declared.port_step.PortStep.{PortStep}
use Rattle.pd_line.specs.PortStep.{layer_on, submit_on, wait, with_layer, with_port}
use Rattle.pd_line.specs.Lines.{channel_for, hard_reset_starts, is_idle, is_waiting, line_starts, message_starts, packet_starts}
use Rattle.pd_line.specs.Lines.{revision_on, side_starts, started, submitted, waiting_on, with_line}
use Rattle.pd_line.specs.Record.{nothing_attached}
use Rattle.pd_line.proofs.Busy.{line_starts-busy}
use Rattle.pd_port.specs.declared.due.Due.{Due}
use Rattle.pd_port.specs.Port.{PortRecord, begun, detached, happens, portstep, record_after, whole}
use Rattle.pd_scenario.specs.Plan.{Plan, settings_of}
use Rattle.pd_run.specs.Run.{GoesOn, Move, Standing, after, standing}
use Rattle.pd_run.proofs.Moves.{standing-same, standing-other}

-- what of a port tells whether something can start
pub record Row : Type 0 where
  pub line : Line
  pub source_waits : Waiting
  pub sink_waits : Waiting
  pub plug_waits : Waiting
  pub source_sop : LayerRecord
  pub sink_sop : LayerRecord
  pub source_sop_prime : LayerRecord
  pub plug_sop_prime : LayerRecord

abbrev pub row_of : PortParts → Row
row_of p = record {
  line = p.line;
  source_waits = p.source_waits;
  sink_waits = p.sink_waits;
  plug_waits = p.plug_waits;
  source_sop = p.source_sop;
  sink_sop = p.sink_sop;
  source_sop_prime = p.source_sop_prime;
  plug_sop_prime = p.plug_sop_prime;
}

abbrev pub waits_in : Side → Row → Waiting
waits_in Source x = x.source_waits
waits_in Sink x = x.sink_waits
waits_in Plug x = x.plug_waits

abbrev pub layer_in : Side → Channel → Row → LayerRecord
layer_in Source Sop x = x.source_sop
layer_in Source SopPrime x = x.source_sop_prime
layer_in Sink channel x = x.sink_sop
layer_in Plug channel x = x.plug_sop_prime

-- a message waits on a side whose layer has no room for it
pub record IsHeldUp (side : Side) (x : Row) : Type 0 where
  pub message : MessageData
  pub waits : waits_in side x ≡ waits.Message message
  pub before : OutstandingData
  pub outstanding : (layer_in side (channel_for side message.kind) x).outstanding ≡ Some before

abbrev pub WaitsNot : Side → Row → Type 0
WaitsNot side x = is_waiting (waits_in side x) ≡ false

-- nothing can start: the line is busy, nothing waits, or the first that waits is held up
abbrev pub IsSettled : Row → Type 0
IsSettled x =
    (is_idle x.line ≡ false)
    ⊎ ((WaitsNot Source x × WaitsNot Sink x × WaitsNot Plug x)
    ⊎ (IsHeldUp Source x ⊎ ((WaitsNot Source x × IsHeldUp Sink x) ⊎ (WaitsNot Source x × WaitsNot Sink x × IsHeldUp Plug x))))

-- ---- one side

waits_same : (side : Side) (w : PortStep) → waiting_on side w ≡ waits_in side (row_of w.port)
waits_same Source w = refl
waits_same Sink w = refl
waits_same Plug w = refl

layer_same : (side : Side) (c : Channel) (x : Waiting) (w : PortStep) → layer_on side c (wait side x w) ≡ layer_in side c (row_of w.port)
unfolding wait
layer_same Source Sop x w = refl
layer_same Source SopPrime x w = refl
layer_same Sink c x w = refl
layer_same Plug c x w = refl

-- a message is put back where it waited, its layer being as it was
put_back : (side : Side) (c : Channel) (m : MessageData) (w : PortStep) → waits_in side (row_of w.port) ≡ waits.Message m
    → let v = wait side waits.Nothing w in wait side (waits.Message m) (with_layer side c (layer_on side c v) v) ≡ w
unfolding wait
put_back Source Sop m w e = ap (λ (x : Waiting). with_port (record w.port { source_waits = x }) w) (sym e)
put_back Source SopPrime m w e = ap (λ (x : Waiting). with_port (record w.port { source_waits = x }) w) (sym e)
put_back Sink c m w e = ap (λ (x : Waiting). with_port (record w.port { sink_waits = x }) w) (sym e)
put_back Plug c m w e = ap (λ (x : Waiting). with_port (record w.port { plug_waits = x }) w) (sym e)

-- what comes of a message by what is outstanding on its layer
given_room : Side → Channel → MessageData → ℕ → ℕ → PortStep → Option OutstandingData → PortStep
given_room side c m revision t v o =
    let r = layer.submitted o (layer_on side c v) revision m in submitted side t (with_layer side c r.0 v, r.1)

message_room : (side : Side) (m : MessageData) (t : ℕ) (v : PortStep)
    → let c = channel_for side m.kind in
    message_starts side m t v ≡ given_room side c m (revision_on side c v) t v (layer_on side c v).outstanding
unfolding message_starts submit_on layer.submit given_room
message_room side m t v = refl

-- what starts on a side, or what is held up there
abbrev Outcome : Side → PortStep → PortStep → Type 0
Outcome side w u = (is_idle u.port.line ≡ false) ⊎ ((u ≡ w) × IsHeldUp side (row_of w.port))

packet_busy : (side : Side) (c : Channel) (m : MessageData) (revision t : ℕ) (v : PortStep)
    → is_idle (given_room side c m revision t v None).port.line ≡ false
unfolding given_room packet_starts started with_line
packet_busy side c m revision t v = refl

held_back : (side : Side) (c : Channel) (m : MessageData) (revision t : ℕ) (w : PortStep) (o : OutstandingData)
    → waits_in side (row_of w.port) ≡ waits.Message m → given_room side c m revision t (wait side waits.Nothing w) (Some o) ≡ w
unfolding given_room
held_back side c m revision t w o e = put_back side c m w e

by_room : (side : Side) (c : Channel) (m : MessageData) (revision t : ℕ) (w : PortStep) (o : Option OutstandingData)
    → waits_in side (row_of w.port) ≡ waits.Message m
    → c ≡ channel_for side m.kind → (layer_on side c (wait side waits.Nothing w)).outstanding ≡ o
    → Outcome side w (given_room side c m revision t (wait side waits.Nothing w) o)
by_room side c m revision t w None e is room = inl (packet_busy side c m revision t (wait side waits.Nothing w))
by_room side c m revision t w (Some o) e is room =
    inr (
      held_back side c m revision t w o e,
      record {
        message = m;
        waits = e;
        before = o;
        outstanding =
            ap (λ (d : Channel). (layer_in side d (row_of w.port)).outstanding) (sym is)
            ∙ ap (λ (l : LayerRecord). l.outstanding) (sym (layer_same side c waits.Nothing w)) ∙ room;
      },
    )

message_out : (side : Side) (m : MessageData) (t : ℕ) (w : PortStep) → waits_in side (row_of w.port) ≡ waits.Message m
    → Outcome side w (message_starts side m t (wait side waits.Nothing w))
message_out side m t w e =
    let c = channel_for side m.kind in
    let v = wait side waits.Nothing w in
    subst (λ (u : PortStep). Outcome side w u) (sym (message_room side m t v))
    (by_room side c m (revision_on side c v) t w (layer_on side c v).outstanding e refl refl)

reset_busy : (side : Side) (t : ℕ) (v : PortStep) → is_idle (hard_reset_starts side t v).port.line ≡ false
unfolding hard_reset_starts started with_line
reset_busy side t v = refl

-- what comes of a side, by what waits there
side_by : (side : Side) (t : ℕ) (w : PortStep) (x : Waiting) → waits_in side (row_of w.port) ≡ x → is_waiting x ≡ true
    → Outcome side w (side_starts side t w)
unfolding side_starts
side_by side t w waits.Nothing e h = absurd (cc)
side_by side t w (waits.Message m) e h =
    rw (waits_same side w ∙ e) (message_out side m t w e)
side_by side t w waits.HardReset e h =
    rw (waits_same side w ∙ e) (inl (reset_busy side t (wait side waits.Nothing w)))

side_out : (side : Side) (t : ℕ) (w : PortStep) → is_waiting (waits_in side (row_of w.port)) ≡ true → Outcome side w (side_starts side t w)
side_out side t w h = side_by side t w (waits_in side (row_of w.port)) refl h

-- what is held up stays so
side_stays : (side : Side) (t : ℕ) (w : PortStep) → IsHeldUp side (row_of w.port) → side_starts side t w ≡ w
unfolding side_starts
side_stays side t w h =
    let m = h.message in
    let c = channel_for side m.kind in
    let v = wait side waits.Nothing w in
    let room : (layer_on side c v).outstanding ≡ Some h.before =
    ap (λ (l : LayerRecord). l.outstanding) (layer_same side c waits.Nothing w) ∙ h.outstanding in
    rw (waits_same side w ∙ h.waits)
    (message_room side m t v ∙ ap (given_room side c m (revision_on side c v) t v) room
    ∙ held_back side c m (revision_on side c v) t w h.before h.waits)

held_waits : (side : Side) (x : Row) → IsHeldUp side x → is_waiting (waits_in side x) ≡ true
held_waits side x h = ap is_waiting h.waits

-- ---- the whole line

abbrev first_of : Bool → Bool → Bool → Bool → PortStep → PortStep → PortStep → PortStep → PortStep
first_of idle a b c source sink plug w = if idle then (if a then source else (if b then sink else (if c then plug else w))) else w

starts_first : (t : ℕ) (w : PortStep)
    → line_starts t w
    ≡ first_of (is_idle w.port.line) (is_waiting w.port.source_waits) (is_waiting w.port.sink_waits) (is_waiting w.port.plug_waits)
    (side_starts Source t w) (side_starts Sink t w) (side_starts Plug t w) w
unfolding line_starts
starts_first t w = refl

none_first : (idle a b c : Bool) (source sink plug w : PortStep) → a ≡ false → b ≡ false → c ≡ false
    → first_of idle a b c source sink plug w ≡ w
none_first false a b c source sink plug w p q r = refl
none_first true a b c source sink plug w p q r = rw (p, q, r) refl

source_first : (idle a b c : Bool) (source sink plug w : PortStep) → a ≡ true → source ≡ w → first_of idle a b c source sink plug w ≡ w
source_first false a b c source sink plug w p same = refl
source_first true a b c source sink plug w p same = rw p same

sink_first : (idle a b c : Bool) (source sink plug w : PortStep) → a ≡ false → b ≡ true → sink ≡ w
    → first_of idle a b c source sink plug w ≡ w
sink_first false a b c source sink plug w p q same = refl
sink_first true a b c source sink plug w p q same = rw (p, q) same

plug_first : (idle a b c : Bool) (source sink plug w : PortStep) → a ≡ false → b ≡ false → c ≡ true → plug ≡ w
    → first_of idle a b c source sink plug w ≡ w
plug_first false a b c source sink plug w p q r same = refl
plug_first true a b c source sink plug w p q r same = rw (p, q, r) same

-- where nothing can start, nothing starts
pub settled_stays : (t : ℕ) (w : PortStep) → IsSettled (row_of w.port) → line_starts t w ≡ w
settled_stays t w (inl busy) = line_starts-busy t w busy
settled_stays t w (inr (inl quiet)) =
    starts_first t w
    ∙ none_first (is_idle w.port.line) (is_waiting w.port.source_waits) (is_waiting w.port.sink_waits) (is_waiting w.port.plug_waits)
    (side_starts Source t w) (side_starts Sink t w) (side_starts Plug t w) w quiet.0 quiet.1 quiet.2
settled_stays t w (inr (inr (inl h))) =
    starts_first t w
    ∙ source_first (is_idle w.port.line) (is_waiting w.port.source_waits) (is_waiting w.port.sink_waits) (is_waiting w.port.plug_waits)
    (side_starts Source t w) (side_starts Sink t w) (side_starts Plug t w) w
    (held_waits Source (row_of w.port) h) (side_stays Source t w h)
settled_stays t w (inr (inr (inr (inl h)))) =
    starts_first t w
    ∙ sink_first (is_idle w.port.line) (is_waiting w.port.source_waits) (is_waiting w.port.sink_waits) (is_waiting w.port.plug_waits)
    (side_starts Source t w) (side_starts Sink t w) (side_starts Plug t w) w h.0
    (held_waits Sink (row_of w.port) h.1) (side_stays Sink t w h.1)
settled_stays t w (inr (inr (inr (inr h)))) =
    starts_first t w
    ∙ plug_first (is_idle w.port.line) (is_waiting w.port.source_waits) (is_waiting w.port.sink_waits) (is_waiting w.port.plug_waits)
    (side_starts Source t w) (side_starts Sink t w) (side_starts Plug t w) w h.0 h.1
    (held_waits Plug (row_of w.port) h.2) (side_stays Plug t w h.2)

-- a side has started what it can, the sides before it have nothing that waits
side_settles : (side : Side) (w u : PortStep) → Outcome side w u → (IsHeldUp side (row_of w.port) → IsSettled (row_of w.port))
    → IsSettled (row_of u.port)
side_settles side w u (inl busy) h = inl busy
side_settles side w u (inr held) h = subst (λ (x : PortStep). IsSettled (row_of x.port)) (sym held.0) (h held.1)

by_flags : (t : ℕ) (w : PortStep) (idle a b c : Bool) → is_idle w.port.line ≡ idle → is_waiting w.port.source_waits ≡ a
    → is_waiting w.port.sink_waits ≡ b → is_waiting w.port.plug_waits ≡ c
    → IsSettled (row_of (first_of idle a b c (side_starts Source t w) (side_starts Sink t w) (side_starts Plug t w) w).port)
by_flags t w false a b c e p q r = inl e
by_flags t w true true b c e p q r = side_settles Source w _ (side_out Source t w p) (λ h. inr (inr (inl h)))
by_flags t w true false true c e p q r = side_settles Sink w _ (side_out Sink t w q) (λ h. inr (inr (inr (inl (p, h)))))
by_flags t w true false false true e p q r = side_settles Plug w _ (side_out Plug t w r) (λ h. inr (inr (inr (inr (p, q, h)))))
by_flags t w true false false false e p q r = inr (inl (p, q, r))

-- after what waits has started where it can, nothing more can start
starts_settle : (t : ℕ) (w : PortStep) → IsSettled (row_of (line_starts t w).port)
starts_settle t w =
    subst (λ (u : PortStep). IsSettled (row_of u.port)) (sym (starts_first t w)) (by_flags t w _ _ _ _ refl refl refl refl)

-- ---- along a run

-- nothing can start on a port of these settings and this record
abbrev pub IsSettledPort : SettingsData → PortRecord → Type 0
IsSettledPort s r = IsSettled (row_of (whole s r))

detached_settled : (s : SettingsData) → IsSettledPort s (detached s)
unfolding detached nothing_attached
detached_settled s = inr (inl (refl, refl, refl))

step_settled : (s : SettingsData) (r : PortRecord) (d : Due) (given : Option Answer) → IsSettledPort s (record_after s r d given)
unfolding record_after portstep
step_settled s r d given = starts_settle d.time (happens d.what d.time (begun (whole s r) given))

-- after these moves nothing can start on any port
abbrev AllSettled : Plan → List Move → Type 0
AllSettled plan moves = (p : ℕ) → IsSettledPort (settings_of plan p) (standing plan moves p).state

one_more : (plan : Plan) (past : List Move) (m : Move) → AllSettled plan past → AllSettled plan (past ++ m ∷ [])
one_more plan past m settled p =
    ⊎_elim
    (λ (same : m.port ≡ p).
    let next : IsSettledPort (settings_of plan m.port) (after plan m) = step_settled (settings_of plan m.port) m.before m.due m.answer in
    let here : IsSettledPort (settings_of plan m.port) (standing plan (past ++ m ∷ []) m.port).state =
    subst (λ (x : Standing). IsSettledPort (settings_of plan m.port) x.state) (sym (standing-same plan past m m.port refl)) next in
    subst (λ k. IsSettledPort (settings_of plan k) (standing plan (past ++ m ∷ []) k).state) same here)
    (λ (other : m.port ≢ p). subst (λ (x : Standing). IsSettledPort (settings_of plan p) x.state)
    (sym (standing-other plan past m p other)) (settled p))
    (cases_eq m.port p)

all_settled_from : (plan : Plan) (past moves : List Move) → AllSettled plan past → AllSettled plan (past ++ moves)
all_settled_from plan past [] settled = subst (AllSettled plan) (sym (append-nil past)) settled
all_settled_from plan past (m ∷ ms) settled =
    subst (AllSettled plan) (append_assoc past (m ∷ []) ms) (all_settled_from plan (past ++ m ∷ []) ms (one_more plan past m settled))

-- before each move nothing can start on its port
pub before_settled : (plan : Plan) (past : List Move) (m : Move) → GoesOn plan past m → IsSettledPort (settings_of plan m.port) m.before
before_settled plan past m goes =
    subst (IsSettledPort (settings_of plan m.port)) (sym goes.before_is)
    (all_settled_from plan [] past (λ p. detached_settled (settings_of plan p)) m.port)
