-- What the line tells a port's source in a step, and that nothing else of the step reaches it.
use Rattle.std.proofs.Common.{◌≡◌, ℕ, Bool, true, false, if◌then◌else◌, Option, Some}
use Rattle.std.proofs.Common.{None, option_and_then, refl, ◌∙◌, sym, ap, subst}
use Rattle.pd_symbols.specs.declared.channel.Channel.{Channel}
use Rattle.pd_symbols.specs.declared.channel.Channel.TheVariants.{Sop, SopPrime}
use Rattle.pd_header.specs.declared.side.Side.{Side}
use Rattle.pd_header.specs.declared.side.Side.TheVariants.{Source, Sink, Plug}
use Rattle.pd_header.specs.Header.{id_of}
use Rattle.pd_header.specs.Kinds.{kind_of_header}
use Rattle.pd_packet.specs.Contents.{Contents}
use Rattle.pd_packet.specs.Hearing.{heard}
use Rattle.pd_packet.specs.declared.fate.Fate.{Fate}
use Rattle.pd_objects.specs.declared.query.Answer.{Answer}
use Rattle.pd_protocol.specs.Layer as layer
use Rattle.pd_protocol.specs.LayerRecord.{LayerRecord}
use Rattle.pd_protocol.specs.declared.layer.LayerAct.{LayerAct}
use Rattle.pd_protocol.specs.declared.layer.LayerAct.TheVariants as answer
use Rattle.pd_source.specs.Record.{SourceRecord, SourceData}
use Rattle.pd_source.specs.Step as source
use Rattle.pd_source.specs.declared.kinds.Sent.TheVariants as sent
use Rattle.pd_source.specs.declared.kinds.Stimulus.{Stimulus}
use Rattle.pd_source.specs.declared.kinds.Stimulus.TheVariants as told
use Rattle.pd_line.specs.declared.notes.Fault.TheVariants.{NoGoodCrc}
use Rattle.pd_line.specs.declared.port_parts.PortParts.{PortParts}
use Rattle.pd_line.specs.declared.port_parts.Line.{Line}
use Rattle.pd_line.specs.declared.port_parts.Line.TheVariants.{Idle, Message, Pause, GoodCrc, NoAnswer, HardReset}
use Rattle.pd_line.specs.declared.port_step.PortStep.{PortStep}
use Rattle.pd_line.specs.Told.{sent_as, source_hears_as}
use Rattle.pd_line.specs.PortStep.{noted, layer_on, on_layer, good_crc_on, timed_out_on, received_on}
use Rattle.pd_line.specs.PortStep.{source_steps, tells_sent, tells_failed, tells_message, tells_reset}
use Rattle.pd_line.specs.Lines.{with_line, receiver, hears, told_sent, acknowledged, told_message, goes_up, good_crc_ends}
use Rattle.pd_line.specs.Lines.{after_time_out, times_out, waiting_dropped, layers_reset, hears_reset, all_hear_reset}
use Rattle.pd_line.specs.Lines.{hard_reset_ends, line_ends_at, line_ends}
use Rattle.pd_line.proofs.RulesKeep.{noted_kept, tells_sent_kept, packet_starts_kept}
use Rattle.pd_line.proofs.RulesKeep.{good_crc_starts_kept, message_ends_kept, acknowledged_kept, goes_up_kept, times_out_kept}
use Rattle.pd_line.proofs.RulesKeep.{waiting_dropped_kept, layers_reset_kept, hears_reset_kept}
use Rattle.pd_line.proofs.StepRelation.{OfSource, unanswered}
use Rattle.pd_line.proofs.Source.{acknowledged_layer, line_layer, Spares, SparesWith, none, joins}
use Rattle.pd_line.proofs.Source.{on_layer_spares, source_steps_step, line_spares, sparing}
use Rattle.pd_port.specs.Laws.{source_after_told}
use Rattle.pd_port.specs.SourceTold.{source_layer, told_if_sent, told_if_up, told_if_failed, told_of_good_crc, told_at_good_crc}
use Rattle.pd_port.specs.SourceTold.{told_at_time_out, told_of_reset, told_by_line}

-- What was done to w makes the source this, and is v now. Where nothing is asked, the answer doesn't matter: done to w
-- without its answer it is u, which is v without its answer.
pub record Becomes (after : SourceRecord) (unasked : Type 0) (w v u : PortStep) : Type 0 where
  pub becomes : v.port.source.record ≡ after
  pub blind : unasked → u ≡ unanswered v

-- the source asks nothing about what it is told
abbrev pub AsksNothing : Option Stimulus → SourceData → Type 0
AsksNothing x s = option_and_then (λ y. source.query_of s.settings y s.record) x ≡ None

-- what was done to w tells the source x
abbrev pub Tells : ℕ → Option Stimulus → PortStep → PortStep → PortStep → Type 0
Tells t x w v u = Becomes (source_after_told w.port.source.settings t x w.answer w.port.source.record) (AsksNothing x w.port.source) w v u

pub spares_tell : (t : ℕ) (w v u : PortStep) → Spares w v u → Tells t None w v u
spares_tell t w v u h = record { becomes = ap (λ (s : SourceData). s.record) h.source; blind = λ q. h.blind }

pub source_steps_tell : (t : ℕ) (x : Stimulus) (w : PortStep) → Tells t (Some x) w (source_steps t x w) (source_steps t x (unanswered w))
source_steps_tell t x w = let h = source_steps_step t x w in record { becomes = h.stepped; blind = h.blind }

-- first the source becomes this, and what comes then spares it
pub becomes_first : (after : SourceRecord) (unasked : Type 0) (g : PortStep → PortStep) (w v u : PortStep) → Becomes after unasked w v u →
    Spares v (g v) (g (unanswered v)) → Becomes after unasked w (g v) (g u)
becomes_first after unasked g w v u h k =
    record { becomes = ap (λ (s : SourceData). s.record) k.source ∙ h.becomes; blind = λ q. ap g (h.blind q) ∙ k.blind }

pub told_first : (t : ℕ) (x : Option Stimulus) (g : PortStep → PortStep) (w v u : PortStep) → Tells t x w v u →
    Spares v (g v) (g (unanswered v)) →
    Tells t x w (g v) (g u)
told_first t x g w v u h k =
    becomes_first (source_after_told w.port.source.settings t x w.answer w.port.source.record) (AsksNothing x w.port.source) g w v u h k

-- what the source is told, after something that spared it
pub after_spared : (t : ℕ) (x : Option Stimulus) (w v : PortStep) (s : SourceData) → v.port.source ≡ w.port.source → v.answer ≡ w.answer →
    s.record ≡ source_after_told v.port.source.settings t x v.answer v.port.source.record →
    s.record ≡ source_after_told w.port.source.settings t x w.answer w.port.source.record
after_spared t x w v s e f h =
    h ∙ ap (λ (z : SourceData). source_after_told z.settings t x v.answer z.record) e
    ∙ ap (λ (a : Option Answer). source_after_told w.port.source.settings t x a w.port.source.record) f

-- first something that spares the source, and then it is told
pub told_then : (t : ℕ) (x : Option Stimulus) (g : PortStep → PortStep) (w v u : PortStep) → Spares w v u →
    Tells t x v (g v) (g (unanswered v)) →
    Tells t x w (g v) (g u)
told_then t x g w v u h k =
    record {
      becomes = after_spared t x w v (g v).port.source h.source h.answer k.becomes;
      blind = λ q. ap g h.blind ∙ k.blind (subst (AsksNothing x) (sym h.source) q);
    }

pub told_then_with : {A : Type 0} (t : ℕ) (x : Option Stimulus) (g : PortStep × A → PortStep) (w : PortStep)
    (v u : PortStep × A) → SparesWith A w v u →
    Tells t x v.0 (g v) (g (unanswered v.0, v.1)) → Tells t x w (g v) (g u)
told_then_with t x g w v u h k =
    record {
      becomes = after_spared t x w v.0 (g v).port.source h.source h.answer k.becomes;
      blind = λ q. ap g h.blind ∙ k.blind (subst (AsksNothing x) (sym h.source) q);
    }

-- the layers of the source are those of this record
abbrev pub HasLayers : PortStep → PortParts → Type 0
HasLayers w r = (c : Channel) → layer_on Source c w ≡ source_layer c r

pub its_layers : (w : PortStep) → HasLayers w w.port
its_layers w Sop = refl
its_layers w SopPrime = refl

-- what the source is told is known otherwise
pub retold : (t : ℕ) (x y : Option Stimulus) (w v u : PortStep) → x ≡ y → Tells t x w v u → Tells t y w v u
retold t x y w v u e h = subst (λ (z : Option Stimulus). Tells t z w v u) e h

pub told_sent_tells : (p : Contents) (t : ℕ) (act : LayerAct) (w : PortStep) →
    Tells t (told_if_sent p act) w (told_sent Source p t act w) (told_sent Source p t act (unanswered w))
unfolding tells_sent
told_sent_tells p t answer.Sent w = source_steps_tell t (told.Sent (sent_as (kind_of_header p.header))) w
told_sent_tells p t act w = spares_tell t w _ _ (none w)

pub told_message_tells : (p : Contents) (t : ℕ) (act : LayerAct) (w : PortStep) →
    Tells t (told_if_up p act) w (told_message Source p t act w) (told_message Source p t act (unanswered w))
unfolding tells_message
told_message_tells p t answer.Up w = source_steps_tell t (source_hears_as (kind_of_header p.header) p.header p.objects) w
told_message_tells p t act w = spares_tell t w _ _ (none w)

pub after_time_out_tells : (p : Contents) (t : ℕ) (act : LayerAct) (w : PortStep) →
    Tells t (told_if_failed act) w (after_time_out Source p t act w) (after_time_out Source p t act (unanswered w))
unfolding tells_failed
after_time_out_tells p t (answer.Retry q) w = spares_tell t w _ _ (packet_starts_kept t (sparing t) tt tt Source q w)
after_time_out_tells p t answer.Failed w =
    let f = NoGoodCrc Source (kind_of_header p.header) in
    let v = noted f w in
    told_then t (Some told.Failed) (source_steps t told.Failed) w v _ (noted_kept t (sparing t) f w) (source_steps_tell t told.Failed v)
after_time_out_tells p t act w = spares_tell t w _ _ (none w)

pub acknowledged_tells : (p : Contents) (t : ℕ) (a : Option Contents) (w : PortStep) (r : PortParts) → HasLayers w r →
    Tells t (told_of_good_crc p r a) w (acknowledged Source p t a w) (acknowledged Source p t a (unanswered w))
unfolding good_crc_on
acknowledged_tells p t None w r h = spares_tell t w _ _ (line_spares _ w)
acknowledged_tells p t (Some a) w r h =
    let call : LayerRecord → LayerRecord × LayerAct = λ l. layer.good_crc l (id_of a.header) in
    let v = on_layer Source p.channel call w in
    retold t (told_if_sent p v.1) _ w _ _ (ap (λ (l : LayerRecord). told_if_sent p (call l).1) (h p.channel))
    (told_then_with t (told_if_sent p v.1) (λ z. told_sent Source p t z.1 z.0) w v _
    (on_layer_spares LayerAct Source p.channel call w) (told_sent_tells p t v.1 v.0))

pub goes_up_tells : (p : Contents) (t : ℕ) (w : PortStep) (r : PortParts) → HasLayers w r →
    Tells t (told_if_up p (layer.received (source_layer p.channel r) p.header).1) w (goes_up Source p t w)
    (goes_up Source p t (unanswered w))
unfolding goes_up received_on
goes_up_tells p t w r h =
    let call : LayerRecord → LayerRecord × LayerAct = λ l. layer.received l p.header in
    let v = on_layer Source p.channel call w in
    retold t (told_if_up p v.1) _ w _ _ (ap (λ (l : LayerRecord). told_if_up p (call l).1) (h p.channel))
    (told_then_with t (told_if_up p v.1) (λ z. told_message Source p t z.1 z.0) w v _
    (on_layer_spares LayerAct Source p.channel call w) (told_message_tells p t v.1 v.0))

-- the source speaks to another side
pub others_hear : (c : Channel) → OfSource ⊥ (receiver Source c)
others_hear Sop = tt
others_hear SopPrime = tt

pub any_touches : (side : Side) → OfSource (Unit {0}) side
any_touches Source = tt
any_touches Sink = tt
any_touches Plug = tt

-- another side's message is acknowledged, and goes up to the source
pub other_good_crc_tells : (side : Side) → OfSource ⊥ side → (p a : Contents) (fate : Fate) (t : ℕ) (w : PortStep)
    (r : PortParts) → HasLayers w r →
    Tells t (told_if_up p (layer.received (source_layer p.channel r) p.header).1) w
    (goes_up Source p t (acknowledged side p t (heard a fate) w)) (goes_up Source p t (acknowledged side p t (heard a fate) (unanswered w)))
other_good_crc_tells side o p a fate t w r h =
    let v = acknowledged side p t (heard a fate) w in
    told_then t _ (goes_up Source p t) w v _ (acknowledged_kept t (sparing t) tt side (any_touches side) o p (heard a fate) w)
    (goes_up_tells p t v r (λ c. acknowledged_layer side o p t (heard a fate) c w ∙ h c))

pub good_crc_ends_tells : (side : Side) (p a : Contents) (fate : Fate) (t : ℕ) (w : PortStep) (r : PortParts) → HasLayers w r →
    Tells t (told_at_good_crc side p a fate r) w (good_crc_ends side p a fate t w) (good_crc_ends side p a fate t (unanswered w))
unfolding good_crc_ends
good_crc_ends_tells Source p a fate t w r h =
    let v = acknowledged Source p t (heard a fate) w in
    let hearer = receiver Source p.channel in
    told_first t _ (goes_up hearer p t) w v _ (acknowledged_tells p t (heard a fate) w r h)
    (goes_up_kept t (sparing t) hearer (any_touches hearer) (others_hear p.channel) p v)
good_crc_ends_tells Sink p a fate t w r h = other_good_crc_tells Sink tt p a fate t w r h
good_crc_ends_tells Plug p a fate t w r h = other_good_crc_tells Plug tt p a fate t w r h

pub times_out_tells : (side : Side) (p : Contents) (t : ℕ) (w : PortStep) (r : PortParts) → HasLayers w r →
    Tells t (told_at_time_out side p r) w (times_out side p t w) (times_out side p t (unanswered w))
unfolding times_out timed_out_on
times_out_tells Source p t w r h =
    let v = on_layer Source p.channel layer.timed_out w in
    retold t (told_if_failed v.1) _ w _ _ (ap (λ (l : LayerRecord). told_if_failed (layer.timed_out l).1) (h p.channel))
    (told_then_with t (told_if_failed v.1) (λ z. after_time_out Source p t z.1 z.0) w v _
    (on_layer_spares LayerAct Source p.channel layer.timed_out w) (after_time_out_tells p t v.1 v.0))
times_out_tells Sink p t w r h = spares_tell t w _ _ (times_out_kept t (sparing t) tt tt Sink tt tt p w)
times_out_tells Plug p t w r h = spares_tell t w _ _ (times_out_kept t (sparing t) tt tt Plug tt tt p w)

-- all is reset at a Hard Reset's end, which spares the source
pub reset_spares : (t : ℕ) (w : PortStep) → Spares w (layers_reset (waiting_dropped w)) (layers_reset (waiting_dropped (unanswered w)))
reset_spares t w =
    let v = waiting_dropped w in
    joins layers_reset w v _ (waiting_dropped_kept t (sparing t) w) (layers_reset_kept t (sparing t) tt v)

-- the source's own Hard Reset
pub own_reset_tells : (t : ℕ) (w : PortStep) →
    Tells t (Some (told.Sent sent.Other)) w (hard_reset_ends Source t w) (hard_reset_ends Source t (unanswered w))
unfolding hard_reset_ends all_hear_reset hears_reset tells_sent
own_reset_tells t w =
    let x : Stimulus = told.Sent sent.Other in
    let a = layers_reset (waiting_dropped w) in
    let b = source_steps t x a in
    let c = hears_reset Source Sink t b in
    told_first t (Some x) (hears_reset Source Plug t) w c _
    (told_first t (Some x) (hears_reset Source Sink t) w b _
    (told_then t (Some x) (source_steps t x) w a _ (reset_spares t w) (source_steps_tell t x a))
    (hears_reset_kept t (sparing t) Source Sink tt b))
    (hears_reset_kept t (sparing t) Source Plug tt c)

pub told_if_hears : Bool → Option Stimulus
told_if_hears b = if b then Some told.HardReset else None

-- the source gets another side's Hard Reset, where it hears
pub source_gets_reset : (b : Bool) (t : ℕ) (w : PortStep) →
    Tells t (told_if_hears b) w (if b then source_steps t told.HardReset w else w) (if b
    then source_steps t told.HardReset (unanswered w) else unanswered w)
unfolding told_if_hears
source_gets_reset true t w = source_steps_tell t told.HardReset w
source_gets_reset false t w = spares_tell t w _ _ (none w)

pub source_hears_reset : (side : Side) → OfSource ⊥ side → (t : ℕ) (w : PortStep) →
    Tells t (told_if_hears (source.hears_in w.port.source.record)) w (hears_reset side Source t w)
    (hears_reset side Source t (unanswered w))
unfolding hears_reset hears tells_reset
source_hears_reset Source o t w = absurd o
source_hears_reset Sink o t w = source_gets_reset (source.hears_in w.port.source.record) t w
source_hears_reset Plug o t w = source_gets_reset (source.hears_in w.port.source.record) t w

-- another side's Hard Reset
pub other_reset_tells : (side : Side) → OfSource ⊥ side → (t : ℕ) (w : PortStep) →
    Tells t (told_if_hears (source.hears_in w.port.source.record)) w (hard_reset_ends side t w) (hard_reset_ends side t (unanswered w))
unfolding hard_reset_ends all_hear_reset
other_reset_tells side o t w =
    let a = layers_reset (waiting_dropped w) in
    let b = tells_sent side sent.Other t a in
    let s = joins (tells_sent side sent.Other t) w a _ (reset_spares t w) (tells_sent_kept t (sparing t) side o sent.Other a) in
    let x = told_if_hears (source.hears_in w.port.source.record) in
    let c = hears_reset side Source t b in
    let d = hears_reset side Sink t c in
    let e : told_if_hears (source.hears_in b.port.source.record) ≡ x =
    ap (λ (z : SourceData). told_if_hears (source.hears_in z.record)) s.source in
    told_first t x (hears_reset side Plug t) w d _
    (told_first t x (hears_reset side Sink t) w c _
    (told_then t x (hears_reset side Source t) w b _ s
    (retold t (told_if_hears (source.hears_in b.port.source.record)) x b _ _ e (source_hears_reset side o t b)))
    (hears_reset_kept t (sparing t) side Sink tt c))
    (hears_reset_kept t (sparing t) side Plug tt d)

pub hard_reset_tells : (side : Side) (t : ℕ) (w : PortStep) (r : PortParts) → w.port.source ≡ r.source →
    Tells t (told_of_reset side r) w (hard_reset_ends side t w) (hard_reset_ends side t (unanswered w))
unfolding told_if_hears
hard_reset_tells Source t w r e = own_reset_tells t w
hard_reset_tells Sink t w r e =
    retold t (told_if_hears (source.hears_in w.port.source.record)) _ w _ _
    (ap (λ (z : SourceData). told_if_hears (source.hears_in z.record)) e)
    (other_reset_tells Sink tt t w)
hard_reset_tells Plug t w r e =
    retold t (told_if_hears (source.hears_in w.port.source.record)) _ w _ _
    (ap (λ (z : SourceData). told_if_hears (source.hears_in z.record)) e)
    (other_reset_tells Plug tt t w)

pub line_ends_at_tells : (line : Line) (t : ℕ) (w : PortStep) (r : PortParts) → HasLayers w r → w.port.source ≡ r.source →
    Tells t (told_by_line line r) w (line_ends_at line t w) (line_ends_at line t (unanswered w))
line_ends_at_tells Idle t w r h e = spares_tell t w _ _ (none w)
line_ends_at_tells (Message side p fate end) t w r h e = spares_tell t w _ _ (message_ends_kept t (sparing t) tt side p fate w)
line_ends_at_tells (Pause side p end) t w r h e = spares_tell t w _ _ (good_crc_starts_kept t (sparing t) tt tt side p w)
line_ends_at_tells (GoodCrc side p a fate end) t w r h e = good_crc_ends_tells side p a fate t w r h
line_ends_at_tells (NoAnswer side p end) t w r h e = times_out_tells side p t w r h
line_ends_at_tells (HardReset side end) t w r h e = hard_reset_tells side t w r e

pub line_ends_tells : (t : ℕ) (w : PortStep) → Tells t (told_by_line w.port.line w.port) w (line_ends t w) (line_ends t (unanswered w))
unfolding line_ends
line_ends_tells t w =
    let v = with_line Idle w in
    told_then t _ (line_ends_at w.port.line t) w v _ (line_spares Idle w)
    (line_ends_at_tells w.port.line t v w.port (λ c. line_layer Idle c w ∙ its_layers w c) (line_spares Idle w).source)
