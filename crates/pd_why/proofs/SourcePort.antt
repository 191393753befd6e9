-- What a port's step does to the limit of its source and to the offer that it is making.
use Rattle.std.proofs.Common.{◌≡◌, ℕ, Bool, true, false, ◌&&◌, if◌then◌else◌, is_some, List, [], ◌∷◌, Option, None, Some, refl, sym, ap}
use Rattle.std.proofs.Common.{◌∙◌, subst}
use Rattle.pd_header.specs.declared.side.Side.{Side}
use Rattle.pd_header.specs.declared.side.Side.TheVariants.{Source, Sink, Plug}
use Rattle.pd_header.specs.Kinds.{kind_of_header}
use Rattle.pd_header.specs.declared.kind.Kind.{Kind}
use Rattle.pd_header.specs.declared.kind.Kind.TheVariants as kind
use Rattle.pd_objects.specs.declared.query.Answer.{Answer}
use Rattle.pd_objects.specs.declared.query.Answer.TheVariants as answers
use Rattle.pd_objects.specs.declared.query.Query.{Query}
use Rattle.pd_packet.specs.Contents.{Contents}
use Rattle.pd_packet.specs.Hearing.{heard}
use Rattle.pd_packet.specs.declared.fate.Fate.{Fate}
use Rattle.pd_protocol.specs.declared.layer.LayerAct.{LayerAct}
use Rattle.pd_protocol.specs.declared.layer.LayerAct.TheVariants as layer_act
use Rattle.pd_source.specs.declared.kinds.State.{State}
use Rattle.pd_source.specs.declared.kinds.State.TheVariants as state
use Rattle.pd_source.specs.declared.kinds.Stimulus.{Stimulus}
use Rattle.pd_source.specs.declared.kinds.Stimulus.TheVariants as told
use Rattle.pd_source.specs.Record.{SourceRecord, off}
use Rattle.pd_source.specs.Step as source
use Rattle.pd_setup.specs.Events.{PortEventKind}
use Rattle.pd_setup.specs.declared.event.EventKind.TheVariants.{Attach, GetSink}
use Rattle.pd_setup.specs.declared.event.Happening.{Happening}
use Rattle.pd_setup.specs.declared.event.Happening.TheVariants.{Port, Budget}
use Rattle.pd_setup.specs.Settings.{SettingsData}
use Rattle.pd_line.specs.declared.port_parts.PortParts.{PortParts}
use Rattle.pd_line.specs.declared.port_parts.Line.{Line}
use Rattle.pd_line.specs.declared.port_parts.Line.TheVariants.{GoodCrc, NoAnswer, HardReset}
use Rattle.pd_line.specs.Told.{source_hears_as}
use Rattle.pd_port.specs.declared.due.Due.{Due}
use Rattle.pd_port.specs.declared.due.What.{What}
use Rattle.pd_port.specs.declared.due.What.TheVariants as what
use Rattle.pd_port.specs.Happens.{changes_budget, is_budget, is_detach, pulls_cable}
use Rattle.pd_port.specs.Laws.{source_after_told}
use Rattle.pd_port.specs.SourceTold.{told_if_sent, told_if_up, told_if_failed, told_of_good_crc, told_at_good_crc, told_at_time_out}
use Rattle.pd_port.specs.SourceTold.{told_of_reset, told_by_line, told_attached, told_detached, told_by_event, source_told, told_if_shed}
use Rattle.pd_port.specs.Port.{PortRecord, ask, asks, record_after, source_settings, whole}
use Rattle.pd_port.proofs.Asked.{ask_when, record_after-source, source_when}
use Rattle.pd_identity.specs.declared.identity.Reply.{Reply}
use Rattle.pd_identity.specs.declared.identity.Reply.TheVariants as reply
use Rattle.pd_identity.specs.Identity.{reply_of}
use Rattle.pd_why.specs.declared.cable.CableLimit.TheVariants as known
use Rattle.pd_timers.specs.declared.Timer.TheVariants as timer
use Rattle.pd_why.specs.declared.cable.CableLimit.{CableLimit}
use Rattle.pd_why.specs.Cables.{LearntBy, by_reply, learnt_by, settles}
use Rattle.pd_why.specs.Facts.{offers_in}
use Rattle.pd_source.proofs.Learning as source_learns
use Rattle.pd_source.proofs.Learning.{Learns, Limits, same, settled, limits-stepped}
use Rattle.pd_source.proofs.Offering.{Drafts, drafts-shed, drafts-stepped, is_offer_query}
use Rattle.pd_why.proofs.SourceSteps.{offering_is}

-- ---- how the source learns its limit

-- how the source learns its cable's limit as it is told this, where it learns it
abbrev how_of : Stimulus → CableLimit
how_of (told.Identity objects) = by_reply (reply_of objects.items)
how_of told.Failed = known.NoPlug
how_of x = known.Silent

-- what is known of the limit goes with what was learnt
learnt_so : (x : Stimulus) (limit : Option ℕ) → Learns x limit → LearntBy (how_of x) x limit
learnt_so (told.Identity objects) limit h = by_answer (reply_of objects.items) refl h where
  by_answer : (k : Reply) → reply_of objects.items ≡ k → limit ≡ source_learns.learnt_by k objects.items →
      LearntBy (by_reply k) (told.Identity objects) limit
  by_answer reply.Ack e h = (e, h)
  by_answer reply.Nak e h = (e, h)
  by_answer reply.Busy e h = (e, h)
learnt_so told.Failed limit h = h
learnt_so (told.Ended timer.VdmResponse) limit h = h
learnt_so x limit h = absurd h

settles_is : (t u : State) → source_learns.settles t u ≡ settles t u
settles_is state.VdmIdentityRequest state.SendCapabilities = refl
settles_is t u = refl

-- what the source is told, where it learns its limit by it, goes with what falls due and what is on the line
Tells : What → Line → Option Stimulus → Type 0
Tells x line None = Unit {0}
Tells x line (Some y) = (limit : Option ℕ) → LearntBy (how_of y) y limit → how_of y ≡ learnt_by x line

hears : (k : Kind) (header : ℕ) (objects : List ℕ) (how : CableLimit) → by_reply (reply_of objects) ≡ how → (limit : Option ℕ) →
    LearntBy (how_of (source_hears_as k header objects)) (source_hears_as k header objects) limit →
    how_of (source_hears_as k header objects) ≡ how
hears kind.Request header [] how e limit h = absurd h
hears kind.Request header (o ∷ objects) how e limit h = absurd h
hears kind.GetSourceCap header objects how e limit h = absurd h
hears kind.SinkCapabilities header objects how e limit h = absurd h
hears kind.Accept header objects how e limit h = absurd h
hears kind.SoftReset header objects how e limit h = absurd h
hears kind.VendorDefined header objects how e limit h = e
hears k header objects how e limit h = absurd h

up_tells : (side : Side) (p a : Contents) (fate : Fate) (end : ℕ) (act : LayerAct) →
    Tells what.Line (GoodCrc side p a fate end) (told_if_up p act)
unfolding Tells
up_tells side p a fate end layer_act.Up = hears (kind_of_header p.header) p.header p.objects (by_reply (reply_of p.objects)) refl
up_tells side p a fate end act = tt

sent_tells : (line : Line) (p : Contents) (act : LayerAct) → Tells what.Line line (told_if_sent p act)
unfolding Tells
sent_tells line p layer_act.Sent = λ limit h. absurd h
sent_tells line p act = tt

failed_tells : (side : Side) (p : Contents) (end : ℕ) (act : LayerAct) → Tells what.Line (NoAnswer side p end) (told_if_failed act)
unfolding Tells
failed_tells side p end layer_act.Failed = λ limit h. refl
failed_tells side p end act = tt

own_tells : (line : Line) (p : Contents) (r : PortParts) (a : Option Contents) → Tells what.Line line (told_of_good_crc p r a)
unfolding Tells
own_tells line p r None = tt
own_tells line p r (Some a) = sent_tells line p _

good_crc_tells : (side : Side) (p a : Contents) (fate : Fate) (end : ℕ) (r : PortParts) →
    Tells what.Line (GoodCrc side p a fate end) (told_at_good_crc side p a fate r)
good_crc_tells Source p a fate end r = own_tells (GoodCrc Source p a fate end) p r (heard a fate)
good_crc_tells Sink p a fate end r = up_tells Sink p a fate end _
good_crc_tells Plug p a fate end r = up_tells Plug p a fate end _

time_out_tells : (side : Side) (p : Contents) (end : ℕ) (r : PortParts) → Tells what.Line (NoAnswer side p end) (told_at_time_out side p r)
unfolding Tells
time_out_tells Source p end r = failed_tells Source p end _
time_out_tells Sink p end r = tt
time_out_tells Plug p end r = tt

-- what tells nothing of a cable, where it is told
plain_tells : (x : What) (line : Line) (b : Bool) (y : Stimulus) → ((limit : Option ℕ) → LearntBy (how_of y) y limit → ⊥) →
    Tells x line (if b then Some y else None)
unfolding Tells
plain_tells x line true y n = λ limit h. absurd (n limit h)
plain_tells x line false y n = tt

reset_tells : (line : Line) (side : Side) (r : PortParts) → Tells what.Line line (told_of_reset side r)
unfolding Tells
reset_tells line Source r = λ limit h. absurd h
reset_tells line Sink r = plain_tells what.Line line (source.hears_in r.source.record) told.HardReset (λ limit h. h)
reset_tells line Plug r = plain_tells what.Line line (source.hears_in r.source.record) told.HardReset (λ limit h. h)

line_tells : (line : Line) (r : PortParts) → Tells what.Line line (told_by_line line r)
unfolding Tells
line_tells (GoodCrc side p a fate end) r = good_crc_tells side p a fate end r
line_tells (NoAnswer side p end) r = time_out_tells side p end r
line_tells (HardReset side end) r = reset_tells (HardReset side end) side r
line_tells line r = tt

attached_tells : (x : What) (line : Line) (k : PortEventKind) (r : PortParts) → Tells x line (told_attached k r)
unfolding Tells
attached_tells x line GetSink r = plain_tells x line (source.is_ready r.source.record) told.GetSink (λ limit h. h)
attached_tells x line k r = tt

detached_tells : (x : What) (line : Line) (k : PortEventKind) → Tells x line (told_detached k)
unfolding Tells
detached_tells x line (Attach cable device) = λ limit h. absurd h
detached_tells x line k = tt

kind_tells : (b : Bool) (x : What) (line : Line) (k : PortEventKind) (r : PortParts) →
    Tells x line (if b then told_attached k r else told_detached k)
kind_tells true x line k r = attached_tells x line k r
kind_tells false x line k r = detached_tells x line k

event_tells : (x : What) (line : Line) (h : Happening) (r : PortParts) → Tells x line (told_by_event h r)
unfolding Tells
event_tells x line (Port id k) r = kind_tells (is_some r.cable) x line k r
event_tells x line Budget r = tt

what_tells : (x : What) (r : PortParts) → Tells x r.line (source_told x r)
unfolding Tells
what_tells (what.Event e) r = event_tells (what.Event e) r.line e.happening r
what_tells what.Line r = line_tells r.line r
what_tells (what.Timer Source timer) r = λ limit h. refl
what_tells (what.Timer Sink timer) r = tt
what_tells (what.Timer Plug timer) r = tt

none_settles : (t : State) → settles t t ≡ false
none_settles state.VdmIdentityRequest = refl
none_settles t = refl

-- After a step of a port the limit is that of a detached port, where the cable was pulled out, or as it was, or what the source has learnt.
pub data LimitGoes (s : SettingsData) (r : PortRecord) (d : Due) (new : SourceRecord) : Type 0 where
  pulled : is_detach d.what && is_some r.cable ≡ true → new ≡ off (source_settings s) → LimitGoes s r d new
  kept : is_detach d.what && is_some r.cable ≡ false → settles r.source.state new.state ≡ false → new.limit ≡ r.source.limit →
      LimitGoes s r d new
  learns : is_detach d.what && is_some r.cable ≡ false → settles r.source.state new.state ≡ true → (y : Stimulus) →
      source_told d.what (whole s r) ≡ Some y → how_of y ≡ learnt_by d.what r.line → LearntBy (learnt_by d.what r.line) y new.limit →
      LimitGoes s r d new

not_budget : (x : What) (b : Bool) → is_budget x ≡ true → is_detach x && b ≡ false
not_budget (what.Event e) b h = by_happening e.happening h where
  by_happening : (h : Happening) → changes_budget h ≡ true → pulls_cable h && b ≡ false
  by_happening (Port id k) h = absurd (cc)
  by_happening Budget h = refl
not_budget what.Line b h = refl
not_budget (what.Timer side timer) b h = refl

tells_of : (x : What) (line : Line) (o : Option Stimulus) (y : Stimulus) → Tells x line o → o ≡ Some y → (limit : Option ℕ) →
    LearntBy (how_of y) y limit → how_of y ≡ learnt_by x line
unfolding Tells
tells_of x line o y h e = subst (Tells x line) e h

module _ (s : SettingsData) (r : PortRecord) (d : Due) where
  shed_by : is_budget d.what ≡ true → (new : SourceRecord) → Limits told.Shed r.source new → LimitGoes s r d new
  shed_by b new (same n e) = kept (not_budget d.what (is_some r.cable) b) (sym (settles_is r.source.state new.state) ∙ n) e
  shed_by b new (settled n h) = absurd h

  shed_limits : is_budget d.what ≡ true → (a : Option Answer) →
      LimitGoes s r d (source_after_told (source_settings s) d.time (told_if_shed a) None r.source)
  shed_limits b (Some (answers.Fits false)) = shed_by b _ (limits-stepped (source_settings s) d.time told.Shed None r.source)
  shed_limits b a = kept (not_budget d.what (is_some r.cable) b) (none_settles r.source.state) refl

  told_by : is_detach d.what && is_some r.cable ≡ false → (y : Stimulus) → source_told d.what (whole s r) ≡ Some y → (new : SourceRecord) →
      Limits y r.source new → LimitGoes s r d new
  told_by b y e new (same n h) = kept b (sym (settles_is r.source.state new.state) ∙ n) h
  told_by b y e new (settled n h) =
      let how : how_of y ≡ learnt_by d.what r.line =
      tells_of d.what r.line (source_told d.what (whole s r)) y (what_tells d.what (whole s r)) e new.limit (learnt_so y new.limit h) in
      learns b (sym (settles_is r.source.state new.state) ∙ n) y e how (subst (λ k. LearntBy k y new.limit) how (learnt_so y new.limit h))

  told_limits : is_detach d.what && is_some r.cable ≡ false → (o : Option Stimulus) (a : Option Answer) →
      source_told d.what (whole s r) ≡ o →
      LimitGoes s r d (source_after_told (source_settings s) d.time o a r.source)
  told_limits b None a e = kept b (none_settles r.source.state) refl
  told_limits b (Some y) a e = told_by b y e _ (limits-stepped (source_settings s) d.time y a r.source)

  by_detach : (b : Bool) → is_detach d.what && is_some r.cable ≡ b → (a : Option Answer) →
      LimitGoes s r d (if b then off (source_settings s) else
      source_after_told (source_settings s) d.time (source_told d.what (whole s r)) a r.source)
  by_detach true e a = pulled e refl
  by_detach false e a = told_limits e (source_told d.what (whole s r)) a refl

  limits_by_budget : (b : Bool) → is_budget d.what ≡ b → (a : Option Answer) → LimitGoes s r d (source_when b s r d a)
  limits_by_budget true e a = shed_limits e a
  limits_by_budget false e a = by_detach (is_detach d.what && is_some r.cable) refl a

  pub port_limits : (a : Option Answer) → LimitGoes s r d (record_after s r d a).source
  port_limits a = subst (LimitGoes s r d) (sym (record_after-source s r d a)) (limits_by_budget (is_budget d.what) refl a)

  -- ---- the offer that is being made

  none_asked : (a : Option Answer) → offers_in r.source.state ≡ true → (q : Option Query) → is_offer_query q ≡ false →
      Drafts q a r.source r.source
  none_asked a h q n = record {
    answered = λ currents e f. absurd (let g : true ≡ false = sym e
        ∙ n in cc);
    stays = λ e. (offering_is r.source.state ∙ h, refl);
  }

  shed_drafts : (a : Option Answer) → let new = source_after_told (source_settings s) d.time (told_if_shed a) None r.source in
      offers_in new.state ≡ true → (q : Option Query) → is_offer_query q ≡ false → Drafts q a r.source new
  shed_drafts (Some (answers.Fits false)) h q n =
      let new = source.stepped (source_settings s) d.time told.Shed None r.source in
      let k = drafts-shed (source_settings s) d.time r.source (offering_is new.state ∙ h) in
      record { answered = λ currents e f. absurd (let g : true ≡ false = sym e ∙ n in cc); stays = λ e. k }
  shed_drafts a h q n = none_asked a h q n

  told_drafts : (o : Option Stimulus) (a : Option Answer) → let new = source_after_told (source_settings s) d.time o a r.source in
      offers_in new.state ≡ true → Drafts (asks (whole s r) o) a r.source new
  told_drafts None a h = none_asked a h None refl
  told_drafts (Some y) a h =
      drafts-stepped (source_settings s) d.time y a r.source
      (offering_is (source.stepped (source_settings s) d.time y a r.source).state ∙ h)

  drafts_by_detach : (b : Bool) (a : Option Answer) →
      let new : SourceRecord = if b then off (source_settings s) else
      source_after_told (source_settings s) d.time (source_told d.what (whole s r)) a r.source in
      offers_in new.state ≡ true → Drafts (asks (whole s r) (source_told d.what (whole s r))) a r.source new
  drafts_by_detach true a h = absurd (cc)
  drafts_by_detach false a h = told_drafts (source_told d.what (whole s r)) a h

  drafts_by_budget : (b : Bool) (a : Option Answer) → offers_in (source_when b s r d a).state ≡ true →
      Drafts (ask_when b s r d) a r.source (source_when b s r d a)
  drafts_by_budget true a h = shed_drafts a h (ask_when true s r d) refl
  drafts_by_budget false a h = drafts_by_detach (is_detach d.what && is_some r.cable) a h

  -- in the state that sends an offer, this is the one that was answered or the one before
  pub port_drafts : (a : Option Answer) → offers_in (record_after s r d a).source.state ≡ true →
      Drafts (ask s r d) a r.source (record_after s r d a).source
  unfolding ask
  port_drafts a h =
      let e = record_after-source s r d a in
      subst (Drafts (ask_when (is_budget d.what) s r d) a r.source) (sym e)
      (drafts_by_budget (is_budget d.what) a (ap (λ (k : SourceRecord). offers_in k.state) (sym e) ∙ h))
