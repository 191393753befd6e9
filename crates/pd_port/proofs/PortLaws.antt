-- What the run of a charger relies on of a port's step.
use Rattle.std.proofs.Common.{◌≡◌, ◌⊎◌, ℕ, ◌<◌, ◌≤◌, true, false, List, Option, Some, None, refl, ◌∙◌, sym, ap, subst, inl, inr, arith}
use Rattle.std.proofs.Common.{max, Bool, ◌&&◌, if◌then◌else◌, is_some}
use Rattle.std.specs.Option.{option_and_then}
use Rattle.pd_header.specs.declared.side.Side.{Side}
use Rattle.pd_header.specs.declared.side.Side.TheVariants.{Source, Sink, Plug}
use Rattle.pd_objects.specs.declared.query.Answer.{Answer}
use Rattle.pd_objects.specs.Answers.{IsAllowed}
use Rattle.pd_timers.specs.declared.Timer.{Timer}
use Rattle.pd_timers.specs.Deadlines.{deadline, first_of, IsFirst}
use Rattle.pd_timers.proofs.FirstLemmas.{first_of-IsFirst}
use Rattle.pd_timers.proofs.LaterLemmas.{SetsLater-same}
use Rattle.pd_objects.specs.declared.query.Answer.TheVariants as answers
use Rattle.pd_source.specs.Record.{SourceSettings, SourceRecord, off}
use Rattle.pd_source.specs.Step.{query_of, hold_of, contracted, requested, powers}
use Rattle.pd_source.specs.declared.kinds.Stimulus.{Stimulus}
use Rattle.pd_source.specs.declared.kinds.Stimulus.TheVariants as told
use Rattle.pd_source.proofs.Holds.{hold_of-floor, hold_of-off, hold_of-allowed, hold_of-None}
use Rattle.pd_source.proofs.Powers.{least-fold_max}
use Rattle.pd_line.specs.Record.{PortRecord, nothing_attached}
use Rattle.pd_line.proofs.Later.{later_kept}
use Rattle.pd_line.specs.Later.{Times, times_of, Later, line_end}
use Rattle.pd_port.specs.declared.due.Due.{Due}
use Rattle.pd_port.specs.declared.due.What.{What}
use Rattle.pd_port.specs.declared.due.What.TheVariants as what
use Rattle.pd_setup.specs.Events.{EventData}
use Rattle.pd_setup.specs.Settings.{SettingsData, floor_of}
use Rattle.pd_port.specs.Budget.{contract_power}
use Rattle.pd_port.specs.Laws.{NotBefore, pending_at, pending, without, IsOneOf, IsEarliest, source_after_told}
use Rattle.pd_port.specs.Happens.{is_budget, is_detach}
use Rattle.pd_port.specs.SourceTold.{source_told, told_if_shed}
use Rattle.pd_port.specs.Port.{is_event, event_due, line_due, timer_due, dues, due, detached, source_settings, whole, ask}
use Rattle.pd_port.specs.Port.{record_after, hold}
use Rattle.pd_port.proofs.Earliest.{is_before-time, due-IsEarliest}
use Rattle.pd_port.proofs.Asked.{source_when, ask_when, record_after-source}
use Rattle.pd_port.proofs.Later.{record_after-later}
use Rattle.pd_port.proofs.Pending.{stopped-later, pending_at-few, pending_at-falls, pending_at-line, pending_at-source}
use Rattle.pd_port.proofs.Pending.{pending_at-sink, pending_at-plug}

-- a deadline that is the first one runs
pub first_runs : (d : List (Option ℕ)) (at : ℕ) (timer : Timer) → first_of d ≡ Some (at, timer) → deadline d timer ≡ Some at
first_runs d at timer e = let h = subst (λ (f : Option (ℕ × Timer)). IsFirst d f) e (first_of-IsFirst d) in h.0

-- some deadline is the first one where one runs, and it is no later
pub record HasFirst (d : List (Option ℕ)) (at : ℕ) : Type 0 where
  pub time : ℕ
  pub timer : Timer
  pub first : first_of d ≡ Some (time, timer)
  pub sooner : time ≤ at

no_later : (a b : ℕ) (P : Type 0) → (a < b) ⊎ ((a ≡ b) × P) → a ≤ b
no_later a b P (inl h) = omega arith
no_later a b P (inr h) = let e = h.0 in omega arith

has_first : (d : List (Option ℕ)) (u : Timer) (at : ℕ) → deadline d u ≡ Some at → (f : Option (ℕ × Timer)) →
    first_of d ≡ f → IsFirst d f → HasFirst d at
has_first d u at e None g h = absurd (let n = h u in let x : None ≡ Some at = sym n ∙ e in cc)
has_first d u at e (Some (time, timer)) g h = record { time = time; timer = timer; first = g; sooner = no_later time at _ (h.1 u at e) }

pub some_first : (d : List (Option ℕ)) (u : Timer) (at : ℕ) → deadline d u ≡ Some at → HasFirst d at
some_first d u at e = has_first d u at e (first_of d) refl (first_of-IsFirst d)

-- what falls due next is no later than anything that is due
record NoneBefore (t : ℕ) (r : PortRecord) (next : Option EventData) : Type 0 where
  event : NotBefore t next
  line : (at : ℕ) → line_end r.line ≡ Some at → t ≤ at
  source : (u : Timer) (at : ℕ) → deadline r.source.deadlines u ≡ Some at → t ≤ at
  sink : (u : Timer) (at : ℕ) → deadline r.sink.deadlines u ≡ Some at → t ≤ at
  plug : (u : Timer) (at : ℕ) → deadline r.plug.deadlines u ≡ Some at → t ≤ at

timed_before : (d c : Due) (ds : List (Option Due)) → IsEarliest d ds → IsOneOf c ds → d.time ≤ c.time
timed_before d c ds h one = is_before-time c d (h.least c one)

event_none : (r : PortRecord) (next : Option EventData) (d : Due) → IsEarliest d (dues r next) → NotBefore d.time next
event_none r None d h = tt
event_none r (Some e) d h =
    let c : Due = record { time = e.at; what = what.Event e } in timed_before d c (dues r (Some e)) h (inl refl)

line_none : (r : PortRecord) (next : Option EventData) (d : Due) (at : ℕ) → IsEarliest d (dues r next) →
    line_end r.line ≡ Some at → d.time ≤ at
line_none r next d at h e =
    let c : Due = record { time = at; what = what.Line } in
    timed_before d c (dues r next) h (inr (inl (ap line_due e)))

source_none : (r : PortRecord) (next : Option EventData) (d : Due) (u : Timer) (at : ℕ) → IsEarliest d (dues r next) →
    deadline r.source.deadlines u ≡ Some at → d.time ≤ at
source_none r next d u at h e =
    let f = some_first r.source.deadlines u at e in
    let c : Due = record { time = f.time; what = what.Timer Source f.timer } in
    let n = timed_before d c (dues r next) h (inr (inr (inl (ap (timer_due Source) f.first)))) in
    let s = f.sooner in
    omega arith

sink_none : (r : PortRecord) (next : Option EventData) (d : Due) (u : Timer) (at : ℕ) → IsEarliest d (dues r next) →
    deadline r.sink.deadlines u ≡ Some at → d.time ≤ at
sink_none r next d u at h e =
    let f = some_first r.sink.deadlines u at e in
    let c : Due = record { time = f.time; what = what.Timer Sink f.timer } in
    let n = timed_before d c (dues r next) h (inr (inr (inr (inl (ap (timer_due Sink) f.first))))) in
    let s = f.sooner in
    omega arith

plug_none : (r : PortRecord) (next : Option EventData) (d : Due) (u : Timer) (at : ℕ) → IsEarliest d (dues r next) →
    deadline r.plug.deadlines u ≡ Some at → d.time ≤ at
plug_none r next d u at h e =
    let f = some_first r.plug.deadlines u at e in
    let c : Due = record { time = f.time; what = what.Timer Plug f.timer } in
    let n = timed_before d c (dues r next) h (inr (inr (inr (inr (inl (ap (timer_due Plug) f.first)))))) in
    let s = f.sooner in
    omega arith

none_before : (r : PortRecord) (next : Option EventData) (d : Due) → IsEarliest d (dues r next) → NoneBefore d.time r next
none_before r next d h =
    record {
      event = event_none r next d h;
      line = λ at e. line_none r next d at h e;
      source = λ u at e. source_none r next d u at h e;
      sink = λ u at e. sink_none r next d u at h e;
      plug = λ u at e. plug_none r next d u at h e;
    }

-- few deadlines are pending
pub pending_few : (r : PortRecord) (t : ℕ) → pending r t ≤ 64
unfolding pending
pending_few r t = pending_at-few (times_of r) t

-- what falls due is taken away, and nothing else
without_later : (x : What) (t : ℕ) (a : Times) → Later t a (without x a)
without_later (what.Event e) t a = later_kept t a
without_later what.Line t a =
    record { source = SetsLater-same t _; sink = SetsLater-same t _; plug = SetsLater-same t _; line = λ at e. cc }
without_later (what.Timer Source timer) t a =
    record { source = stopped-later t a.source timer; sink = SetsLater-same t _; plug = SetsLater-same t _; line = λ at e. inl e }
without_later (what.Timer Sink timer) t a =
    record { source = SetsLater-same t _; sink = stopped-later t a.sink timer; plug = SetsLater-same t _; line = λ at e. inl e }
without_later (what.Timer Plug timer) t a =
    record { source = SetsLater-same t _; sink = SetsLater-same t _; plug = stopped-later t a.plug timer; line = λ at e. inl e }

pending_without : (x : What) (a : Times) (t : ℕ) → pending_at (without x a) t ≤ pending_at a t
pending_without x a t = pending_at-falls t a (without x a) (without_later x t a)

-- a step for an event leaves no more of them
pub pending_event : (s : SettingsData) (r : PortRecord) (d : Due) (a : Option Answer) →
    pending (record_after s r d a) d.time ≤ pending r d.time
unfolding pending
pending_event s r d a =
    let h = pending_at-falls d.time (without d.what (times_of r)) (times_of (record_after s r d a)) (record_after-later s r d a) in
    let k = pending_without d.what (times_of r) d.time in
    omega arith

-- what falls due is pending
Falls : Times → Due → Type 0
Falls a d = pending_at (without d.what a) d.time < pending_at a d.time

event_case : (next : Option EventData) (d : Due) → event_due next ≡ Some d → is_event d.what ≡ false → ⊥
event_case None d e n = cc
event_case (Some ev) d e n =
    let c : Due = record { time = ev.at; what = what.Event ev } in
    let same : c ≡ d = cc in
    let t : true ≡ false = subst (λ (x : Due). is_event x.what ≡ false) (sym same) n in
    cc

line_case : (a : Times) (o : Option ℕ) (d : Due) → a.line ≡ o → line_due o ≡ Some d → Falls a d
unfolding Falls
line_case a None d f e = absurd (let x : None ≡ Some d = e in cc)
line_case a (Some end) d f e =
    let c : Due = record { time = end; what = what.Line } in
    let same : c ≡ d = cc in
    subst (λ (x : Due). pending_at (without x.what a) x.time < pending_at a x.time) same (pending_at-line end a f)

source_case : (a : Times) (o : Option (ℕ × Timer)) (d : Due) → first_of a.source ≡ o → timer_due Source o ≡ Some d → Falls a d
unfolding Falls
source_case a None d f e = absurd (let x : None ≡ Some d = e in cc)
source_case a (Some (time, timer)) d f e =
    let c : Due = record { time = time; what = what.Timer Source timer } in
    let same : c ≡ d = cc in
    subst (λ (x : Due). pending_at (without x.what a) x.time < pending_at a x.time) same
    (pending_at-source time a timer (first_runs a.source time timer f))

sink_case : (a : Times) (o : Option (ℕ × Timer)) (d : Due) → first_of a.sink ≡ o → timer_due Sink o ≡ Some d → Falls a d
unfolding Falls
sink_case a None d f e = absurd (let x : None ≡ Some d = e in cc)
sink_case a (Some (time, timer)) d f e =
    let c : Due = record { time = time; what = what.Timer Sink timer } in
    let same : c ≡ d = cc in
    subst (λ (x : Due). pending_at (without x.what a) x.time < pending_at a x.time) same (pending_at-sink time a timer
    (first_runs a.sink time timer f))

plug_case : (a : Times) (o : Option (ℕ × Timer)) (d : Due) → first_of a.plug ≡ o → timer_due Plug o ≡ Some d → Falls a d
unfolding Falls
plug_case a None d f e = absurd (let x : None ≡ Some d = e in cc)
plug_case a (Some (time, timer)) d f e =
    let c : Due = record { time = time; what = what.Timer Plug timer } in
    let same : c ≡ d = cc in
    subst (λ (x : Due). pending_at (without x.what a) x.time < pending_at a x.time) same (pending_at-plug time a timer
    (first_runs a.plug time timer f))

due_pending : (r : PortRecord) (next : Option EventData) (d : Due) → IsOneOf d (dues r next) → is_event d.what ≡ false →
    pending_at (without d.what (times_of r)) d.time < pending_at (times_of r) d.time
unfolding Falls
due_pending r next d (inl e) n = absurd (event_case next d e n)
due_pending r next d (inr (inl e)) n = line_case (times_of r) (line_end r.line) d refl e
due_pending r next d (inr (inr (inl e))) n = source_case (times_of r) (first_of r.source.deadlines) d refl e
due_pending r next d (inr (inr (inr (inl e)))) n = sink_case (times_of r) (first_of r.sink.deadlines) d refl e
due_pending r next d (inr (inr (inr (inr (inl e))))) n = plug_case (times_of r) (first_of r.plug.deadlines) d refl e
due_pending r next d (inr (inr (inr (inr (inr e))))) n = absurd e

-- a step for no event leaves fewer pending deadlines
pub pending_timer : (s : SettingsData) (r : PortRecord) (next : Option EventData) (d : Due) (a : Option Answer) → due r next ≡ Some d →
    is_event d.what ≡ false → pending (record_after s r d a) d.time < pending r d.time
unfolding pending
pending_timer s r next d a e n =
    let h = pending_at-falls d.time (without d.what (times_of r)) (times_of (record_after s r d a)) (record_after-later s r d a) in
    let i : IsEarliest d (dues r next) = due-IsEarliest r next d e in
    let k = due_pending r next d i.one n in
    omega arith

-- the next event isn't before what falls due
pub due_first : (r : PortRecord) (next : Option EventData) (d : Due) → due r next ≡ Some d → NotBefore d.time next
due_first r next d e = (none_before r next d (due-IsEarliest r next d e)).event

event_is : (next : Option EventData) (d : Due) (e : EventData) → event_due next ≡ Some d → d.what ≡ what.Event e →
    (next ≡ Some e) × (d.time ≡ e.at)
event_is None d e h w = absurd (let x : None ≡ Some d = h in cc)
event_is (Some ev) d e h w =
    let c : Due = record { time = ev.at; what = what.Event ev } in
    let same : c ≡ d = cc in
    let k : what.Event ev ≡ what.Event e = ap (λ (x : Due). x.what) same ∙ w in
    let i : ev ≡ e = cc in
    (ap Some i, ap (λ (x : Due). x.time) (sym same) ∙ ap (λ (x : EventData). x.at) i)

not_line : (o : Option ℕ) (d : Due) (e : EventData) → line_due o ≡ Some d → d.what ≡ what.Event e → ⊥
not_line None d e h w = let x : None ≡ Some d = h in cc
not_line (Some at) d e h w =
    let c : Due = record { time = at; what = what.Line } in
    let same : c ≡ d = cc in
    let k : what.Line ≡ what.Event e = ap (λ (x : Due). x.what) same ∙ w in
    cc

not_timer : (side : Side) (o : Option (ℕ × Timer)) (d : Due) (e : EventData) → timer_due side o ≡ Some d → d.what ≡ what.Event e → ⊥
not_timer side None d e h w = let x : None ≡ Some d = h in cc
not_timer side (Some (time, timer)) d e h w =
    let c : Due = record { time = time; what = what.Timer side timer } in
    let same : c ≡ d = cc in
    let k : what.Timer side timer ≡ what.Event e = ap (λ (x : Due). x.what) same ∙ w in
    cc

event_one : (r : PortRecord) (next : Option EventData) (d : Due) (e : EventData) → IsOneOf d (dues r next) →
    d.what ≡ what.Event e → (next ≡ Some e) × (d.time ≡ e.at)
event_one r next d e (inl h) w = event_is next d e h w
event_one r next d e (inr (inl h)) w = absurd (not_line (line_end r.line) d e h w)
event_one r next d e (inr (inr (inl h))) w = absurd (not_timer Source _ d e h w)
event_one r next d e (inr (inr (inr (inl h)))) w = absurd (not_timer Sink _ d e h w)
event_one r next d e (inr (inr (inr (inr (inl h))))) w = absurd (not_timer Plug _ d e h w)
event_one r next d e (inr (inr (inr (inr (inr h))))) w = absurd h

-- a due for an event is for the next one
pub due_event : (r : PortRecord) (next : Option EventData) (d : Due) (e : EventData) → due r next ≡ Some d →
    d.what ≡ what.Event e → (next ≡ Some e) × (d.time ≡ e.at)
due_event r next d e h w = event_one r next d e (due-IsEarliest r next d h).one w

event_after : (t : ℕ) (next : Option EventData) (f : Due) → NotBefore t next → event_due next ≡ Some f → t ≤ f.time
event_after t None f n e = absurd (let x : None ≡ Some f = e in cc)
event_after t (Some ev) f n e =
    let c : Due = record { time = ev.at; what = what.Event ev } in
    let same : c ≡ f = cc in
    subst (λ (x : Due). t ≤ x.time) same n

-- nothing of these times is before t
record NoneOf (t : ℕ) (a : Times) : Type 0 where
  line : (at : ℕ) → a.line ≡ Some at → t ≤ at
  source : (u : Timer) (at : ℕ) → deadline a.source u ≡ Some at → t ≤ at
  sink : (u : Timer) (at : ℕ) → deadline a.sink u ≡ Some at → t ≤ at
  plug : (u : Timer) (at : ℕ) → deadline a.plug u ≡ Some at → t ≤ at

kept_or_later : (t at : ℕ) (A : Type 0) → (A → t ≤ at) → A ⊎ (t < at) → t ≤ at
kept_or_later t at A f (inl h) = f h
kept_or_later t at A f (inr h) = omega arith

none_later : (t : ℕ) (a b : Times) → Later t a b → NoneOf t a → NoneOf t b
none_later t a b h n =
    record {
      line = λ at e. kept_or_later t at _ (n.line at) (h.line at e);
      source = λ u at e. kept_or_later t at _ (n.source u at) (h.source u at e);
      sink = λ u at e. kept_or_later t at _ (n.sink u at) (h.sink u at e);
      plug = λ u at e. kept_or_later t at _ (n.plug u at) (h.plug u at e);
    }

line_after : (t : ℕ) (o : Option ℕ) (f : Due) → ((at : ℕ) → o ≡ Some at → t ≤ at) → line_due o ≡ Some f → t ≤ f.time
line_after t None f n e = absurd (let x : None ≡ Some f = e in cc)
line_after t (Some end) f n e =
    let c : Due = record { time = end; what = what.Line } in
    let same : c ≡ f = cc in
    subst (λ (x : Due). t ≤ x.time) same (n end refl)

timer_after : (t : ℕ) (side : Side) (d : List (Option ℕ)) (o : Option (ℕ × Timer)) (f : Due) →
    ((u : Timer) (at : ℕ) → deadline d u ≡ Some at → t ≤ at) → first_of d ≡ o → timer_due side o ≡ Some f → t ≤ f.time
timer_after t side d None f n g e = absurd (let x : None ≡ Some f = e in cc)
timer_after t side d (Some (time, timer)) f n g e =
    let c : Due = record { time = time; what = what.Timer side timer } in
    let same : c ≡ f = cc in
    subst (λ (x : Due). t ≤ x.time) same (n timer time (first_runs d time timer g))

after_one : (t : ℕ) (q : PortRecord) (next : Option EventData) (f : Due) → NotBefore t next → NoneOf t (times_of q) →
    IsOneOf f (dues q next) → t ≤ f.time
after_one t q next f n k (inl h) = event_after t next f n h
after_one t q next f n k (inr (inl h)) = line_after t (line_end q.line) f k.line h
after_one t q next f n k (inr (inr (inl h))) = timer_after t Source q.source.deadlines _ f k.source refl h
after_one t q next f n k (inr (inr (inr (inl h)))) = timer_after t Sink q.sink.deadlines _ f k.sink refl h
after_one t q next f n k (inr (inr (inr (inr (inl h))))) = timer_after t Plug q.plug.deadlines _ f k.plug refl h
after_one t q next f n k (inr (inr (inr (inr (inr h))))) = absurd h

-- what falls due after a step isn't before it
pub due_later : (s : SettingsData) (r : PortRecord) (now : Option EventData) (d : Due) (a : Option Answer)
    (next : Option EventData) (f : Due) →
    due r now ≡ Some d → NotBefore d.time next → due (record_after s r d a) next ≡ Some f → d.time ≤ f.time
due_later s r now d a next f e n g =
    let q = record_after s r d a in
    let b = none_before r now d (due-IsEarliest r now d e) in
    let old : NoneOf d.time (times_of r) = record { line = b.line; source = b.source; sink = b.sink; plug = b.plug } in
    let less = none_later d.time (times_of r) (without d.what (times_of r)) (without_later d.what d.time (times_of r)) old in
    let new = none_later d.time (without d.what (times_of r)) (times_of q) (record_after-later s r d a) less in
    after_one d.time q next f n new (due-IsEarliest q next f g).one

-- a hold is at least the floor
pub hold_floor : (s : SettingsData) (r : PortRecord) → floor_of s ≤ hold s r
unfolding hold
hold_floor s r = hold_of-floor (source_settings s) (floor_of s) r.source

-- a detached port holds its floor
pub hold_detached : (s : SettingsData) → hold s (detached s) ≡ floor_of s
unfolding hold detached nothing_attached
hold_detached s = hold_of-off (source_settings s) (floor_of s)

-- a hold is at least the contract's power
pub hold_contract : (s : SettingsData) (r : PortRecord) → contract_power r ≤ hold s r
unfolding hold hold_of
hold_contract s r =
    let c = contracted r.source.contract in
    let q = requested (source_settings s) r.source.accepted_request in
    let l = least-fold_max (max (max (floor_of s) c) q) (powers s.supplies r.source.draft_offer) in
    omega arith

-- a hold comes to no more than is free, or than it was, where an answer is allowed
fits_told : (s : SourceSettings) (r : SourceRecord) (floor free t : ℕ) (x : Option Stimulus) (a : Option Answer) →
    IsAllowed free (option_and_then (λ y. query_of s y r) x) a →
    hold_of s floor (source_after_told s t x a r) ≤ max free (hold_of s floor r)
fits_told s r floor free t None a i = omega arith
fits_told s r floor free t (Some x) a i = hold_of-allowed s floor free t x a r i

-- where the hold may not stay, it is shed
fits_shed : (s : SourceSettings) (r : SourceRecord) (floor free t : ℕ) (a : Option Answer) →
    hold_of s floor (source_after_told s t (told_if_shed a) None r) ≤ max free (hold_of s floor r)
fits_shed s r floor free t (Some (answers.Fits false)) =
    let less : hold_of s floor (source_after_told s t (Some told.Shed) None r) ≤ hold_of s floor r =
    hold_of-None s floor (hold_of s floor r) t told.Shed r (omega arith) in omega arith
fits_shed s r floor free t a = omega arith

-- a detached port's hold is its floor
fits_off : (b : Bool) (s : SettingsData) (r new : SourceRecord) (f : ℕ) →
    hold_of (source_settings s) (floor_of s) new ≤ max f (hold_of (source_settings s) (floor_of s) r) →
    hold_of (source_settings s) (floor_of s) (if b then off (source_settings s) else new)
    ≤ max f (hold_of (source_settings s) (floor_of s) r)
fits_off true s r new f k =
    let least = hold_of-floor (source_settings s) (floor_of s) r in
    let e = hold_of-off (source_settings s) (floor_of s) in
    omega arith
fits_off false s r new f k = k

by_budget : (b : Bool) (s : SettingsData) (r : PortRecord) (d : Due) (x : Option Answer) (f : ℕ) →
    IsAllowed f (ask_when b s r d) x →
    hold_of (source_settings s) (floor_of s) (source_when b s r d x) ≤ max f (hold_of (source_settings s) (floor_of s) r.source)
by_budget true s r d x f i = fits_shed (source_settings s) r.source (floor_of s) f d.time x
by_budget false s r d x f i =
    fits_off (is_detach d.what && is_some r.cable) s r.source _ f
    (fits_told (source_settings s) r.source (floor_of s) f d.time (source_told d.what (whole s r)) x i)

-- with an allowed answer a hold comes to no more than is free, or than it was
pub hold_fits : (s : SettingsData) (r : PortRecord) (d : Due) (x : Option Answer) (f : ℕ) → IsAllowed f (ask s r d) x →
    hold s (record_after s r d x) ≤ max f (hold s r)
unfolding hold ask
hold_fits s r d x f i =
    let most = max f (hold_of (source_settings s) (floor_of s) r.source) in
    subst (λ (n : SourceRecord). hold_of (source_settings s) (floor_of s) n ≤ most) (sym (record_after-source s r d x))
    (by_budget (is_budget d.what) s r d x f i)
