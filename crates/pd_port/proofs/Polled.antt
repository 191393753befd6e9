-- A step of a port at which its source finds the offer as it was delivered.
use Rattle.std.proofs.Common.{◌≡◌, Bool, true, false, ◌&&◌, ◌||◌, if◌then◌else◌, List, [], ◌∷◌, Option, None, refl, ap, sym, ◌∙◌}
use Rattle.pd_header.specs.declared.side.Side.TheVariants.{Source}
use Rattle.pd_timers.specs.declared.Timer.{Timer}
use Rattle.pd_objects.specs.declared.query.Answer.{Answer}
use Rattle.pd_source.specs.Step as source
use Rattle.pd_source.specs.declared.kinds.Act.{Act}
use Rattle.pd_source.specs.declared.kinds.Act.TheVariants as act
use Rattle.pd_source.specs.declared.kinds.Stimulus.TheVariants as told
use Rattle.pd_line.specs.declared.port_parts.PortParts.{PortParts}
use Rattle.pd_line.specs.declared.port_parts.Waiting.TheVariants.{Nothing}
use Rattle.pd_line.specs.declared.port_step.PortStep.{PortStep}
use Rattle.pd_line.specs.PortStep.{wait, source_steps, source_acts, source_after, tells_timer}
use Rattle.pd_line.specs.Lines.{is_idle, is_waiting, line_starts}
use Rattle.arrayvec.specs.ArrayVec.{ArrayVec}
use Rattle.pd_line.specs.declared.notes.Fault.{Fault}
use Rattle.pd_port.specs.declared.entry.Entry.{Entry}
use Rattle.pd_port.specs.declared.due.Due.{Due}
use Rattle.pd_port.specs.declared.due.What.{What}
use Rattle.pd_port.specs.declared.due.What.TheVariants as what
use Rattle.pd_port.specs.Port.{begun, happens, portstep}

rests : (b c e : Bool) (y z w : PortStep) → b && (c || e) ≡ false → (if b then (if c then y else (if e then z else w)) else w) ≡ w
rests false c e y z w h = refl
rests true false false y z w h = refl
rests true true e y z w h = absurd (cc)
rests true false true y z w h = absurd (cc)

-- the parts after it
abbrev pub polled : Due → Timer → Option Answer → PortParts → PortParts
polled d t given p =
    let s = p.source in
    record p {
      source = record s { «record» = source.stepped s.settings d.time (told.Ended t) given s.record };
      source_waits = Nothing;
    }

nothing_starts : (d : Due) (t : Timer) (given : Option Answer) (p : PortParts) →
    is_idle p.line && (is_waiting p.sink_waits || is_waiting p.plug_waits) ≡ false →
    line_starts d.time (begun (polled d t given p) None) ≡ begun (polled d t given p) None
unfolding line_starts
nothing_starts d t given p h = rests (is_idle p.line) (is_waiting p.sink_waits) (is_waiting p.plug_waits) _ _ _ h

source_polls : (d : Due) (t : Timer) (given : Option Answer) (p : PortParts) →
    source.acts_of p.source.settings d.time (told.Ended t) given p.source.record ≡ act.DropWaiting ∷ [] →
    tells_timer Source t d.time (begun p given) ≡ begun (polled d t given p) None
unfolding tells_timer source_steps wait
source_polls d t given p h =
    ap (λ (acts : List Act). source_acts d.time acts (source_after d.time (told.Ended t) (begun p given))) h

-- what a step leaves where all that the source wants is that what waits is dropped, and nothing else starts
pub polled_is : (p q : PortParts) (d : Due) (t : Timer) (given : Option Answer) → d.what ≡ what.Timer Source t →
    is_idle p.line && (is_waiting p.sink_waits || is_waiting p.plug_waits) ≡ false →
    source.acts_of p.source.settings d.time (told.Ended t) given p.source.record ≡ act.DropWaiting ∷ [] →
    q ≡ polled d t given p → begun q None ≡ portstep p d given
unfolding portstep
polled_is p q d t given e rest acts is =
    ap (λ (x : PortParts). begun x None) is
    ∙ sym (nothing_starts d t given p rest)
    ∙ ap (line_starts d.time) (sym (source_polls d t given p acts))
    ∙ ap (λ (x : What). line_starts d.time (happens x d.time (begun p given))) (sym e)

abbrev listed : List Fault → ArrayVec Fault
listed faults = record { items = faults }

-- and nothing is noted
pub polled_entry : (e : Entry) (u : PortStep) (q : PortParts) (faults : ArrayVec Fault) → faults.items ≡ [] → begun q None ≡ u →
    record e { faults = faults; start = None } ≡ record e { faults = u.faults; start = u.start }
polled_entry e u q faults none is =
    ap (λ (xs : List Fault). record e { faults = listed xs; start = None }) none
    ∙ ap (λ (x : PortStep). record e { faults = x.faults; start = x.start }) is
