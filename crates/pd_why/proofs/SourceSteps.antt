-- What a step of the source's engine does to the Source_Capabilities that wait: they are of the offer that is being made.
use Rattle.std.proofs.Common.{◌≡◌, ℕ, ◌%◌, ◌^◌, true, List, [], ◌∷◌, Option, refl, sym, ap, ◌∙◌, subst, arith}
use Rattle.pd_header.specs.Kinds.{number_of}
use Rattle.pd_header.specs.declared.kind.Kind.TheVariants.{SourceCapabilities}
use Rattle.pd_objects.specs.declared.query.Answer.{Answer}
use Rattle.pd_source.specs.declared.kinds.State.{State}
use Rattle.pd_source.specs.declared.kinds.State.TheVariants as state
use Rattle.pd_source.specs.declared.kinds.Stimulus.{Stimulus}
use Rattle.pd_source.specs.declared.kinds.Sending.TheVariants as sending
use Rattle.pd_source.specs.declared.kinds.Act.{Act}
use Rattle.pd_source.specs.declared.kinds.Act.TheVariants as act
use Rattle.pd_source.specs.Acts.{capabilities}
use Rattle.pd_source.specs.Record.{SourceSettings, SourceRecord}
use Rattle.pd_source.specs.Step.{stepped, acts_of}
use Rattle.pd_source.proofs.Offering.{Left, Untouched, Capabilities, Another, Offers, is_offering, left_by, offers-stepped}
use Rattle.pd_line.specs.declared.port_parts.Waiting.{Waiting}
use Rattle.pd_line.specs.declared.port_parts.Waiting.TheVariants as waits
use Rattle.pd_line.specs.Told.{source_message}
use Rattle.pd_why.specs.Facts.{offers_in}

-- what waits, where it is Source_Capabilities, has the objects of the offer that is being made
abbrev pub IsOffered : SourceSettings → SourceRecord → Waiting → Type 0
IsOffered s r waits.Nothing = Unit {0}
IsOffered s r (waits.Message m) =
    m.kind % 2 ^ 5 ≡ number_of SourceCapabilities →
    (offers_in r.state ≡ true) × (m.objects ≡ capabilities s.unconstrained s.supplies r.draft_offer)
IsOffered s r waits.HardReset = Unit {0}

-- what waits on the source after its acts
abbrev pub source_left : List Act → Waiting → Waiting
source_left [] w = w
source_left (act.DropWaiting ∷ acts) w = source_left acts waits.Nothing
source_left (act.Send s ∷ acts) w = source_left acts (waits.Message (source_message s))
source_left (act.SendHardReset ∷ acts) w = source_left acts waits.HardReset
source_left (a ∷ acts) w = source_left acts w

pub offering_is : (t : State) → is_offering t ≡ offers_in t
offering_is state.SendCapabilities = refl
offering_is t = refl

-- what waits, as far as Source_Capabilities are told from all else
Waits : Waiting → Left → Waiting → Type 0
Waits before Untouched w = w ≡ before
Waits before (Capabilities objects) w = w ≡ waits.Message (source_message (sending.SourceCapabilities (record { items = objects })))
Waits before Another waits.Nothing = Unit {0}
Waits before Another (waits.Message m) = m.kind % 2 ^ 5 ≡ number_of SourceCapabilities → ⊥
Waits before Another waits.HardReset = Unit {0}

left_waits : (before : Waiting) (acts : List Act) (l : Left) (w : Waiting) → Waits before l w →
    Waits before (left_by acts l) (source_left acts w)
unfolding Waits
left_waits before [] l w h = h
left_waits before (act.DropWaiting ∷ acts) l w h = left_waits before acts Another waits.Nothing tt
left_waits before (act.Send (sending.SourceCapabilities objects) ∷ acts) l w h =
    left_waits before acts (Capabilities objects.items) (waits.Message (source_message (sending.SourceCapabilities objects))) refl
left_waits before (act.Send sending.DiscoverIdentity ∷ acts) l w h =
    left_waits before acts Another (waits.Message (source_message sending.DiscoverIdentity)) (λ e. let f : 15 ≡ 1 = e in omega arith)
left_waits before (act.Send sending.Accept ∷ acts) l w h =
    left_waits before acts Another (waits.Message (source_message sending.Accept)) (λ e. let f : 3 ≡ 1 = e in omega arith)
left_waits before (act.Send sending.Reject ∷ acts) l w h =
    left_waits before acts Another (waits.Message (source_message sending.Reject)) (λ e. let f : 4 ≡ 1 = e in omega arith)
left_waits before (act.Send sending.Wait ∷ acts) l w h =
    left_waits before acts Another (waits.Message (source_message sending.Wait)) (λ e. let f : 12 ≡ 1 = e in omega arith)
left_waits before (act.Send sending.PsRdy ∷ acts) l w h =
    left_waits before acts Another (waits.Message (source_message sending.PsRdy)) (λ e. let f : 6 ≡ 1 = e in omega arith)
left_waits before (act.Send sending.GetSinkCap ∷ acts) l w h =
    left_waits before acts Another (waits.Message (source_message sending.GetSinkCap)) (λ e. let f : 8 ≡ 1 = e in omega arith)
left_waits before (act.Send sending.SoftReset ∷ acts) l w h =
    left_waits before acts Another (waits.Message (source_message sending.SoftReset)) (λ e. let f : 13 ≡ 1 = e in omega arith)
left_waits before (act.SendHardReset ∷ acts) l w h = left_waits before acts Another waits.HardReset tt
left_waits before (a ∷ acts) l w h = left_waits before acts l w h

-- where the source is in the same state and makes the same offer, what waits is still of it
same_offered : (s : SourceSettings) (old new : SourceRecord) (w : Waiting) → new.state ≡ old.state → new.draft_offer ≡ old.draft_offer →
    IsOffered s old w → IsOffered s new w
same_offered s old new waits.Nothing e f h = tt
same_offered s old new (waits.Message m) e f h =
    λ k. let g = h k in (ap offers_in e ∙ g.0, g.1 ∙ ap (capabilities s.unconstrained s.supplies) (sym f))
same_offered s old new waits.HardReset e f h = tt

by_left : (s : SourceSettings) (old new : SourceRecord) (before w : Waiting) (l : Left) → Offers s old new l → Waits before l w →
    IsOffered s old before → IsOffered s new w
unfolding Waits
by_left s old new before w Untouched o e h = subst (IsOffered s new) (sym e) (same_offered s old new before o.0 o.1 h)
by_left s old new before w (Capabilities objects) o e h =
    subst (IsOffered s new) (sym e) (λ k. (sym (offering_is new.state) ∙ o.0, o.1))
by_left s old new before waits.Nothing Another o e h = tt
by_left s old new before (waits.Message m) Another o e h = λ k. absurd (e k)
by_left s old new before waits.HardReset Another o e h = tt

pub source_offers : (s : SourceSettings) (now : ℕ) (x : Stimulus) (a : Option Answer) (r : SourceRecord) (w : Waiting) → IsOffered s r w →
    IsOffered s (stepped s now x a r) (source_left (acts_of s now x a r) w)
unfolding Waits
source_offers s now x a r w h =
    let acts = acts_of s now x a r in
    by_left s r (stepped s now x a r) w (source_left acts w) (left_by acts Untouched) (offers-stepped s now x a r)
    (left_waits w acts Untouched w refl) h
