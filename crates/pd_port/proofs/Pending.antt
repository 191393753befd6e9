-- How many deadlines are pending.
use Rattle.std.proofs.Common.{◌≡◌, ◌⊎◌, ℕ, ◌<◌, ◌≤◌, zero, suc, length, List, [], ◌∷◌, Option, Some, None, refl, sym, inl, inr}
use Rattle.std.proofs.Common.{get_or, set, arith}
use Rattle.std.proofs.lemmas.Bool.Decides.{nat_tests}
use Rattle.pd_timers.specs.declared.Timer.{Timer}
use Rattle.pd_timers.specs.declared.Timer.TheVariants.{Delay, SenderResponse, VdmResponse, SourceCapability, SinkWaitCap}
use Rattle.pd_timers.specs.declared.Timer.TheVariants.{DiscoverIdentity, SrcTransition, Settling, PsTransition, PsHardReset}
use Rattle.pd_timers.specs.declared.Timer.TheVariants.{SrcRecover, TurnOn, SinkRequest, OfferPoll}
use Rattle.pd_timers.specs.Timers.{place}
use Rattle.pd_timers.specs.Deadlines.{timers, deadline, stopped, SetsLater}
use Rattle.pd_line.specs.Later.{Times, KeptOrLater, Later}
use Rattle.pd_port.specs.Laws.{one_by, ending, pending_at}

one_by_few : (o : Option ℕ) (t : ℕ) → one_by o t ≤ 1
one_by_few None t = omega arith
one_by_few (Some at) t = grind (arith, nat_tests)

one_by_now : (t : ℕ) → one_by (Some t) t ≡ 1
one_by_now t = grind (arith, nat_tests)

one_by_later : (t at : ℕ) → t < at → one_by (Some at) t ≡ 0
one_by_later t at h = grind (arith, nat_tests)

one_by_falls : (t : ℕ) (old new : Option ℕ) → KeptOrLater t old new → one_by new t ≤ one_by old t
one_by_falls t old None h = omega arith
one_by_falls t old (Some at) h =
    elim (h at refl) [ inl e ↦ rw e (omega arith) | inr l ↦ rw (one_by_later t at l) (omega arith) ]

ending_few : (us : List Timer) (d : List (Option ℕ)) (t : ℕ) → ending us d t ≤ length us
ending_few [] d t = omega arith
ending_few (u ∷ us) d t =
    let a = one_by_few (deadline d u) t in
    let b = ending_few us d t in
    omega arith

ending_falls : (us : List Timer) (t : ℕ) (old new : List (Option ℕ)) → SetsLater t old new → ending us new t ≤ ending us old t
ending_falls [] t old new h = omega arith
ending_falls (u ∷ us) t old new h =
    let a = one_by_falls t (deadline old u) (deadline new u) (λ at e. h u at e) in
    let b = ending_falls us t old new h in
    omega arith

-- a stopped timer doesn't run, and the others run as before
set-None : (d : List (Option ℕ)) (i j at : ℕ) → get_or (set d i None) j None ≡ Some at → get_or d j None ≡ Some at
set-None [] i j at h = h
set-None (x ∷ xs) zero zero at h = cc
set-None (x ∷ xs) zero (suc j) at h = h
set-None (x ∷ xs) (suc i) zero at h = h
set-None (x ∷ xs) (suc i) (suc j) at h = set-None xs i j at h

set-None-there : (d : List (Option ℕ)) (i : ℕ) → get_or (set d i None) i None ≡ None
set-None-there [] i = refl
set-None-there (x ∷ xs) zero = refl
set-None-there (x ∷ xs) (suc i) = set-None-there xs i

pub stopped-runs : (d : List (Option ℕ)) (timer u : Timer) (at : ℕ) → deadline (stopped d timer) u ≡ Some at → deadline d u ≡ Some at
unfolding stopped
stopped-runs d timer u at h = set-None d (place timer) (place u) at h

stopped-there : (d : List (Option ℕ)) (timer : Timer) → deadline (stopped d timer) timer ≡ None
unfolding stopped
stopped-there d timer = set-None-there d (place timer)

pub stopped-later : (t : ℕ) (d : List (Option ℕ)) (timer : Timer) → SetsLater t d (stopped d timer)
stopped-later t d timer = λ u at h. inl (stopped-runs d timer u at h)

-- a timer among these
Among : Timer → List Timer → Type 0
Among u [] = ⊥
Among u (v ∷ vs) = (v ≡ u) ⊎ Among u vs

ending_stops : (us : List Timer) (t : ℕ) (d : List (Option ℕ)) (timer : Timer) → deadline d timer ≡ Some t → Among timer us →
    ending us (stopped d timer) t < ending us d t
unfolding Among
ending_stops [] t d timer e h = absurd h
ending_stops (u ∷ us) t d timer e (inl same) =
    let a : one_by (deadline (stopped d u) u) t ≡ 0 = rw (stopped-there d u) refl in
    let f : deadline d u ≡ Some t = rw same e in
    let b : one_by (deadline d u) t ≡ 1 = rw f (one_by_now t) in
    let c = ending_falls us t d (stopped d timer) (stopped-later t d timer) in
    let g : one_by (deadline (stopped d timer) u) t ≡ 0 = rw (sym same) a in
    omega arith
ending_stops (u ∷ us) t d timer e (inr h) =
    let a = ending_stops us t d timer e h in
    let b = one_by_falls t (deadline d u) (deadline (stopped d timer) u) (λ at k. inl (stopped-runs d timer u at k)) in
    omega arith

among : (u : Timer) → Among u timers
unfolding Among
among Delay = inl refl
among SenderResponse = inr (inl refl)
among VdmResponse = inr (inr (inl refl))
among SourceCapability = inr (inr (inr (inl refl)))
among SinkWaitCap = inr (inr (inr (inr (inl refl))))
among DiscoverIdentity = inr (inr (inr (inr (inr (inl refl)))))
among SrcTransition = inr (inr (inr (inr (inr (inr (inl refl))))))
among Settling = inr (inr (inr (inr (inr (inr (inr (inl refl)))))))
among PsTransition = inr (inr (inr (inr (inr (inr (inr (inr (inl refl))))))))
among PsHardReset = inr (inr (inr (inr (inr (inr (inr (inr (inr (inl refl)))))))))
among SrcRecover = inr (inr (inr (inr (inr (inr (inr (inr (inr (inr (inl refl))))))))))
among TurnOn = inr (inr (inr (inr (inr (inr (inr (inr (inr (inr (inr (inl refl)))))))))))
among SinkRequest = inr (inr (inr (inr (inr (inr (inr (inr (inr (inr (inr (inr (inl refl))))))))))))
among OfferPoll = inr (inr (inr (inr (inr (inr (inr (inr (inr (inr (inr (inr (inr (inl refl)))))))))))))

pub ending-stopped : (t : ℕ) (d : List (Option ℕ)) (timer : Timer) → deadline d timer ≡ Some t →
    ending timers (stopped d timer) t < ending timers d t
ending-stopped t d timer e = ending_stops timers t d timer e (among timer)

pub pending_at-few : (a : Times) (t : ℕ) → pending_at a t ≤ 64
unfolding pending_at
pending_at-few a t =
    let n = one_by_few a.line t in
    let source = ending_few timers a.source t in
    let sink = ending_few timers a.sink t in
    let plug = ending_few timers a.plug t in
    omega arith

pub pending_at-falls : (t : ℕ) (a b : Times) → Later t a b → pending_at b t ≤ pending_at a t
unfolding pending_at
pending_at-falls t a b h =
    let n = one_by_falls t a.line b.line h.line in
    let source = ending_falls timers t a.source b.source h.source in
    let sink = ending_falls timers t a.sink b.sink h.sink in
    let plug = ending_falls timers t a.plug b.plug h.plug in
    omega arith

pub pending_at-line : (t : ℕ) (a : Times) → a.line ≡ Some t → pending_at (record a { line = None }) t < pending_at a t
unfolding pending_at
pending_at-line t a e = let n : one_by a.line t ≡ 1 = rw e (one_by_now t) in omega arith

pub pending_at-source : (t : ℕ) (a : Times) (timer : Timer) → deadline a.source timer ≡ Some t →
    pending_at (record a { source = stopped a.source timer }) t < pending_at a t
unfolding pending_at
pending_at-source t a timer e = let n = ending-stopped t a.source timer e in omega arith

pub pending_at-sink : (t : ℕ) (a : Times) (timer : Timer) → deadline a.sink timer ≡ Some t →
    pending_at (record a { sink = stopped a.sink timer }) t < pending_at a t
unfolding pending_at
pending_at-sink t a timer e = let n = ending-stopped t a.sink timer e in omega arith

pub pending_at-plug : (t : ℕ) (a : Times) (timer : Timer) → deadline a.plug timer ≡ Some t →
    pending_at (record a { plug = stopped a.plug timer }) t < pending_at a t
unfolding pending_at
pending_at-plug t a timer e = let n = ending-stopped t a.plug timer e in omega arith
