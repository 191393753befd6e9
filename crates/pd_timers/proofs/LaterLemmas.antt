-- What starting and stopping timers does to the deadlines that run.
use Rattle.std.proofs.Common.{◌≡◌, ℕ, ◌+◌, ◌<◌, ◌⊎◌, inl, inr, zero, suc, List, [], ◌∷◌, Option, Some, None, get_or, set, refl, arith}
use Rattle.pd_timers.specs.declared.Timer.{Timer}
use Rattle.pd_timers.specs.declared.Timer.TheVariants.{Delay}
use Rattle.pd_timers.specs.Timers.{place, value_of}
use Rattle.pd_timers.specs.Deadlines.{deadline, started, stopped, idle, SetsLater}

-- a deadline after one was written is an old one or the one that was written
set-later : (now : ℕ) (d : List (Option ℕ)) (i j v at : ℕ) → now < v → get_or (set d i (Some v)) j None ≡ Some at
    → (get_or d j None ≡ Some at) ⊎ (now < at)
set-later now [] i j v at lt h = inl h
set-later now (x ∷ xs) zero zero v at lt h = let e : v ≡ at = cc in inr (omega arith)
set-later now (x ∷ xs) zero (suc j) v at lt h = inl h
set-later now (x ∷ xs) (suc i) zero v at lt h = inl h
set-later now (x ∷ xs) (suc i) (suc j) v at lt h = set-later now xs i j v at lt h

value_of-positive : (t : Timer) → 0 < value_of t
value_of-positive Delay = omega arith
value_of-positive _ = omega arith

pub deadline-idle : (t : Timer) → deadline idle t ≡ None
deadline-idle Delay = refl
deadline-idle _ = refl

-- starting a timer sets no deadline that isn't later
pub SetsLater-started : (now : ℕ) (d : List (Option ℕ)) (t : Timer) → SetsLater now d (started d now t)
unfolding started
SetsLater-started now d t u at h =
    let p = value_of-positive t in
    set-later now d (place t) (place u) (now + value_of t) at (omega arith) h

pub SetsLater-idle : (now : ℕ) (d : List (Option ℕ)) → SetsLater now d idle
SetsLater-idle now d u at h = let n = deadline-idle u in cc

pub SetsLater-same : (now : ℕ) (d : List (Option ℕ)) → SetsLater now d d
SetsLater-same now d u at h = inl h

pub SetsLater-then : (now : ℕ) (a b c : List (Option ℕ)) → SetsLater now a b → SetsLater now b c → SetsLater now a c
SetsLater-then now a b c p q t at h = elim (q t at h) [ inl g ↦ p t at g | inr l ↦ inr l ]

set-none : (d : List (Option ℕ)) (i j at : ℕ) → get_or (set d i None) j None ≡ Some at → get_or d j None ≡ Some at
set-none [] i j at h = h
set-none (x ∷ xs) zero zero at h = cc
set-none (x ∷ xs) zero (suc j) at h = h
set-none (x ∷ xs) (suc i) zero at h = h
set-none (x ∷ xs) (suc i) (suc j) at h = set-none xs i j at h

pub SetsLater-stopped : (now : ℕ) (d : List (Option ℕ)) (t : Timer) → SetsLater now d (stopped d t)
unfolding stopped
SetsLater-stopped now d t u at h = inl (set-none d (place t) (place u) at h)
