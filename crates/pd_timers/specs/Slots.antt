-- How the deadlines stand in memory: a slot of 32 bits for each timer, in the order of ties.
use Rattle.std.specs.Prelude.{◌≡◌, ℕ, ◌==◌, Bool, true, false, if◌then◌else◌, List, [], ◌∷◌, Option, Some, None, map, nat_eq}
use Rattle.std.proofs.Common.{ap, refl, sym, ◌∙◌}
use Rattle.std.proofs.lemmas.Bool.{eqb-true}
use Rattle.pd_timers.specs.declared.Timer.{Timer}
use Rattle.pd_timers.specs.declared.Timer.TheVariants.{Delay}

-- a slot's time, or none where its timer isn't running
abbrev pub time_of : ℕ → Option ℕ
time_of at = if at == 4294967295 then None else Some at

abbrev pub times_of : List ℕ → List (Option ℕ)
times_of slots = map time_of slots

-- the first deadline as it stands beside the slots
abbrev pub told : ℕ → Timer → Option (ℕ × Timer)
told at t = if at == 4294967295 then None else Some (at, t)

-- where no timer is running, Delay stands beside the slots
abbrev pub IsPlain : ℕ → Timer → Type 0
IsPlain at t = at ≡ 4294967295 → t ≡ Delay

-- What is told gives back what stands in memory.
abbrev pub slot_of : Option ℕ → ℕ
slot_of (Some at) = at
slot_of None = 4294967295

abbrev pub slots_of : List (Option ℕ) → List ℕ
slots_of times = map slot_of times

abbrev pub first_time : Option (ℕ × Timer) → ℕ
first_time (Some r) = r.0
first_time None = 4294967295

abbrev pub first_timer : Option (ℕ × Timer) → Timer
first_timer (Some r) = r.1
first_timer None = Delay

slot_of_time : (n : ℕ) (b : Bool) → nat_eq n 4294967295 ≡ b → slot_of (if b then None else Some n) ≡ n
slot_of_time n true e = sym (eqb-true n 4294967295 e)
slot_of_time n false e = refl

pub slot_of_time_of : (at : ℕ) → slot_of (time_of at) ≡ at
slot_of_time_of at = slot_of_time at (nat_eq at 4294967295) refl

pub slots_of_times : (slots : List ℕ) → slots_of (times_of slots) ≡ slots
slots_of_times [] = refl
slots_of_times (n ∷ slots) =
    let first = slot_of_time_of n in
    let rest = slots_of_times slots in
    cc

time_back : (at : ℕ) (t : Timer) (b : Bool) → nat_eq at 4294967295 ≡ b → first_time (if b then None else Some (at, t)) ≡ at
time_back at t true e = sym (eqb-true at 4294967295 e)
time_back at t false e = refl

pub time_of_told : (at : ℕ) (t : Timer) (first : Option (ℕ × Timer)) → told at t ≡ first → first_time first ≡ at
time_of_told at t first h = ap first_time (sym h) ∙ time_back at t (nat_eq at 4294967295) refl

timer_back : (at : ℕ) (t : Timer) (b : Bool) → nat_eq at 4294967295 ≡ b → IsPlain at t
    → first_timer (if b then None else Some (at, t)) ≡ t
timer_back at t true e plain = sym (plain (eqb-true at 4294967295 e))
timer_back at t false e plain = refl

pub timer_of_told : (at : ℕ) (t : Timer) (first : Option (ℕ × Timer)) → told at t ≡ first → IsPlain at t → first_timer first ≡ t
timer_of_told at t first h plain = ap first_timer (sym h) ∙ timer_back at t (nat_eq at 4294967295) refl plain
