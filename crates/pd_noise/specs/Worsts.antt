-- Which of some runs is the worst.
use Rattle.std.specs.Prelude.{ℕ, ◌+◌, ◌==◌, ◌&&◌, ◌||◌, nat_lt, Bool, List, [], ◌∷◌, if◌then◌else◌, Option, Some, None}
use Rattle.pd_sweep.specs.declared.measure.Measure.{Measure}
use Rattle.pd_noise.specs.declared.noisy.Noisy.{Noisy}
use Rattle.pd_noise.specs.declared.worst.Longest.{Longest}
use Rattle.pd_noise.specs.declared.worst.Worst.{Worst}

-- the longer of two, and the first where both are as long
abbrev pub longer : Longest → ℕ → Measure → Longest
longer best port m = if nat_lt best.us m.less then record { port = port; us = m.less } else best

-- on which port power is less for longest, these being the measures of the ports from one on
abbrev pub longest_from : ℕ → Longest → List Measure → Longest
longest_from port best [] = best
longest_from port best (m ∷ ms) = longest_from (port + 1) (longer best port m) ms

-- port 0 where it is less on none
abbrev pub longest : Noisy → Longest
longest x = longest_from 1 (record { port = 0; us = 0 }) x.effect.measures

abbrev pub hard_resets : Noisy → ℕ
hard_resets x = x.effect.findings.summary.mishaps.hard_resets

abbrev pub least_left : Noisy → ℕ
least_left x = x.effect.findings.margin.left

-- the first is worse: less power for longer on a port, or else more Hard Resets, or else less of the budget left
abbrev pub is_worse : Noisy → Noisy → Bool
is_worse a b =
    nat_lt (longest b).us (longest a).us
    || ((longest a).us == (longest b).us && (nat_lt (hard_resets b) (hard_resets a)
    || (hard_resets a == hard_resets b && nat_lt (least_left a) (least_left b))))

abbrev pub worse : Option Worst → ℕ → Noisy → Option Worst
worse None run x = Some (record { run = run; noisy = x })
worse (Some w) run x = if is_worse x w.noisy then Some (record { run = run; noisy = x }) else Some w

-- the first of the worst runs, these being the runs from a number on
abbrev pub worst_from : ℕ → Option Worst → List Noisy → Option Worst
worst_from run best [] = best
worst_from run best (x ∷ xs) = worst_from (run + 1) (worse best run x) xs
