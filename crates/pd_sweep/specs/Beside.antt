-- Going along two lists of changes side by side.
use Rattle.std.specs.Prelude.{ℕ, ◌+◌, ◌-◌, ◌<◌, ◌≤◌, ◌==◌, ◌&&◌, nat_lt, nat_le, not, Bool, List, [], ◌∷◌, fold, map}
use Rattle.std.specs.Prelude.{if◌then◌else◌, Option, Some, None, slice_set, slice_index_or, replicate}
use Rattle.std.specs.List.{AllByRecursion, range_with_len}
use Rattle.pd_objects.specs.declared.contract.Contract.{Contract}
use Rattle.pd_sweep.specs.declared.measure.Measure.{Measure}
use Rattle.pd_sweep.specs.declared.measure.Step.{Step}
use Rattle.pd_sweep.specs.declared.beside.Ledger.{Ledger}
use Rattle.pd_sweep.specs.declared.beside.Whose.{Whose}
use Rattle.pd_sweep.specs.declared.beside.Whose.TheVariants.{Old, New}
use Rattle.pd_sweep.specs.Words.{is_same}
use Rattle.pd_sweep.specs.Measures.{measure_by, power_of}

-- ---- changes

-- no change is before a time
abbrev pub NoneBefore : ℕ → List Step → Type 0
NoneBefore at steps = AllByRecursion (λ s. at ≤ s.at) steps

-- each change is no later than those behind it
unfoldable pub AreRising : List Step → Type 0
AreRising [] = Unit {0}
AreRising (s ∷ ss) = NoneBefore s.at ss × AreRising ss

-- the changes are in the order of time, and before an end
pub record AreInOrder (end : ℕ) (steps : List Step) : Type 0 where
  pub rising : AreRising steps
  pub soon : AllByRecursion (λ s. s.at < end) steps

-- what a change up to an instant leaves of the contract of a port
abbrev pub stepped : ℕ → ℕ → Option Contract → Step → Option Contract
stepped port t stood s = if s.port == port && nat_le s.at t then s.left else stood

-- the contract of a port at the end of an instant
abbrev pub stands_at : List Step → ℕ → ℕ → Option Contract
stands_at steps port t = fold (stepped port t) None steps

-- the measures of eight ports
unfoldable pub measures_by : ℕ → List Step → List Step → List Measure
measures_by end olds news = map (λ port. measure_by end (stands_at olds port) (stands_at news port)) (range_with_len 0 8)

-- ---- one port

abbrev pub no_measure : Measure
no_measure = record { less = 0; more = 0; until = None }

abbrev pub nothing_yet : Ledger
nothing_yet = record { since = 0; old = None; new = None; measure = no_measure }

abbrev pub longer : Bool → ℕ → ℕ → ℕ → ℕ
longer is_so so_far from to = if is_so then so_far + (to - from) else so_far

-- after the instants from one up to another, in which these contracts stand
abbrev pub measured : Measure → Option Contract → Option Contract → ℕ → ℕ → Measure
measured m old new from to = record {
  less = longer (nat_lt (power_of new) (power_of old)) m.less from to;
  more = longer (nat_lt (power_of old) (power_of new)) m.more from to;
  until = (if nat_lt from to && not (is_same old new) then Some to else m.until);
}

abbrev pub closed : Ledger → ℕ → Measure
closed l at = measured l.measure l.old l.new l.since at

abbrev pub noted_old : Ledger → Step → Ledger
noted_old l s = record { since = s.at; old = s.left; new = l.new; measure = closed l s.at }

abbrev pub noted_new : Ledger → Step → Ledger
noted_new l s = record { since = s.at; old = l.old; new = s.left; measure = closed l s.at }

-- a ledger counts up to no later an instant, and at most the instants before
abbrev pub HasRoom : Ledger → ℕ → Type 0
HasRoom l at = (l.since ≤ at) × (l.measure.less ≤ l.since) × (l.measure.more ≤ l.since)

-- ---- eight ports

abbrev pub no_ledgers : List Ledger
no_ledgers = replicate 8 nothing_yet

-- after a change, of the one run or the other
abbrev pub noted : Whose → Ledger → Step → Ledger
noted Old l s = noted_old l s
noted New l s = noted_new l s

abbrev pub noted_ports : Whose → List Ledger → Step → List Ledger
noted_ports whose ledgers s = slice_set ledgers s.port (noted whose (slice_index_or ledgers s.port nothing_yet) s)

-- ---- which change comes next

-- the earlier of what comes next in each run, and the old run's where both come at once
abbrev pub next_of : Option Step → Option Step → Option (Whose × Step)
next_of None None = None
next_of (Some old) None = Some (Old, old)
next_of None (Some new) = Some (New, new)
next_of (Some old) (Some new) = if nat_le old.at new.at then Some (Old, old) else Some (New, new)
