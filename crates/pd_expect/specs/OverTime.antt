-- Expectations of a contract over a time: where it is first broken.
use Rattle.std.specs.Prelude.{◌≡◌, ℕ, ◌*◌, ◌<◌, ◌≤◌, ◌&&◌, nat_le, Bool, true, false, List, Option, Some, None}
use Rattle.std.specs.List.{AllByRecursion, filter_map, last_or}
use Rattle.pd_objects.specs.declared.contract.Contract.{Contract}
use Rattle.pd_port.specs.declared.entry.Entry.{Entry}
use Rattle.pd_report.specs.Margins.{change_on, up_to}
use Rattle.pd_sweep.specs.Summaries.{left_by}
use Rattle.pd_expect.specs.Lines.{is_within}
use Rattle.pd_expect.specs.declared.over_time.Break.{Break}
use Rattle.pd_expect.specs.declared.lines.Wanted.{Wanted}
use Rattle.pd_expect.specs.declared.lines.Wanted.TheVariants.{Such, Nothing}

abbrev pub Moves : Type 0
Moves = List (ℕ × Entry)

-- the contract of a port at the end of an instant, the ports being numbered from 1: what the last change of it up to then has left
abbrev pub contract_at : ℕ → ℕ → Moves → Option Contract
contract_at port at moves = left_by None (last_or None (filter_map (change_on port) (up_to at moves)))

-- millivolts times milliamperes are microwatts
abbrev pub is_wanted : Wanted → Option Contract → Bool
is_wanted (Such voltage current least) None = false
is_wanted (Such voltage current least) (Some c) =
    is_within voltage c.mv && is_within current c.ma && nat_le least (c.mv * c.ma)
is_wanted Nothing None = true
is_wanted Nothing (Some c) = false

-- the port's contract is as wanted at the end of the instant
abbrev pub Holds : ℕ → Wanted → Moves → ℕ → Type 0
Holds port wanted moves t = is_wanted wanted (contract_at port t moves) ≡ true

-- the first instant of these at whose end the contract isn't as wanted, and the contract there
pub record IsFirst (port : ℕ) (wanted : Wanted) (moves : Moves) (from to : ℕ) (broken : Break) : Type 0 where
  pub after_start : from ≤ broken.at
  pub before_end : broken.at ≤ to
  pub stands_is : broken.stands ≡ contract_at port broken.at moves
  pub other : is_wanted wanted broken.stands ≡ false
  pub held : (t : ℕ) → from ≤ t → t < broken.at → Holds port wanted moves t

-- from one instant to another the contract is as wanted at the end of each; or this is the first at which it isn't
abbrev pub IsFirstBreak : ℕ → Wanted → Moves → ℕ → ℕ → Option Break → Type 0
IsFirstBreak port wanted moves from to None = (t : ℕ) → from ≤ t → t ≤ to → Holds port wanted moves t
IsFirstBreak port wanted moves from to (Some broken) = IsFirst port wanted moves from to broken

-- none of these times is after an instant; or this is the soonest that is
abbrev pub IsSoonest : List ℕ → ℕ → Option ℕ → Type 0
IsSoonest times to None = AllByRecursion (λ u. u ≤ to) times
IsSoonest times to (Some at) = (to < at) × AllByRecursion (λ u. to < u → at ≤ u) times
