-- Packets that are lost in one run.
use Rattle.std.specs.Prelude.{ℕ, ◌==◌, ◌&&◌, ◌||◌, nat_lt, Bool, true, false, List, [], ◌∷◌, fold, map}
use Rattle.std.specs.List.{AllByRecursion, filter}
use Rattle.pd_port.specs.declared.entry.Entry.{Entry}
use Rattle.pd_scenario.specs.Plan.{Plan}
use Rattle.pd_sweep.specs.Choices.{chosen}
use Rattle.pd_sweep.specs.Lost.{IsOfRun, lost}
use Rattle.pd_sweep.specs.declared.choice.Campaign.{Campaign}
use Rattle.pd_sweep.specs.declared.packets.Target.{Target}
use Rattle.pd_sweep.specs.declared.sets.Packets.{Packets}
use Rattle.pd_sweep.specs.declared.sets.Packets.TheVariants.{One, Two, Three}

-- them, in the order in which they start
abbrev pub members : Packets → List Target
members (One a) = a ∷ []
members (Two a b) = a ∷ (b ∷ [])
members (Three a b c) = a ∷ (b ∷ (c ∷ []))

abbrev pub first_of : Packets → Target
first_of (One a) = a
first_of (Two a b) = a
first_of (Three a b c) = a

abbrev pub last_of : Packets → Target
last_of (One a) = a
last_of (Two a b) = b
last_of (Three a b c) = c

-- how many they are
abbrev pub count_of : Packets → ℕ
count_of (One a) = 1
count_of (Two a b) = 2
count_of (Three a b c) = 3

-- them and one that starts behind them; three have none
abbrev pub with_one : Packets → Target → Packets
with_one (One a) t = Two a t
with_one (Two a b) t = Three a b t
with_one (Three a b c) t = Three a b c

-- the plan in which a packet is lost as well
abbrev pub lost_too : Campaign → Plan → Target → Plan
lost_too campaign plan t = lost plan campaign.loss campaign.behind t

-- the plan in which packets are lost: one after another
abbrev pub losing : Plan → Campaign → List Target → Plan
losing plan campaign ts = fold (lost_too campaign) plan ts

-- a packet starts behind another: later, or at the same time on a port of a higher number
abbrev pub is_behind : Target → Target → Bool
is_behind t other = nat_lt t.at other.at || (t.at == other.at && nat_lt t.port other.port)

-- the sets that have one packet more than some, of those that are chosen of the run in which these are lost, and behind them
abbrev pub further : Campaign → Packets → List (ℕ × Entry) → List Packets
further campaign ps moves = map (with_one ps) (filter (is_behind (last_of ps)) (chosen campaign.choice moves))

-- some wait
abbrev pub are_any : List Packets → Bool
are_any [] = false
are_any (ps ∷ others) = true

-- packets of a run of n ports
abbrev pub AreOfRun : ℕ → Packets → Type 0
AreOfRun n ps = AllByRecursion (IsOfRun n) (members ps)
