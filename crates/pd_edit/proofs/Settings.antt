-- An edit of a port, the budget or the end that isn't refused leaves a valid scenario.
use Rattle.std.proofs.Common.{◌≡◌, ℕ, ◌+◌, ◌<◌, ◌≤◌, Bool, true, false, ◌&&◌, ◌==◌, cond, List, [], ◌∷◌, length, map, refl, ap, ◌∙◌, arith}
use Rattle.std.proofs.Common.{Some}
use Rattle.std.specs.Prelude.{All, nat_le, nat_lt, slice_get, option_map}
use Rattle.std.proofs.lemmas.Bool.{false≢true, and_parts}
use Rattle.std.proofs.lemmas.Bool.Decides.{nat_tests}
use Rattle.std.proofs.lemmas.List.{length-map}
use Rattle.std.proofs.lemmas.List.Elements.{All-nil, All-cons, All-head, All-tail}
use Rattle.std.proofs.lemmas.List.Sums.{sum_by-cons}
use Rattle.arrayvec.specs.ArrayVec.{ArrayVec}
use Rattle.pd_objects.specs.Supply.{SupplyData}
use Rattle.pd_setup.specs.Settings.{SettingsData, IsSettings, AreRising}
use Rattle.pd_scenario.specs.declared.limits.Quantity.TheVariants as quantity
use Rattle.pd_scenario.specs.Limits.{allows}
use Rattle.pd_scenario.specs.Scenarios.{ScenarioData, IsValid, floors_mw}
use Rattle.pd_edit_lines.specs.declared.edit.WrittenSupply.{WrittenSupply}
use Rattle.pd_edit_lines.specs.declared.edit.Edit.TheVariants.{Caps, Floor, Budget, End}
use Rattle.pd_edit.specs.Edits.{changed_from, changed_port, supply_of, AreSupplies, with_supplies, with_floor, outcome}
use Rattle.pd_edit.specs.Refusals.{IsAccepted, begin_at, voltages_rise, are_supplies}
use Rattle.pd_edit.proofs.Parts.{valid_settings, valid_budget, valid_end}

at_most : (a b : ℕ) → nat_le a b ≡ true → a ≤ b
at_most a b h = grind (arith, nat_tests)

-- ---- one port

length-changed : (first port : ℕ) (f : SettingsData → SettingsData) (ss : List SettingsData)
    → length (changed_from first port f ss) ≡ length ss
length-changed first port f [] = refl
length-changed first port f (s ∷ ss) = let rest = length-changed (first + 1) port f ss in omega (arith, rest)

one_kept : (b : Bool) (f : SettingsData → SettingsData) (s : SettingsData) → IsSettings (f s) → IsSettings s → IsSettings (cond b (f s) s)
one_kept true f s changed same = changed
one_kept false f s changed same = same

all_changed : (f : SettingsData → SettingsData) → ((s : SettingsData) → IsSettings s → IsSettings (f s))
    → (first port : ℕ) (ss : List SettingsData) → All IsSettings ss
    → All IsSettings (changed_from first port f ss)
all_changed f kept first port [] h = All-nil IsSettings
all_changed f kept first port (s ∷ ss) h =
    let here = All-head IsSettings s ss h in
    All-cons IsSettings (cond (first == port) (f s) s) (changed_from (first + 1) port f ss)
    (one_kept (first == port) f s (kept s here) here)
    (all_changed f kept (first + 1) port ss (All-tail IsSettings s ss h))

same_floor : (b : Bool) (f : SettingsData → SettingsData) (s : SettingsData) → (f s).floor_mw ≡ s.floor_mw
    → (cond b (f s) s).floor_mw ≡ s.floor_mw
same_floor true f s h = h
same_floor false f s h = refl

same_floors : (f : SettingsData → SettingsData) → ((s : SettingsData) → (f s).floor_mw ≡ s.floor_mw)
    → (first port : ℕ) (ss : List SettingsData)
    → floors_mw (changed_from first port f ss) ≡ floors_mw ss
same_floors f same first port [] = refl
same_floors f same first port (s ∷ ss) =
    let here = same_floor (first == port) f s (same s) in
    let rest = same_floors f same (first + 1) port ss in
    let left = sum_by-cons (λ (own : SettingsData). own.floor_mw) (cond (first == port) (f s) s) (changed_from (first + 1) port f ss) in
    let right = sum_by-cons (λ (own : SettingsData). own.floor_mw) s ss in
    omega (arith, here, rest, left, right)

-- ---- floors

floor_kept : (mw : ℕ) → allows quantity.Floor mw ≡ true → (s : SettingsData) → IsSettings s → IsSettings (with_floor mw s)
floor_kept mw range s h =
    let (least, most) = and_parts (nat_le 500 mw) (nat_le mw 100000) range in
    record {
      least_floor = at_most 500 mw least;
      most_floor = at_most mw 100000 most;
      some_supply = h.some_supply;
      few_supplies = h.few_supplies;
      first_supply = h.first_supply;
      rising = h.rising;
      most_tries = h.most_tries;
    }

pub valid_floor : (n : ℕ) (c : ScenarioData) (port mw : ℕ) → IsValid n c → IsAccepted n c (Floor port mw)
    → IsValid n (outcome c (Floor port mw))
valid_floor n c port mw v a =
    valid_settings n c (changed_port port (with_floor mw) c.settings) (length-changed 1 port (with_floor mw) c.settings ∙ v.settings_count)
    (all_changed (with_floor mw) (floor_kept mw a.in_range) 1 port c.settings v.settings_fit) (at_most _ _ a.funded) v

-- ---- supplies

equal : (m n : ℕ) → (m == n) ≡ true → m ≡ n
equal m n h = grind (arith, nat_tests)

less : (m n : ℕ) → nat_lt m n ≡ true → m < n
less m n h = grind (arith, nat_tests)

first_of : (mv : ℕ) (ws : List WrittenSupply) → begin_at mv ws ≡ true
    → option_map (λ (supply : SupplyData). supply.mv) (slice_get (map supply_of ws) 0) ≡ Some mv
first_of mv [] h = absurd (false≢true h)
first_of mv (w ∷ ws) h = ap (λ m. Some m) (equal w.mv mv h)

some_of : (mv : ℕ) (ws : List WrittenSupply) → begin_at mv ws ≡ true → 1 ≤ length (map supply_of ws)
some_of mv [] h = absurd (false≢true h)
some_of mv (w ∷ ws) h = omega arith

rising : (ws : List WrittenSupply) → voltages_rise ws ≡ true → AreRising (map supply_of ws)
rising [] h = tt
rising (w ∷ []) h = tt
rising (w ∷ u ∷ ws) h =
    let (here, more) = and_parts (nat_lt w.mv u.mv) (voltages_rise (u ∷ ws)) h in
    (less w.mv u.mv here, rising (u ∷ ws) more)

pub supplies_kept : (ws : List WrittenSupply) → are_supplies ws ≡ true → AreSupplies (map supply_of ws)
supplies_kept ws h =
    let (begins, few) = and_parts (begin_at 5000 ws && voltages_rise ws) (nat_le (length ws) 7) h in
    let (first, rise) = and_parts (begin_at 5000 ws) (voltages_rise ws) begins in
    let count = at_most (length ws) 7 few in
    record {
      some = some_of 5000 ws first;
      few = omega (arith, length-map ws supply_of, count);
      first = first_of 5000 ws first;
      rising = rising ws rise;
    }

caps_kept : (supplies : List SupplyData) → AreSupplies supplies → (s : SettingsData) → IsSettings s
    → IsSettings (record s { supplies = supplies })
caps_kept supplies are s h = record {
  least_floor = h.least_floor;
  most_floor = h.most_floor;
  some_supply = are.some;
  few_supplies = are.few;
  first_supply = are.first;
  rising = are.rising;
  most_tries = h.most_tries;
}

pub valid_caps : (n : ℕ) (c : ScenarioData) (port : ℕ) (supplies : ArrayVec WrittenSupply) → IsValid n c
    → IsAccepted n c (Caps port supplies) → IsValid n (outcome c (Caps port supplies))
valid_caps n c port supplies v a =
    let f : SettingsData → SettingsData = with_supplies supplies.items in
    valid_settings n c (changed_port port f c.settings) (length-changed 1 port f c.settings ∙ v.settings_count)
    (all_changed f (caps_kept (map supply_of supplies.items) (supplies_kept supplies.items a.supplies)) 1 port c.settings v.settings_fit)
    (rw (same_floors f (λ s. refl) 1 port c.settings) v.funded) v

-- ---- the budget and the end

pub valid_budget_edit : (n : ℕ) (c : ScenarioData) (mw : ℕ) → IsValid n c → IsAccepted n c (Budget mw) → IsValid n (outcome c (Budget mw))
valid_budget_edit n c mw v a = valid_budget n c mw a.in_range (at_most _ _ a.funded) v

pub valid_end_edit : (n : ℕ) (c : ScenarioData) (at : ℕ) → IsValid n c → IsAccepted n c (End at) → IsValid n (outcome c (End at))
valid_end_edit n c at v a = valid_end n c at a.in_range v
