-- Refusal 11 is told exactly where it applies to a file whose ports are counted.
use Rattle.std.proofs.Common.{◌≡◌, ℕ, Bool, true, false, ◌||◌, ◌==◌, List, [], codes, length, refl, ap, subst, arith}
use Rattle.std.specs.Prelude.{nat_lt}
use Rattle.std.proofs.lemmas.Bool.Decides.{nat_tests}
use Rattle.std.proofs.lemmas.List.{length-map}
use Rattle.pd_misfits.specs.Spots.{SpotData}
use Rattle.pd_scenario_tables.specs.Convert.{settings_of, cable_of, sink_of, event_of}
use Rattle.pd_scenario_text.specs.FileTables.{Tables, scenario_of}
use Rattle.pd_scenario_text.specs.Refusals.{exceed_limits, exceeds_limit}
use Rattle.pd_places.specs.Counts.{count_sentence, count_part, counts_text}
use Rattle.pd_places.specs.First.{Begins}
use Rattle.pd_places.proofs.Told.{Told, begins_of, begins_on, or_told, if_told}

none_below : (n : ℕ) → nat_lt n 0 ≡ false
none_below n = grind (arith, nat_tests)

own : (n : ℕ) → (n == n) ≡ true
own n = grind (arith, nat_tests)

ports_told : (spot : SpotData) (n : ℕ) → Told spot (nat_lt n 1 || nat_lt 8 n) (count_part spot (codes "ports") 1 8 n)
ports_told spot n = if_told spot (nat_lt n 1 || nat_lt 8 n) [] (count_sentence (codes "ports") 1 8 n) []

most_told : (spot : SpotData) (noun : List ℕ) (most n : ℕ) → Told spot (nat_lt most n) (count_part spot noun 0 most n)
most_told spot noun most n =
    subst (λ b. Told spot b (count_part spot noun 0 most n)) (ap (λ b. b || nat_lt most n) (none_below n))
    (if_told spot (nat_lt n 0 || nat_lt most n) [] (count_sentence noun 0 most n) [])

-- too many ports, or none
pub too_many_told : (spot : SpotData) (d : Tables) → (nat_lt (length d.ports) 1 || nat_lt 8 (length d.ports)) ≡ true
    → Begins spot (counts_text spot d)
unfolding counts_text
too_many_told spot d h =
    begins_on spot (count_part spot (codes "ports") 1 8 (length d.ports)) _
    (begins_of spot _ _ (ports_told spot (length d.ports)) h)

turned : (e c s : Bool) → (c || (s || e)) ≡ (e || (c || s))
turned true true s = refl
turned true false true = refl
turned true false false = refl
turned false true s = refl
turned false false true = refl
turned false false false = refl

limits_are : (d : Tables) → (nat_lt 64 (length d.cables) || (nat_lt 64 (length d.sinks) || nat_lt 4096 (length d.events)))
    ≡ exceeds_limit (length d.ports) (scenario_of d)
unfolding exceed_limits
limits_are d =
    rw (
      length-map d.ports settings_of,
      length-map d.cables cable_of,
      length-map d.sinks sink_of,
      length-map d.events (event_of d.version),
      own (length d.ports),
    )
    (turned (nat_lt 4096 (length d.events)) (nat_lt 64 (length d.cables)) (nat_lt 64 (length d.sinks)))

pub limits_told : (spot : SpotData) (d : Tables) → (nat_lt (length d.ports) 1 || nat_lt 8 (length d.ports)) ≡ false
    → Told spot (exceeds_limit (length d.ports) (scenario_of d)) (counts_text spot d)
unfolding counts_text
limits_told spot d few =
    let ports = subst (λ b. Told spot b (count_part spot (codes "ports") 1 8 (length d.ports))) few (ports_told spot (length d.ports)) in
    let cables = most_told spot (codes "cables") 64 (length d.cables) in
    let sinks = most_told spot (codes "sinks") 64 (length d.sinks) in
    let events = most_told spot (codes "events") 4096 (length d.events) in
    subst (λ b. Told spot b (counts_text spot d)) (limits_are d)
    (or_told spot false _ _ _ ports (or_told spot _ _ _ _ cables (or_told spot _ _ _ _ sinks events)))
