-- Each refusal is told exactly where it applies.
use Rattle.std.proofs.Common.{◌≡◌, ◌⊎◌, ℕ, Bool, true, false, ◌||◌, List, [], ◌∷◌, length, refl, subst, inl, inr, Ok}
use Rattle.std.specs.Prelude.{nat_lt, All}
use Rattle.std.specs.List.{list_any}
use Rattle.std.proofs.lemmas.Bool.{or_parts}
use Rattle.std.proofs.lemmas.List.Elements.{All-nil, All-cons}
use Rattle.toml.specs.Data.{Members}
use Rattle.pd_scenario_tables.specs.declared.fault.ScenarioFault.{ScenarioFault}
use Rattle.pd_scenario_tables.specs.declared.fault.ScenarioFault.TheVariants.{UnknownKey, WrongType, MissingKey, Range, Name}
use Rattle.pd_scenario_tables.specs.declared.fault.ScenarioFault.TheVariants.{Duplicate, Supplies, Floors, UnknownName, Limit}
use Rattle.pd_scenario_tables.specs.Ports.{counted}
use Rattle.pd_scenario_text.specs.FileTables.{Tables, tables_of}
use Rattle.pd_scenario_text.specs.Refusals.{applies, refusals}
use Rattle.pd_scenario_text.proofs.Decided.{Clean}
use Rattle.pd_misfits.specs.Spots.{FileData, SpotData, file_spot}
use Rattle.pd_places.specs.Places.{refusal_text}
use Rattle.pd_places.specs.First.{Begins, IsToldOf, ArePlain, always_told}
use Rattle.pd_places.proofs.Told.{Told}
use Rattle.pd_places.proofs.TablesTold.{tables_told}
use Rattle.pd_places.proofs.SameTold.{duplicates_told}
use Rattle.pd_places.proofs.FundsTold.{funds_told}
use Rattle.pd_places.proofs.KnownTold.{known_told}
use Rattle.pd_places.proofs.LimitsTold.{limits_told}
use Rattle.pd_places.proofs.Counted.{counted_ports}
use Rattle.pd_places.proofs.LeastFirst.{few_ports}

either : (spot : SpotData) (b : Bool) (text : List ℕ) → Told spot b text
    → ((b ≡ true) × Begins spot text) ⊎ ((b ≡ false) × (text ≡ []))
either spot true text told = inl (refl, told)
either spot false text told = inr (refl, told)

one : (file : FileData) (d : Tables) (f : ScenarioFault)
    → Told (file_spot file f) (applies f (length d.ports) d) (refusal_text file f d) → IsToldOf file (length d.ports) d f
one file d f told = either (file_spot file f) (applies f (length d.ports) d) (refusal_text file f d) told

more : (file : FileData) (d : Tables) (f : ScenarioFault) (faults : List ScenarioFault)
    → Told (file_spot file f) (applies f (length d.ports) d) (refusal_text file f d)
    → All (IsToldOf file (length d.ports) d) faults → All (IsToldOf file (length d.ports) d) (f ∷ faults)
more file d f faults told others = All-cons (IsToldOf file (length d.ports) d) f faults (one file d f told) others

none : (file : FileData) (d : Tables) → All (IsToldOf file (length d.ports) d) []
none file d = All-nil (IsToldOf file (length d.ports) d)

-- the refusals up to the names, before others
tables_too : (file : FileData) (d : Tables) (faults : List ScenarioFault) → All (IsToldOf file (length d.ports) d) faults
    → All (IsToldOf file (length d.ports) d) (UnknownKey ∷ WrongType ∷ MissingKey ∷ Range ∷ Name ∷ faults)
tables_too file d faults others =
    let n = length d.ports in
    more file d UnknownKey (WrongType ∷ MissingKey ∷ Range ∷ Name ∷ faults) (tables_told (file_spot file UnknownKey) UnknownKey n d)
    (more file d WrongType (MissingKey ∷ Range ∷ Name ∷ faults) (tables_told (file_spot file WrongType) WrongType n d)
    (more file d MissingKey (Range ∷ Name ∷ faults) (tables_told (file_spot file MissingKey) MissingKey n d)
    (more file d Range (Name ∷ faults) (tables_told (file_spot file Range) Range n d)
    (more file d Name faults (tables_told (file_spot file Name) Name n d) others))))

abbrev Within : ℕ → Type 0
Within n = (nat_lt n 1 || nat_lt 8 n) ≡ false

always : (file : FileData) (d : Tables) → Within (length d.ports) → All (IsToldOf file (length d.ports) d) always_told
always file d within =
    tables_too file d (Supplies ∷ Limit ∷ [])
    (more file d Supplies (Limit ∷ []) (tables_told (file_spot file Supplies) Supplies (length d.ports) d)
    (more file d Limit [] (limits_told (file_spot file Limit) d within) (none file d)))

clean_of : (ports : ℕ) (d : Tables) → ArePlain ports d → Clean ports d
clean_of ports d plain =
    let p = λ (f : ScenarioFault). applies f ports d in
    let a = or_parts (p UnknownKey) (list_any p (WrongType ∷ MissingKey ∷ Range ∷ Name ∷ [])) plain in
    let b = or_parts (p WrongType) (list_any p (MissingKey ∷ Range ∷ Name ∷ [])) a.1 in
    let c = or_parts (p MissingKey) (list_any p (Range ∷ Name ∷ [])) b.1 in
    let e = or_parts (p Range) (list_any p (Name ∷ [])) c.1 in
    let f = or_parts (p Name) false e.1 in
    record { keys = a.0; types = b.0; complete = c.0; ranged = e.0; named = f.0 }

plainly : (file : FileData) (d : Tables) → Within (length d.ports) → Clean (length d.ports) d
    → All (IsToldOf file (length d.ports) d) refusals
plainly file d within clean =
    let n = length d.ports in
    let few = (or_parts (nat_lt n 1) (nat_lt 8 n) within).1 in
    tables_too file d (Duplicate ∷ Supplies ∷ Floors ∷ UnknownName ∷ Limit ∷ [])
    (more file d Duplicate (Supplies ∷ Floors ∷ UnknownName ∷ Limit ∷ [])
    (duplicates_told (file_spot file Duplicate) n d (few_ports n few) clean)
    (more file d Supplies (Floors ∷ UnknownName ∷ Limit ∷ []) (tables_told (file_spot file Supplies) Supplies n d)
    (more file d Floors (UnknownName ∷ Limit ∷ []) (funds_told (file_spot file Floors) n d few clean)
    (more file d UnknownName (Limit ∷ []) (known_told (file_spot file UnknownName) n d clean)
    (more file d Limit [] (limits_told (file_spot file Limit) d within) (none file d))))))

pub told_exactly : (file : FileData) (ports : ℕ) (t : Members) → counted t ≡ Ok ports
    → All (IsToldOf file ports (tables_of t)) always_told
    × (ArePlain ports (tables_of t) → All (IsToldOf file ports (tables_of t)) refusals)
told_exactly file ports t is =
    let d = tables_of t in
    let (same, within) = counted_ports t ports is in
    subst (λ n. All (IsToldOf file n d) always_told × (ArePlain n d → All (IsToldOf file n d) refusals)) same
    (always file d within, λ plain. plainly file d within (clean_of (length d.ports) d plain))
