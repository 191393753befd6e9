-- The least refusal that applies is the first that is told.
use Rattle.std.proofs.Common.{◌≡◌, ℕ, ◌≤◌, false, ◌||◌, List, [], ◌∷◌, length, sym, ap, subst, arith, inl, inr}
use Rattle.std.proofs.Common.{Some, None, Err}
use Rattle.std.specs.Prelude.{Option, Result, nat_lt, find}
use Rattle.std.specs.List.{flat_map}
use Rattle.std.proofs.lemmas.Bool.{or_parts}
use Rattle.std.proofs.lemmas.Bool.Decides.{nat_tests}
use Rattle.toml.specs.Data.{Members}
use Rattle.pd_scenario.specs.Scenarios.{ScenarioData}
use Rattle.pd_scenario_tables.specs.declared.fault.ScenarioFault.{ScenarioFault}
use Rattle.pd_scenario_tables.specs.declared.fault.ScenarioFault.TheVariants.{UnknownKey, WrongType, MissingKey, Range, Name}
use Rattle.pd_scenario_tables.specs.declared.fault.ScenarioFault.TheVariants.{Duplicate, Supplies, Floors, UnknownName, Limit}
use Rattle.pd_scenario_text.specs.FileTables.{Tables, tables_of, scenario_of}
use Rattle.pd_scenario_text.specs.Refusals.{applies, refusals, refusal}
use Rattle.pd_scenario_text.specs.Reading.{answered, reading}
use Rattle.pd_scenario_text.proofs.Decided.{Clean}
use Rattle.pd_misfits.specs.Spots.{FileData, file_spot}
use Rattle.pd_places.specs.Places.{refusal_text, other_text, top_refusals, counted_text, places_text}
use Rattle.pd_places.specs.First.{Begins, IsRefusedFor}
use Rattle.pd_places.proofs.Told.{Told, begins_on, one_told}
use Rattle.pd_places.proofs.TablesTold.{tables_told}
use Rattle.pd_places.proofs.SameTold.{duplicates_told}
use Rattle.pd_places.proofs.FundsTold.{funds_told}
use Rattle.pd_places.proofs.KnownTold.{known_told}
use Rattle.pd_places.proofs.LimitsTold.{limits_told}
use Rattle.pd_places.proofs.Counted.{counted_ports, uncounted_told}

-- ---- the first of the refusals from one on

abbrev texts_of : FileData → Tables → List ScenarioFault → List ℕ
texts_of file d faults = flat_map (λ (f : ScenarioFault). refusal_text file f d) faults

abbrev first_of : Tables → List ScenarioFault → Option ScenarioFault
first_of d faults = find (λ (f : ScenarioFault). applies f (length d.ports) d) faults

-- where the first that applies is this one, the text begins with it
abbrev Leads : FileData → Tables → List ScenarioFault → Type 0
Leads file d faults = (k : ScenarioFault) → first_of d faults ≡ Some k → Begins (file_spot file k) (texts_of file d faults)

none_leads : (file : FileData) (d : Tables) → Leads file d []
none_leads file d k is = absurd (cc)

-- one more refusal, before those
leads : (file : FileData) (d : Tables) (f : ScenarioFault) (faults : List ScenarioFault)
    → Told (file_spot file f) (applies f (length d.ports) d) (refusal_text file f d)
    → (applies f (length d.ports) d ≡ false → Leads file d faults) → Leads file d (f ∷ faults)
leads file d f faults told others k is =
    one_told (file_spot file) (applies f (length d.ports) d) f k (first_of d faults) (refusal_text file f d) (texts_of file d faults)
    told is (λ passed found. others passed k found)

pub few_ports : (n : ℕ) → nat_lt 8 n ≡ false → n ≤ 8
few_ports n h = grind (arith, nat_tests)

-- from the limits up, and from the names
later_lead : (file : FileData) (d : Tables) → (nat_lt (length d.ports) 1 || nat_lt 8 (length d.ports)) ≡ false → Clean (length d.ports) d
    → Leads file d (Duplicate ∷ Supplies ∷ Floors ∷ UnknownName ∷ Limit ∷ [])
later_lead file d within clean =
    let n = length d.ports in
    let few = (or_parts (nat_lt n 1) (nat_lt 8 n) within).1 in
    leads file d Duplicate (Supplies ∷ Floors ∷ UnknownName ∷ Limit ∷ [])
    (duplicates_told (file_spot file Duplicate) n d (few_ports n few) clean)
    (λ single. leads file d Supplies (Floors ∷ UnknownName ∷ Limit ∷ []) (tables_told (file_spot file Supplies) Supplies n d)
    (λ supplied. leads file d Floors (UnknownName ∷ Limit ∷ []) (funds_told (file_spot file Floors) n d few clean)
    (λ funded. leads file d UnknownName (Limit ∷ []) (known_told (file_spot file UnknownName) n d clean)
    (λ known. leads file d Limit [] (limits_told (file_spot file Limit) d within) (λ last. none_leads file d)))))

all_lead : (file : FileData) (d : Tables) → (nat_lt (length d.ports) 1 || nat_lt 8 (length d.ports)) ≡ false → Leads file d refusals
all_lead file d within =
    let n = length d.ports in
    let later = Duplicate ∷ Supplies ∷ Floors ∷ UnknownName ∷ Limit ∷ [] in
    leads file d UnknownKey (WrongType ∷ MissingKey ∷ Range ∷ Name ∷ later) (tables_told (file_spot file UnknownKey) UnknownKey n d)
    (λ keys. leads file d WrongType (MissingKey ∷ Range ∷ Name ∷ later) (tables_told (file_spot file WrongType) WrongType n d)
    (λ types. leads file d MissingKey (Range ∷ Name ∷ later) (tables_told (file_spot file MissingKey) MissingKey n d)
    (λ complete. leads file d Range (Name ∷ later) (tables_told (file_spot file Range) Range n d)
    (λ ranged. leads file d Name later (tables_told (file_spot file Name) Name n d)
    (λ named. later_lead file d within
    (record { keys = keys; types = types; complete = complete; ranged = ranged; named = named }))))))

-- ---- a file

refused_for : (o : Option ScenarioFault) (c : ScenarioData) (k : ScenarioFault) → answered o c ≡ Err k → o ≡ Some k
refused_for None c k h = absurd (cc)
refused_for (Some first) c k h = let same : first ≡ k = cc in ap (λ (f : ScenarioFault). Some f) same

pub least_first : (file : FileData) (k : ScenarioFault) (t : Members) → IsRefusedFor k t → Begins (file_spot file k) (places_text file t)
least_first file k t (inl uncounted) =
    subst (λ (r : Result ℕ ScenarioFault). Begins (file_spot file k) (counted_text file (tables_of t) r)) (sym uncounted)
    (begins_on (file_spot file k) (refusal_text file k (tables_of t)) (flat_map (other_text file k (tables_of t)) top_refusals)
    (uncounted_told file t k uncounted))
least_first file k t (inr (ports, is, read)) =
    let d = tables_of t in
    let (same, within) = counted_ports t ports is in
    let refused = subst (λ n. reading n t ≡ Err k) (sym same) read in
    subst (λ (r : Result ℕ ScenarioFault). Begins (file_spot file k) (counted_text file d r)) (sym is)
    (all_lead file d within k (refused_for (refusal (length d.ports) d) (scenario_of d) k refused))
