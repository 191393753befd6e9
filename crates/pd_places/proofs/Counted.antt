-- How many ports are counted, and where a file is refused since they can't be.
use Rattle.std.proofs.Common.{◌≡◌, ℕ, suc, Bool, true, false, not, ◌&&◌, ◌||◌, cond, List, [], ◌∷◌, length, refl, ap, ◌∙◌, subst}
use Rattle.std.proofs.Common.{Some, None, Ok, Err, lit<}
use Rattle.std.specs.Prelude.{Option, Result, nat_lt, is_none}
use Rattle.std.specs.List.{list_all, filter_map}
use Rattle.std.proofs.lemmas.Bool.{false≢true, or_left}
use Rattle.std.proofs.lemmas.List.Folds.{list_any_at}
use Rattle.toml.specs.Data.{Data, string, integer, float, boolean, datetime, array, table, Items, Members, as_table}
use Rattle.pd_scenario_tables.specs.declared.schema.Key.TheVariants as key
use Rattle.pd_scenario_tables.specs.declared.schema.Need.TheVariants.{Required}
use Rattle.pd_scenario_tables.specs.declared.schema.Form.TheVariants as form
use Rattle.pd_scenario_tables.specs.declared.schema.Rule.{Rule}
use Rattle.pd_scenario_tables.specs.declared.fault.ScenarioFault.{ScenarioFault}
use Rattle.pd_scenario_tables.specs.declared.fault.ScenarioFault.TheVariants.{Toml, UnknownKey, WrongType, MissingKey, Range, Name}
use Rattle.pd_scenario_tables.specs.declared.fault.ScenarioFault.TheVariants.{Duplicate, Supplies, Floors, UnknownName, Limit, Memory}
use Rattle.pd_scenario_tables.specs.Schema.{rule, top_rules}
use Rattle.pd_scenario_tables.specs.Values.{is_table, is_array_of, elements, passes}
use Rattle.pd_scenario_tables.specs.Tables.{value_at, value_fails, elements_in, is_required, fails}
use Rattle.pd_scenario_tables.specs.Ports.{count_in, counted}
use Rattle.pd_scenario_text.specs.FileTables.{Tables, tables_of}
use Rattle.pd_scenario_text.specs.Refusals.{fails_somewhere}
use Rattle.pd_misfits.specs.Spots.{FileData, file_spot}
use Rattle.pd_places.specs.Places.{refusal_text}
use Rattle.pd_places.specs.First.{Begins}
use Rattle.pd_places.proofs.Told.{begins_of}
use Rattle.pd_places.proofs.TablesTold.{tables_told}
use Rattle.pd_places.proofs.LimitsTold.{too_many_told}

-- ---- the ports are the tables of the array at their key

all_tables : (ds : List Data) → list_all is_table ds ≡ true → length (filter_map as_table ds) ≡ length ds
all_tables [] h = refl
all_tables (string s ∷ ds) h = absurd (false≢true h)
all_tables (integer z ∷ ds) h = absurd (false≢true h)
all_tables (float x ∷ ds) h = absurd (false≢true h)
all_tables (boolean b ∷ ds) h = absurd (false≢true h)
all_tables (datetime dt ∷ ds) h = absurd (false≢true h)
all_tables (array is ∷ ds) h = absurd (false≢true h)
all_tables (table ms ∷ ds) h = ap suc (all_tables ds h)

abbrev out_of_range : ℕ → Bool
out_of_range n = nat_lt n 1 || nat_lt 8 n

abbrev count_by : Bool → Bool → ℕ → Result ℕ ScenarioFault
count_by are_tables is_out n = cond (not are_tables) (Err WrongType) (cond is_out (Err Limit) (Ok n))

abbrev ports_in : Option Data → ℕ
ports_in o = length (filter_map as_table (elements_in o))

-- so many ports, within their range
abbrev Ports : ℕ → Option Data → Type 0
Ports ports o = (ports_in o ≡ ports) × (out_of_range (ports_in o) ≡ false)

array_ports : (ds : Items) (ports : ℕ) (are_tables is_out : Bool) → list_all is_table (elements ds) ≡ are_tables
    → out_of_range (length (elements ds)) ≡ is_out → count_by are_tables is_out (length (elements ds)) ≡ Ok ports
    → Ports ports (Some (array ds))
array_ports ds ports false is_out are is h = absurd (cc)
array_ports ds ports true true are is h = absurd (cc)
array_ports ds ports true false are is h =
    let same : length (elements ds) ≡ ports = cc in
    (all_tables (elements ds) are ∙ same, ap out_of_range (all_tables (elements ds) are) ∙ is)

ports_of : (o : Option Data) (ports : ℕ) → count_in o ≡ Ok ports → Ports ports o
ports_of None ports h = absurd (cc)
ports_of (Some (string s)) ports h = absurd (cc)
ports_of (Some (integer z)) ports h = absurd (cc)
ports_of (Some (float x)) ports h = absurd (cc)
ports_of (Some (boolean b)) ports h = absurd (cc)
ports_of (Some (datetime dt)) ports h = absurd (cc)
ports_of (Some (array ds)) ports h =
    array_ports ds ports (list_all is_table (elements ds)) (out_of_range (length (elements ds))) refl refl h
ports_of (Some (table ms)) ports h = absurd (cc)

pub counted_ports : (t : Members) (ports : ℕ) → counted t ≡ Ok ports
    → (length ((tables_of t).ports) ≡ ports) × (out_of_range (length ((tables_of t).ports)) ≡ false)
counted_ports t ports h = ports_of (value_at key.Port t) ports h

-- ---- why they can't be counted

abbrev Cause : ScenarioFault → Option Data → Type 0
Cause Toml o = ⊥
Cause UnknownKey o = ⊥
Cause WrongType o = value_fails (is_array_of is_table) o ≡ true
Cause MissingKey o = is_none o ≡ true
Cause Range o = ⊥
Cause Name o = ⊥
Cause Duplicate o = ⊥
Cause Supplies o = ⊥
Cause Floors o = ⊥
Cause UnknownName o = ⊥
Cause Limit o = out_of_range (ports_in o) ≡ true
Cause Memory o = ⊥

array_cause : (ds : Items) (k : ScenarioFault) (are_tables is_out : Bool) → list_all is_table (elements ds) ≡ are_tables
    → out_of_range (length (elements ds)) ≡ is_out → count_by are_tables is_out (length (elements ds)) ≡ Err k → Cause k (Some (array ds))
array_cause ds k false is_out are is h =
    let same : WrongType ≡ k = cc in
    subst (λ (f : ScenarioFault). Cause f (Some (array ds))) same (ap not are)
array_cause ds k true true are is h =
    let same : Limit ≡ k = cc in
    subst (λ (f : ScenarioFault). Cause f (Some (array ds))) same (ap out_of_range (all_tables (elements ds) are) ∙ is)
array_cause ds k true false are is h = absurd (cc)

no_array : (k : ScenarioFault) (d : Data) → value_fails (is_array_of is_table) (Some d) ≡ true
    → WrongType ≡ k → Cause k (Some d)
no_array k d fails same = subst (λ (f : ScenarioFault). Cause f (Some d)) same fails

wrong : (k : ScenarioFault) (r : Result ℕ ScenarioFault) → r ≡ Err WrongType → r ≡ Err k → WrongType ≡ k
wrong k r is h = cc

cause_of : (o : Option Data) (k : ScenarioFault) → count_in o ≡ Err k → Cause k o
cause_of None k h = let same : MissingKey ≡ k = cc in subst (λ (f : ScenarioFault). Cause f None) same refl
cause_of (Some (string s)) k h = no_array k (string s) refl (wrong k _ refl h)
cause_of (Some (integer z)) k h = no_array k (integer z) refl (wrong k _ refl h)
cause_of (Some (float x)) k h = no_array k (float x) refl (wrong k _ refl h)
cause_of (Some (boolean b)) k h = no_array k (boolean b) refl (wrong k _ refl h)
cause_of (Some (datetime dt)) k h = no_array k (datetime dt) refl (wrong k _ refl h)
cause_of (Some (array ds)) k h =
    array_cause ds k (list_all is_table (elements ds)) (out_of_range (length (elements ds))) refl refl h
cause_of (Some (table ms)) k h = no_array k (table ms) refl (wrong k _ refl h)

-- ---- that is told

lacks_ports : (ports : ℕ) (d : Tables) → is_none (value_at key.Port d.top) ≡ true → fails_somewhere MissingKey ports d ≡ true
unfolding fails_somewhere fails
lacks_ports ports d h =
    or_left _ _ (list_any_at (λ (r : Rule). is_required r.need && is_none (value_at r.key d.top)) top_rules 3
    (rule key.Port Required form.Tables) (lit< tt) h)

mistypes_ports : (ports : ℕ) (d : Tables) → value_fails (is_array_of is_table) (value_at key.Port d.top) ≡ true
    → fails_somewhere WrongType ports d ≡ true
unfolding fails_somewhere fails
mistypes_ports ports d h =
    or_left _ _ (list_any_at (λ (r : Rule). value_fails (passes WrongType d.version ports r.form) (value_at r.key d.top)) top_rules 3
    (rule key.Port Required form.Tables) (lit< tt) h)

by_cause : (file : FileData) (t : Members) (k : ScenarioFault) → Cause k (value_at key.Port t)
    → Begins (file_spot file k) (refusal_text file k (tables_of t))
by_cause file t Toml h = absurd h
by_cause file t UnknownKey h = absurd h
by_cause file t WrongType h =
    let d = tables_of t in
    begins_of (file_spot file WrongType) _ _ (tables_told (file_spot file WrongType) WrongType (length d.ports) d)
    (mistypes_ports (length d.ports) d h)
by_cause file t MissingKey h =
    let d = tables_of t in
    begins_of (file_spot file MissingKey) _ _ (tables_told (file_spot file MissingKey) MissingKey (length d.ports) d)
    (lacks_ports (length d.ports) d h)
by_cause file t Range h = absurd h
by_cause file t Name h = absurd h
by_cause file t Duplicate h = absurd h
by_cause file t Supplies h = absurd h
by_cause file t Floors h = absurd h
by_cause file t UnknownName h = absurd h
by_cause file t Limit h = too_many_told (file_spot file Limit) (tables_of t) h
by_cause file t Memory h = absurd h

pub uncounted_told : (file : FileData) (t : Members) (k : ScenarioFault) → counted t ≡ Err k
    → Begins (file_spot file k) (refusal_text file k (tables_of t))
uncounted_told file t k h = by_cause file t k (cause_of (value_at key.Port t) k h)
