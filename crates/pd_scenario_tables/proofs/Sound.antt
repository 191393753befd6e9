-- What holds of a sound table, rule by rule.
use Rattle.std.proofs.Common.{◌≡◌, ℕ, zero, suc, ◌<◌, ◌≤◌, ◌^◌, ℤ, pos, negsuc, Bool, true, false, not, ◌&&◌, List, [], ◌∷◌, ◌++◌, length}
use Rattle.std.proofs.Common.{get_or, refl, sym, arith, Some, None}
use Rattle.std.specs.Prelude.{Option, is_none, nat_le, Contains}
use Rattle.std.specs.List.{list_any}
use Rattle.std.proofs.lemmas.Bool.{false≢true, and_parts, or_parts, not-false}
use Rattle.std.proofs.lemmas.Bool.Decides.{nat_tests}
use Rattle.toml.specs.Data.{Data, Members}
use Rattle.pd_scenario.specs.Names.{is_name}
use Rattle.pd_scenario.specs.Limits.{allows, is_port}
use Rattle.pd_scenario.specs.declared.limits.Quantity.{Quantity}
use Rattle.pd_scenario.specs.declared.limits.Quantity.TheVariants as quantity
use Rattle.pd_scenario_tables.specs.declared.schema.Version.{Version}
use Rattle.pd_scenario_tables.specs.declared.schema.TableKind.{TableKind}
use Rattle.pd_scenario_tables.specs.declared.schema.Key.{Key}
use Rattle.pd_scenario_tables.specs.declared.schema.Need.TheVariants as need
use Rattle.pd_scenario_tables.specs.declared.schema.Need.TheVariants.{Required}
use Rattle.pd_scenario_tables.specs.declared.schema.Form.TheVariants.{Number, PortNumber, Name}
use Rattle.pd_scenario_tables.specs.declared.schema.Rule.{Rule}
use Rattle.pd_scenario_tables.specs.declared.fault.ScenarioFault.TheVariants as fault
use Rattle.pd_scenario_tables.specs.Schema.{rule, rules_of}
use Rattle.pd_scenario_tables.specs.Values.{whole_of, word_of, small, is_within, is_port_number, passes}
use Rattle.pd_scenario_tables.specs.Tables.{value_at, whole_in, word_in, is_required, value_fails, lacks_key, some_value_fails, fails}
use Rattle.pd_scenario_tables.specs.Tables.{is_sound}

-- ---- what a sound table says of one rule

pub record Holds (version : Version) (ports : ℕ) (r : Rule) (t : Members) : Type 0 where
  pub there : (is_required r.need && is_none (value_at r.key t)) ≡ false
  pub ranged : value_fails (passes fault.Range version ports r.form) (value_at r.key t) ≡ false
  pub named : value_fails (passes fault.Name version ports r.form) (value_at r.key t) ≡ false

pub at_rule : (p : Rule → Bool) (rules : List Rule) (k : ℕ) (r : Rule) → k < length rules → get_or rules k r ≡ r → list_any p rules ≡ false
    → p r ≡ false
at_rule p [] k r below is h = absurd (omega arith)
at_rule p (x ∷ rules) zero r below is h = rw (← is) ((or_parts (p x) (list_any p rules) h).0)
at_rule p (x ∷ rules) (suc k) r below is h = at_rule p rules k r (omega arith) is ((or_parts (p x) (list_any p rules) h).1)

three : (a b c : Bool) → (not a && (not b && not c)) ≡ true → (a ≡ false) × (b ≡ false) × (c ≡ false)
three true b c h = absurd (false≢true h)
three false true c h = absurd (false≢true h)
three false false true h = absurd (false≢true h)
three false false false h = (refl, refl, refl)

pub holds : (version : Version) (ports : ℕ) (kind : TableKind) (t : Members) (r : Rule) → is_sound version ports kind t ≡ true
    → Contains (rules_of version kind) r → Holds version ports r t
unfolding is_sound fails
holds version ports kind t r sound (k, below, is) =
    let rules = rules_of version kind in
    let parts = three (lacks_key rules t) (some_value_fails fault.Range version ports rules t)
    (some_value_fails fault.Name version ports rules t) sound in
    record {
      there = at_rule (λ (x : Rule). is_required x.need && is_none (value_at x.key t)) rules k r below is parts.0;
      ranged = at_rule (λ (x : Rule). value_fails (passes fault.Range version ports x.form) (value_at x.key t)) rules k r below is parts.1;
      named = at_rule (λ (x : Rule). value_fails (passes fault.Name version ports x.form) (value_at x.key t)) rules k r below is parts.2;
    }

-- the first of a list is in it
pub first : (r : Rule) (rules : List Rule) → Contains (r ∷ rules) r
first r rules = (0, omega arith, refl)

-- and what is behind others, given in turn, is in the whole
pub behind : (r : Rule) (others rules : List Rule) → Contains rules r → Contains (others ++ rules) r
behind r [] rules h = h
behind r (s ∷ others) rules h = let (k, below, is) = behind r others rules h in (suc k, omega (arith, below), is)

-- ---- numbers

below : (q : Quantity) (m : ℕ) → allows q m ≡ true → m < 2 ^ 32
below quantity.EventId m h = grind (arith, nat_tests)
below quantity.Time m h = grind (arith, nat_tests)
below quantity.Budget m h = grind (arith, nat_tests)
below quantity.Floor m h = grind (arith, nat_tests)
below quantity.Voltage m h = grind (arith, nat_tests)
below quantity.Current m h = grind (arith, nat_tests)
below quantity.Demand m h = grind (arith, nat_tests)
below quantity.IdentityTries m h = grind (arith, nat_tests)
below quantity.DamagePlace m h = grind (arith, nat_tests)
below quantity.DamageMask m h = grind (arith, nat_tests)

small_is : (m : ℕ) → m < 2 ^ 32 → small (pos m) ≡ m
small_is m h = grind (arith, nat_tests)

pub within_small : (q : Quantity) (z : ℤ) → is_within q z ≡ true → allows q (small z) ≡ true
within_small q (pos m) h = rw (small_is m (below q m h)) h
within_small q (negsuc m) h = absurd (false≢true h)

needed_in : (q : Quantity) (o : Option Data) → (true && is_none o) ≡ false → value_fails (λ d. is_within q (whole_of d)) o ≡ false
    → allows q (small (whole_in o (pos 0))) ≡ true
needed_in q None there h = absurd (false≢true (sym there))
needed_in q (Some d) there h = within_small q (whole_of d) (not-false (is_within q (whole_of d)) h)

pub needed : (version : Version) (ports : ℕ) (k : Key) (q : Quantity) (t : Members) → Holds version ports (rule k Required (Number q)) t
    → allows q (small (whole_in (value_at k t) (pos 0))) ≡ true
needed version ports k q t h = needed_in q (value_at k t) h.there h.ranged

or_in : (q : Quantity) (z : ℤ) (o : Option Data) → is_within q z ≡ true → value_fails (λ d. is_within q (whole_of d)) o ≡ false
    → allows q (small (whole_in o z)) ≡ true
or_in q z None default h = within_small q z default
or_in q z (Some d) default h = within_small q (whole_of d) (not-false (is_within q (whole_of d)) h)

pub number_or : (version : Version) (ports : ℕ) (k : Key) (z : ℤ) (q : Quantity) (t : Members) → is_within q z ≡ true
    → Holds version ports (rule k (need.Number z) (Number q)) t → allows q (small (whole_in (value_at k t) z)) ≡ true
number_or version ports k z q t default h = or_in q z (value_at k t) default h.ranged

port_small : (ports : ℕ) (z : ℤ) → ports ≤ 8 → is_port_number ports z ≡ true → is_port ports (small z) ≡ true
port_small ports (pos m) few h =
    let most = (and_parts (nat_le 1 m) (nat_le m ports) h).1 in
    let room : m < 2 ^ 32 = grind (arith, nat_tests) in
    rw (small_is m room) h
port_small ports (negsuc m) few h = absurd (false≢true h)

port_in : (ports : ℕ) (o : Option Data) → ports ≤ 8 → (true && is_none o) ≡ false
    → value_fails (λ d. is_port_number ports (whole_of d)) o ≡ false → is_port ports (small (whole_in o (pos 0))) ≡ true
port_in ports None few there h = absurd (false≢true (sym there))
port_in ports (Some d) few there h = port_small ports (whole_of d) few (not-false (is_port_number ports (whole_of d)) h)

pub port_needed : (version : Version) (ports : ℕ) (k : Key) (t : Members) → ports ≤ 8 → Holds version ports (rule k Required PortNumber) t
    → is_port ports (small (whole_in (value_at k t) (pos 0))) ≡ true
port_needed version ports k t few h = port_in ports (value_at k t) few h.there h.ranged

-- ---- names

name_in : (o : Option Data) → (true && is_none o) ≡ false → value_fails (λ d. is_name (word_of d)) o ≡ false → is_name (word_in o) ≡ true
name_in None there h = absurd (false≢true (sym there))
name_in (Some d) there h = not-false (is_name (word_of d)) h

pub name_needed : (version : Version) (ports : ℕ) (k : Key) (t : Members) → Holds version ports (rule k Required Name) t
    → is_name (word_in (value_at k t)) ≡ true
name_needed version ports k t h = name_in (value_at k t) h.there h.named
