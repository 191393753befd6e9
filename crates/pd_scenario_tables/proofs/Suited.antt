-- A table is clean where it knows its keys and each of its rules is suited.
use Rattle.std.proofs.Common.{◌≡◌, ℕ, Bool, true, false, not, ◌||◌, ◌&&◌, List, [], ◌∷◌, refl, sym, ap, ◌∙◌, Some, None}
use Rattle.std.specs.Prelude.{Option, is_none}
use Rattle.std.specs.List.{list_any, list_all}
use Rattle.std.proofs.lemmas.Bool.{or_parts}
use Rattle.toml.specs.Data.{Data, Members}
use Rattle.pd_setup.specs.declared.event.EventKind.TheVariants.{Attach, Demand, Damage}
use Rattle.pd_scenario_tables.specs.declared.schema.Version.{Version}
use Rattle.pd_scenario_tables.specs.declared.schema.Version.TheVariants.{One, Two}
use Rattle.pd_scenario_tables.specs.declared.schema.EventName.{EventName}
use Rattle.pd_scenario_tables.specs.declared.schema.EventName.TheVariants as event
use Rattle.pd_scenario_tables.specs.declared.schema.TableKind.{TableKind}
use Rattle.pd_scenario_tables.specs.declared.schema.TableKind.TheVariants.{Top, Cable, Sink, Event}
use Rattle.pd_scenario_tables.specs.declared.schema.Form.{Form}
use Rattle.pd_scenario_tables.specs.declared.schema.Form.TheVariants.{Number, VersionNumber, PortNumber, RatingNumber, RevisionNumber, Name}
use Rattle.pd_scenario_tables.specs.declared.schema.Form.TheVariants.{PlugWord, ModeWord, EventWord, Truth, Supplies, Tables}
use Rattle.pd_scenario_tables.specs.declared.schema.Rule.{Rule}
use Rattle.pd_scenario_tables.specs.declared.fault.ScenarioFault.TheVariants as fault
use Rattle.pd_scenario_tables.specs.Schema.{rules_of, event_rules}
use Rattle.pd_scenario_tables.specs.Values.{has_type, in_range, is_named, passes}
use Rattle.pd_scenario_tables.specs.Tables.{value_at, is_required, value_fails, some_value_fails, has_unknown_key, fails, is_sound}
use Rattle.pd_scenario_tables.specs.Clean.{is_clean, suits, suits_need, suits_rule}

-- ---- none of four tests passes anywhere

neither : (a rest b more : Bool) → ((not a && b) && (not rest && more)) ≡ (not (a || rest) && (b && more))
neither true rest b more = refl
neither false true true more = refl
neither false true false more = refl
neither false false b more = refl

nor : (a b : Bool) → (not a && not b) ≡ not (a || b)
nor true b = refl
nor false b = refl

module _ {X : Type 0} (p a b c d : X → Bool) (one : (x : X) → p x ≡ (not (a x) && (not (b x) && (not (c x) && not (d x))))) where
  none_of_four : (xs : List X)
      → list_all p xs ≡ (not (list_any a xs) && (not (list_any b xs) && (not (list_any c xs) && not (list_any d xs))))
  none_of_four [] = refl
  none_of_four (x ∷ xs) =
      let A = list_any a xs in
      let B = list_any b xs in
      let C = list_any c xs in
      let D = list_any d xs in
      rw (one x, none_of_four xs)
      (neither (a x) A (not (b x) && (not (c x) && not (d x))) (not B && (not C && not D))
      ∙ ap (λ r. not (a x || A) && r) (neither (b x) B (not (c x) && not (d x)) (not C && not D)
      ∙ ap (λ r. not (b x || B) && r) (neither (c x) C (not (d x)) (not D)
      ∙ ap (λ r. not (c x || C) && r) (nor (d x) D))))

-- ---- one look at each rule

some_value : (typed ranged named required : Bool) → (typed && (ranged && named))
    ≡ (not (not typed) && (not (required && false) && (not (not ranged) && not (not named))))
some_value true true true true = refl
some_value true true true false = refl
some_value true true false true = refl
some_value true true false false = refl
some_value true false named true = refl
some_value true false named false = refl
some_value false ranged named required = refl

no_value : (required : Bool) → not required ≡ (not (required && true) && true)
no_value true = refl
no_value false = refl

by_value : (version : Version) (ports : ℕ) (r : Rule) (o : Option Data) → suits_need (suits version ports r.form) r.need o
    ≡ (not (value_fails (passes fault.WrongType version ports r.form) o) && (not (is_required r.need && is_none o)
    && (not (value_fails (passes fault.Range version ports r.form) o) && not (value_fails (passes fault.Name version ports r.form) o))))
by_value version ports r None = no_value (is_required r.need)
by_value version ports r (Some d) =
    some_value (has_type r.form d) (in_range version ports r.form d) (is_named r.form d) (is_required r.need)

pub clean_is : (version : Version) (ports : ℕ) (kind : TableKind) (t : Members) → is_clean version ports kind t
    ≡ (not (has_unknown_key (rules_of version kind) t) && list_all (suits_rule version ports t) (rules_of version kind))
unfolding is_clean is_sound fails
clean_is version ports kind t =
    ap (λ b. not (has_unknown_key (rules_of version kind) t) && b)
    (sym (none_of_four (suits_rule version ports t)
    (λ (r : Rule). value_fails (passes fault.WrongType version ports r.form) (value_at r.key t))
    (λ (r : Rule). is_required r.need && is_none (value_at r.key t))
    (λ (r : Rule). value_fails (passes fault.Range version ports r.form) (value_at r.key t))
    (λ (r : Rule). value_fails (passes fault.Name version ports r.form) (value_at r.key t))
    (λ r. by_value version ports r (value_at r.key t)) (rules_of version kind)))

-- ---- ports alone have supplies

is_supplies : Form → Bool
is_supplies Supplies = true
is_supplies _ = false

never : (test : Data → Bool) → ((d : Data) → test d ≡ true) → (o : Option Data) → value_fails test o ≡ false
never test all None = refl
never test all (Some d) = rw (all d)

supplied : (version : Version) (ports : ℕ) (form : Form) (o : Option Data) → is_supplies form ≡ false
    → value_fails (passes fault.Supplies version ports form) o ≡ false
unfolding is_supplies
supplied version ports (Number quantity) o h = never _ (λ d. refl) o
supplied version ports VersionNumber o h = never _ (λ d. refl) o
supplied version ports PortNumber o h = never _ (λ d. refl) o
supplied version ports RatingNumber o h = never _ (λ d. refl) o
supplied version ports RevisionNumber o h = never _ (λ d. refl) o
supplied version ports Name o h = never _ (λ d. refl) o
supplied version ports PlugWord o h = never _ (λ d. refl) o
supplied version ports ModeWord o h = never _ (λ d. refl) o
supplied version ports EventWord o h = never _ (λ d. refl) o
supplied version ports Truth o h = never _ (λ d. refl) o
supplied version ports Supplies o h = absurd (cc)
supplied version ports Tables o h = never _ (λ d. refl) o

by_rules : (version : Version) (ports : ℕ) (t : Members) (rules : List Rule) → list_any (λ (r : Rule). is_supplies r.form) rules ≡ false
    → some_value_fails fault.Supplies version ports rules t ≡ false
by_rules version ports t [] h = refl
by_rules version ports t (r ∷ rules) h =
    let both = or_parts (is_supplies r.form) (list_any (λ (x : Rule). is_supplies x.form) rules) h in
    rw (supplied version ports r.form (value_at r.key t) both.0, by_rules version ports t rules both.1)

no_supplies : (name : EventName) → list_any (λ (r : Rule). is_supplies r.form) (event_rules name) ≡ false
unfolding is_supplies
no_supplies (event.OnPort (Attach cable sink)) = refl
no_supplies (event.OnPort (Demand power)) = refl
no_supplies (event.OnPort (Damage harm)) = refl
no_supplies (event.OnPort _) = refl
no_supplies event.Budget = refl
no_supplies event.Unknown = refl

pub top_supplied : (version : Version) (ports : ℕ) (t : Members) → fails fault.Supplies version ports Top t ≡ false
unfolding is_supplies fails
top_supplied version ports t = by_rules version ports t (rules_of version Top) refl

pub cable_supplied : (version : Version) (ports : ℕ) (t : Members) → fails fault.Supplies version ports Cable t ≡ false
unfolding is_supplies fails
cable_supplied version ports t = by_rules version ports t (rules_of version Cable) refl

pub sink_supplied : (version : Version) (ports : ℕ) (t : Members) → fails fault.Supplies version ports Sink t ≡ false
unfolding is_supplies fails
sink_supplied One ports t = by_rules One ports t (rules_of One Sink) refl
sink_supplied Two ports t = by_rules Two ports t (rules_of Two Sink) refl

pub event_supplied : (version : Version) (ports : ℕ) (name : EventName) (t : Members)
    → fails fault.Supplies version ports (Event name) t ≡ false
unfolding fails
event_supplied version ports name t = by_rules version ports t (event_rules name) (no_supplies name)
