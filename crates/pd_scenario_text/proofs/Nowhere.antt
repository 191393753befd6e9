-- A file has no refusal of single tables where each of its tables is clean; and of the tables ports alone have supplies.
use Rattle.std.proofs.Common.{◌≡◌, ℕ, Bool, true, false, not, ◌||◌, ◌&&◌, cond, List, [], ◌∷◌, find, refl, sym, ap, ◌∙◌, Some, None}
use Rattle.std.specs.Prelude.{Option, is_none}
use Rattle.std.specs.List.{list_any, list_all}
use Rattle.toml.specs.Data.{Members}
use Rattle.pd_scenario_tables.specs.declared.schema.Version.{Version}
use Rattle.pd_scenario_tables.specs.declared.schema.TableKind.{TableKind}
use Rattle.pd_scenario_tables.specs.declared.schema.TableKind.TheVariants.{Top, Port, Cable, Sink, Event}
use Rattle.pd_scenario_tables.specs.declared.fault.ScenarioFault.{ScenarioFault}
use Rattle.pd_scenario_tables.specs.declared.fault.ScenarioFault.TheVariants.{UnknownKey, WrongType, MissingKey, Range, Name, Supplies}
use Rattle.pd_scenario_tables.specs.Tables.{event_at, fails, event_fails, is_sound}
use Rattle.pd_scenario_tables.specs.Clean.{is_clean, is_clean_event}
use Rattle.pd_scenario_tables.proofs.Suited.{top_supplied, cable_supplied, sink_supplied, event_supplied}
use Rattle.pd_scenario_text.specs.FileTables.{Tables}
use Rattle.pd_scenario_text.specs.Refusals.{fails_somewhere, table_refusals}
use Rattle.pd_scenario_text.specs.Document.{are_clean}

-- ---- none of some tests passes

neither : (a rest b more : Bool) → ((not a && rest) && (not b && more)) ≡ (not (a || b) && (rest && more))
neither true rest b more = refl
neither false true b more = refl
neither false false true more = refl
neither false false false more = refl

module _ {F : Type 0} where
  abbrev pub none_of : List F → (F → Bool) → Bool
  none_of faults p = list_all (λ f. not (p f)) faults

  none_at_all : (faults : List F) → true ≡ none_of faults (λ f. false)
  none_at_all [] = refl
  none_at_all (f ∷ faults) = none_at_all faults

  both : (faults : List F) (p q : F → Bool) → (none_of faults p && none_of faults q) ≡ none_of faults (λ f. p f || q f)
  both [] p q = refl
  both (f ∷ faults) p q =
      neither (p f) (none_of faults p) (q f) (none_of faults q) ∙ ap (λ b. not (p f || q f) && b) (both faults p q)

  -- of each of a list
  each : {T : Type 0} (faults : List F) (clean : T → Bool) (p : F → T → Bool)
      → ((t : T) → clean t ≡ none_of faults (λ f. p f t)) → (ts : List T) → list_all clean ts ≡ none_of faults (λ f. list_any (p f) ts)
  each faults clean p one [] = none_at_all faults
  each faults clean p one (t ∷ ts) = rw (one t, each faults clean p one ts) (both faults (λ f. p f t) (λ f. list_any (p f) ts))

  by_first : (here : Bool) (f : F) (rest : Option F) (none : Bool) → is_none rest ≡ none
      → is_none (cond here (Some f) rest) ≡ (not here && none)
  by_first true f rest none h = refl
  by_first false f rest none h = h

  none_first : (faults : List F) (p : F → Bool) → is_none (find p faults) ≡ none_of faults p
  none_first [] p = refl
  none_first (f ∷ faults) p = by_first (p f) f (find p faults) (none_of faults p) (none_first faults p)

nothing : {F : Type 0} (o : Option F) → is_none o ≡ true → o ≡ None
nothing None h = refl
nothing (Some f) h = absurd (cc)

-- ---- clean tables

last : (a b c d e : Bool) → (a && (b && (c && (d && e)))) ≡ (a && (b && (c && (d && (e && true)))))
last a b c d true = refl
last a b c d false = refl

clean_table : (version : Version) (ports : ℕ) (kind : TableKind) (t : Members) → is_clean version ports kind t
    ≡ none_of table_refusals (λ fault. fails fault version ports kind t)
unfolding is_clean is_sound
clean_table version ports kind t =
    last (not (fails UnknownKey version ports kind t)) (not (fails WrongType version ports kind t))
    (not (fails MissingKey version ports kind t)) (not (fails Range version ports kind t)) (not (fails Name version ports kind t))

clean_tables : (version : Version) (ports : ℕ) (kind : TableKind) (ts : List Members) → list_all (is_clean version ports kind) ts
    ≡ none_of table_refusals (λ fault. list_any (fails fault version ports kind) ts)
clean_tables version ports kind ts =
    each table_refusals (is_clean version ports kind) (λ fault t. fails fault version ports kind t) (clean_table version ports kind) ts

clean_events : (version : Version) (ports : ℕ) (ts : List Members) → list_all (is_clean_event version ports) ts
    ≡ none_of table_refusals (λ fault. list_any (event_fails fault version ports) ts)
clean_events version ports ts =
    each table_refusals (is_clean_event version ports) (λ fault t. event_fails fault version ports t)
    (λ t. clean_table version ports (Event (event_at version t)) t) ts

clean_file : (ports : ℕ) (d : Tables)
    → are_clean ports d ≡ is_none (find (λ fault. fails_somewhere fault ports d) table_refusals)
unfolding fails_somewhere are_clean
clean_file ports d =
    let v = d.version in
    let t = λ (f : ScenarioFault). fails f v ports Top d.top in
    let p = λ (f : ScenarioFault). list_any (fails f v ports Port) d.ports in
    let c = λ (f : ScenarioFault). list_any (fails f v ports Cable) d.cables in
    let s = λ (f : ScenarioFault). list_any (fails f v ports Sink) d.sinks in
    let e = λ (f : ScenarioFault). list_any (event_fails f v ports) d.events in
    rw (
      clean_table v ports Top d.top,
      clean_tables v ports Port d.ports,
      clean_tables v ports Cable d.cables,
      clean_tables v ports Sink d.sinks,
      clean_events v ports d.events,
      both table_refusals s e,
      both table_refusals c (λ f. s f || e f),
      both table_refusals p (λ f. c f || (s f || e f)),
      both table_refusals t (λ f. p f || (c f || (s f || e f))),
    )
    (sym (none_first table_refusals (λ f. t f || (p f || (c f || (s f || e f))))))

pub none_refused : (ports : ℕ) (d : Tables) → are_clean ports d ≡ true → find (λ fault. fails_somewhere fault ports d) table_refusals ≡ None
none_refused ports d clean = nothing (find (λ fault. fails_somewhere fault ports d) table_refusals) (sym (clean_file ports d) ∙ clean)

-- ---- supplies

nowhere : (p : Members → Bool) → ((t : Members) → p t ≡ false) → (ts : List Members) → list_any p ts ≡ false
nowhere p never [] = refl
nowhere p never (t ∷ ts) = rw (never t, nowhere p never ts)

alone : (p : Bool) → p ≡ (false || (p || (false || (false || false))))
alone true = refl
alone false = refl

pub ports_alone : (ports : ℕ) (d : Tables) → list_any (fails Supplies d.version ports Port) d.ports ≡ fails_somewhere Supplies ports d
unfolding fails_somewhere
ports_alone ports d =
    let v = d.version in
    rw (
      top_supplied v ports d.top,
      nowhere (fails Supplies v ports Cable) (λ t. cable_supplied v ports t) d.cables,
      nowhere (fails Supplies v ports Sink) (λ t. sink_supplied v ports t) d.sinks,
      nowhere (event_fails Supplies v ports) (λ t. event_supplied v ports (event_at v t) t) d.events,
    )
    (alone (list_any (fails Supplies v ports Port) d.ports))
