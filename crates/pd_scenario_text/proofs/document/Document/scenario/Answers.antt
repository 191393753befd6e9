use Rattle.std.proofs.Common.{◌∙◌, not, map, sym, ap, lit<}
use Rattle.pd_scenario_tables.specs.Seen.{views}
use Rattle.pd_scenario_text.specs.Document.{seen}
use Rattle.pd_scenario_tables.specs.Convert.{settings_of, cable_of, sink_of, event_of}
use Rattle.pd_scenario_text.specs.FileTables.{scenario_of}
use Rattle.pd_scenario_text.specs.Refusals.{refusal}
use Rattle.pd_scenario_text.proofs.Decided.{clean, Later, Last, no_check, a_check, refused_duplicate, refused_supplies, refused_floors}
use Rattle.pd_scenario_text.proofs.Decided.{refused_unknown, refused_limit, accepted, same_check, same_funded, same_limit, same_contents}
use Rattle.pd_scenario_text.proofs.Decided.{same_valid, same_answer}
use Rattle.pd_scenario_text.proofs.Valid.{sound_cables, sound_sinks, sound_events, sound_ports, tables_of_cables_sound}
use Rattle.pd_scenario_text.proofs.Valid.{tables_of_sinks_sound, tables_of_events_sound, tables_of_ports_sound, valid}
use Rattle.pd_scenario_text.proofs.document.Document.scenario.Goals as goal

pub all_cables-requires : goal.all_cables-requires
all_cables-requires g c =
    let d = seen c.args.self.now in
    let k = clean g.row.N d (sym c.first_refusal.ensures ∙ c.in_default.is) in
    rw c.deref.ensures.value (tables_of_cables_sound d.version g.row.N c.args.self.now.cables.items (sound_cables g.row.N d k))

pub all_sinks-requires : goal.all_sinks-requires
all_sinks-requires g c =
    let d = seen c.args.self.now in
    let k = clean g.row.N d (sym c.first_refusal.ensures ∙ c.in_default.is) in
    rw c.deref-2.ensures.value (tables_of_sinks_sound d.version g.row.N c.args.self.now.sinks.items (sound_sinks g.row.N d k))

pub all_events-requires : goal.all_events-requires
all_events-requires g c =
    let d = seen c.args.self.now in
    let k = clean g.row.N d (sym c.first_refusal.ensures ∙ c.in_default.is) in
    rw c.deref-3.ensures.value (tables_of_events_sound d.version g.row.N c.args.self.now.events.items (sound_events g.row.N d k))

pub returns-in_default-checked : goal.returns-in_default-checked
returns-in_default-checked g c =
    let d = seen c.args.self.now in
    let k = clean g.row.N d (sym c.first_refusal.ensures ∙ c.in_default.is) in
    let cs = c.in_ok-cables.ensures ∙ ap (λ ts. map cable_of (views ts)) c.deref.ensures.value in
    let ss = c.in_ok-sinks.ensures ∙ ap (λ ts. map sink_of (views ts)) c.deref-2.ensures.value in
    let es = c.in_ok-events.ensures ∙ ap (λ ts. map (event_of d.version) (views ts)) c.deref-3.ensures.value in
    let check = same_check (scenario_of d) c.deref-4.result.now c.deref-5.result.now c.deref-6.result.now c.in_ok-checked.checked
    (c.deref-4.ensures.value ∙ cs) (c.deref-5.ensures.value ∙ ss) (c.deref-6.ensures.value ∙ es) c.in_ok-checked.ensures in
    refused_duplicate g.row.N d k (no_check (scenario_of d) (check ∙ c.in_default-checked.is))

pub returns-then-has_bad_supplies : goal.returns-then-has_bad_supplies
returns-then-has_bad_supplies g c =
    let d = seen c.args.self.now in
    let k = clean g.row.N d (sym c.first_refusal.ensures ∙ c.in_default.is) in
    let cs = c.in_ok-cables.ensures ∙ ap (λ ts. map cable_of (views ts)) c.deref.ensures.value in
    let ss = c.in_ok-sinks.ensures ∙ ap (λ ts. map sink_of (views ts)) c.deref-2.ensures.value in
    let es = c.in_ok-events.ensures ∙ ap (λ ts. map (event_of d.version) (views ts)) c.deref-3.ensures.value in
    let check = same_check (scenario_of d) c.deref-4.result.now c.deref-5.result.now c.deref-6.result.now c.in_ok-checked.checked
    (c.deref-4.ensures.value ∙ cs) (c.deref-5.ensures.value ∙ ss) (c.deref-6.ensures.value ∙ es) c.in_ok-checked.ensures in
    let found = a_check (scenario_of d) c.in-Some-checked.are_known (check ∙ c.in-Some-checked.is) in
    refused_supplies g.row.N d k found.single (sym c.has_bad_supplies.ensures ∙ c.if-has_bad_supplies.true)

pub all_settings-requires : goal.all_settings-requires
all_settings-requires g c =
    let d = seen c.args.self.now in
    let k = clean g.row.N d (sym c.first_refusal.ensures ∙ c.in_default.is) in
    rw c.deref-7.ensures.value
    (tables_of_ports_sound d.version g.row.N c.args.self.now.ports.items
    (sound_ports g.row.N d k (sym c.has_bad_supplies.ensures ∙ c.if-has_bad_supplies.false)))

pub returns-then-not-are_funded : goal.returns-then-not-are_funded
returns-then-not-are_funded g c =
    let d = seen c.args.self.now in
    let k = clean g.row.N d (sym c.first_refusal.ensures ∙ c.in_default.is) in
    let cs = c.in_ok-cables.ensures ∙ ap (λ ts. map cable_of (views ts)) c.deref.ensures.value in
    let ss = c.in_ok-sinks.ensures ∙ ap (λ ts. map sink_of (views ts)) c.deref-2.ensures.value in
    let es = c.in_ok-events.ensures ∙ ap (λ ts. map (event_of d.version) (views ts)) c.deref-3.ensures.value in
    let check = same_check (scenario_of d) c.deref-4.result.now c.deref-5.result.now c.deref-6.result.now c.in_ok-checked.checked
    (c.deref-4.ensures.value ∙ cs) (c.deref-5.ensures.value ∙ ss) (c.deref-6.ensures.value ∙ es) c.in_ok-checked.ensures in
    let found = a_check (scenario_of d) c.in-Some-checked.are_known (check ∙ c.in-Some-checked.is) in
    let supplied = sym c.has_bad_supplies.ensures ∙ c.if-has_bad_supplies.false in
    let later : Later g.row.N d = record { tables = k; single = found.single; supplied = supplied } in
    let st = c.in_ok-settings.ensures ∙ ap (λ ts. map settings_of (views ts)) c.deref-7.ensures.value in
    let above = same_funded (scenario_of d) c.deref-9.result.now c.deref-8.result.now c.from.result c.least_budget-least_mw.result
    c.are_funded.result (c.deref-9.ensures.value ∙ st) (c.deref-8.ensures.value ∙ es) (c.from.ensures ∙ c.top_number-budget_mw.ensures)
    c.least_budget-least_mw.ensures c.are_funded.ensures in
    refused_floors g.row.N d later (above ∙ ap not c.if-not-are_funded.true)

pub returns-then-not-are_known : goal.returns-then-not-are_known
returns-then-not-are_known g c =
    let d = seen c.args.self.now in
    let k = clean g.row.N d (sym c.first_refusal.ensures ∙ c.in_default.is) in
    let cs = c.in_ok-cables.ensures ∙ ap (λ ts. map cable_of (views ts)) c.deref.ensures.value in
    let ss = c.in_ok-sinks.ensures ∙ ap (λ ts. map sink_of (views ts)) c.deref-2.ensures.value in
    let es = c.in_ok-events.ensures ∙ ap (λ ts. map (event_of d.version) (views ts)) c.deref-3.ensures.value in
    let check = same_check (scenario_of d) c.deref-4.result.now c.deref-5.result.now c.deref-6.result.now c.in_ok-checked.checked
    (c.deref-4.ensures.value ∙ cs) (c.deref-5.ensures.value ∙ ss) (c.deref-6.ensures.value ∙ es) c.in_ok-checked.ensures in
    let found = a_check (scenario_of d) c.in-Some-checked.are_known (check ∙ c.in-Some-checked.is) in
    let supplied = sym c.has_bad_supplies.ensures ∙ c.if-has_bad_supplies.false in
    let later : Later g.row.N d = record { tables = k; single = found.single; supplied = supplied } in
    let st = c.in_ok-settings.ensures ∙ ap (λ ts. map settings_of (views ts)) c.deref-7.ensures.value in
    let above = same_funded (scenario_of d) c.deref-9.result.now c.deref-8.result.now c.from.result c.least_budget-least_mw.result
    c.are_funded.result (c.deref-9.ensures.value ∙ st) (c.deref-8.ensures.value ∙ es) (c.from.ensures ∙ c.top_number-budget_mw.ensures)
    c.least_budget-least_mw.ensures c.are_funded.ensures in
    refused_unknown g.row.N d later (above ∙ ap not c.if-not-are_funded.false) (found.unknown ∙ ap not c.if-not-are_known.true)

pub returns-then-exceeds_limit : goal.returns-then-exceeds_limit
returns-then-exceeds_limit g c =
    let d = seen c.args.self.now in
    let k = clean g.row.N d (sym c.first_refusal.ensures ∙ c.in_default.is) in
    let cs = c.in_ok-cables.ensures ∙ ap (λ ts. map cable_of (views ts)) c.deref.ensures.value in
    let ss = c.in_ok-sinks.ensures ∙ ap (λ ts. map sink_of (views ts)) c.deref-2.ensures.value in
    let es = c.in_ok-events.ensures ∙ ap (λ ts. map (event_of d.version) (views ts)) c.deref-3.ensures.value in
    let check = same_check (scenario_of d) c.deref-4.result.now c.deref-5.result.now c.deref-6.result.now c.in_ok-checked.checked
    (c.deref-4.ensures.value ∙ cs) (c.deref-5.ensures.value ∙ ss) (c.deref-6.ensures.value ∙ es) c.in_ok-checked.ensures in
    let found = a_check (scenario_of d) c.in-Some-checked.are_known (check ∙ c.in-Some-checked.is) in
    let supplied = sym c.has_bad_supplies.ensures ∙ c.if-has_bad_supplies.false in
    let later : Later g.row.N d = record { tables = k; single = found.single; supplied = supplied } in
    let st = c.in_ok-settings.ensures ∙ ap (λ ts. map settings_of (views ts)) c.deref-7.ensures.value in
    let above = same_funded (scenario_of d) c.deref-9.result.now c.deref-8.result.now c.from.result c.least_budget-least_mw.result
    c.are_funded.result (c.deref-9.ensures.value ∙ st) (c.deref-8.ensures.value ∙ es) (c.from.ensures ∙ c.top_number-budget_mw.ensures)
    c.least_budget-least_mw.ensures c.are_funded.ensures in
    let last : Last g.row.N d = record {
      later = later;
      funded = above ∙ ap not c.if-not-are_funded.false;
      known = found.unknown
          ∙ ap not c.if-not-are_known.false;
    } in
    let many = same_limit g.row.N (scenario_of d) c.deref-10.result.now c.deref-11.result.now c.deref-12.result.now c.deref-13.result.now
    c.exceeds_limit.result (c.deref-10.ensures.value ∙ st) (c.deref-11.ensures.value ∙ cs) (c.deref-12.ensures.value ∙ ss)
    (c.deref-13.ensures.value ∙ es) c.exceeds_limit.ensures in
    refused_limit g.row.N d last (many ∙ c.if-exceeds_limit.true)

pub new-requires : goal.new-requires
new-requires g c =
    let d = seen c.args.self.now in
    let k = clean g.row.N d (sym c.first_refusal.ensures ∙ c.in_default.is) in
    let cs = c.in_ok-cables.ensures ∙ ap (λ ts. map cable_of (views ts)) c.deref.ensures.value in
    let ss = c.in_ok-sinks.ensures ∙ ap (λ ts. map sink_of (views ts)) c.deref-2.ensures.value in
    let es = c.in_ok-events.ensures ∙ ap (λ ts. map (event_of d.version) (views ts)) c.deref-3.ensures.value in
    let check = same_check (scenario_of d) c.deref-4.result.now c.deref-5.result.now c.deref-6.result.now c.in_ok-checked.checked
    (c.deref-4.ensures.value ∙ cs) (c.deref-5.ensures.value ∙ ss) (c.deref-6.ensures.value ∙ es) c.in_ok-checked.ensures in
    let found = a_check (scenario_of d) c.in-Some-checked.are_known (check ∙ c.in-Some-checked.is) in
    let supplied = sym c.has_bad_supplies.ensures ∙ c.if-has_bad_supplies.false in
    let later : Later g.row.N d = record { tables = k; single = found.single; supplied = supplied } in
    let st = c.in_ok-settings.ensures ∙ ap (λ ts. map settings_of (views ts)) c.deref-7.ensures.value in
    let above = same_funded (scenario_of d) c.deref-9.result.now c.deref-8.result.now c.from.result c.least_budget-least_mw.result
    c.are_funded.result (c.deref-9.ensures.value ∙ st) (c.deref-8.ensures.value ∙ es) (c.from.ensures ∙ c.top_number-budget_mw.ensures)
    c.least_budget-least_mw.ensures c.are_funded.ensures in
    let last : Last g.row.N d = record {
      later = later;
      funded = above ∙ ap not c.if-not-are_funded.false;
      known = found.unknown
          ∙ ap not c.if-not-are_known.false;
    } in
    let many = same_limit g.row.N (scenario_of d) c.deref-10.result.now c.deref-11.result.now c.deref-12.result.now c.deref-13.result.now
    c.exceeds_limit.result (c.deref-10.ensures.value ∙ st) (c.deref-11.ensures.value ∙ cs) (c.deref-12.ensures.value ∙ ss)
    (c.deref-13.ensures.value ∙ es) c.exceeds_limit.ensures in
    let whole = same_contents (scenario_of d) c.in_ok-settings.settings.items c.in_ok-cables.cables.items c.in_ok-sinks.sinks.items
    c.in_ok-events.events.items c.top_number-budget_mw.result c.top_number-end_us.result st cs ss es c.top_number-budget_mw.ensures
    c.top_number-end_us.ensures in (
      lit< tt,
      same_valid g.row.N (scenario_of d) _ whole
          (valid g.row.N d c.requires.from_one c.requires.to_eight last (many ∙ c.if-exceeds_limit.false)),
    )

pub returns : goal.returns
returns g c =
    let d = seen c.args.self.now in
    let k = clean g.row.N d (sym c.first_refusal.ensures ∙ c.in_default.is) in
    let cs = c.in_ok-cables.ensures ∙ ap (λ ts. map cable_of (views ts)) c.deref.ensures.value in
    let ss = c.in_ok-sinks.ensures ∙ ap (λ ts. map sink_of (views ts)) c.deref-2.ensures.value in
    let es = c.in_ok-events.ensures ∙ ap (λ ts. map (event_of d.version) (views ts)) c.deref-3.ensures.value in
    let check = same_check (scenario_of d) c.deref-4.result.now c.deref-5.result.now c.deref-6.result.now c.in_ok-checked.checked
    (c.deref-4.ensures.value ∙ cs) (c.deref-5.ensures.value ∙ ss) (c.deref-6.ensures.value ∙ es) c.in_ok-checked.ensures in
    let found = a_check (scenario_of d) c.in-Some-checked.are_known (check ∙ c.in-Some-checked.is) in
    let supplied = sym c.has_bad_supplies.ensures ∙ c.if-has_bad_supplies.false in
    let later : Later g.row.N d = record { tables = k; single = found.single; supplied = supplied } in
    let st = c.in_ok-settings.ensures ∙ ap (λ ts. map settings_of (views ts)) c.deref-7.ensures.value in
    let above = same_funded (scenario_of d) c.deref-9.result.now c.deref-8.result.now c.from.result c.least_budget-least_mw.result
    c.are_funded.result (c.deref-9.ensures.value ∙ st) (c.deref-8.ensures.value ∙ es) (c.from.ensures ∙ c.top_number-budget_mw.ensures)
    c.least_budget-least_mw.ensures c.are_funded.ensures in
    let last : Last g.row.N d = record {
      later = later;
      funded = above ∙ ap not c.if-not-are_funded.false;
      known = found.unknown
          ∙ ap not c.if-not-are_known.false;
    } in
    let many = same_limit g.row.N (scenario_of d) c.deref-10.result.now c.deref-11.result.now c.deref-12.result.now c.deref-13.result.now
    c.exceeds_limit.result (c.deref-10.ensures.value ∙ st) (c.deref-11.ensures.value ∙ cs) (c.deref-12.ensures.value ∙ ss)
    (c.deref-13.ensures.value ∙ es) c.exceeds_limit.ensures in
    let whole = same_contents (scenario_of d) c.in_ok-settings.settings.items c.in_ok-cables.cables.items c.in_ok-sinks.sinks.items
    c.in_ok-events.events.items c.top_number-budget_mw.result c.top_number-end_us.result st cs ss es c.top_number-budget_mw.ensures
    c.top_number-end_us.ensures in
    same_answer (refusal g.row.N d) (scenario_of d) c.new.result (accepted g.row.N d last (many ∙ c.if-exceeds_limit.false))
    (whole ∙ sym c.new.ensures)
