-- How a step of a port is put together.
use Rattle.std.proofs.Common.{◌≡◌, ℕ, false, Option, Some, None, refl, ap, sym, ◌∙◌}
use Rattle.pd_objects.specs.declared.query.Answer.{Answer}
use Rattle.pd_objects.specs.declared.query.Query.{Query}
use Rattle.pd_objects.specs.declared.contract.Contract.{Contract}
use Rattle.pd_source.specs.Record.{SourceSettings}
use Rattle.arrayvec.specs.ArrayVec.{ArrayVec}
use Rattle.pd_line.specs.declared.notes.Fault.{Fault}
use Rattle.pd_line.specs.declared.notes.Start.{Start}
use Rattle.pd_line.specs.declared.port_parts.PortParts.{PortParts}
use Rattle.pd_line.specs.declared.port_step.PortStep.{PortStep}
use Rattle.pd_line.specs.Record.{PortRecord, without_settings}
use Rattle.pd_line.specs.Lines.{line_starts}
use Rattle.pd_port.specs.declared.due.Due.{Due}
use Rattle.pd_port.specs.declared.entry.ContractChange.{ContractChange}
use Rattle.pd_port.specs.declared.entry.Entry.{Entry}
use Rattle.pd_setup.specs.Settings.{SettingsData}
use Rattle.pd_port.proofs.Later.{portstep-settings}
use Rattle.pd_port.specs.Happens.{is_budget}
use Rattle.pd_port.specs.SourceTold.{source_told}
use Rattle.pd_port.specs.Changes.{contract_change}
use Rattle.pd_port.specs.Port.{PortData, earlier, begun, happens, portstep, whole, set_to, settings_of, asks, ask, record_after, entry_of}

-- the later of nothing
pub earlier-None : (d : Option Due) → earlier d None ≡ d
earlier-None None = refl
earlier-None (Some d) = refl

abbrev pub port_data : SettingsData → PortRecord → PortData
port_data s r = record { settings = s; port_record = r }

-- a port of this floor and these parts is seen as p
abbrev pub SeenAs : PortData → ℕ → PortParts → Type 0
SeenAs p floor_mw r = port_data (settings_of floor_mw r) (without_settings r) ≡ p

-- the step for this due, with this answer, has led from p to u
abbrev pub LedTo : PortData → Due → Option Answer → PortStep → Type 0
LedTo p d given u = u ≡ portstep (whole p.settings p.port_record) d given

-- a port's step is what its two calls do, one after the other
pub portstep_is : (r : PortParts) (d : Due) (given : Option Answer) (w v u : PortStep) → w ≡ begun r None →
    v ≡ happens d.what d.time (record w { answer = given }) → u ≡ line_starts d.time v → u ≡ portstep r d given
unfolding portstep
portstep_is r d given w v u begins first second =
    second ∙ ap (line_starts d.time) (first ∙ ap (λ (x : PortStep). happens d.what d.time (record x { answer = given })) begins)

-- the step of a port's parts is that of the port
pub led_whole : (p : PortData) (floor_mw : ℕ) (r : PortParts) (d : Due) (given : Option Answer) → SeenAs p floor_mw r →
    LedTo p d given (portstep r d given)
led_whole p floor_mw r d given view = ap (λ (q : PortData). portstep (whole q.settings q.port_record) d given) view

-- what a port asks where the budget hasn't changed is what its source asks
pub ask_told : (p : PortData) (floor_mw : ℕ) (r : PortParts) (d : Due) → SeenAs p floor_mw r → is_budget d.what ≡ false →
    ask p.settings p.port_record d ≡ asks r (source_told d.what r)
unfolding ask
ask_told p floor_mw r d view told =
    rw told (ap (λ (q : PortData). asks (whole q.settings q.port_record) (source_told d.what (whole q.settings q.port_record))) (sym view))

-- it leaves what the port is set to
pub settings_stay : (floor_mw : ℕ) (r new : PortParts) (d : Due) (given : Option Answer) → new ≡ (portstep r d given).port →
    settings_of floor_mw new ≡ settings_of floor_mw r
settings_stay floor_mw r new d given e =
    ap (λ (s : SourceSettings). set_to floor_mw s) (ap (λ (x : PortParts). x.source.settings) e ∙ portstep-settings r d given)

-- what a port is after it
pub after_is : (p : PortData) (floor_mw : ℕ) (r new : PortParts) (d : Due) (given : Option Answer) → SeenAs p floor_mw r →
    new ≡ (portstep r d given).port → SeenAs (port_data p.settings (record_after p.settings p.port_record d given)) floor_mw new
unfolding record_after
after_is p floor_mw r new d given view e =
    let same : settings_of floor_mw new ≡ p.settings =
    settings_stay floor_mw r new d given e ∙ ap (λ (q : PortData). q.settings) view in
    let done : without_settings new ≡ without_settings (portstep (whole p.settings p.port_record) d given).port =
    ap without_settings (e ∙ ap (λ (x : PortStep). x.port) (led_whole p floor_mw r d given view)) in
    ap (λ (x : SettingsData). port_data x (without_settings new)) same ∙ ap (port_data p.settings) done

-- what a step leaves to be read, from its parts
abbrev pub entry_with : Due → Option Query → ArrayVec Fault → Option ContractChange → Option Start → Entry
entry_with d query faults change start =
    record { at = d.time; due = d; query = query; faults = faults; contract = change; start = start }

-- what is left to be read
pub entry_is : (p : PortData) (u : PortStep) (d : Due) (given : Option Answer) (query : Option Query)
    (faults : ArrayVec Fault) (change : Option ContractChange) (start : Option Start) →
    LedTo p d given u → query ≡ ask p.settings p.port_record d → faults ≡ u.faults →
    change ≡ contract_change p.port_record.source.contract u.port.source.record.contract → start ≡ u.start →
    entry_with d query faults change start ≡ entry_of p.settings p.port_record d given
unfolding entry_of
entry_is p u d given query faults change start e q f h g = rw (q, f, h, g, e) refl

-- the change, from the contracts before and after
pub change_is : (p : PortData) (u : PortStep) (before after : Option Contract) (change : Option ContractChange) →
    before ≡ p.port_record.source.contract →
    after ≡ u.port.source.record.contract → change ≡ contract_change before after →
    change ≡ contract_change p.port_record.source.contract u.port.source.record.contract
change_is p u before after change b a e = e ∙ ap (λ x. contract_change x after) b ∙ ap (contract_change p.port_record.source.contract) a
