-- A port's source stays sound.
use Rattle.std.proofs.Common.{◌≡◌, ℕ, Bool, true, false, ◌&&◌, if◌then◌else◌, is_some, Option, Some, None, refl, ap, sym, subst}
use Rattle.std.specs.Option.{option_and_then}
use Rattle.arrayvec.specs.ArrayVec.{ArrayVec}
use Rattle.pd_objects.specs.Supply.{SupplyData}
use Rattle.pd_objects.specs.declared.query.Answer.{Answer}
use Rattle.pd_objects.specs.declared.query.Answer.TheVariants as answers
use Rattle.pd_objects.specs.declared.query.Query.{Query}
use Rattle.pd_objects.specs.declared.query.Query.TheVariants as query
use Rattle.pd_source.specs.declared.kinds.State.{State}
use Rattle.pd_source.specs.declared.kinds.State.TheVariants as state
use Rattle.pd_source.specs.declared.kinds.Stimulus.{Stimulus}
use Rattle.pd_source.specs.declared.kinds.Stimulus.TheVariants as told
use Rattle.pd_source.specs.Record.{SourceSettings, SourceRecord, off}
use Rattle.pd_source.specs.Table.{holds, heard_of, row_of, asks_offer, is_request_valid}
use Rattle.pd_source.specs.Step.{before_row, row_at, deeds_at, query_of, offer_query, fit_query, row_query, limit_after, polls, decides}
use Rattle.pd_source.specs.Sound.{IsSound, IsAnswer}
use Rattle.pd_source.proofs.SoundSteps.{sound-off, sound-stepped}
use Rattle.pd_line.specs.Record.{PortRecord, nothing_attached}
use Rattle.pd_setup.specs.Settings.{SettingsData}
use Rattle.pd_port.specs.declared.due.Due.{Due}
use Rattle.pd_port.specs.Happens.{is_budget, is_detach}
use Rattle.pd_port.specs.Laws.{source_after_told}
use Rattle.pd_port.specs.SourceTold.{source_told, told_if_shed}
use Rattle.pd_port.specs.Port.{detached, source_settings, whole, ask, record_after}
use Rattle.pd_port.specs.Sound.{IsSoundPort, IsAnswerTo, PortsStaySound}
use Rattle.pd_port.proofs.Asked.{source_when, ask_when, record_after-source}

sound_start : (s : SettingsData) → IsSoundPort s (detached s)
unfolding detached nothing_attached
sound_start s = sound-off (source_settings s)

-- a source that is told to shed asks nothing
silent : (s : SourceSettings) (r : SourceRecord) (t : State) (a b c : Option Query) →
    (if polls t (heard_of told.Shed) then a else (if decides t (heard_of told.Shed) then b
    else (if asks_offer (row_of (holds s None r) t (heard_of told.Shed)).next then c else None))) ≡ None
unfolding row_of
silent s r state.Off a b c = refl
silent s r _ a b c = refl

shed_asks : (s : SourceSettings) (r : SourceRecord) → query_of s told.Shed r ≡ None
unfolding query_of
shed_asks s r =
    silent s r r.state (Some (offer_query s r.limit)) (fit_query s r)
    (Some (offer_query s (limit_after (deeds_at s told.Shed None r) told.Shed r.limit)))

shed_sound : (s : SourceSettings) (t : ℕ) (a : Option Answer) (r : SourceRecord) → IsSound s r →
    IsSound s (source_after_told s t (told_if_shed a) None r)
shed_sound s t (Some (answers.Fits false)) r h =
    sound-stepped s t told.Shed None r h (subst (λ (q : Option Query). IsAnswer s q None) (sym (shed_asks s r)) refl)
shed_sound s t _ r h = h

told_sound : (s : SourceSettings) (t : ℕ) (x : Option Stimulus) (a : Option Answer) (r : SourceRecord) → IsSound s r →
    IsAnswer s (option_and_then (λ y. query_of s y r) x) a → IsSound s (source_after_told s t x a r)
told_sound s t None a r h q = h
told_sound s t (Some x) a r h q = sound-stepped s t x a r h q

either_sound : (b : Bool) (s : SourceSettings) (r : SourceRecord) → IsSound s r → IsSound s (if b then off s else r)
either_sound true s r h = sound-off s
either_sound false s r h = h

by_budget : (b : Bool) (s : SettingsData) (r : PortRecord) (d : Due) (a : Option Answer) → IsSoundPort s r →
    IsAnswer (source_settings s) (ask_when b s r d) a → IsSound (source_settings s) (source_when b s r d a)
by_budget true s r d a h q = shed_sound (source_settings s) d.time a r.source h
by_budget false s r d a h q =
    either_sound (is_detach d.what && is_some r.cable) (source_settings s) _
    (told_sound (source_settings s) d.time (source_told d.what (whole s r)) a r.source h q)

sound_after : (s : SettingsData) (r : PortRecord) (d : Due) (a : Option Answer) → IsSoundPort s r →
    IsAnswerTo s r d a → IsSoundPort s (record_after s r d a)
unfolding ask
sound_after s r d a h q = subst (IsSound (source_settings s)) (sym (record_after-source s r d a)) (by_budget (is_budget d.what) s r d a h q)

-- offers are asked for on the port's supplies
if_offer : (b : Bool) (s : SourceSettings) (l : Option ℕ) (supplies : ArrayVec SupplyData) (limit : ℕ) →
    (if b then Some (offer_query s l) else None) ≡ Some (query.Offer supplies limit) → supplies.items ≡ s.supplies
if_offer true s l supplies limit e =
    let own : ArrayVec SupplyData = record { items = s.supplies } in
    let same : own ≡ supplies = cc in
    ap (λ (x : ArrayVec SupplyData). x.items) (sym same)
if_offer false s l supplies limit e = absurd (cc)

if_fits : (b : Bool) (n : ℕ) (supplies : ArrayVec SupplyData) (limit : ℕ) →
    (if b then Some (query.Fits n) else None) ≡ Some (query.Offer supplies limit) → ⊥
if_fits true n supplies limit e = cc
if_fits false n supplies limit e = cc

by_query : (b c : Bool) (s : SourceSettings) (x : Stimulus) (r : SourceRecord) (supplies : ArrayVec SupplyData) (limit : ℕ) →
    (if b then Some (offer_query s r.limit) else (if c then fit_query s r else row_query s x (before_row x r)))
    ≡ Some (query.Offer supplies limit) → supplies.items ≡ s.supplies
by_query true c s x r supplies limit e = if_offer true s r.limit supplies limit e
by_query false true s x r supplies limit e = absurd (if_fits (is_request_valid r) _ supplies limit e)
by_query false false s x r supplies limit e =
    let z = before_row x r in
    if_offer (asks_offer (row_at s x None z).next) s (limit_after (deeds_at s x None z) x z.limit) supplies limit e

of_query : (s : SourceSettings) (x : Stimulus) (r : SourceRecord) (supplies : ArrayVec SupplyData) (limit : ℕ) →
    query_of s x r ≡ Some (query.Offer supplies limit) → supplies.items ≡ s.supplies
unfolding query_of
of_query s x r supplies limit e = by_query (polls r.state (heard_of x)) (decides r.state (heard_of x)) s x r supplies limit e

of_told : (s : SourceSettings) (x : Option Stimulus) (r : SourceRecord) (supplies : ArrayVec SupplyData) (limit : ℕ) →
    option_and_then (λ y. query_of s y r) x ≡ Some (query.Offer supplies limit) → supplies.items ≡ s.supplies
of_told s None r supplies limit e = absurd (cc)
of_told s (Some x) r supplies limit e = of_query s x r supplies limit e

of_ask : (b : Bool) (s : SettingsData) (r : PortRecord) (d : Due) (supplies : ArrayVec SupplyData) (limit : ℕ) →
    ask_when b s r d ≡ Some (query.Offer supplies limit) → supplies.items ≡ s.supplies
of_ask true s r d supplies limit e = absurd (cc)
of_ask false s r d supplies limit e = of_told (source_settings s) (source_told d.what (whole s r)) r.source supplies limit e

on_supplies : (s : SettingsData) (r : PortRecord) (d : Due) (supplies : ArrayVec SupplyData) (limit : ℕ) →
    ask s r d ≡ Some (query.Offer supplies limit) → supplies.items ≡ s.supplies
unfolding ask
on_supplies s r d supplies limit e = of_ask (is_budget d.what) s r d supplies limit e

pub ports_stay_sound : PortsStaySound
ports_stay_sound = record { at_start = sound_start; after_each = sound_after; on_supplies = on_supplies }
