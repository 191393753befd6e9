use Rattle.std.proofs.Common.{◌≡◌, ℕ, ◌-◌, ◌+◌, ◌*◌, ◌<◌, ◌≤◌, ⊎_elim, List, ap, arith, length, map, refl, sym, ◌∙◌, subst, slice_index_or}
use Rattle.std.proofs.lemmas.Bool.{cases_lt}
use Rattle.std.proofs.lemmas.List.{get_or_default, length-map, same_lists}
use Rattle.std.proofs.Math.ListN as list_map
use Rattle.pd_setup.specs.Settings.{floor_of}
use Rattle.pd_scenario.specs.Plan.{no_settings, settings_of}
use Rattle.pd_keep.proofs.rerun.have_same_floors.Goals as goal

pub loop-place-preserved : goal.loop-place-preserved
loop-place-preserved g c = λ p lt.
    let i = c.loop-place.place in
    let old = c.args.old.now in
    let plan = c.args.plan.now in
    let here : i + 1 - 1 ≡ i = omega arith in
    let floor : floor_of (settings_of old (i + 1 - 1)) ≡ floor_of (settings_of plan (i + 1 - 1)) =
    ap floor_of (sym c.settings.ensures.settings) ∙ ap (λ k. k * 1000) (sym c.floor_mw.ensures.value ∙ c.if-floor_mw.false
    ∙ c.floor_mw-in-loop-place.ensures.value)
    ∙ ap floor_of c.settings-in-loop-place.ensures.settings in
    ⊎_elim
    (λ (earlier : p < i). c.loop-place.invariant p earlier)
    (λ (last : i ≤ p).
    let same : i + 1 - 1 ≡ p = omega arith in
    subst (λ q. floor_of (settings_of old q) ≡ floor_of (settings_of plan q)) same floor)
    (cases_lt p i)

pub returns-then-floor_mw : goal.returns-then-floor_mw
returns-then-floor_mw g c = (
  λ told. absurd cc,
  λ same.
      let i = c.loop-place.place in
      let old = c.args.old.now in
      let plan = c.args.plan.now in
      let here : i ≡ i + 1 - 1 = omega arith in
      let floors : floor_of (settings_of old i) ≡ floor_of (settings_of plan i) =
      sym (list_map.get_or-map floor_of old.settings i no_settings)
      ∙ ap (λ (l : List ℕ). slice_index_or l i (floor_of no_settings)) same
      ∙ list_map.get_or-map floor_of plan.settings i no_settings in
      let there : floor_of (settings_of old (i + 1 - 1)) ≡ floor_of (settings_of plan (i + 1 - 1)) =
      subst (λ q. floor_of (settings_of old q) ≡ floor_of (settings_of plan q)) here floors in
      let one : c.floor_mw.result * 1000 ≡ floor_of (settings_of old (i + 1 - 1)) =
      ap (λ k. k * 1000) c.floor_mw.ensures.value ∙ ap floor_of c.settings.ensures.settings in
      let other : c.floor_mw-in-loop-place.result * 1000 ≡ floor_of (settings_of plan (i + 1 - 1)) =
      ap (λ k. k * 1000) c.floor_mw-in-loop-place.ensures.value ∙ ap floor_of c.settings-in-loop-place.ensures.settings in
      let equal : c.floor_mw.result * 1000 ≡ c.floor_mw-in-loop-place.result * 1000 = one ∙ there ∙ sym other in
      absurd (c.if-floor_mw.true (omega arith)),
)

pub returns : goal.returns
returns g c = (
  λ _.
      let old = c.args.old.now in
      let plan = c.args.plan.now in
      let over = c.loop-place-test.false in
      let count = c.end.ensures.is_plan.settings_count in
      let count_too = c.end-2.ensures.is_plan.settings_count in
      let long = length-map old.settings floor_of in
      let long_too = length-map plan.settings floor_of in
      same_lists (map floor_of old.settings) (map floor_of plan.settings) (omega arith) (λ p d lt.
      let inside : p < length old.settings = omega arith in
      let inside_too : p < length plan.settings = omega arith in
      get_or_default (map floor_of old.settings) p d (floor_of no_settings) lt ∙ list_map.get_or-map floor_of old.settings p no_settings
      ∙ c.loop-place.invariant p (omega arith)
      ∙ sym (get_or_default (map floor_of plan.settings) p d (floor_of no_settings) (omega arith)
      ∙ list_map.get_or-map floor_of plan.settings p no_settings)),
  λ _. refl,
)
