-- How the count of fresh moves goes on with one more move.
use Rattle.std.proofs.Common.{◌≡◌, ℕ, ◌+◌, ◌-◌, ◌<◌, ◌≤◌, ⊎_elim, inl, inr, List, [], ◌∷◌, ◌++◌, length, map, Option}
use Rattle.std.proofs.Common.{refl, ap, sym, ◌∙◌, subst, arith, get_or, All, Contains}
use Rattle.std.proofs.lemmas.List.{get_or_default, length-map}
use Rattle.std.proofs.Math.ListN as list_map
use Rattle.pd_objects.specs.declared.query.Answer.{Answer}
use Rattle.pd_setup.specs.Settings.{SettingsData}
use Rattle.pd_port.specs.declared.due.Due.{Due}
use Rattle.pd_port.specs.Meter.{raised}
use Rattle.pd_port.specs.Port.{PortData, PortRecord}
use Rattle.pd_scenario.specs.Plan.{Plan, settings_of}
use Rattle.pd_run.specs.Run.{Move}
use Rattle.pd_keep.specs.Kept.{KeptData, kept_of, move_of, IsOwn}
use Rattle.pd_keep.specs.Charge.{Charges}
use Rattle.pd_keep.specs.Fresh.{IsSame, IsRepeated, AreFresh}

-- one more repeated move
pub fresh-push_repeated : (old_plan : Plan) (old : List Move) (plan : Plan) (ms : List Move) (m : Move) (n : ℕ)
    → AreFresh old_plan old plan ms n → IsRepeated old_plan old plan m → AreFresh old_plan old plan (ms ++ m ∷ []) n
fresh-push_repeated old_plan old plan [] m n h r = inl (r, h)
fresh-push_repeated old_plan old plan (x ∷ xs) m n h r =
    ⊎_elim
    (λ (w : IsRepeated old_plan old plan x × AreFresh old_plan old plan xs n). inl
    (w.0, fresh-push_repeated old_plan old plan xs m n w.1 r))
    (λ (w : (IsRepeated old_plan old plan x → ⊥) × ((k : ℕ) × (n ≡ k + 1) × AreFresh old_plan old plan xs k)). inr
    (w.0, (w.1.0, w.1.1, fresh-push_repeated old_plan old plan xs m w.1.0 w.1.2 r)))
    h

-- one more fresh move
pub fresh-push_fresh : (old_plan : Plan) (old : List Move) (plan : Plan) (ms : List Move) (m : Move) (n : ℕ)
    → AreFresh old_plan old plan ms n → (IsRepeated old_plan old plan m → ⊥) → AreFresh old_plan old plan (ms ++ m ∷ []) (n + 1)
fresh-push_fresh old_plan old plan [] m n h r = inr (r, (n, refl, h))
fresh-push_fresh old_plan old plan (x ∷ xs) m n h r =
    ⊎_elim
    (λ (w : IsRepeated old_plan old plan x × AreFresh old_plan old plan xs n). inl (w.0, fresh-push_fresh old_plan old plan xs m n w.1 r))
    (λ (w : (IsRepeated old_plan old plan x → ⊥) × ((k : ℕ) × (n ≡ k + 1) × AreFresh old_plan old plan xs k)). inr (
      w.0,
      (
        n,
        refl,
        subst (λ k. AreFresh old_plan old plan (xs ++ m ∷ []) k) (sym w.1.1)
            (fresh-push_fresh old_plan old plan xs m w.1.0 w.1.2 r),
      ),
    ))
    h

-- what is kept has a move only where the run that it stands for has it
pub repeated_from : (old_plan plan : Plan) (old : List KeptData) (p : ℕ) (x : PortData) (d : Due) (a : Option Answer)
    → All (IsOwn old_plan) old → x.settings ≡ settings_of plan (p - 1) → Contains old (kept_of p x d a)
    → IsRepeated old_plan (map move_of old) plan (move_of (kept_of p x d a))
repeated_from old_plan plan old p x d a own settings has =
    let k = has.0 in
    let kept : KeptData = kept_of p x d a in
    let is_own : IsOwn old_plan kept = subst (λ (y : KeptData). IsOwn old_plan y) has.2 (own k kept has.1) in (
      move_of kept,
      (k, omega (arith, length-map old move_of, has.1), list_map.get_or-map move_of old k kept ∙ ap move_of has.2),
      record { port = refl; before = refl; settings = sym is_own.settings ∙ settings; due = refl; answer = refl },
    )

make_port : SettingsData → PortRecord → PortData
make_port s r = record { settings = s; port_record = r }

-- and wherever it has it
pub repeated_to : (old_plan plan : Plan) (old : List KeptData) (p : ℕ) (x : PortData) (d : Due) (a : Option Answer) → 1 ≤ p
    → All (IsOwn old_plan) old → x.settings ≡ settings_of plan (p - 1)
    → IsRepeated old_plan (map move_of old) plan (move_of (kept_of p x d a)) → Contains old (kept_of p x d a)
unfolding make_port
repeated_to old_plan plan old p x d a one own settings has =
    let o : Move = has.0 in
    let k = has.1.0 in
    let is_same : IsSame old_plan o plan (move_of (kept_of p x d a)) = has.2 in
    let kept : KeptData = kept_of p x d a in
    let lt : k < length old = omega (arith, length-map old move_of, has.1.1) in
    let y : KeptData = get_or old k kept in
    let there : move_of y ≡ o = sym (list_map.get_or-map move_of old k kept)
    ∙ get_or_default (map move_of old) k (move_of kept) o has.1.1 ∙ has.1.2 in
    let is_own : IsOwn old_plan y = own k kept lt in
    let at : y.port - 1 ≡ o.port = ap (λ (m : Move). m.port) there in
    let port : y.port ≡ p = omega (arith, at, is_same.port, is_own.from_one, one) in
    let state : y.before.port_record ≡ x.port_record = ap (λ (m : Move). m.before) there ∙ is_same.before in
    let due : y.due ≡ d = ap (λ (m : Move). m.due) there ∙ is_same.due in
    let answer : y.answer ≡ a = ap (λ (m : Move). m.answer) there ∙ is_same.answer in
    let set : y.before.settings ≡ x.settings = is_own.settings ∙ ap (settings_of old_plan) at ∙ is_same.settings ∙ sym settings in
    let before : make_port y.before.settings y.before.port_record ≡ make_port x.settings x.port_record =
    ap (λ z. make_port z y.before.port_record) set ∙ ap (make_port x.settings) state in
    let here : y ≡ kept = is_own.made ∙ ap (λ q. kept_of q y.before y.due y.answer) port
    ∙ ap (λ (z : PortData). kept_of p z y.due y.answer) before ∙ ap (λ (e : Due). kept_of p x e y.answer) due
    ∙ ap (kept_of p x d) answer in
    (k, lt, here)

-- the count after one more move
pub fresh_step : (old_plan plan : Plan) (old : List KeptData) (ms : List Move) (p : ℕ) (x : PortData) (d : Due) (a : Option Answer)
    (first before after : ℕ) → 1 ≤ p → All (IsOwn old_plan) old → x.settings ≡ settings_of plan (p - 1)
    → Charges old (kept_of p x d a) before after
    → (n : ℕ) × AreFresh old_plan (map move_of old) plan ms n × (before ≡ raised first n)
    → (n : ℕ) × AreFresh old_plan (map move_of old) plan (ms ++ move_of (kept_of p x d a) ∷ []) n × (after ≡ raised first n)
fresh_step old_plan plan old ms p x d a first before after one own settings charges so_far =
    let n = so_far.0 in
    ⊎_elim
    (λ (w : Contains old (kept_of p x d a) × (after ≡ before)). (
      n,
      fresh-push_repeated old_plan (map move_of old) plan ms _ n so_far.1 (repeated_from old_plan plan old p x d a own settings w.0),
      w.1
          ∙ so_far.2,
    ))
    (λ (w : (Contains old (kept_of p x d a) → ⊥) × (after ≡ raised before 1)). (
      n + 1,
      fresh-push_fresh old_plan (map move_of old) plan ms _ n so_far.1
          (λ r. w.0 (repeated_to old_plan plan old p x d a one own settings r)),
      omega (arith, so_far.2, w.1),
    ))
    charges

-- beside no run each move is fresh
pub all_fresh : (a b : Plan) (ms : List Move) (n : ℕ) → AreFresh a [] b ms n → n ≡ length ms
all_fresh a b [] n h = h
all_fresh a b (m ∷ ms) n h =
    ⊎_elim
    (λ (w : IsRepeated a [] b m × AreFresh a [] b ms n). absurd (omega (arith, w.0.1.1)))
    (λ (w : (IsRepeated a [] b m → ⊥) × ((k : ℕ) × (n ≡ k + 1) × AreFresh a [] b ms k)). omega (arith, w.1.1, all_fresh a b ms w.1.0 w.1.2))
    h
