-- The plans in which packets are lost.
use Rattle.std.proofs.Common.{◌≡◌, ◌⊎◌, ℕ, suc, ◌+◌, ◌-◌, ◌<◌, ◌≤◌, Bool, true, false, cond, List, [], ◌∷◌, length, map, refl, sym}
use Rattle.std.proofs.Common.{ap, ◌∙◌, subst, inl, inr, arith}
use Rattle.std.specs.Prelude.{Contains, replicate}
use Rattle.std.specs.List.{AllByRecursion, filter}
use Rattle.std.proofs.lemmas.Bool.{cases_eq}
use Rattle.pd_setup.specs.Events.{EventData, PortEventKind}
use Rattle.pd_setup.specs.declared.event.Happening.TheVariants as happens
use Rattle.pd_port.specs.declared.entry.Entry.{Entry}
use Rattle.pd_scenario.specs.Plan.{Plan, count, script_of}
use Rattle.pd_scenario.specs.Scenarios.{ScenarioData, has_id}
use Rattle.pd_sweep.specs.Along.{IsQuietBefore, earliest_of}
use Rattle.pd_sweep.specs.Lost.{IsOfRun, harm_of, lost, put_in}
use Rattle.pd_sweep.specs.Sets.{AreOfRun, losing, members, with_one}
use Rattle.pd_sweep.specs.Summaries.{AreFindings}
use Rattle.pd_sweep.specs.declared.choice.Campaign.{Campaign}
use Rattle.pd_sweep.specs.declared.choice.Loss.{Loss}
use Rattle.pd_sweep.specs.declared.findings.Findings.{Findings}
use Rattle.pd_sweep.specs.declared.packets.Target.{Target}
use Rattle.pd_sweep.specs.declared.sets.Packets.{Packets}
use Rattle.pd_sweep.specs.declared.sets.Packets.TheVariants.{One, Two, Three}
use Rattle.pd_sweep.proofs.LostLemmas.{events_are, its_events, new_there, old_there, only_one, other_script, own_script, same_count}
use Rattle.pd_sweep.proofs.LostLemmas.{length_own, same_findings, same_scripts}

-- a plan has a script for each port
abbrev pub HasScripts : Plan → Type 0
HasScripts plan = (p : ℕ) → p < count plan → p < length plan.scripts

-- the loss of a packet stands in the script of its port
abbrev pub HasLoss : Plan → Loss → Target → Type 0
HasLoss plan loss t = (p : ℕ) → p < count plan → p + 1 ≡ t.port → Contains (script_of plan p) (put_in loss t.at)

-- the id is that of an event of the scenario, or of one that stands in none
abbrev pub IsKnown : ScenarioData → ℕ → Type 0
IsKnown c id = (has_id c.events id ≡ true) ⊎ (id ≡ 0)

abbrev pub HasKnown : ScenarioData → Plan → Type 0
HasKnown c plan =
    (p : ℕ) (e : EventData) (id : ℕ) (kind : PortEventKind) → p < count plan → Contains (script_of plan p) e
    → e.happening ≡ happens.Port id kind → IsKnown c id

-- an event that was put in has no id
own_id : (loss : Loss) (at : ℕ) (e : EventData) (id : ℕ) (kind : PortEventKind) → put_in loss at ≡ e → e.happening ≡ happens.Port id kind
    → id ≡ 0
own_id loss at e id kind is h =
    let same : happens.Port 0 (harm_of loss) ≡ happens.Port id kind = ap (λ (x : EventData). x.happening) is ∙ h in
    cc

-- ---- one more packet is lost

-- an event of a script was there before, or was put in
record Before (plan : Plan) (loss : Loss) (t : Target) (p : ℕ) (e : EventData) : Type 0 where
  is : Contains (script_of plan p) e ⊎ ((p ≡ t.port - 1) × (put_in loss t.at ≡ e))

module _ (plan : Plan) (loss : Loss) (behind : ℕ) (t : Target) (has : HasScripts plan) where
  in_plan : (p : ℕ) → p < count (lost plan loss behind t) → p < count plan
  in_plan p known = rw (sym (same_count plan loss behind t)) known

  before : (p : ℕ) (e : EventData) → p < count (lost plan loss behind t) → Contains (script_of (lost plan loss behind t) p) e
      → Before plan loss t p e
  before p e known there =
      elim (cases_eq p (t.port - 1)) [
        | inl own ↦
            let its : Contains (its_events plan loss behind t) e =
            subst (λ l. Contains l e) (own_script plan loss behind t p (has p (in_plan p known)) own) there in
            elim (events_are (replicate (behind + 1) (put_in loss t.at)) t.at (script_of plan (t.port - 1)) e its) [
              | inl new ↦ record { is = inr (own, only_one (behind + 1) (put_in loss t.at) e new) }
              | inr old ↦ record { is = inl (subst (λ q. Contains (script_of plan q) e) (sym own) old) }
            ]
        | inr other ↦ record { is = inl (subst (λ l. Contains l e) (other_script plan loss behind t p other) there) }
      ]

  scripts_more : HasScripts (lost plan loss behind t)
  scripts_more p known = rw (same_scripts plan loss behind t) (has p (in_plan p known))

  known_more : (c : ScenarioData) → HasKnown c plan → HasKnown c (lost plan loss behind t)
  known_more c are p e id kind known there h =
      elim (before p e known there).is [
        | inl old ↦ are p e id kind (in_plan p known) old h
        | inr new ↦ inr (own_id loss t.at e id kind new.1 h)
      ]

  quiet_more : (port first : ℕ) → first ≤ t.at → IsQuietBefore plan port first → IsQuietBefore (lost plan loss behind t) port first
  quiet_more port first soon quiet p e known here there so =
      elim (before p e known there).is [
        | inl old ↦ quiet p e (in_plan p known) here old so
        | inr new ↦ let on_time : t.at ≡ e.at = ap (λ (x : EventData). x.at) new.1 in omega arith
      ]

  loss_stays : (other : Target) → HasLoss plan loss other → HasLoss (lost plan loss behind t) loss other
  loss_stays other there p known port =
      elim (cases_eq p (t.port - 1)) [
        | inl own ↦
            subst (λ l. Contains l (put_in loss other.at)) (sym (own_script plan loss behind t p (has p (in_plan p known)) own))
            (old_there (replicate (behind + 1) (put_in loss t.at)) t.at (script_of plan (t.port - 1)) (put_in loss other.at)
            (subst (λ q. Contains (script_of plan q) (put_in loss other.at)) own (there p (in_plan p known) port)))
        | inr other_port ↦
            subst (λ l. Contains l (put_in loss other.at)) (sym (other_script plan loss behind t p other_port))
            (there p (in_plan p known) port)
      ]

  loss_new : HasLoss (lost plan loss behind t) loss t
  loss_new p known port =
      let place : p ≡ t.port - 1 = omega arith in
      let more : replicate (behind + 1) (put_in loss t.at) ≡ put_in loss t.at ∷ replicate behind (put_in loss t.at) =
      (let count : behind + 1 ≡ suc behind = omega arith in ap (λ k. replicate k (put_in loss t.at)) count) in
      subst (λ l. Contains l (put_in loss t.at)) (sym (own_script plan loss behind t p (has p (in_plan p known)) place))
      (new_there (replicate (behind + 1) (put_in loss t.at)) t.at (script_of plan (t.port - 1)) (put_in loss t.at)
      (subst (λ l. Contains l (put_in loss t.at)) (sym more) (0, omega arith, refl)))

-- ---- all are lost

module _ (campaign : Campaign) where
  abbrev one : Plan → Target → Plan
  one plan t = lost plan campaign.loss campaign.behind t

  scripts_all : (ts : List Target) (plan : Plan) → HasScripts plan → HasScripts (losing plan campaign ts)
  scripts_all [] plan has = has
  scripts_all (t ∷ ts) plan has = scripts_all ts (one plan t) (scripts_more plan campaign.loss campaign.behind t has)

  pub known_all : (c : ScenarioData) (ts : List Target) (plan : Plan) → HasScripts plan → HasKnown c plan
      → HasKnown c (losing plan campaign ts)
  known_all c [] plan has are = are
  known_all c (t ∷ ts) plan has are =
      known_all c ts (one plan t) (scripts_more plan campaign.loss campaign.behind t has)
      (known_more plan campaign.loss campaign.behind t has c are)

  pub quiet_all : (port first : ℕ) (ts : List Target) (plan : Plan) → HasScripts plan → AllByRecursion (λ (t : Target). first ≤ t.at) ts
      → IsQuietBefore plan port first → IsQuietBefore (losing plan campaign ts) port first
  quiet_all port first [] plan has soon quiet = quiet
  quiet_all port first (t ∷ ts) plan has soon quiet =
      quiet_all port first ts (one plan t) (scripts_more plan campaign.loss campaign.behind t has) soon.1
      (quiet_more plan campaign.loss campaign.behind t has port first soon.0 quiet)

  stays_all : (other : Target) (ts : List Target) (plan : Plan) → HasScripts plan → HasLoss plan campaign.loss other
      → HasLoss (losing plan campaign ts) campaign.loss other
  stays_all other [] plan has there = there
  stays_all other (t ∷ ts) plan has there =
      stays_all other ts (one plan t) (scripts_more plan campaign.loss campaign.behind t has)
      (loss_stays plan campaign.loss campaign.behind t has other there)

  pub losses_all : (ts : List Target) (plan : Plan) → HasScripts plan
      → AllByRecursion (HasLoss (losing plan campaign ts) campaign.loss) ts
  losses_all [] plan has = tt
  losses_all (t ∷ ts) plan has =
      let more = scripts_more plan campaign.loss campaign.behind t has in (
        stays_all t ts (one plan t) more (loss_new plan campaign.loss campaign.behind t has),
        losses_all ts (one plan t) more,
      )

  pub count_all : (ts : List Target) (plan : Plan) → count (losing plan campaign ts) ≡ count plan
  count_all [] plan = refl
  count_all (t ∷ ts) plan = count_all ts (one plan t) ∙ same_count plan campaign.loss campaign.behind t

  pub findings_all : (moves : List (ℕ × Entry)) (findings : Findings) (ts : List Target) (plan : Plan) → AreFindings plan moves findings
      → AreFindings (losing plan campaign ts) moves findings
  findings_all moves findings [] plan are = are
  findings_all moves findings (t ∷ ts) plan are =
      findings_all moves findings ts (one plan t) (same_findings plan campaign.loss campaign.behind t moves findings are)

-- none of some packets starts before the first of them
pub all_later : (first : ℕ) (ps : Packets) → first ≤ earliest_of ps → AllByRecursion (λ (t : Target). first ≤ t.at) (members ps)
all_later first (One a) soon = (soon, tt)
all_later first (Two a b) soon = (omega arith, (omega arith, tt))
all_later first (Three a b d) soon = (omega arith, (omega arith, (omega arith, tt)))

-- ---- sets with one packet more

with_one_known : (n : ℕ) (ps : Packets) (t : Target) → AreOfRun n ps → IsOfRun n t → AreOfRun n (with_one ps t)
with_one_known n (One a) t are is = (are.0, (is, tt))
with_one_known n (Two a b) t are is = (are.0, (are.1.0, (is, tt)))
with_one_known n (Three a b d) t are is = are

known_if : (n : ℕ) (ps : Packets) (t : Target) (b : Bool) (ts : List Target) → AreOfRun n ps → IsOfRun n t
    → AllByRecursion (AreOfRun n) (map (with_one ps) ts) → AllByRecursion (AreOfRun n) (map (with_one ps) (cond b (t ∷ ts) ts))
known_if n ps t true ts are is rest = (with_one_known n ps t are is, rest)
known_if n ps t false ts are is rest = rest

pub further_known : (n : ℕ) (ps : Packets) (p : Target → Bool) (ts : List Target) → AreOfRun n ps → AllByRecursion (IsOfRun n) ts
    → AllByRecursion (AreOfRun n) (map (with_one ps) (filter p ts))
further_known n ps p [] are known = tt
further_known n ps p (t ∷ ts) are known = known_if n ps t (p t) (filter p ts) are known.0 (further_known n ps p ts are known.1)

-- what holds of each packet holds of each alone
pub alone_known : (n : ℕ) (ts : List Target) → AllByRecursion (IsOfRun n) ts → AllByRecursion (AreOfRun n) (map One ts)
alone_known n [] h = tt
alone_known n (t ∷ ts) h = ((h.0, tt), alone_known n ts h.1)

-- ---- few events

-- the scripts of n ports have so many events at most
abbrev pub HasFew : ℕ → ℕ → Plan → Type 0
HasFew n limit plan = (p : ℕ) → p < n → (p < length plan.scripts) × (length (script_of plan p) ≤ limit)

pub few_too : (n : ℕ) (plan : Plan) (loss : Loss) (behind : ℕ) (t : Target) (limit : ℕ) → HasFew n limit plan
    → HasFew n (limit + (behind + 1)) (lost plan loss behind t)
few_too n plan loss behind t limit few p known =
    let here = few p known in
    let longer = length_own plan loss behind t p here.0 in
    (omega (arith, here.0, same_scripts plan loss behind t), omega (arith, longer, here.1))
