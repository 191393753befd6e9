-- Each port's source is sound at each place of a run.
use Rattle.std.proofs.Common.{◌≡◌, ◌≢◌, ⊎_elim, ℕ, ◌≤◌, List, [], ◌∷◌, ◌++◌, map, nat_le, Option, Some, None, option_map, refl, sym}
use Rattle.std.proofs.Common.{subst, arith, append_assoc}
use Rattle.std.proofs.lemmas.List.{append-nil}
use Rattle.std.proofs.lemmas.Bool.{cases_eq}
use Rattle.arrayvec.specs.ArrayVec.{ArrayVec}
use Rattle.pd_objects.specs.Supply.{SupplyData}
use Rattle.pd_objects.specs.declared.query.Query.{Query}
use Rattle.pd_objects.specs.declared.query.Query.TheVariants as query
use Rattle.pd_source.specs.Sound.{AreOffered, IsAnswer}
use Rattle.pd_setup.specs.Settings.{SettingsData}
use Rattle.pd_port.specs.Port.{source_settings, ask}
use Rattle.pd_port.specs.Sound.{IsSoundPort, IsAnswerTo}
use Rattle.pd_port.specs.Cables.{KnowsCable}
use Rattle.pd_port.proofs.Sound.{ports_stay_sound}
use Rattle.pd_port.proofs.Cables.{ports_know_cables, contract_is_rated}
use Rattle.pd_ledger.specs.Account.{Account, free_of, total_with}
use Rattle.pd_ledger.specs.Offer.{offered, answer_of}
use Rattle.pd_scenario.specs.Plan.{Plan, settings_of}
use Rattle.pd_run.specs.Order.{EachAfter}
use Rattle.pd_run.specs.Run.{Move, Run, Standing, standing, after, account_after, GoesOn, IsAnswered}
use Rattle.pd_run.specs.Sound.{AreSound, StaysSound}
use Rattle.pd_run.proofs.Moves.{standing-same, standing-other}
use Rattle.pd_run.proofs.Offers.{AllTraced, traced_start, traced_step, within_offers}

-- what is answered to an offer is within the supplies and the limit
in_supply : (free limit_ma : ℕ) (s : SupplyData) → offered free limit_ma s ≤ s.ma
unfolding offered
in_supply free limit_ma s = omega arith

in_limit : (free limit_ma : ℕ) (s : SupplyData) → offered free limit_ma s ≤ limit_ma
unfolding offered
in_limit free limit_ma s = omega arith

are_offered : (free limit_ma : ℕ) (supplies : List SupplyData) → AreOffered limit_ma supplies (map (offered free limit_ma) supplies)
are_offered free limit_ma [] = tt
are_offered free limit_ma (s ∷ rest) = (in_supply free limit_ma s, in_limit free limit_ma s, are_offered free limit_ma rest)

answered : (s : SettingsData) (a : Account) (p : ℕ) (q : Option Query)
    → ((supplies : ArrayVec SupplyData) (limit : ℕ) → q ≡ Some (query.Offer supplies limit) → supplies.items ≡ s.supplies) →
    IsAnswer (source_settings s) q (option_map (answer_of a p) q)
answered s a p None own = refl
answered s a p (Some (query.Offer supplies limit)) own = (
  map (offered (free_of a p) limit) supplies.items,
  subst (λ (l : List SupplyData). AreOffered limit l (map (offered (free_of a p) limit) supplies.items)) (own supplies limit refl)
      (are_offered (free_of a p) limit supplies.items),
  refl,
)
answered s a p (Some (query.Fits power)) own = (nat_le power (free_of a p), refl)
answered s a p (Some (query.Keep power)) own = (nat_le (total_with a p power) a.budget, refl)

sound_step : (plan : Plan) (past : List Move) (m : Move) → GoesOn plan past m → IsAnswered plan past m → AreSound plan past
    → AreSound plan (past ++ m ∷ [])
sound_step plan past m goes is_answered sound q =
    ⊎_elim
    (λ (same : m.port ≡ q).
    let s = settings_of plan m.port in
    let before : IsSoundPort s m.before = subst (IsSoundPort s) (sym goes.before_is) (sound m.port) in
    let right : IsAnswerTo s m.before m.due m.answer =
    subst (IsAnswerTo s m.before m.due) (sym is_answered)
    (answered s (account_after plan past m.due.time) m.port (ask s m.before m.due) (ports_stay_sound.on_supplies s m.before m.due)) in
    let next : IsSoundPort s (after plan m) = ports_stay_sound.after_each s m.before m.due m.answer before right in
    let here : IsSoundPort s (standing plan (past ++ m ∷ []) m.port).state =
    subst (λ (x : Standing). IsSoundPort s x.state) (sym (standing-same plan past m m.port refl)) next in
    subst (λ k. IsSoundPort (settings_of plan k) (standing plan (past ++ m ∷ []) k).state) same here)
    (λ (other : m.port ≢ q). subst (λ (x : Standing). IsSoundPort (settings_of plan q) x.state)
    (sym (standing-other plan past m q other)) (sound q))
    (cases_eq m.port q)

-- after these moves each port's source knows no more of its cable than the cable is rated at
abbrev AllKnow : Plan → List Move → Type 0
AllKnow plan moves = (p : ℕ) → KnowsCable (standing plan moves p).state

know_step : (plan : Plan) (past : List Move) (m : Move) → GoesOn plan past m → AllKnow plan past → AllKnow plan (past ++ m ∷ [])
know_step plan past m goes know q =
    ⊎_elim
    (λ (same : m.port ≡ q).
    let before : KnowsCable m.before = subst KnowsCable (sym goes.before_is) (know m.port) in
    let next : KnowsCable (after plan m) = ports_know_cables.after_each (settings_of plan m.port) m.before m.due m.answer before in
    let here : KnowsCable (standing plan (past ++ m ∷ []) m.port).state =
    subst (λ (x : Standing). KnowsCable x.state) (sym (standing-same plan past m m.port refl)) next in
    subst (λ k. KnowsCable (standing plan (past ++ m ∷ []) k).state) same here)
    (λ (other : m.port ≢ q). subst (λ (x : Standing). KnowsCable x.state) (sym (standing-other plan past m q other)) (know q))
    (cases_eq m.port q)

-- what is kept along a run
record Keeps (plan : Plan) (moves : List Move) : Type 0 where
  sound : AreSound plan moves
  know : AllKnow plan moves
  traced : AllTraced plan moves

keeps_all : (plan : Plan) (past done rest : List Move) → EachAfter (GoesOn plan) past (done ++ rest)
    → EachAfter (IsAnswered plan) past (done ++ rest) → Keeps plan past → Keeps plan (past ++ done)
keeps_all plan past [] rest goes is_answered keeps = subst (Keeps plan) (sym (append-nil past)) keeps
keeps_all plan past (m ∷ ms) rest goes is_answered keeps =
    let sound = sound_step plan past m goes.0 is_answered.0 keeps.sound in
    subst (Keeps plan) (append_assoc past (m ∷ []) ms)
    (keeps_all plan (past ++ m ∷ []) ms rest goes.1 is_answered.1
    (record {
      sound = sound;
      know = know_step plan past m goes.0 keeps.know;
      traced =
          traced_step plan past m goes.0 keeps.sound sound keeps.traced;
    }))

keeps_at : (plan : Plan) (moves : List Move) → Run plan moves → (done rest : List Move) → moves ≡ done ++ rest → Keeps plan done
keeps_at plan moves run done rest e =
    keeps_all plan [] done rest (subst (EachAfter (GoesOn plan) []) e run.chained) (subst (EachAfter (IsAnswered plan) []) e run.answered)
    (record {
      sound = λ p. ports_stay_sound.at_start (settings_of plan p);
      know = λ p. ports_know_cables.at_start (settings_of plan p);
      traced = traced_start plan;
    })

pub runs_are_sound : (plan : Plan) (moves : List Move) → Run plan moves → StaysSound plan moves
runs_are_sound plan moves run = record {
  sources = λ done rest e. (keeps_at plan moves run done rest e).sound;
  contracts = λ done rest e p c is. ((keeps_at plan moves run done rest e).sound p).contract c is;
  offers = λ done rest e. within_offers plan done (keeps_at plan moves run done rest e).traced;
  rated = λ done rest e p c is.
      let k = keeps_at plan moves run done rest e in contract_is_rated (settings_of plan p) (standing plan done p).state c
      (k.sound p) (k.know p) is;
}
