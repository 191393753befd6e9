-- Each contract of a run is of the offer from which it was requested.
use Rattle.std.proofs.Common.{◌≡◌, ◌≢◌, ◌⊎◌, ⊎_elim, ℕ, ◌-◌, arith, Bool, true, false, ◌&&◌, nat_le, List, [], ◌∷◌, ◌++◌, Option}
use Rattle.std.proofs.Common.{Some, None, option_map, unwrap_or, refl, sym, ap, subst, ◌∙◌, inl, inr, append_assoc}
use Rattle.std.specs.Prelude.{slice_get}
use Rattle.std.proofs.lemmas.Bool.{cases_eq}
use Rattle.std.proofs.lemmas.List.Elements.{All-nil, All-push}
use Rattle.std.proofs.lemmas.Option.{same_Some, slice_get_within}
use Rattle.pd_objects.specs.declared.contract.Contract.{Contract}
use Rattle.pd_source.specs.Record.{SourceSettings, SourceRecord}
use Rattle.pd_source.specs.Request.{is_valid, is_at_most, position_of, contract_of}
use Rattle.pd_source.specs.Sound.{IsSound, IsContract, IsTaken, IsSettled, is_transition}
use Rattle.pd_source.specs.Commits.{MakesOrNot}
use Rattle.pd_setup.specs.Settings.{SettingsData}
use Rattle.pd_line.specs.Record.{nothing_attached}
use Rattle.pd_port.specs.Port.{PortRecord, source_settings, detached}
use Rattle.pd_port.specs.Sound.{Agrees}
use Rattle.pd_port.proofs.Agreed.{ports_agree}
use Rattle.pd_scenario.specs.Plan.{Plan, settings_of}
use Rattle.pd_run.specs.Run.{Move, Standing, standing, after, GoesOn}
use Rattle.pd_run.specs.Sound.{AreSound, Accepts, Makes, LeavesInForce, StaysAccepted, IsOfOffer, ContractsAreWithinOffers}
use Rattle.pd_run.proofs.Moves.{standing-same, standing-other}

-- one of these moves of the port accepted the request, it has been accepted since, and the delivered offer is still that
-- of then
pub record IsAccepted (plan : Plan) (moves : List Move) (p object : ℕ) (offer : List ℕ) : Type 0 where
  pub earlier : List Move
  pub move : Move
  pub between : List Move
  pub among : moves ≡ earlier ++ move ∷ between
  pub on_port : move.port ≡ p
  pub accepts : Accepts plan move object
  pub accepted : StaysAccepted plan p object between
  pub still : move.before.source.delivered_offer ≡ offer

-- What is kept on each port: an accepted request was accepted in a move, and a contract is of its offer.
pub record Traced (plan : Plan) (moves : List Move) (p : ℕ) (r : SourceRecord) : Type 0 where
  pub accepted : (object : ℕ) → r.accepted_request ≡ Some object → IsAccepted plan moves p object r.delivered_offer
  pub contract : (c : Contract) → r.contract ≡ Some c → IsOfOffer plan moves p c

longer : (earlier later : List Move) (m n : Move) (moves : List Move) → moves ≡ earlier ++ m ∷ later → moves ++ n ∷ [] ≡ earlier
    ++ m ∷ (later ++ n ∷ [])
longer earlier later m n moves e = ap (λ (l : List Move). l ++ n ∷ []) e ∙ append_assoc earlier (m ∷ later) (n ∷ [])

-- one more move, which leaves the request accepted where it is of the port
accepted_longer : (plan : Plan) (moves : List Move) (n : Move) (p object : ℕ) (offer new : List ℕ) → offer ≡ new
    → (n.port ≡ p → (after plan n).source.accepted_request ≡ Some object)
    → IsAccepted plan moves p object offer → IsAccepted plan (moves ++ n ∷ []) p object new
accepted_longer plan moves n p object offer new e stays h = record {
  earlier = h.earlier;
  move = h.move;
  between = h.between ++ n ∷ [];
  among = longer h.earlier h.between h.move n moves h.among;
  on_port = h.on_port;
  accepts = h.accepts;
  accepted = All-push (λ m. m.port ≡ p → (after plan m).source.accepted_request ≡ Some object) h.between n h.accepted stays;
  still = h.still ∙ e;
}

-- one more move, which leaves the contract in force where it is of the port
contract_longer : (plan : Plan) (moves : List Move) (n : Move) (p : ℕ) (c : Contract) → (n.port ≡ p → LeavesInForce plan n c)
    → IsOfOffer plan moves p c → IsOfOffer plan (moves ++ n ∷ []) p c
contract_longer plan moves n p c leaves h = record {
  earlier = h.earlier;
  move = h.move;
  between = h.between;
  making = h.making;
  since = h.since ++ n ∷ [];
  among =
      longer h.earlier (h.between ++ h.making ∷ h.since) h.move n moves h.among
      ∙ ap (λ (l : List Move). h.earlier ++ h.move ∷ l) (append_assoc h.between (h.making ∷ h.since) (n ∷ []));
  on_port = h.on_port;
  object = h.object;
  accepts = h.accepts;
  accepted = h.accepted;
  made_on_port = h.made_on_port;
  makes = h.makes;
  in_force = All-push (λ m. m.port ≡ p → LeavesInForce plan m c) h.since n h.in_force leaves;
  is_of = h.is_of;
  offered = h.offered;
  voltage = h.voltage;
  within = h.within;
}

-- a valid request's position is in the offer
right : (b c : Bool) → b && c ≡ true → c ≡ true
right true c h = h
right false c h = absurd (cc)

there : (object : ℕ) (o : Option ℕ) → is_at_most object o ≡ true → o ≡ Some (unwrap_or o 0)
there object None h = absurd (cc)
there object (Some ma) h = refl

is_there : (offer : List ℕ) (object : ℕ) → is_valid offer object ≡ true
    → slice_get offer (position_of object - 1) ≡ Some (unwrap_or (slice_get offer (position_of object - 1)) 0)
unfolding is_valid
is_there offer object h = there object (slice_get offer (position_of object - 1)) (right (nat_le 1 (position_of object)) _ h)

no_place : (object : ℕ) → is_valid [] object ≡ true → ⊥
no_place object h =
    let none : List ℕ = [] in
    let k = slice_get_within none (position_of object - 1) _ (is_there none object h) in
    absurd (omega arith)

-- the contract that a move makes of an accepted request
made_now : (plan : Plan) (moves : List Move) (n : Move) (p object : ℕ) (offer : List ℕ) (c : Contract) (limit : ℕ)
    → c ≡ contract_of (settings_of plan p).supplies offer object → is_valid offer object ≡ true →
    IsContract limit (settings_of plan p).supplies c → n.port ≡ p → Makes plan n object c → IsAccepted plan moves p object offer
    → IsOfOffer plan (moves ++ n ∷ []) p c
unfolding contract_of
made_now plan moves n p object offer c limit e valid contract on_port makes h =
    let of_then : c ≡ contract_of (settings_of plan p).supplies h.move.before.source.delivered_offer object = e
    ∙ ap (λ (l : List ℕ). contract_of (settings_of plan p).supplies l object) (sym h.still) in
    let place : c.position ≡ position_of object = ap (λ (x : Contract). x.position) e in
    let current : c.offered_ma ≡ unwrap_or (slice_get offer (position_of object - 1)) 0 = ap (λ (x : Contract). x.offered_ma) e in
    record {
      earlier = h.earlier;
      move = h.move;
      between = h.between;
      making = n;
      since = [];
      among = longer h.earlier h.between h.move n moves h.among;
      on_port = h.on_port;
      object = object;
      accepts = h.accepts;
      accepted = h.accepted;
      made_on_port = on_port;
      makes = makes;
      in_force = All-nil (λ m. m.port ≡ p → LeavesInForce plan m c);
      is_of = of_then;
      offered = ap (λ (l : List ℕ). slice_get l (c.position - 1)) h.still ∙ ap (λ n. slice_get offer (n - 1)) place
          ∙ is_there offer object valid ∙ ap Some (sym current);
      voltage = contract.voltage;
      within = contract.requested;
    }

-- an option that is mapped to something was something
mapped : (supplies : SourceSettings) (offer : List ℕ) (o : Option ℕ) (c : Contract)
    → option_map (contract_of supplies.supplies offer) o ≡ Some c → (object : ℕ) × (o ≡ Some object)
    × (c ≡ contract_of supplies.supplies offer object)
mapped s offer None c e = absurd (cc)
mapped s offer (Some object) c e = (object, refl, sym (same_Some _ _ e))

not_none : (o : Option ℕ) (object : ℕ) → o ≡ None → o ≡ Some object → ⊥
not_none o object e h = let k : None ≡ Some object = sym e ∙ h in cc

no_contract : (o : Option Contract) (c : Contract) → o ≡ None → o ≡ Some c → ⊥
no_contract o c e h = let k : None ≡ Some c = sym e ∙ h in cc

module _ (plan : Plan) (past : List Move) (m : Move) (old_sound : IsSound (source_settings (settings_of plan m.port)) m.before.source)
    (new_sound : IsSound (source_settings (settings_of plan m.port)) (after plan m).source)
    (traced : Traced plan past m.port m.before.source) where
  agrees : Agrees (source_settings (settings_of plan m.port)) m.answer m.before.source (after plan m).source
  agrees = ports_agree (settings_of plan m.port) m.before m.due m.answer

  -- the request stays: so does the offer
  stays : (object : ℕ) → m.before.source.accepted_request ≡ Some object → (after plan m).source.accepted_request ≡ Some object
      → m.before.source.delivered_offer ≡ (after plan m).source.delivered_offer
  stays object was now = by_offer agrees.delivered
    where
      by_offer : IsSettled m.before.source (after plan m).source.delivered_offer
          → m.before.source.delivered_offer ≡ (after plan m).source.delivered_offer
      by_offer (inl h) = sym h
      by_offer (inr (inl h)) = absurd (no_place object (subst (λ (l : List ℕ). is_valid l object ≡ true) h (new_sound.accepted object now)))
      by_offer (inr (inr h)) = absurd (not_none m.before.source.accepted_request object (old_sound.accepted_in_transition h.1) was)

  carried : (object : ℕ) → m.before.source.accepted_request ≡ Some object → (after plan m).source.accepted_request ≡ Some object
      → IsAccepted plan (past ++ m ∷ []) m.port object (after plan m).source.delivered_offer
  carried object was now = accepted_longer plan past m m.port object _ _ (stays object was now) (λ e. now) (traced.accepted object was)

  -- the request is accepted now
  fresh : (object : ℕ) → Accepts plan m object → m.before.source.delivered_offer ≡ (after plan m).source.delivered_offer
      → IsAccepted plan (past ++ m ∷ []) m.port object (after plan m).source.delivered_offer
  fresh object accepts same = record {
    earlier = past;
    move = m;
    between = [];
    among = refl;
    on_port = refl;
    accepts = accepts;
    accepted = All-nil (λ x. x.port ≡ m.port → (after plan x).source.accepted_request ≡ Some object);
    still = same;
  }

  -- a request is accepted in Transition_Supply alone
  in_transition : (object : ℕ) → m.before.source.accepted_request ≡ Some object → is_transition m.before.source.state ≡ true
  in_transition object was = by_state (is_transition m.before.source.state) refl
    where
      by_state : (b : Bool) → is_transition m.before.source.state ≡ b → b ≡ true
      by_state true e = refl
      by_state false e = absurd (not_none m.before.source.accepted_request object (old_sound.accepted_in_transition e) was)

  -- while a request is accepted, none is accepted anew
  none_anew : (other object : ℕ) → m.before.source.accepted_request ≡ Some other → (after plan m).source.accepted_request ≡ Some object
      → (after plan m).source.accepted_request ≡ m.before.source.accepted_request
  none_anew other object was now = by_made agrees.made
    where
      by_made : MakesOrNot (source_settings (settings_of plan m.port)) m.before.source (after plan m).source
          → (after plan m).source.accepted_request ≡ m.before.source.accepted_request
      by_made (inl h) = absurd (not_none (after plan m).source.accepted_request object h.used now)
      by_made (inr h) =
          ⊎_elim
          (λ (k : (after plan m).source.accepted_request ≡ m.before.source.accepted_request). k)
          (λ (k : (after plan m).source.accepted_request ≡ None). absurd (not_none (after plan m).source.accepted_request object k now))
          (h.none_anew (in_transition other was))

  accepted_now : (object : ℕ) → (after plan m).source.accepted_request ≡ Some object
      → IsAccepted plan (past ++ m ∷ []) m.port object (after plan m).source.delivered_offer
  accepted_now object now = by_before m.before.source.accepted_request refl
    where
      by_kept : Accepts plan m object → ((after plan m).source.delivered_offer ≡ m.before.source.delivered_offer)
          ⊎ (((after plan m).source.accepted_request ≡ m.before.source.accepted_request)
          ⊎ ((after plan m).source.accepted_request ≡ None)) →
          IsAccepted plan (past ++ m ∷ []) m.port object (after plan m).source.delivered_offer
      by_kept accepts (inl h) = fresh object accepts (sym h)
      by_kept accepts (inr (inl h)) = carried object (sym h ∙ now) now
      by_kept accepts (inr (inr h)) = absurd (not_none (after plan m).source.accepted_request object h now)

      by_taken : m.before.source.accepted_request ≡ None → IsTaken m.answer m.before.source (after plan m).source.accepted_request
          → IsAccepted plan (past ++ m ∷ []) m.port object (after plan m).source.delivered_offer
      by_taken none (inl h) = carried object (sym h ∙ now) now
      by_taken none (inr (inl h)) = absurd (not_none (after plan m).source.accepted_request object h now)
      by_taken none (inr (inr h)) = by_kept (record { none_before = none; kept = sym h.0 ∙ now; valid = h.1; fits = h.2; accepted = now })
          agrees.kept

      by_before : (o : Option ℕ) → m.before.source.accepted_request ≡ o
          → IsAccepted plan (past ++ m ∷ []) m.port object (after plan m).source.delivered_offer
      by_before None e = by_taken e agrees.accepted
      by_before (Some other) e = carried object (sym (none_anew other object e now) ∙ now) now

  contract_now : (c : Contract) → (after plan m).source.contract ≡ Some c → IsOfOffer plan (past ++ m ∷ []) m.port c
  contract_now c now = by_made agrees.made
    where
      by_made : MakesOrNot (source_settings (settings_of plan m.port)) m.before.source (after plan m).source
          → IsOfOffer plan (past ++ m ∷ []) m.port c
      by_made (inl h) =
          let k = mapped (source_settings (settings_of plan m.port)) m.before.source.delivered_offer m.before.source.accepted_request c
          (sym h.contract ∙ now) in
          made_now plan past m m.port k.0 m.before.source.delivered_offer c _ k.2 (old_sound.accepted k.0 k.1)
          (new_sound.contract c now) refl
          (record { accepted = k.1; ready = h.to_ready; contract = now; used = h.used }) (traced.accepted k.0 k.1)
      by_made (inr h) =
          ⊎_elim
          (λ (same : (after plan m).source.contract ≡ m.before.source.contract).
          contract_longer plan past m m.port c
          (λ e. record { contract = now; none_made = λ object was. h.not_ready (in_transition object was) })
          (traced.contract c (sym same ∙ now)))
          (λ (none : (after plan m).source.contract ≡ None). absurd (no_contract (after plan m).source.contract c none now))
          h.contract

  pub traced_now : Traced plan (past ++ m ∷ []) m.port (after plan m).source
  traced_now = record { accepted = accepted_now; contract = contract_now }

-- so it is on all ports
abbrev pub AllTraced : Plan → List Move → Type 0
AllTraced plan moves = (p : ℕ) → Traced plan moves p (standing plan moves p).state.source

-- a move of another port
traced_longer : (plan : Plan) (moves : List Move) (n : Move) (p : ℕ) (r : SourceRecord) → n.port ≢ p → Traced plan moves p r
    → Traced plan (moves ++ n ∷ []) p r
traced_longer plan moves n p r other h = record {
  accepted = λ object e. accepted_longer plan moves n p object _ _ refl (λ k. absurd (other k)) (h.accepted object e);
  contract = λ c e. contract_longer plan moves n p c (λ k. absurd (other k)) (h.contract c e);
}

pub traced_step : (plan : Plan) (past : List Move) (m : Move) → GoesOn plan past m → AreSound plan past → AreSound plan (past ++ m ∷ [])
    → AllTraced plan past → AllTraced plan (past ++ m ∷ [])
traced_step plan past m goes old new traced q =
    ⊎_elim
    (λ (same : m.port ≡ q).
    let s = source_settings (settings_of plan m.port) in
    let old_sound : IsSound s m.before.source = subst (λ (x : PortRecord). IsSound s x.source) (sym goes.before_is) (old m.port) in
    let new_sound : IsSound s (after plan m).source =
    subst (λ (x : Standing). IsSound s x.state.source) (standing-same plan past m m.port refl) (new m.port) in
    let before : Traced plan past m.port m.before.source =
    subst (λ (x : PortRecord). Traced plan past m.port x.source) (sym goes.before_is) (traced m.port) in
    let next : Traced plan (past ++ m ∷ []) m.port (after plan m).source = traced_now plan past m old_sound new_sound before in
    let here : Traced plan (past ++ m ∷ []) m.port (standing plan (past ++ m ∷ []) m.port).state.source =
    subst (λ (x : Standing). Traced plan (past ++ m ∷ []) m.port x.state.source) (sym (standing-same plan past m m.port refl)) next in
    subst (λ k. Traced plan (past ++ m ∷ []) k (standing plan (past ++ m ∷ []) k).state.source) same here)
    (λ (other : m.port ≢ q).
    subst (λ (x : Standing). Traced plan (past ++ m ∷ []) q x.state.source) (sym (standing-other plan past m q other))
    (traced_longer plan past m q (standing plan past q).state.source other (traced q)))
    (cases_eq m.port q)

none_at_start : (s : SettingsData) → ((detached s).source.accepted_request ≡ None) × ((detached s).source.contract ≡ None)
unfolding detached nothing_attached
none_at_start s = (refl, refl)

pub traced_start : (plan : Plan) → AllTraced plan []
traced_start plan p =
    let none = none_at_start (settings_of plan p) in
    record { accepted = λ object e. absurd (not_none _ object none.0 e); contract = λ c e. absurd (no_contract _ c none.1 e) }

pub within_offers : (plan : Plan) (moves : List Move) → AllTraced plan moves → ContractsAreWithinOffers plan moves
within_offers plan moves traced p c is = (traced p).contract c is
