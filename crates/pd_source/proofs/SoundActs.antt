-- What the acts of a row leave of what holds of the record.
use Rattle.std.proofs.Common.{◌≡◌, ℕ, ◌≤◌, ◌-◌, inl, inr, zero, suc, Bool, true, false, not, ◌&&◌, ◌||◌, nat_le, ◌==◌, if◌then◌else◌, List}
use Rattle.std.proofs.Common.{[], ◌∷◌, Option, Some, None, option_map, unwrap_or, slice_get, slice_index, length, refl, sym, subst, ap, ◌∙◌}
use Rattle.std.proofs.Common.{arith}
use Rattle.std.specs.Option.{option_map_or}
use Rattle.std.proofs.lemmas.Bool.{not-true}
use Rattle.std.proofs.lemmas.Bool.Decides.{nat_tests}
use Rattle.pd_symbols.specs.Words.{field}
use Rattle.pd_timers.specs.Deadlines.{idle}
use Rattle.pd_objects.specs.Supply.{SupplyData}
use Rattle.pd_objects.specs.declared.contract.Contract.{Contract}
use Rattle.pd_objects.specs.declared.query.Answer.{Answer}
use Rattle.pd_objects.specs.declared.query.Answer.TheVariants as answer
use Rattle.pd_identity.specs.Identity.{limit_of}
use Rattle.pd_source.specs.declared.kinds.State.{State}
use Rattle.pd_source.specs.declared.kinds.Stimulus.{Stimulus}
use Rattle.pd_source.specs.declared.kinds.Stimulus.TheVariants as stimulus
use Rattle.pd_source.specs.declared.kinds.Deed.{Deed}
use Rattle.pd_source.specs.declared.kinds.Deed.TheVariants as deed
use Rattle.pd_source.specs.Record.{SourceSettings, SourceRecord, cable_current}
use Rattle.pd_source.specs.Request.{position_of, operating_ma, maximum_ma, is_at_most, is_valid, contract_of}
use Rattle.pd_source.specs.Table.{is_request_valid}
use Rattle.pd_source.specs.Acts.{after, all_after, limit_from, draft_from}
use Rattle.pd_source.specs.Step.{limit_after}
use Rattle.pd_source.specs.Sound.{IsLimit, AreOffered, IsOffer, current_at, IsContract, limit_in, HasNothing, is_early, is_transition}
use Rattle.pd_source.specs.Sound.{IsSound}
use Rattle.pd_source.proofs.Walk.{and-left, and-right, none_of}

-- the limit
limit_of-either : (objects : List ℕ) → IsLimit (Some (limit_of objects))
unfolding limit_of
limit_of-either objects = by_test
    (nat_le 5 (length objects) && (field (slice_index objects 1) 29 27 == 3 && field (slice_index objects 4) 6 5 == 2)) where
      by_test : (b : Bool) → IsLimit (Some (if b then 5000 else 3000))
      by_test true = inr (inr refl)
      by_test false = inr (inl refl)

pub limit_from-limit : (x : Stimulus) (limit : Option ℕ) → IsLimit limit → IsLimit (limit_from x limit)
limit_from-limit (stimulus.Identity objects) limit h = limit_of-either objects.items
limit_from-limit _ limit h = h

-- a contract that is made of a valid request
within : (n m : ℕ) → nat_le n m ≡ true → n ≤ m
within n m h = grind (arith, nat_tests)

offered-at : (limit : ℕ) (supplies : List SupplyData) (offer : List ℕ) (i ma : ℕ) → AreOffered limit supplies offer →
    slice_get offer i ≡ Some ma → (ma ≤ option_map_or (λ (supply : SupplyData). supply.ma) (slice_get supplies i) 0) × (ma ≤ limit)
offered-at limit [] [] i ma h e = absurd (cc)
offered-at limit (s ∷ ss) (m ∷ ms) zero ma h e =
    let q : m ≡ ma = cc in let k = h.0 in let l = h.1 in (omega arith, omega arith)
offered-at limit (s ∷ ss) (m ∷ ms) (suc i) ma h e = offered-at limit ss ms i ma h.2 e
offered-at limit [] (m ∷ ms) i ma h e = absurd h
offered-at limit (s ∷ ss) [] i ma h e = absurd h

offer-at : (limit : ℕ) (supplies : List SupplyData) (offer : List ℕ) (i ma : ℕ) → IsOffer limit supplies offer →
    slice_get offer i ≡ Some ma → (ma ≤ option_map_or (λ (supply : SupplyData). supply.ma) (slice_get supplies i) 0) × (ma ≤ limit)
offer-at limit supplies offer i ma (inl none) e =
    let n : slice_get offer i ≡ None = ap (λ (xs : List ℕ). slice_get xs i) none in absurd (cc)
offer-at limit supplies offer i ma (inr h) e = offered-at limit supplies offer i ma h e

made-at : (limit : ℕ) (supplies : List SupplyData) (offer : List ℕ) (object : ℕ) (o : Option ℕ) →
    slice_get offer (position_of object - 1) ≡ o → is_at_most object o ≡ true → IsOffer limit supplies offer →
    IsContract limit supplies (contract_of supplies offer object)
unfolding contract_of
made-at limit supplies offer object None e v h = absurd (cc)
made-at limit supplies offer object (Some ma) e v h =
    let k = offer-at limit supplies offer (position_of object - 1) ma h e in
    record {
      voltage = refl;
      requested = subst (λ (o : Option ℕ). maximum_ma object ≤ unwrap_or o 0) (sym e)
          (within (maximum_ma object) ma (and-right (nat_le (operating_ma object) ma) (nat_le (maximum_ma object) ma) v));
      configured = subst (λ (o : Option ℕ). unwrap_or o 0 ≤ current_at supplies (position_of object)) (sym e) k.0;
      limited = subst (λ (o : Option ℕ). unwrap_or o 0 ≤ limit) (sym e) k.1;
    }

made : (limit : ℕ) (supplies : List SupplyData) (offer : List ℕ) (request : Option ℕ) → IsOffer limit supplies offer →
    ((object : ℕ) → request ≡ Some object → is_valid offer object ≡ true) → (c : Contract) →
    option_map (contract_of supplies offer) request ≡ Some c → IsContract limit supplies c
unfolding is_valid
made limit supplies offer None h v c e = absurd (cc)
made limit supplies offer (Some object) h v c e =
    let q : contract_of supplies offer object ≡ c = cc in
    subst (λ (c : Contract). IsContract limit supplies c) q
    (made-at limit supplies offer object (slice_get offer (position_of object - 1)) refl
    (and-right (nat_le 1 (position_of object)) _ (v object refl)) h)

kept-valid : (r : SourceRecord) (q : Option ℕ) (object : ℕ) → q ≡ Some object → is_request_valid (record r { kept_request = q }) ≡ true →
    is_valid r.delivered_offer object ≡ true
kept-valid r None object e v = absurd (cc)
kept-valid r (Some o) object e v =
    let q : o ≡ object = cc in subst (λ (n : ℕ). is_valid r.delivered_offer n ≡ true) q v

-- the offer of an answer
abbrev pub Given : ℕ → List SupplyData → Option Answer → Type 0
Given limit supplies a = (currents : List ℕ) → a ≡ Some (answer.Offer (record { items = currents })) → AreOffered limit supplies currents

drafted : (limit : ℕ) (supplies : List SupplyData) (a : Option Answer) (old : List ℕ) → Given limit supplies a →
    IsOffer limit supplies old → IsOffer limit supplies (draft_from a old)
drafted limit supplies None old g h = h
drafted limit supplies (Some (answer.Offer v)) old g h = inr (g v.items refl)
drafted limit supplies (Some (answer.Fits b)) old g h = h

abbrev pub is_limit : Deed → Bool
is_limit deed.LimitFromAnswer = true
is_limit deed.CableLimit = true
is_limit _ = false

pub no-limit : (ds : List Deed) (x : Stimulus) (limit : Option ℕ) → none_of is_limit ds ≡ true → limit_after ds x limit ≡ limit
no-limit [] x limit h = refl
no-limit (deed.LimitFromAnswer ∷ ds) x limit h = absurd (cc)
no-limit (deed.CableLimit ∷ ds) x limit h = absurd (cc)
no-limit (_ ∷ ds) x limit h = no-limit ds x limit h

-- Whether acts leave what holds of the record, from a state, where a request may be accepted, nothing is offered, accepted or
-- agreed on, and the kept request is valid as told.
abbrev pub keeps : State → Bool → Bool → Bool → List Deed → Bool
keeps t accepted nothing valid [] = (not accepted || is_transition t) && (not (is_early t) || nothing)
keeps t accepted nothing valid (deed.Enter u ∷ ds) = keeps u accepted nothing valid ds
keeps t accepted nothing valid (deed.LimitFromAnswer ∷ ds) = nothing && keeps t accepted nothing valid ds
keeps t accepted nothing valid (deed.CableLimit ∷ ds) = nothing && keeps t accepted nothing valid ds
keeps t accepted nothing valid (deed.KeepRequest ∷ ds) = keeps t accepted nothing false ds
keeps t accepted nothing valid (deed.Draft ∷ ds) = none_of is_limit ds && keeps t accepted false valid ds
keeps t accepted nothing valid (deed.Settle ∷ ds) = not accepted && keeps t accepted nothing false ds
keeps t accepted nothing valid (deed.Close ∷ ds) = keeps t false nothing valid ds
keeps t accepted nothing valid (deed.Take ∷ ds) = valid && keeps t true false valid ds
keeps t accepted nothing valid (deed.Commit ∷ ds) = keeps t false false valid ds
keeps t accepted nothing valid (deed.Void ∷ ds) = keeps t false true false ds
keeps t accepted nothing valid (d ∷ ds) = keeps t accepted nothing valid ds

-- what holds of the record between two acts
pub record Stands (s : SourceSettings) (accepted nothing valid : Bool) (r : SourceRecord) : Type 0 where
  pub limit : IsLimit r.limit
  pub draft : IsOffer (limit_in r) s.supplies r.draft_offer
  pub delivered : IsOffer (limit_in r) s.supplies r.delivered_offer
  pub requested : (object : ℕ) → r.accepted_request ≡ Some object → is_valid r.delivered_offer object ≡ true
  pub contract : (c : Contract) → r.contract ≡ Some c → IsContract (limit_in r) s.supplies c
  pub none_accepted : accepted ≡ false → r.accepted_request ≡ None
  pub has_nothing : nothing ≡ true → HasNothing r
  pub is_valid : valid ≡ true → is_request_valid r ≡ true

pub implied : (b c : Bool) → not b || c ≡ true → b ≡ true → c ≡ true
implied true c h e = h
implied false c h e = absurd (cc)

excluded : (b c : Bool) → not b || c ≡ true → c ≡ false → b ≡ false
excluded true c h e = absurd (cc)
excluded false c h e = refl

none-some : (o : Option ℕ) (n : ℕ) → o ≡ None → o ≡ Some n → ⊥
none-some o n h k = absurd (cc)

no-contract : (o : Option Contract) (c : Contract) → o ≡ None → o ≡ Some c → ⊥
no-contract o c h k = absurd (cc)

-- where nothing is offered or agreed on, the limit may change
relimited : (s : SourceSettings) (accepted valid : Bool) (limit : Option ℕ) (r : SourceRecord) → IsLimit limit → HasNothing r →
    Stands s accepted true valid r → Stands s accepted true valid (record r { limit = limit })
relimited s accepted valid limit r l n h = record {
  limit = l;
  draft = inl n.draft;
  delivered = inl n.delivered;
  requested = h.requested;
  contract = λ c e. absurd (no-contract r.contract c n.contract e);
  none_accepted = h.none_accepted;
  has_nothing = λ e. record { draft = n.draft; delivered = n.delivered; accepted = n.accepted; contract = n.contract };
  is_valid = h.is_valid;
}

pub walk : (s : SourceSettings) (ds : List Deed) (now : ℕ) (x : Stimulus) (a : Option Answer) (r : SourceRecord) (t : State)
    (accepted nothing valid : Bool) → keeps t accepted nothing valid ds ≡ true → r.state ≡ t →
    Given (unwrap_or (limit_after ds x r.limit) cable_current) s.supplies a → Stands s accepted nothing valid r →
    IsSound s (all_after s ds now x a r)
walk s [] now x a r t accepted nothing valid k e g h = record {
  limit = h.limit;
  draft = h.draft;
  delivered = h.delivered;
  accepted = h.requested;
  contract = h.contract;
  accepted_in_transition = λ q. h.none_accepted
      (excluded accepted (is_transition t) (and-left (not accepted || is_transition t) (not (is_early t) || nothing) k)
      (ap is_transition (sym e) ∙ q));
  nothing_early = λ q. h.has_nothing
      (implied (is_early t) nothing (and-right (not accepted || is_transition t) (not (is_early t) || nothing) k) (ap is_early (sym e)
      ∙ q));
}
walk s (deed.Enter u ∷ ds) now x a r t accepted nothing valid k e g h =
    walk s ds now x a (record r { state = u; deadlines = idle; sent = false }) u accepted nothing valid k refl g (record {
      limit = h.limit;
      draft = h.draft;
      delivered = h.delivered;
      requested = h.requested;
      contract = h.contract;
      none_accepted = h.none_accepted;
      has_nothing = λ q. let n = h.has_nothing q in
          record { draft = n.draft; delivered = n.delivered; accepted = n.accepted; contract = n.contract };
      is_valid = h.is_valid;
    })
walk s (deed.LimitFromAnswer ∷ ds) now x a r t accepted true valid k e g h =
    walk s ds now x a (record r { limit = limit_from x r.limit }) t accepted true valid k e g
    (relimited s accepted valid (limit_from x r.limit) r (limit_from-limit x r.limit h.limit) (h.has_nothing refl) h)
walk s (deed.LimitFromAnswer ∷ ds) now x a r t accepted false valid k e g h = absurd (cc)
walk s (deed.CableLimit ∷ ds) now x a r t accepted true valid k e g h =
    walk s ds now x a (record r { limit = Some cable_current }) t accepted true valid k e g
    (relimited s accepted valid (Some cable_current) r (inr (inl refl)) (h.has_nothing refl) h)
walk s (deed.CableLimit ∷ ds) now x a r t accepted false valid k e g h = absurd (cc)
walk s (deed.KeepRequest ∷ ds) now x a r t accepted nothing valid k e g h =
    walk s ds now x a (after s deed.KeepRequest now x a r) t accepted nothing false k e g (record {
      limit = h.limit;
      draft = h.draft;
      delivered = h.delivered;
      requested = h.requested;
      contract = h.contract;
      none_accepted = h.none_accepted;
      has_nothing = λ q. let n = h.has_nothing q in
          record { draft = n.draft; delivered = n.delivered; accepted = n.accepted; contract = n.contract };
      is_valid = λ q. absurd (cc);
    })
walk s (deed.Draft ∷ ds) now x a r t accepted nothing valid k e g h =
    let l : limit_after ds x r.limit ≡ r.limit =
    no-limit ds x r.limit (and-left (none_of is_limit ds) (keeps t accepted false valid ds) k) in
    let o : Given (limit_in r) s.supplies a = subst (λ (n : Option ℕ). Given (unwrap_or n cable_current) s.supplies a) l g in
    walk s ds now x a (record r { draft_offer = draft_from a r.draft_offer }) t accepted false valid
    (and-right (none_of is_limit ds) (keeps t accepted false valid ds) k) e g (record {
      limit = h.limit;
      draft = drafted (limit_in r) s.supplies a r.draft_offer o h.draft;
      delivered = h.delivered;
      requested = h.requested;
      contract = h.contract;
      none_accepted = h.none_accepted;
      has_nothing = λ q. absurd (cc);
      is_valid = h.is_valid;
    })
walk s (deed.Settle ∷ ds) now x a r t accepted nothing valid k e g h =
    let f = h.none_accepted (not-true accepted (and-left (not accepted) (keeps t accepted nothing false ds) k)) in
    walk s ds now x a (record r { delivered_offer = r.draft_offer }) t accepted nothing false
    (and-right (not accepted) (keeps t accepted nothing false ds) k) e g (record {
      limit = h.limit;
      draft = h.draft;
      delivered = h.draft;
      requested = λ object q. absurd (none-some r.accepted_request object f q);
      contract = h.contract;
      none_accepted = h.none_accepted;
      has_nothing = λ q. let n = h.has_nothing q in
          record { draft = n.draft; delivered = n.draft; accepted = n.accepted; contract = n.contract };
      is_valid = λ q. absurd (cc);
    })
walk s (deed.Close ∷ ds) now x a r t accepted nothing valid k e g h =
    walk s ds now x a (record r { draft_offer = []; accepted_request = None }) t false nothing valid k e g (record {
      limit = h.limit;
      draft = inl refl;
      delivered = h.delivered;
      requested = λ object q. absurd (cc);
      contract = h.contract;
      none_accepted = λ q. refl;
      has_nothing = λ q. let n = h.has_nothing q in
          record { draft = refl; delivered = n.delivered; accepted = refl; contract = n.contract };
      is_valid = h.is_valid;
    })
walk s (deed.Take ∷ ds) now x a r t accepted nothing valid k e g h =
    let v = h.is_valid (and-left valid (keeps t true false valid ds) k) in
    walk s ds now x a (record r { accepted_request = r.kept_request }) t true false valid (and-right valid (keeps t true false valid ds) k)
    e g (record {
      limit = h.limit;
      draft = h.draft;
      delivered = h.delivered;
      requested = λ object q. kept-valid r r.kept_request object q v;
      contract = h.contract;
      none_accepted = λ q. absurd (cc);
      has_nothing = λ q. absurd (cc);
      is_valid = h.is_valid;
    })
walk s (deed.Commit ∷ ds) now x a r t accepted nothing valid k e g h =
    walk s ds now x a (after s deed.Commit now x a r) t false false valid k e g (record {
      limit = h.limit;
      draft = h.draft;
      delivered = h.delivered;
      requested = λ object q. absurd (cc);
      contract = made (limit_in r) s.supplies r.delivered_offer r.accepted_request h.delivered h.requested;
      none_accepted = λ q. refl;
      has_nothing = λ q. absurd (cc);
      is_valid = h.is_valid;
    })
walk s (deed.Void ∷ ds) now x a r t accepted nothing valid k e g h =
    walk s ds now x a (after s deed.Void now x a r) t false true false k e g (record {
      limit = h.limit;
      draft = inl refl;
      delivered = inl refl;
      requested = λ object q. absurd (cc);
      contract = λ c q. absurd (cc);
      none_accepted = λ q. refl;
      has_nothing = λ q. record { draft = refl; delivered = refl; accepted = refl; contract = refl };
      is_valid = λ q. absurd (cc);
    })
walk s (d ∷ ds) now x a r t accepted nothing valid k e g h =
    walk s ds now x a (after s d now x a r) t accepted nothing valid k e g (record {
      limit = h.limit;
      draft = h.draft;
      delivered = h.delivered;
      requested = h.requested;
      contract = h.contract;
      none_accepted = h.none_accepted;
      has_nothing = λ q. let n = h.has_nothing q in
          record { draft = n.draft; delivered = n.delivered; accepted = n.accepted; contract = n.contract };
      is_valid = h.is_valid;
    })
