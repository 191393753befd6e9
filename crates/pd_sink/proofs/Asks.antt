-- What a sink asks of an offer.
use Rattle.std.proofs.Common.{◌≡◌, inl, inr, ℕ, ◌+◌, ◌*◌, ◌%◌, ◌<◌, ◌≤◌, nat_lt, nat_le, ◌==◌, Bool, true, false, ◌&&◌, if◌then◌else◌, List}
use Rattle.std.proofs.Common.{[], ◌∷◌, length, Option, Some, None, refl, arith}
use Rattle.std.specs.Option.{MatchOption, IfSome}
use Rattle.std.specs.List.{All}
use Rattle.std.proofs.lemmas.List.Elements.{All-nil, All-cons, All-contains}
use Rattle.pd_symbols.specs.Words.{field}
use Rattle.pd_objects.specs.RequestObject.{request_word_of}
use Rattle.pd_setup.specs.declared.sink.SinkMode.{SinkMode}
use Rattle.pd_setup.specs.declared.sink.SinkMode.TheVariants as mode
use Rattle.pd_sink.specs.declared.rule.Offered.{Offered}
use Rattle.pd_setup.specs.Sinks.{SinkData}
use Rattle.pd_sink.specs.Rule.{need_of, is_accepted, supply_at, accepted, accepted_from, IsFitting, IsGreatest, short_ma, mismatch_ma, Asks}
use Rattle.pd_sink.specs.Choice.{chosen, asked_of}
use Rattle.pd_sink.specs.Objects.{request_object}
use Rattle.pd_sink.specs.Laws.{Requests}
use Rattle.pd_sink.proofs.Needs.{IsNeed-need_of}
use Rattle.pd_sink.proofs.Chosen.{Falls, lt-true, and-true, found-fitting, topped-greatest}

-- what is true of a supply that a sink accepts, at a position below n
record Stands (n : ℕ) (o : Offered) : Type 0 where
  position_fits : o.position < n
  has_voltage : 0 < o.mv
  current_fits : o.ma ≤ 10230
  steps : o.ma % 10 ≡ 0

stands-at : (sink : SinkData) (n position w : ℕ) → position < n → is_accepted sink w ≡ true → Stands n (supply_at position w)
stands-at sink n position w h e =
    let q = and-true (field w 31 30 == 0) (nat_lt 0 (field w 19 10 * 50) && nat_le (field w 19 10 * 50) sink.max_mv) e in
    let r = and-true (nat_lt 0 (field w 19 10 * 50)) (nat_le (field w 19 10 * 50) sink.max_mv) q.1 in
    record {
      position_fits = h;
      has_voltage = lt-true 0 (field w 19 10 * 50) r.0;
      current_fits = omega arith;
      steps = omega arith;
    }

stands-more : (sink : SinkData) (n position w : ℕ) (t : Bool) (os : List Offered) → position < n → is_accepted sink w ≡ t →
    All (Stands n) os → All (Stands n) (if t then supply_at position w ∷ os else os)
stands-more sink n position w true os h e all = All-cons (Stands n) (supply_at position w) os (stands-at sink n position w h e) all
stands-more sink n position w false os h e all = all

stands-accepted : (sink : SinkData) (n position : ℕ) (offer : List ℕ) → position + length offer ≤ n →
    All (Stands n) (accepted_from sink position offer)
stands-accepted sink n position [] h = All-nil (Stands n)
stands-accepted sink n position (w ∷ ws) h =
    stands-more sink n position w (is_accepted sink w) (accepted_from sink (position + 1) ws) (omega arith) refl
    (stands-accepted sink n (position + 1) ws (omega arith))

asks-chosen : (sink : SinkData) (supplies : List Offered) (n : ℕ) (f g : Option Offered) → All (Stands n) supplies →
    MatchOption f (All (Falls sink.demand_mw) supplies) (IsFitting sink.demand_mw supplies) →
    MatchOption g (supplies ≡ []) (IsGreatest supplies) → Asks sink supplies (chosen sink f g)
asks-chosen sink supplies n (Some o) g all h k =
    let v = All-contains (Stands n) supplies o all h.offered in
    inl (record {
      supply = o;
      fitting = h;
      position = refl;
      current = IsNeed-need_of o.mv sink.demand_mw v.has_voltage;
      no_mismatch = refl;
    })
asks-chosen sink supplies n None (Some o) all h k =
    inr (record { supply = o; none_fits = h; greatest = k; position = refl; current = refl; mismatch = refl })
asks-chosen sink supplies n None None all h k = k

pub Asks-asked_of : (sink : SinkData) (offer : List ℕ) → Asks sink (accepted sink offer) (asked_of sink offer)
unfolding asked_of
Asks-asked_of sink offer =
    asks-chosen sink (accepted sink offer) (1 + length offer) _ _ (stands-accepted sink (1 + length offer) 1 offer (omega arith))
    (found-fitting sink.demand_mw (accepted sink offer)) (topped-greatest (accepted sink offer))

requests-of : (p m : ℕ) (b : Bool) → p < 8 → m ≤ 10230 → m % 10 ≡ 0 →
    Requests (request_object (record { position = p; ma = m; mismatch = b })) (record { position = p; ma = m; mismatch = b })
unfolding request_word_of
requests-of p m true h k l =
    record {
      reserved = omega arith;
      position = omega arith;
      no_give_back = omega arith;
      mismatch = omega arith;
      no_other_flag = omega arith;
      operating_current = omega arith;
      maximum_current = omega arith;
    }
requests-of p m false h k l =
    record {
      reserved = omega arith;
      position = omega arith;
      no_give_back = omega arith;
      mismatch = omega arith;
      no_other_flag = omega arith;
      operating_current = omega arith;
      maximum_current = omega arith;
    }

short-fits : (m : SinkMode) (needed offered : ℕ) → offered ≤ 10230 → short_ma m needed offered ≤ 10230
short-fits mode.Greedy needed offered h = omega arith
short-fits mode.Plain needed offered h = h
short-fits mode.PowerDelivery needed offered h = h

short-steps : (m : SinkMode) (needed offered : ℕ) → needed % 10 ≡ 0 → offered % 10 ≡ 0 → short_ma m needed offered % 10 ≡ 0
short-steps mode.Greedy needed offered h k = omega arith
short-steps mode.Plain needed offered h k = k
short-steps mode.PowerDelivery needed offered h k = k

requests-chosen : (sink : SinkData) (supplies : List Offered) (f g : Option Offered) → All (Stands 8) supplies →
    MatchOption f (All (Falls sink.demand_mw) supplies) (IsFitting sink.demand_mw supplies) →
    MatchOption g (supplies ≡ []) (IsGreatest supplies) → IfSome (chosen sink f g) (λ a. Requests (request_object a) a)
requests-chosen sink supplies (Some o) g all h k =
    let v = All-contains (Stands 8) supplies o all h.offered in
    let a = v.current_fits in
    let b = h.enough in
    let need = IsNeed-need_of o.mv sink.demand_mw v.has_voltage in
    requests-of o.position (need_of o.mv sink.demand_mw) false v.position_fits (omega arith) need.steps
requests-chosen sink supplies None (Some o) all h k =
    let v = All-contains (Stands 8) supplies o all k.offered in
    let needed = need_of o.mv sink.demand_mw in
    let need = IsNeed-need_of o.mv sink.demand_mw v.has_voltage in
    requests-of o.position (mismatch_ma sink o) true v.position_fits
    (short-fits sink.mode needed o.ma v.current_fits) (short-steps sink.mode needed o.ma need.steps v.steps)
requests-chosen sink supplies None None all h k = tt

pub Requests-asked_of : (sink : SinkData) (offer : List ℕ) → length offer ≤ 7 →
    IfSome (asked_of sink offer) (λ a. Requests (request_object a) a)
unfolding asked_of
Requests-asked_of sink offer h =
    requests-chosen sink (accepted sink offer) _ _ (stands-accepted sink 8 1 offer (omega arith))
    (found-fitting sink.demand_mw (accepted sink offer)) (topped-greatest (accepted sink offer))
