-- What a port offers is within what is told of it.
use Rattle.std.proofs.Common.{◌≡◌, ◌⊎◌, ℕ, zero, suc, ◌/◌, ◌≤◌, map, List, [], ◌∷◌, ◌++◌, Option, inl, inr}
use Rattle.std.proofs.Common.{refl, sym, ap, ◌∙◌, subst, arith, append_assoc}
use Rattle.std.proofs.Math.Nat.{div-mul-le_self, div-zero}
use Rattle.std.proofs.lemmas.Nat.{le-div}
use Rattle.pd_objects.specs.Supply.{SupplyData}
use Rattle.pd_source.specs.Record.{SourceRecord}
use Rattle.pd_source.specs.Sound.{IsLimit, limit_in}
use Rattle.pd_port.specs.Sound.{IsSoundPort}
use Rattle.pd_ledger.specs.Account.{free_of}
use Rattle.pd_ledger.specs.Offer.{offered}
use Rattle.pd_scenario.specs.Plan.{Plan, settings_of}
use Rattle.pd_run.specs.Run.{Move, Run, Standing, account_after, after}
use Rattle.pd_run.proofs.Moves.{standing-same}
use Rattle.pd_run.proofs.Sound.{runs_are_sound}
use Rattle.pd_why.specs.Laws.{IsOfLastOffer, IsOfShare}
use Rattle.pd_why.specs.Looks.{share_at}
use Rattle.pd_why.proofs.LawLemmas.{capabilities_offered, shares_told}
use Rattle.pd_guarantee.specs.Bounds.{five_amperes, free_at_least, free_at_most, three_amperes}
use Rattle.pd_guarantee.specs.Charger.{Charger, IsOf}
use Rattle.pd_guarantee.specs.Laws.{AreBetween, AreBoundedObjects, CapabilitiesAreBounded, IsBetween, OffersAreBounded}
use Rattle.pd_guarantee.proofs.Free.{free_between}
use Rattle.pd_guarantee.proofs.Kept.{in_run}

-- ---- more free power gives no less current

quotient_rises : (a b k : ℕ) → a ≤ b → a / k ≤ b / k
quotient_rises a b zero le = omega (arith, div-zero a, div-zero b)
quotient_rises a b (suc k) le = le-div (a / suc k) b (suc k) (omega arith) (let times = div-mul-le_self a (suc k) in omega arith)

offered_rises : (a b limit : ℕ) (s : SupplyData) → a ≤ b → offered a limit s ≤ offered b limit s
unfolding offered
offered_rises a b limit s le = let more = quotient_rises a b s.mv le in omega arith

are_between : (least most free limit : ℕ) (ss : List SupplyData) → IsBetween least most free
    → AreBetween least most limit ss (map (offered free limit) ss)
are_between least most free limit [] h = tt
are_between least most free limit (s ∷ ss) h = (
  record { no_less = offered_rises least free limit s h.no_less; no_more = offered_rises free most limit s h.no_more },
  are_between least most free limit ss h,
)

-- ---- a limit is that of a cable of 5 A or of another

limit_known : (r : SourceRecord) → IsLimit r.limit → (limit_in r ≡ five_amperes) ⊎ (limit_in r ≡ three_amperes)
limit_known r (inl none) = inr (ap (λ (o : Option ℕ). limit_in (record r { limit = o })) none)
limit_known r (inr (inl three)) = inr (ap (λ (o : Option ℕ). limit_in (record r { limit = o })) three)
limit_known r (inr (inr five)) = inl (ap (λ (o : Option ℕ). limit_in (record r { limit = o })) five)

sound_after : (plan : Plan) (moves past rest : List Move) (m : Move) → Run plan moves → moves ≡ past ++ m ∷ rest
    → IsSoundPort (settings_of plan m.port) (after plan m)
sound_after plan moves past rest m run e =
    let split : moves ≡ (past ++ m ∷ []) ++ rest = e ∙ sym (append_assoc past (m ∷ []) rest) in
    subst (λ (x : Standing). IsSoundPort (settings_of plan m.port) x.state) (standing-same plan past m m.port refl)
    ((runs_are_sound plan moves run).sources (past ++ m ∷ []) rest split m.port)

-- ---- offers

share_is_free : (plan : Plan) (past : List Move) (p at : ℕ)
    → (share_at plan past p at).free ≡ free_of (account_after plan past at) p
unfolding share_at
share_is_free plan past p at = refl

pub offers_are_bounded : OffersAreBounded
offers_are_bounded c plan moves past rest m of run e currents made =
    let share : IsOfShare plan past m currents = shares_told.offers plan moves run past rest m e currents made in
    let known = in_run plan past m rest (subst (Run plan) e run) in
    let free = free_between c plan moves past (m ∷ rest) of run e m.port m.due.time known.goes.known known.soon in
    let told : IsBetween (free_at_least c m.port) (free_at_most c m.port) (share_at plan past m.port m.due.time).free =
    subst (IsBetween (free_at_least c m.port) (free_at_most c m.port)) (sym (share_is_free plan past m.port m.due.time)) free in
    let limit = limit_in (after plan m).source in
    let supplies = (settings_of plan m.port).supplies in
    let same : currents ≡ map (offered (share_at plan past m.port m.due.time).free limit) supplies =
    share.currents_are
    ∙ ap (λ n. map (offered (share_at plan past m.port m.due.time).free n) share.supplies.items) share.limit_is
    ∙ ap (map (offered (share_at plan past m.port m.due.time).free limit)) share.supplies_are in
    record {
      limit = limit_known (after plan m).source (sound_after plan moves past rest m run e).limit;
      between = subst (AreBetween (free_at_least c m.port) (free_at_most c m.port) limit supplies) (sym same)
          (are_between (free_at_least c m.port) (free_at_most c m.port) (share_at plan past m.port m.due.time).free limit supplies told);
    }

last_is_bounded : (c : Charger) (plan : Plan) (moves past rest : List Move) (p : ℕ) (objects : List ℕ) → IsOf c plan → Run plan moves
    → moves ≡ past ++ rest → IsOfLastOffer plan past p objects → AreBoundedObjects c plan past p objects
last_is_bounded c plan moves past rest p objects of run e last =
    let l = last.last in
    let split : moves ≡ l.earlier ++ l.offering ∷ (l.since ++ rest) =
    e ∙ ap (λ (x : List Move). x ++ rest) l.among ∙ append_assoc l.earlier (l.offering ∷ l.since) rest in
    record {
      of = last;
      bounded = offers_are_bounded c plan moves l.earlier (l.since ++ rest) l.offering of run split last.currents l.offers;
    }

pub capabilities_are_bounded : CapabilitiesAreBounded
capabilities_are_bounded c plan moves past rest m of run e packet fate starts kind =
    elim (capabilities_offered plan moves run past rest m e packet fate starts kind) [
      | inl again ↦ inl again
      | inr last ↦ inr (last_is_bounded c plan moves (past ++ m ∷ []) rest m.port packet.objects of run
          (e ∙ sym (append_assoc past (m ∷ []) rest)) last)
    ]
