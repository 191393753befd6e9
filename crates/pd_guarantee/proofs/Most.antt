-- No port ever holds more than its greatest hold.
use Rattle.std.proofs.Common.{◌≡◌, ℕ, zero, suc, ◌-◌, ◌*◌, ◌≤◌, true, nat_le, max, fold, map, List, [], ◌∷◌, ◌++◌}
use Rattle.std.proofs.Common.{Option, Some, None, slice_get, inl, inr, refl, sym, subst, arith}
use Rattle.std.specs.Option.{option_map_or}
use Rattle.std.proofs.lemmas.Bool.Decides.{nat_tests}
use Rattle.std.proofs.lemmas.Bool.{and_parts}
use Rattle.std.proofs.Math.Nat.{mul-le-mul_left}
use Rattle.pd_objects.specs.Supply.{SupplyData}
use Rattle.pd_objects.specs.Answers.{AreWithin}
use Rattle.pd_objects.specs.declared.contract.Contract.{Contract}
use Rattle.pd_setup.specs.Settings.{SettingsData, floor_of}
use Rattle.pd_source.specs.Request.{is_at_most, is_valid, maximum_ma, operating_ma, position_of, power_of as asked_power, voltage_at}
use Rattle.pd_source.specs.Sound.{AreOffered, IsContract, IsOffer, current_at, limit_in}
use Rattle.pd_source.specs.Step.{contracted, hold_of, powers, requested}
use Rattle.pd_source.proofs.Powers.{fold_max-powers, least-fold_max, powers-ended}
use Rattle.pd_port.specs.Port.{PortRecord, hold, source_settings}
use Rattle.pd_port.specs.Sound.{IsSoundPort}
use Rattle.pd_scenario.specs.Plan.{Plan, settings_of}
use Rattle.pd_run.specs.Run.{Move, Run, standing}
use Rattle.pd_run.proofs.Sound.{runs_are_sound}
use Rattle.pd_guarantee.specs.Bounds.{greatest_hold, power_of}
use Rattle.pd_guarantee.specs.Laws.{HoldsAreBounded}

-- no supply has more power
Within : ℕ → List SupplyData → Type 0
Within most [] = Unit {0}
Within most (s ∷ ss) = (s.mv * s.ma ≤ most) × Within most ss

each_within : (n most : ℕ) (ss : List SupplyData) → fold max n (map power_of ss) ≤ most → Within most ss
unfolding Within
each_within n most [] h = tt
each_within n most (s ∷ ss) h =
    let first = least-fold_max (max n (s.mv * s.ma)) (map power_of ss) in
    (omega arith, each_within (max n (s.mv * s.ma)) most ss h)

-- so much of a supply's current
part_within : (most mv part ma : ℕ) → part ≤ ma → mv * ma ≤ most → mv * part ≤ most
part_within most mv part ma le h = let times = mul-le-mul_left mv le in omega arith

-- an offer of these supplies
offered_within : (limit most : ℕ) (ss : List SupplyData) (offer : List ℕ) → AreOffered limit ss offer → Within most ss
    → AreWithin most ss offer
unfolding Within
offered_within limit most [] [] h w = tt
offered_within limit most (s ∷ ss) (ma ∷ mas) h w =
    (part_within most s.mv ma s.ma h.0 w.0, offered_within limit most ss mas h.2 w.1)
offered_within limit most [] (ma ∷ mas) h w = absurd h
offered_within limit most (s ∷ ss) [] h w = absurd h

offer_within : (limit most n : ℕ) (ss : List SupplyData) (offer : List ℕ) → IsOffer limit ss offer → Within most ss → n ≤ most
    → fold max n (powers ss offer) ≤ most
offer_within limit most n ss offer (inl none) w h =
    let nothing : fold max n (powers ss []) ≤ most =
    subst (λ (l : List ℕ). fold max n l ≤ most) (sym (powers-ended ss [] (inr refl))) h in
    subst (λ (l : List ℕ). fold max n (powers ss l) ≤ most) (sym none) nothing
offer_within limit most n ss offer (inr h) w le = fold_max-powers most n ss offer (offered_within limit most ss offer h w) le

-- the supply at a place, if there is one, at no more than its current
mv_at : List SupplyData → ℕ → ℕ
mv_at ss i = option_map_or (λ (s : SupplyData). s.mv) (slice_get ss i) 0

ma_at : List SupplyData → ℕ → ℕ
ma_at ss i = option_map_or (λ (s : SupplyData). s.ma) (slice_get ss i) 0

at_place : (most : ℕ) (ss : List SupplyData) (i ma : ℕ) → Within most ss → ma ≤ ma_at ss i → mv_at ss i * ma ≤ most
unfolding Within mv_at ma_at
at_place most [] i ma w le = omega arith
at_place most (s ∷ ss) zero ma w le = part_within most s.mv ma s.ma le w.0
at_place most (s ∷ ss) (suc i) ma w le = at_place most ss i ma w.1 le

contract_within : (most limit : ℕ) (ss : List SupplyData) (c : Contract) → Within most ss → IsContract limit ss c → c.mv * c.ma ≤ most
unfolding voltage_at mv_at ma_at
contract_within most limit ss c w is =
    let le : c.ma ≤ current_at ss c.position = let a = is.requested in let b = is.configured in omega arith in
    subst (λ mv. mv * c.ma ≤ most) (sym is.voltage) (at_place most ss (c.position - 1) c.ma w le)

-- what is offered at a place is within the supply there
offered_at : (limit : ℕ) (ss : List SupplyData) (offer : List ℕ) (i ma : ℕ) → AreOffered limit ss offer → slice_get offer i ≡ Some ma
    → ma ≤ ma_at ss i
unfolding ma_at
offered_at limit [] [] i ma h e = absurd (cc)
offered_at limit (s ∷ ss) (m ∷ ms) zero ma h e = let q : m ≡ ma = cc in let k = h.0 in omega arith
offered_at limit (s ∷ ss) (m ∷ ms) (suc i) ma h e = offered_at limit ss ms i ma h.2 e
offered_at limit [] (m ∷ ms) i ma h e = absurd h
offered_at limit (s ∷ ss) [] i ma h e = absurd h

offer_at : (limit : ℕ) (ss : List SupplyData) (offer : List ℕ) (i ma : ℕ) → IsOffer limit ss offer → slice_get offer i ≡ Some ma
    → ma ≤ ma_at ss i
offer_at limit ss offer i ma (inl none) e =
    let nothing : slice_get [] i ≡ Some ma = subst (λ (l : List ℕ). slice_get l i ≡ Some ma) none e in absurd (cc)
offer_at limit ss offer i ma (inr h) e = offered_at limit ss offer i ma h e

at_most : (n m : ℕ) → nat_le n m ≡ true → n ≤ m
at_most n m h = grind (arith, nat_tests)

-- a valid request asks for no more than is offered there
asked_at : (limit : ℕ) (ss : List SupplyData) (offer : List ℕ) (object i : ℕ) (o : Option ℕ) → IsOffer limit ss offer
    → slice_get offer i ≡ o → is_at_most object o ≡ true → maximum_ma object ≤ ma_at ss i
asked_at limit ss offer object i None h e v = absurd (cc)
asked_at limit ss offer object i (Some ma) h e v =
    let le = at_most (maximum_ma object) ma (and_parts (nat_le (operating_ma object) ma) (nat_le (maximum_ma object) ma) v).1 in
    let within = offer_at limit ss offer i ma h e in
    omega arith

request_within : (most limit : ℕ) (ss : List SupplyData) (offer : List ℕ) (object : ℕ) → Within most ss → IsOffer limit ss offer
    → is_valid offer object ≡ true → asked_power ss object ≤ most
unfolding is_valid asked_power voltage_at mv_at
request_within most limit ss offer object w h v =
    let place = position_of object - 1 in
    let there = and_parts (nat_le 1 (position_of object)) (is_at_most object (slice_get offer place)) v in
    at_place most ss place (maximum_ma object) w (asked_at limit ss offer object place _ h refl there.1)

-- what a source holds beside its floor
contracted_within : (most limit : ℕ) (ss : List SupplyData) (o : Option Contract) → Within most ss
    → ((c : Contract) → o ≡ Some c → IsContract limit ss c) → contracted o ≤ most
contracted_within most limit ss None w h = omega arith
contracted_within most limit ss (Some c) w h = contract_within most limit ss c w (h c refl)

requested_within : (most limit : ℕ) (s : SettingsData) (offer : List ℕ) (o : Option ℕ) → Within most s.supplies
    → IsOffer limit s.supplies offer → ((object : ℕ) → o ≡ Some object → is_valid offer object ≡ true)
    → requested (source_settings s) o ≤ most
requested_within most limit s offer None w h v = omega arith
requested_within most limit s offer (Some object) w h v = request_within most limit s.supplies offer object w h (v object refl)

pub hold_within : (s : SettingsData) (r : PortRecord) → IsSoundPort s r → hold s r ≤ greatest_hold s
unfolding hold hold_of greatest_hold
hold_within s r is =
    let most = greatest_hold s in
    let floor : floor_of s ≤ most = least-fold_max (floor_of s) (map power_of s.supplies) in
    let w = each_within (floor_of s) most s.supplies (omega arith) in
    let contract = contracted_within most (limit_in r.source) s.supplies r.source.contract w is.contract in
    let request =
    requested_within most (limit_in r.source) s r.source.delivered_offer r.source.accepted_request w is.delivered is.accepted in
    offer_within (limit_in r.source) most _ s.supplies r.source.draft_offer is.draft w (omega arith)

pub hold_in_run : (plan : Plan) (moves done rest : List Move) → Run plan moves → moves ≡ done ++ rest → (p : ℕ)
    → hold (settings_of plan p) (standing plan done p).state ≤ greatest_hold (settings_of plan p)
hold_in_run plan moves done rest run e p =
    hold_within (settings_of plan p) (standing plan done p).state ((runs_are_sound plan moves run).sources done rest e p)

pub holds_are_bounded : HoldsAreBounded
holds_are_bounded c plan moves done rest is run e p = hold_in_run plan moves done rest run e p
