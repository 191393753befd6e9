-- The limit of a step, and the offers that are made under it.
use Rattle.std.proofs.Common.{◌≡◌, ℕ, ◌⊎◌, inl, inr, Bool, true, false, if◌then◌else◌, List, [], ◌∷◌, Option, Some, None, unwrap_or, refl}
use Rattle.std.proofs.Common.{sym, subst, ap, ◌∙◌}
use Rattle.arrayvec.specs.ArrayVec.{ArrayVec}
use Rattle.pd_timers.specs.declared.Timer.TheVariants as timer
use Rattle.pd_objects.specs.Supply.{SupplyData}
use Rattle.pd_objects.specs.declared.query.Answer.{Answer}
use Rattle.pd_objects.specs.declared.query.Answer.TheVariants as answer
use Rattle.pd_objects.specs.declared.query.Query.{Query}
use Rattle.pd_objects.specs.declared.query.Query.TheVariants as query
use Rattle.pd_source.specs.declared.kinds.State.{State}
use Rattle.pd_source.specs.declared.kinds.State.TheVariants as state
use Rattle.pd_source.specs.declared.kinds.Heard.{Heard}
use Rattle.pd_source.specs.declared.kinds.Heard.TheVariants as heard
use Rattle.pd_source.specs.declared.kinds.Stimulus.{Stimulus}
use Rattle.pd_source.specs.declared.kinds.Stimulus.TheVariants as stimulus
use Rattle.pd_source.specs.declared.kinds.Deed.{Deed}
use Rattle.pd_source.specs.declared.kinds.Deed.TheVariants as deed
use Rattle.pd_source.specs.Record.{SourceSettings, SourceRecord, cable_current}
use Rattle.pd_source.specs.Table.{Row, row, Ended, Guard, Always, OfferDiffers, Same, SC, holds, heard_of, row_of, deeds_of_row, asks_offer}
use Rattle.pd_source.specs.Table.{is_request_valid}
use Rattle.pd_source.specs.Acts.{after, all_after, limit_from, draft_from}
use Rattle.pd_source.specs.Step.{before_row, row_at, deeds_at, stepped, query_of, requested, offer_query, fit_query, row_query, limit_after}
use Rattle.pd_source.specs.Step.{polls, decides}
use Rattle.pd_source.specs.Sound.{AreOffered, limit_in, IsAnswer, IsOfAnswer}
use Rattle.pd_source.proofs.Walk.{none_of}
use Rattle.pd_source.proofs.Answered.{row-same, state-before}
use Rattle.pd_source.proofs.SoundActs.{Given, is_limit, no-limit}

limit-before : (x : Stimulus) (r : SourceRecord) → (before_row x r).limit ≡ r.limit
limit-before (stimulus.Sent m) r = refl
limit-before (stimulus.Ended t) r = refl
limit-before _ r = refl

-- the rows of a poll change no limit
abbrev pub polling : Row
polling = row 28 (state.Ready ∷ state.WaitNewCapabilities ∷ []) (Ended timer.OfferPoll ∷ []) OfferDiffers SC []

abbrev pub again : Row
again = row 29 (state.Ready ∷ state.WaitNewCapabilities ∷ []) (Ended timer.OfferPoll ∷ []) Always Same (deed.Start timer.OfferPoll ∷ [])

one_of : (b : Bool) (p q : Row) → ((if b then p else q) ≡ p) ⊎ ((if b then p else q) ≡ q)
one_of true p q = inl refl
one_of false p q = inr refl

polled : (g : Guard → Bool) → g Always ≡ true → (t : State) (h : Heard) → polls t h ≡ true →
    (row_of g t h ≡ polling) ⊎ (row_of g t h ≡ again)
unfolding row_of
polled g k state.Ready (heard.Ended timer.OfferPoll) e = rw k (one_of (g OfferDiffers) polling again)
polled g k state.WaitNewCapabilities (heard.Ended timer.OfferPoll) e = rw k (one_of (g OfferDiffers) polling again)
polled g k _ _ e = absurd (cc)

poll-unlimited : (g : Guard → Bool) (w : Row) → (w ≡ polling) ⊎ (w ≡ again) → none_of is_limit (deeds_of_row g w) ≡ true
poll-unlimited g w (inl e) = subst (λ (w : Row). none_of is_limit (deeds_of_row g w) ≡ true) (sym e) refl
poll-unlimited g w (inr e) = subst (λ (w : Row). none_of is_limit (deeds_of_row g w) ≡ true) (sym e) refl

no-offer : (limit : ℕ) (supplies : List SupplyData) (a : Option Answer) → a ≡ None → Given limit supplies a
no-offer limit supplies a e currents q = absurd (cc)

fits-no-offer : (limit : ℕ) (supplies : List SupplyData) (a : Option Answer) (b : Bool) → a ≡ Some (answer.Fits b) → Given limit supplies a
fits-no-offer limit supplies a b e currents q = absurd (cc)

some-offer : (limit : ℕ) (supplies : List SupplyData) (a : Option Answer) (offer : List ℕ) → AreOffered limit supplies offer →
    a ≡ Some (answer.Offer (record { items = offer })) → Given limit supplies a
some-offer limit supplies a offer h e currents q =
    let k : offer ≡ currents = ap (λ (o : Option Answer). draft_from o []) (sym e ∙ q) in
    subst (λ (xs : List ℕ). AreOffered limit supplies xs) k h

-- what the answer offers is offered under the limit that the row leaves
abbrev pub IsGiven : SourceSettings → Stimulus → Option Answer → SourceRecord → Type 0
IsGiven s x a z = Given (unwrap_or (limit_after (deeds_at s x a z) x z.limit) cable_current) s.supplies a

pub limit-poll : (s : SourceSettings) (x : Stimulus) (a : Option Answer) (r : SourceRecord) → polls r.state (heard_of x) ≡ true →
    limit_after (deeds_at s x a (before_row x r)) x (before_row x r).limit ≡ r.limit
limit-poll s x a r p =
    let z = before_row x r in
    let w = polled (holds s a z) refl z.state (heard_of x) (ap (λ t. polls t (heard_of x)) (state-before x r) ∙ p) in
    no-limit (deeds_at s x a z) x z.limit (poll-unlimited (holds s a z) (row_at s x a z) w) ∙ limit-before x r

pub deeds-row : (s : SourceSettings) (x : Stimulus) (a : Option Answer) (r : SourceRecord) → polls r.state (heard_of x) ≡ false →
    decides r.state (heard_of x) ≡ false → deeds_at s x a (before_row x r) ≡ deeds_at s x None (before_row x r)
deeds-row s x a r p d =
    let z = before_row x r in
    let u : polls z.state (heard_of x) ≡ false = ap (λ t. polls t (heard_of x)) (state-before x r) ∙ p in
    let v : decides z.state (heard_of x) ≡ false = ap (λ t. decides t (heard_of x)) (state-before x r) ∙ d in
    ap (λ (w : Row). deeds_of_row (holds s a z) w) (row-same s a None z z.state (heard_of x) u v)

given-poll : (s : SourceSettings) (x : Stimulus) (a : Option Answer) (r : SourceRecord) → polls r.state (heard_of x) ≡ true →
    IsAnswer s (Some (offer_query s r.limit)) a → IsGiven s x a (before_row x r)
given-poll s x a r p q =
    subst (λ (n : Option ℕ). Given (unwrap_or n cable_current) s.supplies a) (sym (limit-poll s x a r p))
    (some-offer (limit_in r) s.supplies a q.0 q.1 q.2)

given-fit : (s : SourceSettings) (limit : ℕ) (a : Option Answer) (power : ℕ) (b : Bool) →
    IsAnswer s (if b then Some (query.Fits power) else None) a → Given limit s.supplies a
given-fit s limit a power true q = fits-no-offer limit s.supplies a q.0 q.1
given-fit s limit a power false q = no-offer limit s.supplies a q

given-row : (s : SourceSettings) (x : Stimulus) (a : Option Answer) (z : SourceRecord) (b : Bool) → deeds_at s x a z ≡ deeds_at s x None z →
    IsAnswer s (if b then Some (offer_query s (limit_after (deeds_at s x None z) x z.limit)) else None) a → IsGiven s x a z
given-row s x a z true e q =
    subst (λ (ds : List Deed). Given (unwrap_or (limit_after ds x z.limit) cable_current) s.supplies a) (sym e)
    (some-offer (unwrap_or (limit_after (deeds_at s x None z) x z.limit) cable_current) s.supplies a q.0 q.1 q.2)
given-row s x a z false e q = no-offer (unwrap_or (limit_after (deeds_at s x a z) x z.limit) cable_current) s.supplies a q

given-cases : (s : SourceSettings) (x : Stimulus) (a : Option Answer) (r : SourceRecord) (b c : Bool) → polls r.state (heard_of x) ≡ b →
    decides r.state (heard_of x) ≡ c →
    IsAnswer s (if b then Some (offer_query s r.limit) else (if c then fit_query s r else row_query s x (before_row x r))) a →
    IsGiven s x a (before_row x r)
given-cases s x a r true c p d q = given-poll s x a r p q
given-cases s x a r false true p d q =
    given-fit s (unwrap_or (limit_after (deeds_at s x a (before_row x r)) x (before_row x r).limit) cable_current) a
    (requested s r.kept_request) (is_request_valid r) q
given-cases s x a r false false p d q =
    given-row s x a (before_row x r) (asks_offer (row_at s x None (before_row x r)).next) (deeds-row s x a r p d) q

pub given : (s : SourceSettings) (x : Stimulus) (a : Option Answer) (r : SourceRecord) → IsAnswer s (query_of s x r) a →
    IsGiven s x a (before_row x r)
unfolding query_of
given s x a r q = given-cases s x a r (polls r.state (heard_of x)) (decides r.state (heard_of x)) refl refl q

-- the limit after a step is that after the row's acts
limit-all : (s : SourceSettings) (ds : List Deed) (now : ℕ) (x : Stimulus) (a : Option Answer) (r : SourceRecord) →
    (all_after s ds now x a r).limit ≡ limit_after ds x r.limit
limit-all s [] now x a r = refl
limit-all s (d ∷ ds) now x a r = limit-all s ds now x a (after s d now x a r) ∙ limit-head s d ds now x a r where
  limit-head : (s : SourceSettings) (d : Deed) (ds : List Deed) (now : ℕ) (x : Stimulus) (a : Option Answer) (r : SourceRecord) →
      limit_after ds x (after s d now x a r).limit ≡ limit_after (d ∷ ds) x r.limit
  limit-head s deed.LimitFromAnswer ds now x a r = refl
  limit-head s _ ds now x a r = refl

asked_limit : Option Query → ℕ
asked_limit (Some (query.Offer supplies limit)) = limit
asked_limit _ = 0

some-limit : (b : Bool) (q : Query) (supplies : ArrayVec SupplyData) (limit : ℕ) →
    (if b then Some q else None) ≡ Some (query.Offer supplies limit) → asked_limit (Some q) ≡ limit
unfolding asked_limit
some-limit true q supplies limit h = ap asked_limit h
some-limit false q supplies limit h = absurd (cc)

no-fit : (b : Bool) (power : ℕ) (supplies : ArrayVec SupplyData) (limit : ℕ) →
    (if b then Some (query.Fits power) else None) ≡ Some (query.Offer supplies limit) → ⊥
no-fit true power supplies limit h = absurd (cc)
no-fit false power supplies limit h = absurd (cc)

asked-cases : (s : SourceSettings) (x : Stimulus) (a : Option Answer) (r : SourceRecord) (supplies : ArrayVec SupplyData) (limit : ℕ)
    (b c : Bool) → polls r.state (heard_of x) ≡ b → decides r.state (heard_of x) ≡ c →
    (if b then Some (offer_query s r.limit) else (if c then fit_query s r else row_query s x (before_row x r))) ≡ Some
    (query.Offer supplies limit) → unwrap_or (limit_after (deeds_at s x a (before_row x r)) x (before_row x r).limit) cable_current ≡ limit
unfolding asked_limit
asked-cases s x a r supplies limit true c p d q =
    ap (λ (n : Option ℕ). unwrap_or n cable_current) (limit-poll s x a r p) ∙ some-limit true (offer_query s r.limit) supplies limit q
asked-cases s x a r supplies limit false true p d q = absurd (no-fit (is_request_valid r) (requested s r.kept_request) supplies limit q)
asked-cases s x a r supplies limit false false p d q =
    let z = before_row x r in
    ap (λ (ds : List Deed). unwrap_or (limit_after ds x z.limit) cable_current) (deeds-row s x a r p d)
    ∙ some-limit (asks_offer (row_at s x None z).next) (offer_query s (limit_after (deeds_at s x None z) x z.limit)) supplies limit q

-- an offer is asked for under the limit that the step leaves
pub asked-stepped : (s : SourceSettings) (now : ℕ) (x : Stimulus) (a : Option Answer) (r : SourceRecord) (supplies : ArrayVec SupplyData)
    (limit : ℕ) → query_of s x r ≡ Some (query.Offer supplies limit) → limit_in (stepped s now x a r) ≡ limit
unfolding query_of stepped
asked-stepped s now x a r supplies limit q =
    let z = before_row x r in
    ap (λ (n : Option ℕ). unwrap_or n cable_current) (limit-all s (deeds_at s x a z) now x a z)
    ∙ asked-cases s x a r supplies limit (polls r.state (heard_of x)) (decides r.state (heard_of x)) refl refl q

-- a limit comes from the plug's answer, or is the one of each cable
abbrev IsFrom : Option ℕ → Stimulus → Option ℕ → Type 0
IsFrom old x new = (new ≡ old) ⊎ ((new ≡ Some cable_current) ⊎ IsOfAnswer x new)

limit_from-from : (old : Option ℕ) (x : Stimulus) (l : Option ℕ) → IsFrom old x l → IsFrom old x (limit_from x l)
limit_from-from old (stimulus.Identity objects) l h = inr (inr refl)
limit_from-from old _ l h = h

limit_after-from : (old : Option ℕ) (ds : List Deed) (x : Stimulus) (l : Option ℕ) → IsFrom old x l → IsFrom old x (limit_after ds x l)
limit_after-from old [] x l h = h
limit_after-from old (deed.LimitFromAnswer ∷ ds) x l h = limit_after-from old ds x (limit_from x l) (limit_from-from old x l h)
limit_after-from old (deed.CableLimit ∷ ds) x l h = limit_after-from old ds x (Some cable_current) (inr (inl refl))
limit_after-from old (_ ∷ ds) x l h = limit_after-from old ds x l h

pub limit-stepped : (s : SourceSettings) (now : ℕ) (x : Stimulus) (a : Option Answer) (r : SourceRecord) →
    IsFrom r.limit x (stepped s now x a r).limit
unfolding stepped
limit-stepped s now x a r =
    let z = before_row x r in
    let e : limit_after (deeds_at s x a z) x z.limit ≡ (all_after s (deeds_at s x a z) now x a z).limit =
    sym (limit-all s (deeds_at s x a z) now x a z) in
    subst (λ (n : Option ℕ). IsFrom r.limit x n) e (limit_after-from r.limit (deeds_at s x a z) x z.limit (inl (limit-before x r)))
