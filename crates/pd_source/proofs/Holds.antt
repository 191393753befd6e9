-- What a port holds while its source steps.
use Rattle.std.proofs.Common.{◌≡◌, ℕ, ◌≤◌, Bool, true, false, not, nat_le, if◌then◌else◌, List, [], ◌∷◌, Option, Some, None, option_map}
use Rattle.std.proofs.Common.{fold, max, refl, sym, subst, ap, ◌∙◌, arith}
use Rattle.std.proofs.lemmas.Bool.{not-true}
use Rattle.std.proofs.lemmas.Bool.Decides.{nat_tests}
use Rattle.pd_objects.specs.Supply.{SupplyData}
use Rattle.pd_objects.specs.Answers.{IsAllowed, AreWithin}
use Rattle.pd_objects.specs.declared.query.Answer.{Answer}
use Rattle.pd_objects.specs.declared.query.Answer.TheVariants as answer
use Rattle.pd_objects.specs.declared.query.Query.{Query}
use Rattle.pd_objects.specs.declared.query.Query.TheVariants as query
use Rattle.pd_source.specs.declared.kinds.Stimulus.{Stimulus}
use Rattle.pd_source.specs.declared.kinds.Stimulus.TheVariants as stimulus
use Rattle.pd_source.specs.declared.kinds.Deed.{Deed}
use Rattle.pd_source.specs.declared.kinds.Deed.TheVariants as deed
use Rattle.pd_source.specs.Record.{SourceSettings, SourceRecord, off}
use Rattle.pd_source.specs.Request.{power_of, contract_of}
use Rattle.pd_source.specs.Table.{Row, Guard, Fits, holds, heard_of, says_fits, is_request_valid, asks_offer, deeds_of_row}
use Rattle.pd_source.specs.Acts.{after, all_after, draft_from}
use Rattle.pd_source.specs.Step.{before_row, row_at, deeds_at, stepped, query_of, offer_query, fit_query, row_query, limit_after, polls}
use Rattle.pd_source.specs.Step.{decides, hold_of, powers, contracted, requested}
use Rattle.pd_source.proofs.Powers.{least-fold_max, fold_max-powers, fold_max-less, fold_max-more}
use Rattle.pd_source.proofs.Walk.{and-left, and-right, row_of-all, row_of-guard, none_of, none_of_row, none_of-deeds}

-- what the draft of these currents holds
abbrev pub held : SourceSettings → ℕ → List ℕ → ℕ
held s floor offer = fold max floor (powers s.supplies offer)

-- each part of the hold is within the free power
pub record IsHeld (s : SourceSettings) (floor free : ℕ) (r : SourceRecord) : Type 0 where
  pub contract : contracted r.contract ≤ free
  pub accepted : requested s r.accepted_request ≤ free
  pub draft : held s floor r.draft_offer ≤ free

is_held : (s : SourceSettings) (floor free : ℕ) (r : SourceRecord) → hold_of s floor r ≤ free → IsHeld s floor free r
unfolding hold_of
is_held s floor free r h =
    let c = contracted r.contract in
    let q = requested s r.accepted_request in
    let l = least-fold_max (max (max floor c) q) (powers s.supplies r.draft_offer) in
    record {
      contract = omega arith;
      accepted = omega arith;
      draft = fold_max-less floor (max (max floor c) q) free (powers s.supplies r.draft_offer) (omega arith) h;
    }

hold-of_held : (s : SourceSettings) (floor free : ℕ) (r : SourceRecord) → IsHeld s floor free r → hold_of s floor r ≤ free
unfolding hold_of
hold-of_held s floor free r h =
    let c = contracted r.contract in
    let q = requested s r.accepted_request in
    let k = h.contract in
    let l = h.accepted in
    fold_max-more (max (max floor c) q) floor (max c q) free (powers s.supplies r.draft_offer) (omega arith) (omega arith) h.draft

pub hold_of-floor : (s : SourceSettings) (floor : ℕ) (r : SourceRecord) → floor ≤ hold_of s floor r
unfolding hold_of
hold_of-floor s floor r =
    let c = contracted r.contract in
    let q = requested s r.accepted_request in
    let l = least-fold_max (max (max floor c) q) (powers s.supplies r.draft_offer) in
    omega arith

no-powers : (s : SourceSettings) (floor : ℕ) → held s floor [] ≡ floor
no-powers s floor = elim s.supplies as (λ xs. fold max floor (powers xs []) ≡ floor) [ [] ↦ refl | (x ∷ xs) ↦ refl ]

pub hold_of-off : (s : SourceSettings) (floor : ℕ) → hold_of s floor (off s) ≡ floor
unfolding hold_of
hold_of-off s floor =
    let e : max (max floor 0) 0 ≡ floor = omega arith in
    ap (λ n. fold max n (powers s.supplies [])) e ∙ no-powers s floor

-- an answer leaves each draft within the free power, and the kept request is within it where the answer is that it fits
pub record IsSafe (s : SourceSettings) (floor free : ℕ) (a : Option Answer) (r : SourceRecord) : Type 0 where
  pub drafts : (offer : List ℕ) → held s floor offer ≤ free → held s floor (draft_from a offer) ≤ free
  pub fits : says_fits a ≡ true → requested s r.kept_request ≤ free

-- no answer is safe
pub safe-None : (s : SourceSettings) (floor free : ℕ) (r : SourceRecord) → IsSafe s floor free None r
safe-None s floor free r = record { drafts = λ offer h. h; fits = λ h. absurd (cc) }

safe-nothing : (s : SourceSettings) (floor free : ℕ) (a : Option Answer) (r : SourceRecord) → a ≡ None → IsSafe s floor free a r
safe-nothing s floor free a r e = subst (λ (a : Option Answer). IsSafe s floor free a r) (sym e) (safe-None s floor free r)

safe-Offer : (s : SourceSettings) (limit : Option ℕ) (floor free : ℕ) (a : Option Answer) (r : SourceRecord) → floor ≤ free →
    IsAllowed free (Some (offer_query s limit)) a → IsSafe s floor free a r
safe-Offer s limit floor free a r least q =
    subst (λ (a : Option Answer). IsSafe s floor free a r) (sym q.2)
    (record { drafts = λ offer h. fold_max-powers free floor s.supplies q.0 q.1 least; fits = λ h. absurd (cc) })

within-free : (n free : ℕ) → nat_le n free ≡ true → n ≤ free
within-free n free h = grind (arith, nat_tests)

safe-Fits : (s : SourceSettings) (floor free : ℕ) (a : Option Answer) (r : SourceRecord) →
    IsAllowed free (Some (query.Fits (requested s r.kept_request))) a → IsSafe s floor free a r
safe-Fits s floor free a r q =
    subst (λ (a : Option Answer). IsSafe s floor free a r) (sym q)
    (record { drafts = λ offer h. h; fits = λ h. within-free (requested s r.kept_request) free h })

safe-fit : (s : SourceSettings) (floor free : ℕ) (a : Option Answer) (r : SourceRecord) (b : Bool) →
    IsAllowed free (if b then Some (query.Fits (requested s r.kept_request)) else None) a → IsSafe s floor free a r
safe-fit s floor free a r true q = safe-Fits s floor free a r q
safe-fit s floor free a r false q = safe-nothing s floor free a r q

safe-offer : (s : SourceSettings) (limit : Option ℕ) (floor free : ℕ) (a : Option Answer) (r : SourceRecord) (b : Bool) → floor ≤ free →
    IsAllowed free (if b then Some (offer_query s limit) else None) a → IsSafe s floor free a r
safe-offer s limit floor free a r true least q = safe-Offer s limit floor free a r least q
safe-offer s limit floor free a r false least q = safe-nothing s floor free a r q

safe-cases : (s : SourceSettings) (x : Stimulus) (floor free : ℕ) (a : Option Answer) (r : SourceRecord) (b c : Bool) → floor ≤ free →
    IsAllowed free (if b then Some (offer_query s r.limit) else (if c then fit_query s r else row_query s x (before_row x r))) a →
    IsSafe s floor free a r
safe-cases s x floor free a r true c least q = safe-Offer s r.limit floor free a r least q
safe-cases s x floor free a r false true least q = safe-fit s floor free a r (is_request_valid r) q
safe-cases s x floor free a r false false least q =
    let z = before_row x r in
    safe-offer s (limit_after (deeds_at s x None z) x z.limit) floor free a r (asks_offer (row_at s x None z).next) least q

-- an answer that is allowed is safe
pub safe-query : (s : SourceSettings) (floor free : ℕ) (x : Stimulus) (a : Option Answer) (r : SourceRecord) → floor ≤ free →
    IsAllowed free (query_of s x r) a → IsSafe s floor free a r
unfolding query_of
safe-query s floor free x a r least q = safe-cases s x floor free a r (polls r.state (heard_of x)) (decides r.state (heard_of x)) least q

abbrev is_take : Deed → Bool
is_take deed.Take = true
is_take _ = false

abbrev is_keep : Deed → Bool
is_keep deed.KeepRequest = true
is_keep _ = false

-- a request that becomes the contract asks for the same power
committed-within : (s : SourceSettings) (free : ℕ) (offer : List ℕ) (request : Option ℕ) → requested s request ≤ free →
    contracted (option_map (contract_of s.supplies offer) request) ≤ free
unfolding power_of contract_of
committed-within s free offer None h = h
committed-within s free offer (Some object) h = h

held-after : (s : SourceSettings) (floor free : ℕ) (d : Deed) (now : ℕ) (x : Stimulus) (a : Option Answer) (r : SourceRecord) →
    floor ≤ free → ((offer : List ℕ) → held s floor offer ≤ free → held s floor (draft_from a offer) ≤ free) →
    (is_take d ≡ true → requested s r.kept_request ≤ free) → IsHeld s floor free r → IsHeld s floor free (after s d now x a r)
held-after s floor free deed.Draft now x a r least g t h =
    record { contract = h.contract; accepted = h.accepted; draft = g r.draft_offer h.draft }
held-after s floor free deed.Close now x a r least g t h =
    record { contract = h.contract; accepted = omega arith; draft = subst (λ n. n ≤ free) (sym (no-powers s floor)) least }
held-after s floor free deed.Take now x a r least g t h = record { contract = h.contract; accepted = t refl; draft = h.draft }
held-after s floor free deed.Commit now x a r least g t h =
    record { contract = committed-within s free r.delivered_offer r.accepted_request h.accepted; accepted = omega arith; draft = h.draft }
held-after s floor free deed.Void now x a r least g t h =
    record { contract = omega arith; accepted = omega arith; draft = subst (λ n. n ≤ free) (sym (no-powers s floor)) least }
held-after s floor free _ now x a r least g t h = record { contract = h.contract; accepted = h.accepted; draft = h.draft }

-- a row that accepts no request
held-all_after : (s : SourceSettings) (floor free : ℕ) (ds : List Deed) (now : ℕ) (x : Stimulus) (a : Option Answer) (r : SourceRecord) →
    floor ≤ free → ((offer : List ℕ) → held s floor offer ≤ free → held s floor (draft_from a offer) ≤ free) → none_of is_take ds ≡ true →
    IsHeld s floor free r → IsHeld s floor free (all_after s ds now x a r)
held-all_after s floor free [] now x a r least g t h = h
held-all_after s floor free (d ∷ ds) now x a r least g t h =
    held-all_after s floor free ds now x a (after s d now x a r) least g (and-right (not (is_take d)) (none_of is_take ds) t)
    (held-after s floor free d now x a r least g
    (λ k. let no = not-true (is_take d) (and-left (not (is_take d)) (none_of is_take ds) t) in absurd (cc)) h)

kept-after : (s : SourceSettings) (d : Deed) (now : ℕ) (x : Stimulus) (a : Option Answer) (r : SourceRecord) → not (is_keep d) ≡ true →
    (after s d now x a r).kept_request ≡ r.kept_request
kept-after s deed.KeepRequest now x a r h = absurd (cc)
kept-after s _ now x a r h = refl

-- a row that keeps no request, where the kept request is within the free power
held-all_fitting : (s : SourceSettings) (floor free : ℕ) (ds : List Deed) (now : ℕ) (x : Stimulus) (a : Option Answer) (r : SourceRecord) →
    floor ≤ free → ((offer : List ℕ) → held s floor offer ≤ free → held s floor (draft_from a offer) ≤ free) → none_of is_keep ds ≡ true →
    requested s r.kept_request ≤ free → IsHeld s floor free r → IsHeld s floor free (all_after s ds now x a r)
held-all_fitting s floor free [] now x a r least g k f h = h
held-all_fitting s floor free (d ∷ ds) now x a r least g k f h =
    let e = kept-after s d now x a r (and-left (not (is_keep d)) (none_of is_keep ds) k) in
    held-all_fitting s floor free ds now x a (after s d now x a r) least g (and-right (not (is_keep d)) (none_of is_keep ds) k)
    (subst (λ (q : Option ℕ). requested s q ≤ free) (sym e) f)
    (held-after s floor free d now x a r least g (λ t. f) h)

abbrev is_fits : Guard → Bool
is_fits Fits = true
is_fits _ = false

-- a request is accepted by a row alone whose guard is that it fits, and such a row keeps none
abbrev is_fair : Row → Bool
is_fair r = if is_fits r.guard then none_of_row is_keep r else none_of_row is_take r

fits-said : (s : SourceSettings) (a : Option Answer) (r : SourceRecord) (g : Guard) → is_fits g ≡ true → holds s a r g ≡ true →
    says_fits a ≡ true
fits-said s a r Fits e h = h
fits-said s a r _ e h = absurd (cc)

held-row : (s : SourceSettings) (floor free now : ℕ) (x : Stimulus) (a : Option Answer) (r : SourceRecord) (w : Row) (b : Bool) →
    floor ≤ free → IsSafe s floor free a r → is_fits w.guard ≡ b → (if b then none_of_row is_keep w else none_of_row is_take w) ≡ true →
    holds s a r w.guard ≡ true → IsHeld s floor free r → IsHeld s floor free (all_after s (deeds_of_row (holds s a r) w) now x a r)
held-row s floor free now x a r w true least g e fair guard h =
    held-all_fitting s floor free (deeds_of_row (holds s a r) w) now x a r least g.drafts (none_of-deeds is_keep (holds s a r) w fair)
    (g.fits (fits-said s a r w.guard e guard)) h
held-row s floor free now x a r w false least g e fair guard h =
    held-all_after s floor free (deeds_of_row (holds s a r) w) now x a r least g.drafts (none_of-deeds is_take (holds s a r) w fair) h

held-before : (s : SourceSettings) (floor free : ℕ) (x : Stimulus) (r : SourceRecord) → IsHeld s floor free r →
    IsHeld s floor free (before_row x r)
held-before s floor free (stimulus.Sent m) r h = record { contract = h.contract; accepted = h.accepted; draft = h.draft }
held-before s floor free (stimulus.Ended t) r h = record { contract = h.contract; accepted = h.accepted; draft = h.draft }
held-before s floor free _ r h = h

safe-before : (s : SourceSettings) (floor free : ℕ) (x : Stimulus) (a : Option Answer) (r : SourceRecord) → IsSafe s floor free a r →
    IsSafe s floor free a (before_row x r)
safe-before s floor free (stimulus.Sent m) a r g = record { drafts = g.drafts; fits = g.fits }
safe-before s floor free (stimulus.Ended t) a r g = record { drafts = g.drafts; fits = g.fits }
safe-before s floor free _ a r g = g

-- with a safe answer a step leaves the hold within the free power
pub hold_of-safe : (s : SourceSettings) (floor free now : ℕ) (x : Stimulus) (a : Option Answer) (r : SourceRecord) →
    hold_of s floor r ≤ free → IsSafe s floor free a r → hold_of s floor (stepped s now x a r) ≤ free
unfolding stepped
hold_of-safe s floor free now x a r h g =
    let z = before_row x r in
    let l = hold_of-floor s floor r in
    let least : floor ≤ free = omega arith in
    hold-of_held s floor free (all_after s (deeds_at s x a z) now x a z)
    (held-row s floor free now x a z (row_at s x a z) (is_fits (row_at s x a z).guard) least (safe-before s floor free x a r g) refl
    (row_of-all is_fair (holds s a z) z.state (heard_of x) refl refl)
    (row_of-guard (holds s a z) z.state (heard_of x) refl)
    (held-before s floor free x r (is_held s floor free r h)))

-- with an answer that the free power allows a step leaves the hold within it
pub hold_of-stepped : (s : SourceSettings) (floor free now : ℕ) (x : Stimulus) (a : Option Answer) (r : SourceRecord) →
    hold_of s floor r ≤ free → IsAllowed free (query_of s x r) a → hold_of s floor (stepped s now x a r) ≤ free
hold_of-stepped s floor free now x a r h q =
    let l = hold_of-floor s floor r in
    hold_of-safe s floor free now x a r h (safe-query s floor free x a r (omega arith) q)

-- and so does a step without an answer
pub hold_of-None : (s : SourceSettings) (floor free now : ℕ) (x : Stimulus) (r : SourceRecord) → hold_of s floor r ≤ free →
    hold_of s floor (stepped s now x None r) ≤ free
hold_of-None s floor free now x r h = hold_of-safe s floor free now x None r h (safe-None s floor free r)

-- what is within a power is within more
within-more : (a b : ℕ) (supplies : List SupplyData) (currents : List ℕ) → a ≤ b → AreWithin a supplies currents →
    AreWithin b supplies currents
within-more a b [] [] le h = tt
within-more a b (s ∷ ss) (c ∷ cs) le h = (let k = h.0 in omega arith, within-more a b ss cs le h.1)
within-more a b [] (c ∷ cs) le h = absurd h
within-more a b (s ∷ ss) [] le h = absurd h

-- a power that fits, fits into more
fits-more : (power a b : ℕ) → a ≤ b → nat_le power a ≡ true → nat_le power b ≡ true
fits-more power a b le h = grind (arith, nat_tests)

-- the answer that a request doesn't fit is safe, whatever is free
safe-no : (s : SourceSettings) (floor free : ℕ) (a : Option Answer) (r : SourceRecord) → a ≡ Some (answer.Fits false) →
    IsSafe s floor free a r
safe-no s floor free a r e =
    subst (λ (a : Option Answer). IsSafe s floor free a r) (sym e) (record { drafts = λ offer h. h; fits = λ h. absurd (cc) })

-- A hold that is no more than this, and neither is what is free, stays so where the answer is allowed by what is free.
capped-fits : (s : SourceSettings) (floor free cap now power : ℕ) (x : Stimulus) (a : Option Answer) (r : SourceRecord) (b : Bool) →
    hold_of s floor r ≤ cap → free ≤ cap →
    query_of s x r ≡ Some (query.Fits power) → nat_le power free ≡ b → a ≡ Some (answer.Fits b) →
    hold_of s floor (stepped s now x a r) ≤ cap
capped-fits s floor free cap now power x a r true h le e f q =
    let more : true ≡ nat_le power cap = sym (fits-more power free cap le f) in
    hold_of-stepped s floor cap now x a r h (subst (λ (o : Option Query). IsAllowed cap o a) (sym e) (q
    ∙ ap (λ (b : Bool). Some (answer.Fits b)) more))
capped-fits s floor free cap now power x a r false h le e f q = hold_of-safe s floor cap now x a r h (safe-no s floor cap a r q)

capped : (s : SourceSettings) (floor free cap now : ℕ) (x : Stimulus) (a : Option Answer) (r : SourceRecord) (o : Option Query) →
    hold_of s floor r ≤ cap → free ≤ cap →
    query_of s x r ≡ o → IsAllowed free o a → hold_of s floor (stepped s now x a r) ≤ cap
capped s floor free cap now x a r None h le e q =
    hold_of-stepped s floor cap now x a r h (subst (λ (o : Option Query). IsAllowed cap o a) (sym e) q)
capped s floor free cap now x a r (Some (query.Offer supplies limit)) h le e q =
    hold_of-stepped s floor cap now x a r h
    (subst (λ (o : Option Query). IsAllowed cap o a) (sym e) (q.0, within-more free cap supplies.items q.0 le q.1, q.2))
capped s floor free cap now x a r (Some (query.Fits power)) h le e q =
    capped-fits s floor free cap now power x a r (nat_le power free) h le e refl q
capped s floor free cap now x a r (Some (query.Keep power)) h le e q =
    hold_of-stepped s floor cap now x a r h (subst (λ (o : Option Query). IsAllowed cap o a) (sym e) q)

-- with an allowed answer a hold is no more than is free, or than it was
pub hold_of-allowed : (s : SourceSettings) (floor free now : ℕ) (x : Stimulus) (a : Option Answer) (r : SourceRecord) →
    IsAllowed free (query_of s x r) a → hold_of s floor (stepped s now x a r) ≤ max free (hold_of s floor r)
hold_of-allowed s floor free now x a r q =
    capped s floor free (max free (hold_of s floor r)) now x a r (query_of s x r) (omega arith) (omega arith) refl q
