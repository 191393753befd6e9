-- What a step does to what is accepted, agreed on and delivered.
use Rattle.std.proofs.Common.{◌≡◌, ℕ, inl, inr, Bool, true, false, not, ◌&&◌, ◌||◌, List, [], ◌∷◌, Option, option_map, refl, ap, ◌∙◌}
use Rattle.std.specs.List.{list_all}
use Rattle.pd_objects.specs.declared.contract.Contract.{Contract}
use Rattle.pd_objects.specs.declared.query.Answer.{Answer}
use Rattle.pd_source.specs.declared.kinds.State.{State}
use Rattle.pd_source.specs.declared.kinds.State.TheVariants as state
use Rattle.pd_source.specs.declared.kinds.Heard.{Heard}
use Rattle.pd_source.specs.declared.kinds.Stimulus.{Stimulus}
use Rattle.pd_source.specs.declared.kinds.Stimulus.TheVariants as stimulus
use Rattle.pd_source.specs.declared.kinds.Deed.{Deed}
use Rattle.pd_source.specs.declared.kinds.Deed.TheVariants as deed
use Rattle.pd_source.specs.Record.{SourceSettings, SourceRecord}
use Rattle.pd_source.specs.Request.{contract_of}
use Rattle.pd_source.specs.Table.{Row, Guard, Fits, HardResetsLeft, holds, table, anything_else, among, match_one, heard_of, deeds_of_row}
use Rattle.pd_source.specs.Table.{is_request_valid, says_fits}
use Rattle.pd_source.specs.Acts.{after, all_after}
use Rattle.pd_source.specs.Step.{before_row, row_at, deeds_at, stepped}
use Rattle.pd_source.specs.Sound.{is_transition, IsMade, IsTaken, IsSettled}
use Rattle.pd_source.proofs.Walk.{and-left, and-right, row_of-all, row_of-guard}
use Rattle.pd_source.proofs.SoundRows.{fixed, is_fits, valid-fits, row_of-fit}

-- the contract: it is made of the accepted request and the delivered offer as they were before the step
abbrev commits : Bool → List Deed → Bool
commits fresh [] = true
commits fresh (deed.Commit ∷ ds) = fresh && commits false ds
commits fresh (deed.Settle ∷ ds) = commits false ds
commits fresh (deed.Close ∷ ds) = commits false ds
commits fresh (deed.Take ∷ ds) = commits false ds
commits fresh (deed.Void ∷ ds) = commits false ds
commits fresh (_ ∷ ds) = commits fresh ds

abbrev AreAsBefore : SourceRecord → SourceRecord → Type 0
AreAsBefore o r = (r.delivered_offer ≡ o.delivered_offer) × (r.accepted_request ≡ o.accepted_request)

walk-contract : (s : SourceSettings) (o : SourceRecord) (ds : List Deed) (now : ℕ) (x : Stimulus) (a : Option Answer) (r : SourceRecord)
    (fresh : Bool) → commits fresh ds ≡ true → (fresh ≡ true → AreAsBefore o r) → IsMade s o r.contract →
    IsMade s o (all_after s ds now x a r).contract
walk-contract s o [] now x a r fresh k e h = h
walk-contract s o (deed.Commit ∷ ds) now x a r true k e h =
    let q = e refl in
    let m : option_map (contract_of s.supplies r.delivered_offer) r.accepted_request ≡ option_map (contract_of s.supplies o.delivered_offer)
    o.accepted_request =
    ap (λ (d : List ℕ). option_map (contract_of s.supplies d) r.accepted_request) q.0
    ∙ ap (λ (n : Option ℕ). option_map (contract_of s.supplies o.delivered_offer) n) q.1 in
    walk-contract s o ds now x a (after s deed.Commit now x a r) false k (λ f. absurd (cc)) (inr (inr m))
walk-contract s o (deed.Commit ∷ ds) now x a r false k e h = absurd (cc)
walk-contract s o (deed.Settle ∷ ds) now x a r fresh k e h =
    walk-contract s o ds now x a (after s deed.Settle now x a r) false k (λ f. absurd (cc)) h
walk-contract s o (deed.Close ∷ ds) now x a r fresh k e h =
    walk-contract s o ds now x a (after s deed.Close now x a r) false k (λ f. absurd (cc)) h
walk-contract s o (deed.Take ∷ ds) now x a r fresh k e h =
    walk-contract s o ds now x a (after s deed.Take now x a r) false k (λ f. absurd (cc)) h
walk-contract s o (deed.Void ∷ ds) now x a r fresh k e h =
    walk-contract s o ds now x a (after s deed.Void now x a r) false k (λ f. absurd (cc)) (inr (inl refl))
walk-contract s o (d ∷ ds) now x a r fresh k e h = walk-contract s o ds now x a (after s d now x a r) fresh k e h

-- the accepted request: it is the kept one
abbrev takes : Bool → List Deed → Bool
takes fresh [] = true
takes fresh (deed.Take ∷ ds) = fresh && takes false ds
takes fresh (deed.KeepRequest ∷ ds) = takes false ds
takes fresh (_ ∷ ds) = takes fresh ds

walk-accepted : (a : Option Answer) (s : SourceSettings) (o : SourceRecord) (ds : List Deed) (now : ℕ) (x : Stimulus) (r : SourceRecord)
    (fresh : Bool) → takes fresh ds ≡ true →
    (fresh ≡ true → (r.kept_request ≡ o.kept_request) × (is_request_valid o ≡ true) × (says_fits a ≡ true)) →
    IsTaken a o r.accepted_request → IsTaken a o (all_after s ds now x a r).accepted_request
walk-accepted a s o [] now x r fresh k e h = h
walk-accepted a s o (deed.Take ∷ ds) now x r true k e h =
    walk-accepted a s o ds now x (after s deed.Take now x a r) false k (λ f. absurd (cc)) (inr (inr (e refl)))
walk-accepted a s o (deed.Take ∷ ds) now x r false k e h = absurd (cc)
walk-accepted a s o (deed.KeepRequest ∷ ds) now x r fresh k e h =
    walk-accepted a s o ds now x (after s deed.KeepRequest now x a r) false k (λ f. absurd (cc)) h
walk-accepted a s o (deed.Close ∷ ds) now x r fresh k e h =
    walk-accepted a s o ds now x (after s deed.Close now x a r) fresh k e (inr (inl refl))
walk-accepted a s o (deed.Commit ∷ ds) now x r fresh k e h =
    walk-accepted a s o ds now x (after s deed.Commit now x a r) fresh k e (inr (inl refl))
walk-accepted a s o (deed.Void ∷ ds) now x r fresh k e h =
    walk-accepted a s o ds now x (after s deed.Void now x a r) fresh k e (inr (inl refl))
walk-accepted a s o (d ∷ ds) now x r fresh k e h = walk-accepted a s o ds now x (after s d now x a r) fresh k e h

-- the delivered offer: it is the draft
abbrev settles : Bool → List Deed → Bool
settles fresh [] = true
settles fresh (deed.Settle ∷ ds) = fresh && settles false ds
settles fresh (deed.Draft ∷ ds) = settles false ds
settles fresh (deed.Close ∷ ds) = settles false ds
settles fresh (deed.Void ∷ ds) = settles false ds
settles fresh (_ ∷ ds) = settles fresh ds

walk-delivered : (s : SourceSettings) (o : SourceRecord) (ds : List Deed) (now : ℕ) (x : Stimulus) (a : Option Answer) (r : SourceRecord)
    (fresh : Bool) → settles fresh ds ≡ true → (fresh ≡ true → (r.draft_offer ≡ o.draft_offer) × (is_transition o.state ≡ false)) →
    IsSettled o r.delivered_offer → IsSettled o (all_after s ds now x a r).delivered_offer
walk-delivered s o [] now x a r fresh k e h = h
walk-delivered s o (deed.Settle ∷ ds) now x a r true k e h =
    walk-delivered s o ds now x a (after s deed.Settle now x a r) false k (λ f. absurd (cc)) (inr (inr (e refl)))
walk-delivered s o (deed.Settle ∷ ds) now x a r false k e h = absurd (cc)
walk-delivered s o (deed.Draft ∷ ds) now x a r fresh k e h =
    walk-delivered s o ds now x a (after s deed.Draft now x a r) false k (λ f. absurd (cc)) h
walk-delivered s o (deed.Close ∷ ds) now x a r fresh k e h =
    walk-delivered s o ds now x a (after s deed.Close now x a r) false k (λ f. absurd (cc)) h
walk-delivered s o (deed.Void ∷ ds) now x a r fresh k e h =
    walk-delivered s o ds now x a (after s deed.Void now x a r) false k (λ f. absurd (cc)) (inr (inl refl))
walk-delivered s o (d ∷ ds) now x a r fresh k e h = walk-delivered s o ds now x a (after s d now x a r) fresh k e h

-- each row of the table is so
abbrev pub with_guard : (List Deed → Bool) → Row → Bool
with_guard p r = p (deeds_of_row (λ g. true) r) && p (deeds_of_row (λ g. false) r)

by_reset : (p : List Deed → Bool) (r : Row) (b : Bool) → with_guard p r ≡ true → p (deeds_of_row (λ g. b) r) ≡ true
by_reset p r true h = and-left (p (deeds_of_row (λ g. true) r)) (p (deeds_of_row (λ g. false) r)) h
by_reset p r false h = and-right (p (deeds_of_row (λ g. true) r)) (p (deeds_of_row (λ g. false) r)) h

pub chosen : (p : List Deed → Bool) (g : Guard → Bool) (r : Row) → with_guard p r ≡ true → p (deeds_of_row g r) ≡ true
chosen p g r h = ap p (fixed g r.next r) ∙ by_reset p r (g HardResetsLeft) h

abbrev settles_from : State → Row → Bool
settles_from t r = with_guard (settles (not (is_transition t))) r

table-settles : (t : State) (h : Heard) → list_all (λ r. settles_from t r || not (among t r.states && match_one h r.cues)) table ≡ true
table-settles state.Off h = refl
table-settles _ h = refl

else-settles : (t : State) → settles_from t anything_else ≡ true
else-settles state.Off = refl
else-settles _ = refl

not-false : (b : Bool) → not b ≡ true → b ≡ false
not-false true h = absurd (cc)
not-false false h = refl

-- what comes before the row changes nothing of this
contract-before : (s : SourceSettings) (x : Stimulus) (r : SourceRecord) (new : Option Contract) → IsMade s (before_row x r) new →
    IsMade s r new
contract-before s (stimulus.Sent m) r new h = h
contract-before s (stimulus.Ended t) r new h = h
contract-before s _ r new h = h

accepted-before : (a : Option Answer) (x : Stimulus) (r : SourceRecord) (new : Option ℕ) → IsTaken a (before_row x r) new → IsTaken a r new
accepted-before a (stimulus.Sent m) r new h = h
accepted-before a (stimulus.Ended t) r new h = h
accepted-before a _ r new h = h

delivered-before : (x : Stimulus) (r : SourceRecord) (new : List ℕ) → IsSettled (before_row x r) new → IsSettled r new
delivered-before (stimulus.Sent m) r new h = h
delivered-before (stimulus.Ended t) r new h = h
delivered-before _ r new h = h

pub contract-stepped : (s : SourceSettings) (now : ℕ) (x : Stimulus) (a : Option Answer) (r : SourceRecord) →
    IsMade s r (stepped s now x a r).contract
unfolding stepped
contract-stepped s now x a r =
    let z = before_row x r in
    let w = row_at s x a z in
    let k = chosen (commits true) (holds s a z) w (row_of-all (with_guard (commits true)) (holds s a z) z.state (heard_of x) refl refl) in
    contract-before s x r (all_after s (deeds_at s x a z) now x a z).contract
    (walk-contract s z (deeds_at s x a z) now x a z true k (λ f. (refl, refl)) (inl refl))

fits-said : (s : SourceSettings) (a : Option Answer) (r : SourceRecord) (g : Guard) → is_fits g ≡ true → holds s a r g ≡ true →
    says_fits a ≡ true
fits-said s a r Fits e h = h
fits-said s a r _ e h = absurd (cc)

abbrev takes_from : Row → Bool
takes_from r = with_guard (takes (is_fits r.guard)) r

pub accepted-stepped : (s : SourceSettings) (now : ℕ) (x : Stimulus) (a : Option Answer) (r : SourceRecord) →
    IsTaken a r (stepped s now x a r).accepted_request
unfolding stepped
accepted-stepped s now x a r =
    let z = before_row x r in
    let w = row_at s x a z in
    let k = chosen (takes (is_fits w.guard)) (holds s a z) w (row_of-all takes_from (holds s a z) z.state (heard_of x) refl refl) in
    accepted-before a x r (all_after s (deeds_at s x a z) now x a z).accepted_request
    (walk-accepted a s z (deeds_at s x a z) now x z (is_fits w.guard) k
    (λ f. (
      refl,
      valid-fits (holds s a z) z.state (heard_of x) (is_request_valid z) refl f,
      fits-said s a z w.guard f (row_of-guard (holds s a z) z.state (heard_of x) refl),
    ))
    (inl refl))

pub delivered-stepped : (s : SourceSettings) (now : ℕ) (x : Stimulus) (a : Option Answer) (r : SourceRecord) →
    IsSettled r (stepped s now x a r).delivered_offer
unfolding stepped
delivered-stepped s now x a r =
    let z = before_row x r in
    let w = row_at s x a z in
    let k = chosen (settles (not (is_transition z.state))) (holds s a z) w
    (row_of-fit (settles_from z.state) (holds s a z) z.state (heard_of x) (else-settles z.state) (table-settles z.state (heard_of x)))
    in
    delivered-before x r (all_after s (deeds_at s x a z) now x a z).delivered_offer
    (walk-delivered s z (deeds_at s x a z) now x a z (not (is_transition z.state)) k (λ f. (refl, not-false (is_transition z.state) f))
    (inl refl))
