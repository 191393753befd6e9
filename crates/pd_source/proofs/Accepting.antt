-- A step that accepts a request leaves the delivered offer.
use Rattle.std.proofs.Common.{◌≡◌, ◌⊎◌, ℕ, Bool, true, false, not, ◌||◌, List, [], ◌∷◌, Option, None, refl, ◌∙◌, inl, inr}
use Rattle.pd_objects.specs.declared.query.Answer.{Answer}
use Rattle.pd_source.specs.declared.kinds.Stimulus.{Stimulus}
use Rattle.pd_source.specs.declared.kinds.Stimulus.TheVariants as stimulus
use Rattle.pd_source.specs.declared.kinds.Deed.{Deed}
use Rattle.pd_source.specs.declared.kinds.Deed.TheVariants as deed
use Rattle.pd_source.specs.Record.{SourceSettings, SourceRecord}
use Rattle.pd_source.specs.Table.{Row, holds, heard_of}
use Rattle.pd_source.specs.Acts.{after, all_after}
use Rattle.pd_source.specs.Step.{before_row, row_at, deeds_at, stepped}
use Rattle.pd_source.proofs.Walk.{and-left, and-right, row_of-all, none_of, none_of_row, none_of-deeds}

abbrev pub is_take : Deed → Bool
is_take deed.Take = true
is_take _ = false

-- what changes the delivered offer
abbrev is_settle : Deed → Bool
is_settle deed.Settle = true
is_settle deed.Void = true
is_settle _ = false

abbrev does_one : Row → Bool
does_one r = none_of_row is_settle r || none_of_row is_take r

-- the accepted request is left, or falls
unfoldable pub IsLeft : Option ℕ → Option ℕ → Type 0
IsLeft old new = (new ≡ old) ⊎ (new ≡ None)

left-after : (s : SourceSettings) (d : Deed) (now : ℕ) (x : Stimulus) (a : Option Answer) (r : SourceRecord) (old : Option ℕ) →
    not (is_take d) ≡ true → IsLeft old r.accepted_request → IsLeft old (after s d now x a r).accepted_request
unfolding IsLeft
left-after s deed.Take now x a r old n h = absurd (cc)
left-after s deed.Close now x a r old n h = inr refl
left-after s deed.Commit now x a r old n h = inr refl
left-after s deed.Void now x a r old n h = inr refl
left-after s _ now x a r old n h = h

pub left-all : (s : SourceSettings) (ds : List Deed) (now : ℕ) (x : Stimulus) (a : Option Answer) (r : SourceRecord) (old : Option ℕ) →
    none_of is_take ds ≡ true → IsLeft old r.accepted_request → IsLeft old (all_after s ds now x a r).accepted_request
left-all s [] now x a r old n h = h
left-all s (d ∷ ds) now x a r old n h =
    left-all s ds now x a (after s d now x a r) old (and-right (not (is_take d)) (none_of is_take ds) n)
    (left-after s d now x a r old (and-left (not (is_take d)) (none_of is_take ds) n) h)

offer-after : (s : SourceSettings) (d : Deed) (now : ℕ) (x : Stimulus) (a : Option Answer) (r : SourceRecord) → not (is_settle d) ≡ true →
    (after s d now x a r).delivered_offer ≡ r.delivered_offer
offer-after s deed.Settle now x a r n = absurd (cc)
offer-after s deed.Void now x a r n = absurd (cc)
offer-after s _ now x a r n = refl

offer-all : (s : SourceSettings) (ds : List Deed) (now : ℕ) (x : Stimulus) (a : Option Answer) (r : SourceRecord) →
    none_of is_settle ds ≡ true → (all_after s ds now x a r).delivered_offer ≡ r.delivered_offer
offer-all s [] now x a r n = refl
offer-all s (d ∷ ds) now x a r n =
    offer-all s ds now x a (after s d now x a r) (and-right (not (is_settle d)) (none_of is_settle ds) n)
    ∙ offer-after s d now x a r (and-left (not (is_settle d)) (none_of is_settle ds) n)

by_row : (s : SourceSettings) (now : ℕ) (x : Stimulus) (a : Option Answer) (r : SourceRecord) (b c : Bool) →
    (b ≡ true → none_of is_settle (deeds_at s x a r) ≡ true) → (c ≡ true → none_of is_take (deeds_at s x a r) ≡ true) → b || c ≡ true →
    ((all_after s (deeds_at s x a r) now x a r).delivered_offer ≡ r.delivered_offer) ⊎ IsLeft r.accepted_request
    (all_after s (deeds_at s x a r) now x a r).accepted_request
unfolding IsLeft
by_row s now x a r true c h k e = inl (offer-all s (deeds_at s x a r) now x a r (h refl))
by_row s now x a r false true h k e = inr (left-all s (deeds_at s x a r) now x a r r.accepted_request (k refl) (inl refl))
by_row s now x a r false false h k e = absurd (cc)

-- what comes before the row changes neither
abbrev IsOne : SourceRecord → SourceRecord → Type 0
IsOne old new = (new.delivered_offer ≡ old.delivered_offer) ⊎ IsLeft old.accepted_request new.accepted_request

one-before : (x : Stimulus) (r new : SourceRecord) → IsOne (before_row x r) new → IsOne r new
one-before (stimulus.Sent m) r new h = h
one-before (stimulus.Ended t) r new h = h
one-before _ r new h = h

pub accepting-keeps : (s : SourceSettings) (now : ℕ) (x : Stimulus) (a : Option Answer) (r : SourceRecord) →
    ((stepped s now x a r).delivered_offer ≡ r.delivered_offer)
    ⊎ (((stepped s now x a r).accepted_request ≡ r.accepted_request) ⊎ ((stepped s now x a r).accepted_request ≡ None))
unfolding stepped IsLeft
accepting-keeps s now x a r =
    let z = before_row x r in
    let w = row_at s x a z in
    one-before x r (all_after s (deeds_at s x a z) now x a z)
    (by_row s now x a z (none_of_row is_settle w) (none_of_row is_take w)
    (none_of-deeds is_settle (holds s a z) w) (none_of-deeds is_take (holds s a z) w)
    (row_of-all does_one (holds s a z) z.state (heard_of x) refl refl))
