-- An answer matters only where the engine asks.
use Rattle.std.proofs.Common.{◌≡◌, ℕ, Bool, true, false, not, ◌&&◌, ◌||◌, if◌then◌else◌, List, [], ◌∷◌, ◌++◌, Option, Some, None, refl, sym}
use Rattle.std.proofs.Common.{ap, ◌∙◌}
use Rattle.std.specs.List.{list_all}
use Rattle.pd_timers.specs.declared.Timer.TheVariants as timer
use Rattle.pd_objects.specs.declared.query.Answer.{Answer}
use Rattle.pd_source.specs.declared.kinds.State.{State}
use Rattle.pd_source.specs.declared.kinds.State.TheVariants as state
use Rattle.pd_source.specs.declared.kinds.Heard.{Heard}
use Rattle.pd_source.specs.declared.kinds.Heard.TheVariants as heard
use Rattle.pd_source.specs.declared.kinds.Stimulus.{Stimulus}
use Rattle.pd_source.specs.declared.kinds.Stimulus.TheVariants as stimulus
use Rattle.pd_source.specs.declared.kinds.Message.TheVariants as message
use Rattle.pd_source.specs.declared.kinds.Note.TheVariants as note
use Rattle.pd_source.specs.declared.kinds.Deed.{Deed}
use Rattle.pd_source.specs.declared.kinds.Deed.TheVariants as deed
use Rattle.pd_source.specs.Record.{SourceSettings, SourceRecord}
use Rattle.pd_source.specs.Table.{Row, row, Ended, Guard, RequestInvalid, Fits, OfferDiffers, To, holds, table, first, fits, among}
use Rattle.pd_source.specs.Table.{match_one, heard_of, row_of, deeds_of_row, asks_offer, is_request_valid}
use Rattle.pd_source.specs.Acts.{after, wants, all_after, all_wants}
use Rattle.pd_source.specs.Step.{before_row, row_at, deeds_at, stepped, acts_of, query_of, offer_query, fit_query, row_query, polls}
use Rattle.pd_source.specs.Step.{decides}
use Rattle.pd_source.proofs.Walk.{and-left, and-right, row_of-all, none_of, none_of_row, none_of-deeds}

-- the guards that read the answer
abbrev reads_answer : Guard → Bool
reads_answer Fits = true
reads_answer OfferDiffers = true
reads_answer _ = false

guard-same : (s : SourceSettings) (a b : Option Answer) (r : SourceRecord) (g : Guard) → reads_answer g ≡ false →
    holds s a r g ≡ holds s b r g
guard-same s a b r Fits h = absurd (cc)
guard-same s a b r OfferDiffers h = absurd (cc)
guard-same s a b r _ h = refl

-- a row for this state and stimulus doesn't read the answer
abbrev is_unread : State → Heard → Row → Bool
is_unread s h r = not (reads_answer r.guard && (among s r.states && match_one h r.cues))

fits-same : (g k : Guard → Bool) → ((w : Guard) → reads_answer w ≡ false → g w ≡ k w) → (s : State) (h : Heard) (r : Row) →
    is_unread s h r ≡ true → fits g s h r ≡ fits k s h r
fits-same g k agree s h r u = by_guard (reads_answer r.guard) (among s r.states && match_one h r.cues) refl u where
  by_guard : (b c : Bool) → reads_answer r.guard ≡ b → not (b && c) ≡ true → (c && g r.guard) ≡ (c && k r.guard)
  by_guard true true e u = absurd (cc)
  by_guard true false e u = refl
  by_guard false c e u = ap (λ w. c && w) (agree r.guard e)

first-same : (g k : Guard → Bool) → ((w : Guard) → reads_answer w ≡ false → g w ≡ k w) → (s : State) (h : Heard) (rows : List Row) →
    list_all (is_unread s h) rows ≡ true → first g s h rows ≡ first k s h rows
first-same g k agree s h [] u = refl
first-same g k agree s h (r ∷ rs) u =
    ap (λ b. if b then r else first g s h rs) (fits-same g k agree s h r (and-left (is_unread s h r) (list_all (is_unread s h) rs) u))
    ∙ ap (λ q. if fits k s h r then r else q) (first-same g k agree s h rs (and-right (is_unread s h r) (list_all (is_unread s h) rs) u))

-- where neither a poll nor a request is decided, the row is the same whatever the answer
unread : (s : State) (h : Heard) → polls s h ≡ false → decides s h ≡ false → list_all (is_unread s h) table ≡ true
unread s h p d =
    let e : list_all (is_unread s h) table ≡ not (decides s h) && (not (polls s h) && true) = refl in
    e ∙ ap (λ b. not b && (not (polls s h) && true)) d ∙ ap (λ b. not b && true) p

pub row-same : (s : SourceSettings) (a b : Option Answer) (r : SourceRecord) (t : State) (h : Heard) → polls t h ≡ false →
    decides t h ≡ false → row_of (holds s a r) t h ≡ row_of (holds s b r) t h
unfolding row_of
row-same s a b r t h p d = first-same (holds s a r) (holds s b r) (guard-same s a b r) t h table (unread t h p d)

-- an invalid request is rejected whatever the answer
abbrev pub rejecting : Row
rejecting = row 17 (state.NegotiateCapability ∷ []) (Ended timer.Delay ∷ []) RequestInvalid (To state.CapabilityResponse)
    (deed.Close ∷ deed.Note note.Reject ∷ deed.Send message.Reject ∷ [])

pub rejected : (g : Guard → Bool) → g RequestInvalid ≡ true → (t : State) (h : Heard) → decides t h ≡ true → row_of g t h ≡ rejecting
unfolding row_of
rejected g e state.NegotiateCapability (heard.Ended timer.Delay) d = rw e
rejected g e _ _ d = absurd (cc)

if-some : {A : Type 0} (b : Bool) (v : A) (o : Option A) → (if b then Some v else o) ≡ None → (b ≡ false) × (o ≡ None)
if-some true v o h = absurd (cc)
if-some false v o h = (refl, h)

pub state-before : (x : Stimulus) (r : SourceRecord) → (before_row x r).state ≡ r.state
state-before (stimulus.Sent m) r = refl
state-before (stimulus.Ended t) r = refl
state-before _ r = refl

pub valid-before : (x : Stimulus) (r : SourceRecord) → is_request_valid (before_row x r) ≡ is_request_valid r
valid-before (stimulus.Sent m) r = refl
valid-before (stimulus.Ended t) r = refl
valid-before _ r = refl

-- the row of a step that asks nothing is the same with any answer, and makes no offer
abbrev IsQuiet : SourceSettings → Stimulus → Option Answer → SourceRecord → Type 0
IsQuiet s x a r = (row_at s x a r ≡ row_at s x None r) × (asks_offer (row_at s x None r).next ≡ false)

by-decides : (s : SourceSettings) (x : Stimulus) (a : Option Answer) (r : SourceRecord) (d : Bool) → polls r.state (heard_of x) ≡ false →
    decides r.state (heard_of x) ≡ d → (if d then fit_query s r else row_query s x (before_row x r)) ≡ None → IsQuiet s x a (before_row x r)
by-decides s x a r true p d h =
    let z = before_row x r in
    let v : is_request_valid z ≡ false = valid-before x r ∙ (if-some (is_request_valid r) _ None h).0 in
    let i : not (is_request_valid z) ≡ true = ap not v in
    let t : decides z.state (heard_of x) ≡ true = ap (λ t. decides t (heard_of x)) (state-before x r) ∙ d in
    let e = rejected (holds s a z) i z.state (heard_of x) t in
    let f = rejected (holds s None z) i z.state (heard_of x) t in
    (e ∙ sym f, ap (λ (w : Row). asks_offer w.next) f)
by-decides s x a r false p d h =
    let z = before_row x r in
    let q : polls z.state (heard_of x) ≡ false = ap (λ t. polls t (heard_of x)) (state-before x r) ∙ p in
    let t : decides z.state (heard_of x) ≡ false = ap (λ t. decides t (heard_of x)) (state-before x r) ∙ d in
    (row-same s a None z z.state (heard_of x) q t, (if-some (asks_offer (row_at s x None z).next) _ None h).0)

quiet-row : (s : SourceSettings) (x : Stimulus) (a : Option Answer) (r : SourceRecord) → query_of s x r ≡ None →
    IsQuiet s x a (before_row x r)
unfolding query_of
quiet-row s x a r h =
    let k = if-some (polls r.state (heard_of x)) (offer_query s r.limit)
    (if decides r.state (heard_of x) then fit_query s r else row_query s x (before_row x r)) h in
    by-decides s x a r (decides r.state (heard_of x)) k.0 refl k.1

abbrev is_draft : Deed → Bool
is_draft deed.Draft = true
is_draft _ = false

-- a row that makes no offer takes no answer
abbrev is_sound : Row → Bool
is_sound r = asks_offer r.next || none_of_row is_draft r

or-right : (b c : Bool) → b || c ≡ true → b ≡ false → c ≡ true
or-right true c h n = absurd (cc)
or-right false c h n = h

after-same : (s : SourceSettings) (d : Deed) (now : ℕ) (x : Stimulus) (a b : Option Answer) (r : SourceRecord) → not (is_draft d) ≡ true →
    after s d now x a r ≡ after s d now x b r
after-same s deed.Draft now x a b r h = absurd (cc)
after-same s _ now x a b r h = refl

all_after-same : (s : SourceSettings) (ds : List Deed) (now : ℕ) (x : Stimulus) (a b : Option Answer) (r : SourceRecord) →
    none_of is_draft ds ≡ true → all_after s ds now x a r ≡ all_after s ds now x b r
all_after-same s [] now x a b r h = refl
all_after-same s (d ∷ ds) now x a b r h =
    all_after-same s ds now x a b (after s d now x a r) (and-right (not (is_draft d)) (none_of is_draft ds) h)
    ∙ ap (λ (z : SourceRecord). all_after s ds now x b z) (after-same s d now x a b r (and-left (not (is_draft d)) (none_of is_draft ds) h))

all_wants-same : (s : SourceSettings) (ds : List Deed) (now : ℕ) (x : Stimulus) (a b : Option Answer) (r : SourceRecord) →
    none_of is_draft ds ≡ true → all_wants s ds now x a r ≡ all_wants s ds now x b r
all_wants-same s [] now x a b r h = refl
all_wants-same s (d ∷ ds) now x a b r h =
    ap (λ w. wants s d r ++ w) (all_wants-same s ds now x a b (after s d now x a r) (and-right (not (is_draft d)) (none_of is_draft ds) h))
    ∙ ap (λ (z : SourceRecord). wants s d r ++ all_wants s ds now x b z)
    (after-same s d now x a b r (and-left (not (is_draft d)) (none_of is_draft ds) h))

-- what such a row does is the same with any answer, and takes none
deeds-same : (s : SourceSettings) (x : Stimulus) (a : Option Answer) (r : SourceRecord) → IsQuiet s x a r →
    deeds_at s x a r ≡ deeds_at s x None r
deeds-same s x a r q = ap (λ (w : Row). deeds_of_row (holds s a r) w) q.0

drafts-nothing : (s : SourceSettings) (x : Stimulus) (a : Option Answer) (r : SourceRecord) → IsQuiet s x a r →
    none_of is_draft (deeds_at s x None r) ≡ true
drafts-nothing s x a r q =
    none_of-deeds is_draft (holds s None r) (row_at s x None r)
    (or-right (asks_offer (row_at s x None r).next) (none_of_row is_draft (row_at s x None r))
    (row_of-all is_sound (holds s None r) r.state (heard_of x) refl refl) q.1)

stepped-none : (s : SourceSettings) (now : ℕ) (x : Stimulus) (a : Option Answer) (r : SourceRecord) → query_of s x r ≡ None →
    stepped s now x a r ≡ stepped s now x None r
unfolding stepped
stepped-none s now x a r h =
    let z = before_row x r in
    let q = quiet-row s x a r h in
    ap (λ (ds : List Deed). all_after s ds now x a z) (deeds-same s x a z q)
    ∙ all_after-same s (deeds_at s x None z) now x a None z (drafts-nothing s x a z q)

acts_of-none : (s : SourceSettings) (now : ℕ) (x : Stimulus) (a : Option Answer) (r : SourceRecord) → query_of s x r ≡ None →
    acts_of s now x a r ≡ acts_of s now x None r
unfolding acts_of
acts_of-none s now x a r h =
    let z = before_row x r in
    let q = quiet-row s x a r h in
    ap (λ (ds : List Deed). all_wants s ds now x a z) (deeds-same s x a z q)
    ∙ all_wants-same s (deeds_at s x None z) now x a None z (drafts-nothing s x a z q)

pub stepped-same : (s : SourceSettings) (now : ℕ) (x : Stimulus) (a b : Option Answer) (r : SourceRecord) → query_of s x r ≡ None →
    stepped s now x a r ≡ stepped s now x b r
stepped-same s now x a b r h = stepped-none s now x a r h ∙ sym (stepped-none s now x b r h)

pub acts_of-same : (s : SourceSettings) (now : ℕ) (x : Stimulus) (a b : Option Answer) (r : SourceRecord) → query_of s x r ≡ None →
    acts_of s now x a r ≡ acts_of s now x b r
acts_of-same s now x a b r h = acts_of-none s now x a r h ∙ sym (acts_of-none s now x b r h)
