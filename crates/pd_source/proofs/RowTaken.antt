-- The row that is taken, as the code tells the guards.
use Rattle.std.proofs.Common.{◌≡◌, ℕ, Bool, true, false, if◌then◌else◌, List, [], ◌∷◌, ◌++◌, Option, Some, None, refl, ap, sym, ◌∙◌}
use Rattle.std.specs.Prelude.{is_some}
use Rattle.pd_objects.specs.declared.query.Answer.{Answer}
use Rattle.pd_objects.specs.declared.query.Query.{Query}
use Rattle.pd_source.specs.declared.kinds.State.{State}
use Rattle.pd_source.specs.declared.kinds.Act.{Act}
use Rattle.pd_source.specs.declared.kinds.Stimulus.{Stimulus}
use Rattle.pd_source.specs.declared.kinds.Stimulus.TheVariants as stimulus
use Rattle.pd_source.specs.declared.kinds.Facts.{Facts}
use Rattle.pd_source.specs.declared.kinds.Heard.{Heard}
use Rattle.pd_source.specs.declared.kinds.Deed.{Deed}
use Rattle.pd_source.specs.declared.kinds.Deed.TheVariants as deed
use Rattle.pd_source.specs.Record.{SourceSettings, SourceRecord, SourceData, with_record}
use Rattle.pd_source.specs.Facts.{told, facts_of}
use Rattle.pd_source.specs.Table.{Row, Next, Stay, Same, To, SC, NC, SR, HR, sc, nc, sr, hr, Guard, Always, LimitKnown, TriesLeft, WasSent}
use Rattle.pd_source.specs.Table.{HasContract, CapsLeft, RequestInvalid, Fits, OfferDiffers, HardResetsLeft, holds, row_of, deeds_of_row}
use Rattle.pd_source.specs.Table.{asks_offer, heard_of}
use Rattle.pd_source.specs.Acts.{all_after, all_wants}
use Rattle.pd_source.specs.Step.{before_row, row_at, deeds_at, stepped, acts_of, makes_offer, limit_after, offer_query, row_query}
use Rattle.pd_source.proofs.Walk.{row_of-all, none_of}

told-each : (s : SourceSettings) (a : Option Answer) (r : SourceRecord) (g : Guard) → told (facts_of s a r) g ≡ holds s a r g
told-each s a r Always = refl
told-each s a r LimitKnown = refl
told-each s a r TriesLeft = refl
told-each s a r WasSent = refl
told-each s a r HasContract = refl
told-each s a r CapsLeft = refl
told-each s a r RequestInvalid = refl
told-each s a r Fits = refl
told-each s a r OfferDiffers = refl
told-each s a r HardResetsLeft = refl

told-facts : (s : SourceSettings) (a : Option Answer) (r : SourceRecord) → told (facts_of s a r) ≡ holds s a r
told-facts s a r = λ i g. told-each s a r g i

-- what a choice with these facts does is what the row that is taken does
pub deeds-told : (s : SourceSettings) (x : Stimulus) (a : Option Answer) (r : SourceRecord) (t : State) (f : Facts) (h : Heard) →
    t ≡ r.state → f ≡ facts_of s a r → h ≡ heard_of x → deeds_of_row (told f) (row_of (told f) t h) ≡ deeds_at s x a r
deeds-told s x a r t f h e p q =
    ap (λ (t : State). deeds_of_row (told f) (row_of (told f) t h)) e ∙
    ap (λ (f : Facts). deeds_of_row (told f) (row_of (told f) r.state h)) p
    ∙ ap (λ (g : Guard → Bool). deeds_of_row g (row_of g r.state h)) (told-facts s a r)
    ∙ ap (λ (h : Heard). deeds_of_row (holds s a r) (row_of (holds s a r) r.state h)) q

-- of what comes before the row, the row asks the mark alone
pub deeds-marked : (s : SourceSettings) (x : Stimulus) (a : Option Answer) (r : SourceRecord) →
    deeds_at s x a (record r { sent = (before_row x r).sent }) ≡ deeds_at s x a (before_row x r)
deeds-marked s (stimulus.Sent m) a r = refl
deeds-marked s (stimulus.Ended t) a r = refl
deeds-marked s _ a r = refl

pub limit-before : (x : Stimulus) (r : SourceRecord) → (before_row x r).limit ≡ r.limit
limit-before (stimulus.Sent m) r = refl
limit-before (stimulus.Ended t) r = refl
limit-before _ r = refl

-- a step: what came is seen, a row is chosen, and what it does is done
pub step-taken : (d e f : SourceData) (now : ℕ) (x : Stimulus) (a : Option Answer) (sent : Bool) (ds : List Deed) →
    e ≡ with_record d (before_row x d.record) → sent ≡ e.record.sent → ds ≡ deeds_at e.settings x a (record e.record { sent = sent }) →
    f ≡ with_record e (all_after e.settings ds now x a e.record) → f ≡ with_record d (stepped d.settings now x a d.record)
unfolding stepped
step-taken d e f now x a sent ds p q u v =
    v
    ∙ ap (λ (ds : List Deed). with_record e (all_after e.settings ds now x a e.record)) u
    ∙ ap (λ (sent : Bool). with_record e
    (all_after e.settings (deeds_at e.settings x a (record e.record { sent = sent })) now x a e.record)) q
    ∙ ap (λ (e : SourceData). with_record e (all_after e.settings (deeds_at e.settings x a e.record) now x a e.record)) p

pub acts-taken : (d e : SourceData) (acts : List Act) (now : ℕ) (x : Stimulus) (a : Option Answer) (sent : Bool) (ds : List Deed) →
    e ≡ with_record d (before_row x d.record) → sent ≡ e.record.sent → ds ≡ deeds_at e.settings x a (record e.record { sent = sent }) →
    acts ≡ all_wants e.settings ds now x a e.record → acts ≡ acts_of d.settings now x a d.record
unfolding acts_of
acts-taken d e acts now x a sent ds p q u v =
    v
    ∙ ap (λ (ds : List Deed). all_wants e.settings ds now x a e.record) u
    ∙ ap (λ (sent : Bool). all_wants e.settings (deeds_at e.settings x a (record e.record { sent = sent })) now x a e.record) q
    ∙ ap (λ (e : SourceData). all_wants e.settings (deeds_at e.settings x a e.record) now x a e.record) p

-- an offer is among the acts of a row exactly where it leads to SC or NC
abbrev is_draft : Deed → Bool
is_draft deed.Draft = true
is_draft _ = false

makes_offer-append : (xs ys : List Deed) → none_of is_draft xs ≡ true → makes_offer (xs ++ ys) ≡ makes_offer ys
makes_offer-append [] ys h = refl
makes_offer-append (deed.Draft ∷ xs) ys h = absurd (cc)
makes_offer-append (_ ∷ xs) ys h = makes_offer-append xs ys h

makes_offer-none : (xs : List Deed) → none_of is_draft xs ≡ true → makes_offer xs ≡ false
makes_offer-none [] h = refl
makes_offer-none (deed.Draft ∷ xs) h = absurd (cc)
makes_offer-none (_ ∷ xs) h = makes_offer-none xs h

hr-none : (b : Bool) → makes_offer (hr b) ≡ false
hr-none true = refl
hr-none false = refl

with-next : (g : Guard → Bool) (n : Next) (r : Row) → none_of is_draft r.deeds ≡ true →
    makes_offer (deeds_of_row g (record r { next = n })) ≡ asks_offer n
with-next g Stay r h = makes_offer-none r.deeds h
with-next g Same r h = makes_offer-none r.deeds h
with-next g (To t) r h = makes_offer-none r.deeds h
with-next g SC r h = makes_offer-append r.deeds sc h
with-next g NC r h = makes_offer-append r.deeds nc h
with-next g SR r h = makes_offer-append r.deeds sr h
with-next g HR r h = makes_offer-append r.deeds (hr (g HardResetsLeft)) h ∙ hr-none (g HardResetsLeft)

offers : (s : SourceSettings) (x : Stimulus) (a : Option Answer) (r : SourceRecord) →
    makes_offer (deeds_at s x a r) ≡ asks_offer (row_at s x a r).next
offers s x a r =
    let w = row_at s x a r in
    with-next (holds s a r) w.next w (row_of-all (λ (w : Row). none_of is_draft w.deeds) (holds s a r) r.state (heard_of x) refl refl)

-- the query of a row that makes an offer, and of one that makes none
pub query-taken : (s : SourceSettings) (r : SourceRecord) (x : Stimulus) (sent asks : Bool) (ds : List Deed) (limit : Option ℕ)
    (q : Query) → asks ≡ true → sent ≡ (before_row x r).sent → ds ≡ deeds_at s x None (record r { sent = sent }) → asks ≡ makes_offer ds →
    limit ≡ limit_after ds x r.limit → q ≡ offer_query s limit → Some q ≡ row_query s x (before_row x r)
query-taken s r x sent asks ds limit q t e u v l m =
    let z = before_row x r in
    let d : ds ≡ deeds_at s x None z = u ∙ ap (λ (sent : Bool). deeds_at s x None (record r { sent = sent })) e ∙ deeds-marked s x None r in
    let is : asks_offer (row_at s x None z).next ≡ true = sym (offers s x None z) ∙ ap makes_offer (sym d) ∙ sym v ∙ t in
    let k : limit ≡ limit_after (deeds_at s x None z) x z.limit =
    l ∙ ap (λ (ds : List Deed). limit_after ds x r.limit) d
    ∙ ap (λ (n : Option ℕ). limit_after (deeds_at s x None z) x n) (sym (limit-before x r)) in
    let w : q ≡ offer_query s (limit_after (deeds_at s x None z) x z.limit) = m ∙ ap (λ (n : Option ℕ). offer_query s n) k in
    ap (λ (q : Query). Some q) w
    ∙ ap (λ (b : Bool). if b then Some (offer_query s (limit_after (deeds_at s x None z) x z.limit)) else None) (sym is)

pub no_query-taken : (s : SourceSettings) (r : SourceRecord) (x : Stimulus) (sent asks : Bool) (ds : List Deed) → asks ≡ false →
    sent ≡ (before_row x r).sent → ds ≡ deeds_at s x None (record r { sent = sent }) → asks ≡ makes_offer ds →
    None ≡ row_query s x (before_row x r)
no_query-taken s r x sent asks ds t e u v =
    let z = before_row x r in
    let d : ds ≡ deeds_at s x None z = u ∙ ap (λ (sent : Bool). deeds_at s x None (record r { sent = sent })) e ∙ deeds-marked s x None r in
    let is : asks_offer (row_at s x None z).next ≡ false = sym (offers s x None z) ∙ ap makes_offer (sym d) ∙ sym v ∙ t in
    ap (λ (b : Bool). if b then Some (offer_query s (limit_after (deeds_at s x None z) x z.limit)) else None) (sym is)

some-where : (b : Bool) (q : Query) → b ≡ is_some (if b then Some q else None)
some-where true q = refl
some-where false q = refl

-- whether a row makes an offer is whether it has a query
pub asks-taken : (s : SourceSettings) (r : SourceRecord) (x : Stimulus) (sent asks : Bool) (ds : List Deed) →
    sent ≡ (before_row x r).sent → ds ≡ deeds_at s x None (record r { sent = sent }) → asks ≡ makes_offer ds →
    asks ≡ is_some (row_query s x (before_row x r))
asks-taken s r x sent asks ds e u v =
    let z = before_row x r in
    let d : ds ≡ deeds_at s x None z = u ∙ ap (λ (sent : Bool). deeds_at s x None (record r { sent = sent })) e ∙ deeds-marked s x None r in
    v ∙ ap makes_offer d ∙ offers s x None z
    ∙ some-where (asks_offer (row_at s x None z).next) (offer_query s (limit_after (deeds_at s x None z) x z.limit))
