-- What a step does that finds the offer as it was delivered.
use Rattle.std.proofs.Common.{◌≡◌, ℕ, Bool, true, false, not, if◌then◌else◌, List, [], ◌∷◌, Option, refl, ap, ◌∙◌}
use Rattle.std.proofs.lemmas.Bool.{not-true}
use Rattle.pd_timers.specs.declared.Timer.TheVariants as timer
use Rattle.pd_timers.specs.Deadlines.{idle, started}
use Rattle.pd_objects.specs.declared.query.Answer.{Answer}
use Rattle.pd_source.specs.declared.kinds.State.{State}
use Rattle.pd_source.specs.declared.kinds.State.TheVariants as state
use Rattle.pd_source.specs.declared.kinds.Heard.{Heard}
use Rattle.pd_source.specs.declared.kinds.Heard.TheVariants as heard
use Rattle.pd_source.specs.declared.kinds.Stimulus.{Stimulus}
use Rattle.pd_source.specs.declared.kinds.Stimulus.TheVariants as stimulus
use Rattle.pd_source.specs.declared.kinds.Act.TheVariants as act
use Rattle.pd_source.specs.Record.{SourceSettings, SourceRecord}
use Rattle.pd_source.specs.Table.{Row, Guard, Always, OfferDiffers, holds, heard_of, differs_from, row_of, deeds_of_row}
use Rattle.pd_source.specs.Acts.{all_after, all_wants}
use Rattle.pd_source.specs.Step.{before_row, row_at, stepped, acts_of, polls, finds_alike}
use Rattle.pd_source.proofs.Walk.{and-left, and-right}
use Rattle.pd_source.proofs.Answered.{state-before}
use Rattle.pd_source.proofs.Limits.{polling, again}

other : (b : Bool) (p q : Row) → b ≡ false → (if b then p else q) ≡ q
other true p q h = absurd (cc)
other false p q h = refl

polled-again : (g : Guard → Bool) → g Always ≡ true → g OfferDiffers ≡ false → (t : State) (h : Heard) → polls t h ≡ true →
    row_of g t h ≡ again
unfolding row_of
polled-again g k n state.Ready (heard.Ended timer.OfferPoll) e = rw k (other (g OfferDiffers) polling again n)
polled-again g k n state.WaitNewCapabilities (heard.Ended timer.OfferPoll) e = rw k (other (g OfferDiffers) polling again n)
polled-again g k n _ _ e = absurd (cc)

offer-before : (x : Stimulus) (r : SourceRecord) → (before_row x r).delivered_offer ≡ r.delivered_offer
offer-before (stimulus.Sent m) r = refl
offer-before (stimulus.Ended t) r = refl
offer-before _ r = refl

-- the engine after such a step
abbrev pub polled : ℕ → SourceRecord → SourceRecord
polled now r = record r { deadlines = started idle now timer.OfferPoll; sent = false }

polled-before : (now : ℕ) (x : Stimulus) (r : SourceRecord) → polled now (before_row x r) ≡ polled now r
polled-before now (stimulus.Sent m) r = refl
polled-before now (stimulus.Ended t) r = refl
polled-before now _ r = refl

row-again : (s : SourceSettings) (x : Stimulus) (a : Option Answer) (r : SourceRecord) → finds_alike x a r ≡ true →
    row_at s x a (before_row x r) ≡ again
row-again s x a r h =
    let z = before_row x r in
    let p = and-left (polls r.state (heard_of x)) (not (differs_from r.delivered_offer a)) h in
    let q = not-true (differs_from r.delivered_offer a)
    (and-right (polls r.state (heard_of x)) (not (differs_from r.delivered_offer a)) h) in
    polled-again (holds s a z) refl (ap (λ (offer : List ℕ). differs_from offer a) (offer-before x r) ∙ q) z.state (heard_of x)
    (ap (λ t. polls t (heard_of x)) (state-before x r) ∙ p)

pub poll_stepped : (s : SourceSettings) (now : ℕ) (x : Stimulus) (a : Option Answer) (r : SourceRecord) → finds_alike x a r ≡ true →
    stepped s now x a r ≡ polled now r
unfolding stepped
poll_stepped s now x a r h =
    let z = before_row x r in
    ap (λ (w : Row). all_after s (deeds_of_row (holds s a z) w) now x a z) (row-again s x a r h) ∙ polled-before now x r

pub poll_acts : (s : SourceSettings) (now : ℕ) (x : Stimulus) (a : Option Answer) (r : SourceRecord) → finds_alike x a r ≡ true →
    acts_of s now x a r ≡ act.DropWaiting ∷ []
unfolding acts_of
poll_acts s now x a r h =
    let z = before_row x r in
    ap (λ (w : Row). all_wants s (deeds_of_row (holds s a z) w) now x a z) (row-again s x a r h)
