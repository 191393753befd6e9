-- How a step of the source's engine comes to its cable's limit: from the state in which it asks to the one in which it offers, by what it
-- is told then.
use Rattle.std.proofs.Common.{◌≡◌, ℕ, Bool, true, false, not, ◌&&◌, ◌||◌, if◌then◌else◌, List, [], ◌∷◌, Option, Some, None}
use Rattle.std.proofs.Common.{refl, sym, ap, ◌∙◌, subst}
use Rattle.std.specs.List.{list_all}
use Rattle.arrayvec.specs.ArrayVec.{ArrayVec}
use Rattle.pd_timers.specs.declared.Timer.TheVariants as timer
use Rattle.pd_identity.specs.declared.identity.Reply.{Reply}
use Rattle.pd_identity.specs.declared.identity.Reply.TheVariants as reply
use Rattle.pd_identity.specs.Identity.{limit_of, reply_of}
use Rattle.pd_objects.specs.declared.query.Answer.{Answer}
use Rattle.pd_source.specs.declared.kinds.State.{State}
use Rattle.pd_source.specs.declared.kinds.State.TheVariants as state
use Rattle.pd_source.specs.declared.kinds.Heard.{Heard}
use Rattle.pd_source.specs.declared.kinds.Heard.TheVariants as heard
use Rattle.pd_source.specs.declared.kinds.Stimulus.{Stimulus}
use Rattle.pd_source.specs.declared.kinds.Stimulus.TheVariants as stimulus
use Rattle.pd_source.specs.declared.kinds.Deed.{Deed}
use Rattle.pd_source.specs.declared.kinds.Deed.TheVariants as deed
use Rattle.pd_source.specs.Record.{SourceSettings, SourceRecord, cable_current}
use Rattle.pd_source.specs.Table.{Busy, Failed, Ended, TriesLeft, Always, row, To, NC, sc, nc, Row, Guard, among, match_one, holds}
use Rattle.pd_source.specs.Table.{heard_of}
use Rattle.pd_source.specs.Table.{heard_reply, table, asks_offer, row_of, deeds_of_row}
use Rattle.pd_source.specs.Acts.{after, all_after}
use Rattle.pd_source.specs.Step.{before_row, row_at, deeds_at, stepped}
use Rattle.pd_source.proofs.Walk.{and-left, and-right, none_of, none_of_row, none_of-deeds}
use Rattle.pd_source.proofs.Answered.{state-before}
use Rattle.pd_source.proofs.SoundActs.{is_limit}
use Rattle.pd_source.proofs.SoundRows.{row_of-fit}
use Rattle.pd_source.proofs.Offering.{is_offering, not-not, not_from}

-- the source leaves the state in which it asks for the one in which it offers
abbrev pub settles : State → State → Bool
settles state.VdmIdentityRequest state.SendCapabilities = true
settles before after = false

-- what it learns by a reply: the limit that acknowledged objects tell, or that of each cable
abbrev pub learnt_by : Reply → List ℕ → Option ℕ
learnt_by reply.Ack objects = Some (limit_of objects)
learnt_by k objects = Some cable_current

-- the limit that it learns as it is told this, where it learns it
abbrev pub Learns : Stimulus → Option ℕ → Type 0
Learns (stimulus.Identity objects) limit = limit ≡ learnt_by (reply_of objects.items) objects.items
Learns stimulus.Failed limit = limit ≡ Some cable_current
Learns (stimulus.Ended timer.VdmResponse) limit = limit ≡ Some cable_current
Learns x limit = ⊥

-- after a step in which it doesn't settle the limit is as before, and else what it has learnt
pub data Limits (x : Stimulus) (old new : SourceRecord) : Type 0 where
  same : settles old.state new.state ≡ false → new.limit ≡ old.limit → Limits x old new
  settled : settles old.state new.state ≡ true → Learns x new.limit → Limits x old new

limit_all : (s : SourceSettings) (ds : List Deed) (now : ℕ) (x : Stimulus) (a : Option Answer) (r : SourceRecord) →
    none_of is_limit ds ≡ true → (all_after s ds now x a r).limit ≡ r.limit
limit_all s [] now x a r n = refl
limit_all s (deed.LimitFromAnswer ∷ ds) now x a r n = absurd (cc)
limit_all s (deed.CableLimit ∷ ds) now x a r n = absurd (cc)
limit_all s (d ∷ ds) now x a r n = limit_all s ds now x a (after s d now x a r) n

-- in the other states no row changes the limit
abbrev asks_cable : State → Bool
asks_cable state.VdmIdentityRequest = true
asks_cable t = false

table_unlimited : (t : State) (h : Heard) → asks_cable t ≡ false →
    list_all (λ r. none_of_row is_limit r || not (among t r.states && match_one h r.cues)) table ≡ true
table_unlimited state.VdmIdentityRequest h e = absurd (cc)
table_unlimited t h e = refl

not_settles : (t u : State) → asks_cable t ≡ false → settles t u ≡ false
not_settles state.VdmIdentityRequest u e = absurd (cc)
not_settles t u e = refl

not_offering : (t u : State) → is_offering u ≡ false → settles t u ≡ false
not_offering state.VdmIdentityRequest state.SendCapabilities e = absurd (cc)
not_offering t u e = refl

-- while it asks, what it is told mostly changes no limit, and leads to no offer
abbrev is_reply : Heard → Bool
is_reply heard.Ack = true
is_reply heard.Nak = true
is_reply heard.Busy = true
is_reply heard.Failed = true
is_reply (heard.Ended timer.VdmResponse) = true
is_reply h = false

abbrev is_idle_row : Row → Bool
is_idle_row r = none_of_row is_limit r && not (asks_offer r.next)

abbrev asking : State
asking = state.VdmIdentityRequest

table_idle : (h : Heard) → is_reply h ≡ false →
    list_all (λ r. is_idle_row r || not (among asking r.states && match_one h r.cues)) table ≡ true
table_idle heard.Ack e = absurd (cc)
table_idle heard.Nak e = absurd (cc)
table_idle heard.Busy e = absurd (cc)
table_idle heard.Failed e = absurd (cc)
table_idle (heard.Ended timer.VdmResponse) e = absurd (cc)
table_idle (heard.Ended u) e = refl
table_idle (heard.Sent m) e = refl
table_idle h e = refl

row_idle : (g : Guard → Bool) (h : Heard) → is_reply h ≡ false → is_idle_row (row_of g asking h) ≡ true
row_idle g h e = row_of-fit is_idle_row g asking h refl (table_idle h e)

-- the rows that it takes for a reply: with an ACK it has the limit, and without one it asks once more or gives up
abbrev once_more : Row
once_more =
    row 7 (asking ∷ []) (Busy ∷ Failed ∷ Ended timer.VdmResponse ∷ []) TriesLeft (To asking) (deed.Start timer.DiscoverIdentity ∷ [])

abbrev gives_up : Row
gives_up = row 8 (asking ∷ []) (Busy ∷ Failed ∷ Ended timer.VdmResponse ∷ []) Always NC []

reply_ack : (g : Guard → Bool) → g Always ≡ true → deeds_of_row g (row_of g asking heard.Ack) ≡ deed.LimitFromAnswer ∷ sc
unfolding row_of
reply_ack g k = rw k refl

reply_nak : (g : Guard → Bool) → g Always ≡ true → deeds_of_row g (row_of g asking heard.Nak) ≡ nc
unfolding row_of
reply_nak g k = rw k refl

abbrev is_busy : Heard → Bool
is_busy heard.Busy = true
is_busy heard.Failed = true
is_busy (heard.Ended timer.VdmResponse) = true
is_busy h = false

reply_busy : (g : Guard → Bool) (h : Heard) → g Always ≡ true → is_busy h ≡ true →
    row_of g asking h ≡ (if g TriesLeft then once_more else gives_up)
unfolding row_of
reply_busy g heard.Busy k e = rw k refl
reply_busy g heard.Failed k e = rw k refl
reply_busy g (heard.Ended timer.VdmResponse) k e = rw k refl
reply_busy g h k e = absurd (cc)

limit_before : (x : Stimulus) (r : SourceRecord) → (before_row x r).limit ≡ r.limit
limit_before (stimulus.Sent m) r = refl
limit_before (stimulus.Ended t) r = refl
limit_before x r = refl

-- by the acts, from a state in which the source asks
module _ (s : SourceSettings) (now : ℕ) (x : Stimulus) (a : Option Answer) (r z : SourceRecord) (from : r.state ≡ asking)
    (limit : z.limit ≡ r.limit) where
  by_nc : (ds : List Deed) → ds ≡ nc → Learns x (Some cable_current) → Limits x r (all_after s ds now x a z)
  by_nc ds e h =
      subst (λ ds. Limits x r (all_after s ds now x a z)) (sym e) (settled (ap (λ t. settles t state.SendCapabilities) from) h)

  by_once_more : (g : Guard → Bool) (w : Row) → w ≡ once_more → Limits x r (all_after s (deeds_of_row g w) now x a z)
  by_once_more g w e =
      subst (λ w. Limits x r (all_after s (deeds_of_row g w) now x a z)) (sym e)
      (same (ap (λ t. settles t asking) from) limit)

  by_tries : (g : Guard → Bool) (b : Bool) (w : Row) → w ≡ (if b then once_more else gives_up) →
      Learns x (Some cable_current) → Limits x r (all_after s (deeds_of_row g w) now x a z)
  by_tries g true w e h = by_once_more g w e
  by_tries g false w e h = by_nc (deeds_of_row g w) (ap (deeds_of_row g) e) h

-- what it is told while it asks
module _ (s : SourceSettings) (now : ℕ) (a : Option Answer) (r z : SourceRecord) (from : r.state ≡ asking) (at : z.state ≡ asking)
    (limit : z.limit ≡ r.limit) where
  row_at_is : (x : Stimulus) (h : Heard) → heard_of x ≡ h → row_at s x a z ≡ row_of (holds s a z) asking h
  row_at_is x h e = ap (λ t. row_of (holds s a z) t (heard_of x)) at ∙ ap (row_of (holds s a z) asking) e

  told_busy : (x : Stimulus) (h : Heard) → heard_of x ≡ h → is_busy h ≡ true → Learns x (Some cable_current) →
      Limits x r (all_after s (deeds_at s x a z) now x a z)
  told_busy x h e k l =
      by_tries s now x a r z from limit (holds s a z) (holds s a z TriesLeft) (row_at s x a z)
      (row_at_is x h e ∙ reply_busy (holds s a z) h refl k) l

  told_ack : (objects : ArrayVec ℕ) → reply_of objects.items ≡ reply.Ack → let x = stimulus.Identity objects in
      Limits x r (all_after s (deeds_at s x a z) now x a z)
  told_ack objects e =
      let x = stimulus.Identity objects in
      let ds : deeds_at s x a z ≡ deed.LimitFromAnswer ∷ sc =
      ap (deeds_of_row (holds s a z)) (row_at_is x heard.Ack (ap heard_reply e)) ∙ reply_ack (holds s a z) refl in
      subst (λ ds. Limits x r (all_after s ds now x a z)) (sym ds)
      (settled (ap (λ t. settles t state.SendCapabilities) from)
      (ap (λ k. learnt_by k objects.items) (sym e)))

  told_nak : (objects : ArrayVec ℕ) → reply_of objects.items ≡ reply.Nak → let x = stimulus.Identity objects in
      Limits x r (all_after s (deeds_at s x a z) now x a z)
  told_nak objects e =
      let x = stimulus.Identity objects in
      by_nc s now x a r z from limit (deeds_at s x a z)
      (ap (deeds_of_row (holds s a z)) (row_at_is x heard.Nak (ap heard_reply e)) ∙ reply_nak (holds s a z) refl)
      (ap (λ k. learnt_by k objects.items) (sym e))

  told_identity : (objects : ArrayVec ℕ) (k : Reply) → reply_of objects.items ≡ k → let x = stimulus.Identity objects in
      Limits x r (all_after s (deeds_at s x a z) now x a z)
  told_identity objects reply.Ack e = told_ack objects e
  told_identity objects reply.Nak e = told_nak objects e
  told_identity objects reply.Busy e =
      let x = stimulus.Identity objects in
      told_busy x heard.Busy (ap heard_reply e) refl (ap (λ k. learnt_by k objects.items) (sym e))

  by_offer : (x : Stimulus) (b : Bool) → is_offering (all_after s (deeds_at s x a z) now x a z).state ≡ b →
      asks_offer (row_at s x a z).next ≡ false → (all_after s (deeds_at s x a z) now x a z).limit ≡ r.limit →
      Limits x r (all_after s (deeds_at s x a z) now x a z)
  by_offer x true o none kept = not_from s now x a z none (ap is_offering at) o
  by_offer x false o none kept = same (not_offering r.state (all_after s (deeds_at s x a z) now x a z).state o) kept

  elsewhere : (x : Stimulus) → is_reply (heard_of x) ≡ false → Limits x r (all_after s (deeds_at s x a z) now x a z)
  elsewhere x n =
      let w = row_at s x a z in
      let idle : is_idle_row w ≡ true = ap is_idle_row (row_at_is x (heard_of x) refl) ∙ row_idle (holds s a z) (heard_of x) n in
      let plain : none_of_row is_limit w ≡ true = and-left (none_of_row is_limit w) (not (asks_offer w.next)) idle in
      let none : asks_offer w.next ≡ false =
      not-not (asks_offer w.next) (and-right (none_of_row is_limit w) (not (asks_offer w.next)) idle) in
      by_offer x (is_offering (all_after s (deeds_at s x a z) now x a z).state) refl none
      (limit_all s (deeds_at s x a z) now x a z (none_of-deeds is_limit (holds s a z) w plain) ∙ limit)

  told : (x : Stimulus) → Limits x r (all_after s (deeds_at s x a z) now x a z)
  told (stimulus.Identity objects) = told_identity objects (reply_of objects.items) refl
  told stimulus.Failed = told_busy stimulus.Failed heard.Failed refl refl refl
  told (stimulus.Ended timer.VdmResponse) = told_busy (stimulus.Ended timer.VdmResponse) (heard.Ended timer.VdmResponse) refl refl refl
  told x = elsewhere x refl

by_asking : (s : SourceSettings) (now : ℕ) (x : Stimulus) (a : Option Answer) (r : SourceRecord) (t : State) → r.state ≡ t →
    let z = before_row x r in Limits x r (all_after s (deeds_at s x a z) now x a z)
by_asking s now x a r state.VdmIdentityRequest e =
    let z = before_row x r in told s now a r z e (state-before x r ∙ e) (limit_before x r) x
by_asking s now x a r t e =
    let z = before_row x r in
    let w = row_at s x a z in
    let n : asks_cable z.state ≡ false = ap asks_cable (state-before x r ∙ e) in
    let plain : none_of_row is_limit w ≡ true =
    row_of-fit (none_of_row is_limit) (holds s a z) z.state (heard_of x) refl (table_unlimited z.state (heard_of x) n) in
    same (not_settles r.state (all_after s (deeds_at s x a z) now x a z).state (ap asks_cable e))
    (limit_all s (deeds_at s x a z) now x a z (none_of-deeds is_limit (holds s a z) w plain) ∙ limit_before x r)

pub limits-stepped : (s : SourceSettings) (now : ℕ) (x : Stimulus) (a : Option Answer) (r : SourceRecord) → Limits x r (stepped s now x a r)
unfolding stepped
limits-stepped s now x a r = by_asking s now x a r r.state refl
