-- In which steps the sink's engine sends a Request: in those that lead to Select_Capability, as a timer ends, by the sink that it knows and
-- the offer that it keeps then.
use Rattle.std.proofs.Common.{◌≡◌, ℕ, Bool, true, false, not, ◌&&◌, ◌||◌, if◌then◌else◌, List, [], ◌∷◌, ◌++◌, Option, Some, None}
use Rattle.std.proofs.Common.{refl, sym, ap, ◌∙◌, subst}
use Rattle.std.specs.List.{list_all}
use Rattle.pd_setup.specs.Sinks.{SinkData}
use Rattle.pd_timers.specs.Table.{first_row}
use Rattle.pd_timers.proofs.FirstRow.{and-left, and-right}
use Rattle.pd_sink.specs.declared.kinds.State.{State}
use Rattle.pd_sink.specs.declared.kinds.State.TheVariants as state
use Rattle.pd_sink.specs.declared.kinds.Stimulus.{Stimulus}
use Rattle.pd_sink.specs.declared.kinds.Stimulus.TheVariants as stimulus
use Rattle.pd_sink.specs.declared.kinds.Message.TheVariants as message
use Rattle.pd_sink.specs.declared.kinds.Note.TheVariants as note
use Rattle.pd_sink.specs.declared.kinds.Sending.TheVariants as sending
use Rattle.pd_sink.specs.declared.kinds.Act.{Act}
use Rattle.pd_sink.specs.declared.kinds.Act.TheVariants as act
use Rattle.pd_sink.specs.declared.kinds.Deed.{Deed}
use Rattle.pd_sink.specs.declared.kinds.Deed.TheVariants as deed
use Rattle.pd_sink.specs.Record.{SinkRecord}
use Rattle.pd_sink.specs.Table.{Row, Guard, HardResetsLeft, Next, Stay, To, RQ, RD, SR, HR, among, match_one, holds, table, anything_else}
use Rattle.pd_sink.specs.Table.{row_of, deeds_of_row}
use Rattle.pd_sink.specs.Acts.{after, wants, send, asked_in, is_mismatch, request_of, capabilities_of, all_after, all_wants}
use Rattle.pd_sink.specs.Step.{before_row, deeds_at, stepped, acts_of}

abbrev pub is_select : State → Bool
is_select state.SelectCapability = true
is_select s = false

-- a step between these states leads to Select_Capability
abbrev pub leads_to_select : State → State → Bool
leads_to_select before after = not (is_select before) && is_select after

abbrev pub is_ended : Stimulus → Bool
is_ended (stimulus.Ended t) = true
is_ended x = false

-- none of these acts sends a Request
abbrev pub sends_none : List Act → Bool
sends_none [] = true
sends_none (act.Send (sending.Request object) ∷ acts) = false
sends_none (a ∷ acts) = sends_none acts

-- a mismatch is noted or not
abbrev pub notes_mismatch : Bool → List Act
notes_mismatch b = if b then act.Note note.Mismatch ∷ [] else []

-- a step sends no Request and doesn't lead to Select_Capability, or it does both, as a timer ends
pub data Requests (x : Stimulus) (old new : SinkRecord) (acts : List Act) : Type 0 where
  none : leads_to_select old.state new.state ≡ false → sends_none acts ≡ true → Requests x old new acts
  one : leads_to_select old.state new.state ≡ true → is_ended x ≡ true → (b : Bool) →
      acts ≡ act.DropWaiting ∷ (notes_mismatch b ++ (send (request_of (asked_in new)) ++ [])) → Requests x old new acts

-- ---- acts that send none

abbrev speaks : Deed → Bool
speaks (deed.Enter t) = is_select t
speaks (deed.Send message.Request) = true
speaks d = false

abbrev quiet : List Deed → Bool
quiet [] = true
quiet (d ∷ ds) = not (speaks d) && quiet ds

append_none : (xs ys : List Act) → sends_none xs ≡ true → sends_none ys ≡ true → sends_none (xs ++ ys) ≡ true
append_none [] ys h k = k
append_none (act.Send (sending.Request object) ∷ xs) ys h k = absurd (cc)
append_none (a ∷ xs) ys h k = append_none xs ys h k

noted_none : (b : Bool) → sends_none (notes_mismatch b) ≡ true
noted_none true = refl
noted_none false = refl

capabilities_none : (o : Option SinkData) → sends_none (send (capabilities_of o)) ≡ true
capabilities_none None = refl
capabilities_none (Some s) = refl

deed_none : (d : Deed) (r : SinkRecord) → not (speaks d) ≡ true → sends_none (wants d r) ≡ true
deed_none (deed.Send message.Request) r n = absurd (cc)
deed_none (deed.Send message.SinkCapabilities) r n = capabilities_none r.sink
deed_none deed.NoteMismatch r n = noted_none (is_mismatch (asked_in r))
deed_none d r n = refl

quiet_none : (ds : List Deed) (now : ℕ) (x : Stimulus) (r : SinkRecord) → quiet ds ≡ true → sends_none (all_wants ds now x r) ≡ true
quiet_none [] now x r n = refl
quiet_none (d ∷ ds) now x r n =
    append_none (wants d r) (all_wants ds now x (after d now x r)) (deed_none d r (and-left (not (speaks d)) (quiet ds) n))
    (quiet_none ds now x (after d now x r) (and-right (not (speaks d)) (quiet ds) n))

not-true : (b : Bool) → not b ≡ true → b ≡ false
not-true true h = absurd (cc)
not-true false h = refl

deed_state : (d : Deed) (now : ℕ) (x : Stimulus) (r : SinkRecord) → not (speaks d) ≡ true → is_select r.state ≡ false →
    is_select (after d now x r).state ≡ false
deed_state (deed.Enter t) now x r n h = not-true (is_select t) n
deed_state d now x r n h = h

quiet_state : (ds : List Deed) (now : ℕ) (x : Stimulus) (r : SinkRecord) → quiet ds ≡ true → is_select r.state ≡ false →
    is_select (all_after ds now x r).state ≡ false
quiet_state [] now x r n h = h
quiet_state (d ∷ ds) now x r n h =
    quiet_state ds now x (after d now x r) (and-right (not (speaks d)) (quiet ds) n)
    (deed_state d now x r (and-left (not (speaks d)) (quiet ds) n) h)

-- ---- the acts that send one

abbrev is_rq : List Deed → Bool
is_rq (deed.Enter t ∷ deed.Fresh b ∷ deed.Again c ∷ deed.NoteMismatch ∷ deed.Send message.Request ∷ []) = is_select t
is_rq ds = false

record Sends (ds : List Deed) (now : ℕ) (x : Stimulus) (r : SinkRecord) : Type 0 where
  mismatch : Bool
  acts : all_wants ds now x r ≡ act.DropWaiting ∷ (notes_mismatch mismatch ++ (send (request_of (asked_in (all_after ds now x r))) ++ []))
  state : is_select (all_after ds now x r).state ≡ true

rq_sends : (ds : List Deed) (now : ℕ) (x : Stimulus) (r : SinkRecord) → is_rq ds ≡ true → Sends ds now x r
rq_sends (deed.Enter t ∷ deed.Fresh b ∷ deed.Again c ∷ deed.NoteMismatch ∷ deed.Send message.Request ∷ []) now x r h =
    record { mismatch = is_mismatch (asked_in r); acts = refl; state = h }
rq_sends ds now x r h = absurd (cc)

-- ---- rows

-- a row sends none, or it sends one from another state than Select_Capability
abbrev fair : State → List Deed → Bool
fair t ds = quiet ds || (is_rq ds && not (is_select t))

-- both ways
abbrev both_ways : (List Deed → Bool) → Row → Bool
both_ways p r = p (deeds_of_row (λ g. true) r) && p (deeds_of_row (λ g. false) r)

table_fair : (t : State) (x : Stimulus) → list_all (λ r. both_ways (fair t) r || not (among t r.states && match_one x r.cues)) table ≡ true
table_fair state.SelectCapability x = refl
table_fair t x = refl

-- without a timer that ends it sends none
table_quiet : (t : State) (x : Stimulus) → is_ended x ≡ false →
    list_all (λ r. both_ways quiet r || not (among t r.states && match_one x r.cues)) table ≡ true
table_quiet state.EvaluateCapability (stimulus.Ended u) e = absurd (cc)
table_quiet state.EvaluateCapability x e = refl
table_quiet state.Ready (stimulus.Ended u) e = absurd (cc)
table_quiet state.Ready x e = refl
table_quiet t x e = refl

-- of the guards, what a row does asks whether a Hard Reset is left
fixed : (g : Guard → Bool) (n : Next) (r : Row) →
    deeds_of_row g (record r { next = n }) ≡ deeds_of_row (λ w. g HardResetsLeft) (record r { next = n })
fixed g Stay r = refl
fixed g (To t) r = refl
fixed g RQ r = refl
fixed g RD r = refl
fixed g SR r = refl
fixed g HR r = refl

-- what holds of each row that is asked for holds of the first that fits
pick : (p : Row → Bool) (m c : Bool) (r q : Row) → p r || not m ≡ true → p q ≡ true → p (if (m && c) then r else q) ≡ true
pick p true true r q h k = or-false (p r) h where
  or-false : (b : Bool) → b || false ≡ true → b ≡ true
  or-false true h = h
  or-false false h = h
pick p true false r q h k = k
pick p false c r q h k = k

first_row-fit : (p asked guarded : Row → Bool) (otherwise : Row) (rows : List Row) → p otherwise ≡ true →
    list_all (λ r. p r || not (asked r)) rows ≡ true → p (first_row (λ r. asked r && guarded r) otherwise rows) ≡ true
first_row-fit p asked guarded otherwise [] e all = e
first_row-fit p asked guarded otherwise (r ∷ rs) e all =
    let u = p r || not (asked r) in
    let v = list_all (λ r. p r || not (asked r)) rs in
    pick p (asked r) (guarded r) r (first_row (λ r. asked r && guarded r) otherwise rs) (and-left u v all)
    (first_row-fit p asked guarded otherwise rs e (and-right u v all))

chosen : (p : List Deed → Bool) (b : Bool) (r : Row) → both_ways p r ≡ true → p (deeds_of_row (λ g. b) r) ≡ true
chosen p true r h = and-left (p (deeds_of_row (λ g. true) r)) (p (deeds_of_row (λ g. false) r)) h
chosen p false r h = and-right (p (deeds_of_row (λ g. true) r)) (p (deeds_of_row (λ g. false) r)) h

row_has : (p : List Deed → Bool) (g : Guard → Bool) (t : State) (x : Stimulus) → both_ways p anything_else ≡ true →
    list_all (λ r. both_ways p r || not (among t r.states && match_one x r.cues)) table ≡ true → p (deeds_of_row g (row_of g t x)) ≡ true
unfolding row_of
row_has p g t x e all =
    let w = row_of g t x in
    ap p (fixed g w.next w) ∙ chosen p (g HardResetsLeft) w
    (first_row-fit (both_ways p) (λ r. among t r.states && match_one x r.cues) (λ r. g r.guard) anything_else table e all)

-- ---- a step

never_leads : (b c : Bool) → (b ≡ false → c ≡ false) → not b && c ≡ false
never_leads true c h = refl
never_leads false c h = h refl

leads : (b c : Bool) → not b ≡ true → c ≡ true → not b && c ≡ true
leads true c h k = absurd (cc)
leads false c h k = k

state_before : (x : Stimulus) (r : SinkRecord) → (before_row x r).state ≡ r.state
state_before (stimulus.Attach s) r = refl
state_before stimulus.Sent r = refl
state_before (stimulus.Ended t) r = refl
state_before (stimulus.Demand mw) r = refl
state_before x r = refl

-- by whether the acts send none, and whether a timer has ended
by_acts : (ds : List Deed) (now : ℕ) (x : Stimulus) (r z : SinkRecord) (b c : Bool) → is_select z.state ≡ is_select r.state →
    fair z.state ds ≡ true → quiet ds ≡ b → is_ended x ≡ c → (c ≡ false → quiet ds ≡ true) →
    Requests x r (all_after ds now x z) (all_wants ds now x z)
by_acts ds now x r z true c same fine n e plain =
    none (never_leads (is_select r.state) (is_select (all_after ds now x z).state) (λ k. quiet_state ds now x z n (same ∙ k)))
    (quiet_none ds now x z n)
by_acts ds now x r z false false same fine n e plain = absurd (let f : false ≡ true = sym n ∙ plain refl in cc)
by_acts ds now x r z false true same fine n e plain =
    let rest : is_rq ds && not (is_select z.state) ≡ true = ap (λ b. b || (is_rq ds && not (is_select z.state))) (sym n) ∙ fine in
    let sends = rq_sends ds now x z (and-left (is_rq ds) (not (is_select z.state)) rest) in
    let from : not (is_select r.state) ≡ true = ap not (sym same) ∙ and-right (is_rq ds) (not (is_select z.state)) rest in
    one (leads (is_select r.state) (is_select (all_after ds now x z).state) from sends.state) e sends.mismatch sends.acts

pub requests-stepped : (now : ℕ) (x : Stimulus) (r : SinkRecord) → Requests x r (stepped now x r) (acts_of now x r)
unfolding stepped acts_of
requests-stepped now x r =
    let z = before_row x r in
    let ds = deeds_at x z in
    by_acts ds now x r z (quiet ds) (is_ended x) (ap is_select (state_before x r))
    (row_has (fair z.state) (holds z) z.state x refl (table_fair z.state x)) refl refl
    (λ e. row_has quiet (holds z) z.state x refl (table_quiet z.state x e))
