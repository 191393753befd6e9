-- What a step of the source's engine does to the Source_Capabilities that wait and to the offer that is being made.
use Rattle.std.proofs.Common.{◌≡◌, ℕ, Bool, true, false, not, ◌&&◌, ◌||◌, if◌then◌else◌, List, [], ◌∷◌, ◌++◌, Option, Some, None}
use Rattle.std.proofs.Common.{refl, sym, ap, ◌∙◌}
use Rattle.std.specs.List.{list_all}
use Rattle.arrayvec.specs.ArrayVec.{ArrayVec}
use Rattle.pd_objects.specs.declared.query.Answer.{Answer}
use Rattle.pd_objects.specs.declared.query.Answer.TheVariants as answer
use Rattle.pd_objects.specs.declared.query.Query.{Query}
use Rattle.pd_objects.specs.declared.query.Query.TheVariants as query
use Rattle.pd_source.specs.declared.kinds.State.{State}
use Rattle.pd_source.specs.declared.kinds.State.TheVariants as state
use Rattle.pd_source.specs.declared.kinds.Heard.{Heard}
use Rattle.pd_source.specs.declared.kinds.Heard.TheVariants as heard
use Rattle.pd_source.specs.declared.kinds.Stimulus.{Stimulus}
use Rattle.pd_source.specs.declared.kinds.Stimulus.TheVariants as stimulus
use Rattle.pd_source.specs.declared.kinds.Message.TheVariants as message
use Rattle.pd_source.specs.declared.kinds.Sending.TheVariants as sending
use Rattle.pd_source.specs.declared.kinds.Act.{Act}
use Rattle.pd_source.specs.declared.kinds.Act.TheVariants as act
use Rattle.pd_source.specs.declared.kinds.Deed.{Deed}
use Rattle.pd_source.specs.declared.kinds.Deed.TheVariants as deed
use Rattle.pd_source.specs.Record.{SourceSettings, SourceRecord}
use Rattle.pd_source.specs.Table.{Row, Guard, HardResetsLeft, Next, Stay, Same, To, SC, NC, SR, HR, sc, nc, holds, heard_of, table, among}
use Rattle.pd_source.specs.Table.{match_one, asks_offer, row_of, deeds_of_row}
use Rattle.pd_source.specs.Acts.{after, capabilities, all_after, all_wants}
use Rattle.pd_source.specs.Step.{before_row, row_at, deeds_at, stepped, acts_of, query_of, polls, decides, offer_query, fit_query}
use Rattle.pd_source.specs.Step.{row_query}
use Rattle.pd_source.proofs.Walk.{and-left, and-right, row_of-all}
use Rattle.pd_source.proofs.Answered.{state-before, row-same}
use Rattle.pd_source.proofs.SoundRows.{row_of-fit}

abbrev pub is_offering : State → Bool
is_offering state.SendCapabilities = true
is_offering t = false

-- ---- what waits

-- what acts leave to wait: what waited before, Source_Capabilities with these objects, or something else or nothing
pub data Left : Type 0 where
  Untouched : Left
  Capabilities : (objects : List ℕ) → Left
  Another : Left

abbrev pub left_by : List Act → Left → Left
left_by [] l = l
left_by (act.DropWaiting ∷ acts) l = left_by acts Another
left_by (act.Send (sending.SourceCapabilities objects) ∷ acts) l = left_by acts (Capabilities objects.items)
left_by (act.Send s ∷ acts) l = left_by acts Another
left_by (act.SendHardReset ∷ acts) l = left_by acts Another
left_by (a ∷ acts) l = left_by acts l

-- Where what waited before still does, the source is in the same state and makes the same offer, and where Source_Capabilities wait,
-- they are of the offer that is being made.
abbrev pub Offers : SourceSettings → SourceRecord → SourceRecord → Left → Type 0
Offers s old new Untouched = (new.state ≡ old.state) × (new.draft_offer ≡ old.draft_offer)
Offers s old new (Capabilities objects) =
    (is_offering new.state ≡ true) × (objects ≡ capabilities s.unconstrained s.supplies new.draft_offer)
Offers s old new Another = Unit {0}

IsAnother : Left → Type 0
IsAnother Another = Unit {0}
IsAnother l = ⊥

another : (s : SourceSettings) (old new : SourceRecord) (l : Left) → IsAnother l → Offers s old new l
unfolding IsAnother
another s old new Untouched h = absurd h
another s old new (Capabilities objects) h = absurd h
another s old new Another h = tt

-- Acts change the state and the offer that is being made only where they have dropped what waited, and send Source_Capabilities in
-- Send_Capabilities: by whether something else waits so far, and whether that state is entered.
abbrev careful : Bool → Bool → List Deed → Bool
careful gone at [] = true
careful gone at (deed.Enter t ∷ ds) = careful true (is_offering t) ds
careful gone at (deed.EnterAgain ∷ ds) = careful true at ds
careful gone at (deed.Draft ∷ ds) = gone && careful gone at ds
careful gone at (deed.Close ∷ ds) = gone && careful gone at ds
careful gone at (deed.Void ∷ ds) = gone && careful gone at ds
careful gone at (deed.Send message.SourceCapabilities ∷ ds) = at && careful false at ds
careful gone at (deed.Send m ∷ ds) = careful true at ds
careful gone at (deed.SendHardReset ∷ ds) = careful true at ds
careful gone at (d ∷ ds) = careful gone at ds

module _ (s : SourceSettings) (now : ℕ) (x : Stimulus) (a : Option Answer) (old : SourceRecord) where
  careful_acts : (ds : List Deed) (gone at : Bool) (r : SourceRecord) (l : Left) → careful gone at ds ≡ true → (gone ≡ true → IsAnother l) →
      (at ≡ true → is_offering r.state ≡ true) → Offers s old r l →
      Offers s old (all_after s ds now x a r) (left_by (all_wants s ds now x a r) l)
  unfolding IsAnother
  careful_acts [] gone at r l n f g h = h
  careful_acts (deed.Enter t ∷ ds) gone at r l n f g h =
      careful_acts ds true (is_offering t) (after s (deed.Enter t) now x a r) Another n (λ e. tt) (λ e. e) tt
  careful_acts (deed.EnterAgain ∷ ds) gone at r l n f g h =
      careful_acts ds true at (after s deed.EnterAgain now x a r) Another n (λ e. tt) g tt
  careful_acts (deed.Draft ∷ ds) gone at r l n f g h =
      let z = after s deed.Draft now x a r in
      careful_acts ds gone at z l (and-right gone (careful gone at ds) n) f g (another s old z l (f (and-left gone (careful gone at ds) n)))
  careful_acts (deed.Close ∷ ds) gone at r l n f g h =
      let z = after s deed.Close now x a r in
      careful_acts ds gone at z l (and-right gone (careful gone at ds) n) f g (another s old z l (f (and-left gone (careful gone at ds) n)))
  careful_acts (deed.Void ∷ ds) gone at r l n f g h =
      let z = after s deed.Void now x a r in
      careful_acts ds gone at z l (and-right gone (careful gone at ds) n) f g (another s old z l (f (and-left gone (careful gone at ds) n)))
  careful_acts (deed.Send message.SourceCapabilities ∷ ds) gone at r l n f g h =
      careful_acts ds false at r (Capabilities (capabilities s.unconstrained s.supplies r.draft_offer))
      (and-right at (careful false at ds) n)
      (λ e. absurd (cc)) g (g (and-left at (careful false at ds) n), refl)
  careful_acts (deed.Send m ∷ ds) gone at r l n f g h = careful_acts ds true at r Another n (λ e. tt) g tt
  careful_acts (deed.SendHardReset ∷ ds) gone at r l n f g h = careful_acts ds true at r Another n (λ e. tt) g tt
  careful_acts (d ∷ ds) gone at r l n f g h = careful_acts ds gone at (after s d now x a r) l n f g (by_left l h) where
    by_left : (l : Left) → Offers s old r l → Offers s old (after s d now x a r) l
    by_left Untouched h = h
    by_left (Capabilities objects) h = h
    by_left Another h = tt

-- ---- rows

-- of the guards, what a row does asks whether a Hard Reset is left
fixed : (g : Guard → Bool) (n : Next) (r : Row) →
    deeds_of_row g (record r { next = n }) ≡ deeds_of_row (λ w. g HardResetsLeft) (record r { next = n })
fixed g Stay r = refl
fixed g Same r = refl
fixed g (To t) r = refl
fixed g SC r = refl
fixed g NC r = refl
fixed g SR r = refl
fixed g HR r = refl

-- both ways
abbrev is_careful : Row → Bool
is_careful r = careful false false (deeds_of_row (λ g. true) r) && careful false false (deeds_of_row (λ g. false) r)

table_careful : list_all is_careful table ≡ true
table_careful = refl

chosen : (b : Bool) (r : Row) → is_careful r ≡ true → careful false false (deeds_of_row (λ g. b) r) ≡ true
chosen true r h = and-left (careful false false (deeds_of_row (λ g. true) r)) (careful false false (deeds_of_row (λ g. false) r)) h
chosen false r h = and-right (careful false false (deeds_of_row (λ g. true) r)) (careful false false (deeds_of_row (λ g. false) r)) h

row_careful : (g : Guard → Bool) (t : State) (h : Heard) → careful false false (deeds_of_row g (row_of g t h)) ≡ true
row_careful g t h =
    let w = row_of g t h in
    ap (careful false false) (fixed g w.next w) ∙ chosen (g HardResetsLeft) w (row_of-all is_careful g t h refl table_careful)

draft_before : (x : Stimulus) (r : SourceRecord) → (before_row x r).draft_offer ≡ r.draft_offer
draft_before (stimulus.Sent m) r = refl
draft_before (stimulus.Ended t) r = refl
draft_before x r = refl

-- so what waits stays of the offer that is being made
pub offers-stepped : (s : SourceSettings) (now : ℕ) (x : Stimulus) (a : Option Answer) (r : SourceRecord) →
    Offers s r (stepped s now x a r) (left_by (acts_of s now x a r) Untouched)
unfolding stepped acts_of
offers-stepped s now x a r =
    let z = before_row x r in
    careful_acts s now x a r (deeds_at s x a z) false false z Untouched (row_careful (holds s a z) z.state (heard_of x)) (λ e. absurd (cc))
    (λ e. absurd (cc)) (state-before x r, draft_before x r)

-- ---- the offer that is being made, in the state that sends one

abbrev changes : Deed → Bool
changes (deed.Enter t) = true
changes deed.Draft = true
changes deed.Close = true
changes deed.Void = true
changes d = false

-- acts that leave the state and the offer
abbrev leaves : List Deed → Bool
leaves [] = true
leaves (d ∷ ds) = not (changes d) && leaves ds

-- whether acts end in the state that sends an offer, from whether they begin in it
abbrev ends : Bool → List Deed → Bool
ends b [] = b
ends b (deed.Enter t ∷ ds) = ends (is_offering t) ds
ends b (d ∷ ds) = ends b ds

ends_false : (b : Bool) (ds : List Deed) → ends true ds ≡ false → ends b ds ≡ false
ends_false b [] h = absurd (cc)
ends_false b (deed.Enter t ∷ ds) h = h
ends_false b (d ∷ ds) h = ends_false b ds h

ends_state : (s : SourceSettings) (ds : List Deed) (now : ℕ) (x : Stimulus) (a : Option Answer) (r : SourceRecord) →
    is_offering (all_after s ds now x a r).state ≡ ends (is_offering r.state) ds
ends_state s [] now x a r = refl
ends_state s (deed.Enter t ∷ ds) now x a r = ends_state s ds now x a (after s (deed.Enter t) now x a r)
ends_state s (d ∷ ds) now x a r = ends_state s ds now x a (after s d now x a r)

-- both stay
record Stays (old new : SourceRecord) : Type 0 where
  state : new.state ≡ old.state
  draft : new.draft_offer ≡ old.draft_offer

leaves_all : (s : SourceSettings) (ds : List Deed) (now : ℕ) (x : Stimulus) (a : Option Answer) (r : SourceRecord) → leaves ds ≡ true →
    Stays r (all_after s ds now x a r)
leaves_all s [] now x a r n = record { state = refl; draft = refl }
leaves_all s (deed.Enter t ∷ ds) now x a r n = absurd (cc)
leaves_all s (deed.Draft ∷ ds) now x a r n = absurd (cc)
leaves_all s (deed.Close ∷ ds) now x a r n = absurd (cc)
leaves_all s (deed.Void ∷ ds) now x a r n = absurd (cc)
leaves_all s (d ∷ ds) now x a r n =
    let h = leaves_all s ds now x a (after s d now x a r) n in record { state = h.state; draft = h.draft }

-- a row that makes no offer leaves both, or leads to another state
abbrev is_apart : List Deed → Bool
is_apart ds = leaves ds || not (ends true ds)

abbrev is_no_offer : Row → Bool
is_no_offer r = asks_offer r.next || (is_apart (deeds_of_row (λ g. true) r) && is_apart (deeds_of_row (λ g. false) r))

table_no_offer : list_all is_no_offer table ≡ true
table_no_offer = refl

or-right : (b c : Bool) → b ≡ false → b || c ≡ true → c ≡ true
or-right true c e h = absurd (cc)
or-right false c e h = h

apart_by : (b : Bool) (r : Row) → is_apart (deeds_of_row (λ g. true) r) && is_apart (deeds_of_row (λ g. false) r) ≡ true →
    is_apart (deeds_of_row (λ g. b) r) ≡ true
apart_by true r h = and-left (is_apart (deeds_of_row (λ g. true) r)) (is_apart (deeds_of_row (λ g. false) r)) h
apart_by false r h = and-right (is_apart (deeds_of_row (λ g. true) r)) (is_apart (deeds_of_row (λ g. false) r)) h

row_apart : (g : Guard → Bool) (t : State) (h : Heard) → asks_offer (row_of g t h).next ≡ false
    → is_apart (deeds_of_row g (row_of g t h)) ≡ true
row_apart g t h n =
    let w = row_of g t h in
    ap is_apart (fixed g w.next w) ∙ apart_by (g HardResetsLeft) w
    (or-right (asks_offer w.next) _ n (row_of-all is_no_offer g t h refl table_no_offer))

pub not-not : (b : Bool) → not b ≡ true → b ≡ false
not-not true h = absurd (cc)
not-not false h = refl

never : {A : Type 0} (b : Bool) → b ≡ true → b ≡ false → A
never b h k = let e : true ≡ false = sym h ∙ k in absurd (cc)

by_apart : (s : SourceSettings) (ds : List Deed) (now : ℕ) (x : Stimulus) (a : Option Answer) (r : SourceRecord) (b : Bool)
    → leaves ds ≡ b → is_apart ds ≡ true → is_offering (all_after s ds now x a r).state ≡ true → Stays r (all_after s ds now x a r)
by_apart s ds now x a r true e k h = leaves_all s ds now x a r e
by_apart s ds now x a r false e k h =
    let n : ends true ds ≡ false = not-not (ends true ds) (or-right (leaves ds) (not (ends true ds)) e k) in
    never (is_offering (all_after s ds now x a r).state) h (ends_state s ds now x a r ∙ ends_false (is_offering r.state) ds n)

-- a row that makes one has the offer of the answer
drafts : (s : SourceSettings) (ds : List Deed) (now : ℕ) (x : Stimulus) (currents : ArrayVec ℕ) (r : SourceRecord) →
    (all_after s (ds ++ sc) now x (Some (answer.Offer currents)) r).draft_offer ≡ currents.items
drafts s [] now x currents r = refl
drafts s (d ∷ ds) now x currents r = drafts s ds now x currents (after s d now x (Some (answer.Offer currents)) r)

drafts_by : (s : SourceSettings) (g : Guard → Bool) (n : Next) (w : Row) (now : ℕ) (x : Stimulus) (currents : ArrayVec ℕ) (r : SourceRecord)
    → asks_offer n ≡ true
    → (all_after s (deeds_of_row g (record w { next = n })) now x (Some (answer.Offer currents)) r).draft_offer ≡ currents.items
drafts_by s g SC w now x currents r h = drafts s w.deeds now x currents r
drafts_by s g NC w now x currents r h = drafts_nc w.deeds r where
  drafts_nc : (ds : List Deed) (r : SourceRecord) →
      (all_after s (ds ++ nc) now x (Some (answer.Offer currents)) r).draft_offer ≡ currents.items
  drafts_nc [] r = refl
  drafts_nc (d ∷ ds) r = drafts_nc ds (after s d now x (Some (answer.Offer currents)) r)
drafts_by s g n w now x currents r h = absurd (cc)

abbrev pub is_offer_query : Option Query → Bool
is_offer_query (Some (query.Offer supplies limit)) = true
is_offer_query q = false

-- In the state that sends an offer, after a step that asked for one it is the one that was answered, and after another it is as before.
pub record Drafts (q : Option Query) (a : Option Answer) (old new : SourceRecord) : Type 0 where
  pub answered : (currents : ArrayVec ℕ) → is_offer_query q ≡ true → a ≡ Some (answer.Offer currents) → new.draft_offer ≡ currents.items
  pub stays : is_offer_query q ≡ false → (is_offering old.state ≡ true) × (new.draft_offer ≡ old.draft_offer)

poll_state : (t : State) (h : Heard) → polls t h ≡ true → is_offering t ≡ false
poll_state state.SendCapabilities h e = absurd (cc)
poll_state t h e = refl

decide_state : (t : State) (h : Heard) → decides t h ≡ true → is_offering t ≡ false
decide_state state.SendCapabilities h e = absurd (cc)
decide_state t h e = refl

-- by whether the row makes an offer
module _ (s : SourceSettings) (now : ℕ) (x : Stimulus) (a : Option Answer) (z : SourceRecord) where
  answered_by : asks_offer (row_at s x a z).next ≡ true → (currents : ArrayVec ℕ) → a ≡ Some (answer.Offer currents) →
      (all_after s (deeds_at s x a z) now x a z).draft_offer ≡ currents.items
  answered_by h currents e =
      let w = row_at s x a z in
      let ds = deeds_at s x a z in
      ap (λ b. (all_after s ds now x b z).draft_offer) e ∙ drafts_by s (holds s a z) w.next w now x currents z h

  stays_by : asks_offer (row_at s x a z).next ≡ false → is_offering (all_after s (deeds_at s x a z) now x a z).state ≡ true →
      Stays z (all_after s (deeds_at s x a z) now x a z)
  stays_by h e =
      let ds = deeds_at s x a z in
      by_apart s ds now x a z (leaves ds) refl (row_apart (holds s a z) z.state (heard_of x) h) e

  pub not_from : {A : Type 0} → asks_offer (row_at s x a z).next ≡ false → is_offering z.state ≡ false →
      is_offering (all_after s (deeds_at s x a z) now x a z).state ≡ true → A
  not_from h n e = never (is_offering z.state) (ap is_offering (sym (stays_by h e).state) ∙ e) n

  drafted_poll : (b : Bool) → asks_offer (row_at s x a z).next ≡ b → is_offering z.state ≡ false →
      is_offering (all_after s (deeds_at s x a z) now x a z).state ≡ true → (currents : ArrayVec ℕ) → a ≡ Some (answer.Offer currents) →
      (all_after s (deeds_at s x a z) now x a z).draft_offer ≡ currents.items
  drafted_poll true h n e currents f = answered_by h currents f
  drafted_poll false h n e currents f = not_from h n e

decides_none : (t : State) (h : Heard) → decides t h ≡ true →
    list_all (λ r. not (asks_offer r.next) || not (among t r.states && match_one h r.cues)) table ≡ true
decides_none state.NegotiateCapability h e = refl
decides_none t h e = absurd (cc)

row_offer : (b : Bool) (q : Query) → is_offer_query (Some q) ≡ true → is_offer_query (if b then Some q else None) ≡ b
row_offer true q h = h
row_offer false q h = refl

drafted_row : (s : SourceSettings) (now : ℕ) (x : Stimulus) (a : Option Answer) (r z : SourceRecord) (b : Bool) →
    asks_offer (row_at s x a z).next ≡ b → asks_offer (row_at s x None z).next ≡ b → z.state ≡ r.state → z.draft_offer ≡ r.draft_offer →
    let new = all_after s (deeds_at s x a z) now x a z in is_offering new.state ≡ true → Drafts (row_query s x z) a r new
drafted_row s now x a r z true m n e f h =
    let some : is_offer_query (row_query s x z) ≡ true = row_offer (asks_offer (row_at s x None z).next) _ refl ∙ n in
    record {
      answered = λ currents o g. answered_by s now x a z m currents g;
      stays = λ o. never (is_offer_query (row_query s x z)) some o;
    }
drafted_row s now x a r z false m n e f h =
    let none : is_offer_query (row_query s x z) ≡ false = row_offer (asks_offer (row_at s x None z).next) _ refl ∙ n in
    let k = stays_by s now x a z m h in
    record {
      answered = λ currents o g. never (is_offer_query (row_query s x z)) o none;
      stays = λ o. (ap is_offering (sym e ∙ sym k.state) ∙ h, k.draft ∙ f);
    }

drafted_cases : (s : SourceSettings) (now : ℕ) (x : Stimulus) (a : Option Answer) (r : SourceRecord) (b c : Bool) →
    polls r.state (heard_of x) ≡ b → decides r.state (heard_of x) ≡ c →
    let z = before_row x r in let new = all_after s (deeds_at s x a z) now x a z in
    is_offering new.state ≡ true →
    Drafts (if b then Some (offer_query s r.limit) else (if c then fit_query s r else row_query s x z)) a r new
drafted_cases s now x a r true c p d h =
    let z = before_row x r in
    let n : is_offering z.state ≡ false = ap is_offering (state-before x r) ∙ poll_state r.state (heard_of x) p in
    record {
      answered = λ currents e f. drafted_poll s now x a z (asks_offer (row_at s x a z).next) refl n h currents f;
      stays = λ e. absurd (cc);
    }
drafted_cases s now x a r false true p d h =
    let z = before_row x r in
    let n : is_offering z.state ≡ false = ap is_offering (state-before x r) ∙ decide_state r.state (heard_of x) d in
    let f : asks_offer (row_at s x a z).next ≡ false =
    not-not (asks_offer (row_at s x a z).next)
    (row_of-fit (λ w. not (asks_offer w.next)) (holds s a z) z.state (heard_of x) refl
    (decides_none z.state (heard_of x) (ap (λ t. decides t (heard_of x)) (state-before x r) ∙ d))) in
    not_from s now x a z f n h
drafted_cases s now x a r false false p d h =
    let z = before_row x r in
    let u : polls z.state (heard_of x) ≡ false = ap (λ t. polls t (heard_of x)) (state-before x r) ∙ p in
    let v : decides z.state (heard_of x) ≡ false = ap (λ t. decides t (heard_of x)) (state-before x r) ∙ d in
    let same : row_at s x None z ≡ row_at s x a z = row-same s None a z z.state (heard_of x) u v in
    drafted_row s now x a r z (asks_offer (row_at s x a z).next) refl (ap (λ (w : Row). asks_offer w.next) same) (state-before x r)
    (draft_before x r) h

pub drafts-stepped : (s : SourceSettings) (now : ℕ) (x : Stimulus) (a : Option Answer) (r : SourceRecord) →
    is_offering (stepped s now x a r).state ≡ true → Drafts (query_of s x r) a r (stepped s now x a r)
unfolding stepped query_of
drafts-stepped s now x a r h = drafted_cases s now x a r (polls r.state (heard_of x)) (decides r.state (heard_of x)) refl refl h

-- a source that sheds makes no offer
table_shed : (t : State) → list_all (λ r. not (asks_offer r.next) || not (among t r.states && match_one heard.Shed r.cues)) table ≡ true
table_shed state.Off = refl
table_shed t = refl

pub drafts-shed : (s : SourceSettings) (now : ℕ) (r : SourceRecord) → let new = stepped s now stimulus.Shed None r in
    is_offering new.state ≡ true → (is_offering r.state ≡ true) × (new.draft_offer ≡ r.draft_offer)
unfolding stepped
drafts-shed s now r h =
    let n : asks_offer (row_at s stimulus.Shed None r).next ≡ false =
    not-not (asks_offer (row_at s stimulus.Shed None r).next)
    (row_of-fit (λ w. not (asks_offer w.next)) (holds s None r) r.state heard.Shed refl (table_shed r.state)) in
    let k = stays_by s now stimulus.Shed None r n h in
    (ap is_offering (sym k.state) ∙ h, k.draft)
