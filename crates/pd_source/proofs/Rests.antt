-- A source at rest holds nothing, and one that sheds holds the floor alone.
use Rattle.std.proofs.Common.{◌≡◌, ℕ, Bool, true, false, not, ◌&&◌, ◌||◌, max, fold, is_some, if◌then◌else◌, List, [], ◌∷◌, ◌++◌, take}
use Rattle.std.proofs.Common.{drop, Option, Some, None, refl, sym, ap, ◌∙◌, subst}
use Rattle.std.specs.List.{list_all}
use Rattle.pd_objects.specs.declared.contract.Contract.{Contract}
use Rattle.pd_objects.specs.declared.query.Answer.{Answer}
use Rattle.pd_timers.specs.declared.Timer.TheVariants as timer
use Rattle.pd_source.specs.declared.kinds.State.{State}
use Rattle.pd_source.specs.declared.kinds.State.TheVariants as state
use Rattle.pd_source.specs.declared.kinds.Stimulus.{Stimulus}
use Rattle.pd_source.specs.declared.kinds.Stimulus.TheVariants as stimulus
use Rattle.pd_source.specs.declared.kinds.Heard.{Heard}
use Rattle.pd_source.specs.declared.kinds.Heard.TheVariants as heard
use Rattle.pd_source.specs.declared.kinds.Deed.{Deed}
use Rattle.pd_source.specs.declared.kinds.Deed.TheVariants as deed
use Rattle.pd_source.specs.Record.{SourceSettings, SourceRecord, off}
use Rattle.pd_source.specs.Table.{Row, row, Guard, Always, HasContract, HardResetsLeft, To, SR, Failed, among, match_one, first, table}
use Rattle.pd_source.specs.Table.{anything_else, row_of, hr, deeds_of_row, holds, heard_of}
use Rattle.pd_source.specs.Acts.{after, all_after}
use Rattle.pd_source.specs.Step.{before_row, deeds_at, stepped, hold_of, powers, contracted, requested}
use Rattle.pd_source.proofs.Walk.{and-left, and-right}
use Rattle.pd_source.proofs.SoundRows.{fixed, row_of-fit}
use Rattle.pd_source.proofs.Holds.{hold_of-off}
use Rattle.pd_source.specs.Rest.{is_at_rest, HoldsNothing, IsEmptyAtRest}

-- Whether a source is empty at rest after these acts: whether it is at rest, and whether it is known that nothing is
-- offered anew, accepted and agreed on, before them.
abbrev ends : Bool → Bool → Bool → Bool → List Deed → Bool
ends rest draft accepted contract [] = not rest || (draft && (accepted && contract))
ends rest draft accepted contract (deed.Enter t ∷ ds) = ends (is_at_rest t) draft accepted contract ds
ends rest draft accepted contract (deed.Draft ∷ ds) = ends rest false accepted contract ds
ends rest draft accepted contract (deed.Close ∷ ds) = ends rest true true contract ds
ends rest draft accepted contract (deed.Take ∷ ds) = ends rest draft false contract ds
ends rest draft accepted contract (deed.Commit ∷ ds) = ends rest draft true false ds
ends rest draft accepted contract (deed.Void ∷ ds) = ends rest true true true ds
ends rest draft accepted contract (_ ∷ ds) = ends rest draft accepted contract ds

-- what is known is so
record AreSo (rest no_draft none_accepted no_contract : Bool) (r : SourceRecord) : Type 0 where
  rest_is : is_at_rest r.state ≡ rest
  draft : no_draft ≡ true → r.draft_offer ≡ []
  accepted : none_accepted ≡ true → r.accepted_request ≡ None
  contract : no_contract ≡ true → r.contract ≡ None

no : {A : Type 0} → false ≡ true → A
no h = absurd (cc)

at_end : (rest d a c : Bool) (r : SourceRecord) → not rest || (d && (a && c)) ≡ true → AreSo rest d a c r → rest ≡ true → HoldsNothing r
at_end false d a c r h f e = no e
at_end true d a c r h f e =
    record {
      draft = f.draft (and-left d (a && c) h);
      accepted = f.accepted (and-left a c (and-right d (a && c) h));
      contract = f.contract (and-right a c (and-right d (a && c) h));
    }

walk : (s : SourceSettings) (ds : List Deed) (now : ℕ) (x : Stimulus) (given : Option Answer) (r : SourceRecord) (rest d a c : Bool) →
    ends rest d a c ds ≡ true → AreSo rest d a c r → IsEmptyAtRest (all_after s ds now x given r)
walk s [] now x given r rest d a c h f = λ e. at_end rest d a c r h f (sym f.rest_is ∙ e)
walk s (deed.Enter t ∷ ds) now x given r rest d a c h f =
    walk s ds now x given (after s (deed.Enter t) now x given r) (is_at_rest t) d a c h
    (record { rest_is = refl; draft = f.draft; accepted = f.accepted; contract = f.contract })
walk s (deed.Draft ∷ ds) now x given r rest d a c h f =
    walk s ds now x given (after s deed.Draft now x given r) rest false a c h
    (record { rest_is = f.rest_is; draft = λ e. no e; accepted = f.accepted; contract = f.contract })
walk s (deed.Close ∷ ds) now x given r rest d a c h f =
    walk s ds now x given (after s deed.Close now x given r) rest true true c h
    (record { rest_is = f.rest_is; draft = λ e. refl; accepted = λ e. refl; contract = f.contract })
walk s (deed.Take ∷ ds) now x given r rest d a c h f =
    walk s ds now x given (after s deed.Take now x given r) rest d false c h
    (record { rest_is = f.rest_is; draft = f.draft; accepted = λ e. no e; contract = f.contract })
walk s (deed.Commit ∷ ds) now x given r rest d a c h f =
    walk s ds now x given (after s deed.Commit now x given r) rest d true false h
    (record { rest_is = f.rest_is; draft = f.draft; accepted = λ e. refl; contract = λ e. no e })
walk s (deed.Void ∷ ds) now x given r rest d a c h f =
    walk s ds now x given (after s deed.Void now x given r) rest true true true h
    (record { rest_is = f.rest_is; draft = λ e. refl; accepted = λ e. refl; contract = λ e. refl })
walk s (e ∷ ds) now x given r rest d a c h f =
    walk s ds now x given (after s e now x given r) rest d a c h
    (record { rest_is = f.rest_is; draft = f.draft; accepted = f.accepted; contract = f.contract })

-- each row leaves a source empty at rest, whether or not there is a contract; row 13, into Discovery, where there is none
abbrev is_fair : State → Bool → Row → Bool
is_fair t none w =
    let rest = is_at_rest t in
    ends rest rest rest (rest || none) (deeds_of_row (λ g. true) w) && ends rest rest rest (rest || none) (deeds_of_row (λ g. false) w)

abbrev all_fair : State → Bool → Heard → List Row → Bool
all_fair t none h rows = list_all (λ r. is_fair t none r || not (among t r.states && match_one h r.cues)) rows

else-fair : (t : State) (none : Bool) → is_fair t none anything_else ≡ true
else-fair state.Off none = refl
else-fair _ none = refl

without-contract : (t : State) (h : Heard) → all_fair t true h table ≡ true
without-contract state.Off h = refl
without-contract _ h = refl

before-12 : (t : State) (h : Heard) → all_fair t false h (take 11 table) ≡ true
before-12 state.Off h = refl
before-12 _ h = refl

after-13 : (t : State) (h : Heard) → all_fair t false h (drop 13 table) ≡ true
after-13 state.Off h = refl
after-13 _ h = refl

-- the first row that fits, and where none of these does, one that comes later
pick : (p : Row → Bool) (m c : Bool) (r q : Row) → p r || not m ≡ true → p q ≡ true → p (if (m && c) then r else q) ≡ true
pick p true true r q h k = or-false (p r) h where
  or-false : (b : Bool) → b || false ≡ true → b ≡ true
  or-false true h = refl
  or-false false h = h
pick p true false r q h k = k
pick p false c r q h k = k

or-later : (t : State) (none : Bool) (g : Guard → Bool) (h : Heard) (rows more : List Row) → all_fair t none h rows ≡ true →
    is_fair t none (first g t h more) ≡ true → is_fair t none (first g t h (rows ++ more)) ≡ true
or-later t none g h [] more all k = k
or-later t none g h (r ∷ rs) more all k =
    let u = is_fair t none r || not (among t r.states && match_one h r.cues) in
    pick (is_fair t none) (among t r.states && match_one h r.cues) (g r.guard) r (first g t h (rs ++ more))
    (and-left u (all_fair t none h rs) all)
    (or-later t none g h rs more (and-right u (all_fair t none h rs) all) k)

abbrev row_12 : Row
row_12 = row 12 (state.SendCapabilities ∷ []) (Failed ∷ []) HasContract SR []

abbrev row_13 : Row
row_13 = row 13 (state.SendCapabilities ∷ []) (Failed ∷ []) Always (To state.Discovery)
    (deed.Close ∷ deed.Start timer.SourceCapability ∷ [])

-- where there is a contract, row 12 is taken in place of row 13
one-of-two : (p : Row → Bool) (m c d : Bool) (q : Row) → c ≡ true → p row_12 ≡ true → p q ≡ true →
    p (if (m && c) then row_12 else (if (m && d) then row_13 else q)) ≡ true
one-of-two p true true d q e h k = h
one-of-two p true false d q e h k = no e
one-of-two p false c d q e h k = k

with-contract : (t : State) (g : Guard → Bool) (h : Heard) → g HasContract ≡ true → is_fair t false (row_of g t h) ≡ true
unfolding row_of
with-contract t g h e =
    or-later t false g h (take 11 table) (row_12 ∷ row_13 ∷ drop 13 table) (before-12 t h)
    (one-of-two (is_fair t false) (among t (state.SendCapabilities ∷ []) && match_one h (Failed ∷ [])) (g HasContract) (g Always)
    (first g t h (drop 13 table)) e refl
    (or-later t false g h (drop 13 table) [] (after-13 t h) (else-fair t false)))

row-fair : (b : Bool) (t : State) (g : Guard → Bool) (h : Heard) → g HasContract ≡ b → is_fair t (not b) (row_of g t h) ≡ true
row-fair true t g h e = with-contract t g h e
row-fair false t g h e = row_of-fit (is_fair t true) g t h (else-fair t true) (without-contract t h)

by-left : (rest c b : Bool) (w : Row) →
    ends rest rest rest c (deeds_of_row (λ g. true) w) && ends rest rest rest c (deeds_of_row (λ g. false) w) ≡ true →
    ends rest rest rest c (deeds_of_row (λ g. b) w) ≡ true
by-left rest c true w h = and-left _ (ends rest rest rest c (deeds_of_row (λ g. false) w)) h
by-left rest c false w h = and-right (ends rest rest rest c (deeds_of_row (λ g. true) w)) _ h

row-ends : (t : State) (g : Guard → Bool) (h : Heard) →
    ends (is_at_rest t) (is_at_rest t) (is_at_rest t) (is_at_rest t || not (g HasContract)) (deeds_of_row g (row_of g t h)) ≡ true
row-ends t g h =
    let rest = is_at_rest t in
    let w = row_of g t h in
    ap (λ (ds : List Deed). ends rest rest rest (rest || not (g HasContract)) ds) (fixed g w.next w)
    ∙ by-left rest (rest || not (g HasContract)) (g HardResetsLeft) w (row-fair (g HasContract) t g h refl)

empty-before : (x : Stimulus) (r : SourceRecord) → IsEmptyAtRest r → IsEmptyAtRest (before_row x r)
empty-before (stimulus.Sent m) r h = λ e. let n = h e in record { draft = n.draft; accepted = n.accepted; contract = n.contract }
empty-before (stimulus.Ended t) r h = λ e. let n = h e in record { draft = n.draft; accepted = n.accepted; contract = n.contract }
empty-before _ r h = h

no_contract : (rest : Bool) (c : Option Contract) → (rest ≡ true → c ≡ None) → rest || not (is_some c) ≡ true → c ≡ None
no_contract true c h e = h refl
no_contract false None h e = refl
no_contract false (Some c) h e = no e

-- a step leaves a source empty at rest
pub empty-stepped : (s : SourceSettings) (now : ℕ) (x : Stimulus) (a : Option Answer) (r : SourceRecord) → IsEmptyAtRest r →
    IsEmptyAtRest (stepped s now x a r)
unfolding stepped
empty-stepped s now x a r h =
    let z = before_row x r in
    let i = empty-before x r h in
    let rest = is_at_rest z.state in
    walk s (deeds_at s x a z) now x a z rest rest rest (rest || not (is_some z.contract)) (row-ends z.state (holds s a z) (heard_of x))
    (record {
      rest_is = refl;
      draft = λ e. (i e).draft;
      accepted = λ e. (i e).accepted;
      contract = no_contract rest z.contract (λ e. (i e).contract);
    })

pub empty-off : (s : SourceSettings) → IsEmptyAtRest (off s)
empty-off s e = record { draft = refl; accepted = refl; contract = refl }

-- what sheds: a hard reset in all states but Off and Disabled
pub shed-deeds : (s : SourceSettings) (r : SourceRecord) (t : State) →
    deeds_of_row (holds s None r) (row_of (holds s None r) t heard.Shed) ≡ (if among t (state.Off ∷ state.Disabled ∷ []) then [] else hr
    (holds s None r HardResetsLeft))
unfolding row_of
shed-deeds s r state.Off = refl
shed-deeds s r _ = refl

pub off-rests : (t : State) → among t (state.Off ∷ state.Disabled ∷ []) ≡ true → is_at_rest t ≡ true
off-rests state.Off e = refl
off-rests state.Disabled e = refl
off-rests _ e = no e

shed-after : (s : SourceSettings) (now : ℕ) (r : SourceRecord) (b c : Bool) → (b ≡ true → HoldsNothing r) →
    HoldsNothing (all_after s (if b then [] else hr c) now stimulus.Shed None r)
shed-after s now r true c h = h refl
shed-after s now r false true h = record { draft = refl; accepted = refl; contract = refl }
shed-after s now r false false h = record { draft = refl; accepted = refl; contract = refl }

shed-empty : (s : SourceSettings) (now : ℕ) (r : SourceRecord) → IsEmptyAtRest r → HoldsNothing (stepped s now stimulus.Shed None r)
unfolding stepped
shed-empty s now r h =
    subst (λ (ds : List Deed). HoldsNothing (all_after s ds now stimulus.Shed None r)) (sym (shed-deeds s r r.state))
    (shed-after s now r (among r.state (state.Off ∷ state.Disabled ∷ [])) (holds s None r HardResetsLeft) (λ e. h (off-rests r.state e)))

hold_of-parts : (s : SourceSettings) (floor : ℕ) (c : Option Contract) (q : Option ℕ) (offer : List ℕ) → c ≡ None → q ≡ None → offer ≡ [] →
    fold max floor (contracted c ∷ requested s q ∷ powers s.supplies offer) ≡ floor
unfolding hold_of
hold_of-parts s floor c q offer ec eq eo =
    ap (λ (c : Option Contract). fold max floor (contracted c ∷ requested s q ∷ powers s.supplies offer)) ec
    ∙ ap (λ (q : Option ℕ). fold max floor (contracted None ∷ requested s q ∷ powers s.supplies offer)) eq
    ∙ ap (λ (offer : List ℕ). fold max floor (contracted None ∷ requested s None ∷ powers s.supplies offer)) eo
    ∙ hold_of-off s floor

-- what holds nothing holds the floor
pub hold_of-nothing : (s : SourceSettings) (floor : ℕ) (r : SourceRecord) → HoldsNothing r → hold_of s floor r ≡ floor
unfolding hold_of
hold_of-nothing s floor r h = hold_of-parts s floor r.contract r.accepted_request r.draft_offer h.contract h.accepted h.draft

-- what is shed falls to the floor
pub hold_of-shed : (s : SourceSettings) (floor now : ℕ) (r : SourceRecord) → IsEmptyAtRest r →
    hold_of s floor (stepped s now stimulus.Shed None r) ≡ floor
hold_of-shed s floor now r h = hold_of-nothing s floor (stepped s now stimulus.Shed None r) (shed-empty s now r h)
