-- Each row of the table leaves what holds of the record.
use Rattle.std.proofs.Common.{◌≡◌, Bool, true, false, not, ◌&&◌, ◌||◌, if◌then◌else◌, List, [], ◌∷◌, refl, ap, ◌∙◌}
use Rattle.std.specs.List.{list_all}
use Rattle.pd_source.specs.declared.kinds.State.{State}
use Rattle.pd_source.specs.declared.kinds.State.TheVariants as state
use Rattle.pd_source.specs.declared.kinds.Heard.{Heard}
use Rattle.pd_source.specs.declared.kinds.Deed.{Deed}
use Rattle.pd_source.specs.Table.{Row, Guard, RequestInvalid, Fits, HardResetsLeft, Next, Stay, table, anything_else, all_states, first}
use Rattle.pd_source.specs.Table.{among, match_one, row_of, deeds_of_row}
use Rattle.pd_source.specs.Step.{decides}
use Rattle.pd_source.specs.Sound.{is_early, is_transition}
use Rattle.pd_source.proofs.Walk.{and-left, and-right, row_of-all}
use Rattle.pd_source.proofs.Answered.{rejected}
use Rattle.pd_source.proofs.SoundActs.{keeps, implied}

-- each row of the table is so, from each of its states
abbrev pub is_fits : Guard → Bool
is_fits Fits = true
is_fits _ = false

abbrev row_keeps : State → Row → Bool → Bool
row_keeps t r b = keeps t (is_transition t) (is_early t) (is_fits r.guard) (deeds_of_row (λ g. b) r)

abbrev is_fair : State → Row → Bool
is_fair t r = not (among t r.states) || (row_keeps t r true && row_keeps t r false)

table-fair : (t : State) → list_all (is_fair t) table ≡ true
table-fair state.Off = refl
table-fair _ = refl

else-fair : (t : State) → is_fair t anything_else ≡ true
else-fair state.Off = refl
else-fair _ = refl

among-all : (t : State) → among t all_states ≡ true
among-all state.Off = refl
among-all _ = refl

among-if : (t : State) (m c : Bool) (r q : Row) → (m ≡ true → among t r.states ≡ true) → among t q.states ≡ true →
    among t (if (m && c) then r else q).states ≡ true
among-if t true true r q h k = h refl
among-if t true false r q h k = k
among-if t false c r q h k = k

first-among : (g : Guard → Bool) (t : State) (h : Heard) (rows : List Row) → among t (first g t h rows).states ≡ true
first-among g t h [] = among-all t
first-among g t h (r ∷ rs) =
    among-if t (among t r.states && match_one h r.cues) (g r.guard) r (first g t h rs)
    (λ e. and-left (among t r.states) (match_one h r.cues) e) (first-among g t h rs)

row_of-among : (g : Guard → Bool) (t : State) (h : Heard) → among t (row_of g t h).states ≡ true
unfolding row_of
row_of-among g t h = first-among g t h table

-- HR asks one guard alone
pub fixed : (g : Guard → Bool) (n : Next) (r : Row) →
    deeds_of_row g (record r { next = n }) ≡ deeds_of_row (λ w. g HardResetsLeft) (record r { next = n })
fixed g Stay r = refl
fixed g _ r = refl

by-left : (t : State) (r : Row) (b : Bool) → row_keeps t r true && row_keeps t r false ≡ true → row_keeps t r b ≡ true
by-left t r true h = and-left (row_keeps t r true) (row_keeps t r false) h
by-left t r false h = and-right (row_keeps t r true) (row_keeps t r false) h

pub row-kept : (g : Guard → Bool) (t : State) (h : Heard) →
    keeps t (is_transition t) (is_early t) (is_fits (row_of g t h).guard) (deeds_of_row g (row_of g t h)) ≡ true
row-kept g t h =
    let w = row_of g t h in
    let f = implied (among t w.states) (row_keeps t w true && row_keeps t w false)
    (row_of-all (is_fair t) g t h (else-fair t) (table-fair t)) (row_of-among g t h) in
    ap (λ (ds : List Deed). keeps t (is_transition t) (is_early t) (is_fits w.guard) ds) (fixed g w.next w)
    ∙ by-left t w (g HardResetsLeft) f

-- where a request is accepted it is valid
pick : (p : Row → Bool) (m c : Bool) (r q : Row) → p r || not m ≡ true → p q ≡ true → p (if (m && c) then r else q) ≡ true
pick p true true r q h k = or-false (p r) h where
  or-false : (b : Bool) → b || false ≡ true → b ≡ true
  or-false true h = refl
  or-false false h = h
pick p true false r q h k = k
pick p false c r q h k = k

first-fit : (p : Row → Bool) (g : Guard → Bool) (t : State) (h : Heard) (rows : List Row) → p anything_else ≡ true →
    list_all (λ r. p r || not (among t r.states && match_one h r.cues)) rows ≡ true → p (first g t h rows) ≡ true
first-fit p g t h [] e all = e
first-fit p g t h (r ∷ rs) e all =
    let u = p r || not (among t r.states && match_one h r.cues) in
    let v = list_all (λ r. p r || not (among t r.states && match_one h r.cues)) rs in
    pick p (among t r.states && match_one h r.cues) (g r.guard) r (first g t h rs) (and-left u v all)
    (first-fit p g t h rs e (and-right u v all))

pub row_of-fit : (p : Row → Bool) (g : Guard → Bool) (t : State) (h : Heard) → p anything_else ≡ true →
    list_all (λ r. p r || not (among t r.states && match_one h r.cues)) table ≡ true → p (row_of g t h) ≡ true
unfolding row_of
row_of-fit p g t h e all = first-fit p g t h table e all

decided : (b : Bool) → (b || not b) && true ≡ true
decided true = refl
decided false = refl

fits-decides : (g : Guard → Bool) (t : State) (h : Heard) → not (is_fits (row_of g t h).guard) || decides t h ≡ true
fits-decides g t h =
    row_of-fit (λ r. not (is_fits r.guard) || decides t h) g t h refl (decided (decides t h))

pub valid-fits : (g : Guard → Bool) (t : State) (h : Heard) (v : Bool) → g RequestInvalid ≡ not v → is_fits (row_of g t h).guard ≡ true →
    v ≡ true
valid-fits g t h true i f = refl
valid-fits g t h false i f =
    let d = implied (is_fits (row_of g t h).guard) (decides t h) (fits-decides g t h) f in
    let e = ap (λ (w : Row). is_fits w.guard) (rejected g i t h d) in
    absurd (cc)
